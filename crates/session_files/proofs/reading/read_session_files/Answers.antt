use Rattle.session_files.proofs.Sessions.{done, stopped, unread}
use Rattle.session_files.proofs.reading.read_session_files.Goals as goal

pub returns-in-Ok-modules_given : goal.returns-in-Ok-modules_given
returns-in-Ok-modules_given g c =
    let e = c.in-Ok.ensures.read in
    record {
      read = done c.args.file.now e.0 _ _ _ (record { session = c.in-Ok.session; modules = c.in-Ok-modules_given.modules }) e.1 e.2 c.in-Ok.ensures.known c.in-Ok-modules_given.ensures.done
          c.in-Ok-modules_given.ensures.whole c.in-Ok-modules_given.ensures.count;
    }

pub returns-in-Err-modules_given : goal.returns-in-Err-modules_given
returns-in-Err-modules_given g c =
    let e = c.in-Ok.ensures.read in
    record { read = stopped c.args.file.now e.0 c.in-Ok.session _ _ _ c.in-Err-modules_given.why e.1 e.2 c.in-Err-modules_given.ensures.done }

pub returns-in-Err : goal.returns-in-Err
returns-in-Err g c = let e = c.in-Err.ensures.read in record { read = unread c.args.file.now e.0 _ _ c.in-Err.why e.1 e.2 }
