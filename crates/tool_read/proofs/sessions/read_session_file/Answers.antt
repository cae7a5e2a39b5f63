use Rattle.answer_model.specs.Items.{session, session_file}
use Rattle.tool_read.proofs.Readers.{err_read, ok_read}
use Rattle.tool_read.proofs.sessions.read_session_file.Goals as goal

pub returns-in-Ok-session : goal.returns-in-Ok-session
returns-in-Ok-session g c =
    ok_read session_file c.args.name.now _ c.in-Ok.bytes.items c.deref.result.now (c.in-Ok.ensures.opened session_file) c.in-Ok.ensures.short c.deref.ensures.value (session c.in-Ok-session.session) c.in-Ok-session.ensures

pub returns-in-Err-session : goal.returns-in-Err-session
returns-in-Err-session g c =
    err_read session_file c.args.name.now _ c.in-Ok.bytes.items c.deref.result.now (c.in-Ok.ensures.opened session_file) c.in-Ok.ensures.short c.deref.ensures.value c.in-Err-session.why c.told.result c.in-Err-session.ensures c.told.ensures

pub returns-in-Err : goal.returns-in-Err
returns-in-Err g c = c.in-Err.ensures.opened session_file
