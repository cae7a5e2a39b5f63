-- What noting a call adds to a log of files.
use Rattle.std.specs.Prelude.{List, [], ◌∷◌, ◌++◌}
use Rattle.lx_ports.specs.Calls.{Call, load, save, load_answer}
use Rattle.lx_ports.specs.declared.log.Note.{Note}
use Rattle.lx_ports.specs.declared.log.Note.TheVariants as note

abbrev pub call_of : Note → Call
call_of (note.Load name answer) = load name.now (load_answer answer.now)
call_of (note.Save name bytes answer) = save name.now bytes.now answer.now

abbrev pub with_call : List Call → Note → List Call
with_call calls added = calls ++ call_of added ∷ []
