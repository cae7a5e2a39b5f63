use Rattle.std.proofs.Common.{◌-◌, length, sym}
use Rattle.std.proofs.lemmas.Bool.{ltb-true}
use Rattle.session_text.proofs.ScriptNumbers.{script-number}
use Rattle.session_text.proofs.entries.script_number.Goals as goal

pub returns-in-Some : goal.returns-in-Some
returns-in-Some c =
    script-number c.args.steady.now c.args.pid c.in-Some.script.now c.if-pid-eq0.false
    (ltb-true (c.args.pid - 1) (length c.args.steady.now) (sym c.in-Some.ensures.lookup.0)) c.in-Some.ensures.lookup.1
