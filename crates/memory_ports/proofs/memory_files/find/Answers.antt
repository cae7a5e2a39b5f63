use Rattle.std.proofs.Common.{sym, ◌∙◌}
use Rattle.memory_ports.proofs.Entries.{held-none, held-place}
use Rattle.memory_ports.proofs.memory_files.find.Goals as goal

pub returns-in_err-place : goal.returns-in_err-place
returns-in_err-place c = rw c.from_residual.ensures (sym (held-none c.args.name.now c.args.entries.now (sym c.place_of.ensures ∙ c.in_err-place.was)))

pub returns : goal.returns
returns c =
    rw c.deref.ensures.value
    (sym (held-place c.args.name.now c.args.entries.now c.in_ok-place.place c.index-entries-place.result (sym c.place_of.ensures ∙ c.in_ok-place.was)))
