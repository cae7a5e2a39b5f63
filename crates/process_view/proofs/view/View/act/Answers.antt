use Rattle.process_view.proofs.Words.{Command, FitsPlace, inl, inr, length, List, Place, subst, ℕ, ◌≡◌}
use Rattle.process_view.proofs.Did.{IsWrite}
use Rattle.process_view.proofs.view.View.act.Goals as goal

pub enter-requires-clause-planned : goal.enter-requires-clause-planned
enter-requires-clause-planned c = (c.args.command.now, rw c.in-Ok-Enter.field-0-is at c.in-Ok-Enter.ensures)

pub returns-in-Ok-Enter : goal.returns-in-Ok-Enter
returns-in-Ok-Enter c = let plan = rw c.in-Ok-Enter.field-0-is at c.in-Ok-Enter.ensures in rw c.read_nothing.ensures (c.enter.ensures c.args.command.now plan)

pub leave-requires-clause-planned : goal.leave-requires-clause-planned
leave-requires-clause-planned c = (c.args.command.now, rw c.in-Ok-Leave.field-0-is at c.in-Ok-Leave.ensures)

pub returns-in-Ok-Leave : goal.returns-in-Ok-Leave
returns-in-Ok-Leave c = let plan = rw c.in-Ok-Leave.field-0-is at c.in-Ok-Leave.ensures in rw c.read_nothing-in-Ok-Leave.ensures (c.leave.ensures c.args.command.now plan)

pub put-requires-clause-planned : goal.put-requires-clause-planned
put-requires-clause-planned c = (c.args.command.now, rw c.in-Ok-Put.field-0-is at c.in-Ok-Put.ensures)

fits_by : (command : Command) (at : Place) (bytes : List ℕ) → IsWrite command at bytes → FitsPlace command → length bytes ≡ at.len
fits_by command at bytes (inl e) fits = subst FitsPlace e fits
fits_by command at bytes (inr e) fits = subst FitsPlace e fits

pub put-requires-clause-fits : goal.put-requires-clause-fits
put-requires-clause-fits c = let plan = rw c.in-Ok-Put.field-0-is at c.in-Ok-Put.ensures in fits_by c.args.command.now c.in-Ok-Put.place.now c.in-Ok-Put.bytes.now plan.means.0 c.requires.fits

pub returns-in-Ok-Put : goal.returns-in-Ok-Put
returns-in-Ok-Put c = let plan = rw c.in-Ok-Put.field-0-is at c.in-Ok-Put.ensures in rw c.read_nothing-in-Ok-Put.ensures (c.put.ensures c.args.command.now plan)

pub read-requires-clause-planned : goal.read-requires-clause-planned
read-requires-clause-planned c = (c.args.command.now, rw c.in-Ok-Read.field-0-is at c.in-Ok-Read.ensures)

pub returns-in-Ok-Read : goal.returns-in-Ok-Read
returns-in-Ok-Read c = let plan = rw c.in-Ok-Read.field-0-is at c.in-Ok-Read.ensures in c.read.ensures c.args.command.now plan
