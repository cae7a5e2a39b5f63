use Rattle.std.proofs.Common.{◌<◌, length, sym, rules, arith}
use Rattle.memory_core.proofs.FirstEntry.{nothing_refused, unfit_refused}
use Rattle.memory_core.proofs.More.{empty_by, some_by}
use Rattle.memory_core.proofs.placing.place.Goals as goal

pub returns-then-is_empty : goal.returns-then-is_empty
returns-then-is_empty c = nothing_refused c.args.lib.now (empty_by c.is_empty.result (length c.args.lib.now) c.is_empty.ensures c.if-is_empty.true)

pub place_fit-requires-clause-some : goal.place_fit-requires-clause-some
place_fit-requires-clause-some c = some_by c.is_empty.result (length c.args.lib.now) c.is_empty.ensures c.if-is_empty.false

pub returns-in-Some : goal.returns-in-Some
returns-in-Some c = unfit_refused c.args.lib.now c.in-Some.refusal (some_by c.is_empty.result (length c.args.lib.now) c.is_empty.ensures c.if-is_empty.false) (sym c.in-Some.ensures)
