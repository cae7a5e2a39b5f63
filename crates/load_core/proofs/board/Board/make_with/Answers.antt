-- A new board keeps what there is where nothing was done.
use Rattle.std.specs.Arc.{arc_value}
use Rattle.std.proofs.Common.{subst}
use Rattle.load_model.specs.Modules.{Library}
use Rattle.load_model.specs.State.{nothing_yet}
use Rattle.mod_refs.specs.AllCounts.{AreCountsOfAll}
use Rattle.load_core.proofs.Keeping.{nothing_keeps_so}
use Rattle.load_core.proofs.board.Board.make_with.Goals as goal

pub invariant_of-result : goal.invariant_of-result
invariant_of-result c =
    let A : Library → Type 0 = λ lib. AreCountsOfAll lib (nothing_yet c.args.failing.items) c.in_ok-refs.refs in
    nothing_keeps_so (arc_value c.args.lib) c.args.failing.items c.new-3.result.items c.new-2.result.name c.new-2.result.given c.in_ok-refs.refs c.new.result c.new-3.ensures.items c.new.ensures c.new-2.ensures
    (subst A c.deref.ensures (c.in_ok-refs.ensures.all_counts c.args.failing.items))
