use Rattle.std.proofs.Common.{inl, inr}
use Rattle.comdat_core.specs.Keeping.{without_lists}
use Rattle.comdat_core.proofs.KeptLists.{no_modules, no_lists}
use Rattle.comdat_core.proofs.keeping.kept_modules.Goals as goal

pub returns : goal.returns
returns c =
    let left = c.loop-object.object-iterator in
    let all = without_lists c.args.modules.now c.args.taken.now in
    elim c.in-None.ensures.steps [
      | inl end ↦ no_modules c.loop-object.kept all left.a.rest.now left.b.rest.now end.1.0 c.loop-object.invariant
      | inr end ↦ no_lists c.loop-object.kept all left.a.rest.now left.b.rest.now end.1.0 c.loop-object.invariant
    ]
