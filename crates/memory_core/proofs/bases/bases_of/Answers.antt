use Rattle.std.proofs.Common.{◌≡◌, ◌∙◌, ℕ, List, ap, rules}
use Rattle.lx_types.specs.declared.bases.ModBases.{ModBases}
use Rattle.memory_core.proofs.More.{bases_placed}
use Rattle.memory_core.proofs.bases.bases_of.Goals as goal

pub returns : goal.returns
returns c =
    let made : List ℕ → ModBases = λ objects. record { «module» = c.args.k; objects = objects } in
    let same : c.in_ok-make.field-0 ≡ c.placement.result.bases.now = search rules in
    ap made (same ∙ bases_placed c.new-nothing.result c.args.fresh.now c.args.k c.placement.result c.new-nothing.ensures c.placement.ensures.state)
