use Rattle.std.proofs.Common.{◌≡◌, ℕ, ◌-◌, ◌+◌, ◌∙◌, length, map, ap, sym, arith}
use Rattle.std.specs.List.{range_with_len}
use Rattle.lx_model.specs.Reading.{first}
use Rattle.lx_model.specs.Gathering.{twice_at}
use Rattle.mod_graph.proofs.Gathered.{first_passed}
use Rattle.mod_graph.proofs.gathering.name_twice.Goals as goal

pub loop-second-preserved : goal.loop-second-preserved
loop-second-preserved c =
    let left : ℕ = length c.args.mods.now - c.loop-second.second in
    let less : left - 1 ≡ length c.args.mods.now - (c.loop-second.second + 1) = omega arith in
    c.loop-second.invariant
    ∙ first_passed (twice_at c.args.mods.now) c.loop-second.second left (omega (arith, c.loop-second-test.true)) (sym c.in_default.ensures)
    ∙ ap (λ n. first (map (twice_at c.args.mods.now) (range_with_len (c.loop-second.second + 1) n))) less
