use Rattle.std.proofs.Common.{◌≡◌, ◌++◌, ◌∷◌, ◌∙◌, [], ℕ, List, ap, rules}
use Rattle.gen_core.proofs.Placed.{numbers_more}
use Rattle.gen_core.proofs.placing.numbers.Goals as goal

pub loop-m-preserved : goal.loop-m-preserved
loop-m-preserved c =
    let m = c.loop-m.m in
    let pushed : c.push.new.self.items ≡ c.loop-m.numbers.items ++ m ∷ [] = search rules in
    pushed ∙ ap (λ (ns : List ℕ). ns ++ m ∷ []) c.loop-m.invariant ∙ numbers_more m
