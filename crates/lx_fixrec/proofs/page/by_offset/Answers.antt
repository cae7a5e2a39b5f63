use Rattle.std.proofs.Common.{rules, subst}
use Rattle.std.specs.List.Sorted.{IsPermutation}
use Rattle.std.proofs.lemmas.List.Sorted.{answers_always}
use Rattle.lx_fixrec.proofs.Sorting.{sorted_is, far}
use Rattle.lx_fixrec.proofs.page.by_offset.Goals as goal

pub returns : goal.returns
returns c =
    let up = c.in_ok-sort_by_key.ensures.sorted (λ f. f.offset) (answers_always _ _ _ (λ f a r g h. search rules)) in
    let moved : IsPermutation c.args.fixes.now c.sort_by_key.new.self.items = subst (λ fs. IsPermutation fs c.sort_by_key.new.self.items) c.in_ok-sources.ensures.items c.in_ok-sort_by_key.ensures.permutation in
    sorted_is c.args.fixes.now c.sort_by_key.new.self.items c.requires moved (far c.sort_by_key.new.self.items up)
