use Rattle.std.proofs.Common.{◌++◌, ℕ, List, sym, ap, ◌∙◌, append_assoc}
use Rattle.std.specs.List.{repeat}
use Rattle.res_bind.proofs.Lists.{repeat_more}
use Rattle.res_bind.proofs.tables.push_again.Goals as goal

pub loop-preserved : goal.loop-preserved
loop-preserved c =
    let out = c.args.out.now.items in
    let bytes = c.args.bytes.now in
    c.in_ok-extend_from_slice.ensures.items ∙ ap (λ (xs : List ℕ). xs ++ bytes) c.loop.invariant ∙ append_assoc out (repeat c.loop.counter bytes) bytes
    ∙ ap (λ (ys : List ℕ). out ++ ys) (sym (repeat_more c.loop.counter bytes))
