use Rattle.std.proofs.Common.{◌≡◌, ℕ, List, subst, arith}
use Rattle.omf_write.specs.Joined.{pages_in}
use Rattle.omf_write.proofs.JoinedRead.{too_long_together}
use Rattle.omf_write.proofs.joining.len_together.Goals as goal

pub returns-then-len-most : goal.returns-then-len-most
returns-then-len-most c =
    let limit = c.from-most.ensures in
    let over = c.if-len-most.true in
    too_long_together c.args.libraries.now c.loop-library.library-index c.loop-library.len c.library-item.result c.pages_in-own.result.now c.loop-library-test.true c.library-item.is
    (subst (λ (x : List ℕ). c.pages_in-own.result.now ≡ pages_in x) c.as_slice.ensures c.pages_in-own.ensures) c.loop-library.invariant.0 (omega (arith, limit, over))
