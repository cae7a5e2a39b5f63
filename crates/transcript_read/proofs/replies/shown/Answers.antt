use Rattle.std.specs.Prelude.{ℕ, List}
use Rattle.std.specs.List.{AllByRecursion}
use Rattle.check_model.specs.Told.{IsByte}
use Rattle.transcript_read.proofs.Chain.{all_left, one_more, tells}
use Rattle.transcript_read.proofs.replies.shown.Goals as goal

pub returns : goal.returns
returns c =
    let v : List ℕ = c.in_ok-bytes.bytes in
    tells (one_more v (λ _. tt) c.known.ensures
    (all_left v (λ x. x) c.in_ok-bytes.ensures c.ending.ensures))
    (AllByRecursion IsByte) (λ x h. h.1) (λ x h. (tt, h))
