use Rattle.std.specs.Prelude.{ℕ}
use Rattle.check_model.specs.Told.{Has32}
use Rattle.transcript_read.proofs.Chain.{no_more, one_more, tells}
use Rattle.transcript_read.proofs.replies.address.Goals as goal

pub returns : goal.returns
returns c =
    let v : ℕ = c.address-address.result in
    tells (one_more v (λ _. tt) c.known.ensures
    (one_more v (λ x. x) c.address-address.ensures
    (no_more c.ending.ensures)))
    (Has32) (λ x h. h.1.0) (λ x h. (tt, (h, tt)))
