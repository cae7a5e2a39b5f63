use Rattle.transcript_read.specs.declared.refusals.FailedAt.{FailedAt}
use Rattle.transcript_read.specs.Refusals.{IsFailedAt}
use Rattle.transcript_read.proofs.Chain.{no_more, one_more, tells}
use Rattle.transcript_read.proofs.refusals.init_failed.Goals as goal

pub returns : goal.returns
returns c =
    let v : FailedAt = record { number = c.count-number.result; by = c.number-by.result } in
    tells (one_more v (λ _. tt) c.known.ensures
    (one_more v (λ x. x.number) c.count-number.ensures
    (one_more v (λ x. x.by) c.number-by.ensures
    (no_more c.ending.ensures))))
    (IsFailedAt) (λ x h. (h.1.0, h.1.1.0)) (λ x h. (tt, (h.0, (h.1, tt))))
