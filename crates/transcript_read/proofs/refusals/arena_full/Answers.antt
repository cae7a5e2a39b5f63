use Rattle.transcript_read.specs.declared.refusals.FullBy.{FullBy}
use Rattle.transcript_read.specs.Refusals.{IsFullBy}
use Rattle.transcript_read.proofs.Chain.{no_more, one_more, tells}
use Rattle.transcript_read.proofs.refusals.arena_full.Goals as goal

pub returns : goal.returns
returns c =
    let v : FullBy = record { number = c.count-number.result; of = c.number-of.result; object = c.number-object.result; size = c.number-size.result } in
    tells (one_more v (λ _. tt) c.known.ensures
    (one_more v (λ x. x.number) c.count-number.ensures
    (one_more v (λ x. x.of) c.number-of.ensures
    (one_more v (λ x. x.object) c.number-object.ensures
    (one_more v (λ x. x.size) c.number-size.ensures
    (no_more c.ending.ensures))))))
    (IsFullBy) (λ x h. (h.1.0, h.1.1.0, h.1.1.1.0, h.1.1.1.1.0)) (λ x h. (tt, (h.0, (h.1, (h.2, (h.3, tt))))))
