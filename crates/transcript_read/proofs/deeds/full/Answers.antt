use Rattle.transcript_read.specs.declared.deeds.FullAt.{FullAt}
use Rattle.transcript_read.specs.Ranges.{IsFull}
use Rattle.transcript_read.proofs.Chain.{no_more, one_more, tells}
use Rattle.transcript_read.proofs.deeds.full.Goals as goal

pub returns : goal.returns
returns c =
    let v : FullAt = record { how = c.how-how.result; «module» = c.module-module.result; of = c.module-of.result; object = c.number-object.result; size = c.number-size.result } in
    tells (one_more v (λ x. x.how) c.how-how.ensures
    (one_more v (λ x. x.«module») c.module-module.ensures
    (one_more v (λ _. tt) c.known.ensures
    (one_more v (λ x. x.of) c.module-of.ensures
    (one_more v (λ x. x.object) c.number-object.ensures
    (one_more v (λ x. x.size) c.number-size.ensures
    (no_more c.ending.ensures)))))))
    (IsFull c.args.names.now) (λ x h. (h.1.0, h.1.1.1.0, h.1.1.1.1.0, h.1.1.1.1.1.0)) (λ x h. (tt, (h.0, (tt, (h.1, (h.2, (h.3, tt)))))))
