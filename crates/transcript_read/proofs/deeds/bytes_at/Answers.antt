use Rattle.transcript_read.specs.declared.deeds.BytesAt.{BytesAt}
use Rattle.transcript_read.specs.Ranges.{AreBytes}
use Rattle.transcript_read.proofs.Chain.{all_left, one_more, tells}
use Rattle.transcript_read.proofs.deeds.bytes_at.Goals as goal

pub returns : goal.returns
returns c =
    let v : BytesAt = record { serial = c.count-serial.result; «module» = c.module-module.result; object = c.number-object.result; offset = c.number-offset.result; bytes = c.in_ok-bytes.bytes } in
    tells (one_more v (λ _. tt) c.known.ensures
    (one_more v (λ x. x.serial) c.count-serial.ensures
    (one_more v (λ x. x.«module») c.module-module.ensures
    (one_more v (λ x. x.object) c.number-object.ensures
    (one_more v (λ x. x.offset) c.number-offset.ensures
    (one_more v (λ _. tt) c.known-2.ensures
    (all_left v (λ x. x.bytes) c.in_ok-bytes.ensures c.ending.ensures)))))))
    (AreBytes c.args.names.now) (λ x h. ((h.1.0, h.1.1.0), h.1.1.1.0, h.1.1.1.1.0, h.1.1.1.1.1.1)) (λ x h. (tt, (h.0.0, (h.0.1, (h.1, (h.2, (tt, h.3)))))))
