use Rattle.lx_types.specs.declared.resource.ResSpot.{ResSpot}
use Rattle.transcript_read.specs.Ranges.{IsSpot}
use Rattle.transcript_read.proofs.Chain.{no_more, one_more, tells}
use Rattle.transcript_read.proofs.replies.spot.Goals as goal

pub returns : goal.returns
returns c =
    let v : ResSpot = record { object = c.number-object.result; offset = c.number-offset.result; len = c.number-len.result } in
    tells (one_more v (λ _. tt) c.known.ensures
    (one_more v (λ x. x.object) c.number-object.ensures
    (one_more v (λ x. x.offset) c.number-offset.ensures
    (one_more v (λ x. x.len) c.number-len.ensures
    (no_more c.ending.ensures)))))
    (IsSpot) (λ x h. (h.1.0, h.1.1.0, h.1.1.1.0)) (λ x h. (tt, (h.0, (h.1, (h.2, tt)))))
