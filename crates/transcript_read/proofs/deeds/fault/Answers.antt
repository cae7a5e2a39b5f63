use Rattle.transcript_read.specs.declared.deeds.FaultAt.{FaultAt}
use Rattle.transcript_read.specs.Ranges.{IsFaulted}
use Rattle.transcript_read.proofs.Chain.{no_more, one_more, tells}
use Rattle.transcript_read.proofs.deeds.fault.Goals as goal

pub returns : goal.returns
returns c =
    let v : FaultAt = record { serial = c.count-serial.result; «module» = c.module-module.result; page = record { object = c.number-object.result; page = c.number-page.result } } in
    tells (one_more v (λ _. tt) c.known.ensures
    (one_more v (λ x. x.serial) c.count-serial.ensures
    (one_more v (λ x. x.«module») c.module-module.ensures
    (one_more v (λ x. x.page.object) c.number-object.ensures
    (one_more v (λ x. x.page.page) c.number-page.ensures
    (no_more c.ending.ensures))))))
    (IsFaulted c.args.names.now) (λ x h. ((h.1.0, h.1.1.0), h.1.1.1.0, h.1.1.1.1.0)) (λ x h. (tt, (h.0.0, (h.0.1, (h.1, (h.2, tt))))))
