use Rattle.load_model.specs.declared.deeds.Call.{Call}
use Rattle.check_model.specs.Told.{IsCall}
use Rattle.transcript_read.proofs.Chain.{no_more, one_more, tells}
use Rattle.transcript_read.proofs.inner.call.Goals as goal

pub returns : goal.returns
returns c =
    let v : Call = record { kind = c.kind-kind.result; serial = c.count-serial.result; «module» = c.module-module.result; address = c.address-address.result } in
    tells (one_more v (λ _. tt) c.known.ensures
    (one_more v (λ _. tt) c.known-2.ensures
    (one_more v (λ _. tt) c.known-3.ensures
    (one_more v (λ x. x.kind) c.kind-kind.ensures
    (one_more v (λ x. x.serial) c.count-serial.ensures
    (one_more v (λ x. x.«module») c.module-module.ensures
    (one_more v (λ x. x.address) c.address-address.ensures
    (no_more c.ending.ensures))))))))
    (IsCall c.args.names.now) (λ x h. ((h.1.1.1.1.0, h.1.1.1.1.1.0), h.1.1.1.1.1.1.0)) (λ x h. (tt, (tt, (tt, (tt, (h.0.0, (h.0.1, (h.1, tt))))))))
