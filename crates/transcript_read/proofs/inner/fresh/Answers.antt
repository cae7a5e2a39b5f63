use Rattle.load_model.specs.declared.deeds.Fresh.{Fresh}
use Rattle.check_model.specs.Told.{IsFresh}
use Rattle.transcript_read.proofs.Chain.{all_left, one_more, tells}
use Rattle.transcript_read.proofs.inner.fresh.Goals as goal

pub returns : goal.returns
returns c =
    let v : Fresh = record { serial = c.count-serial.result; «module» = c.module-module.result; bases = c.in_ok-bases.bases } in
    tells (one_more v (λ _. tt) c.known.ensures
    (one_more v (λ _. tt) c.known-2.ensures
    (one_more v (λ _. tt) c.known-3.ensures
    (one_more v (λ x. x.serial) c.count-serial.ensures
    (one_more v (λ x. x.«module») c.module-module.ensures
    (all_left v (λ x. x.bases) c.in_ok-bases.ensures c.ending.ensures))))))
    (IsFresh c.args.names.now) (λ x h. ((h.1.1.1.0, h.1.1.1.1.0), h.1.1.1.1.1)) (λ x h. (tt, (tt, (tt, (h.0.0, (h.0.1, h.1))))))
