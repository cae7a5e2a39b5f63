use Rattle.load_model.specs.declared.deeds.Gone.{Gone}
use Rattle.check_model.specs.Told.{IsGone}
use Rattle.transcript_read.proofs.Chain.{no_more, one_more, tells}
use Rattle.transcript_read.proofs.inner.gone.Goals as goal

pub returns : goal.returns
returns c =
    let v : Gone = record { serial = c.count-serial.result; «module» = c.module-module.result } in
    tells (one_more v (λ _. tt) c.known.ensures
    (one_more v (λ _. tt) c.known-2.ensures
    (one_more v (λ _. tt) c.known-3.ensures
    (one_more v (λ x. x.serial) c.count-serial.ensures
    (one_more v (λ x. x.«module») c.module-module.ensures
    (no_more c.ending.ensures))))))
    (IsGone c.args.names.now) (λ x h. (h.1.1.1.0, h.1.1.1.1.0)) (λ x h. (tt, (tt, (tt, (h.0, (h.1, tt))))))
