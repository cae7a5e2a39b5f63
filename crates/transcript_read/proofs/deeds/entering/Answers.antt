use Rattle.transcript_read.specs.declared.deeds.Entered.{Entered}
use Rattle.transcript_read.specs.Ranges.{IsEntered}
use Rattle.transcript_read.proofs.Chain.{no_more, one_more, tells}
use Rattle.transcript_read.proofs.deeds.entering.Goals as goal

pub returns : goal.returns
returns c =
    let v : Entered = record { how = c.how-how.result; «module» = c.module-module.result } in
    tells (one_more v (λ x. x.how) c.how-how.ensures
    (one_more v (λ x. x.«module») c.module-module.ensures
    (no_more c.ending.ensures)))
    (IsEntered c.args.names.now) (λ x h. h.1.0) (λ x h. (tt, (h, tt)))
