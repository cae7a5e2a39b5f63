use Rattle.transcript_read.specs.declared.deeds.FailedBy.{FailedBy}
use Rattle.transcript_read.specs.Ranges.{IsFailed}
use Rattle.transcript_read.proofs.Chain.{no_more, one_more, tells}
use Rattle.transcript_read.proofs.deeds.failed.Goals as goal

pub returns : goal.returns
returns c =
    let v : FailedBy = record { how = c.how-how.result; «module» = c.module-module.result; by = c.module-by.result } in
    tells (one_more v (λ x. x.how) c.how-how.ensures
    (one_more v (λ x. x.«module») c.module-module.ensures
    (one_more v (λ _. tt) c.known.ensures
    (one_more v (λ x. x.by) c.module-by.ensures
    (no_more c.ending.ensures)))))
    (IsFailed c.args.names.now) (λ x h. (h.1.0, h.1.1.1.0)) (λ x h. (tt, (h.0, (tt, (h.1, tt)))))
