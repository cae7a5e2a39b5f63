use Rattle.check_model.specs.declared.kinds.Counts.{Counts}
use Rattle.check_model.specs.Told.{AreCounts}
use Rattle.transcript_read.proofs.Chain.{no_more, one_more, tells}
use Rattle.transcript_read.proofs.lines.summary.Goals as goal

pub returns : goal.returns
returns c =
    let v : Counts = record { processes = c.count-processes.result; entries = c.count-entries.result; faults = c.count-faults.result } in
    tells (one_more v (λ _. tt) c.known.ensures
    (one_more v (λ _. tt) c.known-2.ensures
    (one_more v (λ x. x.processes) c.count-processes.ensures
    (one_more v (λ _. tt) c.known-3.ensures
    (one_more v (λ x. x.entries) c.count-entries.ensures
    (one_more v (λ _. tt) c.known-4.ensures
    (one_more v (λ x. x.faults) c.count-faults.ensures
    (no_more c.ending.ensures))))))))
    (AreCounts) (λ x h. record { processes = h.1.1.0; entries = h.1.1.1.1.0; faults = h.1.1.1.1.1.1.0 }) (λ x h. (tt, (tt, (h.processes, (tt, (h.entries, (tt, (h.faults, tt))))))))
