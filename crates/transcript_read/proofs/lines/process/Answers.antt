use Rattle.std.specs.Prelude.{ℕ}
use Rattle.transcript_lines.specs.Lines.{IsProcess}
use Rattle.transcript_read.proofs.Chain.{no_more, one_more, tells}
use Rattle.transcript_read.proofs.lines.process.Goals as goal

pub returns : goal.returns
returns c =
    let v : ℕ = c.script-pid.result in
    tells (one_more v (λ _. tt) c.known.ensures
    (one_more v (λ x. x) c.script-pid.ensures
    (no_more c.ending.ensures)))
    (IsProcess) (λ x h. h.1.0) (λ x h. (tt, (h, tt)))
