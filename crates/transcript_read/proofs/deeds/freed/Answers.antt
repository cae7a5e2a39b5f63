use Rattle.std.specs.Prelude.{ℕ}
use Rattle.transcript_read.specs.Ranges.{IsFreed}
use Rattle.transcript_read.proofs.Chain.{no_more, one_more, tells}
use Rattle.transcript_read.proofs.deeds.freed.Goals as goal

pub returns : goal.returns
returns c =
    let v : ℕ = c.module-module.result in
    tells (one_more v (λ _. tt) c.known.ensures
    (one_more v (λ x. x) c.module-module.ensures
    (no_more c.ending.ensures)))
    (IsFreed c.args.names.now) (λ x h. h.1.0) (λ x h. (tt, (h, tt)))
