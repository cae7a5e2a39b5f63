use Rattle.load_model.specs.declared.commands.Refusal.{Refusal}
use Rattle.transcript_read.specs.Refusals.{IsPlainRefusal}
use Rattle.transcript_read.proofs.Chain.{no_more, one_more, tells}
use Rattle.transcript_read.proofs.refusals.plain.Goals as goal

pub returns : goal.returns
returns c =
    let v : Refusal = c.plain_refusal-refusal.result in
    tells (one_more v (λ x. x) c.plain_refusal-refusal.ensures
    (no_more c.ending.ensures))
    (IsPlainRefusal) (λ x h. h.0) (λ x h. (h, tt))
