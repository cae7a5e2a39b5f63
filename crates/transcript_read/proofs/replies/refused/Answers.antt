use Rattle.std.proofs.Common.{sym, ◌∙◌}
use Rattle.session_model.specs.Transcript.{refusal_words}
use Rattle.check_model.specs.Told.{IsRefusal}
use Rattle.transcript_read.proofs.Chain.{known_tells, stopped_tells}
use Rattle.transcript_read.proofs.replies.refused.Goals as goal

pub returns-then-has_stopped : goal.returns-then-has_stopped
returns-then-has_stopped c = known_tells c.known.ensures (stopped_tells refusal_words IsRefusal _ (sym c.has_stopped.ensures ∙ c.if-has_stopped.true))

pub returns : goal.returns
returns c = known_tells c.known.ensures c.refusal.ensures
