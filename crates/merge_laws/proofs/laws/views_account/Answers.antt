use Rattle.merge_laws.proofs.Views.{view_refuses, view_replies}
use Rattle.merge_laws.proofs.laws.views_account.Goals as goal

pub returns : goal.returns
returns c = record { refusals = view_refuses c.views_answer.ensures.refusals; replies = view_replies c.views_answer.ensures.replies }
