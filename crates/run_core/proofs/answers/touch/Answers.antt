use Rattle.std.proofs.Common.{inl, inr}
use Rattle.run_core.proofs.Answered.{touch_fine, touch_refused}
use Rattle.run_core.proofs.answers.touch.Goals as goal

pub returns-in-Ok-clause-carried : goal.returns-in-Ok-clause-carried
returns-in-Ok-clause-carried g c = inr (inr (touch_fine _ _ _ _ _ _ c.in-Ok.ensures.answer))

pub returns-in-Err-Said-clause-carried : goal.returns-in-Err-Said-clause-carried
returns-in-Err-Said-clause-carried g c = inl (touch_refused _ _ _ _ _ _ _ c.in-Err-Said.field-0-is c.requires.few c.in-Err-Said.ensures.answer)
