use Rattle.run_core.proofs.Answered.{enters, fits_place, carried_if}
use Rattle.run_core.proofs.answers.answer.Goals as goal

pub act-requires-clause-entry : goal.act-requires-clause-entry
act-requires-clause-entry g c = enters c.args.command.now c.in_default.not-Touch c.in_default.not-Peek c.in_default.not-Query c.in_default.not-GetRes

pub act-requires-clause-fits : goal.act-requires-clause-fits
act-requires-clause-fits g c = fits_place c.args.command.now c.requires.command

pub returns-in_default-clause-carried : goal.returns-in_default-clause-carried
returns-in_default-clause-carried g c = carried_if _ _ _ _ _ c.requires.few c.act.ensures.answer c.line_of.ensures
