use Rattle.stepped_runs.proofs.answers.answer.Goals as goal

pub act-requires-clause-entry : goal.act-requires-clause-entry
act-requires-clause-entry g c = (c.is_deed.ensures c.if-is_deed.true).0

pub act-requires-clause-fits : goal.act-requires-clause-fits
act-requires-clause-fits g c = (c.is_deed.ensures c.if-is_deed.true).1
