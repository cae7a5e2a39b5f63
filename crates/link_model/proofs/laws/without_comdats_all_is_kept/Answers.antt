use Rattle.link_model.proofs.AllKept.{all_is_kept, none_clash}
use Rattle.link_model.proofs.laws.without_comdats_all_is_kept.Goals as goal

pub returns-clause-kept : goal.returns-clause-kept
returns-clause-kept c = all_is_kept

pub returns-clause-clash : goal.returns-clause-clash
returns-clause-clash c = none_clash
