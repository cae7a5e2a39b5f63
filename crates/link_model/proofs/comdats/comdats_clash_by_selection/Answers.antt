use Rattle.std.proofs.Common.{refl}
use Rattle.link_model.specs.Clash.{comdat_refusal}
use Rattle.link_model.proofs.comdats.comdats_clash_by_selection.Goals as goal

pub returns-clause-objects : goal.returns-clause-objects
unfolding comdat_refusal
returns-clause-objects c = refl

pub returns-clause-in_chosen_order : goal.returns-clause-in_chosen_order
unfolding comdat_refusal
returns-clause-in_chosen_order c = refl

pub returns-clause-not_chosen : goal.returns-clause-not_chosen
unfolding comdat_refusal
returns-clause-not_chosen c = refl
