use Rattle.show_model.specs.Outlines.{tallies}
use Rattle.show_core.proofs.Chains.{last_then}
use Rattle.show_core.proofs.objects.add_object.Goals as goal

pub returns : goal.returns
returns c = last_then c.add_links.result _ (tallies c.args.out.now.items) _ _ c.in_ok-add_names.ensures c.add_links.ensures
