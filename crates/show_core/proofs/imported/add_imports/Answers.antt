use Rattle.show_model.specs.Outlines.{tallies}
use Rattle.show_core.proofs.Chains.{last_then}
use Rattle.show_core.proofs.imported.add_imports.Goals as goal

pub returns : goal.returns
returns c = last_then c.add_imported.result _ (tallies c.args.out.now.items) _ _ c.in_ok-add_modules.ensures c.add_imported.ensures
