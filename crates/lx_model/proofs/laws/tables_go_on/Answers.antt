use Rattle.lx_model.specs.EntryTable.{bundle_at}
use Rattle.lx_model.specs.Iterated.{group_at}
use Rattle.lx_model.specs.NameTables.{name_entry, import_entry}
use Rattle.lx_model.specs.Records.{next_record}
use Rattle.lx_model.proofs.Many.{one_by_one}
use Rattle.lx_model.proofs.Shortening.{name_shortens, import_shortens, bundle_shortens, record_shortens, group_shortens}
use Rattle.lx_model.proofs.laws.tables_go_on.Goals as goal

pub returns-clause-names : goal.returns-clause-names
returns-clause-names c = one_by_one name_entry name_shortens

pub returns-clause-imports : goal.returns-clause-imports
returns-clause-imports c = one_by_one import_entry import_shortens

pub returns-clause-bundles : goal.returns-clause-bundles
returns-clause-bundles c = λ objects imports. one_by_one (bundle_at objects imports) (bundle_shortens objects imports)

pub returns-clause-records : goal.returns-clause-records
returns-clause-records c = one_by_one next_record record_shortens

pub returns-clause-groups : goal.returns-clause-groups
returns-clause-groups c = one_by_one group_at group_shortens
