use Rattle.lx_model.proofs.FirstFaults.{first_found, first_shown, row_found, row_shown}
use Rattle.lx_model.specs.Records.{next_record}
use Rattle.lx_model.specs.RecordSpelling.{record_spelling, RecordFits}
use Rattle.lx_model.proofs.FaultyRecords.{record_table}
use Rattle.lx_model.specs.EntryTable.{bundle_at}
use Rattle.lx_model.specs.Bundles.{bundle_spelling}
use Rattle.lx_model.proofs.FaultyBundles.{bundle_table}
use Rattle.lx_model.specs.Iterated.{group_at, group_spelling}
use Rattle.lx_model.specs.NameTables.{name_entry, name_spelling, NameFits, import_entry, import_spelling}
use Rattle.lx_model.specs.Faults.{WrongName, WrongImport, WrongGroup, WrongBundle, WrongRecord}
use Rattle.lx_model.specs.FaultLaws.{ImportGoes, GroupGoes, given_with, BundleGoes, last_with}
use Rattle.std.proofs.Common.{◌-◌}
use Rattle.lx_model.proofs.FaultsAfter.{faults_are}
use Rattle.lx_model.proofs.FaultyTables.{name_table, import_table, group_table}
use Rattle.lx_model.proofs.laws.faults_follow_good_parts.Goals as goal

pub returns-clause-names : goal.returns-clause-names
returns-clause-names c = faults_are name_entry name_spelling (λ _ n. NameFits n) (λ s _. s) WrongName name_table

pub returns-clause-imports : goal.returns-clause-imports
returns-clause-imports c = faults_are import_entry import_spelling ImportGoes (λ due _. due - 1) WrongImport import_table

pub returns-clause-groups : goal.returns-clause-groups
returns-clause-groups c = faults_are group_at group_spelling GroupGoes given_with WrongGroup group_table

pub returns-clause-bundles : goal.returns-clause-bundles
returns-clause-bundles c = λ objects imports. faults_are (bundle_at objects imports) bundle_spelling (BundleGoes objects imports) last_with (WrongBundle objects imports) (bundle_table objects imports)

pub returns-clause-records : goal.returns-clause-records
returns-clause-records c = faults_are next_record record_spelling (λ _ w. RecordFits w) (λ s _. s) WrongRecord record_table

pub returns-clause-entries : goal.returns-clause-entries
returns-clause-entries c = λ n f e. (first_found n f e, first_shown n f e)

pub returns-clause-header : goal.returns-clause-header
returns-clause-header c = λ file place rows e. (row_found file place rows e, row_shown file place rows e)
