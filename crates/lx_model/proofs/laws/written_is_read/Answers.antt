use Rattle.lx_model.proofs.BundlesRead.{table_reads as bundles_again}
use Rattle.lx_model.proofs.ImportsRead.{imports_again}
use Rattle.lx_model.proofs.NamesRead.{table_reads}
use Rattle.lx_model.proofs.PagesRead.{records_again, groups_again}
use Rattle.lx_model.proofs.PlacesRead.{header_again, objects_again, pages_again, doublewords_again}
use Rattle.lx_model.proofs.laws.written_is_read.Goals as goal

pub returns-clause-names : goal.returns-clause-names
returns-clause-names c = table_reads

pub returns-clause-records : goal.returns-clause-records
returns-clause-records c = records_again

pub returns-clause-groups : goal.returns-clause-groups
returns-clause-groups c = groups_again

pub returns-clause-entries : goal.returns-clause-entries
returns-clause-entries c = bundles_again

pub returns-clause-imports : goal.returns-clause-imports
returns-clause-imports c = imports_again

pub returns-clause-header : goal.returns-clause-header
returns-clause-header c = header_again

pub returns-clause-objects : goal.returns-clause-objects
returns-clause-objects c = objects_again

pub returns-clause-pages : goal.returns-clause-pages
returns-clause-pages c = pages_again

pub returns-clause-doublewords : goal.returns-clause-doublewords
returns-clause-doublewords c = doublewords_again
