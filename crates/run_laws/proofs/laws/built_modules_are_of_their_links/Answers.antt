use Rattle.run_laws.proofs.BuiltModules.{built_is_of_link, built_are_of_links}
use Rattle.run_laws.proofs.laws.built_modules_are_of_their_links.Goals as goal

pub returns-clause-each : goal.returns-clause-each
returns-clause-each c = built_is_of_link c.linked_files_are_read.ensures c.entries_are_exports.ensures c.built_modules_have_no_resources.ensures

pub returns-clause-all : goal.returns-clause-all
returns-clause-all c = built_are_of_links c.linked_files_are_read.ensures c.entries_are_exports.ensures c.built_modules_have_no_resources.ensures
