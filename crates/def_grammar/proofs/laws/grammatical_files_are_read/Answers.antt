use Rattle.def_grammar.proofs.Grammatical.{grammatical_read}
use Rattle.def_grammar.proofs.laws.grammatical_files_are_read.Goals as goal

pub returns : goal.returns
returns c = grammatical_read
