use Rattle.def_grammar.proofs.ReadGrammatical.{read_grammatical}
use Rattle.def_grammar.proofs.laws.read_files_are_grammatical.Goals as goal

pub returns : goal.returns
returns c = read_grammatical
