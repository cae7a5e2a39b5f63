-- Reading a file is its grammar.
use Rattle.std.specs.Prelude.{ℕ, List}
use Rattle.obj_types.specs.declared.definition.DefFile.{DefFile}
use Rattle.def_model.specs.Tokens.{tokens_of}
use Rattle.def_model.specs.declared.refusal.DefRefusal.{DefRefusal}
use Rattle.def_model.specs.Reading.{Def, FirstFault}
use Rattle.def_grammar.specs.Faults.{IsFirstFault}
use Rattle.def_grammar.specs.Sentences.{Sentence, bare}

abbrev pub GrammaticalAreRead : Type 0
GrammaticalAreRead = (bytes : List ℕ) (d : DefFile) → Sentence (bare (tokens_of bytes)) d → Def bytes d

abbrev pub ReadAreGrammatical : Type 0
ReadAreGrammatical = (bytes : List ℕ) (d : DefFile) → Def bytes d → Sentence (bare (tokens_of bytes)) d

abbrev pub FaultsAreFirst : Type 0
FaultsAreFirst = (bytes : List ℕ) (fault : DefRefusal) → FirstFault bytes fault → IsFirstFault (tokens_of bytes) fault

abbrev pub FirstAreFaults : Type 0
FirstAreFaults = (bytes : List ℕ) (fault : DefRefusal) → IsFirstFault (tokens_of bytes) fault → FirstFault bytes fault
