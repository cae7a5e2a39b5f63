-- The words of the pages that are fixed are those that the links mean.
use Rattle.std.specs.Prelude.{◌≡◌, List}
use Rattle.lx_types.specs.declared.bases.Bases.{Bases}
use Rattle.link_model.specs.Link.{Link}
use Rattle.gen_model.specs.Sums.{all_words, library_of}
use Rattle.gen_laws.specs.Laws.{AreFirst}
use Rattle.gen_core.specs.Fixing.{library_words}
use Rattle.gen_core.specs.Linking.{AreFirstBases}

abbrev pub WordsAreMeant : Type 0
WordsAreMeant =
    (links : List Link) (bases : Bases) → AreFirst links → AreFirstBases (library_of links) bases
    → library_words (library_of links) bases ≡ all_words links bases
