-- The reserved words by their length.
use Rattle.std.specs.Prelude.{ℕ, ◌==◌, List, ◌++◌, length, filter}
use Rattle.def_model.specs.declared.keyword.Keyword.{Keyword}
use Rattle.def_model.specs.Keywords.{statement_words, other_words, attribute_words, idle_words}

-- All reserved words.
abbrev pub reserved_words : List (List ℕ × Keyword)
reserved_words = statement_words ++ (other_words ++ (attribute_words ++ idle_words))

-- Those of so many letters.
unfoldable pub words_of_len : ℕ → List (List ℕ × Keyword)
words_of_len n = filter (λ entry. length entry.0 == n) reserved_words
