-- The words of pages that were fixed. None of them is to be written out: each has 1,024 a page.
use Rattle.std.specs.Prelude.{ℕ, ◌*◌, ◌%◌, ◌^◌, List, length, map, sum}
use Rattle.std.specs.List.{flat_map, range_with_len}
use Rattle.lx_types.specs.declared.bases.Bases.{Bases}
use Rattle.lx_types.specs.declared.parts.Parts.{Parts}
use Rattle.lx_types.specs.Object.{pages_of}
use Rattle.lx_types.specs.Parts.{object_of}
use Rattle.lx_model.specs.Library.{module_of}
use Rattle.lx_model.specs.ModuleBytes.{FixedByte}
use Rattle.gen_model.specs.Sums.{word_at, words_of}

-- as numbers of 32 bits are added
abbrev pub total : List ℕ → ℕ
total words = sum words % 2 ^ 32

-- the first words, and those of one page
unfoldable pub first_words : (ℕ → ℕ) → ℕ → List ℕ
first_words bytes n = map (λ i. word_at bytes (4 * i)) (range_with_len 0 n)

unfoldable pub page_words : (ℕ → ℕ) → List ℕ
page_words bytes = words_of bytes 1

-- of the first pages of an object of module m
unfoldable pub front_words : List Parts → Bases → ℕ → ℕ → ℕ → List ℕ
front_words lib bases m object pages = words_of (FixedByte lib m bases object) pages

-- of all its pages
abbrev pub object_words : List Parts → Bases → ℕ → ℕ → List ℕ
object_words lib bases m object = front_words lib bases m object (pages_of (object_of (module_of lib m) object))

-- of all objects of module m
unfoldable pub module_words : List Parts → Bases → ℕ → List ℕ
module_words lib bases m = flat_map (object_words lib bases m) (range_with_len 1 (length (module_of lib m).objects))

-- of all modules
unfoldable pub library_words : List Parts → Bases → List ℕ
library_words lib bases = flat_map (module_words lib bases) (range_with_len 0 (length lib))
