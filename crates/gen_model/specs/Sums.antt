-- What the generator tells of its modules: how many pages and record sources they have, and the sum of their 32-bit words in
-- memory, where they stand one after the other as a process finds them that loads the last.
use Rattle.std.specs.Prelude.{◌≡◌, ℕ, ◌+◌, ◌*◌, ◌/◌, ◌%◌, ◌^◌, suc, List, [], ◌∷◌, ◌++◌, codes, decimal, length, map, sum, sum_by, None, Ok}
use Rattle.std.specs.Int.{w32, from_le_bytes}
use Rattle.std.specs.List.{enumerate_from, flat_map, range_with_len}
use Rattle.lx_types.specs.declared.bases.Bases.{Bases}
use Rattle.link_model.specs.declared.symbols.LaidObject.{LaidObject}
use Rattle.link_model.specs.Layout.{objects}
use Rattle.link_model.specs.Link.{Link, IsLinkOf}
use Rattle.link_model.specs.Mean.{Mean}
use Rattle.link_model.specs.Refusal.{link_refusal}
use Rattle.link_model.specs.Value.{World}
use Rattle.image_model.specs.Linked.{page_forms, page_fixes}
use Rattle.image_model.specs.World.{world_of}
use Rattle.load_model.specs.declared.deeds.Fresh.{Fresh}
use Rattle.load_model.specs.Entering.{placed_from}
use Rattle.load_model.specs.Modules.{Library}
use Rattle.lx_model.specs.Gathering.{LibraryFault}
use Rattle.run_model.specs.Sources as sources
use Rattle.run_model.specs.Sources.{built}
use Rattle.gen_model.specs.declared.totals.Totals.{Totals}
use Rattle.gen_model.specs.Modules.{gen_input}

-- ---- what is linked, gathered and placed

-- These are the links of the modules from k on, in order, and none is refused.
abbrev pub AreLinked : ℕ → List Link → Type 0
AreLinked k [] = Unit {0}
AreLinked k (l ∷ ls) = IsLinkOf (gen_input k) l × (link_refusal l ≡ None) × AreLinked (suc k) ls

-- The library of the files that they are written to.
abbrev pub library_of : List Link → Library
library_of links = sources.library_of (map built links)

-- The modules stand there: each takes its place in turn, in an arena in which nothing else is.
abbrev pub AreFirstPlaces : Library → List Fresh → Type 0
AreFirstPlaces lib fresh = placed_from lib 0 [] (range_with_len 0 (length lib)) ≡ Ok fresh

abbrev pub bases_of : List Fresh → Bases
bases_of fresh = record { mods = map (λ f. record { «module» = f.«module»; objects = f.bases }) fresh }

-- ---- words

-- The 32-bit number at a place of an object.
abbrev pub word_at : (ℕ → ℕ) → ℕ → ℕ
word_at bytes at = from_le_bytes w32 (map bytes (range_with_len at 4))

-- The words of so many pages of 4,096 bytes.
abbrev pub words_of : (ℕ → ℕ) → ℕ → List ℕ
words_of bytes pages = map (λ i. word_at bytes (4 * i)) (range_with_len 0 (1024 * pages))

abbrev pub pages_of : LaidObject → ℕ
pages_of o = (o.size + 4095) / 4096

-- Of an object with its number, by what the link means there.
abbrev pub object_words : Link → World → ℕ × LaidObject → List ℕ
object_words l w numbered = words_of (Mean l w numbered.0) (pages_of numbered.1)

unfoldable pub link_words : Link → World → List ℕ
link_words l w = flat_map (object_words l w) (enumerate_from 1 (objects l))

-- Of all modules, each where its bases and those of the modules are that it imports.
unfoldable pub all_words : List Link → Bases → List ℕ
all_words links bases = flat_map (λ q. link_words q.1 (world_of (library_of links) q.0 bases)) (enumerate_from 0 links)

-- ---- the line

-- A reference that stands on two pages counts on each. The sum is one of 32 bits.
abbrev pub totals_of : List Link → Bases → Totals
totals_of links bases = record {
  modules = length links;
  pages = sum_by (λ l. length (page_forms l)) links;
  sources = sum_by (λ l. sum_by length (page_fixes l)) links;
  sum = sum (all_words links bases) % 2 ^ 32;
}

-- `gen N modules N pages P sources S sum X`
abbrev pub totals_line : Totals → List ℕ
totals_line t =
    codes "gen " ++ (decimal t.modules ++ (codes " modules " ++ (decimal t.modules ++ (codes " pages " ++ (decimal t.pages
    ++ (codes " sources " ++ (decimal t.sources ++ (codes " sum " ++ (decimal t.sum ++ 10 ∷ [])))))))))

-- The modules G1 to GN link, are a library and have places, and this is what is told of them.
pub record AreTotals (count : ℕ) (t : Totals) : Type 0 where
  pub links : List Link
  pub each : length links ≡ count
  pub linked : AreLinked 1 links
  pub gathered : LibraryFault (library_of links) ≡ None
  pub fresh : List Fresh
  pub placed : AreFirstPlaces (library_of links) fresh
  pub told : t ≡ totals_of links (bases_of fresh)
