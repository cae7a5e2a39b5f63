-- The words of an object, page by page, and their sums.
use Rattle.std.specs.Prelude.{◌≡◌, ℕ, ◌+◌, ◌*◌, ◌/◌, ◌%◌, ◌^◌, ◌<◌, List, [], ◌∷◌, ◌++◌, length, map, slice_index, sum, refl}
use Rattle.std.specs.List.{flat_map, range_with_len}
use Rattle.std.proofs.Common.{ap, sym, ◌∙◌, arith}
use Rattle.std.proofs.Math.Nat.{add-mod-mod, mod-add-mod}
use Rattle.std.proofs.lemmas.List.FromFn.{get_or-map-range_with_len, map-range_with_len_more}
use Rattle.std.proofs.lemmas.List.Sums.{sum_by-append}
use Rattle.lx_types.specs.declared.bases.Bases.{Bases}
use Rattle.lx_types.specs.declared.object.TheConstants.{PAGE_SIZE}
use Rattle.lx_types.specs.declared.parts.Parts.{Parts}
use Rattle.lx_model.specs.Fixed.{Fixed}
use Rattle.lx_model.specs.Library.{module_of}
use Rattle.lx_model.specs.ModuleBytes.{FixedByte, fixed_page}
use Rattle.gen_model.specs.Sums.{word_at, words_of}
use Rattle.gen_core.proofs.Further.{flat_map_further}
use Rattle.gen_core.specs.Fixing.{first_words, front_words, library_words, module_words, object_words, page_words, total}
use Rattle.gen_core.proofs.Ranges.{range_alike, range_split, word_alike}

-- ---- sums modulo 2^32

pub total_more : (xs ys : List ℕ) (a b : ℕ) → a ≡ total xs → b ≡ total ys → (a + b) % 2 ^ 32 ≡ total (xs ++ ys)
total_more xs ys a b first more =
    ap (λ (n : ℕ). (n + b) % 2 ^ 32) first
    ∙ ap (λ (n : ℕ). (sum xs % 2 ^ 32 + n) % 2 ^ 32) more
    ∙ add-mod-mod (sum xs % 2 ^ 32) (sum ys) (2 ^ 32)
    ∙ mod-add-mod (sum xs) (2 ^ 32) (sum ys)
    ∙ ap (λ (n : ℕ). n % 2 ^ 32) (sym (sum_by-append (λ (x : ℕ). x) xs ys))

pub one_total : (word : ℕ) → word < 2 ^ 32 → word ≡ total (word ∷ [])
one_total word small = omega (arith, small)

-- What one number more of a range gives.
pub total_further : (f : ℕ → List ℕ) (a n j sum more : ℕ) → a + n ≡ j → sum ≡ total (flat_map f (range_with_len a n)) → more ≡ total (f j) → (sum + more) % 2 ^ 32 ≡ total (flat_map f (range_with_len a (n + 1)))
total_further f a n j sum more number first last =
    total_more (flat_map f (range_with_len a n)) (f j) sum more first last ∙ ap total (flat_map_further f a n j number [] (flat_map f (range_with_len a n)) refl)

-- ---- the words of a page

-- Byte i of a page is the byte of the object at its place.
byte_of_page : (lib : List Parts) (m : ℕ) (bases : Bases) (object p i : ℕ) → i < 4096 → FixedByte lib m bases object (4096 * p + i) ≡ slice_index (fixed_page lib m bases (record { object = object; page = p })) i
byte_of_page lib m bases object p i lt =
    let page : (4096 * p + i) / 4096 ≡ p = omega (arith, lt) in
    let offset : (4096 * p + i) % 4096 ≡ i = omega (arith, lt) in
    ap (λ (n : ℕ). Fixed lib m bases (record { object = object; page = n }) ((4096 * p + i) % 4096)) page
    ∙ ap (Fixed lib m bases (record { object = object; page = p })) offset
    ∙ sym (get_or-map-range_with_len (Fixed lib m bases (record { object = object; page = p })) 0 PAGE_SIZE i i 0 (omega (arith, lt)) (omega arith))

words_of_page : (lib : List Parts) (m : ℕ) (bases : Bases) (object p : ℕ) → map (λ i. word_at (FixedByte lib m bases object) (4 * i)) (range_with_len (0 + 1024 * p) 1024) ≡ words_of (slice_index (fixed_page lib m bases (record { object = object; page = p }))) 1
words_of_page lib m bases object p =
    let f = FixedByte lib m bases object in
    let g = slice_index (fixed_page lib m bases (record { object = object; page = p })) in
    range_alike (λ i. word_at f (4 * i)) (λ i. word_at g (4 * i)) (0 + 1024 * p) 0 1024
    (λ i lt. word_alike f g (4 * (0 + 1024 * p + i)) (4 * (0 + i)) (λ k few.
    ap f (moved p i k) ∙ byte_of_page lib m bases object p (4 * (0 + i) + k) (omega (arith, lt, few))))
  where
    moved : (p i k : ℕ) → 4 * (0 + 1024 * p + i) + k ≡ 4096 * p + (4 * (0 + i) + k)
    moved p i k = omega arith

-- The words of one page more.
pub page_further : (lib : List Parts) (m : ℕ) (bases : Bases) (object p : ℕ) → front_words lib bases m object p ++ page_words (slice_index (fixed_page lib m bases (record { object = object; page = p }))) ≡ front_words lib bases m object (p + 1)
unfolding front_words page_words
page_further lib m bases object p =
    let f = FixedByte lib m bases object in
    ap (λ (ws : List ℕ). words_of f p ++ ws) (sym (words_of_page lib m bases object p))
    ∙ sym (range_split (λ i. word_at f (4 * i)) 0 (1024 * p) 1024)
    ∙ ap (λ (n : ℕ). map (λ i. word_at f (4 * i)) (range_with_len 0 n)) (one_more p)
  where
    one_more : (p : ℕ) → 1024 * p + 1024 ≡ 1024 * (p + 1)
    one_more p = omega arith

pub no_pages : (lib : List Parts) (m : ℕ) (bases : Bases) (object : ℕ) → front_words lib bases m object 0 ≡ []
unfolding front_words
no_pages lib m bases object = refl

-- ---- the words of a module, and of all

pub module_is : (lib : List Parts) (bases : Bases) (m n sum : ℕ) → sum ≡ total (flat_map (object_words lib bases m) (range_with_len 1 n)) → n ≡ length (module_of lib m).objects → sum ≡ total (module_words lib bases m)
unfolding module_words
module_is lib bases m n sum is all = is ∙ ap (λ (k : ℕ). total (flat_map (object_words lib bases m) (range_with_len 1 k))) all

pub library_is : (lib : List Parts) (bases : Bases) (n sum : ℕ) → sum ≡ total (flat_map (module_words lib bases) (range_with_len 0 n)) → n ≡ length lib → sum ≡ total (library_words lib bases)
unfolding library_words
library_is lib bases n sum is all = is ∙ ap (λ (k : ℕ). total (flat_map (module_words lib bases) (range_with_len 0 k))) all

-- ---- the words of a page, one by one

pub no_words : (bytes : ℕ → ℕ) → first_words bytes 0 ≡ []
unfolding first_words
no_words bytes = refl

pub word_further : (bytes : ℕ → ℕ) (n : ℕ) → first_words bytes n ++ word_at bytes (4 * n) ∷ [] ≡ first_words bytes (n + 1)
unfolding first_words
word_further bytes n = sym (map-range_with_len_more (λ i. word_at bytes (4 * i)) 0 n n (omega arith))

pub all_words : (bytes : ℕ → ℕ) (n : ℕ) → n ≡ 1024 → first_words bytes n ≡ page_words bytes
unfolding first_words page_words
all_words bytes n is = ap (λ (k : ℕ). map (λ i. word_at bytes (4 * i)) (range_with_len 0 k)) (is ∙ one)
  where
    one : 1024 ≡ 1024 * 1
    one = refl
