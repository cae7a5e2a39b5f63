-- The byte of a page with its fixups, by what each of its sources puts there.
use Rattle.std.specs.Prelude.{◌≡◌, ℕ, ℤ, pos, negsuc, suc, ◌+◌, ◌-◌, ◌-ℤ◌, ◌<◌, ◌≤◌, ◌⊎◌, Bool, cond, List, [], ◌∷◌, Option, Some, None, map, reverse, length, slice_index, is_some, unwrap_or, refl}
use Rattle.std.specs.List.{All, AllByRecursion}
use Rattle.std.specs.List.Sorted.{IsPermutation}
use Rattle.std.proofs.Common.{ap, sym, ◌∙◌, arith, subst, true≢false, inl, inr}
use Rattle.std.proofs.lemmas.Bool.{cases_lt, lt-leb, le-leb}
use Rattle.std.proofs.lemmas.Int.{ints}
use Rattle.std.proofs.lemmas.List.Elements.{All-map, All-from_recursion, recursion_from_All}
use Rattle.std.proofs.lemmas.List.Sorted.{All-permutation, IsPermutation-reverse, IsPermutation-sym}
use Rattle.std.proofs.lemmas.Option.{slice_get-get_or, slice_get_past}
use Rattle.lx_model.proofs.ReadModules.{each_unmap}
use Rattle.lx_types.specs.declared.bases.Bases.{Bases}
use Rattle.lx_types.specs.declared.fix.Fix.{Fix}
use Rattle.lx_types.specs.declared.object.PageId.{PageId}
use Rattle.lx_types.specs.declared.parts.Parts.{Parts}
use Rattle.link_model.proofs.Members.{In, each_in}
use Rattle.lx_model.specs.Fixed.{Raw, Patch, patch_of, index_in, byte_if, patched, sources_of, patches_of, Fixed}
use Rattle.lx_model.specs.Library.{module_of}
use Rattle.lx_model.specs.Reading.{first}
use Rattle.image_model.proofs.Faultless.{none_first}

-- ---- the first of those that put a byte there

-- None, or this.
abbrev pub Outcome : ℕ → Option ℕ → Type 0
Outcome b o = (o ≡ None) ⊎ (o ≡ Some b)

first_outcome : {X : Type 0} (h : X → Option ℕ) (b : ℕ) (xs : List X) → AllByRecursion (λ x. Outcome b (h x)) xs → Outcome b (first (map h xs))
first_outcome h b [] each = inl refl
first_outcome h b (x ∷ xs) each =
    elim each.0 as (λ s. Outcome b (first (map h (x ∷ xs)))) [
      | inl none ↦ subst (λ (o : Option ℕ). Outcome b (first (o ∷ map h xs))) (sym none) (first_outcome h b xs each.1)
      | inr some ↦ inr (ap (λ (o : Option ℕ). first (o ∷ map h xs)) some)
    ]

none_of : {X : Type 0} (h : X → Option ℕ) (xs : List X) → first (map h xs) ≡ None → AllByRecursion (λ x. h x ≡ None) xs
none_of h [] e = tt
none_of {X} h (x ∷ xs) e = by (h x) refl e (λ f. none_of h xs f)
  where
    by : (o : Option ℕ) → h x ≡ o → first (o ∷ map h xs) ≡ None → (first (map h xs) ≡ None → AllByRecursion (λ y. h y ≡ None) xs) → AllByRecursion (λ y. h y ≡ None) (x ∷ xs)
    by None is f rest = (is, rest f)
    by (Some c) is f rest = absurd (true≢false (ap is_some f))

-- ---- the sources of a page, in any order

-- What a source puts at byte i.
abbrev pub put : List Parts → ℕ → Bases → PageId → ℕ → Fix → Option ℕ
put lib m bases p i f = patched (patch_of lib m bases p f) i

last_patched : List Parts → ℕ → Bases → PageId → ℕ → Option ℕ
last_patched lib m bases p i = first (map (λ q. patched q i) (reverse (patches_of lib m bases p)))

fixed_is : (lib : List Parts) (m : ℕ) (bases : Bases) (p : PageId) (i : ℕ) → Fixed lib m bases p i ≡ unwrap_or (last_patched lib m bases p i) (Raw (module_of lib m) p i)
unfolding Fixed last_patched
fixed_is lib m bases p i = refl

outcomes : (lib : List Parts) (m : ℕ) (bases : Bases) (p : PageId) (i b : ℕ) (fs : List Fix) → IsPermutation fs (sources_of (module_of lib m) p) → All (λ f. Outcome b (put lib m bases p i f)) fs → Outcome b (last_patched lib m bases p i)
unfolding last_patched
outcomes lib m bases p i b fs moved all =
    let sources = sources_of (module_of lib m) p in
    let patches = patches_of lib m bases p in
    let Q : Patch → Type 0 = λ q. Outcome b (patched q i) in
    let of_sources = All-permutation (λ (f : Fix). Outcome b (put lib m bases p i f)) fs sources moved all in
    let of_patches = All-map Q (patch_of lib m bases p) sources of_sources in
    let reversed = All-permutation Q patches (reverse patches) (IsPermutation-reverse patches) of_patches in
    first_outcome (λ (q : Patch). patched q i) b (reverse patches) (recursion_from_All Q (reverse patches) reversed)

nothing : (lib : List Parts) (m : ℕ) (bases : Bases) (p : PageId) (i : ℕ) (fs : List Fix) → IsPermutation fs (sources_of (module_of lib m) p) → last_patched lib m bases p i ≡ None → AllByRecursion (λ f. put lib m bases p i f ≡ None) fs
unfolding last_patched
nothing lib m bases p i fs moved none =
    let sources = sources_of (module_of lib m) p in
    let patches = patches_of lib m bases p in
    let Q : Patch → Type 0 = λ q. patched q i ≡ None in
    let P : Fix → Type 0 = λ f. put lib m bases p i f ≡ None in
    let reversed = All-from_recursion Q (reverse patches) (none_of (λ (q : Patch). patched q i) (reverse patches) none) in
    let of_patches = All-permutation Q (reverse patches) patches (IsPermutation-sym patches (reverse patches) (IsPermutation-reverse patches)) reversed in
    let of_sources = each_unmap Q (patch_of lib m bases p) sources (recursion_from_All Q patches of_patches) in
    recursion_from_All P fs (All-permutation P sources fs (IsPermutation-sym fs sources moved) (All-from_recursion P sources of_sources))

none_left : (lib : List Parts) (m : ℕ) (bases : Bases) (p : PageId) (i : ℕ) (fs : List Fix) → IsPermutation fs (sources_of (module_of lib m) p) → AllByRecursion (λ f. put lib m bases p i f ≡ None) fs → last_patched lib m bases p i ≡ None
unfolding last_patched
none_left lib m bases p i fs moved each =
    let sources = sources_of (module_of lib m) p in
    let patches = patches_of lib m bases p in
    let Q : Patch → Type 0 = λ q. patched q i ≡ None in
    let P : Fix → Type 0 = λ f. put lib m bases p i f ≡ None in
    let of_sources = All-permutation P fs sources moved (All-from_recursion P fs each) in
    let of_patches = All-map Q (patch_of lib m bases p) sources of_sources in
    let reversed = All-permutation Q patches (reverse patches) (IsPermutation-reverse patches) of_patches in
    none_first (λ (q : Patch). patched q i) (reverse patches) (recursion_from_All Q (reverse patches) reversed)

-- Where no source puts a byte, it is the file's.
pub fixed-raw : (lib : List Parts) (m : ℕ) (bases : Bases) (p : PageId) (i : ℕ) (fs : List Fix) → IsPermutation fs (sources_of (module_of lib m) p) → AllByRecursion (λ f. put lib m bases p i f ≡ None) fs → Fixed lib m bases p i ≡ Raw (module_of lib m) p i
fixed-raw lib m bases p i fs moved each =
    fixed_is lib m bases p i ∙ ap (λ (o : Option ℕ). unwrap_or o (Raw (module_of lib m) p i)) (none_left lib m bases p i fs moved each)

-- Where a source puts a byte, and each other puts none or the same, it is that byte.
pub fixed-put : (lib : List Parts) (m : ℕ) (bases : Bases) (p : PageId) (i b : ℕ) (fs : List Fix) (f : Fix) → IsPermutation fs (sources_of (module_of lib m) p) → AllByRecursion (λ g. Outcome b (put lib m bases p i g)) fs → In f fs → put lib m bases p i f ≡ Some b → Fixed lib m bases p i ≡ b
fixed-put lib m bases p i b fs f moved each inside is =
    elim (outcomes lib m bases p i b fs moved (All-from_recursion (λ (g : Fix). Outcome b (put lib m bases p i g)) fs each)) as (λ s. Fixed lib m bases p i ≡ b) [
      | inl none ↦ absurd (true≢false (sym (ap is_some is) ∙ ap is_some (each_in (λ g. put lib m bases p i g ≡ None) fs (nothing lib m bases p i fs moved none) inside)))
      | inr some ↦ fixed_is lib m bases p i ∙ ap (λ (o : Option ℕ). unwrap_or o (Raw (module_of lib m) p i)) some
    ]

-- ---- the byte of a field

-- A field that begins at offset a of an object, on the page that begins at b: byte i of the page is before the field, or is
-- that of the field.
place_is : (a b : ℕ) → b ≤ a → pos (a - b) ≡ pos a -ℤ pos b
place_is a b from = omega (arith, ints)

place_before : (a b : ℕ) → a < b → negsuc (b - a - 1) ≡ pos a -ℤ pos b
place_before a b below = omega (arith, ints)

index-before : (a b i : ℕ) → b + i < a → index_in (pos a -ℤ pos b) i ≡ None
index-before a b i before =
    ap (λ (z : ℤ). index_in z i) (sym (place_is a b (omega (arith, before)))) ∙ ap (λ (t : Bool). cond t (Some (i - (a - b))) None) (lt-leb (a - b) i (omega (arith, before)))

index-from : (a b i : ℕ) → a ≤ b + i → index_in (pos a -ℤ pos b) i ≡ Some (b + i - a)
index-from a b i from =
    elim (cases_lt a b) as (λ s. index_in (pos a -ℤ pos b) i ≡ Some (b + i - a)) [
      | inl below ↦ ap (λ (z : ℤ). index_in z i) (sym (place_before a b below)) ∙ ap (λ (n : ℕ). Some n) (let e : i + suc (b - a - 1) ≡ b + i - a = omega (arith, below) in e)
      | inr past ↦
          ap (λ (z : ℤ). index_in z i) (sym (place_is a b past)) ∙ ap (λ (t : Bool). cond t (Some (i - (a - b))) None) (le-leb (a - b) i (omega (arith, from, past)))
          ∙ ap (λ (n : ℕ). Some n) (let e : i - (a - b) ≡ b + i - a = omega (arith, past, from) in e)
    ]

-- After its field a source puts nothing.
pub byte-outside : (bytes : List ℕ) (a b i : ℕ) → (b + i < a) ⊎ (a + length bytes ≤ b + i) → byte_if bytes (index_in (pos a -ℤ pos b) i) ≡ None
byte-outside bytes a b i (inl before) = ap (byte_if bytes) (index-before a b i before)
byte-outside bytes a b i (inr after) =
    ap (byte_if bytes) (index-from a b i (omega (arith, after))) ∙ slice_get_past bytes (b + i - a) (omega (arith, after))

pub byte-inside : (bytes : List ℕ) (a b i : ℕ) → a ≤ b + i → b + i < a + length bytes → byte_if bytes (index_in (pos a -ℤ pos b) i) ≡ Some (slice_index bytes (b + i - a))
byte-inside bytes a b i from below =
    ap (byte_if bytes) (index-from a b i from) ∙ slice_get-get_or bytes (b + i - a) 0 (omega (arith, from, below))
