-- Where the first modules stand: module m at 10000000h and m times 10000h, each after those before it.
use Rattle.std.specs.Prelude.{◌≡◌, ℕ, zero, suc, ◌+◌, ◌-◌, ◌*◌, ◌/◌, ◌<◌, ◌≤◌, ◌==◌, Bool, true, false, List, [], ◌∷◌, ◌++◌, Some, Ok, find, if◌then◌else◌, length, map, zip, refl}
use Rattle.std.specs.List.{list_all, range_with_len}
use Rattle.std.proofs.Common.{ap, sym, ◌∙◌, arith}
use Rattle.std.proofs.lemmas.Bool.Decides.{nat_tests}
use Rattle.std.proofs.lemmas.List.FromFn.{map-range_with_len_more}
use Rattle.std.proofs.lemmas.Bool.{and_right, and_left}
use Rattle.lx_types.specs.declared.limits.TheConstants.{BASE_UNIT, SHARED_FROM}
use Rattle.lx_types.specs.declared.object.ObjHead.{ObjHead}
use Rattle.lx_types.specs.declared.parts.Parts.{Parts}
use Rattle.base_pick.specs.declared.occupied.AddressRange.{AddressRange}
use Rattle.base_pick.specs.Places.{are_apart, bases_in, is_in_arena, is_place, place_of, places_from, private_arena, range_at, shared_arena, with_base}
use Rattle.link_model.specs.declared.symbols.LaidObject.{LaidObject}
use Rattle.link_model.specs.Link.{Link}
use Rattle.load_model.specs.declared.deeds.Fresh.{Fresh}
use Rattle.load_model.specs.Entering.{placed_from, range_of, ranges_of, with_fresh}
use Rattle.load_model.specs.Modules.{bases_for, is_library, objects_of}
use Rattle.lx_model.specs.Library.{module_of}
use Rattle.image_model.specs.LinkLaws.{laid}
use Rattle.gen_model.specs.Sums.{AreFirstPlaces, library_of}
use Rattle.gen_laws.specs.Laws.{AreFirst, FirstHavePlaces, InputsAreWhole}
use Rattle.gen_laws.proofs.FirstGather.{Stands, stands_at}
use Rattle.gen_laws.proofs.FirstKnown.{library_long}
use Rattle.gen_laws.proofs.FirstShape.{the_object}

-- ---- the places

abbrev pub place : ℕ → ℕ
place m = SHARED_FROM + m * BASE_UNIT

abbrev taken_by : ℕ → AddressRange
taken_by m = range_at (place m) 8192

-- what the first m modules take
abbrev taken : ℕ → List AddressRange
taken m = map taken_by (range_with_len 0 m)

abbrev pub fresh_at : ℕ → Fresh
fresh_at m = record { serial = suc m; «module» = m; bases = place m ∷ [] }

-- ---- which are free

apart_from_others : (i j : ℕ) → j < i → are_apart (taken_by i) (taken_by j) ≡ true
apart_from_others i j lt = grind (arith, nat_tests)

not_from_itself : (i : ℕ) → are_apart (taken_by i) (taken_by i) ≡ false
not_from_itself i = grind (arith, nat_tests)

all_apart : (i a n : ℕ) → a + n ≤ i → list_all (are_apart (taken_by i)) (map taken_by (range_with_len a n)) ≡ true
all_apart i a zero h = refl
all_apart i a (suc n) h =
    rw (apart_from_others i a (omega (arith, h))) (all_apart i (a + 1) n (omega (arith, h)))

some_not_apart : (i a n : ℕ) → a ≤ i → i < a + n → list_all (are_apart (taken_by i)) (map taken_by (range_with_len a n)) ≡ false
some_not_apart i a zero low high = absurd (omega (arith, low, high))
some_not_apart i a (suc n) low high = by (i == a) refl (λ more. some_not_apart i (a + 1) n more (omega (arith, high)))
  where
    by : (b : Bool) → (i == a) ≡ b → (a + 1 ≤ i → list_all (are_apart (taken_by i)) (map taken_by (range_with_len (a + 1) n)) ≡ false) → list_all (are_apart (taken_by i)) (map taken_by (range_with_len a (suc n))) ≡ false
    by true same later =
        let is : i ≡ a = grind (arith, nat_tests) in
        and_left (are_apart (taken_by i) (taken_by a)) (list_all (are_apart (taken_by i)) (map taken_by (range_with_len (a + 1) n)))
        (ap (λ (j : ℕ). are_apart (taken_by i) (taken_by j)) (sym is) ∙ not_from_itself i)
    by false apart later =
        let more : a + 1 ≤ i = grind (arith, nat_tests) in
        and_right (are_apart (taken_by i) (taken_by a)) _ (later more)

in_arena : (m : ℕ) → m < 64 → is_in_arena shared_arena 8192 (place m) ≡ true
in_arena m h = grind (arith, nat_tests)

free : (m : ℕ) → m < 64 → is_place shared_arena (taken m) 8192 (place m) ≡ true
free m h = rw (in_arena m h, all_apart m 0 m (omega arith)) refl

not_free : (m i : ℕ) → i < m → is_place shared_arena (taken m) 8192 (place i) ≡ false
not_free m i h = and_right (is_in_arena shared_arena 8192 (place i)) _ (some_not_apart i 0 m (omega arith) (omega (arith, h)))

-- ---- the first that is free

found_after : (p : ℕ → Bool) (x : ℕ) (xs : List ℕ) → p x ≡ false → find p (x ∷ xs) ≡ find p xs
found_after p x xs e = rw e refl

found_here : (p : ℕ → Bool) (x : ℕ) (xs : List ℕ) → p x ≡ true → find p (x ∷ xs) ≡ Some x
found_here p x xs e = rw e refl

found_first : (p : ℕ → Bool) (f : ℕ → ℕ) (a n i : ℕ) → a ≤ i → i < a + n → ((j : ℕ) → j < i → p (f j) ≡ false) → p (f i) ≡ true → find p (map f (range_with_len a n)) ≡ Some (f i)
found_first p f a zero i low high before here = absurd (omega (arith, low, high))
found_first p f a (suc n) i low high before here = by (i == a) refl (λ more. found_first p f (a + 1) n i more (omega (arith, high)) before here)
  where
    by : (b : Bool) → (i == a) ≡ b → (a + 1 ≤ i → find p (map f (range_with_len (a + 1) n)) ≡ Some (f i)) → find p (map f (range_with_len a (suc n))) ≡ Some (f i)
    by true same later =
        let is : i ≡ a = grind (arith, nat_tests) in
        found_here p (f a) (map f (range_with_len (a + 1) n)) (ap (λ (j : ℕ). p (f j)) (sym is) ∙ here) ∙ ap (λ (j : ℕ). Some (f j)) (sym is)
    by false apart later =
        let more : a + 1 ≤ i = grind (arith, nat_tests) in
        found_after p (f a) (map f (range_with_len (a + 1) n)) (before a (omega (arith, more))) ∙ later more

found_place : (m : ℕ) → m < 64 → find (is_place shared_arena (taken m) 8192) (place 0 ∷ bases_in shared_arena) ≡ Some (place m)
found_place zero h = found_here (is_place shared_arena (taken 0) 8192) (place 0) (bases_in shared_arena) (free 0 h)
found_place (suc m) h =
    found_after (is_place shared_arena (taken (suc m)) 8192) (place 0) (bases_in shared_arena) (not_free (suc m) 0 (omega arith))
    ∙ found_first (is_place shared_arena (taken (suc m)) 8192) place 0 ((shared_arena.to - shared_arena.from) / BASE_UNIT) (suc m) (omega arith) (omega (arith, h)) (λ j before. not_free (suc m) j before) (free (suc m) h)

-- ---- the bases of one module

object_is : (o : ObjHead) → laid o ≡ the_object → (o.size ≡ 8192) × (o.base ≡ place 0)
object_is o e = (ap (λ (x : LaidObject). x.size) e, ap (λ (x : LaidObject). x.base) e)

-- There is one object.
pub record One (os : List ObjHead) : Type 0 where
  pub object : ObjHead
  pub is : os ≡ object ∷ []
  pub size : object.size ≡ 8192
  pub base : object.base ≡ place 0

pub only_one : (os : List ObjHead) → map laid os ≡ the_object ∷ [] → One os
only_one [] e = cc
only_one (o ∷ []) e =
    let same : laid o ≡ the_object = cc in
    let at = object_is o same in record { object = o; is = refl; size = at.0; base = at.1 }
only_one (o ∷ p ∷ os) e = cc

place_found : (o : ObjHead) (m : ℕ) → m < 64 → o.size ≡ 8192 → o.base ≡ place 0 → place_of shared_arena (taken m) o ≡ Some (place m)
place_found o m h size base =
    ap (λ (n : ℕ). find (is_place shared_arena (taken m) n) (o.base ∷ bases_in shared_arena)) size
    ∙ ap (λ (b : ℕ). find (is_place shared_arena (taken m) 8192) (b ∷ bases_in shared_arena)) base
    ∙ found_place m h

nothing_left : (occupied : List AddressRange) (number : ℕ) → places_from shared_arena occupied number [] ≡ Ok []
unfolding places_from
nothing_left occupied number = refl

one_placed : (o : ObjHead) (m : ℕ) → m < 64 → o.size ≡ 8192 → o.base ≡ place 0 → places_from shared_arena (taken m) 1 (o ∷ []) ≡ Ok (place m ∷ [])
unfolding places_from
one_placed o m h size base = rw (places_from, place_found o m h size base) (ap (with_base (place m)) (nothing_left (taken m ++ range_at (place m) o.size ∷ []) 2))

bases_are : (lib : List Parts) (m : ℕ) → m < 64 → Stands lib m (1 + m) → bases_for lib (taken m) m ≡ Ok (place m ∷ [])
unfolding bases_for
bases_are lib m h is =
    let one = only_one (module_of lib m).objects is.objects in
    let o = one.object in
    ap (λ (b : Bool). if b then places_from shared_arena (taken m) 1 (module_of lib m).objects else places_from private_arena [] 1 (module_of lib m).objects) is.library
    ∙ ap (places_from shared_arena (taken m) 1) one.is
    ∙ one_placed o m h one.size one.base

ranges_are : (lib : List Parts) (m : ℕ) → Stands lib m (1 + m) → ranges_of lib m (place m ∷ []) ≡ taken_by m ∷ []
unfolding is_library objects_of
ranges_are lib m is =
    let one = only_one (module_of lib m).objects is.objects in
    ap (λ (b : Bool). if b then map range_of (zip (module_of lib m).objects (place m ∷ [])) else []) is.library
    ∙ ap (λ (os : List ObjHead). map range_of (zip os (place m ∷ []))) one.is
    ∙ ap (λ (n : ℕ). range_at (place m) n ∷ []) one.size

-- ---- all of them

one_more : (lib : List Parts) (serials m : ℕ) (occupied : List AddressRange) (others bases : List ℕ) → bases_for lib occupied m ≡ Ok bases
    → placed_from lib serials occupied (m ∷ others) ≡ with_fresh (record { serial = suc serials; «module» = m; bases = bases }) (placed_from lib (suc serials) (occupied ++ ranges_of lib m bases) others)
unfolding placed_from
one_more lib serials m occupied others bases e = rw (placed_from, e) refl

nothing_placed : (lib : List Parts) (serials : ℕ) (occupied : List AddressRange) → placed_from lib serials occupied [] ≡ Ok []
unfolding placed_from
nothing_placed lib serials occupied = refl

from_m : (lib : List Parts) → length lib ≤ 64 → ((i : ℕ) → i < length lib → Stands lib i (1 + i)) → (n m : ℕ) → m + n ≤ length lib → placed_from lib m (taken m) (range_with_len m n) ≡ Ok (map fresh_at (range_with_len m n))
from_m lib few each zero m h = nothing_placed lib m (taken m)
from_m lib few each (suc n) m h =
    let own = each m (omega (arith, h)) in
    let next : suc m ≡ m + 1 = omega arith in
    let grown : taken m ++ ranges_of lib m (place m ∷ []) ≡ taken (m + 1) = ap (λ (rs : List AddressRange). taken m ++ rs) (ranges_are lib m own) ∙ sym (map-range_with_len_more taken_by 0 m m (omega arith)) in
    one_more lib m m (taken m) (range_with_len (m + 1) n) (place m ∷ []) (bases_are lib m (omega (arith, h, few)) own)
    ∙ ap (λ (s : ℕ). with_fresh (fresh_at m) (placed_from lib s (taken m ++ ranges_of lib m (place m ∷ [])) (range_with_len (m + 1) n))) next
    ∙ ap (λ (rs : List AddressRange). with_fresh (fresh_at m) (placed_from lib (m + 1) rs (range_with_len (m + 1) n))) grown
    ∙ ap (with_fresh (fresh_at m)) (from_m lib few each n (m + 1) (omega (arith, h)))

-- The closed form of the places.
pub places_are : (whole : InputsAreWhole) (links : List Link) → AreFirst links → AreFirstPlaces (library_of links) (map fresh_at (range_with_len 0 (length (library_of links))))
places_are whole links first =
    from_m (library_of links) (let long = library_long links in let few = first.few in omega (arith, long, few)) (stands_at whole links first) (length (library_of links)) 0 (omega arith)

pub first_places : InputsAreWhole → FirstHavePlaces
first_places whole links first = (map fresh_at (range_with_len 0 (length (library_of links))), places_are whole links first)
