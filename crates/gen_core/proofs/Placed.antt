-- Where modules stand that were placed, in an arena in which nothing else is.
use Rattle.std.specs.Prelude.{◌≡◌, ℕ, ◌+◌, ◌<◌, List, [], ◌∷◌, ◌++◌, Result, Ok, Err, get_or, is_ok, length, refl}
use Rattle.std.specs.List.{range_with_len}
use Rattle.std.proofs.Common.{ap, sym, ◌∙◌, arith, map-id, subst, true≢false}
use Rattle.std.proofs.lemmas.List.FromFn.{get_or-range_with_len, length-range_with_len, map-range_with_len_more}
use Rattle.base_pick.specs.declared.occupied.AddressRange.{AddressRange}
use Rattle.lx_types.specs.declared.bases.ModBases.{ModBases}
use Rattle.load_model.specs.declared.deeds.Fresh.{Fresh}
use Rattle.load_model.specs.Entering.{NoRoom, placed_from, resident_ranges}
use Rattle.load_model.specs.Modules.{Library}
use Rattle.load_model.specs.State.{Eager, nothing_yet}
use Rattle.gen_model.specs.Sums.{AreFirstPlaces}
use Rattle.gen_laws.specs.Laws.{FirstHavePlaces}
use Rattle.gen_core.specs.Linking.{IsFirstLibrary}

abbrev pub stand_of : Fresh → ModBases
stand_of f = record { «module» = f.«module»; objects = f.bases }

-- ---- the numbers of modules

pub numbers_more : (m : ℕ) → range_with_len 0 m ++ m ∷ [] ≡ range_with_len 0 (m + 1)
numbers_more m =
    ap (λ (ns : List ℕ). ns ++ m ∷ []) (sym (map-id (range_with_len 0 m))) ∙ sym (map-range_with_len_more (λ (n : ℕ). n) 0 m m (omega arith)) ∙ map-id (range_with_len 0 (m + 1))

pub numbers_below : (numbers : List ℕ) (n : ℕ) → numbers ≡ range_with_len 0 n → (k d : ℕ) → k < length numbers → get_or numbers k d < n
numbers_below numbers n is k d lt =
    let long : length numbers ≡ n = ap length is ∙ length-range_with_len 0 n in
    let at : get_or numbers k d ≡ 0 + k = ap (λ (ns : List ℕ). get_or ns k d) is ∙ get_or-range_with_len 0 n k d (omega (arith, long, lt)) in
    omega (arith, at, long, lt)

-- ---- where nothing is resident

-- the state in which nothing is
abbrev pub empty : Eager
empty = nothing_yet []

none_resident : (lib : Library) → resident_ranges lib empty ≡ []
unfolding resident_ranges
none_resident lib = refl

-- What was placed there is the first places.
pub are_placed : (lib : Library) (numbers : List ℕ) (r : Result (List Fresh) NoRoom) → numbers ≡ range_with_len 0 (length lib) → placed_from lib 0 (resident_ranges lib empty) numbers ≡ r → placed_from lib 0 [] (range_with_len 0 (length lib)) ≡ r
are_placed lib numbers r is placed =
    ap (placed_from lib 0 []) (sym is) ∙ ap (λ (ranges : List AddressRange). placed_from lib 0 ranges numbers) (sym (none_resident lib)) ∙ placed

-- There is room for each.
pub room_for_all : FirstHavePlaces → (lib : Library) (none : NoRoom) → IsFirstLibrary lib → placed_from lib 0 [] (range_with_len 0 (length lib)) ≡ Err none → ⊥
room_for_all places lib none is refused =
    let there = places is.links is.first in
    let placed : placed_from lib 0 [] (range_with_len 0 (length lib)) ≡ Ok there.0 = subst (λ (l : Library). AreFirstPlaces l there.0) (sym is.is) there.1 in
    true≢false (ap is_ok (sym placed ∙ refused))
