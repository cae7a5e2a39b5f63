-- Objects that stand in an arena, and modules that are placed one after the other.
use Rattle.std.proofs.Common.{◌≡◌, ℕ, zero, suc, ◌+◌, ◌%◌, ◌<◌, ◌≤◌, ◌&&◌, ◌==◌, Bool, true, false, cond, List, [], ◌∷◌, ◌++◌, length, get_or, map, take, drop, Option, Some, None, Result, Ok, Err, refl, sym, ◌∙◌, ap, subst, arith, append_assoc}
use Rattle.std.specs.Prelude.{find, flat_map, nat_le, zip}
use Rattle.std.proofs.Math.Seq.{drop-cons}
use Rattle.std.proofs.lemmas.Bool.{leb-true, and_parts}
use Rattle.std.proofs.lemmas.List.{take_all, take_more, append-nil, drop_all, get_or-map, length-map, map-append}
use Rattle.std.proofs.lemmas.Grind.{flat_map-append}
use Rattle.std.proofs.lemmas.List.Elements.{All-from_recursion}
use Rattle.std.proofs.lemmas.Slice.Zip.{get_or-zip, length-zip}
use Rattle.lx_types.specs.Addresses.{room}
use Rattle.lx_types.specs.declared.limits.TheConstants.{BASE_UNIT, SHARED_FROM, SHARED_END}
use Rattle.lx_types.specs.Parts.{is_library_of}
use Rattle.lx_types.specs.declared.object.ObjHead.{ObjHead}
use Rattle.lx_model.specs.Library.{module_of}
use Rattle.base_pick.specs.declared.occupied.AddressRange.{AddressRange}
use Rattle.base_pick.specs.declared.picking.ArenaFull.{ArenaFull}
use Rattle.base_pick.specs.Places.{range_at, is_in_arena, is_place, bases_in, place_of, with_base, places_from, private_arena, shared_arena}
use Rattle.load_model.specs.declared.deeds.Fresh.{Fresh}
use Rattle.load_model.specs.Modules.{Library, is_library, objects_of, bases_for}
use Rattle.load_model.specs.State.{Residence, Eager}
use Rattle.load_model.specs.Entering.{NoRoom, range_of, ranges_of, resident_ranges, with_fresh, placed_from}
use Rattle.load_model.specs.ResidenceBases.{StandIn, Stands}
use Rattle.lx_types.specs.declared.fail.Fail.{Fail}
use Rattle.lx_types.specs.declared.fail.Fail.TheVariants.{Said, NoMemory}
use Rattle.lx_types.specs.Answers.{Answers}
use Rattle.residence_table.specs.declared.placing.NoRoom.{NoRoom as Unplaced}
use Rattle.residence_table.specs.Residences.{residences, unwritten, unwritten_residences}
use Rattle.residence_table.specs.Placing.{AreResidencesOf, no_room_of}

-- ---- objects that stand

-- an object that lies within the shared arena
pub record IsShared (size base : ℕ) : Type 0 where
  pub from : SHARED_FROM ≤ base
  pub to : base + room size ≤ SHARED_END

shared_bounds : (size base : ℕ) → is_in_arena shared_arena size base ≡ true → IsShared size base
shared_bounds size base is = record {
  from = leb-true SHARED_FROM base (and_parts (base % BASE_UNIT == 0) (nat_le SHARED_FROM base) (and_parts (base % BASE_UNIT == 0 && nat_le SHARED_FROM base) (nat_le (base + room size) SHARED_END) is).0).1;
  to = leb-true (base + room size) SHARED_END (and_parts (base % BASE_UNIT == 0 && nat_le SHARED_FROM base) (nat_le (base + room size) SHARED_END) is).1;
}

pub stand_each : (arena : AddressRange) (os : List ObjHead) (bases : List ℕ) → StandIn arena os bases → length os ≡ length bases
stand_each arena [] [] all = refl
stand_each arena (o ∷ os) (base ∷ bases) all = (let rest = stand_each arena os bases all.1 in omega (arith, rest))
stand_each arena [] (base ∷ bases) all = absurd all
stand_each arena (o ∷ os) [] all = absurd all

object_stands : (arena : AddressRange) (os : List ObjHead) (bases : List ℕ) (k : ℕ) (d : ObjHead) → StandIn arena os bases → k < length os →
    is_in_arena arena (get_or os k d).size (get_or bases k 0) ≡ true
object_stands arena [] [] k d all below = absurd (omega (arith, below))
object_stands arena (o ∷ os) (base ∷ bases) zero d all below = all.0
object_stands arena (o ∷ os) (base ∷ bases) (suc k) d all below = object_stands arena os bases k d all.1 (omega (arith, below))
object_stands arena [] (base ∷ bases) k d all below = absurd all
object_stands arena (o ∷ os) [] k d all below = absurd all

pub object_shared : (os : List ObjHead) (bases : List ℕ) (k : ℕ) (d : ObjHead) → StandIn shared_arena os bases → k < length os → IsShared (get_or os k d).size (get_or bases k 0)
object_shared os bases k d all below = shared_bounds (get_or os k d).size (get_or bases k 0) (object_stands shared_arena os bases k d all below)

-- the ranges of one object more
pub ranges_more : (os : List ObjHead) (bases : List ℕ) (k : ℕ) (d : ObjHead) (start now new : List AddressRange) → length os ≡ length bases → k < length os →
    now ≡ start ++ take k (map range_of (zip os bases)) → new ≡ now ++ range_at (get_or bases k 0) (get_or os k d).size ∷ [] → new ≡ start ++ take (k + 1) (map range_of (zip os bases))
ranges_more os bases k d start now new each below so_far is =
    let other : ObjHead × ℕ = (d, 0) in
    let long = length-zip os bases in
    let in_zip : k < length (zip os bases) = omega (arith, long, each, below) in
    let in_map : k < length (map range_of (zip os bases)) = omega (arith, in_zip, length-map (zip os bases) range_of) in
    let range : get_or (map range_of (zip os bases)) k (range_of (d, 0)) ≡ range_at (get_or bases k 0) (get_or os k d).size =
    get_or-map range_of (zip os bases) k (d, 0) (range_of (d, 0)) in_zip ∙ ap range_of (get_or-zip os bases k (d, 0) below (omega (arith, each, below)))
    in
    is ∙ ap (λ xs. xs ++ range_at (get_or bases k 0) (get_or os k d).size ∷ []) so_far
    ∙ append_assoc start (take k (map range_of (zip os bases))) (range_at (get_or bases k 0) (get_or os k d).size ∷ [])
    ∙ ap (λ ys. start ++ ys) (ap (λ r. take k (map range_of (zip os bases)) ++ r ∷ []) (sym range) ∙ sym (take_more (map range_of (zip os bases)) k (range_of (d, 0)) in_map))

-- ---- the ranges of a module

pub stands_shared : (lib : Library) (m : ℕ) (bases : List ℕ) → is_library lib m ≡ true → Stands lib m bases → StandIn shared_arena (objects_of lib m) bases
stands_shared lib m bases is all = subst (λ b. StandIn (cond b shared_arena private_arena) (objects_of lib m) bases) is all

pub ranges_shared : (lib : Library) (m : ℕ) (bases : List ℕ) → is_library lib m ≡ true → ranges_of lib m bases ≡ map range_of (zip (objects_of lib m) bases)
ranges_shared lib m bases is = ap (λ b. cond b (map range_of (zip (objects_of lib m) bases)) []) is

pub ranges_private : (lib : Library) (m : ℕ) (bases : List ℕ) → is_library lib m ≡ false → ranges_of lib m bases ≡ []
ranges_private lib m bases is = ap (λ b. cond b (map range_of (zip (objects_of lib m) bases)) []) is

-- ---- bases that were picked stand

found_passes : (p : ℕ → Bool) (xs : List ℕ) (x : ℕ) → find p xs ≡ Some x → p x ≡ true
found_passes p [] x e = cc
found_passes p (y ∷ ys) x e = step (p y) refl e (found_passes p ys x)
  where
    step : (b : Bool) → p y ≡ b → cond b (Some y) (find p ys) ≡ Some x → (find p ys ≡ Some x → p x ≡ true) → p x ≡ true
    step true is e later = (let same : y ≡ x = cc in ap p (sym same) ∙ is)
    step false is e later = later e

one_base : (arena : AddressRange) (o : ObjHead) (os : List ObjHead) (base : ℕ) (r : Result (List ℕ) ArenaFull) (bases : List ℕ) → is_in_arena arena o.size base ≡ true →
    ((bs : List ℕ) → r ≡ Ok bs → StandIn arena os bs) → with_base base r ≡ Ok bases → StandIn arena (o ∷ os) bases
one_base arena o os base (Ok bs) bases there each e =
    let same : base ∷ bs ≡ bases = cc in
    let In : List ℕ → Type 0 = λ xs. StandIn arena (o ∷ os) xs in
    subst In same (there, each bs refl)
one_base arena o os base (Err full) bases there each e = cc

placed_in : (arena : AddressRange) (os : List ObjHead) (occupied : List AddressRange) (n : ℕ) (bases : List ℕ) → places_from arena occupied n os ≡ Ok bases → StandIn arena os bases
unfolding places_from
placed_in arena [] occupied n bases e =
    let same : [] ≡ bases = cc in
    let In : List ℕ → Type 0 = λ xs. StandIn arena [] xs in
    subst In same tt
placed_in arena (o ∷ os) occupied n bases e = step (place_of arena occupied o) refl e (λ occ bs h. placed_in arena os occ (n + 1) bs h)
  where
    step : (r : Option ℕ) → place_of arena occupied o ≡ r →
        elim r as (λ _. Result (List ℕ) ArenaFull) [
          | Some base ↦ with_base base (places_from arena (occupied ++ range_at base o.size ∷ []) (n + 1) os)
          | None ↦ Err (record { object = n; size = o.size })
        ] ≡ Ok bases →
        ((occ : List AddressRange) (bs : List ℕ) → places_from arena occ (n + 1) os ≡ Ok bs → StandIn arena os bs) → StandIn arena (o ∷ os) bases
    step (Some base) is e each =
        one_base arena o os base (places_from arena (occupied ++ range_at base o.size ∷ []) (n + 1) os) bases
        (and_parts _ _ (found_passes (is_place arena occupied o.size) (o.base ∷ bases_in arena) base is)).0 (each (occupied ++ range_at base o.size ∷ [])) e
    step None is e each = cc

pub module_stands : (lib : Library) (occupied : List AddressRange) (m : ℕ) (bases : List ℕ) → bases_for lib occupied m ≡ Ok bases → Stands lib m bases
unfolding bases_for is_library objects_of
module_stands lib occupied m bases e = step (is_library_of (module_of lib m)) e
  where
    step : (b : Bool) → cond b (places_from shared_arena occupied 1 (module_of lib m).objects) (places_from private_arena [] 1 (module_of lib m).objects) ≡ Ok bases →
        StandIn (cond b shared_arena private_arena) (module_of lib m).objects bases
    step true e = placed_in shared_arena (module_of lib m).objects occupied 1 bases e
    step false e = placed_in private_arena (module_of lib m).objects [] 1 bases e

-- ---- modules one after the other

-- what was placed, in front of what follows
abbrev pub placed_before : List Fresh → Result (List Fresh) NoRoom → Result (List Fresh) NoRoom
placed_before fresh (Ok more) = Ok (fresh ++ more)
placed_before fresh (Err none) = Err none

pub placed_nothing : (r : Result (List Fresh) NoRoom) → placed_before [] r ≡ r
placed_nothing (Ok more) = refl
placed_nothing (Err none) = refl

before_with : (fresh : List Fresh) (f : Fresh) (r : Result (List Fresh) NoRoom) → placed_before fresh (with_fresh f r) ≡ placed_before (fresh ++ f ∷ []) r
before_with fresh f (Ok more) = ap Ok (sym (append_assoc fresh (f ∷ []) more))
before_with fresh f (Err none) = refl

-- the first module has its bases, or has no place
placed_first : (lib : Library) (serials : ℕ) (occupied : List AddressRange) (m : ℕ) (others : List ℕ) (bases : List ℕ) → bases_for lib occupied m ≡ Ok bases →
    placed_from lib serials occupied (m ∷ others) ≡
    with_fresh (record { serial = suc serials; «module» = m; bases = bases }) (placed_from lib (suc serials) (occupied ++ ranges_of lib m bases) others)
unfolding placed_from
placed_first lib serials occupied m others bases is = rw (placed_from, is) refl

placed_none : (lib : Library) (serials : ℕ) (occupied : List AddressRange) (m : ℕ) (others : List ℕ) (full : ArenaFull) → bases_for lib occupied m ≡ Err full →
    placed_from lib serials occupied (m ∷ others) ≡ Err (record { of = m; object = full })
unfolding placed_from
placed_none lib serials occupied m others full is = rw (placed_from, is) refl

-- The first modules are placed: what is left to do.
pub record ArePlaced (lib : Library) (serials : ℕ) (occupied : List AddressRange) (modules : List ℕ) (n serial : ℕ) (taken : List AddressRange) (fresh : List Fresh) : Type 0 where
  pub serial_is : serial ≡ serials + n
  pub rest : placed_from lib serials occupied modules ≡ placed_before fresh (placed_from lib serial taken (drop n modules))
  pub names : map (λ (f : Fresh). f.«module») fresh ≡ take n modules

pub none_placed : (lib : Library) (serials : ℕ) (occupied : List AddressRange) (modules : List ℕ) → ArePlaced lib serials occupied modules 0 serials occupied []
none_placed lib serials occupied modules = record {
  serial_is = omega arith;
  rest = sym (placed_nothing (placed_from lib serials occupied modules));
  names = refl;
}

pub one_placed : (lib : Library) (serials : ℕ) (occupied : List AddressRange) (modules : List ℕ) (n serial : ℕ) (taken now : List AddressRange) (fresh : List Fresh) (bases : List ℕ) →
    n < length modules → ArePlaced lib serials occupied modules n serial taken fresh → bases_for lib taken (get_or modules n 0) ≡ Ok bases →
    now ≡ taken ++ ranges_of lib (get_or modules n 0) bases →
    ArePlaced lib serials occupied modules (n + 1) (serial + 1) now (fresh ++ record { serial = serial + 1; «module» = get_or modules n 0; bases = bases } ∷ [])
one_placed lib serials occupied modules n serial taken now fresh bases below are is now_is =
    let next : suc serial ≡ serial + 1 = omega arith in
    let further : suc n ≡ n + 1 = omega arith in
    let Made : ℕ → Fresh = λ s. record { serial = s; «module» = get_or modules n 0; bases = bases } in
    record {
      serial_is = omega (arith, are.serial_is);
      rest =
          are.rest ∙ ap (λ ms. placed_before fresh (placed_from lib serial taken ms)) (drop-cons modules n 0 below)
          ∙ ap (placed_before fresh) (placed_first lib serial taken (get_or modules n 0) (drop (suc n) modules) bases is)
          ∙ before_with fresh (Made (suc serial)) (placed_from lib (suc serial) (taken ++ ranges_of lib (get_or modules n 0) bases) (drop (suc n) modules))
          ∙ ap (λ s. placed_before (fresh ++ Made s ∷ []) (placed_from lib s (taken ++ ranges_of lib (get_or modules n 0) bases) (drop (suc n) modules))) next
          ∙ ap (λ t. placed_before (fresh ++ Made (serial + 1) ∷ []) (placed_from lib (serial + 1) t (drop (suc n) modules))) (sym now_is)
          ∙ ap (λ k. placed_before (fresh ++ Made (serial + 1) ∷ []) (placed_from lib (serial + 1) now (drop k modules))) further;
      names =
          map-append (λ (f : Fresh). f.«module») fresh (Made (serial + 1) ∷ []) ∙ ap (λ ms. ms ++ get_or modules n 0 ∷ []) are.names ∙ sym (take_more modules n 0 below);
    }

pub none_has_place : (lib : Library) (serials : ℕ) (occupied : List AddressRange) (modules : List ℕ) (n serial : ℕ) (taken : List AddressRange) (fresh : List Fresh) (full : ArenaFull) →
    n < length modules → ArePlaced lib serials occupied modules n serial taken fresh → bases_for lib taken (get_or modules n 0) ≡ Err full →
    placed_from lib serials occupied modules ≡ Err (record { of = get_or modules n 0; object = full })
none_has_place lib serials occupied modules n serial taken fresh full below are is =
    are.rest ∙ ap (λ ms. placed_before fresh (placed_from lib serial taken ms)) (drop-cons modules n 0 below)
    ∙ ap (placed_before fresh) (placed_none lib serial taken (get_or modules n 0) (drop (suc n) modules) full is)

pub all_placed : (lib : Library) (serials : ℕ) (occupied : List AddressRange) (modules : List ℕ) (n serial : ℕ) (taken : List AddressRange) (fresh : List Fresh) →
    length modules ≤ n → ArePlaced lib serials occupied modules n serial taken fresh → placed_from lib serials occupied modules ≡ Ok fresh
unfolding placed_from
all_placed lib serials occupied modules n serial taken fresh past are =
    are.rest ∙ ap (λ ms. placed_before fresh (placed_from lib serial taken ms)) (drop_all n modules past) ∙ ap Ok (append-nil fresh)

-- a module that has no place, as it is told
pub told_none : (lib : Library) (serials : ℕ) (occupied : List AddressRange) (modules : List ℕ) (n serial : ℕ) (taken : List AddressRange) (fresh : List Fresh) (P : List ℕ → Type 0)
    (Q : List Fresh → Type 0) (why : Fail Unplaced) → n < length modules → ArePlaced lib serials occupied modules n serial taken fresh →
    Answers {A = List ℕ} (Err why) P (λ none. (none.of ≡ get_or modules n 0) × (bases_for lib taken (get_or modules n 0) ≡ Err none.object)) →
    Answers {A = List Fresh} (Err why) Q (λ none. placed_from lib serials occupied modules ≡ Err (no_room_of none))
told_none lib serials occupied modules n serial taken fresh P Q (Said none) below are said =
    none_has_place lib serials occupied modules n serial taken fresh none.object below are said.1 ∙ ap (λ m. Err (record { of = m; object = none.object })) (sym said.0)
told_none lib serials occupied modules n serial taken fresh P Q NoMemory below are said = tt

-- ---- what is taken

module _ {T : Type 0} (lib : Library) (rows : List (Residence × T)) (placement : AreResidencesOf lib (residences rows)) (k : ℕ) (s : Residence × T) (is : s ≡ get_or rows k s) (below : k < length rows) where
  this : get_or (residences rows) k s.0 ≡ s.0
  this = get_or-map (λ (x : Residence × T). x.0) rows k s s.0 below ∙ ap (λ (x : Residence × T). x.0) (sym is)

  in_residences : k < length (residences rows)
  in_residences = omega (arith, below, length-map rows (λ (x : Residence × T). x.0))

  pub stay_within : s.0.«module» < length lib
  stay_within = (let named = ap (λ (r : Residence). r.«module») this in let within = placement.within k s.0 in_residences in omega (arith, named, within))

  pub stay_stands : Stands lib s.0.«module» s.0.bases
  stay_stands =
      let Stand : Residence → Type 0 = λ r. Stands lib r.«module» r.bases in
      subst Stand this (All-from_recursion Stand (residences rows) placement.bases k s.0 in_residences)

  pub taken_more : (now new : List AddressRange) → now ≡ flat_map (λ (r : Residence). ranges_of lib r.«module» r.bases) (take k (residences rows)) →
      new ≡ now ++ ranges_of lib s.0.«module» s.0.bases → new ≡ flat_map (λ (r : Residence). ranges_of lib r.«module» r.bases) (take (k + 1) (residences rows))
  taken_more now new so_far new_is =
      let f : Residence → List AddressRange = λ r. ranges_of lib r.«module» r.bases in
      new_is ∙ ap (λ rs. rs ++ f s.0) so_far
      ∙ ap (λ rs. flat_map f (take k (residences rows)) ++ rs) (sym (append-nil (f s.0)) ∙ ap (λ (r : Residence). f r ++ []) (sym this))
      ∙ sym (ap (flat_map f) (take_more (residences rows) k s.0 in_residences) ∙ flat_map-append f (take k (residences rows)) (get_or (residences rows) k s.0 ∷ []))

-- whatever was written to them
ranges_written : (lib : Library) (rs : List Residence) → flat_map (λ (r : Residence). ranges_of lib r.«module» r.bases) (map unwritten rs) ≡ flat_map (λ (r : Residence). ranges_of lib r.«module» r.bases) rs
ranges_written lib [] = refl
ranges_written lib (r ∷ rs) = ap (λ ranges. ranges_of lib r.«module» r.bases ++ ranges) (ranges_written lib rs)

pub taken_all : {T : Type 0} (lib : Library) (rows : List (Residence × T)) (e : Eager) (k : ℕ) (now : List AddressRange) → unwritten_residences e ≡ residences rows → length rows ≤ k →
    now ≡ flat_map (λ (r : Residence). ranges_of lib r.«module» r.bases) (take k (residences rows)) → now ≡ resident_ranges lib e
unfolding resident_ranges
taken_all {T} lib rows e k now same past so_far =
    let f : Residence → List AddressRange = λ r. ranges_of lib r.«module» r.bases in
    so_far ∙ ap (flat_map f) (take_all k (residences rows) (omega (arith, past, length-map rows (λ (x : Residence × T). x.0))) ∙ sym same)
    ∙ ranges_written lib e.residences
