-- Where residences stand, entry by entry.
use Rattle.std.proofs.Common.{◌≡◌, ℕ, suc, ◌+◌, ◌==◌, Bool, true, false, if◌then◌else◌, cond, List, [], ◌∷◌, ◌++◌, map, filter, find, Option, Some, None, Result, Ok, Err, refl, sym, ◌∙◌, ap, subst, append_assoc}
use Rattle.std.specs.List.{AllByRecursion}
use Rattle.std.proofs.lemmas.List.{append-nil}
use Rattle.lx_types.specs.Object.{class_of}
use Rattle.lx_types.specs.declared.object.Class.{Class}
use Rattle.lx_types.specs.declared.object.Class.TheVariants as classes
use Rattle.lx_types.specs.declared.object.ObjHead.{ObjHead}
use Rattle.lx_types.specs.Parts.{is_library_of}
use Rattle.lx_model.specs.Library.{module_of}
use Rattle.base_pick.specs.declared.occupied.AddressRange.{AddressRange}
use Rattle.base_pick.specs.declared.picking.ArenaFull.{ArenaFull}
use Rattle.base_pick.specs.Places.{range_at, is_in_arena, is_place, bases_in, place_of, with_base, places_from, private_arena, shared_arena}
use Rattle.load_model.specs.declared.deeds.Fresh.{Fresh}
use Rattle.load_model.specs.declared.deeds.Deed.{Deed}
use Rattle.load_model.specs.declared.deeds.Deed.TheVariants as deeds
use Rattle.load_model.specs.declared.deeds.Entry.{Entry}
use Rattle.load_model.specs.Modules.{Library, Held, is_library, objects_of, bases_for, object_at}
use Rattle.load_model.specs.State.{Failing, Written, Residence, Eager, with_process}
use Rattle.load_model.specs.Entering.{NoRoom, ranges_of, with_fresh, placed_from, placing, resident_ranges, newcomers, residence_from, after_entering}
use Rattle.load_model.specs.Initialising.{enter_deed}
use Rattle.load_model.specs.Leaving.{after_leaving}
use Rattle.load_model.specs.Memory.{with_write}
use Rattle.load_model.specs.Asks.{ask_in, after_write, after_deed, deed_of}
use Rattle.load_model.specs.Histories.{state_after, AllFollow, Legal}
use Rattle.load_model.specs.ResidenceBases.{StandIn, arena_of, Stands, BasesStand, ResidentsFit}
use Rattle.load_model.proofs.Bytes.{find_is}
use Rattle.std.specs.Prelude.{slice_index, slice_index_or, nat_le}
use Rattle.std.proofs.Common.{zero, ◌<◌, ◌≤◌, ◌-◌, ◌^◌, length, arith}
use Rattle.std.proofs.lemmas.Bool.{leb-true}
use Rattle.lx_types.specs.Addresses.{room}
use Rattle.lx_types.specs.Parts.{no_object}
use Rattle.load_model.specs.State.{residence_of}
use Rattle.load_model.proofs.Bools.{and_left, and_right}
use Rattle.load_model.proofs.Kept.{enter_step}
use Rattle.load_model.proofs.Growing.{one_more_is_after}

-- ---- one module

found_passes : (p : ℕ → Bool) (xs : List ℕ) (x : ℕ) → find p xs ≡ Some x → p x ≡ true
found_passes p [] x e = cc
found_passes p (y ∷ ys) x e = step (p y) refl e (found_passes p ys x)
  where
    step : (b : Bool) → p y ≡ b → cond b (Some y) (find p ys) ≡ Some x → (find p ys ≡ Some x → p x ≡ true) → p x ≡ true
    step true is e later = (let same : y ≡ x = cc in ap p (sym same) ∙ is)
    step false is e later = later e

one_base : (arena : AddressRange) (o : ObjHead) (os : List ObjHead) (base : ℕ) (r : Result (List ℕ) ArenaFull) (bases : List ℕ) → is_in_arena arena o.size base ≡ true →
    ((bs : List ℕ) → r ≡ Ok bs → StandIn arena os bs) → with_base base r ≡ Ok bases → StandIn arena (o ∷ os) bases
one_base arena o os base (Ok bs) bases there each e =
    let same : base ∷ bs ≡ bases = cc in
    let In : List ℕ → Type 0 = λ xs. StandIn arena (o ∷ os) xs in
    subst In same (there, each bs refl)
one_base arena o os base (Err full) bases there each e = cc

placed_in : (arena : AddressRange) (os : List ObjHead) (occupied : List AddressRange) (n : ℕ) (bases : List ℕ) → places_from arena occupied n os ≡ Ok bases → StandIn arena os bases
unfolding places_from
placed_in arena [] occupied n bases e =
    let same : [] ≡ bases = cc in
    let In : List ℕ → Type 0 = λ xs. StandIn arena [] xs in
    subst In same tt
placed_in arena (o ∷ os) occupied n bases e = step (place_of arena occupied o) refl e (λ occ bs h. placed_in arena os occ (n + 1) bs h)
  where
    step : (r : Option ℕ) → place_of arena occupied o ≡ r →
        elim r as (λ _. Result (List ℕ) ArenaFull) [
          | Some base ↦ with_base base (places_from arena (occupied ++ range_at base o.size ∷ []) (n + 1) os)
          | None ↦ Err (record { object = n; size = o.size })
        ] ≡ Ok bases →
        ((occ : List AddressRange) (bs : List ℕ) → places_from arena occ (n + 1) os ≡ Ok bs → StandIn arena os bs) → StandIn arena (o ∷ os) bases
    step (Some base) is e each =
        one_base arena o os base (places_from arena (occupied ++ range_at base o.size ∷ []) (n + 1) os) bases
        (and_left _ _ (found_passes (is_place arena occupied o.size) (o.base ∷ bases_in arena) base is)) (each (occupied ++ range_at base o.size ∷ [])) e
    step None is e each = cc

module_stands : (lib : Library) (occupied : List AddressRange) (m : ℕ) (bases : List ℕ) → bases_for lib occupied m ≡ Ok bases → Stands lib m bases
unfolding bases_for is_library objects_of
module_stands lib occupied m bases e = step (is_library_of (module_of lib m)) e
  where
    step : (b : Bool) → (if b then places_from shared_arena occupied 1 (module_of lib m).objects else places_from private_arena [] 1 (module_of lib m).objects) ≡ Ok bases →
        StandIn (if b then shared_arena else private_arena) (module_of lib m).objects bases
    step true e = placed_in shared_arena (module_of lib m).objects occupied 1 bases e
    step false e = placed_in private_arena (module_of lib m).objects [] 1 bases e

-- ---- newcomers

abbrev FreshStand : Library → List Fresh → Type 0
FreshStand lib fresh = AllByRecursion (λ (f : Fresh). Stands lib f.«module» f.bases) fresh

one_fresh : (lib : Library) (f : Fresh) (r : Result (List Fresh) NoRoom) (fresh : List Fresh) → Stands lib f.«module» f.bases →
    ((xs : List Fresh) → r ≡ Ok xs → FreshStand lib xs) → with_fresh f r ≡ Ok fresh → FreshStand lib fresh
one_fresh lib f (Ok xs) fresh there each e =
    let same : f ∷ xs ≡ fresh = cc in
    let All : List Fresh → Type 0 = FreshStand lib in
    subst All same (there, each xs refl)
one_fresh lib f (Err x) fresh there each e = cc

fresh_stand : (lib : Library) (ms : List ℕ) (serials : ℕ) (occupied : List AddressRange) (fresh : List Fresh) → placed_from lib serials occupied ms ≡ Ok fresh → FreshStand lib fresh
unfolding placed_from
fresh_stand lib [] serials occupied fresh e =
    let same : [] ≡ fresh = cc in
    let All : List Fresh → Type 0 = FreshStand lib in
    subst All same tt
fresh_stand lib (m ∷ ms) serials occupied fresh e = step (bases_for lib occupied m) refl e (λ occ xs h. fresh_stand lib ms (suc serials) occ xs h)
  where
    step : (r : Result (List ℕ) ArenaFull) → bases_for lib occupied m ≡ r →
        elim r as (λ _. Result (List Fresh) NoRoom) [
          | Err x ↦ Err (record { of = m; object = x })
          | Ok bases ↦ with_fresh (record { serial = suc serials; «module» = m; bases = bases }) (placed_from lib (suc serials) (occupied ++ ranges_of lib m bases) ms)
        ] ≡ Ok fresh →
        ((occ : List AddressRange) (xs : List Fresh) → placed_from lib (suc serials) occ ms ≡ Ok xs → FreshStand lib xs) → FreshStand lib fresh
    step (Err x) is e each = cc
    step (Ok bases) is e each =
        one_fresh lib (record { serial = suc serials; «module» = m; bases = bases }) (placed_from lib (suc serials) (occupied ++ ranges_of lib m bases) ms) fresh
        (module_stands lib occupied m bases is) (each (occupied ++ ranges_of lib m bases)) e

-- ---- one entry

abbrev AllStand : Library → List Residence → Type 0
AllStand lib rs = AllByRecursion (λ (r : Residence). Stands lib r.«module» r.bases) rs

stand_append : (lib : Library) (rs : List Residence) (fresh : List Fresh) → AllStand lib rs → FreshStand lib fresh → AllStand lib (rs ++ map residence_from fresh)
stand_append lib [] [] h k = tt
stand_append lib [] (f ∷ fresh) h k = (k.0, stand_append lib [] fresh tt k.1)
stand_append lib (r ∷ rs) fresh h k = (h.0, stand_append lib rs fresh h.1 k)

stand_filter : (lib : Library) (g : Residence → Bool) (rs : List Residence) → AllStand lib rs → AllStand lib (filter g rs)
stand_filter lib g [] h = tt
stand_filter lib g (r ∷ rs) h = step (g r) (stand_filter lib g rs h.1)
  where
    step : (b : Bool) → AllStand lib (filter g rs) → AllStand lib (cond b (r ∷ filter g rs) (filter g rs))
    step true later = (h.0, later)
    step false later = later

stand_written : (lib : Library) (serial : ℕ) (w : Written) (rs : List Residence) → AllStand lib rs → AllStand lib (map (with_write serial w) rs)
stand_written lib serial w [] h = tt
stand_written lib serial w (r ∷ rs) h = (step (r.serial == serial), stand_written lib serial w rs h.1)
  where
    step : (b : Bool) → (let x : Residence = if b then record r { writes = r.writes ++ w ∷ [] } else r in Stands lib x.«module» x.bases)
    step true = h.0
    step false = h.0

after_write_stands : (lib : Library) (e : Eager) (pid serial : ℕ) (w : Written) (c : Class) → AllStand lib e.residences → AllStand lib (after_write e pid serial w c).residences
unfolding with_process
after_write_stands lib e pid serial w classes.Code h = h
after_write_stands lib e pid serial w classes.Private h = h
after_write_stands lib e pid serial w classes.Shared h = stand_written lib serial w e.residences h

deed_stands : (lib : Library) (contents : Held) (e : Eager) (pid : ℕ) (d : Deed) → d ≡ deed_of lib contents e pid (ask_in d) → AllStand lib e.residences → AllStand lib (after_deed lib e pid d).residences
unfolding after_deed after_entering after_leaving with_process deed_of enter_deed placing
deed_stands lib contents e pid (deeds.Enter how m fresh calls) is h =
    stand_append lib e.residences fresh h
    (fresh_stand lib (newcomers lib e pid m) e.serials (resident_ranges lib e) fresh (enter_step lib e pid how m (placing lib e pid m) fresh calls is))
deed_stands lib contents e pid (deeds.Full how m of object size) is h = h
deed_stands lib contents e pid (deeds.Failed how m by fresh calls gone) is h = h
deed_stands lib contents e pid (deeds.Free m calls gone) is h = stand_filter lib _ e.residences h
deed_stands lib contents e pid (deeds.Exit calls gone) is h = stand_filter lib _ e.residences h
deed_stands lib contents e pid (deeds.Fault serial m p) is h = h
deed_stands lib contents e pid (deeds.Write serial m object offset bytes) is h = after_write_stands lib e pid serial _ (class_of (object_at lib m object)) h
deed_stands lib contents e pid (deeds.Debug serial m object offset bytes) is h =
    after_write_stands lib e pid serial (record { object = object; offset = offset; bytes = bytes }) classes.Private h
deed_stands lib contents e pid (deeds.Shared serial m object offset bytes) is h = h

-- ---- all of them

all_stand : (lib : Library) (failing : Failing) (contents : Held) (h before : List Entry) → AllFollow lib failing contents before h →
    AllStand lib (state_after lib failing before).residences → AllStand lib (state_after lib failing (before ++ h)).residences
all_stand lib failing contents [] before all stand = (let S : List Entry → Type 0 = λ b. AllStand lib (state_after lib failing b).residences in subst S (sym (append-nil before)) stand)
all_stand lib failing contents (x ∷ h) before all stand =
    let S : List Entry → Type 0 = λ b. AllStand lib (state_after lib failing b).residences in
    let After : Eager → Type 0 = λ e. AllStand lib e.residences in
    subst S (append_assoc before (x ∷ []) h)
    (all_stand lib failing contents h (before ++ x ∷ []) all.1
    (subst After (sym (one_more_is_after lib failing before x)) (deed_stands lib contents (state_after lib failing before) x.pid x.deed all.0.done stand)))

pub bases_stand : BasesStand
unfolding Legal state_after
bases_stand lib failing contents h legal = all_stand lib failing contents h [] legal tt

-- ---- one object of a residence

one_of : (lib : Library) (f : Residence → Bool) (rs : List Residence) (r : Residence) → AllStand lib rs → find f rs ≡ Some r → Stands lib r.«module» r.bases
one_of lib f [] r all is = cc
one_of lib f (x ∷ rs) r all is = step (f x) is (one_of lib f rs r all.1)
  where
    step : (b : Bool) → cond b (Some x) (find f rs) ≡ Some r → (find f rs ≡ Some r → Stands lib r.«module» r.bases) → Stands lib r.«module» r.bases
    step true e later = (let same : x ≡ r = cc in subst (λ (y : Residence). Stands lib y.«module» y.bases) same all.0)
    step false e later = later e

object_stands : (arena : AddressRange) (os : List ObjHead) (bases : List ℕ) (k : ℕ) → StandIn arena os bases → k < length os →
    is_in_arena arena (slice_index_or os k no_object).size (slice_index bases k) ≡ true
object_stands arena [] [] k all below = absurd (let none : ⊥ = omega arith in none)
object_stands arena (o ∷ os) (base ∷ bases) zero all below = all.0
object_stands arena (o ∷ os) (base ∷ bases) (suc k) all below = object_stands arena os bases k all.1 (omega arith)
object_stands arena [] (base ∷ bases) k all below = absurd all
object_stands arena (o ∷ os) [] k all below = absurd all

pub room_holds : (size : ℕ) → size ≤ room size
room_holds size = omega arith

small : (from to size base : ℕ) → to ≤ from + 2 ^ 28 → nat_le from base ≡ true → nat_le (base + room size) to ≡ true → size ≤ 2 ^ 28
small from to size base wide low high =
    let least : from ≤ base = leb-true from base low in
    let most : base + room size ≤ to = leb-true (base + room size) to high in
    let more : size ≤ room size = room_holds size in
    sums from to size base (room size) wide least most more
  where
    sums : (from to size base r : ℕ) → to ≤ from + 2 ^ 28 → from ≤ base → base + r ≤ to → size ≤ r → size ≤ 2 ^ 28
    sums from to size base r wide least most more = omega arith

wide_at : (b : Bool) → (if b then shared_arena else private_arena).to ≤ (if b then shared_arena else private_arena).from + 2 ^ 28
wide_at true = omega arith
wide_at false = omega arith

object_small : (lib : Library) (m size base : ℕ) → is_in_arena (arena_of lib m) size base ≡ true → size ≤ 2 ^ 28
object_small lib m size base h =
    small (arena_of lib m).from (arena_of lib m).to size base (wide_at (is_library lib m)) (and_right _ _ (and_left _ _ h)) (and_right _ _ h)

pub residents_fit : ResidentsFit
unfolding residence_of objects_of object_at
residents_fit lib failing contents h m object r legal is number =
    let e : Eager = state_after lib failing h in
    let stands : Stands lib r.«module» r.bases = one_of lib (λ x. x.«module» == m) e.residences r (bases_stand lib failing contents h legal) is in
    let same : r.«module» ≡ m = find_is m e.residences r is in
    let at : Stands lib m r.bases = subst (λ k. Stands lib k r.bases) same stands in
    let low : 1 ≤ object = number.0 in
    let high : object ≤ length (objects_of lib m) = number.1 in
    let there : is_in_arena (arena_of lib m) (object_at lib m object).size (slice_index r.bases (object - 1)) ≡ true =
    object_stands (arena_of lib m) (objects_of lib m) r.bases (object - 1) at (omega (arith, low, high))
    in
    (there, object_small lib m (object_at lib m object).size (slice_index r.bases (object - 1)) there)
