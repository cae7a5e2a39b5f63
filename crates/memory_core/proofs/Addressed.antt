-- What is in memory has addresses: objects lie within an arena, and no page has more bytes than a page.
use Rattle.std.specs.Prelude.{◌≡◌, ℕ, zero, suc, ◌+◌, ◌-◌, ◌*◌, ◌/◌, ◌^◌, ◌<◌, ◌≤◌, Bool, true, false, if◌then◌else◌, List, [], ◌∷◌, ◌++◌, All, Ok, Err, Result, length, map, nat_le, slice_index, slice_index_or, refl}
use Rattle.std.specs.List.{AllByRecursion, range_with_len}
use Rattle.std.proofs.Common.{ap, sym, ◌∙◌, arith, subst, get_or}
use Rattle.std.proofs.lemmas.Bool.{leb-true}
use Rattle.std.proofs.lemmas.List.Elements.{All-map}
use Rattle.std.proofs.lemmas.List.FromFn.{get_or-range_with_len, length-map-range_with_len, length-range_with_len}
use Rattle.lx_types.specs.Addresses.{room}
use Rattle.lx_types.specs.Object.{pages_of}
use Rattle.lx_types.specs.Parts.{no_object}
use Rattle.lx_types.specs.declared.object.ObjHead.{ObjHead}
use Rattle.base_pick.specs.Places.{is_in_arena, private_arena, shared_arena}
use Rattle.base_pick.specs.declared.occupied.AddressRange.{AddressRange}
use Rattle.base_pick.specs.declared.picking.ArenaFull.{ArenaFull}
use Rattle.load_model.specs.declared.deeds.Fresh.{Fresh}
use Rattle.load_model.specs.Entering.{NoRoom, placed_from, ranges_of, residence_from, with_fresh}
use Rattle.load_model.specs.Memory.{Bytes, page}
use Rattle.load_model.specs.Modules.{Library, bases_for, fixed_bytes, is_invalid, is_library, object_at, objects_of}
use Rattle.load_model.specs.ResidenceBases.{StandIn, Stands, arena_of}
use Rattle.load_model.specs.State.{Eager, Residence}
use Rattle.load_model.proofs.Bools.{and_right}
use Rattle.memory_model.specs.declared.held.ModuleMemory.{ModuleMemory}
use Rattle.memory_model.specs.declared.held.ObjectMemory.{ObjectMemory}
use Rattle.memory_model.specs.declared.held.PageMemory.{PageMemory}
use Rattle.memory_model.specs.declared.held.PageMemory.TheVariants.{Invalid, Held}
use Rattle.memory_model.specs.Memory.{bytes_in, module_memory, object_memory, page_memory}
use Rattle.residence_table.proofs.Placed.{module_stands}
use Rattle.memory_core.specs.Addresses.{AreAddressed, FitsPage, IsAddressed}
use Rattle.memory_core.specs.Brought.{AllStand, memory_of, standing}
use Rattle.memory_core.proofs.HeldBytes.{few_in}

-- ---- all that begins stands in its arena

one_stands : (lib : Library) (f : Fresh) (r : Result (List Fresh) NoRoom) (fresh : List Fresh) → Stands lib f.«module» f.bases
    → ((others : List Fresh) → r ≡ Ok others → AllStand lib others) → with_fresh f r ≡ Ok fresh → AllStand lib fresh
one_stands lib f (Ok others) fresh here each is =
    let same : f ∷ others ≡ fresh = cc (is) in
    let P : List Fresh → Type 0 = AllStand lib in
    subst P same (here, each others refl)
one_stands lib f (Err none) fresh here each is = absurd cc

pub all_stand : (lib : Library) (serials : ℕ) (order : List ℕ) (occupied : List AddressRange) (fresh : List Fresh) → placed_from lib serials occupied order ≡ Ok fresh → AllStand lib fresh
unfolding placed_from
all_stand lib serials [] occupied fresh is =
    let same : [] ≡ fresh = cc (is) in
    let P : List Fresh → Type 0 = AllStand lib in
    subst P same tt
all_stand lib serials (m ∷ others) occupied fresh is = step (bases_for lib occupied m) refl is (λ taken more at. all_stand lib (suc serials) others taken more at)
  where
    step : (r : Result (List ℕ) ArenaFull) → bases_for lib occupied m ≡ r →
        elim r as (λ _. Result (List Fresh) NoRoom) [
          | Err full ↦ Err (record { of = m; object = full })
          | Ok bases ↦ with_fresh (record { serial = suc serials; «module» = m; bases = bases }) (placed_from lib (suc serials) (occupied ++ ranges_of lib m bases) others)
        ] ≡ Ok fresh →
        ((taken : List AddressRange) (more : List Fresh) → placed_from lib (suc serials) taken others ≡ Ok more → AllStand lib more) → AllStand lib fresh
    step (Err full) at placed each = absurd cc
    step (Ok bases) at placed each =
        one_stands lib (record { serial = suc serials; «module» = m; bases = bases }) (placed_from lib (suc serials) (occupied ++ ranges_of lib m bases) others) fresh
        (module_stands lib occupied m bases at) (each (occupied ++ ranges_of lib m bases)) placed

-- ---- an object

stands_at : (arena : AddressRange) (os : List ObjHead) (bases : List ℕ) (k : ℕ) → StandIn arena os bases → k < length os
    → is_in_arena arena (slice_index_or os k no_object).size (slice_index bases k) ≡ true
stands_at arena [] [] k all below = absurd (omega (arith, below))
stands_at arena (o ∷ os) (base ∷ bases) zero all below = all.0
stands_at arena (o ∷ os) (base ∷ bases) (suc k) all below = stands_at arena os bases k all.1 (omega (arith, below))
stands_at arena [] (base ∷ bases) k all below = absurd all
stands_at arena (o ∷ os) [] k all below = absurd all

low_end : (b : Bool) → (if b then shared_arena else private_arena).to ≤ 0x2000_0000
low_end true = omega arith
low_end false = omega arith

-- The pages of an object that lies below an address end before the next unit after it.
pages_end : (arena : AddressRange) (o : ObjHead) (base : ℕ) → arena.to ≤ 0x2000_0000 → is_in_arena arena o.size base ≡ true → base + pages_of o * 4096 < 2 ^ 32
pages_end arena o base low is =
    let most : base + room o.size ≤ arena.to = leb-true (base + room o.size) arena.to (and_right _ _ is) in
    let more : o.size ≤ room o.size = room_holds o.size in
    let few : pages_of o * 4096 ≤ o.size + 4095 = omega arith in
    sums base (pages_of o * 4096) o.size (room o.size) arena.to low most more few
  where
    room_holds : (size : ℕ) → size ≤ room size
    room_holds size = omega arith

    sums : (base pages size room end : ℕ) → end ≤ 0x2000_0000 → base + room ≤ end → size ≤ room → pages ≤ size + 4095 → base + pages < 2 ^ 32
    sums base pages size room end low most more few = omega (arith, low, most, more, few)

page_fits : (lib : Library) (e : Eager) (r : Residence) (object p : ℕ) → FitsPage (page_memory lib e r object p)
unfolding Bytes
page_fits lib e r object p = by (is_invalid lib r.«module» (page object p))
  where
    len : ℕ
    len = bytes_in (object_at lib r.«module» object) p

    by : (b : Bool) → FitsPage (if b then Invalid else Held (Bytes lib (fixed_bytes lib) e 1 r object (p * 4096) len))
    by true = tt
    by false =
        let size : length (Bytes lib (fixed_bytes lib) e 1 r object (p * 4096) len) ≡ len = length-map-range_with_len _ (p * 4096) len in
        let few : len ≤ 4096 = few_in (object_at lib r.«module» object) p in
        omega (arith, size, few)

object_addressed : (lib : Library) (e : Eager) (f : Fresh) (number : ℕ) → Stands lib f.«module» f.bases → 1 ≤ number → number ≤ length (objects_of lib f.«module»)
    → IsAddressed (object_memory lib e (residence_from f) number)
unfolding objects_of object_at
object_addressed lib e f number stands low high =
    let m = f.«module» in
    let o = object_at lib m number in
    let there : is_in_arena (arena_of lib m) o.size (slice_index f.bases (number - 1)) ≡ true =
    stands_at (arena_of lib m) (objects_of lib m) f.bases (number - 1) stands (omega (arith, low, high)) in
    let count : length (map (page_memory lib e (residence_from f) number) (range_with_len 0 (pages_of o))) ≡ pages_of o =
    length-map-range_with_len (page_memory lib e (residence_from f) number) 0 (pages_of o) in
    let P : ℕ → Type 0 = λ n. slice_index f.bases (number - 1) + n * 4096 < 2 ^ 32 in
    record {
      room = subst P (sym count) (pages_end (arena_of lib m) o (slice_index f.bases (number - 1)) (low_end (is_library lib m)) there);
      pages = All-map FitsPage (page_memory lib e (residence_from f) number) (range_with_len 0 (pages_of o)) (λ k d below. page_fits lib e (residence_from f) number (get_or (range_with_len 0 (pages_of o)) k d));
    }

-- ---- a module, and all

in_range : (n k d : ℕ) → k < length (range_with_len 1 n) → (1 ≤ get_or (range_with_len 1 n) k d) × (get_or (range_with_len 1 n) k d ≤ n)
in_range n k d below =
    let size = length-range_with_len 1 n in
    let at : get_or (range_with_len 1 n) k d ≡ 1 + k = get_or-range_with_len 1 n k d (omega (arith, size, below)) in
    (omega (arith, at), omega (arith, at, size, below))

module_addressed : (lib : Library) (e : Eager) (f : Fresh) → Stands lib f.«module» f.bases → AreAddressed (module_memory lib e (residence_from f))
module_addressed lib e f stands =
    let n = length (objects_of lib f.«module») in
    All-map IsAddressed (object_memory lib e (residence_from f)) (range_with_len 1 n)
    (λ k d below. let in_it = in_range n k d below in object_addressed lib e f (get_or (range_with_len 1 n) k d) stands in_it.0 in_it.1)

each_stands : (lib : Library) (fresh : List Fresh) (k : ℕ) (d : Fresh) → AllStand lib fresh → k < length fresh → Stands lib (get_or fresh k d).«module» (get_or fresh k d).bases
each_stands lib [] k d all below = absurd (omega (arith, below))
each_stands lib (f ∷ fresh) zero d all below = all.0
each_stands lib (f ∷ fresh) (suc k) d all below = each_stands lib fresh k d all.1 (omega (arith, below))

pub all_addressed : (lib : Library) (fresh : List Fresh) → AllStand lib fresh → All AreAddressed (memory_of lib fresh)
all_addressed lib fresh all =
    All-map AreAddressed (λ (f : Fresh). module_memory lib (standing fresh) (residence_from f)) fresh
    (λ k d below. module_addressed lib (standing fresh) (get_or fresh k d) (each_stands lib fresh k d all below))
