-- Where residences stand.
use Rattle.std.specs.Prelude.{◌≡◌, ℕ, ◌-◌, ◌^◌, ◌≤◌, true, List, [], ◌∷◌, length, Some, slice_index, if◌then◌else◌}
use Rattle.std.specs.List.{AllByRecursion}
use Rattle.lx_types.specs.Sound.{IsNumberOf}
use Rattle.lx_types.specs.declared.object.ObjHead.{ObjHead}
use Rattle.base_pick.specs.declared.occupied.AddressRange.{AddressRange}
use Rattle.base_pick.specs.Places.{is_in_arena, private_arena, shared_arena}
use Rattle.load_model.specs.declared.deeds.Entry.{Entry}
use Rattle.load_model.specs.Modules.{Library, Held, is_library, objects_of, object_at}
use Rattle.load_model.specs.State.{Failing, Residence, residence_of}
use Rattle.load_model.specs.Histories.{state_after, Legal}

-- Objects have bases, one each: multiples of 65,536 from which on they lie within an arena.
abbrev pub StandIn : AddressRange → List ObjHead → List ℕ → Type 0
StandIn arena [] [] = Unit {0}
StandIn arena (o ∷ os) (base ∷ bases) = (is_in_arena arena o.size base ≡ true) × StandIn arena os bases
StandIn arena [] (base ∷ bases) = ⊥
StandIn arena (o ∷ os) [] = ⊥

abbrev pub arena_of : Library → ℕ → AddressRange
arena_of lib m = if is_library lib m then shared_arena else private_arena

abbrev pub Stands : Library → ℕ → List ℕ → Type 0
Stands lib m bases = StandIn (arena_of lib m) (objects_of lib m) bases

-- So stands each residence, in every legal history.
abbrev pub BasesStand : Type 0
BasesStand =
    (lib : Library) (failing : Failing) (contents : Held) (h : List Entry) → Legal lib failing contents h →
    AllByRecursion (λ (r : Residence). Stands lib r.«module» r.bases) (state_after lib failing h).residences

-- So an object of a module that is resident has 2^28 bytes at most, a base in its arena, and its end inside.
abbrev pub ResidentsFit : Type 0
ResidentsFit =
    (lib : Library) (failing : Failing) (contents : Held) (h : List Entry) (m object : ℕ) (r : Residence) → Legal lib failing contents h →
    residence_of (state_after lib failing h) m ≡ Some r → IsNumberOf object (length (objects_of lib m)) →
    (is_in_arena (arena_of lib m) (object_at lib m object).size (slice_index r.bases (object - 1)) ≡ true) × ((object_at lib m object).size ≤ 2 ^ 28)
