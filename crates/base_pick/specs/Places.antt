-- Where the objects of a module stand: at their linked bases, or at the least places that are free.
-- "32-bit Linear eXecutable Module Format": "Object Table" (relocation base address). The two arenas and the choice of
-- bases are this loader's own.
use Rattle.std.specs.Prelude.{ℕ, ◌+◌, ◌-◌, ◌*◌, ◌/◌, ◌%◌, ◌==◌, ◌&&◌, ◌||◌, Bool, nat_le, List, [], ◌∷◌, ◌++◌, map, find, Option, Some, None, Result, Ok, Err, if◌then◌else◌}
use Rattle.std.specs.List.{range_with_len, list_all}
use Rattle.lx_types.specs.Addresses.{room}
use Rattle.lx_types.specs.declared.limits.TheConstants.{BASE_UNIT, PRIVATE_FROM, SHARED_FROM, SHARED_END}
use Rattle.lx_types.specs.Parts.{is_library_of}
use Rattle.lx_types.specs.declared.object.ObjHead.{ObjHead}
use Rattle.lx_types.specs.declared.parts.Parts.{Parts}
use Rattle.base_pick.specs.declared.occupied.AddressRange.{AddressRange}
use Rattle.base_pick.specs.declared.picking.ArenaFull.{ArenaFull}

-- the addresses that an object of a size takes from a base on
abbrev pub range_at : ℕ → ℕ → AddressRange
range_at base size = record { from = base; to = base + room size }

-- two ranges share no address
abbrev pub are_apart : AddressRange → AddressRange → Bool
are_apart a b = nat_le a.to b.from || nat_le b.to a.from

-- a multiple of 65,536, from which on an object of a size lies within the arena
abbrev pub is_in_arena : AddressRange → ℕ → ℕ → Bool
is_in_arena arena size base = base % BASE_UNIT == 0 && nat_le arena.from base && nat_le (base + room size) arena.to

-- such a place at which the object is apart from what is occupied
abbrev pub is_place : AddressRange → List AddressRange → ℕ → ℕ → Bool
is_place arena occupied size base = is_in_arena arena size base && list_all (are_apart (range_at base size)) occupied

-- the multiples of 65,536 in an arena that begins with one, in their order
abbrev pub bases_in : AddressRange → List ℕ
bases_in arena = map (λ k. arena.from + k * BASE_UNIT) (range_with_len 0 ((arena.to - arena.from) / BASE_UNIT))

-- an object's place: its linked base where it may stand there, otherwise the least place
abbrev pub place_of : AddressRange → List AddressRange → ObjHead → Option ℕ
place_of arena occupied o = find (is_place arena occupied o.size) (o.base ∷ bases_in arena)

-- a base in front of those of the objects that follow
abbrev pub with_base : ℕ → Result (List ℕ) ArenaFull → Result (List ℕ) ArenaFull
with_base base (Ok bases) = Ok (base ∷ bases)
with_base base (Err full) = Err full

-- The bases of objects, which count from `number` on, in their order: each stands apart from what was
-- occupied and from those before it. The first that has no place is named.
unfoldable pub places_from : AddressRange → List AddressRange → ℕ → List ObjHead → Result (List ℕ) ArenaFull
places_from arena occupied number [] = Ok []
places_from arena occupied number (o ∷ others) = elim (place_of arena occupied o) [
  | Some base ↦ with_base base (places_from arena (occupied ++ range_at base o.size ∷ []) (number + 1) others)
  | None ↦ Err (record { object = number; size = o.size })
]

-- the objects of programs stand in the private arena, those of libraries in the shared one
abbrev pub private_arena : AddressRange
private_arena = record { from = PRIVATE_FROM; to = SHARED_FROM }

abbrev pub shared_arena : AddressRange
shared_arena = record { from = SHARED_FROM; to = SHARED_END }

-- The bases of a module's objects beside what is occupied in the shared arena. The private arena is empty
-- for each program.
abbrev pub places_of : List AddressRange → Parts → Result (List ℕ) ArenaFull
places_of occupied m =
    if is_library_of m then places_from shared_arena occupied 1 m.objects else places_from private_arena [] 1 m.objects
