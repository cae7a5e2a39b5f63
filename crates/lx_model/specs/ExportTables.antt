-- The tables that tell a module's exports: which names they have, and which bundles of entries. The exports have
-- their ordinals already; which ordinals a linker gives stands with the linker.
-- "32-bit Linear eXecutable Module Format": "Entry Table", "Resident or Non-resident Name Table Entry".
use Rattle.std.specs.Prelude.{◌≡◌, ℕ, ◌+◌, ◌*◌, ◌<◌, ◌≤◌, ◌==◌, Bool, true, false, not, IsTrue, List, [], ◌∷◌, map, filter, find, max, replicate, Option, Some, None, option_map}
use Rattle.std.specs.List.{flat_map, filter_map, range_with_len, AllByRecursion}
use Rattle.lx_types.specs.Names.{uppercase}
use Rattle.lx_types.specs.declared.entry.EntryHead.{EntryHead}
use Rattle.lx_types.specs.declared.entry.EntryHead.TheVariants.{At, Gate286, Forward}
use Rattle.lx_types.specs.declared.entry.FwdKey.{FwdKey}
use Rattle.lx_types.specs.declared.entry.FwdKey.TheVariants.{Ordinal, NameAt}
use Rattle.lx_model.specs.NameTables.{Named}
use Rattle.lx_model.specs.EntryTable.{Numbered}
use Rattle.lx_model.specs.Bundles.{AtEntry, GateEntry, ForwardEntry, Bundle, unused, narrow, gates, wide, forwarders, ordinal_count}
use Rattle.lx_model.specs.declared.limits.TheConstants.{MAX_ENTRIES}

pub record Exported : Type 0 where
  pub name : List ℕ
  pub ordinal : ℕ
  pub resident : Bool
  pub words : ℕ  -- parameter words
  pub head : EntryHead
  pub wide : Bool  -- whether its offset is written with 32 bits

-- ---- names

abbrev pub named : Exported → Named
named x = (x.name, x.ordinal)

-- the module's name stands in the place of a description that is empty
abbrev pub described : List ℕ → List ℕ → List ℕ
described name [] = uppercase name
described name (b ∷ bs) = b ∷ bs

-- The module's name comes first, in upper case, and then the resident names in the order of the exports.
abbrev pub resident_table : List ℕ → List Exported → List Named
resident_table name xs = (uppercase name, 0) ∷ map named (filter (λ x. x.resident) xs)

-- The description comes first, and then the other names.
abbrev pub other_table : List ℕ → List ℕ → List Exported → List Named
other_table name about xs = (described name about, 0) ∷ map named (filter (λ x. not x.resident) xs)

-- ---- what stands at an ordinal

pub data Slot : Type 0 where
  empty : Slot
  narrow_at : ℕ → AtEntry → Slot
  gate_at : ℕ → GateEntry → Slot
  wide_at : ℕ → AtEntry → Slot
  forwarder : ℕ → ForwardEntry → Slot

-- An entry is exported, and tells its parameter words.
abbrev pub entry_flags : ℕ → ℕ
entry_flags words = 1 + 8 * words

abbrev pub forward_slot : ℕ → FwdKey → Slot
forward_slot import (Ordinal ordinal) = forwarder 0 (record { flags = 1; import = import; key = ordinal })
forward_slot import (NameAt at) = forwarder 0 (record { flags = 0; import = import; key = at })

abbrev pub head_slot : ℕ → Bool → EntryHead → Slot
head_slot words true (At object offset) = wide_at object (record { flags = entry_flags words; offset = offset })
head_slot words false (At object offset) = narrow_at object (record { flags = entry_flags words; offset = offset })
head_slot words w (Gate286 object offset) = gate_at object (record { flags = entry_flags words; offset = offset; gate = 0 })
head_slot words w (Forward import key) = forward_slot import key

abbrev pub slot_of : Exported → Slot
slot_of x = head_slot x.words x.wide x.head

abbrev pub export_at : List Exported → ℕ → Option Exported
export_at xs n = find (λ x. x.ordinal == n) xs

abbrev pub slot_or_empty : Option Exported → Slot
slot_or_empty None = empty
slot_or_empty (Some x) = slot_of x

abbrev pub greatest : List Exported → ℕ
greatest [] = 0
greatest (x ∷ xs) = max x.ordinal (greatest xs)

-- what stands at the ordinals from 1 to the greatest
abbrev pub slots : List Exported → List Slot
slots xs = map (λ n. slot_or_empty (export_at xs n)) (range_with_len 1 (greatest xs))

-- ---- bundles

abbrev pub slots_of : Bundle → List Slot
slots_of (unused n) = replicate n empty
slots_of (narrow object es) = map (narrow_at object) es
slots_of (gates object es) = map (gate_at object) es
slots_of (wide object es) = map (wide_at object) es
slots_of (forwarders reserved es) = map (forwarder reserved) es

-- of one type, and of one object where the type has one
abbrev pub same_kind : Bundle → Bundle → Bool
same_kind (unused n) (unused m) = true
same_kind (narrow o es) (narrow p fs) = o == p
same_kind (gates o es) (gates p fs) = o == p
same_kind (wide o es) (wide p fs) = o == p
same_kind (forwarders r es) (forwarders s fs) = true
same_kind b c = false

-- Neighbours of one kind are joined: a bundle is followed by another of its kind only where it is full.
abbrev pub AreJoined : List Bundle → Type 0
AreJoined [] = Unit {0}
AreJoined (b ∷ []) = Unit {0}
AreJoined (b ∷ c ∷ bs) = (IsTrue (same_kind b c) → ordinal_count b ≡ MAX_ENTRIES) × AreJoined (c ∷ bs)

-- The bundles of exports: what stands at each ordinal, in bundles that are joined. There is one such list.
pub record AreBundlesOf (xs : List Exported) (bs : List Bundle) : Type 0 where
  pub each : flat_map slots_of bs ≡ slots xs
  pub some : AllByRecursion (λ b. 0 < ordinal_count b) bs
  pub most : AllByRecursion (λ b. ordinal_count b ≤ MAX_ENTRIES) bs
  pub joined : AreJoined bs

-- the exports' entries, by rising ordinals
abbrev pub entries_by_ordinal : List Exported → List Numbered
entries_by_ordinal xs = filter_map (λ n. option_map (λ x. (n, x.head)) (export_at xs n)) (range_with_len 1 (greatest xs))
