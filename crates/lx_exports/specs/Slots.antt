-- The slots of an entry table as they are computed, and how their bundles are written.
use Rattle.std.specs.Prelude.{◌≡◌, ℕ, ◌+◌, ◌<◌, ◌≤◌, Bool, true, false, List, [], ◌∷◌, ◌++◌, map, length, take, max, slice_index_or}
use Rattle.std.specs.List.{flat_map, range_with_len, AllByRecursion}
use Rattle.lx_bytes.specs.LittleEndian.{little_bytes}
use Rattle.lx_model.specs.Bundles.{Bundle}
use Rattle.lx_model.specs.ExportTables as tables
use Rattle.lx_model.specs.ExportTables.{Exported, slot_or_empty, export_at, empty, narrow_at, wide_at, forwarder}
use Rattle.lx_model.specs.JoinedEntries.{joins, runs_of, parts_of, bundle_of}
use Rattle.lx_exports.specs.declared.slots.Slot.{Slot}
use Rattle.lx_exports.specs.declared.slots.Slot.TheVariants.{Empty, Narrow, Wide, Forwarder}

abbrev pub shown : Slot → tables.Slot
shown Empty = empty
shown (Narrow object flags offset) = narrow_at object (record { flags = flags; offset = offset })
shown (Wide object flags offset) = wide_at object (record { flags = flags; offset = offset })
shown (Forwarder flags import key) = forwarder 0 (record { flags = flags; import = import; key = key })

abbrev pub is_empty : Slot → Bool
is_empty Empty = true
is_empty (Narrow object flags offset) = false
is_empty (Wide object flags offset) = false
is_empty (Forwarder flags import key) = false

abbrev pub greatest_of : List ℕ → ℕ
greatest_of [] = 0
greatest_of (n ∷ ns) = max n (greatest_of ns)

-- what stands at the numbers from 0 up to one
abbrev pub slots_to : ℕ → List Exported → List tables.Slot
slots_to last xs = map (λ n. slot_or_empty (export_at xs n)) (range_with_len 0 (last + 1))

-- ---- bundles

-- the bundles to which slots are joined
abbrev pub bundles_of : List tables.Slot → List Bundle
bundles_of ss = flat_map (λ r. map (bundle_of r.first) (parts_of (r.first ∷ r.others))) (runs_of ss)

-- The first slots, so many, are a bundle: they join, and there are 255 or the next one does not join.
pub record BeginBundle (slots : List Slot) (len : ℕ) : Type 0 where
  pub some : 0 < len
  pub few : len ≤ 255
  pub there : len ≤ length slots
  pub alike : AllByRecursion (λ t. joins (shown (slice_index_or slots 0 Empty)) (shown t) ≡ true) (take len slots)
  pub whole : len < 255 → len < length slots → joins (shown (slice_index_or slots 0 Empty)) (shown (slice_index_or slots len Empty)) ≡ false

-- ---- bytes

abbrev pub entry_bytes : Slot → List ℕ
entry_bytes Empty = []
entry_bytes (Narrow object flags offset) = flags ∷ little_bytes 2 offset
entry_bytes (Wide object flags offset) = flags ∷ little_bytes 4 offset
entry_bytes (Forwarder flags import key) = flags ∷ little_bytes 2 import ++ little_bytes 4 key

-- The count, the type, and the object word or the reserved word.
abbrev pub head_bytes : ℕ → Slot → List ℕ
head_bytes count Empty = count ∷ 0 ∷ []
head_bytes count (Narrow object flags offset) = count ∷ 1 ∷ little_bytes 2 object
head_bytes count (Wide object flags offset) = count ∷ 3 ∷ little_bytes 2 object
head_bytes count (Forwarder flags import key) = count ∷ 4 ∷ little_bytes 2 0
