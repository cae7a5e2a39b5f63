-- Entry points: where a key of a module leads, through forwarders.
-- "32-bit Linear eXecutable Module Format": "Entry Table" (forwarder entries).
use Rattle.std.specs.Prelude.{◌≡◌, ◌<◌, ℕ, zero, suc, List, length, sum_by, Option, Some, None, option_map, option_and_then, Result, Ok, Err}
use Rattle.lx_types.specs.declared.parts.Parts.{Parts}
use Rattle.lx_types.specs.declared.entry.EntryHead.{EntryHead}
use Rattle.lx_types.specs.declared.entry.EntryHead.TheVariants.{At, Gate286, Forward}
use Rattle.lx_types.specs.declared.entry.EntryKey.{EntryKey}
use Rattle.lx_types.specs.declared.entry.EntryKey.TheVariants as entry_keys
use Rattle.lx_types.specs.declared.entry.FwdKey.{FwdKey}
use Rattle.lx_types.specs.declared.entry.FwdKey.TheVariants.{Ordinal, NameAt}
use Rattle.lx_types.specs.declared.fix.FixTarget.{FixTarget}
use Rattle.lx_types.specs.declared.fix.FixTarget.TheVariants as targets
use Rattle.lx_types.specs.Parts.{proc_name_of, entry_of, ordinal_named}
use Rattle.lx_model.specs.declared.library.Spot.{Spot}
use Rattle.lx_model.specs.declared.library.EntryFault.{EntryFault}
use Rattle.lx_model.specs.declared.library.EntryFault.TheVariants as faults
use Rattle.lx_model.specs.Library.{module_of, import_of}

-- an ordinal of a module
abbrev pub OrdinalOf : Type 0
OrdinalOf = ℕ × ℕ

-- the place of a name in a module
abbrev pub place_named : List Parts → ℕ → List ℕ → Option OrdinalOf
place_named lib m name = option_map (λ ordinal. (m, ordinal)) (ordinal_named (module_of lib m).names name)

-- Where module m means a key of another module. A name stands in the import procedures of m.
abbrev pub key_place : List Parts → ℕ → FwdKey → ℕ → Option OrdinalOf
key_place lib m (Ordinal ordinal) other = Some (other, ordinal)
key_place lib m (NameAt at) other = option_and_then (place_named lib other) (proc_name_of (module_of lib m) at)

-- the place that a key of number `import` of a module's import modules means
abbrev pub import_place : List Parts → ℕ → ℕ → FwdKey → Option OrdinalOf
import_place lib m import key = option_and_then (key_place lib m key) (import_of lib m import)

-- ---- one place

-- what stands at a place: a spot, a fault, or another place
pub data Stands : Type 0 where
  spot : Spot → Stands
  fails : EntryFault → Stands
  forwards : OrdinalOf → Stands

abbrev pub place_or_none : Option OrdinalOf → Stands
place_or_none (Some place) = forwards place
place_or_none None = fails faults.NoEntry

abbrev pub head_at : List Parts → ℕ → Option EntryHead → Stands
head_at lib m None = fails faults.NoEntry
head_at lib m (Some (At object offset)) = spot (record { «module» = m; object = object; offset = offset })
head_at lib m (Some (Gate286 object offset)) = fails faults.Gate286
head_at lib m (Some (Forward import key)) = place_or_none (import_place lib m import key)

abbrev pub stands_at : List Parts → OrdinalOf → Stands
stands_at lib place = head_at lib place.0 (entry_of (module_of lib place.0).entries place.1)

-- ---- from place to place

-- the spot to which n places lead; the first of them is this one
unfoldable pub followed : ℕ → List Parts → OrdinalOf → Result Spot EntryFault
followed zero lib place = Err faults.ForwardLoop
followed (suc n) lib place = elim (stands_at lib place) [
  | spot s ↦ Ok s
  | fails e ↦ Err e
  | forwards next ↦ followed n lib next
]

-- the place to which n forwarders lead, where there are as many
unfoldable pub forwarded : ℕ → List Parts → OrdinalOf → Option OrdinalOf
forwarded zero lib place = Some place
forwarded (suc n) lib place = elim (stands_at lib place) [
  | spot s ↦ None
  | fails e ↦ None
  | forwards next ↦ forwarded n lib next
]

-- forwarders lead to a place a second time
abbrev pub ComesBack : List Parts → OrdinalOf → Type 0
ComesBack lib place = (i : ℕ) × (j : ℕ) × (i < j) × ((p : OrdinalOf) × (forwarded i lib place ≡ Some p) × (forwarded j lib place ≡ Some p))

-- how many entries a library has: a walk over more places than that comes to one of them a second time
abbrev pub entry_count : List Parts → ℕ
entry_count lib = sum_by (λ m. length m.entries) lib

-- The spot of an ordinal of a module. Forwarders that lead to a place a second time are a loop.
unfoldable pub Entry : List Parts → OrdinalOf → Result Spot EntryFault
Entry lib place = followed (suc (entry_count lib)) lib place

abbrev pub entry_or_none : List Parts → Option OrdinalOf → Result Spot EntryFault
entry_or_none lib (Some place) = Entry lib place
entry_or_none lib None = Err faults.NoEntry

-- the spot of a name of a module
abbrev pub EntryNamed : List Parts → ℕ → List ℕ → Result Spot EntryFault
EntryNamed lib m name = entry_or_none lib (place_named lib m name)

-- the spot of an entry point that is asked for by ordinal or by name
abbrev pub EntryOf : List Parts → ℕ → EntryKey → Result Spot EntryFault
EntryOf lib m (entry_keys.Ordinal ordinal) = Entry lib (m, ordinal)
EntryOf lib m (entry_keys.Named name) = EntryNamed lib m name

-- the spot of a fixup's target
abbrev pub target_spot : List Parts → ℕ → FixTarget → Result Spot EntryFault
target_spot lib m (targets.Internal object offset) = Ok (record { «module» = m; object = object; offset = offset })
target_spot lib m (targets.Ordinal import ordinal) = entry_or_none lib (import_place lib m import (Ordinal ordinal))
target_spot lib m (targets.Named import name_at) = entry_or_none lib (import_place lib m import (NameAt name_at))
target_spot lib m (targets.Own ordinal) = Entry lib (m, ordinal)
