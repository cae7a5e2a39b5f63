-- The bundles of exports: the ordinals in order, joined as far as they can be. `ExportTables.antt` says what bundles of
-- exports are; these are the ones.
-- "32-bit Linear eXecutable Module Format": "Entry Table".
use Rattle.std.specs.Prelude.{ℕ, zero, suc, ◌==◌, Bool, true, false, List, [], ◌∷◌, length, map, take, drop, Option, Some, None, if◌then◌else◌}
use Rattle.std.specs.List.{flat_map, filter_map}
use Rattle.lx_model.specs.Bundles.{AtEntry, GateEntry, ForwardEntry, Bundle, unused, narrow, gates, wide, forwarders}
use Rattle.lx_model.specs.ExportTables.{Exported, Slot, empty, narrow_at, gate_at, wide_at, forwarder, slots, AreBundlesOf}
use Rattle.lx_model.specs.declared.limits.TheConstants.{MAX_ENTRIES}

-- ---- neighbours of one type, and of one object where the type has one

abbrev pub joins : Slot → Slot → Bool
joins empty empty = true
joins (narrow_at object e) (narrow_at other f) = object == other
joins (gate_at object e) (gate_at other f) = object == other
joins (wide_at object e) (wide_at other f) = object == other
joins (forwarder reserved e) (forwarder other f) = reserved == other
joins s t = false

-- A slot, and the neighbours after it that join.
pub record Run : Type 0 where
  pub first : Slot
  pub others : List Slot

abbrev pub before_runs : Slot → List Run → List Run
before_runs s [] = record { first = s; others = [] } ∷ []
before_runs s (r ∷ rs) =
    if joins s r.first then record { first = s; others = r.first ∷ r.others } ∷ rs else record { first = s; others = [] } ∷ r ∷ rs

abbrev pub runs_of : List Slot → List Run
runs_of [] = []
runs_of (s ∷ ss) = before_runs s (runs_of ss)

-- A run in parts, each as long as it can be, and at most n of them.
abbrev pub parts_from : ℕ → List Slot → List (List Slot)
parts_from zero ss = []
parts_from (suc n) [] = []
parts_from (suc n) (s ∷ ss) = take MAX_ENTRIES (s ∷ ss) ∷ parts_from n (drop MAX_ENTRIES (s ∷ ss))

abbrev pub parts_of : List Slot → List (List Slot)
parts_of ss = parts_from (length ss) ss

-- ---- the bundle of slots that join

abbrev pub at_in : Slot → Option AtEntry
at_in empty = None
at_in (narrow_at object e) = Some e
at_in (gate_at object e) = None
at_in (wide_at object e) = Some e
at_in (forwarder reserved e) = None

abbrev pub gate_in : Slot → Option GateEntry
gate_in empty = None
gate_in (narrow_at object e) = None
gate_in (gate_at object e) = Some e
gate_in (wide_at object e) = None
gate_in (forwarder reserved e) = None

abbrev pub forwarder_in : Slot → Option ForwardEntry
forwarder_in empty = None
forwarder_in (narrow_at object e) = None
forwarder_in (gate_at object e) = None
forwarder_in (wide_at object e) = None
forwarder_in (forwarder reserved e) = Some e

abbrev pub bundle_of : Slot → List Slot → Bundle
bundle_of empty ss = unused (length ss)
bundle_of (narrow_at object e) ss = narrow object (filter_map at_in ss)
bundle_of (gate_at object e) ss = gates object (filter_map gate_in ss)
bundle_of (wide_at object e) ss = wide object (filter_map at_in ss)
bundle_of (forwarder reserved e) ss = forwarders reserved (filter_map forwarder_in ss)

unfoldable pub bundles_for : List Exported → List Bundle
bundles_for xs = flat_map (λ r. map (bundle_of r.first) (parts_of (r.first ∷ r.others))) (runs_of (slots xs))

-- They are the bundles of the exports.
abbrev pub BundlesAreJoined : Type 0
BundlesAreJoined = (xs : List Exported) → AreBundlesOf xs (bundles_for xs)
