-- The exports of a module with their ordinals, and what a linker asks of them.
-- "32-bit Linear eXecutable Module Format": "Entry Table", "Resident or Non-resident Name Table Entry".
use Rattle.std.specs.Prelude.{◌≡◌, ℕ, ◌<◌, ◌≤◌, Bool, true, IsTrue, List, [], ◌∷◌, map, length, Option}
use Rattle.std.specs.List.{zip, AllByRecursion}
use Rattle.std.specs.Option.{option_map_or}
use Rattle.lx_types.specs.declared.entry.EntryHead.{EntryHead}
use Rattle.lx_types.specs.declared.entry.EntryHead.TheVariants.{At, Gate286, Forward}
use Rattle.lx_model.specs.ExportTables.{Exported}
use Rattle.link_model.specs.Words.{first_of}
use Rattle.link_model.specs.Exports.{ordinals, wrong_ordinal, ordinal_past, name_twice}
use Rattle.link_model.specs.declared.limits.TheConstants.{MAX_NUMBER}
use Rattle.link_model.specs.declared.refusals.EntryRefusal.{EntryRefusal}
use Rattle.lx_exports.specs.declared.exports.OutEntry.{OutEntry}

-- ---- ordinals

-- the ordinals that exports ask for
abbrev pub asked : List OutEntry → List (Option ℕ)
asked xs = map (λ x. x.ordinal) xs

-- the name of an export that asks for no ordinal is resident
abbrev pub is_resident : OutEntry → Bool
is_resident x = option_map_or (λ n. x.resident) x.ordinal true

-- An export with the ordinal that it has.
abbrev pub numbered : OutEntry → ℕ → Exported
numbered x ordinal = record {
  name = x.name;
  ordinal = ordinal;
  resident = is_resident x;
  words = x.words;
  head = x.head;
  wide = x.wide;
}

abbrev pub with_ordinals : List OutEntry → List ℕ → List Exported
with_ordinals xs ns = map (λ q. numbered q.0 q.1) (zip xs ns)

-- the exports of a module, in their order
abbrev pub exported_of : List OutEntry → List Exported
exported_of xs = with_ordinals xs (ordinals (asked xs))

-- ---- refusals

abbrev pub names_of : List OutEntry → List (List ℕ)
names_of xs = map (λ x. x.name) xs

-- why exports have no ordinals
abbrev pub ordinal_refusal : List (Option ℕ) → Option EntryRefusal
ordinal_refusal os = first_of (wrong_ordinal os ∷ ordinal_past MAX_NUMBER os ∷ [])

-- Why exports have no tables: the ordinals are tried first.
abbrev pub export_refusal : List OutEntry → Option EntryRefusal
export_refusal xs = first_of (wrong_ordinal (asked xs) ∷ ordinal_past MAX_NUMBER (asked xs) ∷ name_twice (names_of xs) ∷ [])

-- ---- what is asked of exports

-- An object and an import module have a number that fits a word, and an offset that passes 16 bits is wide.
abbrev pub HeadFits : Bool → EntryHead → Type 0
HeadFits wide (At object offset) = (0 < object) × (object ≤ MAX_NUMBER) × (MAX_NUMBER < offset → IsTrue wide)
HeadFits wide (Gate286 object offset) = ⊥
HeadFits wide (Forward import key) = (0 < import) × (import ≤ MAX_NUMBER)

pub record ExportFits (x : OutEntry) : Type 0 where
  pub named : 0 < length x.name
  pub words : x.words ≤ 31
  pub head : HeadFits x.wide x.head
