-- Where tables have a fault: exactly where a good part ends, and a field follows that is cut off or not allowed.
use Rattle.std.specs.Prelude.{◌≡◌, ℕ, ◌+◌, ◌-◌, ◌*◌, ◌<◌, ◌≤◌, ◌↔◌, ◌⊎◌, false, List, [], ◌∷◌, ◌++◌, length, map, Option, Some, None, Err}
use Rattle.std.specs.List.{flat_map, AllByRecursion}
use Rattle.lx_bytes.specs.Cursor.{Cursor}
use Rattle.lx_bytes.specs.LittleEndian.{AreBytes}
use Rattle.lx_types.specs.declared.refusal.LxRefusal.{LxRefusal}
use Rattle.lx_types.specs.declared.object.TheConstants.{PAGE_SIZE}
use Rattle.lx_types.specs.declared.refusal.LxKind.TheVariants.{Short}
use Rattle.lx_model.specs.Reading.{fault, number_at, first, first_of, cursor, Step, many}
use Rattle.lx_model.specs.Header.{Row, row_fault}
use Rattle.lx_model.specs.NameTables.{name_entry, name_spelling, NameFits, import_entry, import_spelling, ImportFits}
use Rattle.lx_model.specs.Iterated.{Group, group_at, group_spelling, GroupFits}
use Rattle.lx_model.specs.EntryTable.{bundle_at}
use Rattle.lx_model.specs.declared.limits.TheConstants.{MAX_ORDINAL}
use Rattle.lx_model.specs.Bundles.{Bundle, bundle_spelling, ordinal_count, BundleFits}
use Rattle.lx_model.specs.Records.{next_record}
use Rattle.lx_model.specs.RecordSpelling.{record_spelling, RecordFits}
use Rattle.lx_model.specs.Faults.{WrongName, WrongImport, WrongGroup, WrongBundle, WrongRecord}

-- ---- items, and what is known after them

-- each item may stand where it stands, by what is known there
abbrev pub AllGo : {S X : Type 0} → (S → X → Type 0) → (S → X → S) → S → List X → Type 0
AllGo Goes next s [] = Unit {0}
AllGo Goes next s (x ∷ xs) = Goes s x × AllGo Goes next (next s x) xs

abbrev pub known_after : {S X : Type 0} → (S → X → S) → S → List X → S
known_after next s [] = s
known_after next s (x ∷ xs) = known_after next (next s x) xs

-- Items stand there, each spelled as it is written and where it may, and what follows them is wrong, by this cause.
pub record FailsAfter {S X : Type 0} (spelling : X → List ℕ) (Goes : S → X → Type 0) (next : S → X → S) (Wrong : S → Cursor → LxRefusal → Type 0) (s : S)
    (c : Cursor) (e : LxRefusal) : Type 0 where
  pub items : List X
  pub left : List ℕ
  pub go : AllGo Goes next s items
  pub spelled : c.left ≡ flat_map spelling items ++ left
  pub wrong : Wrong (known_after next s items) (cursor (c.at + length (flat_map spelling items)) left) e

-- A table that is read by this step has a fault exactly there.
abbrev pub FaultsAre : {S A X : Type 0} → Step S A → (X → List ℕ) → (S → X → Type 0) → (S → X → S) → (S → Cursor → LxRefusal → Type 0) → Type 0
FaultsAre {S} step spelling Goes next Wrong =
    (s : S) (c : Cursor) (e : LxRefusal) → AreBytes c.left → ((many step s c).end ≡ Err e) ↔ FailsAfter spelling Goes next Wrong s c e

-- ---- the tables

abbrev pub NameFaults : Type 0
NameFaults = FaultsAre name_entry name_spelling (λ _ n. NameFits n) (λ s _. s) WrongName

-- what is known is how many names are still due
abbrev pub ImportGoes : ℕ → List ℕ → Type 0
ImportGoes due name = (0 < due) × ImportFits name

abbrev pub ImportFaults : Type 0
ImportFaults = FaultsAre import_entry import_spelling ImportGoes (λ due _. due - 1) WrongImport

-- what is known is how many bytes are given before
abbrev pub given_with : ℕ → Group → ℕ
given_with given g = given + g.times * length g.bytes

abbrev pub GroupGoes : ℕ → Group → Type 0
GroupGoes given g = GroupFits g × (given_with given g ≤ PAGE_SIZE)

abbrev pub GroupFaults : Type 0
GroupFaults = FaultsAre group_at group_spelling GroupGoes given_with WrongGroup

-- what is known is the last ordinal before
abbrev pub last_with : ℕ → Bundle → ℕ
last_with last b = last + ordinal_count b

abbrev pub BundleGoes : ℕ → ℕ → ℕ → Bundle → Type 0
BundleGoes objects imports last b = BundleFits objects imports b × (last_with last b ≤ MAX_ORDINAL)

abbrev pub BundleFaults : Type 0
BundleFaults =
    (objects imports : ℕ) → FaultsAre (bundle_at objects imports) bundle_spelling (BundleGoes objects imports) last_with (WrongBundle objects imports)

abbrev pub RecordFaults : Type 0
RecordFaults = FaultsAre next_record record_spelling (λ _ w. RecordFits w) (λ s _. s) WrongRecord

-- ---- tables by places: objects, pages, and the fixup page table, whose entries each have a fault or none

-- The first fault of a table is that of its first entry that has one.
pub record FirstOf (n : ℕ) (fault_of_entry : ℕ → Option LxRefusal) (e : LxRefusal) : Type 0 where
  pub entry : ℕ
  pub there : entry < n
  pub wrong : fault_of_entry entry ≡ Some e
  pub good : (k : ℕ) → k < entry → fault_of_entry k ≡ None

abbrev pub EntryFaults : Type 0
EntryFaults = (n : ℕ) (fault_of_entry : ℕ → Option LxRefusal) (e : LxRefusal) → (first_of n fault_of_entry ≡ Some e) ↔ FirstOf n fault_of_entry e

-- The rows of the header are judged in their order: those before a wrong one are good.
abbrev pub AllGood : List ℕ → ℕ → List Row → Type 0
AllGood file place rows = AllByRecursion (λ r. row_fault file place r ≡ None) rows

pub record RowFails (file : List ℕ) (place : ℕ) (rows : List Row) (e : LxRefusal) : Type 0 where
  pub before : List Row
  pub wrong : Row
  pub after : List Row
  pub order : rows ≡ before ++ wrong ∷ after
  pub good : AllGood file place before
  -- the field is cut off, or its value is not allowed
  pub cause : ((length file < place + wrong.offset + wrong.width) × (e ≡ fault Short (place + wrong.offset)))
      ⊎ ((place + wrong.offset + wrong.width ≤ length file) × (wrong.allows (number_at wrong.width file (place + wrong.offset)) ≡ false)
      × (e ≡ fault wrong.kind (place + wrong.offset)))

abbrev pub HeaderFaults : Type 0
HeaderFaults = (file : List ℕ) (place : ℕ) (rows : List Row) (e : LxRefusal) → (first (map (row_fault file place) rows) ≡ Some e) ↔ RowFails file place rows e
