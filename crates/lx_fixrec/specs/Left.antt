-- The sources that are left of a page's records, and how they are given.
use Rattle.std.specs.Prelude.{◌≡◌, ℕ, List, [], ◌∷◌, ◌++◌, ◌+◌, length, map, Option, Some, None, Result, Ok, Err}
use Rattle.std.specs.List.{flat_map}
use Rattle.lx_bytes.specs.Cursor.{Cursor}
use Rattle.lx_types.specs.declared.fix.Fix.{Fix}
use Rattle.lx_types.specs.declared.refusal.LxRefusal.{LxRefusal}
use Rattle.lx_model.specs.Reading.{fault_of, Many, many}
use Rattle.lx_model.specs.Records as model
use Rattle.lx_model.specs.Records.{next_record, records_at}
use Rattle.lx_fixrec.specs.Sources.{record_fixes, fixes_left, IsGood}
use Rattle.lx_fixrec.specs.Reads.{refusal}
use Rattle.lx_fixrec.specs.declared.reader.Found.{Found}
use Rattle.lx_fixrec.specs.declared.record.Record.{Record}
use Rattle.lx_fixrec.specs.declared.refusal.RecRefusal.{RecRefusal}

-- a source, and the place of its record
abbrev pub Placed : Type 0
Placed = ℕ × Fix

abbrev pub sources_of : model.Record → List Placed
sources_of r = map (λ f. (r.at, f)) r.fixes

-- What is left: the place of the record that gave the last source, the sources that come, and the refusal
-- after them.
pub record Left : Type 0 where
  pub at : ℕ
  pub items : List Placed
  pub end : Option LxRefusal

abbrev pub left_after : ℕ → List Placed → Many model.Record → Left
left_after at before records = record { at = at; items = before ++ flat_map sources_of records.items; end = fault_of records.end }

-- the sources in bytes that stand at a place of the file
abbrev pub left_in : ℕ → List ℕ → Left
left_in at bytes = left_after at [] (records_at at bytes)

abbrev pub sources_left : ℕ → Option Record → List Placed
sources_left at current = map (λ f. (at, f)) (fixes_left current)

-- what a reader has left: of the record that it gives, and of the bytes after it
abbrev pub left_of : ℕ → Option Record → Cursor → Left
left_of at current c = left_after at (sources_left at current) (many next_record tt c)

-- A call that gives the next source, or the refusal after the last one.
abbrev pub GivesNext : Option (Result Fix RecRefusal) → Left → Left → Type 0
GivesNext (Some (Ok f)) old new = (old.items ≡ (new.at, f) ∷ new.items) × (new.end ≡ old.end)
GivesNext (Some (Err r)) old new = (old.items ≡ []) × (old.end ≡ Some (refusal r)) × (new ≡ record { at = old.at; items = []; end = None })
GivesNext None old new = (old.items ≡ []) × (old.end ≡ None) × (new ≡ old)

-- the sources after a cursor, and their end
abbrev pub after : Cursor → Many model.Record
after c = many next_record tt c

abbrev pub items_after : Cursor → List Placed
items_after c = flat_map sources_of (after c).items

-- A call that looks for the next record with a source: it passes over records without one.
abbrev pub Finds : Result (Option Found) RecRefusal → Cursor → Cursor → Type 0
Finds (Ok None) old new = (items_after old ≡ []) × (fault_of (after old).end ≡ None) × (length new.left ≡ 0)
Finds (Ok (Some found)) old new =
    (items_after old ≡ (found.at, found.fix) ∷ map (λ f. (found.at, f)) (record_fixes found.«record») ++ items_after new)
    × (fault_of (after old).end ≡ fault_of (after new).end) × IsGood found.«record»
Finds (Err r) old new = (items_after old ≡ []) × (fault_of (after old).end ≡ Some (refusal r))

-- how many items come
abbrev pub end_count : Option LxRefusal → ℕ
end_count None = 0
end_count (Some e) = 1

abbrev pub count_of : Left → ℕ
count_of l = length l.items + end_count l.end
