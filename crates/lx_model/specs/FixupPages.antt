-- The fixup page table: where the records of each page stand.
-- "32-bit Linear eXecutable Module Format": "Fixup Page Table".
use Rattle.std.specs.Prelude.{ℕ, ◌+◌, ◌*◌, ◌-◌, ◌&&◌, ◌||◌, Bool, List, length, map, Option, Some, None, nat_lt, if◌then◌else◌}
use Rattle.std.specs.List.{range_with_len}
use Rattle.lx_types.specs.declared.refusal.LxRefusal.{LxRefusal}
use Rattle.lx_types.specs.declared.refusal.LxKind.TheVariants.{FixTable}
use Rattle.lx_model.specs.declared.header_fields.TheConstants.{FIXUP_PAGE_TABLE, FIXUP_RECORD_TABLE}
use Rattle.lx_model.specs.Reading.{fault, number_at, short_at, first_of, ◌then◌}
use Rattle.lx_model.specs.Header.{field, table, page_count}

-- a module whose table has the offset 0 has no records
abbrev pub has_records : List ℕ → Bool
has_records file = nat_lt 0 (field file FIXUP_PAGE_TABLE)

-- where the doubleword of page k stands, from 0
abbrev pub offset_place : List ℕ → ℕ → ℕ
offset_place file k = table file FIXUP_PAGE_TABLE + 4 * k

-- where the records of page k begin; those of the page before end there
abbrev pub records_place : List ℕ → ℕ → ℕ
records_place file k = table file FIXUP_RECORD_TABLE + number_at 4 file (offset_place file k)

abbrev pub records_span : List ℕ → ℕ → ℕ × ℕ
records_span file k = if has_records file then (records_place file k, records_place file (k + 1)) else (0, 0)

unfoldable pub spans_of : List ℕ → List (ℕ × ℕ)
spans_of file = map (records_span file) (range_with_len 0 (page_count file))

-- the records of page k would end before they begin, or stand past the file's end
abbrev pub is_out_of_order : List ℕ → ℕ → Bool
is_out_of_order file k = nat_lt 0 k && nat_lt (records_place file k) (records_place file (k - 1))

abbrev pub span_fault : List ℕ → ℕ → Option LxRefusal
span_fault file k =
    short_at 4 file (offset_place file k)
    then (if is_out_of_order file k || nat_lt (length file) (records_place file k) then Some (fault FixTable (offset_place file k)) else None)

-- there is one doubleword for each page, and one for the end
unfoldable pub spans_fault : List ℕ → Option LxRefusal
spans_fault file = if has_records file then first_of (page_count file + 1) (span_fault file) else None
