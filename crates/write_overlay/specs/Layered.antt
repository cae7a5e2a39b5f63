-- What was written to objects, kept by page: of each byte what was written last.
use Rattle.std.specs.Prelude.{◌≡◌, ℕ, ◌+◌, ◌-◌, ◌/◌, ◌%◌, ◌<◌, ◌≤◌, ◌==◌, ◌&&◌, Bool, true, List, [], ◌∷◌, reverse, length, filter_map, nat_le, nat_lt, is_some, slice_index, slice_index_or, Option, Some, None, unwrap_or, if◌then◌else◌}
use Rattle.std.specs.Map.{lookup}
use Rattle.lx_types.specs.declared.object.TheConstants.{PAGE_SIZE}
use Rattle.load_model.specs.State.{Written}
use Rattle.load_model.specs.Memory.{put_at}
use Rattle.write_overlay.specs.Laid.{writes_to}

-- ---- a run

-- byte k of what was written, where a run was put at a place
abbrev pub put_under : ℕ → List ℕ → ℕ → Option ℕ → Option ℕ
put_under place run k before = if nat_le place k && nat_lt k (place + length run) then Some (slice_index run (k - place)) else before

-- byte k of others, where so much of what was written, from a place of it on, was laid over them
abbrev pub laid_under : List (Option ℕ) → ℕ → ℕ → ℕ → ℕ → ℕ → ℕ
laid_under bytes from place len k before =
    if nat_le place k && nat_lt k (place + len) then unwrap_or (slice_index_or bytes (from + (k - place)) None) before else before

-- ---- pages

-- the pages that were written, each by its object and its number
abbrev pub Pages : Type 0
Pages = List ((ℕ × ℕ) × List (Option ℕ))

abbrev pub is_page_at : ℕ × ℕ → ℕ × ℕ → Bool
is_page_at a b = (a.0 == b.0) && (a.1 == b.1)

abbrev pub IsMade : Pages → ℕ → ℕ → Type 0
IsMade pages object n = is_some (lookup (is_page_at (object, n)) pages) ≡ true

-- so are the pages of so many bytes from an offset on
abbrev pub AreMade : Pages → ℕ → ℕ → ℕ → Type 0
AreMade pages object offset len = (x : ℕ) → offset ≤ x → x < offset + len → IsMade pages object (x / PAGE_SIZE)

abbrev pub byte_in : Option (List (Option ℕ)) → ℕ → Option ℕ
byte_in None k = None
byte_in (Some bytes) k = slice_index_or bytes k None

-- byte x of an object, if it was written
abbrev pub byte_laid : Pages → ℕ → ℕ → Option ℕ
byte_laid pages object x = byte_in (lookup (is_page_at (object, x / PAGE_SIZE)) pages) (x % PAGE_SIZE)

-- the same, over what it was before
abbrev pub byte_over : Pages → ℕ → ℕ → ℕ → ℕ
byte_over pages object x before = unwrap_or (byte_laid pages object x) before

-- byte x of the object q, where a run was put at an offset of another
abbrev pub run_under : ℕ → ℕ → List ℕ → ℕ → ℕ → Option ℕ → Option ℕ
run_under object offset run q x before = if q == object then put_under offset run x before else before

-- ---- writes

abbrev pub first_of : List ℕ → Option ℕ
first_of [] = None
first_of (x ∷ xs) = Some x

-- what the last of the writes there put, if one did
abbrev pub last_written : List Written → ℕ → Option ℕ
last_written writes x = first_of (filter_map (put_at x) (reverse writes))

-- What is kept of each byte is what was written last.
pub record Lays (pages : Pages) (writes : List Written) : Type 0 where
  pub bytes : (object x : ℕ) → byte_laid pages object x ≡ last_written (writes_to object writes) x
