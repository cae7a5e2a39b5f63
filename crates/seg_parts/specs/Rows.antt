-- The rows of logical segments whose objects, parts and least lengths are known, and the limits on them.
use Rattle.std.specs.Prelude.{ℕ, List, [], ◌∷◌, ◌++◌, Option, if◌then◌else◌, Some, None}
use Rattle.link_model.specs.Parts.{Part}
use Rattle.link_model.specs.Rows.{Row, end_in}
use Rattle.link_model.specs.LayoutRefusals.{passes_limits}
use Rattle.seg_parts.specs.Offsets.{start_of, end_of}

-- A logical segment that has no place yet.
pub record Unplaced : Type 0 where
  pub head : Part
  pub object : ℕ
  pub parts : List Part
  pub least : ℕ

-- Its row after what ends at `at`, and after earlier rows.
abbrev pub row_at : ℕ → Unplaced → Row
row_at at u =
    let start = start_of at u.head u.parts in
    record { segment = u.head; object = u.object; start = start; end = end_of start u.head u.parts u.least }

abbrev pub row_later : List Row → Unplaced → Row
row_later earlier u = row_at (end_in u.object earlier) u

-- The rows of these logical segments, after earlier ones.
abbrev pub rows_later : List Row → List Unplaced → List Row
rows_later earlier [] = []
rows_later earlier (u ∷ us) = row_later earlier u ∷ rows_later (earlier ++ row_later earlier u ∷ []) us

-- The first of these rows, after earlier ones, that passes a limit.
abbrev pub past_limits : List Row → List Row → Option Row
past_limits earlier [] = None
past_limits earlier (r ∷ rs) =
    if passes_limits (earlier ++ r ∷ []) r then Some r else past_limits (earlier ++ r ∷ []) rs
