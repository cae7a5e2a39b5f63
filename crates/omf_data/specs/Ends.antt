-- What is known of where the locations of fixes end, by segment.
use Rattle.std.specs.Prelude.{◌≡◌, ℕ, ◌≤◌, Bool, false, ◌&&◌, List, length, take, nat_eq, nat_lt, ◌==◌, if◌then◌else◌, unwrap_or}
use Rattle.std.specs.List.{list_any}
use Rattle.indexmap.specs.IndexMap.{get}
use Rattle.obj_types.specs.declared.object.FixAt.{FixAt}
use Rattle.obj_types.specs.Location.{end_of}
use Rattle.omf_data.specs.declared.ends.FixEnds.{FixEnds}

-- The end that is kept of a segment, and 0 where none is.
abbrev pub end_in : FixEnds → ℕ → ℕ
end_in e seg = if e.seg == seg then e.end else unwrap_or (get nat_eq e.others seg) 0

-- A location of the segment ends after an offset.
abbrev pub ends_after : ℕ → ℕ → FixAt → Bool
ends_after seg start f = f.seg == seg && nat_lt start (end_of f)

-- The fixes seen are the first of these, and none of their locations ends after what is kept of its segment.
pub record HaveEnds (e : FixEnds) (fixes : List FixAt) : Type 0 where
  pub seen : e.seen ≤ length fixes
  pub ends : (seg start : ℕ) → end_in e seg ≤ start → list_any (ends_after seg start) (take e.seen fixes) ≡ false
