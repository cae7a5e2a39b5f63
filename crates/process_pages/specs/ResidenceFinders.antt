-- Where the residence of each module stands among those that a process reaches.
use Rattle.std.specs.Prelude.{◌≡◌, ◌==◌, ℕ, List, Some, None, position, slice_index_or}
use Rattle.page_frames.specs.Residences.{ResidenceFor}
use Rattle.process_pages.specs.declared.residence_finder.KnownPosition.{KnownPosition}
use Rattle.process_pages.specs.declared.residence_finder.KnownPosition.TheVariants.{Nowhere, At, Unknown}

-- what is told of a module
abbrev pub IsRight : KnownPosition → ℕ → List ResidenceFor → Type 0
IsRight Nowhere m rs = position (λ r. r.«module» == m) rs ≡ None
IsRight (At k) m rs = position (λ r. r.«module» == m) rs ≡ Some k
IsRight Unknown m rs = Unit {0}

-- of each module; nothing is told of those past the end
abbrev pub AreRight : List KnownPosition → List ResidenceFor → Type 0
AreRight positions rs = (m : ℕ) → IsRight (slice_index_or positions m Unknown) m rs
