-- What a look at a frame finds.
use Rattle.std.specs.Prelude.{◌≡◌, ℕ, List}
use Rattle.std.specs.Arc.{arc_value}
use Rattle.page_frames.specs.declared.frame.Look.{Look}
use Rattle.page_frames.specs.declared.frame.Look.TheVariants.{Held, Absent, Disturbed}

-- the page, where it finds one
abbrev pub HasLooked : Look → List ℕ → Type 0
HasLooked (Held bytes) page = arc_value bytes ≡ page
HasLooked Absent page = Unit {0}
HasLooked Disturbed page = Unit {0}
