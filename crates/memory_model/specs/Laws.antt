-- Touches, and what objects hold.
use Rattle.std.specs.Prelude.{◌≡◌, ℕ, List}
use Rattle.load_model.specs.Accepted.{retouched}
use Rattle.load_model.specs.Modules.{Library}
use Rattle.load_model.specs.State.{Eager, PageOf}
use Rattle.memory_model.specs.Memory.{memory_after}

-- Whatever pages processes touched, and so where they touched all, the same is in memory.
abbrev pub TouchedIsApart : Type 0
TouchedIsApart = (lib : Library) (e : Eager) (touched : ℕ → List PageOf) → memory_after lib (retouched touched e) ≡ memory_after lib e
