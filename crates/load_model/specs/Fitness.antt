-- Which modules processes reach.
use Rattle.std.specs.Prelude.{◌≡◌, ℕ, ◌<◌, List, length, true}
use Rattle.lx_model.specs.Reach.{IsFit}
use Rattle.load_model.specs.declared.deeds.Entry.{Entry}
use Rattle.load_model.specs.Modules.{Library, Held, order_of}
use Rattle.load_model.specs.State.{Failing, is_among, reaches}
use Rattle.load_model.specs.Histories.{state_after, Legal}

-- What a process reaches is a module of the library, and fit.
abbrev pub ReachedIsFit : Type 0
ReachedIsFit =
    (lib : Library) (failing : Failing) (contents : Held) (h : List Entry) → Legal lib failing contents h → (pid m : ℕ) →
    reaches lib ((state_after lib failing h).processes pid) m ≡ true →
    (m < length lib) × IsFit lib m

-- What a fit module reaches through imports is fit.
abbrev pub FitnessIsClosed : Type 0
FitnessIsClosed = (lib : Library) (m k : ℕ) → is_among (order_of lib m) k ≡ true → IsFit lib m → IsFit lib k
