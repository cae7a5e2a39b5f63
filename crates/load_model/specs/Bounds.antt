-- How far counts go, so that no number of a loader's own runs out of its bits.
use Rattle.std.specs.Prelude.{ℕ, ◌*◌, ◌<◌, ◌≤◌, List, length}
use Rattle.lx_types.specs.declared.limits.TheConstants.{MAX_MODULES, MAX_LOADS}
use Rattle.load_model.specs.declared.deeds.Entry.{Entry}
use Rattle.load_model.specs.Modules.{Library, Held, order_of}
use Rattle.load_model.specs.State.{Failing, count_of}
use Rattle.load_model.specs.Histories.{state_after, Legal}

-- No process holds more loads of one module than that many.
abbrev pub CountsAreSmall : Type 0
CountsAreSmall =
    (lib : Library) (failing : Failing) (contents : Held) (h : List Entry) (pid m : ℕ) → Legal lib failing contents h →
    count_of ((state_after lib failing h).processes pid) m ≤ MAX_LOADS

-- A module of a library reaches no more modules than the library has.
abbrev pub OrdersAreFew : Type 0
OrdersAreFew = (lib : Library) (m : ℕ) → m < length lib → length (order_of lib m) ≤ length lib

-- So serial numbers are given for each entry at most as many as a library has modules.
abbrev pub SerialsAreFew : Type 0
SerialsAreFew =
    (lib : Library) (failing : Failing) (contents : Held) (h : List Entry) → length lib ≤ MAX_MODULES → Legal lib failing contents h →
    (state_after lib failing h).serials ≤ MAX_MODULES * length h
