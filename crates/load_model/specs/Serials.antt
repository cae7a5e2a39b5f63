-- Serial numbers: each residence has its own, of those that were given.
use Rattle.std.specs.Prelude.{◌≡◌, ℕ, ◌≤◌, ◌<◌, true, List, [], ◌∷◌, map, Some}
use Rattle.lx_types.specs.declared.object.PageId.{PageId}
use Rattle.load_model.specs.declared.deeds.Entry.{Entry}
use Rattle.load_model.specs.Modules.{Library, Held}
use Rattle.load_model.specs.State.{Failing, Residence, residence_of}
use Rattle.load_model.specs.Histories.{state_after, has_fault, Legal}

-- numbers that rise, from above one up to another
abbrev pub Rise : ℕ → List ℕ → ℕ → Type 0
Rise low [] high = low ≤ high
Rise low (n ∷ ns) high = (low < n) × Rise n ns high

-- In every legal history the residences stand by rising serial numbers, from 1 to the last that was given.
abbrev pub SerialsRise : Type 0
SerialsRise =
    (lib : Library) (failing : Failing) (contents : Held) (h : List Entry) → Legal lib failing contents h →
    Rise 0 (map (λ r. r.serial) (state_after lib failing h).residences) (state_after lib failing h).serials

-- A fault names a serial number that was given, so no page of a residence to come has had one.
abbrev pub FaultsAreGiven : Type 0
FaultsAreGiven =
    (lib : Library) (failing : Failing) (contents : Held) (h : List Entry) (serial : ℕ) (p : PageId) → Legal lib failing contents h →
    has_fault h serial p ≡ true → serial ≤ (state_after lib failing h).serials

-- Residences of one serial number are one.
abbrev pub SerialsAreOwn : Type 0
SerialsAreOwn =
    (lib : Library) (failing : Failing) (contents : Held) (h : List Entry) (m k : ℕ) (r s : Residence) → Legal lib failing contents h →
    residence_of (state_after lib failing h) m ≡ Some r → residence_of (state_after lib failing h) k ≡ Some s → r.serial ≡ s.serial → r ≡ s
