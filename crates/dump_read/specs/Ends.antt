-- The ends of lines in bytes, and a reader of bytes that are no dump.
use Rattle.std.specs.Prelude.{◌≡◌, ℕ, suc, ◌<◌, ◌⊎◌, ◌==◌, not, Bool, true, false, cond, List, [], ◌∷◌, length}
use Rattle.dump_model.specs.declared.listing.Listing.{Listing}
use Rattle.dump_model.specs.Bounds.{IsListing}
use Rattle.dump_model.specs.Dumps.{Dump}
use Rattle.dump_read.specs.Taken.{State, Reads, shut}

-- how many lines have an end
abbrev pub ends : List ℕ → ℕ
ends [] = 0
ends (b ∷ bytes) = cond (b == 0x0A) (suc (ends bytes)) (ends bytes)

-- the last line has none
abbrev pub ends_open : List ℕ → Bool
ends_open [] = false
ends_open (b ∷ []) = not (b == 0x0A)
ends_open (b ∷ c ∷ bytes) = ends_open (c ∷ bytes)

-- a reader that has taken nothing
abbrev pub beginning : List ℕ → State
beginning bytes = record { left = bytes; begun = false; stopped = false }

-- A reader of bytes has stopped, or has not taken them all.
pub record NotDump (bytes : List ℕ) (s : State) : Type 0 where
  pub listing : Listing
  pub reads : Reads Dump IsListing shut listing (beginning bytes) s
  pub some : (s.stopped ≡ true) ⊎ (0 < length s.left)
