-- What a caller of a board is told beside the entry.
use Rattle.std.specs.Prelude.{◌≡◌, ℕ, List, map, length, true, false}
use Rattle.std.specs.List.{range_with_len}
use Rattle.lx_types.specs.declared.object.PageId.{PageId}
use Rattle.page_fix.specs.Rights.{PageRight}
use Rattle.page_frames.specs.Residences.{ResidenceFor}
use Rattle.load_model.specs.declared.deeds.How.{How}
use Rattle.load_model.specs.declared.deeds.Deed.{Deed}
use Rattle.load_model.specs.declared.deeds.Deed.TheVariants as deeds
use Rattle.load_model.specs.Modules.{Library, fixed_bytes}
use Rattle.load_model.specs.State.{Eager, residence_of, serial_of, attached_residence}
use Rattle.load_model.specs.Entering.{joined}
use Rattle.load_model.specs.Initialising.{enter_deed}
use Rattle.load_model.specs.Memory.{bases_seen}
use Rattle.load_model.specs.declared.commands.Ask.TheVariants.{Fault as fault, Shared as get}
use Rattle.load_model.specs.Asks.{bytes_at}
use Rattle.load_model.specs.Histories.{has_fault}
use Rattle.load_core.specs.BoardState.{BoardState, state_of, MayAsk, Adds}
use Rattle.load_core.specs.declared.answers.Loaded.{Loaded}
use Rattle.load_core.specs.declared.answers.Loaded.TheVariants as loaded
use Rattle.load_core.specs.declared.answers.Claim.{Claim}
use Rattle.load_core.specs.declared.answers.Claim.TheVariants as claims

-- ---- a start or a load

-- the residence of a module in a state, with the bases of all that the module reaches, by the name of who keeps it
abbrev pub residence_shown : Library → Eager → ℕ → ℕ → ResidenceFor
residence_shown lib e keeper k = record {
  library = lib;
  serial = serial_of (residence_of e k);
  «module» = k;
  bases = bases_seen lib e k;
  keeper = keeper;
}

-- The answer is what the entry says: that the module is loaded, with the residences that the process did not reach
-- before, in their order, each the one that the board keeps; that an object has no place; or that an initialisation failed.
abbrev pub IsToldOf : Deed → BoardState → BoardState → ℕ → Loaded → Type 0
IsToldOf (deeds.Enter how m fresh calls) b c pid (loaded.Done residences) =
    residences.items ≡ map (residence_shown c.library (state_of c) c.keeper) (joined b.library (state_of b) pid m)
IsToldOf (deeds.Full how m of object size) b c pid (loaded.Full other number bytes) = (other ≡ of) × (number ≡ object) × (bytes ≡ size)
IsToldOf (deeds.Failed how m by fresh calls gone) b c pid (loaded.Failed other) = other ≡ by
IsToldOf deed b c pid answer = ⊥

abbrev pub IsLoaded : BoardState → BoardState → ℕ → How → ℕ → Loaded → Type 0
IsLoaded b c pid how m answer = IsToldOf (enter_deed b.library (state_of b) pid how m) b c pid answer

-- ---- a fault

-- The right to fix a page that had no fault, which it has now.
pub record IsGiven (b c : BoardState) (pid serial : ℕ) (p : PageId) (right : PageRight) : Type 0 where
  pub named : (right.serial ≡ serial) × (right.page ≡ p)
  pub first : has_fault b.history serial p ≡ false
  pub adds : (m : ℕ) → MayAsk b pid (fault serial m p) → Adds b c pid (fault serial m p)

-- The page had its fault, and nothing was done.
pub record IsTaken (b c : BoardState) (serial : ℕ) (p : PageId) : Type 0 where
  pub had : has_fault b.history serial p ≡ true
  pub same : c ≡ b

abbrev pub IsClaimed : BoardState → BoardState → ℕ → ℕ → PageId → Claim → Type 0
IsClaimed b c pid serial p (claims.Right right) = IsGiven b c pid serial p right
IsClaimed b c pid serial p claims.Taken = IsTaken b c serial p

-- ---- shared bytes

-- the bytes of an object of a module as its fixups leave them, at the bases of its residence
abbrev pub fixed_run : BoardState → ℕ → ℕ → ℕ → ℕ → List ℕ
fixed_run b m object offset len =
    map (fixed_bytes b.library m (bases_seen b.library (state_of b) m) object) (range_with_len offset len)

-- what a process reads there, under the writes that all share
abbrev pub read_run : BoardState → ℕ → ℕ → ℕ → ℕ → ℕ → List ℕ
read_run b pid m object offset len =
    bytes_at b.library (fixed_bytes b.library) (state_of b) pid object offset len (attached_residence b.library (state_of b) pid m)

-- The bytes were read, which the entry tells too.
pub record IsRead (b c : BoardState) (pid serial m object offset : ℕ) (before after : List ℕ) : Type 0 where
  pub adds : Adds b c pid (get serial m object offset (length before))
  pub bytes : after ≡ read_run b pid m object offset (length before)
