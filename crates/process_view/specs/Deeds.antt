-- What a view does with a board.
use Rattle.std.specs.Prelude.{◌≡◌, ◌<◌, ℕ, ◌-◌, List, [], ◌∷◌, ◌++◌, length, map, slice_index_or, Option, Some, None, Result, Ok, Err, true, false, ◌^◌}
use Rattle.lx_types.specs.declared.object.PageId.{PageId}
use Rattle.lx_types.specs.Object.{pages_of}
use Rattle.lx_types.specs.Parts.{object_of}
use Rattle.lx_types.specs.Sound.{IsNumberOf}
use Rattle.lx_model.specs.Library.{module_of}
use Rattle.lx_model.specs.ModuleBytes.{fixed_page}
use Rattle.page_fix.specs.Fixable.{is_fixable}
use Rattle.page_fix.specs.Rights.{PageBytes}
use Rattle.load_model.specs.TouchedPages.{has_page}
use Rattle.load_model.specs.Asks.{is_own}
use Rattle.page_frames.specs.Residences.{ResidenceFor}
use Rattle.process_pages.specs.ReachedResidences.{page_with}
use Rattle.load_model.specs.declared.commands.Command.{Command}
use Rattle.load_model.specs.Modules.{fixed_bytes}
use Rattle.load_model.specs.declared.commands.Ask.{Ask}
use Rattle.load_model.specs.declared.commands.Ask.TheVariants.{Write as put, Debug as patch}
use Rattle.load_model.specs.declared.deeds.Deed.{Deed}
use Rattle.load_model.specs.declared.deeds.Deed.TheVariants as deeds
use Rattle.load_model.specs.declared.deeds.Entry.{Entry}
use Rattle.load_model.specs.State.{Written}
use Rattle.load_model.specs.WrittenPages.{written_over}
use Rattle.load_model.specs.Step.{ask_by}
use Rattle.load_model.specs.Histories.{Follows, has_fault}
use Rattle.load_model.specs.Views.{mapped_pages, state_for}
use Rattle.load_model.specs.TouchedPages.{touched_after}
use Rattle.load_model.specs.Outcomes.{Outcome, done, told, IsTold}
use Rattle.lx_types.specs.declared.fail.Fail.{Fail}
use Rattle.lx_types.specs.declared.fail.Fail.TheVariants.{Said, NoMemory}
use Rattle.load_model.specs.declared.commands.Refusal.{Refusal}
use Rattle.load_model.specs.declared.commands.Reply.TheVariants.{Refused}
use Rattle.lx_types.specs.declared.object.Class.{Class}
use Rattle.lx_types.specs.declared.object.Class.TheVariants as classes
use Rattle.lx_types.specs.Object.{class_of}
use Rattle.load_model.specs.declared.commands.Place.{Place}
use Rattle.load_model.specs.Modules.{object_at}
use Rattle.load_core.specs.BoardState.{BoardState, state_of, entry_of, with_entry, Adds}
use Rattle.load_core.specs.declared.answers.Claim.{Claim}
use Rattle.load_core.specs.declared.answers.Claim.TheVariants as claims
use Rattle.process_view.specs.ProcessViews.{ProcessView, StandsAt, without_room, fresh_shown, at_front}

-- the view with one page more, in its room
abbrev pub with_page : ResidenceFor → PageId → List ℕ → ProcessView → ProcessView
with_page r p bytes v = record v { holding = record v.holding { mapped = v.holding.mapped ++ page_with r p bytes ∷ [] }; page_room = v.page_room - 1 }

-- The command has its entry, which follows the history, and which the caller is told of by its number; the view stands for
-- all of it, and has mapped what its process has then touched.
pub record Did (b c : BoardState) (v w : ProcessView) (command : Command) (outcome : Outcome) : Type 0 where
  pub ask : Ask
  pub asked : ask_by b.library (state_for b.library b.failing v.holding b.history) v.holding.pid command ≡ Some ask
  pub adds : Adds b c v.holding.pid ask
  pub follows : Follows b.library b.failing (fixed_bytes b.library) b.history (entry_of b v.holding.pid ask)
  pub told : IsTold (length c.history) (entry_of b v.holding.pid ask).deed outcome
  pub stands : StandsAt c w
  pub library : w.library ≡ v.library
  pub pid : w.holding.pid ≡ v.holding.pid
  pub mapped : mapped_pages w.holding ≡ touched_after b.library (state_of b) v.holding.pid (entry_of b v.holding.pid ask).deed
      (λ _. mapped_pages v.holding) v.holding.pid

-- nothing was done, but that there may be more room
abbrev pub IsIdle : BoardState → BoardState → ProcessView → ProcessView → Type 0
IsIdle b c v w = (c ≡ b) × (without_room w ≡ without_room v)

-- the view with a residence more, in its room
abbrev pub with_residence : ResidenceFor → ProcessView → ProcessView
with_residence r v =
    record v {
      holding = record v.holding { residences = map fresh_shown (v.residences ++ r ∷ []) };
      residences = v.residences ++ r ∷ [];
      residence_room = v.residence_room - 1;
    }

-- ---- pages

-- A page of a residence that the view has not mapped: its module has it, and a page has 20 bits.
pub record CanMap (v : ProcessView) (r : ResidenceFor) (p : PageId) : Type 0 where
  pub object : IsNumberOf p.object (length (module_of v.library r.«module»).objects)
  pub page : p.page < pages_of (object_of (module_of v.library r.«module») p.object)
  pub small : p.page < 2 ^ 20
  pub apart : has_page (mapped_pages v.holding) r.serial p ≡ false
  pub library : r.library ≡ v.library

-- all processes share it
abbrev pub IsSharedPage : ProcessView → ResidenceFor → PageId → Type 0
IsSharedPage v r p = is_fixable (module_of v.library r.«module») p ≡ true

-- it is of private data, which each process fixes for itself
abbrev pub IsOwnPage : ProcessView → ResidenceFor → PageId → Type 0
IsOwnPage v r p = is_own (class_of (object_at v.library r.«module» p.object)) ≡ true

-- It is mapped now as its fixups leave it, and nothing else has changed.
abbrev pub IsFixedIn : ProcessView → ProcessView → ResidenceFor → PageId → Type 0
IsFixedIn v w r p = w ≡ with_page r p (fixed_page v.library r.«module» r.bases p) v

-- what fixing it comes to
abbrev pub fixed_of : ProcessView → ResidenceFor → PageId → PageBytes
fixed_of v r p = record { serial = r.serial; page = p; bytes = fixed_page v.library r.«module» r.bases p }

-- the entry of its fault
abbrev pub fault_of : ProcessView → ResidenceFor → PageId → Entry
fault_of v r p = record { pid = v.holding.pid; deed = deeds.Fault r.serial r.«module» p }

-- What a claim comes to: the right to fix the page, whose fault has its entry now; or it had its fault, and nothing was done.
abbrev pub IsClaimedIn : BoardState → BoardState → ProcessView → ProcessView → ResidenceFor → PageId → Claim → Type 0
IsClaimedIn b c v w r p (claims.Right right) =
    (right ≡ record { serial = r.serial; page = p }) × (c ≡ with_entry b (fault_of v r p))
    × Follows b.library b.failing (fixed_bytes b.library) b.history (fault_of v r p) × (w ≡ at_front (length c.history) v) × StandsAt c w
IsClaimedIn b c v w r p claims.Taken = (c ≡ b) × (w ≡ v) × (has_fault b.history r.serial p ≡ true)

-- ---- writes

-- the view with a write in the pages of a residence
abbrev pub with_write : ℕ → Written → ProcessView → ProcessView
with_write serial w v = record v { holding = record v.holding { mapped = map (written_over serial w) v.holding.mapped } }

abbrev pub written_to : Place → List ℕ → Written
written_to at bytes = record { object = at.object; offset = at.offset; bytes = bytes }

-- a write to an object of a class, where it is the process's own
abbrev pub own_write : Class → Written → Option Written
own_write classes.Code w = Some w
own_write classes.Private w = Some w
own_write classes.Shared w = None

abbrev pub with_own : ℕ → Option Written → ProcessView → ProcessView
with_own serial None v = v
with_own serial (Some w) v = with_write serial w v

-- what a write to a place asks, by the class of its object
abbrev pub write_ask : Class → ℕ → ℕ → Place → List ℕ → Ask
write_ask classes.Code serial m at bytes = patch serial m at.object at.offset bytes
write_ask classes.Private serial m at bytes = put serial m at.object at.offset bytes
write_ask classes.Shared serial m at bytes = put serial m at.object at.offset bytes

-- the place lies in an object of this class
abbrev pub IsInClass : ProcessView → ℕ → Place → Class → Type 0
IsInClass v k at class = (d : ResidenceFor) → class_of (object_at v.library (slice_index_or v.residences k d).«module» at.object) ≡ class

-- ---- reads

-- the bytes that an entry tells which were read
abbrev pub bytes_read : Deed → List ℕ
bytes_read (deeds.Shared serial m object offset bytes) = bytes
bytes_read deed = []

-- they are those of the entry that a board has more than before
abbrev pub IsLastRead : BoardState → BoardState → List ℕ → Type 0
IsLastRead b c bytes = (x : Entry) → c.history ≡ b.history ++ x ∷ [] → bytes ≡ bytes_read x.deed

-- ---- what a command comes to

-- It is done, and these bytes were read; or its entry says why it is not; or no memory was found.
abbrev pub IsDone : BoardState → BoardState → ProcessView → ProcessView → Command → Result (List ℕ) (Fail Refusal) → Type 0
IsDone b c v w command (Ok bytes) = Did b c v w command (done (length c.history)) × IsLastRead b c bytes
IsDone b c v w command (Err (Said refusal)) = Did b c v w command (told (Refused refusal))
IsDone b c v w command (Err NoMemory) = IsIdle b c v w

-- with the bytes that were read
abbrev pub reading : List ℕ → Result Unit (Fail Refusal) → Result (List ℕ) (Fail Refusal)
reading bytes (Ok _) = Ok bytes
reading bytes (Err fail) = Err fail
