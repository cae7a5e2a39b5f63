-- What a board does and answers where a process asks something of it.
use Rattle.std.specs.Prelude.{◌≡◌, ℕ, List, Bool, true, false, if◌then◌else◌}
use Rattle.lx_types.specs.declared.object.PageId.{PageId}
use Rattle.load_model.specs.declared.commands.Ask.{Ask}
use Rattle.load_model.specs.declared.commands.Ask.TheVariants.{Enter as enter, Free as free, Exit as exit, Fault as fault, Write as put, Debug as patch, Shared as get}
use Rattle.load_model.specs.Histories.{has_fault}
use Rattle.load_core.specs.BoardState.{BoardState, entry_of, with_entry}
use Rattle.load_core.specs.Told.{IsLoaded, fixed_run, read_run}
use Rattle.load_core.specs.declared.answers.Answer.{Answer}
use Rattle.load_core.specs.declared.answers.Answer.TheVariants as answers
use Rattle.load_core.specs.declared.answers.Claim.{Claim}
use Rattle.load_core.specs.declared.answers.Claim.TheVariants as claims

-- A page is asked for that had its fault: it has no other, and nothing is done.
abbrev pub had_fault : BoardState → Ask → Bool
had_fault b (fault serial m p) = has_fault b.history serial p
had_fault b ask = false

-- one entry more, the one that the loader with one thread gives there
abbrev pub after_ask : BoardState → ℕ → Ask → BoardState
after_ask b pid ask = if had_fault b ask then b else with_entry b (entry_of b pid ask)

-- The right to fix a page comes exactly with its fault.
abbrev pub IsClaimOf : BoardState → ℕ → PageId → Claim → Type 0
IsClaimOf b serial p (claims.Right right) = (right.serial ≡ serial) × (right.page ≡ p) × (has_fault b.history serial p ≡ false)
IsClaimOf b serial p claims.Taken = has_fault b.history serial p ≡ true

-- what is told; nothing is, where there is nothing but the entry or the buffer
abbrev pub IsAnswerTo : BoardState → ℕ → Ask → Answer → Type 0
IsAnswerTo b pid (enter how m) (answers.Loaded told) = IsLoaded b (after_ask b pid (enter how m)) pid how m told
IsAnswerTo b pid (fault serial m p) (answers.Claimed claim) = IsClaimOf b serial p claim
IsAnswerTo b pid (free m) answers.Done = Unit {0}
IsAnswerTo b pid exit answers.Done = Unit {0}
IsAnswerTo b pid (put serial m object offset bytes) answers.Done = Unit {0}
IsAnswerTo b pid (patch serial m object offset bytes) answers.Done = Unit {0}
IsAnswerTo b pid (get serial m object offset len) answers.Done = Unit {0}
IsAnswerTo b pid ask answer = ⊥

-- ---- the buffer of a read

-- It has the bytes of the file, with their fixups.
abbrev pub IsReady : BoardState → Ask → List ℕ → Type 0
IsReady b (get serial m object offset len) buffer = buffer ≡ fixed_run b m object offset len
IsReady b ask buffer = Unit {0}

abbrev pub buffer_after : BoardState → ℕ → Ask → List ℕ → List ℕ
buffer_after b pid (get serial m object offset len) buffer = read_run b pid m object offset len
buffer_after b pid ask buffer = buffer
