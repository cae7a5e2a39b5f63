-- What a player does with one item: where it stood, what it tells, and where it stands then.
use Rattle.std.specs.Prelude.{◌≡◌, ℕ, ◌≤◌, ◌<◌, List, [], ◌∷◌, ◌+◌, ◌++◌, length, Option, None, slice_index_or}
use Rattle.std.specs.List.{AllByRecursion}
use Rattle.lx_types.specs.declared.limits.TheConstants.{MAX_PROCESSES}
use Rattle.load_model.specs.declared.commands.Command.{Command}
use Rattle.load_model.specs.Modules.{Library, fixed_bytes}
use Rattle.load_model.specs.State.{Failing}
use Rattle.load_model.specs.Step.{FitsPlace}
use Rattle.session_model.specs.declared.sessions.Script.{Script}
use Rattle.session_model.specs.Merging.{Item}
use Rattle.process_view.specs.ProcessViews.{ProcessView, new_view}
use Rattle.check_model.specs.declared.kinds.CheckKind.{CheckKind}
use Rattle.check_model.specs.Checks.{Judge, process_of}
use Rattle.check_core.specs.PlayedItems.{IsPlayed, CanPlay, next_after}
use Rattle.check_play.specs.declared.standing.Standing.{Standing}
use Rattle.check_play.specs.Standing.{IsStanding}
use Rattle.check_play.specs.AtPlaces.{IsBoardAt, IsViewAt}

-- ---- one process

-- A board, with what is kept beside it, and the view of one process stand at a place.
pub record StandsAlone (j : Judge) (before after : List Item) (s : Standing) (v : ProcessView) (pid : ℕ) : Type 0 where
  pub board : IsBoardAt j before s.board
  pub kept : IsStanding s
  pub view : IsViewAt j before after s.board v pid

-- What is wrong with an item of the process is told; where nothing is, they stand at the next place.
pub record IsPlayedAlone (j : Judge) (before : List Item) (item : Item) (after : List Item) (t : Standing) (w : ProcessView)
    (pid : ℕ) (answer : Option CheckKind) : Type 0 where
  pub judged : IsPlayed j before item after answer
  pub stands : answer ≡ None → StandsAlone j (before ++ item ∷ []) after t w pid

-- What is told of an item, and where they stand then. It is with its command, if it is for one, and with what its process does next.
abbrev pub PlaysItem : Item → Option Command → Option Item → Standing → ProcessView → Standing → ProcessView → Option CheckKind → Type 0
PlaysItem item command next s v t w answer =
    (j : Judge) (before after : List Item) → CanPlay j before item command → next ≡ next_after item after →
    StandsAlone j before (item ∷ after) s v (process_of item) → IsPlayedAlone j before item after t w (process_of item) answer

-- ---- all processes

-- each command of each script is one that a session can say
abbrev pub ScriptsFit : List Script → Type 0
ScriptsFit scripts = AllByRecursion (λ (s : Script). AllByRecursion FitsPlace s.commands) scripts

-- A board, with what is kept beside it, and the views of all processes that have a script stand at a place.
pub record StandsTogether (j : Judge) (before after : List Item) (s : Standing) (vs : List ProcessView) : Type 0 where
  pub board : IsBoardAt j before s.board
  pub kept : IsStanding s
  pub scripts : length vs ≡ length j.scripts
  pub few : length j.scripts ≤ MAX_PROCESSES
  pub fit : ScriptsFit j.scripts
  pub views : (k : ℕ) (d : ProcessView) → k < length vs → IsViewAt j before after s.board (slice_index_or vs k d) (k + 1)

-- An item is next at some place at which one process stands, and can be played there.
pub record IsNextAlone (item : Item) (command : Option Command) (s : Standing) (v : ProcessView) : Type 0 where
  pub j : Judge
  pub before : List Item
  pub after : List Item
  pub can : CanPlay j before item command
  pub fit : ScriptsFit j.scripts
  pub stands : StandsAlone j before (item ∷ after) s v (process_of item)

-- The same where all processes stand.
pub record IsNextTogether (item : Item) (command : Option Command) (s : Standing) (vs : List ProcessView) : Type 0 where
  pub j : Judge
  pub before : List Item
  pub after : List Item
  pub can : CanPlay j before item command
  pub stands : StandsTogether j before (item ∷ after) s vs

-- What is wrong with an item is told; where nothing is, all stand at the next place.
pub record IsPlayedTogether (j : Judge) (before : List Item) (item : Item) (after : List Item) (t : Standing)
    (ws : List ProcessView) (answer : Option CheckKind) : Type 0 where
  pub judged : IsPlayed j before item after answer
  pub stands : answer ≡ None → StandsTogether j (before ++ item ∷ []) after t ws

abbrev pub PlaysAmong : Item → Option Command → Option Item → Standing → List ProcessView → Standing → List ProcessView → Option CheckKind → Type 0
PlaysAmong item command next s vs t ws answer =
    (j : Judge) (before after : List Item) → CanPlay j before item command → next ≡ next_after item after →
    StandsTogether j before (item ∷ after) s vs → IsPlayedTogether j before item after t ws answer

-- ---- before all items

-- views of so many processes that have done nothing
pub record AreNewViews (lib : Library) (processes : ℕ) (vs : List ProcessView) : Type 0 where
  pub count : length vs ≡ processes
  pub each : (k : ℕ) (d : ProcessView) → k < length vs → slice_index_or vs k d ≡ new_view lib (k + 1)

-- A judge over a library, where these initialisations fail and objects hold the bytes of the files with their fixups, with so many
-- scripts.
pub record IsJudgeOver (lib : Library) (failing : Failing) (processes : ℕ) (j : Judge) : Type 0 where
  pub lib_is : j.lib ≡ lib
  pub failing_is : j.failing ≡ failing
  pub contents : j.contents ≡ fixed_bytes lib
  pub scripts : length j.scripts ≡ processes
  pub few : length j.scripts ≤ MAX_PROCESSES
  pub fit : ScriptsFit j.scripts
