-- What a text in the form of a transcript tells: a run, and the three numbers of its last line, which may be others than the run's.
use Rattle.std.specs.Prelude.{◌≡◌, ℕ, ◌≤◌, ◌<◌, ◌^◌, List, [], ◌∷◌, ◌++◌, length, filter, flat_map, codes, decimal, Option, Some, None, slice_get}
use Rattle.std.specs.List.{AllByRecursion, enumerate_from}
use Rattle.lx_types.specs.declared.limits.TheConstants.{MAX_PROCESSES}
use Rattle.load_model.specs.declared.commands.Command.{Command}
use Rattle.load_model.specs.declared.commands.Command.TheVariants as commands
use Rattle.load_model.specs.declared.commands.Refusal.{Refusal}
use Rattle.load_model.specs.declared.commands.Refusal.TheVariants as why
use Rattle.load_model.specs.declared.commands.Reply.{Reply}
use Rattle.load_model.specs.declared.commands.Reply.TheVariants as replies
use Rattle.load_model.specs.declared.deeds.Call.{Call}
use Rattle.load_model.specs.declared.deeds.Fresh.{Fresh}
use Rattle.load_model.specs.declared.deeds.Gone.{Gone}
use Rattle.load_model.specs.declared.deeds.Deed.{Deed}
use Rattle.load_model.specs.declared.deeds.Deed.TheVariants as deeds
use Rattle.load_model.specs.declared.deeds.Entry.{Entry}
use Rattle.load_model.specs.Modules.{Library}
use Rattle.load_model.specs.Serials.{Rise}
use Rattle.session_model.specs.declared.sessions.Line.{Line}
use Rattle.session_model.specs.declared.sessions.ScriptLines.{ScriptLines}
use Rattle.session_model.specs.Merging.{is_fault, numbers_of}
use Rattle.session_model.specs.declared.sessions.Script.{Script}
use Rattle.session_model.specs.declared.sessions.Session.{Session}
use Rattle.session_model.specs.Sessions.{Ses}
use Rattle.session_model.specs.Runs.{Run}
use Rattle.session_model.specs.Text.{line_of}
use Rattle.session_model.specs.Transcript.{entry_text, script_text}
use Rattle.check_model.specs.declared.kinds.Counts.{Counts}

-- ---- the text

-- a run, and what the last line says of it
pub record Told : Type 0 where
  pub run : Run
  pub counts : Counts

-- what the last line of a run's own transcript says
abbrev pub counts_of : Run → Counts
counts_of run = record {
  processes = length run.steady;
  entries = length run.history;
  faults = length (filter (λ x. is_fault x.deed) run.history);
}

abbrev pub count_words : Counts → List (List ℕ)
count_words c =
    codes "summary" ∷ codes "processes" ∷ decimal c.processes ∷ codes "entries" ∷ decimal c.entries ∷ codes "faults" ∷ decimal c.faults ∷ []

unfoldable pub told_text : Library → Told → List ℕ
told_text lib t =
    line_of (codes "history" ∷ []) ++ flat_map (entry_text lib (numbers_of t.run.steady)) (enumerate_from 1 t.run.history)
    ++ flat_map script_text t.run.steady ++ line_of (count_words t.counts)

-- ---- what can be told over a library, whatever the session: numbers have their bits, and modules are the library's

abbrev pub IsByte : ℕ → Type 0
IsByte b = b < 256

abbrev pub Has32 : ℕ → Type 0
Has32 n = n < 2 ^ 32

abbrev pub Has64 : ℕ → Type 0
Has64 n = n < 2 ^ 64

abbrev pub IsModuleOf : Library → ℕ → Type 0
IsModuleOf lib m = m < length lib

-- a residence, by its serial number, and its module
abbrev pub IsResidence : Library → ℕ → ℕ → Type 0
IsResidence lib serial m = Has64 serial × IsModuleOf lib m

abbrev pub IsFresh : Library → Fresh → Type 0
IsFresh lib f = IsResidence lib f.serial f.«module» × AllByRecursion Has32 f.bases

abbrev pub IsCall : Library → Call → Type 0
IsCall lib c = IsResidence lib c.serial c.«module» × Has32 c.address

abbrev pub IsGone : Library → Gone → Type 0
IsGone lib g = IsResidence lib g.serial g.«module»

-- bytes at a place of an object of a residence
abbrev pub AreBytesAt : Library → ℕ → ℕ → ℕ → ℕ → List ℕ → Type 0
AreBytesAt lib serial m object offset bytes = IsResidence lib serial m × Has32 object × Has32 offset × AllByRecursion IsByte bytes

abbrev pub IsDeed : Library → Deed → Type 0
IsDeed lib (deeds.Enter how m fresh calls) = IsModuleOf lib m × AllByRecursion (IsFresh lib) fresh × AllByRecursion (IsCall lib) calls
IsDeed lib (deeds.Full how m of object size) = IsModuleOf lib m × IsModuleOf lib of × Has32 object × Has32 size
IsDeed lib (deeds.Failed how m by fresh calls gone) =
    IsModuleOf lib m × IsModuleOf lib by × AllByRecursion (IsFresh lib) fresh × AllByRecursion (IsCall lib) calls × AllByRecursion (IsGone lib) gone
IsDeed lib (deeds.Free m calls gone) = IsModuleOf lib m × AllByRecursion (IsCall lib) calls × AllByRecursion (IsGone lib) gone
IsDeed lib (deeds.Exit calls gone) = AllByRecursion (IsCall lib) calls × AllByRecursion (IsGone lib) gone
IsDeed lib (deeds.Fault serial m p) = IsResidence lib serial m × Has32 p.object × Has32 p.page
IsDeed lib (deeds.Write serial m object offset bytes) = AreBytesAt lib serial m object offset bytes
IsDeed lib (deeds.Debug serial m object offset bytes) = AreBytesAt lib serial m object offset bytes
IsDeed lib (deeds.Shared serial m object offset bytes) = AreBytesAt lib serial m object offset bytes

-- an entry of one of so many processes
abbrev pub IsEntry : Library → ℕ → Entry → Type 0
IsEntry lib processes x = (1 ≤ x.pid) × (x.pid ≤ processes) × IsDeed lib x.deed

abbrev pub commands_at : Option Script → List Command
commands_at None = []
commands_at (Some script) = script.commands

-- a command of some session
pub record IsSaid (c : Command) : Type 0 where
  pub bytes : List ℕ
  pub session : Session
  pub says : Ses bytes session
  pub script : ℕ
  pub place : ℕ
  pub there : slice_get (commands_at (slice_get session.scripts script)) place ≡ Some c

abbrev pub IsRefusal : Refusal → Type 0
IsRefusal (why.ArenaFull number of object size) = Has64 number × Has32 of × Has32 object × Has32 size
IsRefusal (why.InitFailed number by) = Has64 number × Has32 by
IsRefusal (why.NotTouched p) = Has32 p
IsRefusal refusal = Unit {0}

-- a reply that such a command can have; commands that give entries have no reply but a refusal
abbrev pub IsReplyTo : Command → Reply → Type 0
IsReplyTo command (replies.Refused refusal) = IsRefusal refusal
IsReplyTo (commands.Touch at) replies.Fine = Unit {0}
IsReplyTo (commands.Peek at) (replies.Bytes bytes) = AllByRecursion IsByte bytes
IsReplyTo (commands.Query name key) (replies.Address a) = Has32 a
IsReplyTo (commands.GetRes name ty id) (replies.Spot spot) = Has32 spot.object × Has32 spot.offset × Has32 spot.len
IsReplyTo command reply = ⊥

pub record IsLine (l : Line) : Type 0 where
  pub front : Has64 l.front
  pub said : IsSaid l.command
  pub reply : IsReplyTo l.command l.reply

abbrev pub AreLinesOf : ScriptLines → Type 0
AreLinesOf s = AllByRecursion IsLine s.lines

pub record AreCounts (c : Counts) : Type 0 where
  pub processes : Has64 c.processes
  pub entries : Has64 c.entries
  pub faults : Has64 c.faults

-- The numbers of processes rise from 1 to 16, and entries are of those processes.
pub record IsTold (lib : Library) (t : Told) : Type 0 where
  pub few : Has64 (length t.run.history)
  pub rising : Rise 0 (numbers_of t.run.steady) MAX_PROCESSES
  pub entries : AllByRecursion (IsEntry lib (length t.run.steady)) t.run.history
  pub lines : AllByRecursion AreLinesOf t.run.steady
  pub counts : AreCounts t.counts
