-- Worked values: commands with two causes to be refused, and which of them counts.
use Rattle.std.specs.Prelude.{◌≡◌, ℕ, List, [], ◌∷◌, codes, replicate, true, Some}
use Rattle.lx_types.specs.declared.parts.Parts.{Parts}
use Rattle.lx_types.specs.declared.entry.EntryKey.TheVariants.{Ordinal}
use Rattle.lx_types.specs.declared.object.ObjHead.{ObjHead}
use Rattle.lx_types.specs.declared.object.PageHead.{PageHead}
use Rattle.lx_types.specs.declared.object.PageKind.TheVariants.{Invalid}
use Rattle.lx_types.specs.Object.{zero_page}
use Rattle.load_model.specs.declared.commands.Command.{Command}
use Rattle.load_model.specs.declared.commands.Command.TheVariants as commands
use Rattle.load_model.specs.declared.commands.Command.TheVariants.{Start, Load, Free, Touch, Peek, Write, Debug, Query, GetRes, Exit}
use Rattle.load_model.specs.declared.commands.Place.{Place}
use Rattle.load_model.specs.declared.commands.Refusal.{Refusal}
use Rattle.load_model.specs.declared.commands.Refusal.TheVariants as why
use Rattle.load_model.specs.declared.deeds.How.{How}
use Rattle.load_model.specs.declared.deeds.How.TheVariants as ways
use Rattle.load_model.specs.Modules.{Library}
use Rattle.load_model.specs.State.{Process, new_process}
use Rattle.load_model.specs.Refusals.{enter_refusal}
use Rattle.load_model.specs.Samples.{Commands, code, own_data, shared_data, library, answer_after, place, refused}

-- ---- modules

-- an object of two pages, of which the second is invalid
abbrev half : ℕ → ℕ → ℕ → ObjHead
half flags base first = record { size = 0x2000; base = base; flags = flags; first = first; count = 2 }

abbrev hole : PageHead
hole = record { kind = Invalid; at = 0; len = 0 }

-- a library of code, own data and shared data
abbrev halves : Parts
halves = record (library (codes "H") (half code 0x10000000 1 ∷ half own_data 0x10010000 3 ∷ half shared_data 0x10020000 5 ∷ [])) {
  pages = zero_page ∷ hole ∷ zero_page ∷ hole ∷ zero_page ∷ hole ∷ [];
}

-- a library, and a program, whose import is lost; and a program without imports
abbrev lost : ℕ → List ℕ → Parts
lost flags name = record (library name []) { flags = flags; imports = codes "NONE" ∷ [] }

abbrev program : Parts
program = record (library (codes "P") []) { flags = 0 }

abbrev mixed : Library
mixed = halves ∷ lost 0x8000 (codes "LOST") ∷ lost 0 (codes "LOSTP") ∷ program ∷ []

-- ---- starts and loads

-- the first process has ended, and has started P
abbrev ended : Commands
ended = (1, Exit) ∷ []

abbrev started : Commands
started = (1, Start (codes "P")) ∷ []

abbrev is_first : Commands → Command → Refusal → Type 0
is_first before command refusal = answer_after mixed before 1 command ≡ refused refusal

-- of a process that is told, of a module by number
abbrev of_process : Process → How → ℕ → Refusal → Type 0
of_process p how m refusal = enter_refusal mixed p how (Some m) ≡ Some refusal

-- one with as many loads of a module as there can be
abbrev full_of : ℕ → Process
full_of m = record new_process { loads = replicate 65535 m }

pub record WorkedEnterOrder : Type 0 where
  -- Ended goes before Started, of which no history has both
  pub ended_started : of_process (record new_process { started = Some 3; ended = true }) ways.Start 3 why.Ended
  pub ended_start : is_first ended (Start (codes "Q")) why.Ended
  pub ended_load : is_first ended (Load (codes "Q")) why.Ended
  pub ended_kind : is_first ended (Load (codes "P")) why.Ended
  -- Started before a module that is not there, is no program, or is not fit
  pub started_module : is_first started (Start (codes "Q")) why.Started
  pub started_program : is_first started (Start (codes "H")) why.Started
  pub started_health : is_first started (Start (codes "LOSTP")) why.Started
  -- the kind of module before its health
  pub program_health : is_first [] (Start (codes "LOST")) why.NotProgram
  pub library_health : is_first [] (Load (codes "LOSTP")) why.NotLibrary
  -- and both before the count
  pub library_count : of_process (full_of 3) ways.Load 3 why.NotLibrary
  pub health_count : of_process (full_of 1) ways.Load 1 why.NoModule
  pub count : of_process (full_of 0) ways.Load 0 why.CountFull
  -- a start counts nothing
  pub start_count : of_process (full_of 1) ways.Start 1 why.NotProgram

-- ---- whatever ended

-- each command of a process that has ended has another cause too, except for an exit
pub record WorkedEnded : Type 0 where
  pub start : is_first ended (Start (codes "H")) why.Ended
  pub load : is_first ended (Load (codes "LOST")) why.Ended
  pub free : is_first ended (Free (codes "H")) why.Ended
  pub touch : is_first ended (Touch (place (codes "H") 1 0 1)) why.Ended
  pub peek : is_first ended (Peek (place (codes "H") 3 0 1)) why.Ended
  pub shared : is_first ended (commands.Shared (place (codes "H") 1 0 1)) why.Ended
  pub write : is_first ended (Write (place (codes "H") 1 0 1) (1 ∷ [])) why.Ended
  pub debug : is_first ended (Debug (place (codes "H") 2 0 1) (1 ∷ [])) why.Ended
  pub query : is_first ended (Query (codes "H") (Ordinal 9)) why.Ended
  pub getres : is_first ended (GetRes (codes "H") 1 1) why.Ended
  pub exit : is_first ended Exit why.Ended

-- ---- places

abbrev with_H : Commands
with_H = (1, Load (codes "H")) ∷ []

-- in an object of H: the last two bytes of its first page and of it, the first of its second page, and two over them
abbrev past : ℕ → Place
past object = place (codes "H") object 0x1FFF 2

abbrev in_hole : ℕ → Place
in_hole object = place (codes "H") object 0x1000 1

abbrev over_hole : ℕ → Place
over_hole object = place (codes "H") object 0x0FFF 2

-- the bytes of a write there
abbrev one : List ℕ
one = 1 ∷ []

abbrev two : List ℕ
two = 1 ∷ 2 ∷ []

-- a place of a library that is not attached
abbrev apart : List ℕ → Place
apart name = place name 9 0 2

pub record WorkedPlaceOrder : Type 0 where
  -- NotAttached before Range, of a library that stands elsewhere, and of none
  pub touch_attached : is_first ((2, Load (codes "H")) ∷ []) (Touch (apart (codes "H"))) why.NotAttached
  pub peek_attached : is_first ((2, Load (codes "H")) ∷ []) (Peek (apart (codes "H"))) why.NotAttached
  pub shared_attached : is_first ((2, Load (codes "H")) ∷ []) (commands.Shared (apart (codes "H"))) why.NotAttached
  pub write_attached : is_first ((2, Load (codes "H")) ∷ []) (Write (apart (codes "H")) two) why.NotAttached
  pub debug_attached : is_first ((2, Load (codes "H")) ∷ []) (Debug (apart (codes "Q")) two) why.NotAttached
  -- Range before the object's class
  pub write_range : is_first with_H (Write (past 1) two) why.Range
  pub peek_range : is_first with_H (Peek (past 3)) why.Range
  pub shared_range : is_first with_H (commands.Shared (past 2)) why.Range
  pub debug_range : is_first with_H (Debug (past 3) two) why.Range
  -- the class before an invalid page
  pub read_only : is_first with_H (Write (in_hole 1) one) why.ReadOnly
  pub is_shared : is_first with_H (Peek (in_hole 3)) why.IsShared
  pub not_shared : is_first with_H (commands.Shared (in_hole 1)) why.NotShared
  pub own_not_shared : is_first with_H (commands.Shared (in_hole 2)) why.NotShared
  pub not_code : is_first with_H (Debug (in_hole 2) one) why.NotCode
  pub shared_not_code : is_first with_H (Debug (in_hole 3) one) why.NotCode
  -- Range before an invalid page, where no class is refused
  pub touch_past : is_first with_H (Touch (past 1)) why.Range
  -- an invalid page before one that was not touched
  pub write_invalid : is_first with_H (Write (over_hole 2) two) why.Invalid
  pub peek_invalid : is_first with_H (Peek (over_hole 1)) why.Invalid
  pub shared_invalid : is_first with_H (commands.Shared (over_hole 3)) why.Invalid
  pub debug_invalid : is_first with_H (Debug (over_hole 1) two) why.Invalid
  -- and the class before that, too
  pub write_untouched : is_first with_H (Write (place (codes "H") 1 0 1) one) why.ReadOnly
  -- NotAttached before what the module has not
  pub query_attached : is_first [] (Query (codes "H") (Ordinal 9)) why.NotAttached
  pub getres_attached : is_first [] (GetRes (codes "H") 1 1) why.NotAttached
