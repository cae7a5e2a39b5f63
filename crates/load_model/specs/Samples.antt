-- What the trials share: small libraries, commands of processes, and what they are answered.
use Rattle.std.specs.Prelude.{ℕ, List, [], ◌∷◌, fold, Some}
use Rattle.lx_types.specs.declared.parts.Parts.{Parts}
use Rattle.lx_types.specs.declared.object.ObjHead.{ObjHead}
use Rattle.load_model.specs.declared.commands.Place.{Place}
use Rattle.load_model.specs.declared.commands.Command.{Command}
use Rattle.load_model.specs.declared.commands.Refusal.{Refusal}
use Rattle.load_model.specs.declared.commands.Reply.TheVariants.{Refused}
use Rattle.load_model.specs.declared.deeds.Call.{Call}
use Rattle.load_model.specs.declared.deeds.CallKind.{CallKind}
use Rattle.load_model.specs.declared.deeds.Fresh.{Fresh}
use Rattle.load_model.specs.declared.deeds.Gone.{Gone}
use Rattle.load_model.specs.Modules.{Library, Held, no_parts}
use Rattle.load_model.specs.State.{Failing, Eager, nothing_yet}
use Rattle.load_model.specs.Step.{Answer, steady, Step}

-- ---- modules

abbrev pub code : ℕ
code = 0x2005

abbrev pub own_data : ℕ
own_data = 0x2003

abbrev pub shared_data : ℕ
shared_data = 0x2023

-- an object without data, so many bytes long, linked at a base
abbrev pub object : ℕ → ℕ → ℕ → ObjHead
object flags size base = record { size = size; base = base; flags = flags; first = 0; count = 0 }

-- a library that starts at the first byte of its one code object
abbrev pub starting : List ℕ → List (List ℕ) → Parts
starting name imports = record no_parts {
  name = name;
  flags = 0x8000;
  start = Some (1, 0);
  objects = object code 16 0x10000000 ∷ [];
  imports = imports;
}

-- a library of objects, without a start address
abbrev pub library : List ℕ → List ObjHead → Parts
library name objects = record no_parts { name = name; flags = 0x8000; objects = objects }

-- ---- runs

-- bytes that are 0 everywhere
abbrev pub zeros : Held
zeros m bases object x = 0

-- commands of processes, one after the other
abbrev pub Commands : Type 0
Commands = List (ℕ × Command)

abbrev pub state_from : Library → Eager → Commands → Eager
state_from lib e commands = fold (λ e c. (Step lib zeros e c.0 c.1).0) e commands

-- what the last command is answered, after others, where some initialisations fail, and where none does
abbrev pub answer_where : Library → Failing → Commands → ℕ → Command → Answer
answer_where lib failing before pid command = (Step lib zeros (state_from lib (nothing_yet failing) before) pid command).1

abbrev pub answer_after : Library → Commands → ℕ → Command → Answer
answer_after lib before pid command = answer_where lib [] before pid command

abbrev pub place : List ℕ → ℕ → ℕ → ℕ → Place
place name object offset len = record { «module» = name; object = object; offset = offset; len = len }

abbrev pub fresh : ℕ → ℕ → List ℕ → Fresh
fresh serial m bases = record { serial = serial; «module» = m; bases = bases }

abbrev pub call : CallKind → ℕ → ℕ → ℕ → Call
call kind serial m address = record { kind = kind; serial = serial; «module» = m; address = address }

abbrev pub gone : ℕ → ℕ → Gone
gone serial m = record { serial = serial; «module» = m }

abbrev pub refused : Refusal → Answer
refused r = steady (Refused r)
