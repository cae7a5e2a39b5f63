-- Worked values: one case of each refusal, and what changes nothing.
use Rattle.std.specs.Prelude.{◌≡◌, ℕ, List, [], ◌∷◌, ◌++◌, codes, replicate, Some, None}
use Rattle.lx_types.specs.declared.parts.Parts.{Parts}
use Rattle.lx_types.specs.declared.entry.EntryHead.TheVariants.{At, Gate286}
use Rattle.lx_types.specs.declared.entry.EntryKey.TheVariants.{Ordinal, Named}
use Rattle.lx_types.specs.declared.fix.FixTarget.TheVariants.{Own}
use Rattle.lx_types.specs.declared.object.PageKind.TheVariants.{Invalid}
use Rattle.lx_types.specs.Object.{zero_page}
use Rattle.load_model.specs.declared.commands.Command.TheVariants as commands
use Rattle.load_model.specs.declared.commands.Command.TheVariants.{Start, Load, Free, Touch, Peek, Write, Query, Exit}
use Rattle.load_model.specs.declared.commands.Reply.TheVariants.{Fine, Bytes, Address}
use Rattle.load_model.specs.declared.commands.Refusal.TheVariants as why
use Rattle.load_model.specs.declared.deeds.How.TheVariants as ways
use Rattle.load_model.specs.Modules.{Library}
use Rattle.load_model.specs.State.{new_process}
use Rattle.load_model.specs.Refusals.{enter_refusal}
use Rattle.load_model.specs.Step.{steady}
use Rattle.load_model.specs.Samples.{Commands, own_data, library, answer_after, place, refused}
use Rattle.load_model.specs.WorkedBytes.{store, both_write}

-- ---- modules that cannot be loaded, and others

-- a library with an entry point named f, a gate, and an invalid page between two
abbrev pub E : Parts
E = record (library (codes "E") []) {
  objects = record { size = 0x3000; base = 0x10000000; flags = own_data; first = 1; count = 3 } ∷ [];
  pages = zero_page ∷ record { kind = Invalid; at = 0; len = 0 } ∷ zero_page ∷ [];
  entries = (1, At 1 0x20) ∷ (2, Gate286 1 0) ∷ [];
  names = (codes "f", 1) ∷ [];
}

-- E with a name and an import, and with a fixup to one of its own ordinals
abbrev importing : List ℕ → List ℕ → Parts
importing name import = record E { name = name; imports = import ∷ [] }

abbrev referring : List ℕ → ℕ → Parts
referring name ordinal = record E { name = name; refs = Own ordinal ∷ [] }

abbrev program : Parts
program = record (library (codes "P") []) { flags = 0 }

abbrev several : Library
several =
    E ∷ importing (codes "LOST") (codes "NONE") ∷ referring (codes "NINE") 9 ∷ referring (codes "GATE") 2
    ∷ program ∷ importing (codes "BAD") (codes "P") ∷ []

pub record WorkedLoadRefusals : Type 0 where
  pub ended : answer_after several ((1, Exit) ∷ []) 1 (Load (codes "E")) ≡ refused why.Ended
  pub started : answer_after several ((1, Start (codes "P")) ∷ []) 1 (Start (codes "P")) ≡ refused why.Started
  pub no_module : answer_after several [] 1 (Load (codes "Q")) ≡ refused why.NoModule
  pub not_program : answer_after several [] 1 (Start (codes "E")) ≡ refused why.NotProgram
  pub not_library : answer_after several [] 1 (Load (codes "P")) ≡ refused why.NotLibrary
  pub lost_import : answer_after several [] 1 (Load (codes "LOST")) ≡ refused why.NoModule
  -- an import never means a program
  pub program_imported : answer_after several [] 1 (Load (codes "BAD")) ≡ refused why.NoModule
  pub no_entry : answer_after several [] 1 (Load (codes "NINE")) ≡ refused why.NoEntry
  pub gate : answer_after several [] 1 (Load (codes "GATE")) ≡ refused why.Gate286
  -- a load more than 65,535, and the last one before
  pub count_full : enter_refusal several (record new_process { loads = replicate 65535 0 }) ways.Load (Some 0) ≡ Some why.CountFull
  pub count_fits : enter_refusal several (record new_process { loads = replicate 65534 0 }) ways.Load (Some 0) ≡ None
  pub not_loaded : answer_after several [] 1 (Free (codes "E")) ≡ refused why.NotHeld
  -- another process's load is not this one's
  pub not_own : answer_after several ((2, Load (codes "E")) ∷ []) 1 (Free (codes "E")) ≡ refused why.NotHeld
  pub exit : answer_after several ((1, Exit) ∷ []) 1 Exit ≡ refused why.Ended

-- ---- places

abbrev load_E : Commands
load_E = (1, Load (codes "E")) ∷ []

pub record WorkedPlaceRefusals : Type 0 where
  pub not_attached : answer_after several [] 1 (Touch (place (codes "E") 1 0 1)) ≡ refused why.NotAttached
  -- one byte past the end, and an object that is not there
  pub range : answer_after several load_E 1 (Touch (place (codes "E") 1 0x2FFF 2)) ≡ refused why.Range
  pub no_object : answer_after several load_E 1 (Touch (place (codes "E") 2 0 1)) ≡ refused why.Range
  pub object_0 : answer_after several load_E 1 (Touch (place (codes "E") 0 0 1)) ≡ refused why.Range
  -- up to the last byte before an invalid page, over its first byte, and its last byte alone
  pub before_invalid : answer_after several load_E 1 (Touch (place (codes "E") 1 0xFFE 2)) ≡ steady Fine
  pub invalid : answer_after several load_E 1 (Touch (place (codes "E") 1 0xFFF 2)) ≡ refused why.Invalid
  pub last_invalid : answer_after several load_E 1 (Touch (place (codes "E") 1 0x1FFF 1)) ≡ refused why.Invalid
  pub fine : answer_after several load_E 1 (Touch (place (codes "E") 1 0x2000 1)) ≡ steady Fine
  pub touched : answer_after several (load_E ++ (1, Touch (place (codes "E") 1 0x2000 1)) ∷ []) 1 (Peek (place (codes "E") 1 0x2FFF 1))
      ≡ steady (Bytes (0 ∷ []))
  pub not_touched : answer_after several (load_E ++ (1, Touch (place (codes "E") 1 0 1)) ∷ []) 1 (Peek (place (codes "E") 1 0x2000 1))
      ≡ refused (why.NotTouched 2)
  pub read_only : answer_after store both_write 1 (Write (place (codes "S") 1 0 1) (1 ∷ [])) ≡ refused why.ReadOnly
  pub is_shared : answer_after store both_write 1 (Peek (place (codes "S") 2 0 1)) ≡ refused why.IsShared
  pub not_shared : answer_after store both_write 1 (commands.Shared (place (codes "S") 3 0 1)) ≡ refused why.NotShared

pub record WorkedQueries : Type 0 where
  pub by_ordinal : answer_after several load_E 1 (Query (codes "e") (Ordinal 1)) ≡ steady (Address 0x10000020)
  pub by_name : answer_after several load_E 1 (Query (codes "E") (Named (codes "f"))) ≡ steady (Address 0x10000020)
  pub no_entry : answer_after several load_E 1 (Query (codes "E") (Named (codes "F"))) ≡ refused why.NoEntry
  pub gate : answer_after several load_E 1 (Query (codes "E") (Ordinal 2)) ≡ refused why.Gate286
  pub not_attached : answer_after several [] 1 (Query (codes "E") (Ordinal 1)) ≡ refused why.NotAttached
