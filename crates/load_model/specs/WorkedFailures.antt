-- Worked values: initialisations that fail.
use Rattle.std.specs.Prelude.{◌≡◌, ℕ, [], ◌∷◌, codes}
use Rattle.load_model.specs.declared.commands.Command.{Command}
use Rattle.load_model.specs.declared.commands.Command.TheVariants.{Start, Load, Free, Exit}
use Rattle.load_model.specs.declared.commands.Refusal.TheVariants as why
use Rattle.load_model.specs.declared.commands.Reply.TheVariants.{Refused}
use Rattle.load_model.specs.declared.deeds.How.TheVariants as ways
use Rattle.load_model.specs.declared.deeds.CallKind.TheVariants.{Init, Term}
use Rattle.load_model.specs.declared.deeds.Deed.TheVariants as deeds
use Rattle.load_model.specs.Modules.{Library}
use Rattle.load_model.specs.State.{Failing}
use Rattle.load_model.specs.Step.{entry, Answer}
use Rattle.load_model.specs.Outcomes.{done, told, outcome_of}
use Rattle.load_model.specs.Samples.{Commands, code, object, starting, library, answer_where, fresh, call, gone, refused}
use Rattle.load_model.specs.WorkedLoads.{diamond}

-- B's initialisation fails in the first process
abbrev B_fails : Failing
B_fails = (1, 1) ∷ []

abbrev where_B_fails : Commands → ℕ → Command → Answer
where_B_fails before pid command = answer_where diamond B_fails before pid command

abbrev load_A : ℕ × Command
load_A = (1, Load (codes "A"))

-- U imports V, which is terminated for each process
abbrev termed : Library
termed = starting (codes "U") (codes "V" ∷ []) ∷ record (starting (codes "V") []) { flags = 0x4000_8000 } ∷ []

-- a program that imports X, and a library too large for the arena that imports X
abbrev with_program : Library
with_program =
    starting (codes "X") [] ∷ record (starting (codes "P") (codes "X" ∷ [])) { flags = 0; objects = object code 16 0x00010000 ∷ [] }
    ∷ record (library (codes "L") (object code 0x10000001 0 ∷ [])) { imports = codes "X" ∷ [] } ∷ []

pub record WorkedFailures : Type 0 where
  -- D and B are initialised, B fails; D is terminated, and all that began ends
  pub first :
      where_B_fails [] 1 (Load (codes "A")) ≡
      entry (deeds.Failed ways.Load 0 1
      (fresh 1 3 (0x10000000 ∷ []) ∷ fresh 2 1 (0x10010000 ∷ []) ∷ fresh 3 2 (0x10020000 ∷ []) ∷ fresh 4 0 (0x10030000 ∷ []) ∷ [])
      (call Init 1 3 0x10000000 ∷ call Init 2 1 0x10010000 ∷ call Term 1 3 0x10000000 ∷ [])
      (gone 4 0 ∷ gone 3 2 ∷ gone 2 1 ∷ gone 1 3 ∷ []))
  -- C, which does not import B, loads where nothing is left of it but the serial numbers
  pub untouched :
      where_B_fails (load_A ∷ []) 1 (Load (codes "C")) ≡
      entry (deeds.Enter ways.Load 2 (fresh 5 3 (0x10000000 ∷ []) ∷ fresh 6 2 (0x10010000 ∷ []) ∷ [])
      (call Init 5 3 0x10000000 ∷ call Init 6 2 0x10010000 ∷ []))
  -- it does not fail in another process
  pub others :
      where_B_fails (load_A ∷ []) 2 (Load (codes "A")) ≡
      entry (deeds.Enter ways.Load 0
      (fresh 5 3 (0x10000000 ∷ []) ∷ fresh 6 1 (0x10010000 ∷ []) ∷ fresh 7 2 (0x10020000 ∷ []) ∷ fresh 8 0 (0x10030000 ∷ []) ∷ [])
      (call Init 5 3 0x10000000 ∷ call Init 6 1 0x10010000 ∷ call Init 7 2 0x10020000 ∷ call Init 8 0 0x10030000 ∷ []))
  -- nor where it is not called: what another process loaded is there already
  pub later : where_B_fails (load_A ∷ (2, Load (codes "A")) ∷ []) 1 (Load (codes "A")) ≡ entry (deeds.Enter ways.Load 0 [] [])
  -- a failed load counts for nothing, and leaves nothing to exit from
  pub not_held : where_B_fails (load_A ∷ []) 1 (Free (codes "A")) ≡ refused why.NotHeld
  pub exit : where_B_fails (load_A ∷ []) 1 Exit ≡ entry (deeds.Exit [] [])
  -- a module without a start address is not called, so that it cannot fail
  pub none_called :
      answer_where (library (codes "M") [] ∷ []) ((1, 0) ∷ []) [] 1 (Load (codes "M")) ≡ entry (deeds.Enter ways.Load 0 (fresh 1 0 [] ∷ []) [])
  -- V stands already and is not initialised; marked for it, it is terminated all the same
  pub not_new :
      answer_where termed ((2, 0) ∷ []) ((1, Load (codes "V")) ∷ []) 2 (Load (codes "U")) ≡
      entry (deeds.Failed ways.Load 0 0 (fresh 2 0 (0x10010000 ∷ []) ∷ []) (call Init 2 0 0x10010000 ∷ call Term 1 1 0x10000000 ∷ []) (gone 2 0 ∷ []))
  -- a start fails with a library, before the program is called
  pub started :
      answer_where with_program ((1, 0) ∷ []) [] 1 (Start (codes "P")) ≡
      entry (deeds.Failed ways.Start 1 0 (fresh 1 0 (0x10000000 ∷ []) ∷ fresh 2 1 (0x00010000 ∷ []) ∷ []) (call Init 1 0 0x10000000 ∷ [])
      (gone 2 1 ∷ gone 1 0 ∷ []))
  -- want of a place is found before any call
  pub full : answer_where with_program ((1, 0) ∷ []) [] 1 (Load (codes "L")) ≡ entry (deeds.Full ways.Load 2 2 1 0x10000001)
  -- its caller is told so, with the number of the entry, as of want of a place; one whose load succeeds, that it is done
  pub told_failed : outcome_of 1 (where_B_fails [] 1 (Load (codes "A"))) ≡ told (Refused (why.InitFailed 1 1))
  pub told_full : outcome_of 3 (answer_where with_program ((1, 0) ∷ []) [] 1 (Load (codes "L"))) ≡ told (Refused (why.ArenaFull 3 2 1 0x10000001))
  pub told_done : outcome_of 2 (where_B_fails (load_A ∷ []) 2 (Load (codes "A"))) ≡ done 2
