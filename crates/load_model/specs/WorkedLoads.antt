-- Worked values: what loads attach, place and call, and what leaves.
use Rattle.std.specs.Prelude.{◌≡◌, ℕ, [], ◌∷◌, ◌++◌, codes, map}
use Rattle.std.specs.List.{range_with_len}
use Rattle.lx_types.specs.declared.parts.Parts.{Parts}
use Rattle.load_model.specs.declared.commands.Command.{Command}
use Rattle.load_model.specs.declared.commands.Command.TheVariants.{Start, Load, Free, Exit}
use Rattle.load_model.specs.declared.deeds.How.TheVariants as ways
use Rattle.load_model.specs.declared.deeds.CallKind.TheVariants.{Init, Term, Main}
use Rattle.load_model.specs.declared.deeds.Deed.TheVariants as deeds
use Rattle.load_model.specs.Modules.{Library}
use Rattle.load_model.specs.Step.{entry}
use Rattle.load_model.specs.Samples.{Commands, code, object, starting, library, answer_after, fresh, call, gone}

-- ---- a diamond: A imports B and C, which both import D

abbrev pub diamond : Library
diamond =
    starting (codes "A") (codes "B" ∷ codes "C" ∷ []) ∷ starting (codes "B") (codes "D" ∷ []) ∷ starting (codes "C") (codes "D" ∷ [])
    ∷ starting (codes "D") [] ∷ []

abbrev load_A : ℕ × Command
load_A = (1, Load (codes "A"))

abbrev both_load_A : Commands
both_load_A = load_A ∷ (2, Load (codes "A")) ∷ []

-- A and C are loaded, and A is freed
abbrev A_freed : Commands
A_freed = load_A ∷ (2, Load (codes "C")) ∷ (1, Free (codes "A")) ∷ []

pub record WorkedDiamond : Type 0 where
  -- what is new is placed, numbered and initialised in the order of imports
  pub first :
      answer_after diamond [] 1 (Load (codes "A")) ≡
      entry (deeds.Enter ways.Load 0
      (fresh 1 3 (0x10000000 ∷ []) ∷ fresh 2 1 (0x10010000 ∷ []) ∷ fresh 3 2 (0x10020000 ∷ []) ∷ fresh 4 0 (0x10030000 ∷ []) ∷ [])
      (call Init 1 3 0x10000000 ∷ call Init 2 1 0x10010000 ∷ call Init 3 2 0x10020000 ∷ call Init 4 0 0x10030000 ∷ []))
  -- for a second process nothing is new
  pub second : answer_after diamond (load_A ∷ []) 2 (Load (codes "A")) ≡ entry (deeds.Enter ways.Load 0 [] [])
  pub one_left : answer_after diamond both_load_A 1 Exit ≡ entry (deeds.Exit [] [])
  pub none_left :
      answer_after diamond ((1, Load (codes "A")) ∷ (2, Load (codes "A")) ∷ (1, Exit) ∷ []) 2 Exit ≡
      entry (deeds.Exit
      (call Term 4 0 0x10030000 ∷ call Term 3 2 0x10020000 ∷ call Term 2 1 0x10010000 ∷ call Term 1 3 0x10000000 ∷ [])
      (gone 4 0 ∷ gone 3 2 ∷ gone 2 1 ∷ gone 1 3 ∷ []))
  -- a free takes the two that no process reaches, and a load brings them back as new residences
  pub freed :
      answer_after diamond (load_A ∷ (2, Load (codes "C")) ∷ []) 1 (Free (codes "A")) ≡
      entry (deeds.Free 0 (call Term 4 0 0x10030000 ∷ call Term 2 1 0x10010000 ∷ []) (gone 4 0 ∷ gone 2 1 ∷ []))
  pub again :
      answer_after diamond A_freed 1 (Load (codes "a")) ≡
      entry (deeds.Enter ways.Load 0 (fresh 5 1 (0x10010000 ∷ []) ∷ fresh 6 0 (0x10030000 ∷ []) ∷ [])
      (call Init 5 1 0x10010000 ∷ call Init 6 0 0x10030000 ∷ []))

-- ---- places

-- two libraries, linked at one base; and one of so many bytes
abbrev side_by_side : Library
side_by_side = library (codes "X") (object code 8 0x10000000 ∷ []) ∷ library (codes "Y") (object code 8 0x10000000 ∷ []) ∷ []

abbrev large : ℕ → Library
large size = library (codes "L") (object code size 0x10000000 ∷ []) ∷ []

-- a program of two objects that imports X, and its start address
abbrev program : Parts
program = record (starting (codes "P") (codes "X" ∷ [])) { flags = 0; objects = object code 0x10001 0x00010000 ∷ object code 0 0x00010000 ∷ [] }

abbrev with_program : Library
with_program = library (codes "X") (object code 8 0 ∷ []) ∷ program ∷ []

pub record WorkedPlaces : Type 0 where
  -- the least free multiple of 65,536
  pub beside :
      answer_after side_by_side ((1, Load (codes "X")) ∷ []) 1 (Load (codes "Y")) ≡
      entry (deeds.Enter ways.Load 1 (fresh 2 1 (0x10010000 ∷ []) ∷ []) [])
  -- the whole arena, and one byte more
  pub fits : answer_after (large 0x10000000) [] 1 (Load (codes "L")) ≡ entry (deeds.Enter ways.Load 0 (fresh 1 0 (0x10000000 ∷ []) ∷ []) [])
  pub full : answer_after (large 0x10000001) [] 1 (Load (codes "L")) ≡ entry (deeds.Full ways.Load 0 0 1 0x10000001)
  -- a program stands in an arena of its own; its objects take whole units, an empty one too
  pub started :
      answer_after with_program [] 1 (Start (codes "P")) ≡
      entry (deeds.Enter ways.Start 1 (fresh 1 0 (0x10000000 ∷ []) ∷ fresh 2 1 (0x00010000 ∷ 0x00030000 ∷ []) ∷ []) (call Main 2 1 0x00010000 ∷ []))
  -- two processes share its residence, and each starts it
  pub shared :
      answer_after with_program ((1, Start (codes "P")) ∷ []) 2 (Start (codes "P")) ≡
      entry (deeds.Enter ways.Start 1 [] (call Main 2 1 0x00010000 ∷ []))

-- ---- calls for each process

-- a library that is initialised and terminated for each process
abbrev each : Library
each = record (starting (codes "I") []) { flags = 0x4000_8004 } ∷ []

abbrev both_load_I : Commands
both_load_I = (1, Load (codes "I")) ∷ (2, Load (codes "I")) ∷ []

-- the first 15 processes load D
abbrev fifteen : Commands
fifteen = map (λ pid. (pid, Load (codes "D"))) (range_with_len 1 15)

pub record WorkedCalls : Type 0 where
  pub first : answer_after each [] 1 (Load (codes "I")) ≡ entry (deeds.Enter ways.Load 0 (fresh 1 0 (0x10000000 ∷ []) ∷ []) (call Init 1 0 0x10000000 ∷ []))
  pub second : answer_after each ((1, Load (codes "I")) ∷ []) 2 (Load (codes "I")) ≡ entry (deeds.Enter ways.Load 0 [] (call Init 1 0 0x10000000 ∷ []))
  -- a second load by one process attaches nothing, and a free of one of two gives up nothing
  pub again : answer_after each ((1, Load (codes "I")) ∷ []) 1 (Load (codes "I")) ≡ entry (deeds.Enter ways.Load 0 [] [])
  pub one_of_two : answer_after each ((1, Load (codes "I")) ∷ (1, Load (codes "I")) ∷ []) 1 (Free (codes "I")) ≡ entry (deeds.Free 0 [] [])
  pub freed : answer_after each both_load_I 1 (Free (codes "I")) ≡ entry (deeds.Free 0 (call Term 1 0 0x10000000 ∷ []) [])
  pub all_gone : answer_after each (both_load_I ++ (1, Free (codes "I")) ∷ []) 2 Exit ≡ entry (deeds.Exit (call Term 1 0 0x10000000 ∷ []) (gone 1 0 ∷ []))
  -- of sixteen processes the last one ends the residence
  pub sixteenth : answer_after diamond fifteen 16 (Load (codes "D")) ≡ entry (deeds.Enter ways.Load 3 [] [])
  pub last :
      answer_after diamond (fifteen ++ map (λ pid. (pid, Exit)) (range_with_len 2 14)) 1 Exit ≡
      entry (deeds.Exit (call Term 1 3 0x10000000 ∷ []) (gone 1 3 ∷ []))
