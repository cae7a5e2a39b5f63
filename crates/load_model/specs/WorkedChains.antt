-- Worked values: what a load calls and ends whose initialisation fails at the end of a chain.
use Rattle.std.specs.Prelude.{◌≡◌, ℕ, List, [], ◌∷◌, codes}
use Rattle.lx_types.specs.declared.parts.Parts.{Parts}
use Rattle.load_model.specs.declared.commands.Command.TheVariants.{Start, Load}
use Rattle.load_model.specs.declared.deeds.Call.{Call}
use Rattle.load_model.specs.declared.deeds.CallKind.TheVariants.{Init, Term}
use Rattle.load_model.specs.declared.deeds.Deed.TheVariants as deeds
use Rattle.load_model.specs.declared.deeds.Fresh.{Fresh}
use Rattle.load_model.specs.declared.deeds.Gone.{Gone}
use Rattle.load_model.specs.declared.deeds.How.TheVariants as ways
use Rattle.load_model.specs.Modules.{Library}
use Rattle.load_model.specs.State.{Failing}
use Rattle.load_model.specs.Step.{entry, Answer}
use Rattle.load_model.specs.Samples.{Commands, code, object, starting, answer_where, fresh, call, gone}
use Rattle.load_model.specs.WorkedLoads.{diamond}

-- ---- a chain of four: A imports B, B imports C, and C imports D

abbrev link : List ℕ → List (List ℕ) → ℕ → Parts
link name imports flags = record (starting name imports) { flags = flags }

-- C with other flags
abbrev chain : ℕ → Library
chain of_C =
    starting (codes "A") (codes "B" ∷ []) ∷ starting (codes "B") (codes "C" ∷ []) ∷ link (codes "C") (codes "D" ∷ []) of_C ∷ starting (codes "D") [] ∷ []

abbrev plain : ℕ
plain = 0x8000

-- initialised, and terminated, for each process
abbrev init_each : ℕ
init_each = 0x8004

abbrev term_each : ℕ
term_each = 0x4000_8000

abbrev four_new : List Fresh
four_new = fresh 1 3 (0x10000000 ∷ []) ∷ fresh 2 2 (0x10010000 ∷ []) ∷ fresh 3 1 (0x10020000 ∷ []) ∷ fresh 4 0 (0x10030000 ∷ []) ∷ []

abbrev four_gone : List Gone
four_gone = gone 4 0 ∷ gone 3 1 ∷ gone 2 2 ∷ gone 1 3 ∷ []

-- what the first process is answered that loads A, where a module of the chain fails in it
abbrev load_A : ℕ → ℕ → Commands → Answer
load_A of_C by before = answer_where (chain of_C) ((1, by) ∷ []) before 1 (Load (codes "A"))

-- the answer where all four are new
abbrev failed : ℕ → List Call → Answer
failed by calls = entry (deeds.Failed ways.Load 0 by four_new calls four_gone)

-- the second process has C, and so D: the first two residences
abbrev C_stands : Commands
C_stands = (2, Load (codes "C")) ∷ []

abbrev two_new : List Fresh
two_new = fresh 3 1 (0x10020000 ∷ []) ∷ fresh 4 0 (0x10030000 ∷ []) ∷ []

abbrev failed_beside : ℕ → List Call → Answer
failed_beside by calls = entry (deeds.Failed ways.Load 0 by two_new calls (gone 4 0 ∷ gone 3 1 ∷ []))

pub record WorkedChains : Type 0 where
  -- the last member fails: three were initialised before it, and they are terminated, the last first
  pub last :
      load_A plain 0 [] ≡
      failed 0
      (call Init 1 3 0x10000000 ∷ call Init 2 2 0x10010000 ∷ call Init 3 1 0x10020000 ∷ call Init 4 0 0x10030000 ∷ call Term 3 1 0x10020000
      ∷ call Term 2 2 0x10010000 ∷ call Term 1 3 0x10000000 ∷ [])
  -- one in the middle: the one after it is not called
  pub middle :
      load_A plain 1 [] ≡
      failed 1
      (call Init 1 3 0x10000000 ∷ call Init 2 2 0x10010000 ∷ call Init 3 1 0x10020000 ∷ call Term 2 2 0x10010000 ∷ call Term 1 3 0x10000000 ∷ [])
  -- the first: nothing is terminated
  pub first : load_A plain 3 [] ≡ failed 3 (call Init 1 3 0x10000000 ∷ [])
  -- C and D stand already: only what is new is initialised, and terminated
  pub standing :
      load_A plain 0 C_stands ≡ failed_beside 0 (call Init 3 1 0x10020000 ∷ call Init 4 0 0x10030000 ∷ call Term 3 1 0x10020000 ∷ [])
  -- C, which stood before, is terminated where it is marked for that: in its residence, which stays
  pub terminated :
      load_A term_each 0 C_stands ≡
      failed_beside 0 (call Init 3 1 0x10020000 ∷ call Init 4 0 0x10030000 ∷ call Term 3 1 0x10020000 ∷ call Term 2 2 0x10010000 ∷ [])
  -- marked for initialisation it is called too, and it can fail
  pub called :
      load_A init_each 0 C_stands ≡
      failed_beside 0 (call Init 2 2 0x10010000 ∷ call Init 3 1 0x10020000 ∷ call Init 4 0 0x10030000 ∷ call Term 3 1 0x10020000 ∷ [])
  pub fails_there : load_A init_each 2 C_stands ≡ failed_beside 2 (call Init 2 2 0x10010000 ∷ [])
  -- unmarked it is not called, so that it cannot
  pub not_called :
      load_A plain 2 C_stands ≡ entry (deeds.Enter ways.Load 0 two_new (call Init 3 1 0x10020000 ∷ call Init 4 0 0x10030000 ∷ []))

-- ---- two pairs that fail in one load

-- C and B of the diamond fail; B is initialised first. The answer is one, in whichever order the pairs are given.
abbrev two_fail : Failing → Answer
two_fail failing = answer_where diamond failing [] 1 (Load (codes "A"))

abbrev B_failed : Answer
B_failed =
    entry
    (deeds.Failed ways.Load 0 1
    (fresh 1 3 (0x10000000 ∷ []) ∷ fresh 2 1 (0x10010000 ∷ []) ∷ fresh 3 2 (0x10020000 ∷ []) ∷ fresh 4 0 (0x10030000 ∷ []) ∷ [])
    (call Init 1 3 0x10000000 ∷ call Init 2 1 0x10010000 ∷ call Term 1 3 0x10000000 ∷ []) (gone 4 0 ∷ gone 3 2 ∷ gone 2 1 ∷ gone 1 3 ∷ []))

-- a program that imports the chain's A: of its members B and the program's own pair, which is never an initialisation
abbrev with_program : Library
with_program =
    starting (codes "A") (codes "B" ∷ []) ∷ starting (codes "B") []
    ∷ record (starting (codes "P") (codes "A" ∷ [])) { flags = 0; objects = object code 16 0x00010000 ∷ [] } ∷ []

pub record WorkedTwoFail : Type 0 where
  pub first : two_fail ((1, 1) ∷ (1, 2) ∷ []) ≡ B_failed
  pub other_order : two_fail ((1, 2) ∷ (1, 1) ∷ []) ≡ B_failed
  -- a pair of another process does not count
  pub not_own : two_fail ((2, 3) ∷ (1, 1) ∷ []) ≡ B_failed
  -- all four: D is the first, and nothing is terminated
  pub all :
      two_fail ((1, 0) ∷ (1, 1) ∷ (1, 2) ∷ (1, 3) ∷ []) ≡
      entry
      (deeds.Failed ways.Load 0 3
      (fresh 1 3 (0x10000000 ∷ []) ∷ fresh 2 1 (0x10010000 ∷ []) ∷ fresh 3 2 (0x10020000 ∷ []) ∷ fresh 4 0 (0x10030000 ∷ []) ∷ [])
      (call Init 1 3 0x10000000 ∷ []) (gone 4 0 ∷ gone 3 2 ∷ gone 2 1 ∷ gone 1 3 ∷ []))
  -- a start that fails with its last library terminates the one before; the program is not called
  pub started :
      answer_where with_program ((1, 2) ∷ (1, 0) ∷ []) [] 1 (Start (codes "P")) ≡
      entry
      (deeds.Failed ways.Start 2 0 (fresh 1 1 (0x10000000 ∷ []) ∷ fresh 2 0 (0x10010000 ∷ []) ∷ fresh 3 2 (0x00010000 ∷ []) ∷ [])
      (call Init 1 1 0x10000000 ∷ call Init 2 0 0x10010000 ∷ call Term 1 1 0x10000000 ∷ []) (gone 3 2 ∷ gone 2 0 ∷ gone 1 1 ∷ []))
