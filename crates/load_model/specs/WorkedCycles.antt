-- Worked values: libraries that import each other, or themselves.
use Rattle.std.specs.Prelude.{◌≡◌, [], ◌∷◌, ◌++◌, codes}
use Rattle.lx_types.specs.declared.entry.EntryHead.TheVariants.{At}
use Rattle.lx_types.specs.declared.entry.EntryKey.TheVariants as keys
use Rattle.lx_types.specs.declared.fix.FixTarget.TheVariants.{Ordinal, Named}
use Rattle.lx_model.specs.Worked.Library.{forwarder}
use Rattle.load_model.specs.declared.commands.Command.TheVariants.{Load, Free, Query}
use Rattle.load_model.specs.declared.commands.Refusal.TheVariants as why
use Rattle.load_model.specs.declared.deeds.How.TheVariants as ways
use Rattle.load_model.specs.declared.deeds.CallKind.TheVariants.{Init, Term}
use Rattle.load_model.specs.declared.deeds.Deed.TheVariants as deeds
use Rattle.load_model.specs.Modules.{Library}
use Rattle.load_model.specs.Step.{entry}
use Rattle.load_model.specs.Samples.{Commands, starting, answer_after, fresh, call, gone, refused}

-- X imports Y and Y imports X
abbrev pub each_other : Library
each_other = starting (codes "X") (codes "Y" ∷ []) ∷ starting (codes "Y") (codes "X" ∷ []) ∷ []

-- the first loads X, and the second Y
abbrev both_load : Commands
both_load = (1, Load (codes "X")) ∷ (2, Load (codes "Y")) ∷ []

-- a library with a fixup to its own entry, by its own name
abbrev to_itself : Library
to_itself = record (starting (codes "S") (codes "S" ∷ [])) { entries = (1, At 1 0) ∷ []; refs = Ordinal 1 1 ∷ [] } ∷ []

-- A's f is B's f, and B's is A's; a fixup of C goes there
abbrev coming_back : Library
coming_back =
    forwarder (codes "A") (codes "B") ∷ forwarder (codes "B") (codes "A")
    ∷ record (forwarder (codes "C") (codes "A")) { entries = []; names = []; refs = Named 1 1 ∷ [] } ∷ []

pub record WorkedCycles : Type 0 where
  pub first :
      answer_after each_other [] 1 (Load (codes "X")) ≡
      entry (deeds.Enter ways.Load 0 (fresh 1 1 (0x10000000 ∷ []) ∷ fresh 2 0 (0x10010000 ∷ []) ∷ [])
      (call Init 1 1 0x10000000 ∷ call Init 2 0 0x10010000 ∷ []))
  pub second : answer_after each_other ((1, Load (codes "X")) ∷ []) 2 (Load (codes "Y")) ≡ entry (deeds.Enter ways.Load 1 [] [])
  -- both stand as long as some process reaches one of them
  pub one_left : answer_after each_other both_load 1 (Free (codes "X")) ≡ entry (deeds.Free 0 [] [])
  pub both_left :
      answer_after each_other (both_load ++ (1, Free (codes "X")) ∷ []) 2 (Free (codes "Y")) ≡
      entry (deeds.Free 1 (call Term 1 1 0x10000000 ∷ call Term 2 0 0x10010000 ∷ []) (gone 1 1 ∷ gone 2 0 ∷ []))
  -- one initialisation
  pub itself : answer_after to_itself [] 1 (Load (codes "S"))
      ≡ entry (deeds.Enter ways.Load 0 (fresh 1 0 (0x10000000 ∷ []) ∷ []) (call Init 1 0 0x10000000 ∷ []))
  -- forwarders that come back: the load of whose fixup uses them, and the query of whoever loads them
  pub looping : answer_after coming_back [] 1 (Load (codes "C")) ≡ refused why.ForwardLoop
  pub unused : answer_after coming_back [] 1 (Load (codes "A")) ≡ entry (deeds.Enter ways.Load 0 (fresh 1 1 [] ∷ fresh 2 0 [] ∷ []) [])
  pub asked : answer_after coming_back ((1, Load (codes "A")) ∷ []) 1 (Query (codes "A") (keys.Named (codes "f"))) ≡ refused why.ForwardLoop
