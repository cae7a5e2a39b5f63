-- Worked values: modules with two causes not to be loaded, and which of them counts.
use Rattle.std.specs.Prelude.{◌≡◌, ℕ, List, [], ◌∷◌, codes}
use Rattle.lx_types.specs.declared.fix.FixTarget.{FixTarget}
use Rattle.lx_types.specs.declared.fix.FixTarget.TheVariants.{Ordinal}
use Rattle.lx_types.specs.declared.parts.Parts.{Parts}
use Rattle.lx_model.specs.declared.library.Health.TheVariants as health
use Rattle.lx_model.specs.Reach.{HealthOf}
use Rattle.lx_model.specs.Worked.Library.{library, forwarder, owner}

-- targets in the first import: an entry point, one that is not there, and a gate; and in the second: one that comes back
abbrev good : FixTarget
good = Ordinal 1 1

abbrev missing : FixTarget
missing = Ordinal 1 9

abbrev gate : FixTarget
gate = Ordinal 1 2

abbrev looping : FixTarget
looping = Ordinal 2 1

-- a library of A, of L, whose entry 1 is L's own, and of what comes first
abbrev beside : List Parts → List Parts
beside [] = owner (codes "A") 0 ∷ forwarder (codes "L") (codes "L") ∷ []
beside (m ∷ others) = m ∷ beside others

-- X imports A, L and others, and has fixups to these targets
abbrev X : List (List ℕ) → List FixTarget → Parts
X others refs = record (library (codes "X")) { imports = codes "A" ∷ codes "L" ∷ others; refs = refs }

-- a library that imports A and L, with fixups to these targets
abbrev under : List ℕ → List FixTarget → Parts
under name refs = record (library name) { imports = codes "A" ∷ codes "L" ∷ []; refs = refs }

-- X alone before A and L
abbrev alone : List (List ℕ) → List FixTarget → List Parts
alone others refs = beside (X others refs ∷ [])

-- X, which imports Y as well, and Y
abbrev both : List FixTarget → List FixTarget → List Parts
both of_X of_Y = beside (X (codes "Y" ∷ []) of_X ∷ under (codes "Y") of_Y ∷ [])

pub record WorkedHealth : Type 0 where
  -- in one module each kind goes before the next, wherever its target stands
  pub import_first : HealthOf (alone (codes "NONE" ∷ []) (missing ∷ [])) 0 ≡ health.NoModule 0 3
  pub entry_first : HealthOf (alone [] (looping ∷ missing ∷ [])) 0 ≡ health.NoEntry 0
  pub loop_first : HealthOf (alone [] (gate ∷ looping ∷ [])) 0 ≡ health.ForwardLoop 0
  pub gate_last : HealthOf (alone [] (good ∷ gate ∷ [])) 0 ≡ health.Gate286 0
  -- and so it does before a module that is loaded earlier; Y is loaded before X
  pub import_of_later : HealthOf (beside (X (codes "Y" ∷ codes "NONE" ∷ []) [] ∷ under (codes "Y") (missing ∷ []) ∷ [])) 0 ≡ health.NoModule 0 4
  pub entry_of_later : HealthOf (both (missing ∷ []) (looping ∷ [])) 0 ≡ health.NoEntry 0
  pub loop_of_later : HealthOf (both (looping ∷ []) (gate ∷ [])) 0 ≡ health.ForwardLoop 0
  -- of one kind the module that is loaded first counts
  pub first_of_two : HealthOf (both (missing ∷ []) (missing ∷ [])) 0 ≡ health.NoEntry 1
  pub first_loop : HealthOf (both (looping ∷ []) (looping ∷ [])) 0 ≡ health.ForwardLoop 1
  pub first_gate : HealthOf (both (gate ∷ []) (gate ∷ [])) 0 ≡ health.Gate286 1
  pub fit : HealthOf (both (good ∷ []) (good ∷ [])) 0 ≡ health.Fit
