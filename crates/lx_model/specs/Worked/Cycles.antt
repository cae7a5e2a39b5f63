-- Worked values: modules that import each other, and a library that imports itself.
use Rattle.std.specs.Prelude.{◌≡◌, ℕ, List, [], ◌∷◌, map, codes, Err}
use Rattle.lx_types.specs.declared.fix.FixTarget.TheVariants.{Ordinal, Named}
use Rattle.lx_types.specs.declared.parts.Parts.{Parts}
use Rattle.lx_model.specs.declared.library.EntryFault.TheVariants as faults
use Rattle.lx_model.specs.declared.library.Health.TheVariants as health
use Rattle.lx_model.specs.Entries.{Entry}
use Rattle.lx_model.specs.Reach.{Order, HealthOf}
use Rattle.lx_model.specs.Worked.Library.{library, owner, forwarder}

-- a library that imports others
abbrev pub importing : List (List ℕ) → Parts → Parts
importing names m = record m { imports = names }

-- X and Y import each other
abbrev pub each_other : List Parts
each_other = importing (codes "Y" ∷ []) (library (codes "X")) ∷ importing (codes "X" ∷ []) (library (codes "Y")) ∷ []

-- a ring of three, into which A leads, and a second import of the ring
abbrev ring : List Parts
ring =
    importing (codes "B" ∷ codes "D" ∷ []) (library (codes "A")) ∷ importing (codes "C" ∷ []) (library (codes "B"))
    ∷ importing (codes "D" ∷ []) (library (codes "C")) ∷ importing (codes "B" ∷ []) (library (codes "D")) ∷ []

-- a library with a fixup to its own entry 1, by its own name
abbrev pub to_itself : Parts
to_itself = record (owner (codes "S") 0) { imports = codes "S" ∷ []; refs = Ordinal 1 1 ∷ [] }

-- two libraries of which each forwards f to the other, and a third whose fixup goes there
abbrev looping : List Parts
looping =
    forwarder (codes "A") (codes "B") ∷ forwarder (codes "B") (codes "A")
    ∷ record (forwarder (codes "X") (codes "A")) { entries = []; names = []; refs = Named 1 1 ∷ [] } ∷ []

pub record WorkedCycles : Type 0 where
  -- a module's imports come before it, but for those that the visit came from
  pub first : Order each_other 0 ≡ 1 ∷ 0 ∷ []
  pub second : Order each_other 1 ≡ 0 ∷ 1 ∷ []
  pub fit : map (HealthOf each_other) (0 ∷ 1 ∷ []) ≡ health.Fit ∷ health.Fit ∷ []
  pub from_outside : Order ring 0 ≡ 3 ∷ 2 ∷ 1 ∷ 0 ∷ []
  pub from_inside : Order ring 3 ≡ 2 ∷ 1 ∷ 3 ∷ []
  pub ring_fit : HealthOf ring 0 ≡ health.Fit
  pub itself : Order (to_itself ∷ []) 0 ≡ 0 ∷ []
  pub itself_fit : HealthOf (to_itself ∷ []) 0 ≡ health.Fit
  -- Forwarders that come back keep out a module whose fixup they serve. One that no fixup uses keeps out
  -- none: a query of it fails alone.
  pub used : HealthOf looping 2 ≡ health.ForwardLoop 2
  pub unused : HealthOf looping 0 ≡ health.Fit
  pub asked : Entry looping (0, 1) ≡ Err faults.ForwardLoop
