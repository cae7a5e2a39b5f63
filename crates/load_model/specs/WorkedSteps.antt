-- Worked values: the steps of touches of a module of two pages, the first with one source and the second with two.
use Rattle.std.specs.Prelude.{◌≡◌, ℕ, List, [], ◌∷◌, codes}
use Rattle.lx_model.specs.Worked.Library.{fixed_up}
use Rattle.load_model.specs.declared.deeds.Deed.TheVariants.{Fault}
use Rattle.load_model.specs.declared.deeds.Entry.{Entry}
use Rattle.load_model.specs.Modules.{Library}
use Rattle.load_model.specs.State.{PageOf}
use Rattle.load_model.specs.Memory.{page}
use Rattle.load_model.specs.TouchSteps.{touch_steps}

-- with an object of these flags
abbrev sourced : ℕ → Library
sourced flags = fixed_up flags (codes "B") (0x05 ∷ 0x00 ∷ 0x00 ∷ 0x00 ∷ 0x01 ∷ 0x34 ∷ 0x12 ∷ [])
    (0x27 ∷ 0x00 ∷ 0x02 ∷ 0x01 ∷ 0x10 ∷ 0x00 ∷ 0x00 ∷ 0x00 ∷ 0x08 ∷ 0x00 ∷ []) [] ∷ []

abbrev both : List PageOf
both = record { serial = 1; page = page 1 0 } ∷ record { serial = 1; page = page 1 1 } ∷ []

abbrev fault : ℕ → ℕ → Entry
fault pid n = record { pid = pid; deed = Fault 1 0 (page 1 n) }

pub record WorkedSteps : Type 0 where
  -- code: the process made both faults, or another one made the second, or both
  pub own : touch_steps (sourced 0x2005) 1 0 (fault 1 0 ∷ fault 1 1 ∷ []) both ≡ 3
  pub first : touch_steps (sourced 0x2005) 1 0 (fault 1 0 ∷ fault 2 1 ∷ []) both ≡ 1
  pub others : touch_steps (sourced 0x2005) 1 0 (fault 2 0 ∷ fault 2 1 ∷ []) both ≡ 0
  -- a private object has no faults
  pub private : touch_steps (sourced 0x2003) 1 0 [] both ≡ 3
  pub second : touch_steps (sourced 0x2003) 1 0 [] (record { serial = 1; page = page 1 1 } ∷ []) ≡ 2
