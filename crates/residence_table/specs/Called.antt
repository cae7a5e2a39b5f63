-- Of which state and process a start or a load is, and what leaves.
use Rattle.std.specs.Prelude.{◌≡◌, ℕ, ◌<◌, length, map, All, Option}
use Rattle.load_model.specs.Modules.{Library}
use Rattle.load_model.specs.State.{Residence, Process, Eager, serial_of, bases_of}
use Rattle.load_model.specs.Entering.{joined, newcomers, entering_calls}
use Rattle.load_model.specs.Leaving.{left, gone_modules}
use Rattle.residence_table.specs.declared.entry.Entering.{Entering}
use Rattle.residence_table.specs.declared.entry.Leaving.{Leaving}
use Rattle.residence_table.specs.declared.entry.Failure.{Failure}
use Rattle.residence_table.specs.declared.placement.Placement.{Placement}

-- The module stands where the residence does, if there is one.
pub record IsAt (at : Placement) (r : Option Residence) : Type 0 where
  pub serial : at.serial ≡ serial_of r
  pub bases : at.bases.now ≡ bases_of r

-- It is of modules of the library.
pub record IsWithin (lib : Library) (entering : Entering) : Type 0 where
  pub «module» : entering.«module» < length lib
  pub joined : All (λ k. k < length lib) entering.joined.now

-- What a process attaches with the module in a state, and what of that is new.
pub record IsEnteringOf (lib : Library) (e : Eager) (pid : ℕ) (entering : Entering) : Type 0 where
  pub joined : entering.joined.now ≡ joined lib e pid entering.«module»
  pub fresh : map (λ f. f.«module») entering.fresh.now ≡ newcomers lib e pid entering.«module»

-- Its calls, were no initialisation to fail, and the pairs of a process and a module whose initialisation fails.
pub record IsFailureOf (lib : Library) (e : Eager) (entering : Entering) (failure : Failure) : Type 0 where
  pub pairs : failure.pairs.now ≡ e.failing
  pub calls : failure.calls.now ≡ entering_calls lib e failure.pid entering.how entering.«module» entering.fresh.now

-- What leaves a process that would be this one afterwards, and what of that is gone.
pub record IsLeavingOf (lib : Library) (e : Eager) (pid : ℕ) (p : Process) (leaving : Leaving) : Type 0 where
  pub left : leaving.left.now ≡ left lib p
  pub gone : leaving.gone.now ≡ gone_modules lib e pid p
