-- Where a process's own writes lie.
use Rattle.std.specs.Prelude.{◌≡◌, ℕ, true, List, length, Some, None}
use Rattle.std.specs.List.{AllByRecursion}
use Rattle.load_model.specs.declared.deeds.Entry.{Entry}
use Rattle.load_model.specs.Modules.{Library, Held}
use Rattle.load_model.specs.State.{OwnWrite, Residence, Failing, Eager, pids, is_among, attached_residence}
use Rattle.load_model.specs.Refusals.{peek, span_refusal}
use Rattle.load_model.specs.Histories.{state_after, Legal}

-- A write lies in a residence that the process reaches, in bytes of an object that the process could peek at: private ones,
-- or code.
pub record IsHeldBy (lib : Library) (e : Eager) (pid : ℕ) (w : OwnWrite) : Type 0 where
  pub residence : Residence
  pub there : attached_residence lib e pid residence.«module» ≡ Some residence
  pub serial : w.serial ≡ residence.serial
  pub span : span_refusal lib peek residence.«module» w.write.object w.write.offset (length w.write.bytes) ≡ None

-- So do all that a process has.
abbrev pub OwnWritesAreHeld : Type 0
OwnWritesAreHeld =
    (lib : Library) (failing : Failing) (contents : Held) (h : List Entry) (pid : ℕ) → Legal lib failing contents h → is_among pids pid ≡ true →
    AllByRecursion (IsHeldBy lib (state_after lib failing h) pid) ((state_after lib failing h).processes pid).writes
