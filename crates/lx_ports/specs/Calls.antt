-- The calls that files have had, with their answers.
use Rattle.std.specs.Prelude.{ℕ, List, Bool, true, false, Result, Ok, Err, Vec, count_by}
use Rattle.std.specs.declared.alloc.Global.{Global}
use Rattle.lx_ports.specs.declared.files.LoadFault.{LoadFault}
use Rattle.lx_ports.specs.declared.files.LoadFault.TheVariants as load_fault
use Rattle.lx_ports.specs.declared.files.SaveFault.{SaveFault}

-- `load name answer`, where the answer is the file's bytes or the fault, and `save name bytes answer`.
pub data Call : Type 0 where
  load : List ℕ → Result (List ℕ) LoadFault → Call
  save : List ℕ → List ℕ → Result (Unit {0}) SaveFault → Call

-- The answer to a load, by what contracts see of it.
abbrev pub load_answer : Result (Vec ℕ Global) LoadFault → Result (List ℕ) LoadFault
load_answer (Ok bytes) = Ok bytes.items
load_answer (Err fault) = Err fault

abbrev pub is_failed_load : Call → Bool
is_failed_load (load name (Err load_fault.Failed)) = true
is_failed_load _ = false

-- How often a load has failed.
abbrev pub load_faults : List Call → ℕ
load_faults calls = count_by is_failed_load calls
