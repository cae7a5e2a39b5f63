-- From the bytes by which a loader judges a transcript to those that the object files have.
use Rattle.std.specs.Prelude.{◌↔◌, ℕ, List}
use Rattle.std.specs.List.{AllByRecursion}
use Rattle.lx_model.specs.Gathering.{IsLibrary}
use Rattle.load_model.specs.Modules.{Held, fixed_bytes}
use Rattle.load_model.specs.State.{Failing}
use Rattle.session_model.specs.declared.sessions.Script.{Script}
use Rattle.run_model.specs.Sources.{Source, library_of, held}
use Rattle.run_laws.specs.Bridge.{IsSound}
use Rattle.check_model.specs.declared.kinds.CheckKind.{CheckKind}
use Rattle.check_model.specs.Told.{Told}
use Rattle.check_model.specs.Checks.{Judge, IsAccepted, IsRefused}

-- a judge over the library of these sources, by what objects hold
abbrev pub judge_by : List Source → Failing → Held → List Script → Judge
judge_by sources failing contents scripts = record { lib = library_of sources; failing = failing; contents = contents; scripts = scripts }

-- Two judges accept the same bytes, and refuse the same at one line and in one kind.
pub record JudgeAlike (a b : Judge) : Type 0 where
  pub accepted : (bytes : List ℕ) (t : Told) → IsAccepted a bytes t ↔ IsAccepted b bytes t
  pub refused : (bytes : List ℕ) (number : ℕ) (kind : CheckKind) → IsRefused a bytes number kind ↔ IsRefused b bytes number kind

-- So do, over a library of modules of which each that was built was built well, a judge by the bytes of the files, with their fixups,
-- and one by the bytes that the links mean.
abbrev pub ChecksByLinks : Type 0
ChecksByLinks =
    (sources : List Source) (failing : Failing) (scripts : List Script) → AllByRecursion IsSound sources → IsLibrary (library_of sources) →
    JudgeAlike (judge_by sources failing (fixed_bytes (library_of sources)) scripts) (judge_by sources failing (held sources) scripts)
