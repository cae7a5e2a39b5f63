-- From the bytes that a loader has of modules to those that the object files have.
use Rattle.std.specs.Prelude.{◌<◌, ◌≤◌, ◌^◌, List, length}
use Rattle.std.specs.List.{AllByRecursion}
use Rattle.obj_types.specs.declared.input.LinkInput.{LinkInput}
use Rattle.link_model.specs.Link.{Link}
use Rattle.lx_model.specs.Gathering.{IsLibrary}
use Rattle.image_model.specs.File.{file_of}
use Rattle.image_model.specs.Linked.{image_of}
use Rattle.layer_laws.specs.LinkedImages.{Links}
use Rattle.load_model.specs.declared.deeds.Entry.{Entry}
use Rattle.load_model.specs.Modules.{Held, fixed_bytes}
use Rattle.load_model.specs.State.{Failing}
use Rattle.load_model.specs.Histories.{Legal, state_after}
use Rattle.load_model.specs.Laws.{AgreeAt}
use Rattle.session_model.specs.declared.sessions.Script.{Script}
use Rattle.session_model.specs.Runs.{Run, IsRunOf}
use Rattle.run_model.specs.Sources.{Source, taken, built, library_of, held}

-- A link of some input, which is accepted, and whose file is shorter than 2^32 bytes.
pub record IsBuiltWell (l : Link) : Type 0 where
  pub input : LinkInput
  pub links : Links input l
  pub short : length (file_of (image_of l)) < 2 ^ 32

-- What was built, was built so.
abbrev pub IsSound : Source → Type 0
IsSound (taken m) = Unit {0}
IsSound (built l) = IsBuiltWell l

-- Over a library of such modules the bytes of the files, with their fixups, are those that the links mean, in the state after every
-- legal history, whatever bytes make it legal.
abbrev pub HeldAsLinked : Type 0
HeldAsLinked =
    (sources : List Source) (failing : Failing) (contents : Held) (h : List Entry) → AllByRecursion IsSound sources → IsLibrary (library_of sources) →
    Legal (library_of sources) failing contents h →
    AgreeAt (library_of sources) (fixed_bytes (library_of sources)) (held sources) (state_after (library_of sources) failing h)

-- Over a library of such modules a run of at most 16 scripts by the bytes of the files, with their fixups, is one by the
-- bytes that the links mean.
abbrev pub RunsByLinks : Type 0
RunsByLinks =
    (sources : List Source) (failing : Failing) (scripts : List Script) (run : Run) → AllByRecursion IsSound sources → IsLibrary (library_of sources) →
    length scripts ≤ 16 → IsRunOf (library_of sources) failing (fixed_bytes (library_of sources)) scripts run →
    IsRunOf (library_of sources) failing (held sources) scripts run
