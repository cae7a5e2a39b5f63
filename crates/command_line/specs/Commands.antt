-- A command of the code, in the words of the definitions.
use Rattle.std.specs.Prelude.{ℕ, ◌≤◌, List, map, option_map, string_bytes}
use Rattle.lx_types.specs.declared.limits.TheConstants.{MAX_MODULES}
use Rattle.obj_types.specs.Definition.{IsBase}
use Rattle.answer_model.specs.Words as words
use Rattle.answer_model.specs.CheckAnswer as check
use Rattle.command_line.specs.declared.words.CheckWords.{CheckWords}
use Rattle.command_line.specs.declared.words.Command.{Command}
use Rattle.command_line.specs.declared.words.Command.TheVariants.{Image, Link, Implib, Bind, Gen, Dump, Map, Memory, Show}

abbrev pub meant : Command → words.Command
meant (Image object base) = words.image object.now base
meant (Link out definition inputs) = words.link out.now (option_map (λ name. name.now) definition) (map string_bytes inputs.now)
meant (Implib out inputs) = words.implib out.now (map string_bytes inputs.now)
meant (Bind out target resources) = words.bind out.now target.now resources.now
meant (Gen count prefix) = words.gen count prefix.now
meant (Dump file) = words.dump file.now
meant (Map definition inputs) = words.link_map (option_map (λ name. name.now) definition) (map string_bytes inputs.now)
meant (Memory modules) = words.memory (map string_bytes modules.now)
meant (Show file) = words.show file.now

abbrev pub checked : CheckWords → check.CheckWords
checked words = record { session = words.session.now; transcript = words.transcript.now }

-- A base is one that a definition file may give, too.
abbrev pub HasBase : Command → Type 0
HasBase (Image object base) = IsBase base
HasBase (Link out definition inputs) = Unit {0}
HasBase (Implib out inputs) = Unit {0}
HasBase (Bind out target resources) = Unit {0}
HasBase (Gen count prefix) = Unit {0}
HasBase (Dump file) = Unit {0}
HasBase (Map definition inputs) = Unit {0}
HasBase (Memory modules) = Unit {0}
HasBase (Show file) = Unit {0}

-- As many modules as a library has can be made.
abbrev pub IsCount : ℕ → Type 0
IsCount count = (1 ≤ count) × (count ≤ MAX_MODULES)

abbrev pub HasCount : Command → Type 0
HasCount (Gen count prefix) = IsCount count
HasCount _ = Unit {0}
