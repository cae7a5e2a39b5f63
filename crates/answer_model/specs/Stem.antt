-- A module's name, where no definition file gives one: from the name of the file that is written.
use Rattle.std.specs.Prelude.{ℕ, ◌==◌, List, take, codes, length, if◌then◌else◌}
use Rattle.std.specs.List.{before_first, after_last}
use Rattle.lx_types.specs.Names.{uppercase}

-- The last part of a path. `/` alone separates the parts.
abbrev pub last_part : List ℕ → List ℕ
last_part path = after_last (λ byte. byte == 47) path

-- The last part before its first dot.
abbrev pub stem_part : List ℕ → List ℕ
stem_part path = before_first (λ byte. byte == 46) (last_part path)

-- In upper case and cut to the 255 bytes that a name may have, or MODULE where nothing is left.
abbrev pub stem_of : List ℕ → List ℕ
stem_of path = if length (stem_part path) == 0 then codes "MODULE" else uppercase (take 255 (stem_part path))
