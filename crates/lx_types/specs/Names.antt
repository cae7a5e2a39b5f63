-- Names of modules, segments and symbols, and when two module names mean the same module.
use Rattle.std.specs.Prelude.{◌≡◌, ℕ, ◌≤◌, List, map, length}
use Rattle.std.specs.Char.{to_ascii_uppercase}

-- A name as it is compared where modules are named: ASCII letters in upper case.
abbrev pub uppercase : List ℕ → List ℕ
uppercase bytes = map to_ascii_uppercase bytes

-- Two names mean the same module.
abbrev pub SameModule : List ℕ → List ℕ → Type 0
SameModule a b = uppercase a ≡ uppercase b

-- A name fits its length byte.
abbrev pub IsName : List ℕ → Type 0
IsName bytes = length bytes ≤ 255
