-- The line by which something is told of a file.
use Rattle.std.specs.Prelude.{ℕ, List, [], ◌∷◌, ◌++◌, codes}

-- `lx: FILE: what`
abbrev pub file_line : List ℕ → List ℕ → List ℕ
file_line file what = codes "lx: " ++ (file ++ (codes ": " ++ (what ++ 10 ∷ [])))

abbrev pub usage_line : List ℕ
usage_line = codes "lx: usage" ++ 10 ∷ []
