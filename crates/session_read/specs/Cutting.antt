-- A line without the CR in front of its LF.
use Rattle.std.specs.Prelude.{ℕ, ◌==◌, List, [], ◌∷◌, if◌then◌else◌}

abbrev pub without_cr : List ℕ → List ℕ
without_cr [] = []
without_cr (b ∷ []) = if b == 0x0D then [] else b ∷ []
without_cr (b ∷ c ∷ bytes) = b ∷ without_cr (c ∷ bytes)
