-- Lines for a reader, each after a mark.
use Rattle.std.specs.Prelude.{◌≡◌, ℕ, List, [], ◌∷◌, ◌++◌, ◌==◌, false}
use Rattle.std.specs.List.{list_any}

-- A text of one line: it has no line's end.
abbrev pub IsOneLine : List ℕ → Type 0
IsOneLine text = list_any (λ byte. byte == 10) text ≡ false

-- A text as a line after a mark.
abbrev pub marked_line : List ℕ → List ℕ → List ℕ
marked_line mark text = mark ++ text ++ 10 ∷ []
