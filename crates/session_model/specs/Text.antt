-- How bytes are written in a transcript, and its lines.
use Rattle.std.specs.Prelude.{ℕ, List, [], ◌∷◌, ◌++◌, map, flat_map}
use Rattle.lx_types.specs.Escaped.{hex_byte}

-- words with one blank between each two
abbrev pub words : List (List ℕ) → List ℕ
words [] = []
words (w ∷ []) = w
words (w ∷ v ∷ others) = w ++ 0x20 ∷ words (v ∷ others)

-- a line of them
abbrev pub line_of : List (List ℕ) → List ℕ
line_of ws = words ws ++ 0x0A ∷ []

-- a line that is part of the one above
abbrev pub inner_line : List (List ℕ) → List ℕ
inner_line ws = 0x20 ∷ 0x20 ∷ line_of ws

abbrev pub bytes_words : List ℕ → List (List ℕ)
bytes_words bytes = map hex_byte bytes

-- bytes in one word
abbrev pub bytes_word : List ℕ → List ℕ
bytes_word bytes = flat_map hex_byte bytes
