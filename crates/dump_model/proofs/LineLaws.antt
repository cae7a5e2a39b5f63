-- A line, word by word.
use Rattle.std.proofs.Common.{◌≡◌, ℕ, List, [], ◌∷◌, ◌++◌, append_assoc}
use Rattle.session_model.specs.Text.{words, line_of}

-- the first of some words stands in front of a blank
pub line-cons : (w v : List ℕ) (ws : List (List ℕ)) → line_of (w ∷ v ∷ ws) ≡ w ++ 0x20 ∷ line_of (v ∷ ws)
line-cons w v ws = append_assoc w (0x20 ∷ words (v ∷ ws)) (0x0A ∷ [])
