-- Lines, by their first words and the others.
use Rattle.std.proofs.Common.{◌≡◌, ℕ, ◌≤◌, List, [], ◌∷◌, ◌++◌, length, arith, refl, sym, ap, ◌∙◌, append_assoc}
use Rattle.session_model.specs.Text.{line_of}
use Rattle.dump_model.proofs.LineLaws.{line-cons}
use Rattle.line_words.specs.Words.{leading}

-- words after the first ones of a line
pub leading-line : (ws us : List (List ℕ)) → 1 ≤ length us → leading ws ++ line_of us ≡ line_of (ws ++ us)
leading-line ws [] some = absurd (omega arith)
leading-line [] (v ∷ vs) some = refl
leading-line (w ∷ []) (v ∷ vs) some =
    append_assoc (w ++ 0x20 ∷ []) [] (line_of (v ∷ vs)) ∙ append_assoc w (0x20 ∷ []) (line_of (v ∷ vs)) ∙ sym (line-cons w v vs)
leading-line (w ∷ u ∷ ws) (v ∷ vs) some =
    append_assoc (w ++ 0x20 ∷ []) (leading (u ∷ ws)) (line_of (v ∷ vs))
    ∙ append_assoc w (0x20 ∷ []) (leading (u ∷ ws) ++ line_of (v ∷ vs))
    ∙ ap (λ rest. w ++ 0x20 ∷ rest) (leading-line (u ∷ ws) (v ∷ vs) some)
    ∙ sym (line-cons w u (ws ++ v ∷ vs))

pub some-after : (ws us : List (List ℕ)) → 1 ≤ length us → 1 ≤ length (ws ++ us)
some-after [] us some = some
some-after (w ∷ ws) us some = omega arith

-- a group of words, and the line's others after them
pub group-pushed : (out a new : List ℕ) (ws us : List (List ℕ)) → 1 ≤ length us → a ≡ out ++ leading ws → new ≡ a ++ line_of us → new ≡ out ++ line_of (ws ++ us)
group-pushed out a new ws us some h k =
    k ∙ ap (λ bytes. bytes ++ line_of us) h ∙ append_assoc out (leading ws) (line_of us) ∙ ap (λ line. out ++ line) (leading-line ws us some)

-- text after text
pub after-pushed : (out a new x y : List ℕ) → a ≡ out ++ x → new ≡ a ++ y → new ≡ out ++ (x ++ y)
after-pushed out a new x y h k = k ∙ ap (λ bytes. bytes ++ y) h ∙ append_assoc out x y
