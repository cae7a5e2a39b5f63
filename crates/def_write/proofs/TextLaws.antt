-- Signs and quoted texts at the front of bytes are read as their tokens.
use Rattle.std.proofs.Common.{◌≡◌, ◌≢◌, ℕ, suc, ◌+◌, List, [], ◌∷◌, ◌++◌, length, drop, take, refl, arith, ◌∙◌, ap, length-append, true, cond, nat_lt, ◌&&◌}
use Rattle.std.specs.Prelude.{slice_index, ◌==◌, not}
use Rattle.std.proofs.Math.Seq.{take-append_seam, get_or-append_seam}
use Rattle.std.proofs.lemmas.List.Elements.{All-head, All-tail}
use Rattle.std.proofs.lemmas.Bool.{ne_eqb, and_from, lt-ltb}
use Rattle.def_model.specs.Lexemes.{equals, at, dot, text, stray}
use Rattle.def_model.specs.Tokens.{tokens_after, front, text_front, text_len}
use Rattle.def_tokens.proofs.TokenLaws.{if-first}
use Rattle.def_tokens.proofs.LexemeLaws.{lexemes, lexemes-front}
use Rattle.def_write.specs.Spelling.{IsQuotable}

-- ---- signs

pub lexemes-equals : (bytes : List ℕ) → lexemes (61 ∷ bytes) ≡ equals ∷ lexemes bytes
unfolding tokens_after
lexemes-equals bytes = refl

pub lexemes-at : (bytes : List ℕ) → lexemes (64 ∷ bytes) ≡ at ∷ lexemes bytes
unfolding tokens_after
lexemes-at bytes = refl

pub lexemes-dot : (bytes : List ℕ) → lexemes (46 ∷ bytes) ≡ dot ∷ lexemes bytes
unfolding tokens_after
lexemes-dot bytes = refl

-- ---- texts

drop-past : (bytes : List ℕ) (c : ℕ) (rest : List ℕ) → drop (suc (length bytes)) (bytes ++ c ∷ rest) ≡ rest
drop-past [] c rest = refl
drop-past (b ∷ bytes) c rest = drop-past bytes c rest

text-passes : (b : ℕ) → (b ≢ 39) × (b ≢ 13) × (b ≢ 10) → (not (b == 39) && not (b == 10)) ≡ true
text-passes b h = rw (ne_eqb b 39 h.0, ne_eqb b 10 h.2) refl

quoted-len : (bytes rest : List ℕ) → IsQuotable bytes → text_len 39 (bytes ++ 39 ∷ rest) ≡ length bytes
quoted-len [] rest h = refl
quoted-len (b ∷ bytes) rest h =
    let P : ℕ → Type 0 = λ b. (b ≢ 39) × (b ≢ 13) × (b ≢ 10) in
    let more : text_len 39 (bytes ++ 39 ∷ rest) ≡ length bytes = quoted-len bytes rest (All-tail P b bytes h) in
    if-first (not (b == 39) && not (b == 10)) (1 + text_len 39 (bytes ++ 39 ∷ rest)) 0 (text-passes b (All-head P b bytes h))
    ∙ omega (arith, more)

quoted-front : (bytes rest : List ℕ) → IsQuotable bytes → text_front 39 (bytes ++ 39 ∷ rest) ≡ front (length bytes + 2) (text bytes)
quoted-front bytes rest h =
    let xs : List ℕ = bytes ++ 39 ∷ rest in
    let here : (slice_index xs (length bytes) == 39) ≡ true = ap (λ b. b == 39) (get_or-append_seam bytes 39 rest 0) in
    let within : nat_lt (length bytes) (length xs) ≡ true = lt-ltb (length bytes) (length xs) (simp length-append (omega arith)) in
    ap (λ len. cond (nat_lt len (length xs) && slice_index xs len == 39) (front (len + 2) (text (take len xs))) (front 1 stray)) (quoted-len bytes rest h)
    ∙ if-first _ _ _ (and_from _ _ within here)
    ∙ ap (λ bs. front (length bytes + 2) (text bs)) (take-append_seam bytes (39 ∷ rest))

pub lexemes-text : (bytes rest : List ℕ) → IsQuotable bytes → lexemes (39 ∷ (bytes ++ 39 ∷ rest)) ≡ text bytes ∷ lexemes rest
lexemes-text bytes rest h =
    let past : drop (length bytes + 2) (39 ∷ (bytes ++ 39 ∷ rest)) ≡ rest =
    let two : length bytes + 2 ≡ suc (suc (length bytes)) = omega arith in
    ap (λ n. drop n (39 ∷ (bytes ++ 39 ∷ rest))) two ∙ drop-past bytes 39 rest in
    lexemes-front 39 (bytes ++ 39 ∷ rest) (length bytes + 2) (text bytes) refl (quoted-front bytes rest h) (omega arith)
    ∙ ap (λ bs. text bytes ∷ lexemes bs) past
