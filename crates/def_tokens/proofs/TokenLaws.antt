-- Equations of the tokens of bytes.
use Rattle.std.proofs.Common.{◌≡◌, ℕ, zero, suc, ◌+◌, ◌-◌, ◌<◌, ◌≤◌, List, [], ◌∷◌, length, drop, take, refl, arith, ◌∙◌, ap, sym, subst, get_or, Bool, true, false, cond, not, ◌&&◌, ◌==◌, nat_lt}
use Rattle.std.specs.Prelude.{slice_index}
use Rattle.std.specs.List.{prefix_len}
use Rattle.std.proofs.lemmas.List.{take_rest}
use Rattle.std.proofs.lemmas.Bool.{le-ltb, lt-ltb}
use Rattle.def_model.specs.Lexemes.{Lexeme, ending, is_ending}
use Rattle.def_model.specs.Tokens.{tokens_after, blank_len, front_of, front, line_after, Placed, before, comment_len, text_len}

pub if-first : {A : Type 0} (test : Bool) (x y : A) → test ≡ true → cond test x y ≡ x
if-first true x y h = refl
if-first false x y h = cc

pub if-second : {A : Type 0} (test : Bool) (x y : A) → test ≡ false → cond test x y ≡ y
if-second true x y h = cc
if-second false x y h = refl

-- Bytes that belong to the token before are passed over.
tokens-drop : (n line : ℕ) (bytes : List ℕ) → tokens_after n line bytes ≡ tokens_after 0 line (drop n bytes)
unfolding tokens_after
tokens-drop zero line bytes = refl
tokens-drop (suc n) line [] = refl
tokens-drop (suc n) line (b ∷ bytes) = tokens-drop n line bytes

tokens-after : (n line b : ℕ) (bytes : List ℕ) → 0 < n → tokens_after (n - 1) line bytes ≡ tokens_after 0 line (drop n (b ∷ bytes))
tokens-after zero line b bytes some = absurd (omega arith)
tokens-after (suc n) line b bytes some =
    let less : suc n - 1 ≡ n = omega arith in
    ap (λ k. tokens_after k line bytes) less ∙ tokens-drop n line bytes

-- A blank at the front.
tokens-blank : (line b : ℕ) (bytes : List ℕ) → 0 < blank_len (b ∷ bytes)
    → tokens_after 0 line (b ∷ bytes) ≡ tokens_after 0 (line_after b line) (drop (blank_len (b ∷ bytes)) (b ∷ bytes))
unfolding tokens_after
tokens-blank line b bytes some =
    if-first (nat_lt 0 (blank_len (b ∷ bytes))) _ _ (lt-ltb 0 (blank_len (b ∷ bytes)) some)
    ∙ tokens-after (blank_len (b ∷ bytes)) (line_after b line) b bytes some

-- A token at the front.
pub tokens-token : (line b : ℕ) (bytes : List ℕ) → blank_len (b ∷ bytes) ≡ 0 → 0 < (front_of b bytes).len
    → tokens_after 0 line (b ∷ bytes)
    ≡ record { line = line; lexeme = (front_of b bytes).lexeme } ∷ tokens_after 0 line (drop (front_of b bytes).len (b ∷ bytes))
unfolding tokens_after
tokens-token line b bytes none some =
    if-second (nat_lt 0 (blank_len (b ∷ bytes))) _ _ (le-ltb 0 (blank_len (b ∷ bytes)) (omega arith))
    ∙ ap (λ ts. record { line = line; lexeme = (front_of b bytes).lexeme } ∷ ts) (tokens-after (front_of b bytes).len line b bytes some)

-- A reader that passes over a blank has the same tokens before it.
pub tokens-passed : (line after len : ℕ) (left : List ℕ) → len ≡ blank_len left → 0 < len → after ≡ line_after (slice_index left 0) line
    → tokens_after 0 after (take (length left - len) (drop len left)) ≡ tokens_after 0 line left
tokens-passed line after len [] is_len some is_line = absurd (omega arith)
tokens-passed line after len (b ∷ bytes) is_len some is_line =
    let rest : take (length (b ∷ bytes) - len) (drop len (b ∷ bytes)) ≡ drop len (b ∷ bytes) = take_rest (b ∷ bytes) len in
    let found : 0 < blank_len (b ∷ bytes) = omega arith in
    ap (λ xs. tokens_after 0 after xs) rest
    ∙ ap (λ l. tokens_after 0 l (drop len (b ∷ bytes))) is_line
    ∙ ap (λ n. tokens_after 0 (line_after b line) (drop n (b ∷ bytes))) is_len
    ∙ sym (tokens-blank line b bytes found)

tokens-next-front : (line len first : ℕ) (beyond : List ℕ) (lexeme : Lexeme) → blank_len (first ∷ beyond) ≡ 0
    → front_of first beyond ≡ front len lexeme → 0 < len → is_ending lexeme ≡ false
    → tokens_after 0 line (first ∷ beyond) ≡ before (record { line = line; lexeme = lexeme }) (tokens_after 0 line (drop len (first ∷ beyond)))
tokens-next-front line len first beyond lexeme none is_front some not_end =
    let same : (front_of first beyond).len ≡ len = ap (λ f. f.len) is_front in
    let begun : 0 < (front_of first beyond).len = omega (arith, same, some) in
    let others : List Placed = tokens_after 0 line (drop len (first ∷ beyond)) in
    tokens-token line first beyond none begun
    ∙ ap (λ f. record { line = line; lexeme = f.lexeme } ∷ tokens_after 0 line (drop f.len (first ∷ beyond))) is_front
    ∙ sym (ap (λ ts. record { line = line; lexeme = lexeme } ∷ ts) (if-second (is_ending lexeme) [] others not_end))

-- A reader that takes a token has the others before it.
pub tokens-next : (line len first : ℕ) (beyond left : List ℕ) (lexeme : Lexeme) → left ≡ first ∷ beyond → blank_len left ≡ 0
    → front_of first beyond ≡ front len lexeme → 0 < len → is_ending lexeme ≡ false
    → tokens_after 0 line left ≡ before (record { line = line; lexeme = lexeme }) (tokens_after 0 line (take (length left - len) (drop len left)))
tokens-next line len first beyond left lexeme is_left none is_front some not_end =
    let P : List ℕ → Type 0 = λ xs. blank_len xs ≡ 0 → tokens_after 0 line xs
    ≡ before (record { line = line; lexeme = lexeme }) (tokens_after 0 line (take (length xs - len) (drop len xs))) in
    subst P (sym is_left)
    (λ no_blank.
    let rest : take (length (first ∷ beyond) - len) (drop len (first ∷ beyond)) ≡ drop len (first ∷ beyond) = take_rest (first ∷ beyond) len in
    tokens-next-front line len first beyond lexeme no_blank is_front some not_end
    ∙ ap (λ xs. before (record { line = line; lexeme = lexeme }) (tokens_after 0 line xs)) (sym rest))
    none

-- Bytes that are there, as their first and those after it.
pub first-after : (bytes : List ℕ) → 1 ≤ length bytes → bytes ≡ get_or bytes 0 0 ∷ take (length bytes - 1) (drop 1 bytes)
first-after [] some = absurd (omega arith)
first-after (b ∷ bytes) some = ap (λ xs. b ∷ xs) (sym (take_rest (b ∷ bytes) 1))

-- At the end of the file there is the end alone.
pub tokens-end : (line : ℕ) (left : List ℕ) (others : List Placed) → length left < 1
    → tokens_after 0 line left ≡ before (record { line = line; lexeme = ending }) others
unfolding tokens_after
tokens-end line [] others h = refl
tokens-end line (b ∷ bytes) others h = absurd (omega arith)

twice : (b : Bool) → (not b && not b) ≡ not b
twice true = refl
twice false = refl

same_prefix : (p q : ℕ → Bool) → ((b : ℕ) → p b ≡ q b) → (bytes : List ℕ) → prefix_len p bytes ≡ prefix_len q bytes
same_prefix p q same [] = refl
same_prefix p q same (b ∷ bytes) =
    ap (λ (t : Bool). cond t (1 + prefix_len p bytes) 0) (same b) ∙ ap (λ (n : ℕ). cond (q b) (1 + n) 0) (same_prefix p q same bytes)

-- A comment ends where a text between LFs would.
pub line-is : (bytes : List ℕ) → text_len 10 bytes ≡ comment_len bytes
line-is bytes = same_prefix (λ b. not (b == 10) && not (b == 10)) (λ b. not (b == 10)) (λ b. twice (b == 10)) bytes
