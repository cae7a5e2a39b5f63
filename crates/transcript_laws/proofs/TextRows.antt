-- Lines of words: their text tells them.
use Rattle.std.proofs.Common.{◌≡◌, ℕ, ◌<◌, Bool, true, false, List, [], ◌∷◌, ◌++◌, length, map, flat_map, refl, sym, ◌∙◌, ap, subst, arith, append_assoc, append-nil}
use Rattle.std.specs.List.{AllByRecursion}
use Rattle.std.proofs.lemmas.Bool.{and_parts, false≢true}
use Rattle.session_model.specs.Text.{words, line_of}
use Rattle.dump_model.specs.Words.{is_in_word, no_break, IsWord, IsAfter}
use Rattle.dump_model.proofs.WordLaws.{same-head}

abbrev pub Row : Type 0
Row = List (List ℕ)

abbrev pub text_of : List Row → List ℕ
text_of rows = flat_map line_of rows

-- one word at least, without breaks
abbrev pub IsRow : Row → Type 0
IsRow ws = (0 < length ws) × AllByRecursion IsWord ws

-- ---- one word, and one line

abbrev Same : (w v r q : List ℕ) → Type 0
Same w v r q = (w ≡ v) × (r ≡ q)

word_one : (w v : List ℕ) (c d : ℕ) (r q : List ℕ) → IsWord w → IsWord v → IsAfter c → IsAfter d → w ++ c ∷ r ≡ v ++ d ∷ q → Same w v (c ∷ r) (d ∷ q)
word_one [] [] c d r q hw hv hc hd is = (refl, is)
word_one [] (b ∷ v) c d r q hw hv hc hd is =
    let same : c ≡ b = (same-head c b r (v ++ d ∷ q) is).0 in
    let inside : is_in_word b ≡ true = (and_parts (is_in_word b) (no_break v) hv).0 in
    absurd (false≢true (sym hc ∙ ap is_in_word same ∙ inside))
word_one (a ∷ w) [] c d r q hw hv hc hd is =
    let same : a ≡ d = (same-head a d (w ++ c ∷ r) q is).0 in
    let inside : is_in_word a ≡ true = (and_parts (is_in_word a) (no_break w) hw).0 in
    absurd (false≢true (sym hd ∙ ap is_in_word (sym same) ∙ inside))
word_one (a ∷ w) (b ∷ v) c d r q hw hv hc hd is =
    let same = same-head a b (w ++ c ∷ r) (v ++ d ∷ q) is in
    let rest = word_one w v c d r q (and_parts (is_in_word a) (no_break w) hw).1 (and_parts (is_in_word b) (no_break v) hv).1 hc hd same.1 in
    (ap (λ (x : ℕ). x ∷ w) same.0 ∙ ap (λ (xs : List ℕ). b ∷ xs) rest.0, rest.1)

line_last : (w r : List ℕ) → line_of (w ∷ []) ++ r ≡ w ++ 0x0A ∷ r
line_last w r = append_assoc w (0x0A ∷ []) r

line_first : (w x : List ℕ) (ws : Row) (r : List ℕ) → line_of (w ∷ x ∷ ws) ++ r ≡ w ++ 0x20 ∷ (line_of (x ∷ ws) ++ r)
line_first w x ws r =
    ap (λ l. l ++ r) (append_assoc w (0x20 ∷ words (x ∷ ws)) (0x0A ∷ [])) ∙ append_assoc w (0x20 ∷ (words (x ∷ ws) ++ 0x0A ∷ [])) r

row_one : (w : List ℕ) (ws : Row) (v : List ℕ) (vs : Row) (r q : List ℕ) → AllByRecursion IsWord (w ∷ ws) → AllByRecursion IsWord (v ∷ vs) →
    line_of (w ∷ ws) ++ r ≡ line_of (v ∷ vs) ++ q → (w ∷ ws ≡ v ∷ vs) × (r ≡ q)
row_one w [] v [] r q hw hv is =
    let one = word_one w v 0x0A 0x0A r q hw.0 hv.0 refl refl (sym (line_last w r) ∙ is ∙ line_last v q) in
    (ap (λ (x : List ℕ). x ∷ []) one.0, (same-head 0x0A 0x0A r q one.1).1)
row_one w [] v (y ∷ vs) r q hw hv is =
    let one = word_one w v 0x0A 0x20 r (line_of (y ∷ vs) ++ q) hw.0 hv.0 refl refl (sym (line_last w r) ∙ is ∙ line_first v y vs q) in
    absurd (let no : 0x0A ≡ 0x20 = (same-head 0x0A 0x20 r (line_of (y ∷ vs) ++ q) one.1).0 in let none : ⊥ = omega arith in none)
row_one w (x ∷ ws) v [] r q hw hv is =
    let one = word_one w v 0x20 0x0A (line_of (x ∷ ws) ++ r) q hw.0 hv.0 refl refl (sym (line_first w x ws r) ∙ is ∙ line_last v q) in
    absurd (let no : 0x20 ≡ 0x0A = (same-head 0x20 0x0A (line_of (x ∷ ws) ++ r) q one.1).0 in let none : ⊥ = omega arith in none)
row_one w (x ∷ ws) v (y ∷ vs) r q hw hv is =
    let one = word_one w v 0x20 0x20 (line_of (x ∷ ws) ++ r) (line_of (y ∷ vs) ++ q) hw.0 hv.0 refl refl (sym (line_first w x ws r) ∙ is ∙ line_first v y vs q) in
    let rest = row_one x ws y vs r q hw.1 hv.1 (same-head 0x20 0x20 (line_of (x ∷ ws) ++ r) (line_of (y ∷ vs) ++ q) one.1).1 in
    (ap (λ (l : List ℕ). l ∷ x ∷ ws) one.0 ∙ ap (λ (l : Row). v ∷ l) rest.0, rest.1)

no_line : (xs : List ℕ) (b : ℕ) (r : List ℕ) → [] ≡ (xs ++ b ∷ []) ++ r → ⊥
no_line [] b r is = absurd (cc (is))
no_line (x ∷ xs) b r is = absurd (cc (is))

pub texts_one : (a b : List Row) → AllByRecursion IsRow a → AllByRecursion IsRow b → text_of a ≡ text_of b → a ≡ b
texts_one [] [] ha hb is = refl
texts_one [] (v ∷ b) ha hb is = absurd (no_line (words v) 0x0A (text_of b) is)
texts_one (w ∷ a) [] ha hb is = absurd (no_line (words w) 0x0A (text_of a) (sym is))
texts_one ([] ∷ a) (v ∷ b) ha hb is = absurd (let none : 0 < 0 = ha.0.0 in let no : ⊥ = omega arith in no)
texts_one ((x ∷ w) ∷ a) ([] ∷ b) ha hb is = absurd (let none : 0 < 0 = hb.0.0 in let no : ⊥ = omega arith in no)
texts_one ((x ∷ w) ∷ a) ((y ∷ v) ∷ b) ha hb is =
    let one = row_one x w y v (text_of a) (text_of b) ha.0.1 hb.0.1 is in
    ap (λ (l : Row). l ∷ a) one.0 ∙ ap (λ (l : List Row). (y ∷ v) ∷ l) (texts_one a b ha.1 hb.1 one.1)

-- ---- the text of lines, part by part

pub text-append : (a b : List Row) → text_of (a ++ b) ≡ text_of a ++ text_of b
text-append [] b = refl
text-append (w ∷ a) b = ap (λ l. line_of w ++ l) (text-append a b) ∙ sym (append_assoc (line_of w) (text_of a) (text_of b))

pub text-map : {A : Type 0} (row : A → Row) (line : A → List ℕ) → ((a : A) → line_of (row a) ≡ line a) → (xs : List A) → text_of (map row xs) ≡ flat_map line xs
text-map row line same [] = refl
text-map row line same (x ∷ xs) = ap (λ l. l ++ text_of (map row xs)) (same x) ∙ ap (λ l. line x ++ l) (text-map row line same xs)

pub text-flat_map : {A : Type 0} (rows : A → List Row) (lines : A → List ℕ) → ((a : A) → text_of (rows a) ≡ lines a) → (xs : List A) → text_of (flat_map rows xs) ≡ flat_map lines xs
text-flat_map rows lines same [] = refl
text-flat_map rows lines same (x ∷ xs) =
    text-append (rows x) (flat_map rows xs)
    ∙ (ap (λ l. l ++ text_of (flat_map rows xs)) (same x) ∙ ap (λ l. lines x ++ l) (text-flat_map rows lines same xs))
