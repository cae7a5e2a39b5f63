-- Names and their escapes.
use Rattle.std.proofs.Common.{◌≡◌, ℕ, true, false, cond, List, [], ◌∷◌, ◌++◌, length, refl, sym, subst, ap, ◌∙◌, arith, append_assoc, inl, inr, ◌⊎◌}
use Rattle.std.specs.List.{AllByRecursion}
use Rattle.std.proofs.lemmas.Bool.Decides.{nat_tests}
use Rattle.std.proofs.lemmas.Bool.{cases_Bool, both_ways, and_from}
use Rattle.lx_types.specs.Escaped.{hex_byte, is_plain, escaped_byte, escaped}
use Rattle.dump_model.specs.Bounds.{IsByte}
use Rattle.dump_model.specs.Words.{is_in_word, no_break, IsWord}
use Rattle.dump_model.proofs.WordLaws.{same-head, no_break-append}
use Rattle.dump_model.proofs.FlagLaws.{byte-one, digits-of-byte, digits-word}

-- ---- one byte

pub plain-text : (b : ℕ) → is_plain b ≡ true → escaped_byte b ≡ b ∷ []
plain-text b h = ap (λ t. cond t (b ∷ []) (0x25 ∷ hex_byte b)) h

pub escape-text : (b : ℕ) → is_plain b ≡ false → escaped_byte b ≡ 0x25 ∷ hex_byte b
escape-text b h = ap (λ t. cond t (b ∷ []) (0x25 ∷ hex_byte b)) h

pub plain-percent : (b : ℕ) → is_plain b ≡ true → b ≡ 0x25 → ⊥
plain-percent b h is = both_ways (is_plain 0x25) refl (subst (λ c. is_plain c ≡ true) is h)

plain-in : (b : ℕ) → is_plain b ≡ true → is_in_word b ≡ true
plain-in b h = grind (arith, nat_tests)

pub byte-same : (a b : ℕ) (r s : List ℕ) → IsByte a → IsByte b → escaped_byte a ++ r ≡ escaped_byte b ++ s → (a ≡ b) × (r ≡ s)
byte-same a b r s ha hb is = by (cases_Bool (is_plain a)) (cases_Bool (is_plain b))
  where
    by : (is_plain a ≡ true) ⊎ (is_plain a ≡ false) → (is_plain b ≡ true) ⊎ (is_plain b ≡ false) → (a ≡ b) × (r ≡ s)
    by (inl pa) (inl pb) = same-head a b r s (ap (λ x. x ++ r) (sym (plain-text a pa)) ∙ is ∙ ap (λ x. x ++ s) (plain-text b pb))
    by (inl pa) (inr pb) =
        absurd (plain-percent a pa (same-head a 0x25 r (hex_byte b ++ s) (ap (λ x. x ++ r) (sym (plain-text a pa)) ∙ is ∙ ap (λ x. x ++ s) (escape-text b pb))).0)
    by (inr pa) (inl pb) =
        absurd (plain-percent b pb (sym (same-head 0x25 b (hex_byte a ++ r) s (ap (λ x. x ++ r) (sym (escape-text a pa)) ∙ is ∙ ap (λ x. x ++ s) (plain-text b pb))).0))
    by (inr pa) (inr pb) =
        byte-one a b ha hb r s
        (same-head 0x25 0x25 (hex_byte a ++ r) (hex_byte b ++ s) (ap (λ x. x ++ r) (sym (escape-text a pa)) ∙ is ∙ ap (λ x. x ++ s) (escape-text b pb))).1

pub byte-some : (b : ℕ) → (c : ℕ) × (rest : List ℕ) × (escaped_byte b ≡ c ∷ rest)
byte-some b = by (cases_Bool (is_plain b))
  where
    by : (is_plain b ≡ true) ⊎ (is_plain b ≡ false) → (c : ℕ) × (rest : List ℕ) × (escaped_byte b ≡ c ∷ rest)
    by (inl p) = (b, [], plain-text b p)
    by (inr p) = (0x25, hex_byte b, escape-text b p)

byte-word : (b : ℕ) → IsWord (escaped_byte b)
byte-word b = by (cases_Bool (is_plain b))
  where
    by : (is_plain b ≡ true) ⊎ (is_plain b ≡ false) → IsWord (escaped_byte b)
    by (inl p) = subst IsWord (sym (plain-text b p)) (and_from (is_in_word b) true (plain-in b p) refl)
    by (inr p) = subst IsWord (sym (escape-text b p)) (and_from (is_in_word 0x25) (no_break (hex_byte b)) refl (digits-word (hex_byte b) (digits-of-byte b)))

-- ---- names

pub escaped-word : (name : List ℕ) → IsWord (escaped name)
escaped-word [] = refl
escaped-word (b ∷ name) = no_break-append (escaped_byte b) (escaped name) ∙ and_from (no_break (escaped_byte b)) (no_break (escaped name)) (byte-word b) (escaped-word name)

pub no-byte : (b : ℕ) (bs left : List ℕ) → escaped (b ∷ bs) ++ left ≡ [] → ⊥
no-byte b bs left is =
    let some = byte-some b in
    by some.0 some.1 (escaped bs) (ap (λ x. (x ++ escaped bs) ++ left) (sym some.2) ∙ is)
  where
    by : (c : ℕ) (rest more : List ℕ) → ((c ∷ rest) ++ more) ++ left ≡ [] → ⊥
    by c rest more h = omega (arith, ap length h)

-- the bytes that a word has are the first ones of each name whose text begins so
pub front-names : (bytes name left r : List ℕ) → AllByRecursion IsByte bytes → AllByRecursion IsByte name → (left ≡ [] → ⊥) ⊎ (r ≡ [])
    → escaped name ≡ (escaped bytes ++ left) ++ r → (more : List ℕ) × AllByRecursion IsByte more × (name ≡ bytes ++ more) × (left ++ r ≡ escaped more)
front-names [] name left r hb hn any is = (name, hn, refl, sym is)
front-names (b ∷ bytes) [] left r hb hn any is =
    absurd (no-byte b bytes (left ++ r) (sym (append_assoc (escaped (b ∷ bytes)) left r) ∙ sym is))
front-names (b ∷ bytes) (n ∷ name) left r hb hn any is =
    let same = byte-same n b (escaped name) ((escaped bytes ++ left) ++ r) hn.0 hb.0
    (is ∙ ap (λ x. x ++ r) (append_assoc (escaped_byte b) (escaped bytes) left) ∙ append_assoc (escaped_byte b) (escaped bytes ++ left) r) in
    let more = front-names bytes name left r hb.1 hn.1 any same.1 in
    (more.0, more.1, ap (λ c. c ∷ name) same.0 ∙ ap (λ x. b ∷ x) more.2, more.3)
