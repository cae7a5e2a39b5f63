-- What words tell of names, and what they begin.
use Rattle.std.proofs.Common.{◌≡◌, ℕ, suc, ◌+◌, ◌*◌, ◌/◌, ◌%◌, ◌<◌, ◌≤◌, Bool, true, false, not, List, [], ◌∷◌, ◌++◌, length, refl, sym, subst, ap, ◌∙◌, arith, append_assoc, append-nil, inl, inr, ◌⊎◌}
use Rattle.std.specs.Prelude.{◌==◌, nat_le, drop}
use Rattle.std.specs.Bool.{then_some}
use Rattle.dump_read.specs.declared.names.Front.{Front}
use Rattle.dump_read.specs.declared.names.Front.TheVariants.{Byte, Ends, Wrong}
use Rattle.dump_read.specs.Words.{IsFirstDigit, IsFront, EndsOrNot}
use Rattle.std.specs.List.{AllByRecursion}
use Rattle.std.proofs.lemmas.Bool.Decides.{nat_tests}
use Rattle.std.proofs.lemmas.List.{length-append}
use Rattle.std.proofs.lemmas.Bool.{cases_Bool, both_ways}
use Rattle.lx_types.specs.Escaped.{hex_digit, hex_byte, is_plain, escaped_byte, escaped}
use Rattle.dump_model.specs.Bounds.{IsByte, IsListedName}
use Rattle.dump_model.specs.Lines.{name_word}
use Rattle.dump_model.specs.Words.{IsWord, Begins, Tells}
use Rattle.dump_read.specs.Names.{FrontByte, EndsWithin, NoFront, IsPart}
use Rattle.dump_model.proofs.WordLaws.{same-head, IsWords}
use Rattle.dump_model.proofs.FlagLaws.{digit-value, byte-one}
use Rattle.dump_model.proofs.EscapeLaws.{plain-text, escape-text, plain-percent, byte-same, byte-some, escaped-word, no-byte, front-names}

-- ---- names are words

-- no byte is written as the sign of an escape alone
no-percent : (b : ℕ) (bs : List ℕ) → escaped_byte b ++ escaped bs ≡ 0x25 ∷ [] → ⊥
no-percent b bs is = by (cases_Bool (is_plain b))
  where
    by : (is_plain b ≡ true) ⊎ (is_plain b ≡ false) → ⊥
    by (inl p) = plain-percent b p (same-head b 0x25 (escaped bs) [] (ap (λ x. x ++ escaped bs) (sym (plain-text b p)) ∙ is)).0
    by (inr p) =
        omega (arith, ap length (same-head 0x25 0x25 (hex_byte b ++ escaped bs) [] (ap (λ x. x ++ escaped bs) (sym (escape-text b p)) ∙ is)).1)

pub name-words : IsWords name_word IsListedName
name-words = record { some = []; inside = record { short = omega arith; bytes = tt }; word = word; one = one }
  where
    word : (name : List ℕ) → IsListedName name → IsWord (name_word name)
    word [] h = refl
    word (b ∷ name) h = escaped-word (b ∷ name)

    one : (m n : List ℕ) → IsListedName m → IsListedName n → name_word m ≡ name_word n → m ≡ n
    one [] [] hm hn is = refl
    one [] (b ∷ n) hm hn is = absurd (no-percent b n (sym is))
    one (a ∷ m) [] hm hn is = absurd (no-percent a m is)
    one (a ∷ m) (b ∷ n) hm hn is =
        let more = front-names (b ∷ n) (a ∷ m) [] [] hn.bytes hm.bytes (inr refl)
        (is ∙ sym (append-nil (escaped (b ∷ n))) ∙ sym (append-nil (escaped (b ∷ n) ++ []))) in
        by more.0 more.2 more.3
      where
        by : (more : List ℕ) → a ∷ m ≡ (b ∷ n) ++ more → [] ≡ escaped more → a ∷ m ≡ b ∷ n
        by [] e none = e ∙ append-nil (b ∷ n)
        by (c ∷ more) e none = absurd (no-byte c more [] (append-nil (escaped (c ∷ more)) ∙ sym none))

-- ---- what a word tells

long-name : (bytes more : List ℕ) (c : ℕ) → length bytes ≡ 255 → length (bytes ++ c ∷ more) ≤ 255 → ⊥
long-name bytes more c full le = omega (arith, full, le, length-append bytes (c ∷ more))

-- a whole word of bytes
pub whole-name : (word bytes left : List ℕ) → IsPart word bytes left → left ≡ [] → 0 < length bytes → IsListedName bytes × (word ≡ name_word bytes)
whole-name word [] left part none some = absurd (omega (arith, some))
whole-name word (b ∷ bytes) left part none some =
    (record { short = part.short; bytes = part.all }, part.text ∙ ap (λ x. escaped (b ∷ bytes) ++ x) none ∙ append-nil (escaped (b ∷ bytes)))

-- the word of the empty name
pub empty-name : (word bytes left : List ℕ) → IsPart word bytes left → word ≡ 0x25 ∷ [] → IsListedName bytes × (word ≡ name_word bytes)
empty-name word [] left part is = (record { short = part.short; bytes = tt }, is)
empty-name word (b ∷ bytes) left part is = absurd (by left (sym part.text ∙ is))
  where
    by : (left : List ℕ) → escaped (b ∷ bytes) ++ left ≡ 0x25 ∷ [] → ⊥
    by [] e = no-percent b bytes (sym (append-nil (escaped (b ∷ bytes))) ∙ e)
    by (c ∷ left) e =
        let some = byte-some b in
        omega (arith, ap length (ap (λ x. (x ++ escaped bytes) ++ c ∷ left) (sym some.2) ∙ e), length-append (escaped bytes) (c ∷ left), length-append (some.1 ++ escaped bytes) (c ∷ left))

-- no name is told
pub no-name : (word bytes left : List ℕ) → IsPart word bytes left → (word ≡ 0x25 ∷ [] → ⊥) → ((left ≡ []) → 0 < length bytes → ⊥) → (name : List ℕ) → IsListedName name
    → word ≡ name_word name → ⊥
no-name word bytes left part other none [] listed is = other is
no-name word bytes left part other none (n ∷ name) listed is =
    let more = front-names bytes (n ∷ name) left [] part.all listed.bytes (inr refl) (sym is ∙ part.text ∙ sym (append-nil (escaped bytes ++ left))) in
    by more.0 more.1 more.2 (sym (append-nil left) ∙ more.3) part.stops
  where
    by : (more : List ℕ) → AllByRecursion IsByte more → n ∷ name ≡ bytes ++ more → left ≡ escaped more
        → (left ≡ []) ⊎ ((length bytes ≡ 255) ⊎ ((b : ℕ) → IsByte b → FrontByte left b → ⊥)) → ⊥
    by [] hm e all stops = none all (subst (λ x. 0 < length x) (e ∙ append-nil bytes) (omega arith))
    by (c ∷ more) hm e all (inl empty) = no-byte c more [] (append-nil (escaped (c ∷ more)) ∙ sym all ∙ empty)
    by (c ∷ more) hm e all (inr (inl full)) = long-name bytes more c full (subst (λ x. length x ≤ 255) e listed.short)
    by (c ∷ more) hm e all (inr (inr no-front)) = no-front c hm.0 (escaped more, all)

-- ---- what a word begins

pub whole-begins : (word bytes left : List ℕ) → IsPart word bytes left → left ≡ [] → Begins name_word IsListedName word
whole-begins word [] left part none = ([], 0x25 ∷ [], record { short = part.short; bytes = tt }, ap (λ x. x ++ 0x25 ∷ []) (sym (part.text ∙ none)))
whole-begins word (b ∷ bytes) left part none =
    let name = whole-name word (b ∷ bytes) left part none (omega arith) in
    (b ∷ bytes, [], name.0, sym name.1 ∙ sym (append-nil word))

escaped-append : (u v : List ℕ) → escaped (u ++ v) ≡ escaped u ++ escaped v
escaped-append [] v = refl
escaped-append (b ∷ u) v = ap (λ x. escaped_byte b ++ x) (escaped-append u v) ∙ sym (append_assoc (escaped_byte b) (escaped u) (escaped v))

pub bytes-append : (u : List ℕ) (b : ℕ) → AllByRecursion IsByte u → IsByte b → AllByRecursion IsByte (u ++ b ∷ [])
bytes-append [] b h hb = (hb, tt)
bytes-append (c ∷ u) b h hb = (h.0, bytes-append u b h.1 hb)

name-of-more : (u : List ℕ) (b : ℕ) → name_word (u ++ b ∷ []) ≡ escaped (u ++ b ∷ [])
name-of-more [] b = refl
name-of-more (c ∷ u) b = refl

pub within-begins : (word bytes left : List ℕ) → IsPart word bytes left → length bytes < 255 → EndsWithin left → Begins name_word IsListedName word
within-begins word bytes left part few within = (
  bytes ++ within.0 ∷ [],
  within.1 ∷ within.2,
  record { short = omega (arith, few, length-append bytes (within.0 ∷ [])); bytes = bytes-append bytes within.0 part.all within.3 },
  name-of-more bytes within.0 ∙ escaped-append bytes (within.0 ∷ []) ∙ ap (λ x. escaped bytes ++ x) (append-nil (escaped_byte within.0) ∙ within.4)
      ∙ sym (append_assoc (escaped bytes) left (within.1 ∷ within.2)) ∙ ap (λ x. x ++ within.1 ∷ within.2) (sym part.text),
)

zero-byte : escaped_byte 0 ≡ 0x25 ∷ 48 ∷ 48 ∷ []
zero-byte = refl

pub no-begins : (word bytes left : List ℕ) → IsPart word bytes left → (left ≡ [] → ⊥) → (length bytes ≡ 255) ⊎ NoFront left → Begins name_word IsListedName word → ⊥
no-begins word bytes left part some wrong b = by b.0 b.1 b.2 b.3
  where
    alone : (bs l r : List ℕ) → AllByRecursion IsByte bs → (l ≡ [] → ⊥) → 0x25 ∷ [] ≡ (escaped bs ++ l) ++ r → (bs ≡ []) × (l ++ r ≡ 0x25 ∷ [])
    alone [] l r h some is = (refl, sym is)
    alone (b ∷ bs) l r h some is =
        let first = byte-some b in
        absurd (by-length first.0 first.1 (escaped bs) l r some (ap (λ x. ((x ++ escaped bs) ++ l) ++ r) (sym first.2) ∙ sym is))
      where
        by-length : (c : ℕ) (rest more l r : List ℕ) → (l ≡ [] → ⊥) → (((c ∷ rest) ++ more) ++ l) ++ r ≡ 0x25 ∷ [] → ⊥
        by-length c rest more [] r some h = some refl
        by-length c rest more (d ∷ l) r some h =
            omega (arith, ap length h, length-append (((c ∷ rest) ++ more) ++ d ∷ l) r, length-append ((c ∷ rest) ++ more) (d ∷ l), length-append (c ∷ rest) more)

    after : (name more r : List ℕ) → IsListedName name → AllByRecursion IsByte more → name ≡ bytes ++ more → left ++ r ≡ escaped more
        → (length bytes ≡ 255) ⊎ NoFront left → ⊥
    after name [] r listed hm e is wrong = by-nil left some is
      where
        by-nil : (l : List ℕ) → (l ≡ [] → ⊥) → l ++ r ≡ [] → ⊥
        by-nil [] some h = some refl
        by-nil (c ∷ l) some h = omega (arith, ap length h)
    after name (c ∷ more) r listed hm e is (inl full) = long-name bytes more c full (subst (λ x. length x ≤ 255) e listed.short)
    after name (c ∷ more) r listed hm e is (inr no-front) = no-front c r (escaped more) hm.0 is

    by : (name rest : List ℕ) → IsListedName name → name_word name ≡ word ++ rest → ⊥
    by [] rest listed is =
        let one = alone bytes left rest part.all some (is ∙ ap (λ x. x ++ rest) part.text) in
        empty one.0 one.1 wrong
      where
        empty : bytes ≡ [] → left ++ rest ≡ 0x25 ∷ [] → (length bytes ≡ 255) ⊎ NoFront left → ⊥
        empty none sign (inl full) = omega (arith, full, ap length none)
        empty none sign (inr no-front) =
            no-front 0 (rest ++ 48 ∷ 48 ∷ []) [] (omega arith) (sym (append_assoc left rest (48 ∷ 48 ∷ [])) ∙ ap (λ x. x ++ 48 ∷ 48 ∷ []) sign ∙ sym (append-nil (0x25 ∷ 48 ∷ 48 ∷ [])))
    by (n ∷ name) rest listed is =
        let more = front-names bytes (n ∷ name) left rest part.all listed.bytes (inl some) (is ∙ ap (λ x. x ++ rest) part.text) in
        after (n ∷ name) more.0 rest listed more.1 more.2 more.3 wrong

-- ---- escapes

pub first-digit : (d : ℕ) → d < 16 → (d ≤ 2) ⊎ (7 ≤ d) → IsFirstDigit (hex_digit d)
first-digit d lt (inl low) = (d * 16, omega (arith, low), plain-low d low, ap hex_digit (omega (arith, lt)))
  where
    plain-low : (d : ℕ) → d ≤ 2 → is_plain (d * 16) ≡ false
    plain-low d low = grind (arith, nat_tests)
first-digit d lt (inr high) = (d * 16 + 15, omega (arith, lt), plain-high d high, ap hex_digit (omega (arith, lt)))
  where
    plain-high : (d : ℕ) → 7 ≤ d → is_plain (d * 16 + 15) ≡ false
    plain-high d high = grind (arith, nat_tests)

pub digit-first : (d : ℕ) → d < 16 → IsFirstDigit (hex_digit d) → (d ≤ 2) ⊎ (7 ≤ d)
digit-first d lt first = by first.0 first.1 first.2 (digit-value d (first.0 / 16 % 16) lt (omega arith) first.3)
  where
    by : (b : ℕ) → IsByte b → is_plain b ≡ false → d ≡ b / 16 % 16 → (d ≤ 2) ⊎ (7 ≤ d)
    by b hb other is = le-or (nat_le d 2) refl
      where
        le-or : (t : Bool) → nat_le d 2 ≡ t → (d ≤ 2) ⊎ (7 ≤ d)
        le-or true le = inl (grind (arith, nat_tests))
        le-or false gt = inr (grind (arith, nat_tests))

-- the escape of a byte
pub pair-escape : (b high low : ℕ) → is_plain b ≡ false → high ∷ low ∷ [] ≡ hex_byte b → escaped_byte b ≡ 0x25 ∷ high ∷ low ∷ []
pair-escape b high low other is = escape-text b other ∙ ap (λ x. 0x25 ∷ x) (sym is)

-- two digits after the sign that are none of an escape
pub pair-none : (high low b : ℕ) → ((n : ℕ) → high ∷ low ∷ [] ≡ hex_byte n → ⊥) → escaped_byte b ≡ 0x25 ∷ high ∷ low ∷ [] → ⊥
pair-none high low b none is = by (cases_Bool (is_plain b))
  where
    by : (is_plain b ≡ true) ⊎ (is_plain b ≡ false) → ⊥
    by (inl p) = plain-percent b p (same-head b 0x25 [] (high ∷ low ∷ []) (sym (plain-text b p) ∙ is)).0
    by (inr p) = none b (sym (same-head 0x25 0x25 (hex_byte b) (high ∷ low ∷ []) (sym (escape-text b p) ∙ is)).1)

pub pair-plain : (high low b n : ℕ) → IsByte b → IsByte n → is_plain n ≡ true → high ∷ low ∷ [] ≡ hex_byte n → escaped_byte b ≡ 0x25 ∷ high ∷ low ∷ [] → ⊥
pair-plain high low b n hb hn plain digits is = by (cases_Bool (is_plain b))
  where
    by : (is_plain b ≡ true) ⊎ (is_plain b ≡ false) → ⊥
    by (inl p) = plain-percent b p (same-head b 0x25 [] (high ∷ low ∷ []) (sym (plain-text b p) ∙ is)).0
    by (inr p) =
        let same = byte-one b n hb hn [] [] (append-nil (hex_byte b) ∙ (same-head 0x25 0x25 (hex_byte b) (high ∷ low ∷ []) (sym (escape-text b p) ∙ is)).1 ∙ digits
        ∙ sym (append-nil (hex_byte n))) in
        both_ways (is_plain b) p (subst (λ m. is_plain m ≡ true) (sym same.0) plain)

-- what stands after the sign and one digit
three-parts : (b h l r : ℕ) (s t : List ℕ) → 0x25 ∷ h ∷ l ∷ s ≡ escaped_byte b ++ t → escaped_byte b ≡ 0x25 ∷ h ∷ l ∷ []
three-parts b h l r s t is = by (cases_Bool (is_plain b))
  where
    by : (is_plain b ≡ true) ⊎ (is_plain b ≡ false) → escaped_byte b ≡ 0x25 ∷ h ∷ l ∷ []
    by (inl p) = absurd (plain-percent b p (sym (same-head 0x25 b (h ∷ l ∷ s) t (is ∙ ap (λ x. x ++ t) (plain-text b p))).0))
    by (inr p) =
        let first = same-head 0x25 0x25 (h ∷ l ∷ s) (hex_byte b ++ t) (is ∙ ap (λ x. x ++ t) (escape-text b p)) in
        let second = same-head h (hex_digit (b / 16 % 16)) (l ∷ s) (hex_digit (b % 16) ∷ t) first.1 in
        let third = same-head l (hex_digit (b % 16)) s t second.1 in
        escape-text b p ∙ ap (λ c. 0x25 ∷ c ∷ hex_digit (b % 16) ∷ []) (sym second.0) ∙ ap (λ c. 0x25 ∷ h ∷ c ∷ []) (sym third.0)

pub pair-front-none : (high low : ℕ) (more : List ℕ) → ((b : ℕ) → IsByte b → escaped_byte b ≡ 0x25 ∷ high ∷ low ∷ [] → ⊥) → NoFront (0x25 ∷ high ∷ low ∷ more)
pair-front-none high low more none b r s hb is = none b hb (three-parts b high low 0 (more ++ r) s is)

pub pair-front : (b high low : ℕ) (more : List ℕ) → escaped_byte b ≡ 0x25 ∷ high ∷ low ∷ [] → 0x25 ∷ high ∷ low ∷ more ≡ escaped_byte b ++ drop 3 (0x25 ∷ high ∷ low ∷ more)
pair-front b high low more is = ap (λ x. x ++ more) (sym is)

-- a sign with one digit
pub one-digit-ends : (high : ℕ) → IsFirstDigit high → EndsWithin (0x25 ∷ high ∷ [])
one-digit-ends high first =
    (first.0, hex_digit (first.0 % 16), [], first.1, escape-text first.0 first.2 ∙ ap (λ c. 0x25 ∷ c ∷ hex_digit (first.0 % 16) ∷ []) (sym first.3))

pub one-digit-none : (high : ℕ) → (IsFirstDigit high → ⊥) → NoFront (0x25 ∷ high ∷ [])
one-digit-none high none b r s hb is = by (cases_Bool (is_plain b))
  where
    by : (is_plain b ≡ true) ⊎ (is_plain b ≡ false) → ⊥
    by (inl p) = plain-percent b p (sym (same-head 0x25 b (high ∷ r) s (is ∙ ap (λ x. x ++ s) (plain-text b p))).0)
    by (inr p) =
        let first = same-head 0x25 0x25 (high ∷ r) (hex_byte b ++ s) (is ∙ ap (λ x. x ++ s) (escape-text b p)) in
        none (b, hb, p, (same-head high (hex_digit (b / 16 % 16)) r (hex_digit (b % 16) ∷ s) first.1).0)

pub sign-ends : EndsWithin (0x25 ∷ [])
sign-ends = (0, 48, 48 ∷ [], omega arith, refl)

pub nothing-ends : EndsWithin []
nothing-ends = (0, 0x25, 48 ∷ 48 ∷ [], omega arith, refl)

pub plain-front : (b : ℕ) (more : List ℕ) → is_plain b ≡ true → b ∷ more ≡ escaped_byte b ++ drop 1 (b ∷ more)
plain-front b more p = ap (λ x. x ++ more) (sym (plain-text b p))

pub other-none : (b : ℕ) (more : List ℕ) → is_plain b ≡ false → (b ≡ 0x25 → ⊥) → NoFront (b ∷ more)
other-none b more other sign n r s hn is = by (cases_Bool (is_plain n))
  where
    by : (is_plain n ≡ true) ⊎ (is_plain n ≡ false) → ⊥
    by (inl p) =
        both_ways (is_plain b) other (subst (λ m. is_plain m ≡ true) (sym (same-head b n (more ++ r) s (is ∙ ap (λ x. x ++ s) (plain-text n p))).0) p)
    by (inr p) = sign (same-head b 0x25 (more ++ r) (hex_byte n ++ s) (is ∙ ap (λ x. x ++ s) (escape-text n p))).0

-- ---- where the bytes of a word stop

pub ends-no-byte : (left : List ℕ) → EndsWithin left → (b : ℕ) → IsByte b → FrontByte left b → ⊥
ends-no-byte left within b hb front =
    let same = byte-same within.0 b [] (front.0 ++ within.1 ∷ within.2) within.3 hb
    (append-nil (escaped_byte within.0) ∙ within.4 ∙ ap (λ x. x ++ within.1 ∷ within.2) front.1 ∙ append_assoc (escaped_byte b) front.0 (within.1 ∷ within.2)) in
    by front.0 same.1
  where
    by : (xs : List ℕ) → [] ≡ xs ++ within.1 ∷ within.2 → ⊥
    by [] h = omega (arith, ap length h)
    by (x ∷ xs) h = omega (arith, ap length h)

pub none-no-byte : (left : List ℕ) → NoFront left → (b : ℕ) → IsByte b → FrontByte left b → ⊥
none-no-byte left none b hb front = none b [] front.0 hb (append-nil left ∙ front.1)

-- one more byte
pub one-more-byte : (word bytes left : List ℕ) (b : ℕ) (rest : List ℕ) → word ≡ escaped bytes ++ left → left ≡ escaped_byte b ++ rest
    → word ≡ escaped (bytes ++ b ∷ []) ++ rest
one-more-byte word bytes left b rest text is =
    text ∙ ap (λ x. escaped bytes ++ x) is ∙ sym (append_assoc (escaped bytes) (escaped_byte b) rest)
    ∙ ap (λ x. x ++ rest) (sym (escaped-append bytes (b ∷ []) ∙ ap (λ x. escaped bytes ++ x) (append-nil (escaped_byte b))))

pub first-low : (byte high : ℕ) → high < 16 → byte ≡ hex_digit high → high ≤ 2 → (nat_le high 2 ≡ true → IsFirstDigit byte) × (IsFirstDigit byte → nat_le high 2 ≡ true)
first-low byte high lt is low = (λ _. subst IsFirstDigit (sym is) (first-digit high lt (inl low)), λ _. grind (arith, nat_tests))

pub first-high : (byte high : ℕ) → high < 16 → byte ≡ hex_digit high → 2 < high → (nat_le 7 high ≡ true → IsFirstDigit byte) × (IsFirstDigit byte → nat_le 7 high ≡ true)
first-high byte high lt is large = (
  λ t. let far : 7 ≤ high = grind (arith, nat_tests) in subst IsFirstDigit (sym is) (first-digit high lt (inr far)),
  λ f. by (digit-first high lt (subst IsFirstDigit is f)),
)
  where
    by : (high ≤ 2) ⊎ (7 ≤ high) → nat_le 7 high ≡ true
    by (inl low) = absurd (omega (arith, low, large))
    by (inr far) = grind (arith, nat_tests)

pub begins-within : (r : Bool) (word bytes left : List ℕ) → IsPart word bytes left → 0 < length left → length bytes < 255 → EndsOrNot r left
    → (r ≡ true → Begins name_word IsListedName word) × (Begins name_word IsListedName word → r ≡ true)
begins-within true word bytes left part some few ends = (λ _. within-begins word bytes left part few ends, λ _. refl)
begins-within false word bytes left part some few (inl byte) = absurd (by part.stops)
  where
    by : (left ≡ []) ⊎ ((length bytes ≡ 255) ⊎ ((b : ℕ) → IsByte b → FrontByte left b → ⊥)) → ⊥
    by (inl none) = omega (arith, some, ap length none)
    by (inr (inl full)) = omega (arith, full, few)
    by (inr (inr no-front)) = no-front byte.0 byte.1 byte.2
begins-within false word bytes left part some few (inr wrong) =
    (λ h. absurd cc, λ b. absurd (no-begins word bytes left part (λ none. omega (arith, some, ap length none)) (inr wrong) b))

pub begins-full : (word bytes left : List ℕ) → IsPart word bytes left → 0 < length left → 255 ≤ length bytes
    → (false ≡ true → Begins name_word IsListedName word) × (Begins name_word IsListedName word → false ≡ true)
begins-full word bytes left part some many =
    (λ h. absurd cc, λ b. absurd (no-begins word bytes left part (λ none. omega (arith, some, ap length none)) (inl (omega (arith, many, part.short))) b))

pub tells-whole : (r : Bool) (word bytes left : List ℕ) → IsPart word bytes left → left ≡ [] → (word ≡ 0x25 ∷ [] → ⊥) → (r ≡ true → 0 < length bytes) → (0 < length bytes → r ≡ true)
    → Tells name_word IsListedName (then_some r bytes) word
tells-whole true word bytes left part none other to from = whole-name word bytes left part none (to refl)
tells-whole false word bytes left part none other to from = no-name word bytes left part other (λ _ some. both_ways false refl (from some))

pub tells-none : (word bytes left : List ℕ) → IsPart word bytes left → 0 < length left → (word ≡ 0x25 ∷ [] → ⊥) → Tells name_word IsListedName (then_some false bytes) word
tells-none word bytes left part some other = no-name word bytes left part other (λ none _. omega (arith, some, ap length none))

pub filled : (n : ℕ) (xs : List ℕ) → n ≡ length xs → (not (n == 0) ≡ true → 0 < length xs) × (0 < length xs → not (n == 0) ≡ true)
filled n [] is = (λ h. absurd (both_ways (not (n == 0)) (subst (λ m. not (m == 0) ≡ false) (sym is) refl) h), λ lt. absurd (omega arith))
filled n (x ∷ xs) is = (λ _. omega arith, λ _. subst (λ m. not (m == 0) ≡ true) (sym is) (by (length xs)))
  where
    by : (k : ℕ) → not (suc k == 0) ≡ true
    by k = grind (arith, nat_tests)

pub stops-at : (word bytes left : List ℕ) (f : Front) → word ≡ escaped bytes ++ left → length bytes ≤ 255 → AllByRecursion IsByte bytes → IsFront f left
    → ((b n : ℕ) → f ≡ Byte b n → ⊥) → IsPart word bytes left
stops-at word bytes left (Byte b n) text short all front other = absurd (other b n refl)
stops-at word bytes left Ends text short all front other = record { text = text; short = short; all = all; stops = inr (inr (ends-no-byte left front)) }
stops-at word bytes left Wrong text short all front other = record { text = text; short = short; all = all; stops = inr (inr (none-no-byte left front)) }
