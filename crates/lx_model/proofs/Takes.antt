-- What a reading step took from the front of the bytes.
use Rattle.std.proofs.Common.{◌≡◌, ℕ, suc, ◌+◌, ◌*◌, ◌%◌, ◌<◌, ◌≤◌, ◌^◌, ltb, List, [], ◌∷◌, ◌++◌, length, take, drop, Ok, refl, sym, subst, ap, ◌∙◌, append_assoc, arith, inl, inr}
use Rattle.std.proofs.Math.Nat.{pow-suc}
use Rattle.std.proofs.lemmas.Bool.{ltb-false, cases_lt}
use Rattle.std.proofs.lemmas.List.{take-append-drop, length-take, get_or-drop, get_or-take, get_or_past}
use Rattle.lx_bytes.specs.Cursor.{Cursor, advance}
use Rattle.lx_bytes.specs.LittleEndian.{AreBytes, little, little_bytes}
use Rattle.lx_bytes.proofs.Numbers.{little_bytes-little}
use Rattle.lx_types.specs.declared.refusal.LxKind.TheVariants.{Short}
use Rattle.lx_model.specs.Reading.{fault, text, number}
use Rattle.lx_model.proofs.Steps.{guard_ok}

-- The bytes of c are these bytes and then those of d.
pub record Takes (c : Cursor) (bytes : List ℕ) (d : Cursor) : Type 0 where
  pub parts : c.left ≡ bytes ++ d.left
  pub rest : AreBytes d.left

pub Takes-then : (c d e : Cursor) (xs ys : List ℕ) → Takes c xs d → Takes d ys e → Takes c (xs ++ ys) e
Takes-then c d e xs ys p q = record { parts = p.parts ∙ ap (λ (t : List ℕ). xs ++ t) q.parts ∙ sym (append_assoc xs ys e.left); rest = q.rest }

pub takes_nothing : (c : Cursor) → AreBytes c.left → Takes c [] c
takes_nothing c h = record { parts = refl; rest = h }

pub AreBytes-drop : (n : ℕ) (bytes : List ℕ) → AreBytes bytes → AreBytes (drop n bytes)
AreBytes-drop n bytes h i = rw get_or-drop (h (n + i))

AreBytes-take : (n : ℕ) (bytes : List ℕ) → AreBytes bytes → AreBytes (take n bytes)
AreBytes-take n bytes h i = elim (cases_lt i n) [
  | inl lt ↦ rw (get_or-take n bytes i 0 lt) (h i)
  | inr le ↦ rw (get_or_past (take n bytes) i 0 (omega (arith, length-take n bytes))) (omega arith)
]

-- bytes spell a number below a power of 256
little-below : (bs : List ℕ) → AreBytes bs → little bs < 256 ^ length bs
little-below [] h = omega arith
little-below (b ∷ bs) h =
    let byte : b < 256 = h 0 in
    let rest = little-below bs (λ i. h (suc i)) in
    let power : 256 ^ length bs * 256 ≡ 256 ^ suc (length bs) = sym (pow-suc 256 (length bs)) in
    omega (arith, byte, rest, power)

-- ---- the steps

advance_parts : (n : ℕ) (c : Cursor) → AreBytes c.left → Takes c (take n c.left) (advance n c)
advance_parts n c h = record { parts = sym (take-append-drop n c.left); rest = AreBytes-drop n c.left h }

pub record NumberTaken (n : ℕ) (c : Cursor) (x : ℕ) (d : Cursor) : Type 0 where
  pub taken : Takes c (little_bytes n x) d
  pub below : x < 256 ^ n

pub number_takes : (n : ℕ) (c d : Cursor) (x : ℕ) → AreBytes c.left → number n c ≡ Ok (x, d) → NumberTaken n c x d
number_takes n c d x h e =
    let g = guard_ok (ltb (length c.left) n) (fault Short c.at) (Ok (little (take n c.left), advance n c)) (x, d) e in
    let long : n ≤ length c.left = ltb-false _ _ g.0 in
    let pair : (little (take n c.left), advance n c) ≡ (x, d) = cc in
    let bytes = take n c.left in
    let len : length bytes ≡ n = omega (arith, length-take n c.left) in
    let front : little_bytes n (little bytes) ≡ bytes = subst (λ (k : ℕ). little_bytes k (little bytes) ≡ bytes) len (little_bytes-little bytes (AreBytes-take n c.left h)) in
    let below : little bytes < 256 ^ n = subst (λ (k : ℕ). little bytes < 256 ^ k) len (little-below bytes (AreBytes-take n c.left h)) in
    let here : NumberTaken n c (little bytes) (advance n c) = record { taken = subst (λ (t : List ℕ). Takes c t (advance n c)) (sym front) (advance_parts n c h); below = below } in
    subst (λ (p : ℕ × Cursor). NumberTaken n c p.0 p.1) pair here

pub record TextTaken (n : ℕ) (c : Cursor) (bytes : List ℕ) (d : Cursor) : Type 0 where
  pub taken : Takes c bytes d
  pub len : length bytes ≡ n

pub text_takes : (n : ℕ) (c d : Cursor) (bytes : List ℕ) → AreBytes c.left → text n c ≡ Ok (bytes, d) → TextTaken n c bytes d
text_takes n c d bytes h e =
    let g = guard_ok (ltb (length c.left) n) (fault Short c.at) (Ok (take n c.left, advance n c)) (bytes, d) e in
    let long : n ≤ length c.left = ltb-false _ _ g.0 in
    let pair : (take n c.left, advance n c) ≡ (bytes, d) = cc in
    let here : TextTaken n c (take n c.left) (advance n c) = record { taken = advance_parts n c h; len = omega (arith, length-take n c.left) } in
    subst (λ (p : List ℕ × Cursor). TextTaken n c p.0 p.1) pair here

-- a byte alone
pub byte_spelled : (x : ℕ) → x < 256 ^ 1 → little_bytes 1 x ≡ x ∷ []
byte_spelled x lt = let low : x % 256 ≡ x = omega (arith, lt) in rw low refl
