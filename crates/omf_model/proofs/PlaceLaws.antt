-- The places of a number in joined and repeated lists.
use Rattle.std.proofs.Common.{◌≡◌, ℕ, zero, suc, ◌+◌, ◌-◌, ◌*◌, ◌<◌, ◌≤◌, Bool, true, false, cond, eqb, leb, ltb, List, [], ◌∷◌, ◌++◌, length, map, get_or, refl, sym, ap, subst, ◌∙◌, arith, inl, inr, append_assoc, length-append}
use Rattle.std.specs.Prelude.{◌&&◌, ◌⊎◌}
use Rattle.std.specs.List.{Contains, filter, range_with_len, repeat}
use Rattle.std.proofs.Math.Nat.{suc-mul}
use Rattle.std.proofs.lemmas.Bool.{cases_lt, eq-eqb, ne_eqb, le-leb, leb-true, lt-ltb, le-ltb}
use Rattle.std.proofs.lemmas.List.{map-append, length-map, get_or-map}
use Rattle.std.proofs.lemmas.List.Elements.{Contains-append_left, Contains-append_right}
use Rattle.std.proofs.lemmas.Simd.{map-map}
use Rattle.omf_model.specs.Fixups.{places_of}
use Rattle.omf_model.specs.Copies.{repeated, is_inside, place_in}
use Rattle.omf_model.proofs.DataLaws.{bool_cases}

filter-map : (p q : ℕ → Bool) (f : ℕ → ℕ) → ((x : ℕ) → p (f x) ≡ q x) → (xs : List ℕ) → filter p (map f xs) ≡ map f (filter q xs)
filter-map p q f same [] = refl
filter-map p q f same (x ∷ xs) =
    elim (bool_cases (q x)) [
      | inl h ↦ rw (same x ∙ h, h) (ap (λ (ys : List ℕ). f x ∷ ys) (filter-map p q f same xs))
      | inr h ↦ rw (same x ∙ h, h) (filter-map p q f same xs)
    ]

range-suc : (a n : ℕ) → range_with_len (suc a) n ≡ map (λ x. suc x) (range_with_len a n)
range-suc a zero = refl
range-suc a (suc n) = λ i. suc a ∷ (ap (λ (k : ℕ). range_with_len k n) (let e : suc a + 1 ≡ suc (a + 1) = omega arith in e) ∙ range-suc (a + 1) n) i

-- the places of a list with one more in front
pub places-cons : (o x : ℕ) (xs : List ℕ) → places_of o (x ∷ xs) ≡ cond (eqb x o) (0 ∷ []) [] ++ map (λ k. suc k) (places_of o xs)
places-cons o x xs =
    let later : filter (λ k. eqb (get_or (x ∷ xs) k 0) o) (range_with_len 1 (length xs)) ≡ map (λ k. suc k) (places_of o xs) =
    ap (λ (ys : List ℕ). filter (λ k. eqb (get_or (x ∷ xs) k 0) o) ys) (range-suc 0 (length xs))
    ∙ filter-map (λ k. eqb (get_or (x ∷ xs) k 0) o) (λ k. eqb (get_or xs k 0) o) (λ k. suc k) (λ k. refl) (range_with_len 0 (length xs)) in
    elim (bool_cases (eqb x o)) [
      | inl h ↦ rw h (ap (λ (ys : List ℕ). 0 ∷ ys) later)
      | inr h ↦ rw h later
    ]

pub places-append : (o : ℕ) (xs ys : List ℕ) → places_of o (xs ++ ys) ≡ places_of o xs ++ map (λ k. length xs + k) (places_of o ys)
places-append o [] ys = sym (shift-none (places_of o ys))
  where
    shift-none : (zs : List ℕ) → map (λ k. 0 + k) zs ≡ zs
    shift-none [] = refl
    shift-none (z ∷ zs) = λ i. (let e : 0 + z ≡ z = omega arith in e) i ∷ shift-none zs i
places-append o (x ∷ xs) ys =
    let head : List ℕ = cond (eqb x o) (0 ∷ []) [] in
    places-cons o x (xs ++ ys)
    ∙ ap (λ (zs : List ℕ). head ++ map (λ k. suc k) zs) (places-append o xs ys)
    ∙ ap (λ (zs : List ℕ). head ++ zs) (map-append (λ k. suc k) (places_of o xs) (map (λ k. length xs + k) (places_of o ys)))
    ∙ ap (λ (zs : List ℕ). head ++ (map (λ k. suc k) (places_of o xs) ++ zs)) (map-map (λ k. suc k) (λ k. length xs + k) (places_of o ys) ∙ up (places_of o ys))
    ∙ sym (append_assoc head (map (λ k. suc k) (places_of o xs)) (map (λ k. suc (length xs) + k) (places_of o ys)))
    ∙ ap (λ (zs : List ℕ). zs ++ map (λ k. suc (length xs) + k) (places_of o ys)) (sym (places-cons o x xs))
  where
    up : (zs : List ℕ) → map (λ k. suc (length xs + k)) zs ≡ map (λ k. suc (length xs) + k) zs
    up [] = refl
    up (z ∷ zs) = λ i. (let e : suc (length xs + z) ≡ suc (length xs) + z = omega arith in e) i ∷ up zs i

pub places-repeat : (o times : ℕ) (xs : List ℕ) → places_of o (repeat times xs) ≡ repeated times (length xs) (places_of o xs)
unfolding repeated
places-repeat o zero xs = refl
places-repeat o (suc times) xs =
    places-append o xs (repeat times xs)
    ∙ ap (λ (zs : List ℕ). places_of o xs ++ map (λ k. length xs + k) zs) (places-repeat o times xs)

outside-below : (o first len : ℕ) → o < first → is_inside first len o ≡ false
outside-below o first len below = unset (leb first o) (ltb o (first + len)) (gt-leb first o below)
  where
    gt-leb : (a b : ℕ) → b < a → leb a b ≡ false
    gt-leb a b lt = elim (bool_cases (leb a b)) [ inl h ↦ absurd (omega (arith, lt, leb-true a b h)) | inr h ↦ h ]

    unset : (a b : Bool) → a ≡ false → (a && b) ≡ false
    unset true b e = absurd cc
    unset false b e = refl

outside-above : (o first len : ℕ) → first + len ≤ o → is_inside first len o ≡ false
outside-above o first len above = rw (le-ltb o (first + len) above) (last (leb first o))
  where
    last : (a : Bool) → (a && false) ≡ false
    last true = refl
    last false = refl

pub inside : (o first len : ℕ) → first ≤ o → o < first + len → is_inside first len o ≡ true
inside o first len low high = rw (le-leb first o low, lt-ltb o (first + len) high) refl

-- a place among numbers that count up
pub places-range : (o first len : ℕ) → places_of o (range_with_len first len) ≡ place_in first len o
places-range o first zero =
    elim (cases_lt o first) [
      | inl below ↦ rw (outside-below o first 0 below) refl
      | inr above ↦ rw (outside-above o first 0 (omega (arith, above))) refl
    ]
places-range o first (suc len) =
    places-cons o first (range_with_len (first + 1) len)
    ∙ ap (λ (zs : List ℕ). cond (eqb first o) (0 ∷ []) [] ++ map (λ k. suc k) zs) (places-range o (first + 1) len)
    ∙ by (cases_lt o first)
  where
    by : (o < first) ⊎ (first ≤ o) → cond (eqb first o) (0 ∷ []) [] ++ map (λ k. suc k) (place_in (first + 1) len o) ≡ place_in first (suc len) o
    by (inl below) = rw (ne_eqb first o (λ e. omega (arith, e, below)), outside-below o (first + 1) len (omega (arith, below)), outside-below o first (suc len) below) refl
    by (inr above) =
        elim (cases_lt first o) [
          | inr same ↦
              let e : first ≡ o = omega (arith, above, same) in
              rw (eq-eqb first o e, outside-below o (first + 1) len (omega (arith, e)), inside o first (suc len) above (omega (arith, e))) (ap (λ (k : ℕ). k ∷ []) (let z : 0 ≡ o - first = omega (arith, e) in z))
          | inl later ↦ elim (cases_lt o (first + suc len)) [
            | inl near ↦
                rw (ne_eqb first o (λ e. omega (arith, e, later)), inside o (first + 1) len (omega (arith, later)) (omega (arith, near)), inside o first (suc len) above near)
                (ap (λ (k : ℕ). k ∷ []) (let z : suc (o - (first + 1)) ≡ o - first = omega (arith, later) in z))
            | inr far ↦ rw (ne_eqb first o (λ e. omega (arith, e, later)), outside-above o (first + 1) len (omega (arith, far)), outside-above o first (suc len) far) refl
          ]
        ]

-- ---- where a number is

pub Contains-shift : (f : ℕ → ℕ) (xs : List ℕ) (x : ℕ) → Contains xs x → Contains (map f xs) (f x)
Contains-shift f xs x c = (c.0, omega (arith, c.1, length-map xs f), get_or-map f xs c.0 x (f x) c.1 ∙ ap f c.2)

-- a place of a number is among its places
pub has-place : (o : ℕ) (xs : List ℕ) (y : ℕ) → y < length xs → get_or xs y 0 ≡ o → Contains (places_of o xs) y
has-place o [] y lt is = absurd (omega (arith, lt))
has-place o (x ∷ xs) zero lt is =
    subst (λ (zs : List ℕ). Contains zs 0) (sym (places-cons o x xs))
    (Contains-append_left (cond (eqb x o) (0 ∷ []) []) (map (λ k. suc k) (places_of o xs)) 0 (rw (eq-eqb x o is) (0, omega arith, refl)))
has-place o (x ∷ xs) (suc y) lt is =
    subst (λ (zs : List ℕ). Contains zs (suc y)) (sym (places-cons o x xs))
    (Contains-append_right (cond (eqb x o) (0 ∷ []) []) (map (λ k. suc k) (places_of o xs)) (suc y)
    (Contains-shift (λ k. suc k) (places_of o xs) y (has-place o xs y (omega (arith, lt)) is)))

-- ---- how many

pub length-repeated : (times unit : ℕ) (places : List ℕ) → length (repeated times unit places) ≡ times * length places
unfolding repeated
length-repeated zero unit places = omega arith
length-repeated (suc times) unit places =
    length-append places (map (λ x. unit + x) (repeated times unit places))
    ∙ (let e : length places + length (map (λ x. unit + x) (repeated times unit places))
    ≡ times * length places + length places = omega (arith, length-map (repeated times unit places) (λ x. unit + x), length-repeated times unit places) in e)
    ∙ sym (suc-mul times (length places))
