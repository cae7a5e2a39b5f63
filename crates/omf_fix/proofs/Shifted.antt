-- Places that stand once, and again for each repeat.
use Rattle.std.proofs.Common.{◌≡◌, ℕ, zero, suc, ◌+◌, ◌-◌, ◌*◌, ◌<◌, ◌≤◌, List, [], ◌∷◌, ◌++◌, length, map, get_or, take, drop, refl, sym, ap, ◌∙◌, arith, append_assoc, length-append}
use Rattle.std.specs.List.{slice_range}
use Rattle.std.proofs.Math.Nat.{suc-mul}
use Rattle.std.proofs.Math.ListN.{get_or-append}
use Rattle.std.proofs.Math.Seq.{take-append_seam, drop-append_seam, take-suc}
use Rattle.std.proofs.lemmas.List.{append-nil, take-append-drop, length-drop, length-take-le, get_or-drop, map-append, nil_from_length}
use Rattle.std.proofs.lemmas.Simd.{map-map}
use Rattle.omf_model.specs.Copies.{repeated}

-- each moved up
abbrev pub moved : ℕ → List ℕ → List ℕ
moved n xs = map (λ x. n + x) xs

map-same : (f g : ℕ → ℕ) → ((x : ℕ) → f x ≡ g x) → (xs : List ℕ) → map f xs ≡ map g xs
map-same f g same [] = refl
map-same f g same (x ∷ xs) = λ i. same x i ∷ map-same f g same xs i

-- moved twice
pub moved-moved : (a b : ℕ) (xs : List ℕ) → moved a (moved b xs) ≡ moved (a + b) xs
moved-moved a b xs = map-map (λ x. a + x) (λ x. b + x) xs ∙ map-same (λ x. a + (b + x)) (λ x. a + b + x) (λ x. omega arith) xs

moved-turned : (a b : ℕ) (xs : List ℕ) → moved a (moved b xs) ≡ moved b (moved a xs)
moved-turned a b xs = moved-moved a b xs ∙ ap (λ (n : ℕ). moved n xs) (let e : a + b ≡ b + a = omega arith in e) ∙ sym (moved-moved b a xs)

pub moved-none : (xs : List ℕ) (n : ℕ) → n ≡ 0 → moved n xs ≡ xs
moved-none [] n none = refl
moved-none (x ∷ xs) n none = λ i. (let e : n + x ≡ x = omega (arith, none) in e) i ∷ moved-none xs n none i

-- repeats of what is moved up
pub repeated-moved : (b n u : ℕ) (p : List ℕ) → moved b (repeated n u p) ≡ repeated n u (moved b p)
unfolding repeated
repeated-moved b zero u p = refl
repeated-moved b (suc n) u p =
    map-append (λ x. b + x) p (moved u (repeated n u p))
    ∙ ap (λ (xs : List ℕ). moved b p ++ xs) (moved-turned b u (repeated n u p) ∙ ap (moved u) (repeated-moved b n u p))

-- a repeat more
pub repeated-more : (n u : ℕ) (p : List ℕ) → repeated n u p ++ moved (n * u) p ≡ repeated (suc n) u p
unfolding repeated
repeated-more zero u p = moved-none p (0 * u) (omega arith) ∙ sym (append-nil p)
repeated-more (suc n) u p =
    let further : suc n * u ≡ u + n * u = omega (arith, suc-mul n u) in
    append_assoc p (moved u (repeated n u p)) (moved (suc n * u) p)
    ∙ ap (λ (xs : List ℕ). p ++ xs) (
    ap (λ (xs : List ℕ). moved u (repeated n u p) ++ xs) (ap (λ (k : ℕ). moved k p) further ∙ sym (moved-moved u (n * u) p))
    ∙ sym (map-append (λ x. u + x) (repeated n u p) (moved (n * u) p)) ∙ ap (moved u) (repeated-more n u p))

pub repeated-once : (u : ℕ) (p : List ℕ) → repeated 1 u p ≡ p
unfolding repeated
repeated-once u p = append-nil p

repeated-nothing : (n u : ℕ) (p : List ℕ) → p ≡ [] → repeated n u p ≡ []
unfolding repeated
repeated-nothing zero u p none = refl
repeated-nothing (suc n) u p none = λ i. none i ++ moved u (repeated-nothing n u p none i)

repeated-front : (n u : ℕ) (p : List ℕ) → 1 ≤ n → (rest : List ℕ) × (repeated n u p ≡ p ++ rest)
unfolding repeated
repeated-front zero u p some = absurd (omega (arith, some))
repeated-front (suc n) u p some = (moved u (repeated n u p), refl)

-- repeated no time
pub repeated-never : (u : ℕ) (p : List ℕ) → repeated 0 u p ≡ []
unfolding repeated
repeated-never u p = refl

-- ---- one place after another

pub shift-none : (old : List ℕ) (shift start : ℕ) → old ≡ old ++ moved shift (take (start - start) (drop start old))
shift-none old shift start =
    let none : 0 ≡ start - start = omega arith in
    sym (append-nil old) ∙ ap (λ (n : ℕ). old ++ moved shift (take n (drop start old))) none

pub shift-more : (old now new : List ℕ) (start end next shift v d : ℕ) → now ≡ old ++ moved shift (take (next - start) (drop start old)) → start ≤ next → next < end → end ≤ length old
    → v ≡ shift + get_or now next d → new ≡ now ++ v ∷ [] → new ≡ old ++ moved shift (take (next + 1 - start) (drop start old))
shift-more old now new start end next shift v d so low high fits is pushed =
    let own : List ℕ = drop start old in
    let count : suc (next - start) ≡ next + 1 - start = omega (arith, low) in
    let place : start + (next - start) ≡ next = omega (arith, low) in
    let long : length own ≡ length old - start = length-drop start old in
    let here : get_or now next d ≡ get_or own (next - start) d =
    ap (λ (xs : List ℕ). get_or xs next d) so ∙ get_or-append old (moved shift (take (next - start) own)) d next (omega (arith, high, fits))
    ∙ ap (λ (n : ℕ). get_or old n d) (sym place) ∙ sym (get_or-drop start old (next - start) d) in
    pushed ∙ (λ i. so i ++ (is ∙ ap (λ (n : ℕ). shift + n) here) i ∷ [])
    ∙ append_assoc old (moved shift (take (next - start) own)) ((shift + get_or own (next - start) d) ∷ [])
    ∙ ap (λ (xs : List ℕ). old ++ xs) (sym (map-append (λ x. shift + x) (take (next - start) own) (get_or own (next - start) d ∷ []))
    ∙ ap (moved shift) (sym (take-suc own (next - start) d (omega (arith, low, high, fits, long))) ∙ ap (λ (n : ℕ). take n own) count))

-- ---- one repeat after another

-- nothing stands there
pub none-repeated : (old : List ℕ) (start end times unit : ℕ) → start ≡ end → end ≡ length old → old ≡ take start old ++ repeated times unit (drop start old)
none-repeated old start end times unit same at_end =
    let none : drop start old ≡ [] = nil_from_length (drop start old) (length-drop start old ∙ (let e : length old - start ≡ 0 = omega (arith, same, at_end) in e)) in
    sym (take-append-drop start old) ∙ ap (λ (ys : List ℕ). take start old ++ ys) (none ∙ sym (repeated-nothing times unit (drop start old) none))

pub once-repeated : (old : List ℕ) (start unit : ℕ) → old ≡ take start old ++ repeated 1 unit (drop start old)
once-repeated old start unit = sym (take-append-drop start old) ∙ ap (λ (ys : List ℕ). take start old ++ ys) (sym (repeated-once unit (drop start old)))

pub more-repeated : (old now new : List ℕ) (start end unit done shift : ℕ) → now ≡ take start old ++ repeated done unit (drop start old) → 1 ≤ done → end ≡ length old → start ≤ end → shift ≡ done * unit
    → new ≡ now ++ moved shift (slice_range now start end) → new ≡ take start old ++ repeated (done + 1) unit (drop start old)
more-repeated old now new start end unit done shift so some at_end low far is =
    let own : List ℕ = drop start old in
    let front = repeated-front done unit own some in
    let first : length (take start old) ≡ start = length-take-le start old (omega (arith, at_end, low)) in
    let long : end - start ≡ length own = omega (arith, length-drop start old, at_end) in
    let after : drop start now ≡ own ++ front.0 = (λ i. drop (sym first i) (so i)) ∙ drop-append_seam (take start old) (repeated done unit own) ∙ front.1 in
    let cut : slice_range now start end ≡ own = (λ i. take (long i) (after i)) ∙ take-append_seam own front.0 in
    let count : suc done ≡ done + 1 = omega arith in
    is ∙ (λ i. so i ++ moved (far i) (cut i)) ∙ append_assoc (take start old) (repeated done unit own) (moved (done * unit) own)
    ∙ ap (λ (ys : List ℕ). take start old ++ ys) (repeated-more done unit own ∙ ap (λ (n : ℕ). repeated n unit own) count)

-- what stood there stands there still
pub still-there : (old now : List ℕ) (start unit done : ℕ) → now ≡ take start old ++ repeated done unit (drop start old) → 1 ≤ done → length old ≤ length now
still-there old now start unit done so some =
    let own : List ℕ = drop start old in
    let front = repeated-front done unit own some in
    let a = ap (λ (ys : List ℕ). length ys) so ∙ length-append (take start old) (repeated done unit own) in
    let b = ap (λ (ys : List ℕ). length ys) front.1 ∙ length-append own front.0 in
    let e = ap (λ (ys : List ℕ). length ys) (sym (take-append-drop start old)) ∙ length-append (take start old) own in
    omega (arith, a, b, e)

-- what stands after the old
pub after-old : (old added own : List ℕ) (start times unit base : ℕ) → start ≡ length old → added ≡ old ++ moved base own → take start added ++ repeated times unit (drop start added) ≡ old ++ moved base (repeated times unit own)
after-old old added own start times unit base at_end so =
    let low : take start added ≡ old = (λ i. take (at_end i) (so i)) ∙ take-append_seam old (moved base own) in
    let high : drop start added ≡ moved base own = (λ i. drop (at_end i) (so i)) ∙ drop-append_seam old (moved base own) in
    (λ i. low i ++ repeated times unit (high i)) ∙ ap (λ (ys : List ℕ). old ++ ys) (sym (repeated-moved base times unit own))
