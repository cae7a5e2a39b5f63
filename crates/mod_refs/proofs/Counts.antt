-- Counts of the modules of an order, one more at a time.
use Rattle.std.proofs.Common.{◌≡◌, ℕ, ◌+◌, ◌<◌, ◌==◌, Bool, true, false, cond, ◌||◌, inl, inr, List, [], ◌∷◌, ◌++◌, length, get_or, set, take, sym, ◌∙◌, ap, subst, arith, append_assoc, get_or-set_same, get_or-set_other, ◌-◌, zero, suc}
use Rattle.std.specs.Prelude.{All, filter, eqb, nat_lt}
use Rattle.std.specs.List.{list_any}
use Rattle.std.proofs.lemmas.Bool.{cases_eq, eq-eqb, ne_eqb}
use Rattle.std.proofs.lemmas.List.{take_more, append-nil, get_or-take, get_or_past, get_or_default, length-take-le}
use Rattle.std.proofs.lemmas.List.Elements.{filter_more, filter_passes}
use Rattle.std.proofs.lemmas.List.Kept.{AllPairs-filter}
use Rattle.std.proofs.lemmas.List.Folds.{list_any-append, list_any_none}
use Rattle.load_model.specs.State.{is_among}
use Rattle.std.proofs.lemmas.List.Elements.{All-head, All-tail, All-append}
use Rattle.std.proofs.lemmas.Bool.{cases_lt}
use Rattle.std.proofs.lemmas.Bool.Decides.{Decides-eqb}
use Rattle.std.proofs.lemmas.Map.Made.{IsDistinct-from_AllPairs}
use Rattle.std.proofs.lemmas.Map.Steps.{length-le_from_distinct_below}
use Rattle.std.proofs.lemmas.List.{get_or_append_left, length-append}
use Rattle.std.proofs.Math.Seq.{get_or-append_seam}
use Rattle.std.proofs.Math.Bool.{or-false}
use Rattle.mod_refs.specs.Counts.{one_if, AreApart, AreAttached}

among_more : (order : List ℕ) (i k : ℕ) → i < length order → is_among (take (i + 1) order) k ≡ is_among (take i order) k || (get_or order i 0 == k)
among_more order i k h =
    ap (λ ys. is_among ys k) (take_more order i 0 h) ∙ list_any-append (λ other. other == k) (take i order) (get_or order i 0 ∷ [])
    ∙ ap (λ b. is_among (take i order) k || b) (or-false (get_or order i 0 == k))

-- a module of an order is not among those before it
pub not_before : (order : List ℕ) (i : ℕ) → AreApart order → i < length order → is_among (take i order) (get_or order i 0) ≡ false
not_before order i once h =
    list_any_none (λ other. other == get_or order i 0) (take i order)
    (λ j d below.
    let len : length (take i order) ≡ i = length-take-le i order (omega arith) in
    let before : j < i = omega arith in
    ne_eqb (get_or (take i order) j d) (get_or order i 0)
    (λ e. once j i d before h (sym (get_or-take i order j d before) ∙ e ∙ get_or_default order i 0 d h)))

or_none : (b : Bool) → one_if (b || false) ≡ one_if b + one_if false
or_none true = omega arith
or_none false = omega arith

none_or : (b : Bool) → one_if (false || b) ≡ one_if false + one_if b
none_or true = omega arith
none_or false = omega arith

-- a module more among them is one that was not there
pub among_once : (order : List ℕ) (i k : ℕ) → AreApart order → i < length order →
    one_if (is_among (take (i + 1) order) k) ≡ one_if (is_among (take i order) k) + one_if (get_or order i 0 == k)
among_once order i k once h = ap one_if (among_more order i k h) ∙ elim (cases_eq (get_or order i 0) k) [
  | inl same ↦
      let none : is_among (take i order) k ≡ false = ap (is_among (take i order)) (sym same) ∙ not_before order i once h in
      ap (λ b. one_if (b || (get_or order i 0 == k))) none ∙ none_or (get_or order i 0 == k) ∙ ap (λ b. one_if b + one_if (get_or order i 0 == k)) (sym none)
  | inr other ↦
      let none = ne_eqb (get_or order i 0) k other in
      ap (λ b. one_if (is_among (take i order) k || b)) none ∙ or_none (is_among (take i order) k) ∙ ap (λ b. one_if (is_among (take i order) k) + one_if b) (sym none)
]

-- the counts after one module more
pub counts_more : (init now new order : List ℕ) (i k : ℕ) → AreApart order → i < length order → get_or order i 0 < length now →
    new ≡ set now (get_or order i 0) (get_or now (get_or order i 0) 0 + 1) →
    get_or now k 0 ≡ get_or init k 0 + one_if (is_among (take i order) k) →
    get_or new k 0 ≡ get_or init k 0 + one_if (is_among (take (i + 1) order) k)
counts_more init now new order i k once h within is before =
    let more = among_once order i k once h in
    let x = get_or order i 0 in
    ap (λ xs. get_or xs k 0) is ∙ elim (cases_eq k (get_or order i 0)) [
      | inl at ↦
          let same : get_or (set now (get_or order i 0) (get_or now (get_or order i 0) 0 + 1)) k 0 ≡ get_or now k 0 + 1 =
          ap (λ y. get_or (set now (get_or order i 0) (get_or now (get_or order i 0) 0 + 1)) y 0) at
          ∙ get_or-set_same now (get_or order i 0) (get_or now (get_or order i 0) 0 + 1) 0 within ∙ ap (λ y. get_or now y 0 + 1) (sym at)
          in
          let one : one_if (get_or order i 0 == k) ≡ 1 = ap one_if (eq-eqb _ _ (sym at)) in
          omega (arith, same, one, more, before)
      | inr other ↦
          let same = get_or-set_other now (get_or order i 0) k (get_or now (get_or order i 0) 0 + 1) 0 other in
          let none : one_if (get_or order i 0 == k) ≡ 0 = ap one_if (ne_eqb _ _ (λ e. other (sym e))) in
          omega (arith, same, none, more, before)
    ]

-- the counts after one module less
pub counts_less : (init now new order : List ℕ) (i k : ℕ) → AreApart order → i < length order → get_or order i 0 < length now →
    new ≡ set now (get_or order i 0) (get_or now (get_or order i 0) 0 - 1) → 0 < get_or now (get_or order i 0) 0 →
    get_or init k 0 ≡ get_or now k 0 + one_if (is_among (take i order) k) →
    get_or init k 0 ≡ get_or new k 0 + one_if (is_among (take (i + 1) order) k)
counts_less init now new order i k once h within is some before =
    let more = among_once order i k once h in
    let new_is : get_or new k 0 ≡ get_or (set now (get_or order i 0) (get_or now (get_or order i 0) 0 - 1)) k 0 = ap (λ xs. get_or xs k 0) is in
    elim (cases_eq k (get_or order i 0)) [
      | inl at ↦
          let same : get_or (set now (get_or order i 0) (get_or now (get_or order i 0) 0 - 1)) k 0 ≡ get_or now k 0 - 1 =
          ap (λ y. get_or (set now (get_or order i 0) (get_or now (get_or order i 0) 0 - 1)) y 0) at
          ∙ get_or-set_same now (get_or order i 0) (get_or now (get_or order i 0) 0 - 1) 0 within ∙ ap (λ y. get_or now y 0 - 1) (sym at)
          in
          let here : get_or now k 0 ≡ get_or now (get_or order i 0) 0 = ap (λ y. get_or now y 0) at in
          let one : one_if (get_or order i 0 == k) ≡ 1 = ap one_if (eq-eqb _ _ (sym at)) in
          omega (arith, new_is, same, here, some, one, more, before)
      | inr other ↦
          let same = get_or-set_other now (get_or order i 0) k (get_or now (get_or order i 0) 0 - 1) 0 other in
          let none : one_if (get_or order i 0 == k) ≡ 0 = ap one_if (ne_eqb _ _ (λ e. other (sym e))) in
          omega (arith, new_is, same, none, more, before)
    ]

-- what is attached after one module more
pub attached_more : (init now order base att new : List ℕ) (i : ℕ) → i < length order → get_or now (get_or order i 0) 0 ≡ get_or init (get_or order i 0) 0 →
    att ≡ base ++ filter (λ k. get_or init k 0 == 0) (take i order) →
    new ≡ cond (get_or now (get_or order i 0) 0 == 0) (att ++ get_or order i 0 ∷ []) att →
    new ≡ base ++ filter (λ k. get_or init k 0 == 0) (take (i + 1) order)
attached_more init now order base att new i h fresh so_far is =
    is ∙ ap (λ n. cond (n == 0) (att ++ get_or order i 0 ∷ []) att) fresh ∙ by_test (get_or init (get_or order i 0) 0 == 0)
    ∙ ap (λ ys. base ++ ys) (sym (filter_more (λ k. get_or init k 0 == 0) order i 0 h))
  where
    by_test : (b : Bool) → cond b (att ++ get_or order i 0 ∷ []) att ≡ base ++ (filter (λ k. get_or init k 0 == 0) (take i order) ++ cond b (get_or order i 0 ∷ []) [])
    by_test true = ap (λ ys. ys ++ get_or order i 0 ∷ []) so_far ∙ append_assoc base (filter (λ k. get_or init k 0 == 0) (take i order)) (get_or order i 0 ∷ [])
    by_test false = so_far ∙ ap (λ ys. base ++ ys) (sym (append-nil (filter (λ k. get_or init k 0 == 0) (take i order))))

-- those of one more item that pass a test
pub filtered_more : {A : Type 0} (p : A → Bool) (xs : List A) (i : ℕ) (d : A) (kept new : List A) → i < length xs → kept ≡ filter p (take i xs) →
    new ≡ cond (p (get_or xs i d)) (kept ++ get_or xs i d ∷ []) kept → new ≡ filter p (take (i + 1) xs)
filtered_more {A} p xs i d kept new h so_far is = is ∙ by_test (p (get_or xs i d)) ∙ sym (filter_more p xs i d h)
  where
    by_test : (b : Bool) → cond b (kept ++ get_or xs i d ∷ []) kept ≡ filter p (take i xs) ++ cond b (get_or xs i d ∷ []) []
    by_test true = ap (λ (ys : List A). ys ++ get_or xs i d ∷ []) so_far
    by_test false = so_far ∙ sym (append-nil (filter p (take i xs)))

-- ---- what is attached

found : (q : ℕ) (xs : List ℕ) (P : ℕ → Type 0) → list_any (eqb q) xs ≡ true → All P xs → P q
found q [] P e h = (let wrong : false ≡ true = e in cc)
found q (x ∷ xs) P e h = elim (cases_eq q x) [
  | inl same ↦ subst P (sym same) (All-head P x xs h)
  | inr other ↦ found q xs P (sym (ap (λ b. b || list_any (eqb q) xs) (ne_eqb q x other)) ∙ e) (All-tail P x xs h)
]

-- a module that is none of those before it
apart_more : (xs : List ℕ) (k : ℕ) → AreApart xs → All (λ x. x ≡ k → ⊥) xs → AreApart (xs ++ k ∷ [])
apart_more xs k once other = λ i j d before below.
    let long = length-append xs (k ∷ []) in
    elim (cases_lt j (length xs)) [
      | inl within ↦ λ e. once i j d before within (sym (get_or_append_left xs (k ∷ []) d i (omega arith)) ∙ e ∙ get_or_append_left xs (k ∷ []) d j within)
      | inr past ↦
          let last : j ≡ length xs = omega (arith, long, below, past) in
          let first : i < length xs = omega (arith, last, before) in
          λ e. other i d first (sym (get_or_append_left xs (k ∷ []) d i first) ∙ e ∙ ap (λ n. get_or (xs ++ k ∷ []) n d) last ∙ get_or-append_seam xs k [] d)
    ]

-- a module without a count is not attached
not_attached : (reached attached : List ℕ) (k : ℕ) → get_or reached k 0 ≡ 0 → AreAttached reached attached → All (λ x. x ≡ k → ⊥) attached
not_attached reached attached k none are = λ i d below. λ e.
    let some : 0 < get_or reached (get_or attached i d) 0 = are.counted i d below in
    let here : get_or reached (get_or attached i d) 0 ≡ get_or reached k 0 = ap (λ x. get_or reached x 0) e in
    absurd (omega (arith, some, here, none))

-- what has a count is a module
pub counted_within : (xs : List ℕ) (x : ℕ) → 0 < get_or xs x 0 → x < length xs
counted_within xs x some = elim (cases_lt x (length xs)) [
  | inl h ↦ h
  | inr past ↦ (let none = get_or_past xs x 0 past in absurd (omega (arith, none, some)))
]

-- so there is room for it
pub room_for_one : (reached attached : List ℕ) (k : ℕ) → k < length reached → get_or reached k 0 ≡ 0 → AreAttached reached attached → length attached < length reached
room_for_one reached attached k within none are =
    let apart = apart_more attached k are.once (not_attached reached attached k none are) in
    let Below : ℕ → Type 0 = λ x. x < length reached in
    let last : All Below (k ∷ []) = λ i d below. (let zero : i ≡ 0 = omega (arith, below) in subst (λ n. get_or (k ∷ []) n d < length reached) (sym zero) within) in
    let below : All Below (attached ++ k ∷ []) = All-append Below attached (k ∷ []) (λ i d h. counted_within reached (get_or attached i d) (are.counted i d h)) last in
    let le = length-le_from_distinct_below (attached ++ k ∷ []) (length reached) (IsDistinct-from_AllPairs Decides-eqb (attached ++ k ∷ []) apart) (λ q e. found q (attached ++ k ∷ []) Below e below) in
    let long = length-append attached (k ∷ []) in
    omega (arith, le, long)

still_counted : (reached : List ℕ) (k x : ℕ) → k < length reached → 0 < get_or reached x 0 → 0 < get_or (set reached k (get_or reached k 0 + 1)) x 0
still_counted reached k x within some = elim (cases_eq x k) [
  | inl same ↦
      let here : get_or (set reached k (get_or reached k 0 + 1)) x 0 ≡ get_or reached k 0 + 1 =
      ap (λ y. get_or (set reached k (get_or reached k 0 + 1)) y 0) same ∙ get_or-set_same reached k (get_or reached k 0 + 1) 0 within
      in
      omega (arith, here)
  | inr other ↦ (let here = get_or-set_other reached k x (get_or reached k 0 + 1) 0 other in omega (arith, here, some))
]

pub attached_kept : (reached attached new : List ℕ) (k : ℕ) → k < length reached → AreAttached reached attached →
    new ≡ cond (get_or reached k 0 == 0) (attached ++ k ∷ []) attached →
    AreAttached (set reached k (get_or reached k 0 + 1)) new
attached_kept reached attached new k within are is = elim (cases_eq (get_or reached k 0) 0) [
  | inl none ↦
      let these : new ≡ attached ++ k ∷ [] = is ∙ ap (λ b. cond b (attached ++ k ∷ []) attached) (eq-eqb (get_or reached k 0) 0 none) in
      subst (AreAttached (set reached k (get_or reached k 0 + 1))) (sym these) (record {
        counted = All-append (λ x. 0 < get_or (set reached k (get_or reached k 0 + 1)) x 0) attached (k ∷ []) (λ i d h. still_counted reached k (get_or attached i d) within (are.counted i d h))
            (λ i d h. (let zero : i ≡ 0 = omega (arith, h) in
            let here = get_or-set_same reached k (get_or reached k 0 + 1) 0 within in
            subst (λ n. 0 < get_or (set reached k (get_or reached k 0 + 1)) (get_or (k ∷ []) n d) 0) (sym zero) (omega (arith, here))));
        once = apart_more attached k are.once (not_attached reached attached k none are);
      })
  | inr some ↦
      let these : new ≡ attached = is ∙ ap (λ b. cond b (attached ++ k ∷ []) attached) (ne_eqb (get_or reached k 0) 0 some) in
      subst (AreAttached (set reached k (get_or reached k 0 + 1))) (sym these) (record {
        counted = λ i d h. still_counted reached k (get_or attached i d) within (are.counted i d h);
        once = are.once;
      })
]

is_some : (n : ℕ) → nat_lt 0 n ≡ true → 0 < n
is_some zero e = (let wrong : false ≡ true = e in cc)
is_some (suc n) e = omega arith

-- what still has a count stays attached once
pub attached_left : (before reached attached new : List ℕ) → AreAttached before attached → new ≡ filter (λ k. nat_lt 0 (get_or reached k 0)) attached → AreAttached reached new
attached_left before reached attached new are is =
    let test : ℕ → Bool = λ k. nat_lt 0 (get_or reached k 0) in
    subst (AreAttached reached) (sym is) (record {
      counted = λ i d h. is_some (get_or reached (get_or (filter test attached) i d) 0) (filter_passes test attached i d h);
      once = AllPairs-filter (λ (a : ℕ) (b : ℕ). a ≡ b → ⊥) test attached are.once;
    })
