-- Copies of an offset in LIDATA's blocks: what follows it follows each copy, so copies are apart.
use Rattle.std.proofs.Common.{◌≡◌, ℕ, zero, suc, ◌+◌, ◌-◌, ◌*◌, ◌<◌, ◌≤◌, Bool, List, [], ◌∷◌, ◌++◌, length, get_or, refl, sym, ap, subst, ◌∙◌, arith, inl, inr, length-append}
use Rattle.std.specs.List.{AllByRecursion, repeat, range_with_len}
use Rattle.std.proofs.lemmas.Bool.{cases_lt}
use Rattle.std.proofs.Math.Nat.{suc-mul}
use Rattle.std.proofs.Math.ListN.{get_or-append}
use Rattle.std.proofs.Math.Seq.{get_or-append_right}
use Rattle.std.proofs.lemmas.List.FromFn.{length-range_with_len}
use Rattle.lx_types.proofs.Lists.{all_joined}
use Rattle.lx_bytes.specs.LittleEndian.{little_bytes}
use Rattle.lx_bytes.proofs.Numbers.{length-little_bytes}
use Rattle.omf_fields.specs.Fields.{width}
use Rattle.omf_model.specs.Blocks.{Blocks, none, bytes, nested, block_bytes, head_bytes, count_of, origins, contents, expanded, expanded_len}

-- what has an origin in an interval goes on as the interval does
pub record Goes (xs : List ℕ) (z x j : ℕ) : Type 0 where
  pub there : x + j < length xs
  pub is : get_or xs (x + j) 0 ≡ get_or xs x 0 + j

abbrev pub Runs : List ℕ → ℕ → ℕ → Type 0
Runs xs a z = (x j : ℕ) → x < length xs → a ≤ get_or xs x 0 → get_or xs x 0 + j < z → Goes xs z x j

-- all lie between two numbers
abbrev pub Between : List ℕ → ℕ → ℕ → Type 0
Between xs lo hi = (x : ℕ) → x < length xs → (lo ≤ get_or xs x 0) × (get_or xs x 0 < hi)

runs-append : (xs ys : List ℕ) (a z : ℕ) → Runs xs a z → Runs ys a z → Runs (xs ++ ys) a z
runs-append xs ys a z first second x j lt low high =
    elim (cases_lt x (length xs)) [
      | inl here ↦
          let at_x : get_or (xs ++ ys) x 0 ≡ get_or xs x 0 = get_or-append xs ys 0 x here in
          let g = first x j here (subst (λ (v : ℕ). a ≤ v) at_x low) (subst (λ (v : ℕ). v + j < z) at_x high) in
          record {
            there = omega (arith, g.there, length-append xs ys);
            is = get_or-append xs ys 0 (x + j) g.there ∙ g.is ∙ ap (λ (v : ℕ). v + j) (sym at_x);
          }
      | inr past ↦
          let at_x : get_or (xs ++ ys) x 0 ≡ get_or ys (x - length xs) 0 = get_or-append_right xs ys x 0 past in
          let g = second (x - length xs) j (omega (arith, lt, past, length-append xs ys)) (subst (λ (v : ℕ). a ≤ v) at_x low) (subst (λ (v : ℕ). v + j < z) at_x high) in
          let place : x + j - length xs ≡ x - length xs + j = omega (arith, past) in
          record {
            there = omega (arith, g.there, past, length-append xs ys);
            is = get_or-append_right xs ys (x + j) 0 (omega (arith, past)) ∙ ap (λ (n : ℕ). get_or ys n 0) place ∙ g.is ∙ ap (λ (v : ℕ). v + j) (sym at_x);
          }
    ]

runs-repeat : (n : ℕ) (xs : List ℕ) (a z : ℕ) → Runs xs a z → Runs (repeat n xs) a z
runs-repeat zero xs a z h = λ x j lt low high. absurd (omega (arith, lt))
runs-repeat (suc n) xs a z h = runs-append xs (repeat n xs) a z h (runs-repeat n xs a z h)

between-append : (xs ys : List ℕ) (lo hi : ℕ) → Between xs lo hi → Between ys lo hi → Between (xs ++ ys) lo hi
between-append xs ys lo hi first second x lt =
    elim (cases_lt x (length xs)) [
      | inl here ↦ subst (λ (v : ℕ). (lo ≤ v) × (v < hi)) (sym (get_or-append xs ys 0 x here)) (first x here)
      | inr past ↦ subst (λ (v : ℕ). (lo ≤ v) × (v < hi)) (sym (get_or-append_right xs ys x 0 past)) (second (x - length xs) (omega (arith, lt, past, length-append xs ys)))
    ]

between-repeat : (n : ℕ) (xs : List ℕ) (lo hi : ℕ) → Between xs lo hi → Between (repeat n xs) lo hi
between-repeat zero xs lo hi h = λ x lt. absurd (omega (arith, lt))
between-repeat (suc n) xs lo hi h = between-append xs (repeat n xs) lo hi h (between-repeat n xs lo hi h)

between-wider : (xs : List ℕ) (lo hi a z : ℕ) → a ≤ lo → hi ≤ z → Between xs lo hi → Between xs a z
between-wider xs lo hi a z low high h x lt = let b = h x lt in (omega (arith, low, b.0), omega (arith, high, b.1))

range-at : (a n x : ℕ) → x < n → get_or (range_with_len a n) x 0 ≡ a + x
range-at a zero x lt = absurd (omega (arith, lt))
range-at a (suc n) zero lt = omega arith
range-at a (suc n) (suc x) lt = range-at (a + 1) n x (omega (arith, lt)) ∙ omega arith

range-between : (a n : ℕ) → Between (range_with_len a n) a (a + n)
range-between a n x lt =
    let small : x < n = omega (arith, lt, length-range_with_len a n) in
    (omega (arith, range-at a n x small), omega (arith, small, range-at a n x small))

range-runs : (a n : ℕ) → Runs (range_with_len a n) a (a + n)
range-runs a n x j lt low high =
    let small : x < n = omega (arith, lt, length-range_with_len a n) in
    let at_x = range-at a n x small in
    let fits : x + j < n = omega (arith, at_x, high) in
    record { there = omega (arith, fits, length-range_with_len a n); is = range-at a n (x + j) fits ∙ (let e : a + (x + j) ≡ get_or (range_with_len a n) x 0 + j = omega (arith, at_x) in e) }

-- nothing of the interval is there
runs-below : (xs : List ℕ) (lo hi a z : ℕ) → Between xs lo hi → hi ≤ a → Runs xs a z
runs-below xs lo hi a z h apart x j lt low high = absurd (omega (arith, (h x lt).1, apart, low))

runs-above : (xs : List ℕ) (lo hi a z : ℕ) → Between xs lo hi → z ≤ lo → Runs xs a z
runs-above xs lo hi a z h apart x j lt low high = absurd (omega (arith, (h x lt).0, apart, high))

-- ---- blocks

length-head : (wide : Bool) (times count : ℕ) → length (head_bytes wide times count) ≡ width wide + 2
length-head wide times count =
    length-append (little_bytes (width wide) times) (little_bytes 2 count)
    ∙ (let e : length (little_bytes (width wide) times) + 2 ≡ width wide + 2 = omega (arith, length-little_bytes (width wide) times) in e)

bytes_long : (wide : Bool) (times : ℕ) (content : List ℕ) (rest : Blocks) → length (block_bytes wide (bytes times content rest)) ≡ width wide + 3 + length content + length (block_bytes wide rest)
bytes_long wide times content rest =
    let a = length-append (head_bytes wide times 0 ++ length content ∷ content) (block_bytes wide rest) in
    let b = length-append (head_bytes wide times 0) (length content ∷ content) in
    omega (arith, a, b, length-head wide times 0)

nested_long : (wide : Bool) (times : ℕ) (inner rest : Blocks) → length (block_bytes wide (nested times inner rest)) ≡ width wide + 2 + length (block_bytes wide inner) + length (block_bytes wide rest)
nested_long wide times inner rest =
    let a = length-append (head_bytes wide times (count_of inner) ++ block_bytes wide inner) (block_bytes wide rest) in
    let b = length-append (head_bytes wide times (count_of inner)) (block_bytes wide inner) in
    omega (arith, a, b, length-head wide times (count_of inner))

origins-between : (wide : Bool) (at : ℕ) (b : Blocks) → Between (origins wide at b) at (at + length (block_bytes wide b))
origins-between wide at none = λ x lt. absurd (omega (arith, lt))
origins-between wide at (bytes times content rest) =
    let first : ℕ = at + width wide + 3 in
    let long = bytes_long wide times content rest in
    between-append (repeat times (range_with_len first (length content))) (origins wide (first + length content) rest) at (at + length (block_bytes wide (bytes times content rest)))
    (between-wider _ first (first + length content) at _ (omega arith)
    (omega (arith, long)) (between-repeat times (range_with_len first (length content)) first (first + length content) (range-between first (length content))))
    (between-wider _ (first + length content) (first + length content + length (block_bytes wide rest)) at _ (omega arith) (omega (arith, long)) (origins-between wide (first + length content) rest))
origins-between wide at (nested times inner rest) =
    let first : ℕ = at + width wide + 2 in
    let past : ℕ = first + length (block_bytes wide inner) in
    let long = nested_long wide times inner rest in
    between-append (repeat times (origins wide first inner)) (origins wide past rest) at (at + length (block_bytes wide (nested times inner rest)))
    (between-wider _ first past at _ (omega arith) (omega (arith, long)) (between-repeat times (origins wide first inner) first past (origins-between wide first inner)))
    (between-wider _ past (past + length (block_bytes wide rest)) at _ (omega arith) (omega (arith, long)) (origins-between wide past rest))

-- every innermost block's bytes lie where the blocks lie
abbrev Inside : ℕ → ℕ → ℕ × ℕ → Type 0
Inside lo hi c = (lo ≤ c.0) × (c.1 ≤ hi)

all-map : {A : Type 0} (P Q : A → Type 0) (xs : List A) → ((x : A) → P x → Q x) → AllByRecursion P xs → AllByRecursion Q xs
all-map P Q [] h a = tt
all-map P Q (x ∷ xs) h a = (h x a.0, all-map P Q xs h a.1)

contents-inside : (wide : Bool) (at : ℕ) (b : Blocks) → AllByRecursion (Inside at (at + length (block_bytes wide b))) (contents wide at b)
contents-inside wide at none = tt
contents-inside wide at (bytes times content rest) =
    let first : ℕ = at + width wide + 3 in
    let past : ℕ = first + length content in
    let long = bytes_long wide times content rest in (
      (omega arith, omega (arith, long)),
      all-map (Inside past (past + length (block_bytes wide rest))) (Inside at (at + length (block_bytes wide (bytes times content rest)))) (contents wide past rest)
          (λ c h. (omega (arith, h.0), omega (arith, long, h.1))) (contents-inside wide past rest),
    )
contents-inside wide at (nested times inner rest) =
    let first : ℕ = at + width wide + 2 in
    let past : ℕ = first + length (block_bytes wide inner) in
    let long = nested_long wide times inner rest in
    all_joined (Inside at (at + length (block_bytes wide (nested times inner rest)))) (contents wide first inner) (contents wide past rest)
    (all-map (Inside first past) (Inside at (at + length (block_bytes wide (nested times inner rest))))
    (contents wide first inner) (λ c h. (omega (arith, h.0), omega (arith, long, h.1))) (contents-inside wide first inner))
    (all-map (Inside past (past + length (block_bytes wide rest))) (Inside at (at + length (block_bytes wide (nested times inner rest))))
    (contents wide past rest) (λ c h. (omega (arith, h.0), omega (arith, long, h.1))) (contents-inside wide past rest))

all-both : {A : Type 0} (P Q : A → Type 0) (xs : List A) → AllByRecursion P xs → AllByRecursion Q xs → AllByRecursion (λ x. P x × Q x) xs
all-both P Q [] a b = tt
all-both P Q (x ∷ xs) a b = ((a.0, b.0), all-both P Q xs a.1 b.1)

abbrev RunsOf : List ℕ → ℕ × ℕ → Type 0
RunsOf xs c = Runs xs c.0 c.1

-- What follows a byte in an innermost block follows each of its copies.
pub origins-run : (wide : Bool) (at : ℕ) (b : Blocks) → AllByRecursion (RunsOf (origins wide at b)) (contents wide at b)
origins-run wide at none = tt
origins-run wide at (bytes times content rest) =
    let first : ℕ = at + width wide + 3 in
    let past : ℕ = first + length content in
    let own : List ℕ = repeat times (range_with_len first (length content)) in
    let later : List ℕ = origins wide past rest in
    let own_between = between-repeat times (range_with_len first (length content)) first past (range-between first (length content)) in
    let later_between = origins-between wide past rest in (
      runs-append own later first past (runs-repeat times (range_with_len first (length content)) first past (range-runs first (length content)))
          (runs-above later past (past + length (block_bytes wide rest)) first past later_between (omega arith)),
      all-map (λ c. RunsOf later c × Inside past (past + length (block_bytes wide rest)) c) (RunsOf (own ++ later)) (contents wide past rest)
          (λ c h. runs-append own later c.0 c.1 (runs-below own first past c.0 c.1 own_between h.1.0) h.0)
          (all-both (RunsOf later) (Inside past (past + length (block_bytes wide rest))) (contents wide past rest) (origins-run wide past rest) (contents-inside wide past rest)),
    )
origins-run wide at (nested times inner rest) =
    let first : ℕ = at + width wide + 2 in
    let past : ℕ = first + length (block_bytes wide inner) in
    let own : List ℕ = repeat times (origins wide first inner) in
    let later : List ℕ = origins wide past rest in
    let own_between = between-repeat times (origins wide first inner) first past (origins-between wide first inner) in
    let later_between = origins-between wide past rest in
    all_joined (RunsOf (own ++ later)) (contents wide first inner) (contents wide past rest)
    (all-map (λ c. RunsOf (origins wide first inner) c × Inside first past c) (RunsOf (own ++ later)) (contents wide first inner)
    (λ c h. runs-append own later c.0 c.1 (runs-repeat times (origins wide first inner) c.0 c.1 h.0) (runs-above later past (past + length (block_bytes wide rest)) c.0 c.1 later_between h.1.1))
    (all-both (RunsOf (origins wide first inner)) (Inside first past) (contents wide first inner) (origins-run wide first inner) (contents-inside wide first inner)))
    (all-map (λ c. RunsOf later c × Inside past (past + length (block_bytes wide rest)) c) (RunsOf (own ++ later)) (contents wide past rest)
    (λ c h. runs-append own later c.0 c.1 (runs-below own first past c.0 c.1 own_between h.1.0) h.0)
    (all-both (RunsOf later) (Inside past (past + length (block_bytes wide rest))) (contents wide past rest) (origins-run wide past rest) (contents-inside wide past rest)))

-- ---- lengths

pub length-repeat : (n : ℕ) (xs : List ℕ) → length (repeat n xs) ≡ n * length xs
length-repeat zero xs = omega arith
length-repeat (suc n) xs = length-append xs (repeat n xs) ∙ (let e : length xs + length (repeat n xs) ≡ n * length xs + length xs = omega (arith, length-repeat n xs) in e) ∙ sym (suc-mul n (length xs))

pub length-expanded : (b : Blocks) → length (expanded b) ≡ expanded_len b
length-expanded none = refl
length-expanded (bytes times content rest) = length-append (repeat times content) (expanded rest) ∙ (λ i. length-repeat times content i + length-expanded rest i)
length-expanded (nested times inner rest) =
    length-append (repeat times (expanded inner)) (expanded rest)
    ∙ (λ i. (length-repeat times (expanded inner) ∙ ap (λ (n : ℕ). times * n) (length-expanded inner)) i + length-expanded rest i)

pub length-origins : (wide : Bool) (at : ℕ) (b : Blocks) → length (origins wide at b) ≡ expanded_len b
length-origins wide at none = refl
length-origins wide at (bytes times content rest) =
    length-append (repeat times (range_with_len (at + width wide + 3) (length content))) (origins wide (at + width wide + 3 + length content) rest)
    ∙ (λ i. (length-repeat times (range_with_len (at + width wide + 3) (length content)) ∙ ap (λ (n : ℕ). times * n)
    (length-range_with_len (at + width wide + 3) (length content))) i + length-origins wide (at + width wide + 3 + length content) rest i)
length-origins wide at (nested times inner rest) =
    length-append (repeat times (origins wide (at + width wide + 2) inner)) (origins wide (at + width wide + 2 + length (block_bytes wide inner)) rest)
    ∙ (λ i. (length-repeat times (origins wide (at + width wide + 2) inner) ∙ ap (λ (n : ℕ). times * n) (length-origins wide (at + width wide + 2) inner)) i
    + length-origins wide (at + width wide + 2 + length (block_bytes wide inner)) rest i)
