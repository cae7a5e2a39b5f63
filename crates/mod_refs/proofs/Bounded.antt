-- How long a list of modules is, by how often each is in it.
use Rattle.std.proofs.Common.{◌≡◌, ℕ, zero, suc, ◌+◌, ◌*◌, ◌<◌, ◌≤◌, ◌==◌, Bool, true, false, not, cond, inl, inr, List, [], ◌∷◌, ◌++◌, ◌||◌, length, get_or, Option, Some, None, option_to_list, refl, sym, ◌∙◌, ap, arith}
use Rattle.std.specs.Prelude.{All, filter, count_by}
use Rattle.std.specs.List.{list_any}
use Rattle.std.proofs.lemmas.Bool.{cases_eq, cases_lt, eq-eqb}
use Rattle.std.proofs.lemmas.List.{get_or_past}
use Rattle.std.proofs.lemmas.List.Elements.{All-head, All-filter, filter_passes}
use Rattle.std.proofs.lemmas.List.Sums.{count_by-le-length}
use Rattle.std.proofs.Math.Bool.{or-true}
use Rattle.load_model.specs.Modules.{order_of}
use Rattle.load_model.specs.State.{is_among, roots}
use Rattle.mod_refs.specs.Counts.{one_if}
use Rattle.mod_refs.specs.CountLaws.{CountsHaveRoom, HeldIsCounted}
use Rattle.mod_refs.proofs.CountLaws.{count_cons, without_count}

-- ---- what is held is counted

among_own : (xs : List ℕ) (x i d : ℕ) → i < length xs → x ≡ get_or xs i d → is_among xs x ≡ true
among_own [] x i d h e = absurd (omega (arith, h))
among_own (y ∷ ys) x zero d h e = ap (λ b. b || list_any (λ other. other == x) ys) (eq-eqb y x (sym e))
among_own (y ∷ ys) x (suc j) d h e = ap (λ b. (y == x) || b) (among_own ys x j d (omega (arith, h)) e) ∙ or-true (y == x)

roots_count : (f : ℕ → Bool) (s : Option ℕ) (xs : List ℕ) → count_by f xs ≤ count_by f (option_to_list s ++ xs)
roots_count f None xs = omega arith
roots_count f (Some r) xs = (let e = count_cons f r xs in omega (arith, e))

pub held_is_counted : HeldIsCounted
held_is_counted lib p counts m is some within = λ i d h.
    let below : get_or (order_of lib m) i d < length lib = within i d h in
    let here : m < length counts.loads = elim (cases_lt m (length counts.loads)) [
      | inl h ↦ h
      | inr past ↦ (let none = get_or_past counts.loads m 0 past in absurd (omega (arith, none, some)))
    ]
    in
    let held = is.loads m (omega (arith, here, is.loads_are)) in
    let holds : 0 < count_by (λ other. other == m) p.loads = omega (arith, held, some) in
    let less = without_count (λ root. is_among (order_of lib root) (get_or (order_of lib m) i d)) m p.loads holds in
    let one : one_if (is_among (order_of lib m) (get_or (order_of lib m) i d)) ≡ 1 = ap one_if (among_own (order_of lib m) (get_or (order_of lib m) i d) i d h refl) in
    let all = roots_count (λ root. is_among (order_of lib root) (get_or (order_of lib m) i d)) p.started p.loads in
    omega (arith, is.reached (get_or (order_of lib m) i d) below, less, one, all)

-- ---- how many loads there are

count_split : (n : ℕ) (xs : List ℕ) → length xs ≡ count_by (λ x. x == n) xs + length (filter (λ x. not (x == n)) xs)
count_split n [] = omega arith
count_split n (x ∷ xs) = (let e = count_cons (λ y. y == n) x xs in
    let rest = count_split n xs in
    by_test (x == n) e rest)
  where
    by_test : (b : Bool) → count_by (λ y. y == n) (x ∷ xs) ≡ one_if b + count_by (λ y. y == n) xs →
        length xs ≡ count_by (λ y. y == n) xs + length (filter (λ y. not (y == n)) xs) →
        suc (length xs) ≡ count_by (λ y. y == n) (x ∷ xs) + length (cond (not b) (x ∷ filter (λ y. not (y == n)) xs) (filter (λ y. not (y == n)) xs))
    by_test true e rest = omega (arith, e, rest)
    by_test false e rest = omega (arith, e, rest)

count_filter : (f g : ℕ → Bool) (xs : List ℕ) → count_by f (filter g xs) ≤ count_by f xs
count_filter f g [] = omega arith
count_filter f g (x ∷ xs) = (let e = count_cons f x xs in let rest = count_filter f g xs in by_test (g x) e rest)
  where
    by_test : (b : Bool) → count_by f (x ∷ xs) ≡ one_if (f x) + count_by f xs → count_by f (filter g xs) ≤ count_by f xs →
        count_by f (cond b (x ∷ filter g xs) (filter g xs)) ≤ count_by f (x ∷ xs)
    by_test true e rest = (let d = count_cons f x (filter g xs) in omega (arith, d, e, rest))
    by_test false e rest = omega (arith, e, rest)

length_by_counts : (n c : ℕ) (xs : List ℕ) → All (λ x. x < n) xs → ((m : ℕ) → m < n → count_by (λ x. x == m) xs ≤ c) → length xs ≤ n * c
length_by_counts zero c [] within few = omega arith
length_by_counts zero c (x ∷ xs) within few = (let none = All-head (λ y. y < 0) x xs within in absurd (omega (arith, none)))
length_by_counts (suc n) c xs within few =
    let rest = filter (λ x. not (x == n)) xs in
    let split = count_split n xs in
    let here = few n (omega arith) in
    let below : All (λ x. x < n) (filter (λ x. not (x == n)) xs) =
    λ i d h. lower (get_or (filter (λ x. not (x == n)) xs) i d) (All-filter (λ x. not (x == n)) (λ x. x < suc n) xs within i d h) (filter_passes (λ x. not (x == n)) xs i d h)
    in
    let others = length_by_counts n c (filter (λ x. not (x == n)) xs) below
    (λ m h. (let part = count_filter (λ x. x == m) (λ x. not (x == n)) xs in let whole = few m (omega (arith, h)) in omega (arith, part, whole)))
    in
    let product : suc n * c ≡ c + n * c = omega arith in
    omega (arith, split, here, others, product)
  where
    lower : (x : ℕ) → x < suc n → not (x == n) ≡ true → x < n
    lower x h passes = elim (cases_eq x n) [
      | inl same ↦ (let wrong : false ≡ true = sym (ap not (eq-eqb x n same)) ∙ passes in cc)
      | inr other ↦ elim (cases_lt x n) [
        | inl below ↦ below
        | inr past ↦ (let same : x ≡ n = omega (arith, h, past) in absurd (other same))
      ]
    ]

pub counts_have_room : CountsHaveRoom
counts_have_room lib p counts is few within small k = elim (cases_lt k (length counts.reached)) [
  | inl there ↦
      let below : k < length lib = omega (arith, there, is.reached_are) in
      let loads = length_by_counts (length lib) 65535 p.loads within
      (λ m h. (let held = is.loads m h in let low = small m 0 (omega (arith, h, is.loads_are)) in omega (arith, held, low)))
      in
      let all = count_by-le-length (λ root. is_among (order_of lib root) k) (roots p) in
      let long = roots_long p.started in
      let most = most_loads (length lib) few in
      omega (arith, is.reached k below, loads, all, long, most)
  | inr past ↦ (let none = get_or_past counts.reached k 0 past in omega (arith, none))
]
  where
    roots_long : (s : Option ℕ) → length (option_to_list s ++ p.loads) ≤ 1 + length p.loads
    roots_long None = omega arith
    roots_long (Some r) = omega arith

    most_loads : (n : ℕ) → n ≤ 64 → n * 65535 ≤ 4194240
    most_loads n h = omega (arith, h)
