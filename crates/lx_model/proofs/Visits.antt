-- What a visit adds: the order of a module holds exactly what the module reaches.
use Rattle.std.proofs.Common.{◌≡◌, ℕ, zero, suc, ◌+◌, ◌<◌, ◌≤◌, Bool, true, false, cond, eqb, ◌||◌, List, [], ◌∷◌, ◌++◌, length, refl, sym, subst, arith, ◌⊎◌, inl, inr}
use Rattle.std.specs.Prelude.{Contains, fold}
use Rattle.std.proofs.lemmas.List.{get_or_past}
use Rattle.std.proofs.lemmas.Bool.{cases_lt}
use Rattle.std.proofs.lemmas.Bool.Decides.{nat_tests}
use Rattle.lx_types.specs.declared.parts.Parts.{Parts}
use Rattle.lx_model.specs.Library.{no_module}
use Rattle.lx_model.specs.Reach.{imports_of, Reach, itself, further, Visits, is_among, visit, Order}

-- ---- membership, by recursion

abbrev pub In : ℕ → List ℕ → Type 0
In x [] = ⊥
In x (y ∷ ys) = (x ≡ y) ⊎ In x ys

pub In-front : (x : ℕ) (ys zs : List ℕ) → In x ys → In x (ys ++ zs)
In-front x [] zs h = absurd h
In-front x (y ∷ ys) zs (inl e) = inl e
In-front x (y ∷ ys) zs (inr h) = inr (In-front x ys zs h)

In-back : (x : ℕ) (ys zs : List ℕ) → In x zs → In x (ys ++ zs)
In-back x [] zs h = h
In-back x (y ∷ ys) zs h = inr (In-back x ys zs h)

pub In-split : (x : ℕ) (ys zs : List ℕ) → In x (ys ++ zs) → In x ys ⊎ In x zs
In-split x [] zs h = inr h
In-split x (y ∷ ys) zs (inl e) = inl (inl e)
In-split x (y ∷ ys) zs (inr h) = elim (In-split x ys zs h) [ inl a ↦ inl (inr a) | inr b ↦ inr b ]

among_head : (x y : ℕ) (rest : Bool) → (eqb y x || rest) ≡ true → (x ≡ y) ⊎ (rest ≡ true)
among_head x y rest h = grind (arith, nat_tests)

pub In-among : (x : ℕ) (ys : List ℕ) → is_among ys x ≡ true → In x ys
In-among x [] h = absurd cc
In-among x (y ∷ ys) h = elim (among_head x y (is_among ys x) h) [ inl e ↦ inl e | inr r ↦ inr (In-among x ys r) ]

not_among_head : (x y : ℕ) (rest : Bool) → (eqb y x || rest) ≡ false → (x ≡ y → ⊥) × (rest ≡ false)
not_among_head x y rest h = (λ e. apart x y rest h e, grind (arith, nat_tests))
  where
    apart : (a b : ℕ) (r : Bool) → (eqb b a || r) ≡ false → a ≡ b → ⊥
    apart a b r h' e = grind (arith, nat_tests)

pub not_among : (x : ℕ) (ys : List ℕ) → is_among ys x ≡ false → In x ys → ⊥
not_among x [] h i = i
not_among x (y ∷ ys) h (inl e) = (not_among_head x y (is_among ys x) h).0 e
not_among x (y ∷ ys) h (inr i) = not_among x ys (not_among_head x y (is_among ys x) h).1 i

pub among : (x : ℕ) (ys : List ℕ) → In x ys → is_among ys x ≡ true
among x ys i = by_test (is_among ys x) refl
  where
    by_test : (b : Bool) → is_among ys x ≡ b → is_among ys x ≡ true
    by_test true e = e
    by_test false e = absurd (not_among x ys e i)

-- ---- reach

Reach-then : {lib : List Parts} {m a b : ℕ} → Reach lib m a → Reach lib a b → Reach lib m b
Reach-then p itself = p
Reach-then p (further q i) = further (Reach-then p q) i

pub Contains-In : (xs : List ℕ) (x : ℕ) → Contains xs x → In x xs
Contains-In [] x (k, lt, e) = absurd (omega arith)
Contains-In (y ∷ ys) x (zero, lt, e) = inl (sym e)
Contains-In (y ∷ ys) x (suc k, lt, e) = inr (Contains-In ys x (k, omega arith, e))

pub In-Contains : (xs : List ℕ) (x : ℕ) → In x xs → Contains xs x
In-Contains [] x h = absurd h
In-Contains (y ∷ ys) x (inl e) = (0, omega arith, sym e)
In-Contains (y ∷ ys) x (inr h) = let rest = In-Contains ys x h in (suc rest.0, omega arith, rest.2)

-- ---- how many modules of a library are not visited

abbrev pub left_out : Bool → ℕ
left_out true = 0
left_out false = 1

abbrev pub unseen : ℕ → List ℕ → ℕ
unseen zero visited = 0
unseen (suc k) visited = left_out (is_among visited k) + unseen k visited

unseen-below : (k : ℕ) (visited : List ℕ) → unseen k visited ≤ k
unseen-below zero visited = omega arith
unseen-below (suc k) visited = let rest = unseen-below k visited in by_test (is_among visited k) rest
  where
    by_test : (b : Bool) → unseen k visited ≤ k → left_out b + unseen k visited ≤ suc k
    by_test true h = omega arith
    by_test false h = omega arith

Within : List ℕ → List ℕ → Type 0
Within xs ys = (x : ℕ) → In x xs → In x ys

left_out-mono : (v w : List ℕ) (k : ℕ) → Within v w → left_out (is_among w k) ≤ left_out (is_among v k)
unfolding Within
left_out-mono v w k h = by_test (is_among v k) (is_among w k) refl refl
  where
    by_test : (a b : Bool) → is_among v k ≡ a → is_among w k ≡ b → left_out b ≤ left_out a
    by_test true true p q = omega arith
    by_test true false p q = absurd (not_among k w q (h k (In-among k v p)))
    by_test false true p q = omega arith
    by_test false false p q = omega arith

unseen-mono : (k : ℕ) (v w : List ℕ) → Within v w → unseen k w ≤ unseen k v
unseen-mono zero v w h = omega arith
unseen-mono (suc k) v w h = let rest = unseen-mono k v w h in let here = left_out-mono v w k h in omega arith

within_cons : (m : ℕ) (v : List ℕ) → Within v (m ∷ v)
unfolding Within
within_cons m v x h = inr h

-- a module that was not visited leaves one fewer
unseen-falls : (k m : ℕ) (v : List ℕ) → m < k → is_among v m ≡ false → unseen k (m ∷ v) + 1 ≤ unseen k v
unseen-falls zero m v lt out = absurd (omega arith)
unseen-falls (suc k) m v lt out = elim (cases_lt m k) [
  | inl below ↦
      let rest = unseen-falls k m v below out in
      let here = left_out-mono v (m ∷ v) k (within_cons m v) in
      omega arith
  | inr ge ↦
      let same : m ≡ k = omega arith in
      let seen : is_among (m ∷ v) k ≡ true = among k (m ∷ v) (inl (sym same)) in
      let unseen_before : is_among v k ≡ false = subst (λ (j : ℕ). is_among v j ≡ false) same out in
      let rest = unseen-mono k v (m ∷ v) (within_cons m v) in
      rw (seen, unseen_before) (omega arith)
]

-- ---- what visits add

-- one of these modules reaches x
abbrev pub ReachedFrom : List Parts → List ℕ → ℕ → Type 0
ReachedFrom lib from x = (m : ℕ) × In m from × Reach lib m x

-- what is so of a module that was visited meanwhile: it is in the order, one of these modules reaches it,
-- and its imports were visited
pub record Added (lib : List Parts) (from : List ℕ) (after : Visits) (x : ℕ) : Type 0 where
  pub ordered : In x after.order
  pub reached : ReachedFrom lib from x
  pub closed : (y : ℕ) → In y (imports_of lib x) → In y after.visited

-- visits to these modules, one after the other
pub record Visited (lib : List Parts) (from : List ℕ) (before after : Visits) : Type 0 where
  pub keeps : (x : ℕ) → In x before.visited → In x after.visited
  pub orders : (x : ℕ) → In x before.order → In x after.order
  pub starts : (x : ℕ) → In x from → In x after.visited
  pub added : (x : ℕ) → In x after.visited → In x before.visited ⊎ Added lib from after x
  pub in_order : (x : ℕ) → In x after.order → In x before.order ⊎ ReachedFrom lib from x

reached_first : (lib : List Parts) (m : ℕ) (ms : List ℕ) (x : ℕ) → ReachedFrom lib (m ∷ []) x → ReachedFrom lib (m ∷ ms) x
reached_first lib m ms x (n, inl e, r) = (n, inl e, r)
reached_first lib m ms x (n, inr h, r) = absurd h

reached_later : (lib : List Parts) (m : ℕ) (ms : List ℕ) (x : ℕ) → ReachedFrom lib ms x → ReachedFrom lib (m ∷ ms) x
reached_later lib m ms x (n, h, r) = (n, inr h, r)

Visited-none : (lib : List Parts) (before : Visits) → Visited lib [] before before
Visited-none lib before = record {
  keeps = λ x h. h;
  orders = λ x h. h;
  starts = λ x h. absurd h;
  added = λ x h. inl h;
  in_order = λ x h. inl h;
}

added_earlier : (lib : List Parts) (m : ℕ) (ms : List ℕ) (middle after : Visits) (x : ℕ) → Visited lib ms middle after → Added lib (m ∷ []) middle x → Added lib (m ∷ ms) after x
added_earlier lib m ms middle after x second a = record {
  ordered = second.orders x a.ordered;
  reached = reached_first lib m ms x a.reached;
  closed = λ y h. second.keeps y (a.closed y h);
}

added_later : (lib : List Parts) (m : ℕ) (ms : List ℕ) (after : Visits) (x : ℕ) → Added lib ms after x → Added lib (m ∷ ms) after x
added_later lib m ms after x a = record { ordered = a.ordered; reached = reached_later lib m ms x a.reached; closed = a.closed }

-- a visit and then the others
Visited-then : (lib : List Parts) (m : ℕ) (ms : List ℕ) (before middle after : Visits) → Visited lib (m ∷ []) before middle → Visited lib ms middle after → Visited lib (m ∷ ms) before after
Visited-then lib m ms before middle after first second = record {
  keeps = λ x h. second.keeps x (first.keeps x h);
  orders = λ x h. second.orders x (first.orders x h);
  starts = λ x h. elim h [ inl e ↦ second.keeps x (first.starts x (inl e)) | inr later ↦ second.starts x later ];
  added = λ x h. elim (second.added x h) [
    | inl seen ↦ elim (first.added x seen) [ inl old ↦ inl old | inr a ↦ inr (added_earlier lib m ms middle after x second a) ]
    | inr a ↦ inr (added_later lib m ms after x a)
  ];
  in_order = λ x h. elim (second.in_order x h) [
    | inl seen ↦ elim (first.in_order x seen) [ inl old ↦ inl old | inr r ↦ inr (reached_first lib m ms x r) ]
    | inr r ↦ inr (reached_later lib m ms x r)
  ];
}

-- ---- one visit

abbrev pub marked : Visits → ℕ → Visits
marked before m = record { visited = m ∷ before.visited; order = before.order }

abbrev pub closing : Visits → ℕ → Visits
closing after m = record { visited = after.visited; order = after.order ++ m ∷ [] }

-- a module that was visited before
Visited-seen : (lib : List Parts) (m : ℕ) (before : Visits) → In m before.visited → Visited lib (m ∷ []) before before
Visited-seen lib m before seen = record {
  keeps = λ x h. h;
  orders = λ x h. h;
  starts = λ x h. elim h [ inl e ↦ subst (λ (y : ℕ). In y before.visited) (sym e) seen | inr none ↦ absurd none ];
  added = λ x h. inl h;
  in_order = λ x h. inl h;
}

reached_through : (lib : List Parts) (m x : ℕ) → ReachedFrom lib (imports_of lib m) x → ReachedFrom lib (m ∷ []) x
reached_through lib m x (n, h, r) = (m, inl refl, Reach-then (further itself (In-Contains (imports_of lib m) n h)) r)

added_through : (lib : List Parts) (m x : ℕ) (after : Visits) → Added lib (imports_of lib m) after x → Added lib (m ∷ []) (closing after m) x
added_through lib m x after a = record { ordered = In-front x after.order (m ∷ []) a.ordered; reached = reached_through lib m x a.reached; closed = a.closed }

-- the module itself, once its imports were visited
added_itself : (lib : List Parts) (m x : ℕ) (before after : Visits) → Visited lib (imports_of lib m) (marked before m) after → x ≡ m → Added lib (m ∷ []) (closing after m) x
added_itself lib m x before after others e = subst (λ (y : ℕ). Added lib (m ∷ []) (closing after m) y) (sym e) (record {
  ordered = In-back m after.order (m ∷ []) (inl refl);
  reached = (m, inl refl, itself);
  closed = λ y h. others.starts y h;
})

Visited-new : (lib : List Parts) (m : ℕ) (before after : Visits) → Visited lib (imports_of lib m) (marked before m) after → Visited lib (m ∷ []) before (closing after m)
Visited-new lib m before after others = record {
  keeps = λ x h. others.keeps x (inr h);
  orders = λ x h. In-front x after.order (m ∷ []) (others.orders x h);
  starts = λ x h. elim h [ inl e ↦ others.keeps x (inl e) | inr none ↦ absurd none ];
  added = λ x h. elim (others.added x h) [
    | inl seen ↦ elim seen [ inl e ↦ inr (added_itself lib m x before after others e) | inr old ↦ inl old ]
    | inr a ↦ inr (added_through lib m x after a)
  ];
  in_order = λ x h. elim (In-split x after.order (m ∷ []) h) [
    | inl old ↦ elim (others.in_order x old) [ inl seen ↦ inl seen | inr r ↦ inr (reached_through lib m x r) ]
    | inr here ↦ elim here [ inl e ↦ inr (m, inl refl, subst (λ (y : ℕ). Reach lib m y) (sym e) itself) | inr none ↦ absurd none ]
  ];
}

-- ---- all visits

-- a module that no library has imports nothing
no_imports : (lib : List Parts) (m : ℕ) → length lib ≤ m → imports_of lib m ≡ []
no_imports lib m past = rw (get_or_past lib m no_module past) refl

abbrev pub Enough : ℕ → List Parts → Visits → Type 0
Enough n lib before = unseen (length lib) before.visited < n

enough_still : (n : ℕ) (lib : List Parts) (before after : Visits) → ((x : ℕ) → In x before.visited → In x after.visited) → Enough n lib before → Enough n lib after
unfolding Within
enough_still n lib before after keeps enough = let fewer = unseen-mono (length lib) before.visited after.visited keeps in omega arith

abbrev pub Visits-are : ℕ → List Parts → Type 0
Visits-are n lib = (before : Visits) (m : ℕ) → Enough n lib before → Visited lib (m ∷ []) before (visit n lib before m)

visits_are : (n : ℕ) (lib : List Parts) → Visits-are n lib → (ms : List ℕ) (before : Visits) → Enough n lib before → Visited lib ms before (fold (visit n lib) before ms)
visits_are n lib one [] before enough = Visited-none lib before
visits_are n lib one (m ∷ ms) before enough =
    let middle = visit n lib before m in
    let first = one before m enough in
    let second = visits_are n lib one ms middle (enough_still n lib before middle first.keeps enough) in
    Visited-then lib m ms before middle (fold (visit n lib) middle ms) first second

visit_new : (n : ℕ) (lib : List Parts) → Visits-are n lib → (before : Visits) (m : ℕ) → Enough (suc n) lib before → is_among before.visited m ≡ false →
    Visited lib (imports_of lib m) (marked before m) (fold (visit n lib) (marked before m) (imports_of lib m))
visit_new n lib one before m enough out = elim (cases_lt m (length lib)) [
  | inl below ↦ let falls = unseen-falls (length lib) m before.visited below out in visits_are n lib one (imports_of lib m) (marked before m) (omega arith)
  | inr past ↦ subst (λ (ms : List ℕ). Visited lib ms (marked before m) (fold (visit n lib) (marked before m) ms)) (sym (no_imports lib m past)) (Visited-none lib (marked before m))
]

visit_by : (n : ℕ) (lib : List Parts) → Visits-are n lib → (before : Visits) (m : ℕ) → Enough (suc n) lib before → (seen : Bool) → is_among before.visited m ≡ seen →
    Visited lib (m ∷ []) before (cond seen before (closing (fold (visit n lib) (marked before m) (imports_of lib m)) m))
visit_by n lib one before m enough true seen = Visited-seen lib m before (In-among m before.visited seen)
visit_by n lib one before m enough false out = Visited-new lib m before (fold (visit n lib) (marked before m) (imports_of lib m)) (visit_new n lib one before m enough out)

visit_is : (n : ℕ) (lib : List Parts) → Visits-are n lib
unfolding visit
visit_is zero lib before m enough = absurd (omega arith)
visit_is (suc n) lib before m enough = visit_by n lib (visit_is n lib) before m enough (is_among before.visited m) refl

-- ---- the order

abbrev pub nothing : Visits
nothing = record { visited = []; order = [] }

all_visits : (lib : List Parts) (m : ℕ) → Visited lib (m ∷ []) nothing (visit (suc (length lib)) lib nothing m)
all_visits lib m = let few = unseen-below (length lib) [] in visit_is (suc (length lib)) lib nothing m (omega arith)

-- what the order has is reached
pub order_is_reached : (lib : List Parts) (m x : ℕ) → Contains (Order lib m) x → Reach lib m x
unfolding Order
order_is_reached lib m x h = elim ((all_visits lib m).in_order x (Contains-In (Order lib m) x h)) [
  | inl none ↦ absurd none
  | inr r ↦ from_one r
]
  where
    from_one : ReachedFrom lib (m ∷ []) x → Reach lib m x
    from_one (n, inl e, r) = subst (λ (y : ℕ). Reach lib y x) e r
    from_one (n, inr none, r) = absurd none

added_of : (lib : List Parts) (m x : ℕ) → In x (visit (suc (length lib)) lib nothing m).visited → Added lib (m ∷ []) (visit (suc (length lib)) lib nothing m) x
added_of lib m x h = elim ((all_visits lib m).added x h) [ inl none ↦ absurd none | inr a ↦ a ]

reached_is_visited : (lib : List Parts) (m x : ℕ) → Reach lib m x → In x (visit (suc (length lib)) lib nothing m).visited
reached_is_visited lib m x itself = (all_visits lib m).starts m (inl refl)
reached_is_visited lib m x (further {a} {b} r i) = (added_of lib m a (reached_is_visited lib m a r)).closed x (Contains-In (imports_of lib a) x i)

-- what is reached is in the order
pub reached_is_ordered : (lib : List Parts) (m x : ℕ) → Reach lib m x → Contains (Order lib m) x
unfolding Order
reached_is_ordered lib m x r = In-Contains (Order lib m) x (added_of lib m x (reached_is_visited lib m x r)).ordered
