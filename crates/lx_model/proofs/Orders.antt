-- The order of a module: each once, within the library, closed under imports, the module last.
use Rattle.std.proofs.Common.{◌≡◌, ℕ, zero, suc, ◌<◌, Bool, true, false, cond, ◌&&◌, List, [], ◌∷◌, ◌++◌, length, get_or, Option, Some, None, refl, sym, subst, arith, ◌⊎◌, inl, inr}
use Rattle.std.specs.Prelude.{AllPairs, fold, filter_map}
use Rattle.std.proofs.lemmas.List.Quantifiers.{position-Some}
use Rattle.lx_types.specs.declared.parts.Parts.{Parts}
use Rattle.lx_types.specs.Parts.{is_library_of}
use Rattle.lx_model.specs.Library.{no_module, has_name, library_named, module_of}
use Rattle.lx_model.specs.Laws.{OrderHasEachOnce, OrderIsInLibrary, OrderIsClosed, OrderEndsWithItself}
use Rattle.lx_model.specs.Reach.{imports_of, Reach, itself, further, Visits, is_among, visit, Order}
use Rattle.lx_model.proofs.Visits.{In, In-split, not_among, Contains-In, nothing, order_is_reached, reached_is_ordered}

pub order_is_closed : OrderIsClosed
order_is_closed lib m a b h i = reached_is_ordered lib m b (further (order_is_reached lib m a h) i)

pub order_ends : OrderEndsWithItself
unfolding Order visit
order_ends lib m = ((fold (visit (length lib) lib) (record { visited = m ∷ []; order = [] }) (imports_of lib m)).order, refl)

-- ---- each once

abbrev Distinct : List ℕ → Type 0
Distinct [] = Unit {0}
Distinct (x ∷ xs) = (In x xs → ⊥) × Distinct xs

Distinct-more : (xs : List ℕ) (m : ℕ) → Distinct xs → (In m xs → ⊥) → Distinct (xs ++ m ∷ [])
Distinct-more [] m h out = ((λ (i : ⊥). i), tt)
Distinct-more (x ∷ xs) m h out = ((λ i. elim (In-split x xs (m ∷ []) i) [ inl old ↦ h.0 old | inr new ↦ elim new [ inl e ↦ out (inl (sym e)) | inr none ↦ none ] ]), Distinct-more xs m h.1 (λ i. out (inr i)))

In-at : (xs : List ℕ) (k d : ℕ) → k < length xs → In (get_or xs k d) xs
In-at [] k d lt = absurd (omega arith)
In-at (x ∷ xs) zero d lt = inl refl
In-at (x ∷ xs) (suc k) d lt = inr (In-at xs k d (omega arith))

Distinct-pairs : (xs : List ℕ) → Distinct xs → AllPairs (λ a b. a ≡ b → ⊥) xs
Distinct-pairs [] h i j d lt below = absurd (omega arith)
Distinct-pairs (x ∷ xs) h i zero d lt below = absurd (omega arith)
Distinct-pairs (x ∷ xs) h zero (suc j) d lt below = λ e. h.0 (subst (λ (y : ℕ). In y xs) (sym e) (In-at xs j d (omega arith)))
Distinct-pairs (x ∷ xs) h (suc i) (suc j) d lt below = Distinct-pairs xs h.1 i j d (omega arith) (omega arith)

-- what was ordered was visited, each once
record Good (v : Visits) : Type 0 where
  within : (x : ℕ) → In x v.order → In x v.visited
  once : Distinct v.order

-- a visit orders no module that was visited before it
record Adds (before after : Visits) : Type 0 where
  good : Good after
  keeps : (x : ℕ) → In x before.visited → In x after.visited
  old : (x : ℕ) → In x before.visited → In x after.order → In x before.order

Adds-none : (v : Visits) → Good v → Adds v v
Adds-none v g = record { good = g; keeps = λ x h. h; old = λ x h i. i }

Adds-then : (a b c : Visits) → Adds a b → Adds b c → Adds a c
Adds-then a b c p q = record { good = q.good; keeps = λ x h. q.keeps x (p.keeps x h); old = λ x h i. p.old x h (q.old x (p.keeps x h) i) }

abbrev EachAdds : ℕ → List Parts → Type 0
EachAdds n lib = (before : Visits) (m : ℕ) → Good before → Adds before (visit n lib before m)

fold_adds : (n : ℕ) (lib : List Parts) → EachAdds n lib → (ms : List ℕ) (before : Visits) → Good before → Adds before (fold (visit n lib) before ms)
fold_adds n lib one [] before g = Adds-none before g
fold_adds n lib one (m ∷ ms) before g =
    let first = one before m g in
    Adds-then before (visit n lib before m) (fold (visit n lib) (visit n lib before m) ms) first (fold_adds n lib one ms (visit n lib before m) first.good)

close : (before : Visits) (m : ℕ) (after : Visits) → (In m before.visited → ⊥) → Adds (record { visited = m ∷ before.visited; order = before.order }) after → Good before →
    Adds before (record { visited = after.visited; order = after.order ++ m ∷ [] })
close before m after out inner g = record {
  good = record {
    within = λ x h. elim (In-split x after.order (m ∷ []) h) [ inl i ↦ inner.good.within x i | inr here ↦ elim here [ inl e ↦ inner.keeps x (inl e) | inr none ↦ absurd none ] ];
    once = Distinct-more after.order m inner.good.once (λ i. out (g.within m (inner.old m (inl refl) i)));
  };
  keeps = λ x h. inner.keeps x (inr h);
  old = λ x h i. elim (In-split x after.order (m ∷ []) i) [ inl there ↦ inner.old x (inr h) there | inr here ↦ elim here [ inl e ↦ absurd (out (subst (λ (y : ℕ). In y before.visited) e h)) | inr none ↦ absurd none ] ];
}

visit_by : (n : ℕ) (lib : List Parts) → EachAdds n lib → (before : Visits) (m : ℕ) → Good before → (seen : Bool) → is_among before.visited m ≡ seen →
    Adds before (cond seen before (record { visited = (fold (visit n lib) (record { visited = m ∷ before.visited; order = before.order }) (imports_of lib m)).visited; order = (fold (visit n lib) (record { visited = m ∷ before.visited; order = before.order }) (imports_of lib m)).order ++ m ∷ [] }))
visit_by n lib one before m g true is = Adds-none before g
visit_by n lib one before m g false is =
    let start : Visits = record { visited = m ∷ before.visited; order = before.order } in
    let ready : Good start = record { within = λ x h. inr (g.within x h); once = g.once } in
    close before m (fold (visit n lib) start (imports_of lib m)) (not_among m before.visited is) (fold_adds n lib one (imports_of lib m) start ready) g

visit_adds : (n : ℕ) (lib : List Parts) → EachAdds n lib
unfolding visit
visit_adds zero lib before m g = Adds-none before g
visit_adds (suc n) lib before m g = visit_by n lib (visit_adds n lib) before m g (is_among before.visited m) refl

pub order_has_each_once : OrderHasEachOnce
unfolding Order
order_has_each_once lib m =
    let empty : Good nothing = record { within = λ x h. h; once = tt } in
    Distinct-pairs (Order lib m) (visit_adds (suc (length lib)) lib nothing m empty).good.once

-- ---- within the library

library_below : (lib : List Parts) (name : List ℕ) (k : ℕ) → library_named lib name ≡ Some k → k < length lib
library_below lib name k e = (position-Some (λ m. is_library_of m && has_name name m) lib k no_module e).0

named_by : (lib : List Parts) (name : List ℕ) (names : List (List ℕ)) (x : ℕ) (o : Option ℕ) → library_named lib name ≡ o →
    (In x (filter_map (library_named lib) names) → x < length lib) → In x (filter_map (library_named lib) (name ∷ names)) → x < length lib
named_by lib name names x None is again h = again (rw is at h)
named_by lib name names x (Some k) is again h =
    let split : (x ≡ k) ⊎ In x (filter_map (library_named lib) names) = rw is at h in
    elim split [ inl e ↦ subst (λ (y : ℕ). y < length lib) (sym e) (library_below lib name k is) | inr rest ↦ again rest ]

named_below : (lib : List Parts) (names : List (List ℕ)) (x : ℕ) → In x (filter_map (library_named lib) names) → x < length lib
named_below lib [] x h = absurd h
named_below lib (name ∷ names) x h = named_by lib name names x (library_named lib name) refl (named_below lib names x) h

reached_below : (lib : List Parts) (m x : ℕ) → m < length lib → Reach lib m x → x < length lib
reached_below lib m x lt itself = lt
reached_below lib m x lt (further {a} {b} r i) = named_below lib (module_of lib a).imports x (Contains-In (imports_of lib a) x i)

pub order_is_in_library : OrderIsInLibrary
order_is_in_library lib m x lt h = reached_below lib m x lt (order_is_reached lib m x h)
