-- Lists that grow item by item, and what a visit does.
use Rattle.std.proofs.Common.{◌≡◌, ℕ, suc, zero, ◌+◌, ◌-◌, ◌<◌, ◌∙◌, true, false, List, [], ◌∷◌, ◌++◌, fold, length, map, get_or, refl, sym, ap, arith}
use Rattle.std.proofs.lemmas.List.{get_or_default}
use Rattle.std.proofs.lemmas.List.FromFn.{map-range_with_len_more}
use Rattle.std.specs.List.{range_with_len}
use Rattle.lx_model.specs.Reach.{Visits, is_among}
use Rattle.mod_graph.specs.Visiting.{visit_in}

pub visit_in-at_end : (graph : List (List ℕ)) (before : Visits) (m : ℕ) → visit_in 0 graph before m ≡ before
unfolding visit_in
visit_in-at_end graph before m = refl

pub visit_in-again : (n : ℕ) (graph : List (List ℕ)) (before : Visits) (m : ℕ) → is_among before.visited m ≡ true → visit_in n graph before m ≡ before
unfolding visit_in
visit_in-again zero graph before m again = refl
visit_in-again (suc n) graph before m again = rw (visit_in, again) refl

abbrev pub marked : Visits → ℕ → Visits
marked before m = record { visited = m ∷ before.visited; order = before.order }

abbrev pub closed : Visits → ℕ → Visits
closed after m = record { visited = after.visited; order = after.order ++ m ∷ [] }

pub visit_in-first : (n : ℕ) (graph : List (List ℕ)) (before : Visits) (m : ℕ) (d : List ℕ) → 0 < n → m < length graph → is_among before.visited m ≡ false →
    visit_in n graph before m ≡ closed (fold (visit_in (n - 1) graph) (marked before m) (get_or graph m d)) m
unfolding visit_in
visit_in-first zero graph before m d some within fresh = absurd (omega (arith, some))
visit_in-first (suc n) graph before m d some within fresh =
    let less : suc n - 1 ≡ n = omega arith in
    rw (visit_in, fresh) (ap (λ k. closed (fold (visit_in k graph) (marked before m) (get_or graph m [])) m) (sym less)
    ∙ ap (λ imports. closed (fold (visit_in (suc n - 1) graph) (marked before m) imports) m) (get_or_default graph m [] d within))

-- a table of what a function gives for 0, 1, .. grows by one
pub table_more : {A : Type 0} (f : ℕ → A) (xs ys : List A) (y : A) (n : ℕ) → xs ≡ map f (range_with_len 0 n) → y ≡ f n → ys ≡ xs ++ y ∷ [] → ys ≡ map f (range_with_len 0 (n + 1))
table_more f xs ys y n table last more =
    more ∙ ap (λ zs. zs ++ y ∷ []) table ∙ ap (λ z. map f (range_with_len 0 n) ++ z ∷ []) last ∙ sym (map-range_with_len_more f 0 n n (omega arith))

pub map_same_within : {A B : Type 0} (f g : A → B) (xs : List A) → ((k : ℕ) (d : A) → k < length xs → f (get_or xs k d) ≡ g (get_or xs k d)) → map f xs ≡ map g xs
map_same_within f g [] same = refl
map_same_within f g (x ∷ xs) same =
    ap (λ y. y ∷ map f xs) (same 0 x (omega arith))
    ∙ ap (λ ys. g x ∷ ys) (map_same_within f g xs (λ k d below. same (suc k) d (omega (arith, below))))
