-- The ends of objects with one more row, and their sum.
use Rattle.std.specs.Prelude.{◌≡◌, ℕ, suc, ◌+◌, ◌<◌, ◌≤◌, ◌==◌, Bool, true, false, cond, ◌||◌, List, [], ◌∷◌, ◌++◌, map, max, length, filter, sum_by, refl}
use Rattle.std.specs.List.{fold, list_any, AllPairs}
use Rattle.std.proofs.Common.{ap, sym, ◌∙◌, arith, true≢false}
use Rattle.std.proofs.Math.ListN.{get_or}
use Rattle.std.proofs.lemmas.Bool.{eqb-true, eq-eqb}
use Rattle.std.proofs.lemmas.Bool.Decides.{nat_tests}
use Rattle.std.proofs.lemmas.Cmp.{nat_eq_equiv}
use Rattle.std.proofs.lemmas.List.{map-append}
use Rattle.std.proofs.lemmas.List.Elements.{filter-append}
use Rattle.std.proofs.lemmas.List.Sums.{fold-append, sum_by-cons, sum_by_push}
use Rattle.link_model.specs.Appearance.{firsts}
use Rattle.link_model.specs.Rows.{Row, end_in}
use Rattle.link_model.specs.LayoutRefusals.{size_of_rows}
use Rattle.link_model.proofs.Tables.{firsts-push, firsts-apart, any-firsts}

-- ---- the end of one object

one_by : (e : ℕ) (r : Row) (b : Bool) → fold (λ end q. max end q.end) e (cond b (r ∷ []) []) ≡ cond b (max e r.end) e
one_by e r true = refl
one_by e r false = refl

pub end-more : (o : ℕ) (rs : List Row) (r : Row) → end_in o (rs ++ r ∷ []) ≡ cond (r.object == o) (max (end_in o rs) r.end) (end_in o rs)
end-more o rs r =
    ap (λ (t : List Row). fold (λ end q. max end q.end) 0 t) (filter-append (λ q. q.object == o) rs (r ∷ []))
    ∙ fold-append (λ (end : ℕ) (q : Row). max end q.end) 0 (filter (λ q. q.object == o) rs) (filter (λ q. q.object == o) (r ∷ []))
    ∙ one_by (end_in o rs) r (r.object == o)

pub end-here : (rs : List Row) (r : Row) → end_in r.object (rs ++ r ∷ []) ≡ max (end_in r.object rs) r.end
end-here rs r = end-more r.object rs r ∙ ap (λ (b : Bool). cond b (max (end_in r.object rs) r.end) (end_in r.object rs)) (eq-eqb r.object r.object refl)

apart : (a b : ℕ) → (b ≡ a → ⊥) → a == b ≡ false
apart a b ne = grind (arith, nat_tests)

pub end-other : (o : ℕ) (rs : List Row) (r : Row) → (o ≡ r.object → ⊥) → end_in o (rs ++ r ∷ []) ≡ end_in o rs
end-other o rs r ne = end-more o rs r ∙ ap (λ (b : Bool). cond b (max (end_in o rs) r.end) (end_in o rs)) (apart r.object o ne)

-- Of an object without rows it is 0.
none_in : (o : ℕ) (rs : List Row) → list_any (λ n. o == n) (map (λ r. r.object) rs) ≡ false → filter (λ q. q.object == o) rs ≡ []
none_in o [] e = refl
none_in o (r ∷ rs) e = by (o == r.object) (list_any (λ n. o == n) (map (λ q. q.object) rs)) refl e (λ f. none_in o rs f)
  where
    turned : (a b : ℕ) → a == b ≡ false → b == a ≡ false
    turned a b f = grind (arith, nat_tests)

    by : (b rest : Bool) → o == r.object ≡ b → (b || rest) ≡ false → (rest ≡ false → filter (λ q. q.object == o) rs ≡ []) → filter (λ q. q.object == o) (r ∷ rs) ≡ []
    by true rest is f g = absurd (true≢false f)
    by false rest is f g = ap (λ (t : Bool). cond t (r ∷ filter (λ q. q.object == o) rs) (filter (λ q. q.object == o) rs)) (turned o r.object is) ∙ g f

-- ---- their sum

pub differs : (a b : ℕ) → a == b ≡ false → b ≡ a → ⊥
differs a b h i = true≢false (sym (eq-eqb a b (sym i)) ∙ h)

same_sum : (f g : ℕ → ℕ) (o : ℕ) (xs : List ℕ) → ((j : ℕ) → (j ≡ o → ⊥) → g j ≡ f j) → list_any (λ n. o == n) xs ≡ false → sum_by g xs ≡ sum_by f xs
same_sum f g o [] others e = refl
same_sum f g o (x ∷ xs) others e = by (o == x) (list_any (λ n. o == n) xs) refl e (λ h. same_sum f g o xs others h)
  where
    by : (b rest : Bool) → o == x ≡ b → (b || rest) ≡ false → (rest ≡ false → sum_by g xs ≡ sum_by f xs) → sum_by g (x ∷ xs) ≡ sum_by f (x ∷ xs)
    by true rest is h t = absurd (true≢false h)
    by false rest is h t =
        sum_by-cons g x xs ∙ ap (λ (n : ℕ). n + sum_by g xs) (others x (differs o x is)) ∙ ap (λ (n : ℕ). f x + n) (t h) ∙ sym (sum_by-cons f x xs)

any_none : (p : ℕ → Bool) (xs : List ℕ) → ((k : ℕ) → k < length xs → p (get_or xs k 0) ≡ false) → list_any p xs ≡ false
any_none p [] h = refl
any_none p (x ∷ xs) h = ap (λ (b : Bool). b || list_any p xs) (h 0 (omega arith)) ∙ any_none p xs (λ k below. h (suc k) (omega arith))

one_sum_by : (f g : ℕ → ℕ) (o x : ℕ) (xs : List ℕ) (b : Bool) → ((j : ℕ) → (j ≡ o → ⊥) → g j ≡ f j) → AllPairs (λ a b. a == b ≡ false) (x ∷ xs) → o == x ≡ b → (b || list_any (λ n. o == n) xs) ≡ true →
    (list_any (λ n. o == n) xs ≡ true → sum_by g xs + f o ≡ sum_by f xs + g o) → sum_by g (x ∷ xs) + f o ≡ sum_by f (x ∷ xs) + g o
one_sum_by f g o x xs true others distinct is h later =
    let at : o ≡ x = eqb-true o x is in
    let none : list_any (λ n. o == n) xs ≡ false =
    any_none (λ n. o == n) xs (λ k below. ap (λ (m : ℕ). m == get_or xs k 0) at ∙ distinct 0 (suc k) 0 (omega arith) (omega arith)) in
    let rest : sum_by g xs ≡ sum_by f xs = same_sum f g o xs others none in
    let gs : g o ≡ g x = ap g at in
    let fs : f o ≡ f x = ap f at in
    omega (arith, rest, gs, fs, sum_by-cons f x xs, sum_by-cons g x xs)
one_sum_by f g o x xs false others distinct is h later =
    let same : g x ≡ f x = others x (differs o x is) in
    let rest = later h in
    omega (arith, same, rest, sum_by-cons f x xs, sum_by-cons g x xs)

one_sum : (f g : ℕ → ℕ) (o : ℕ) (xs : List ℕ) → ((j : ℕ) → (j ≡ o → ⊥) → g j ≡ f j) → AllPairs (λ a b. a == b ≡ false) xs → list_any (λ n. o == n) xs ≡ true → sum_by g xs + f o ≡ sum_by f xs + g o
one_sum f g o [] others distinct e = absurd (true≢false (sym e))
one_sum f g o (x ∷ xs) others distinct e =
    one_sum_by f g o x xs (o == x) others distinct refl e (λ h. one_sum f g o xs others (λ i j d lt below. distinct (suc i) (suc j) d (omega arith) (omega arith)) h)

sum_by_case : (f g : ℕ → ℕ) (o : ℕ) (os : List ℕ) (b : Bool) → ((j : ℕ) → (j ≡ o → ⊥) → g j ≡ f j) → (list_any (λ n. o == n) os ≡ false → f o ≡ 0) → list_any (λ n. o == n) (firsts (λ a b. a == b) os) ≡ b →
    sum_by g (cond b (firsts (λ a b. a == b) os) (firsts (λ a b. a == b) os ++ o ∷ [])) + f o ≡ sum_by f (firsts (λ a b. a == b) os) + g o
sum_by_case f g o os true others absent is = one_sum f g o (firsts (λ a b. a == b) os) others (firsts-apart (λ a b. a == b) os) is
sum_by_case f g o os false others absent is =
    let grown = sum_by_push g (firsts (λ a b. a == b) os) o in
    let rest = same_sum f g o (firsts (λ a b. a == b) os) others is in
    let zero_is : f o ≡ 0 = absent (sym (any-firsts nat_eq_equiv o os) ∙ is) in
    omega (arith, grown, rest, zero_is)

pub sum-more : (rs : List Row) (r : Row) → size_of_rows (rs ++ r ∷ []) + end_in r.object rs ≡ size_of_rows rs + max (end_in r.object rs) r.end
sum-more rs r =
    let f : ℕ → ℕ = λ o. end_in o rs in
    let g : ℕ → ℕ = λ o. end_in o (rs ++ r ∷ []) in
    let os : List ℕ = map (λ q. q.object) rs in
    let table : List ℕ = firsts (λ a b. a == b) os in
    let keys : firsts (λ a b. a == b) (map (λ q. q.object) (rs ++ r ∷ [])) ≡ cond (list_any (λ n. r.object == n) table) table (table ++ r.object ∷ []) =
    ap (firsts (λ a b. a == b)) (map-append (λ (q : Row). q.object) rs (r ∷ [])) ∙ firsts-push nat_eq_equiv os r.object in
    ap (λ (t : List ℕ). sum_by g t + f r.object) keys
    ∙ sum_by_case f g r.object os (list_any (λ n. r.object == n) table) (λ j ne. end-other j rs r ne)
    (λ none. ap (λ (t : List Row). fold (λ end q. max end q.end) 0 t) (none_in r.object rs none)) refl
    ∙ ap (λ (n : ℕ). sum_by f table + n) (end-here rs r)

member_le : (f : ℕ → ℕ) (o : ℕ) (xs : List ℕ) → list_any (λ n. o == n) xs ≡ true → f o ≤ sum_by f xs
member_le f o [] e = absurd (true≢false (sym e))
member_le f o (x ∷ xs) e = by (o == x) refl e (λ h. member_le f o xs h)
  where
    by : (b : Bool) → o == x ≡ b → (b || list_any (λ n. o == n) xs) ≡ true → (list_any (λ n. o == n) xs ≡ true → f o ≤ sum_by f xs) → f o ≤ sum_by f (x ∷ xs)
    by true is h rest = let same : f o ≡ f x = ap f (eqb-true o x is) in omega (arith, same, sum_by-cons f x xs)
    by false is h rest = let later = rest h in omega (arith, later, sum_by-cons f x xs)

end_by : (o : ℕ) (rs : List Row) (b : Bool) → list_any (λ n. o == n) (firsts (λ a b. a == b) (map (λ r. r.object) rs)) ≡ b → end_in o rs ≤ size_of_rows rs
end_by o rs true e = member_le (λ n. end_in n rs) o (firsts (λ a b. a == b) (map (λ r. r.object) rs)) e
end_by o rs false e =
    let none : end_in o rs ≡ 0 = ap (λ (t : List Row). fold (λ end q. max end q.end) 0 t) (none_in o rs (sym (any-firsts nat_eq_equiv o (map (λ r. r.object) rs)) ∙ e)) in
    omega (arith, none)

-- No object is longer than all together.
pub end-in-sum : (o : ℕ) (rs : List Row) → end_in o rs ≤ size_of_rows rs
end-in-sum o rs = end_by o rs (list_any (λ n. o == n) (firsts (λ a b. a == b) (map (λ r. r.object) rs))) refl
