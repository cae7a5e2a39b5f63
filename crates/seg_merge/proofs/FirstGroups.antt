-- The first group of a logical segment is that with the least place.
use Rattle.std.specs.Prelude.{◌≡◌, ℕ, zero, suc, ◌<◌, ◌≤◌, ◌==◌, Bool, true, false, cond, ◌||◌, List, [], ◌∷◌, Some, min, fold, length, get_or, slice_get, find, refl}
use Rattle.std.specs.List.{list_any}
use Rattle.std.proofs.Common.{ap, sym, ◌∙◌, arith}
use Rattle.std.proofs.lemmas.Bool.{eqb-false}
use Rattle.std.proofs.lemmas.Option.{get_or_from_slice_get, slice_get_within}
use Rattle.link_model.specs.Parts.{Part}
use Rattle.seg_parts.proofs.Listed.{apart_above}
use Rattle.seg_merge.specs.Membership.{AreGroupsOf}
use Rattle.seg_merge.specs.Ordered.{first_group}

abbrev least : ℕ → List ℕ → ℕ
least a gs = fold (λ (n : ℕ) (j : ℕ). min n j) a gs

least-most : (gs : List ℕ) (a : ℕ) → least a gs ≤ a
least-most [] a = omega arith
least-most (j ∷ gs) a = omega (arith, least-most gs (min a j))

least-none : (gs : List ℕ) (a g : ℕ) → g < least a gs → list_any (λ j. j == g) gs ≡ false
least-none [] a g lt = refl
least-none (j ∷ gs) a g lt =
    let under : g < j = omega (arith, lt, least-most gs (min a j)) in
    ap (λ (b : Bool). b || list_any (λ i. i == g) gs) (apart_above j g under) ∙ least-none gs (min a j) g lt

least-hit : (gs : List ℕ) (a m : ℕ) → m ≡ least a gs → m < a → list_any (λ j. j == m) gs ≡ true
least-hit [] a m e lt = absurd (omega (arith, e, lt))
least-hit (j ∷ gs) a m e lt =
    by (j == m) refl
    (λ ne.
    let under : m < min a j = omega (arith, lt, e, ne, least-most gs (min a j)) in
    least-hit gs (min a j) m e under)
  where
    by : (b : Bool) → j == m ≡ b → ((j ≡ m → ⊥) → list_any (λ i. i == m) gs ≡ true) → (b || list_any (λ i. i == m) gs) ≡ true
    by true is later = refl
    by false is later = later (eqb-false j m is)

find-place : {X : Type 0} (p : X → Bool) (xs : List X) (m : ℕ) (d : X) → ((g : ℕ) → g < m → g < length xs → p (get_or xs g d) ≡ false) → (m < length xs → p (get_or xs m d) ≡ true) → find p xs ≡ slice_get xs m
find-place p [] m d none hit = refl
find-place p (x ∷ xs) zero d none hit = ap (λ (b : Bool). cond b (Some x) (find p xs)) (hit (omega arith))
find-place p (x ∷ xs) (suc m) d none hit =
    ap (λ (b : Bool). cond b (Some x) (find p xs)) (none 0 (omega arith) (omega arith))
    ∙ find-place p xs m d (λ g lt below. none (suc g) (omega (arith, lt)) (omega (arith, below))) (λ lt. hit (omega (arith, lt)))

pub first-group-is : (is_in : List ℕ → Part → Bool) (names : List (List ℕ)) (heads : List Part) (lists : List (List ℕ)) → AreGroupsOf is_in names heads lists → (k : ℕ) (s : Part) → slice_get heads k ≡ Some s →
    first_group names (get_or lists k []) ≡ find (λ g. is_in g s) names
first-group-is is_in names heads lists groups k s e =
    let gs : List ℕ = get_or lists k [] in
    let at = λ (g : ℕ) (below : g < length names). groups.members k g [] [] s (slice_get_within heads k s e) below ∙ ap (is_in (get_or names g [])) (get_or_from_slice_get heads k s s e) in
    sym
    (find-place (λ g. is_in g s) names (least (length names) gs) []
    (λ g lt below. sym (at g below) ∙ least-none gs (length names) g lt)
    (λ lt. sym (at (least (length names) gs) lt) ∙ least-hit gs (length names) (least (length names) gs) refl lt))
