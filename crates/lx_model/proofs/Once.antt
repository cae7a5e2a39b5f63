-- The different targets of a list, with one more at its end.
use Rattle.std.proofs.Common.{◌≡◌, ℕ, Bool, true, false, cond, eqb, ◌&&◌, ◌||◌, not, List, [], ◌∷◌, ◌++◌, refl, subst, ap, ◌∙◌, arith}
use Rattle.std.specs.Prelude.{filter}
use Rattle.std.specs.List.{list_any}
use Rattle.std.proofs.lemmas.Bool.Decides.{nat_tests}
use Rattle.lx_types.specs.declared.fix.FixTarget.{FixTarget}
use Rattle.lx_types.specs.declared.fix.FixTarget.TheVariants.{Internal, Ordinal, Named, Own}
use Rattle.lx_model.specs.Module.{same_target, once}
use Rattle.lx_model.specs.TableLaws.{OneTargetMore}

both_equal : (a b c d : ℕ) → (eqb a b && eqb c d) ≡ true → (a ≡ b) × (c ≡ d)
both_equal a b c d e = (grind (arith, nat_tests), grind (arith, nat_tests))

pub same_is : (t u : FixTarget) → same_target t u ≡ true → t ≡ u
same_is (Internal o x) (Internal p y) e = let parts = both_equal o p x y e in let a = parts.0 in let b = parts.1 in cc
same_is (Internal o x) (Ordinal p y) e = absurd cc
same_is (Internal o x) (Named p y) e = absurd cc
same_is (Internal o x) (Own y) e = absurd cc
same_is (Ordinal o x) (Internal p y) e = absurd cc
same_is (Ordinal o x) (Ordinal p y) e = let parts = both_equal o p x y e in let a = parts.0 in let b = parts.1 in cc
same_is (Ordinal o x) (Named p y) e = absurd cc
same_is (Ordinal o x) (Own y) e = absurd cc
same_is (Named o x) (Internal p y) e = absurd cc
same_is (Named o x) (Ordinal p y) e = absurd cc
same_is (Named o x) (Named p y) e = let parts = both_equal o p x y e in let a = parts.0 in let b = parts.1 in cc
same_is (Named o x) (Own y) e = absurd cc
same_is (Own x) (Internal p y) e = absurd cc
same_is (Own x) (Ordinal p y) e = absurd cc
same_is (Own x) (Named p y) e = absurd cc
same_is (Own x) (Own y) e = let equal : x ≡ y = grind (arith, nat_tests) in ap Own equal

-- a filter of a list and one more
filter_more : (p : FixTarget → Bool) (ts : List FixTarget) (t : FixTarget) → filter p (ts ++ t ∷ []) ≡ filter p ts ++ cond (p t) (t ∷ []) []
filter_more p [] t = refl
filter_more p (u ∷ ts) t = by_test (p u) (filter_more p ts t)
  where
    by_test : (b : Bool) → filter p (ts ++ t ∷ []) ≡ filter p ts ++ cond (p t) (t ∷ []) [] →
        cond b (u ∷ filter p (ts ++ t ∷ [])) (filter p (ts ++ t ∷ [])) ≡ cond b (u ∷ filter p ts) (filter p ts) ++ cond (p t) (t ∷ []) []
    by_test true e = ap (λ (xs : List FixTarget). u ∷ xs) e
    by_test false e = e

abbrev pub among : FixTarget → List FixTarget → Bool
among t ts = list_any (λ u. same_target u t) ts

-- targets that are another one's are none of a target that is not the same
pub still_among : (u t : FixTarget) (ts : List FixTarget) → same_target u t ≡ false → among t (filter (λ v. not (same_target u v)) ts) ≡ among t ts
still_among u t [] e = refl
still_among u t (v ∷ ts) e = by_test (same_target u v) refl (still_among u t ts e)
  where
    by_test : (b : Bool) → same_target u v ≡ b → among t (filter (λ w. not (same_target u w)) ts) ≡ among t ts →
        among t (cond (not b) (v ∷ filter (λ w. not (same_target u w)) ts) (filter (λ w. not (same_target u w)) ts)) ≡ (same_target v t || among t ts)
    by_test true is rest =
        let equal = same_is u v is in
        let apart : same_target v t ≡ false = subst (λ (x : FixTarget). same_target x t ≡ false) equal e in
        rw apart rest
    by_test false is rest = ap (λ (b : Bool). same_target v t || b) rest

append_nothing : (ts : List FixTarget) → ts ++ [] ≡ ts
append_nothing [] = refl
append_nothing (t ∷ ts) = ap (λ (xs : List FixTarget). t ∷ xs) (append_nothing ts)

abbrev with_one : List FixTarget → FixTarget → List FixTarget
with_one ts t = cond (among t ts) ts (ts ++ t ∷ [])

after : (u t : FixTarget) (ts : List FixTarget) (same there : Bool) → same_target u t ≡ same → among t ts ≡ there →
    u ∷ filter (λ v. not (same_target u v)) (cond there ts (ts ++ t ∷ [])) ≡ with_one (u ∷ filter (λ v. not (same_target u v)) ts) t
after u t ts true true is has = rw is refl
after u t ts true false is has =
    let dropped : filter (λ v. not (same_target u v)) (ts ++ t ∷ []) ≡ filter (λ v. not (same_target u v)) ts = filter_more (λ v. not (same_target u v)) ts t ∙ rw is (append_nothing _) in
    rw (is, dropped) refl
after u t ts false true is has = rw (is, still_among u t ts is, has) refl
after u t ts false false is has =
    let kept : filter (λ v. not (same_target u v)) (ts ++ t ∷ []) ≡ filter (λ v. not (same_target u v)) ts ++ t ∷ [] = filter_more (λ v. not (same_target u v)) ts t ∙ rw is refl in
    rw (is, still_among u t ts is, has, kept) refl

pub once_more : OneTargetMore
once_more [] t = refl
once_more (u ∷ ts) t = ap (λ (xs : List FixTarget). u ∷ filter (λ v. not (same_target u v)) xs) (once_more ts t) ∙ after u t (once ts) (same_target u t) (among t (once ts)) refl refl
