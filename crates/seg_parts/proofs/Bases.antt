-- Objects one after another, with one more.
use Rattle.std.specs.Prelude.{◌≡◌, ℕ, ◌+◌, ◌<◌, ◌≤◌, List, [], ◌∷◌, ◌++◌, length, take, drop, sum_by, refl}
use Rattle.std.proofs.Common.{ap, sym, ◌∙◌, arith}
use Rattle.std.proofs.Math.ListN.{get_or}
use Rattle.std.proofs.lemmas.List.{take-append-drop}
use Rattle.std.proofs.lemmas.List.Sums.{fold-append, sum_by-append}
use Rattle.lx_types.specs.Addresses.{room}
use Rattle.link_model.specs.declared.symbols.LaidObject.{LaidObject}
use Rattle.link_model.specs.Layout.{placed_from}
use Rattle.seg_parts.specs.Objects.{base_after}
use Rattle.seg_parts.proofs.Lists.{take-push}

pub placed-push : (base : ℕ) (qs : List (ℕ × ℕ)) (q : ℕ × ℕ) → placed_from base (qs ++ q ∷ []) ≡ placed_from base qs ++ record { size = q.0; base = base_after base qs; flags = q.1 } ∷ []
placed-push base [] q = refl
placed-push base (p ∷ qs) q =
    let first : LaidObject = record { size = p.0; base = base; flags = p.1 } in
    ap (λ (t : List LaidObject). first ∷ t) (placed-push (base + room p.0) qs q)

pub placed-more : (base : ℕ) (qs : List (ℕ × ℕ)) (i : ℕ) (q : ℕ × ℕ) → i < length qs → q ≡ get_or qs i q →
    placed_from base (take (i + 1) qs) ≡ placed_from base (take i qs) ++ record { size = q.0; base = base_after base (take i qs); flags = q.1 } ∷ []
placed-more base qs i q there is = ap (placed_from base) (take-push qs i q there is) ∙ placed-push base (take i qs) q

pub base-more : (base : ℕ) (qs : List (ℕ × ℕ)) (i : ℕ) (q : ℕ × ℕ) → i < length qs → q ≡ get_or qs i q → base_after base (take (i + 1) qs) ≡ base_after base (take i qs) + room q.0
base-more base qs i q there is =
    ap (base_after base) (take-push qs i q there is) ∙ fold-append (λ (b : ℕ) (p : ℕ × ℕ). b + room p.0) base (take i qs) (q ∷ [])

pub sum-taken : (qs : List (ℕ × ℕ)) (i : ℕ) (q : ℕ × ℕ) → i < length qs → q ≡ get_or qs i q → (sum_by (λ (p : ℕ × ℕ). p.0) (take (i + 1) qs) ≡ sum_by (λ (p : ℕ × ℕ). p.0) (take i qs) + q.0) × (sum_by (λ (p : ℕ × ℕ). p.0) (take (i + 1) qs) ≤ sum_by (λ (p : ℕ × ℕ). p.0) qs)
sum-taken qs i q there is =
    let f : ℕ × ℕ → ℕ = λ p. p.0 in
    let none : 0 + q.0 ≡ q.0 = omega arith in
    let all : sum_by f qs ≡ sum_by f (take (i + 1) qs) + sum_by f (drop (i + 1) qs) =
    ap (sum_by f) (sym (take-append-drop (i + 1) qs)) ∙ sum_by-append f (take (i + 1) qs) (drop (i + 1) qs) in
    (ap (sum_by f) (take-push qs i q there is) ∙ sum_by-append f (take i qs) (q ∷ []) ∙ ap (λ (n : ℕ). sum_by f (take i qs) + n) none, omega (arith, all))
