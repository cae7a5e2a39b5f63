-- The first line of bytes, where it is cut.
use Rattle.std.proofs.Common.{◌≡◌, ℕ, zero, suc, ◌+◌, ◌-◌, ◌<◌, Bool, true, false, cond, List, [], ◌∷◌, ◌++◌, length, take, drop, get_or, refl, sym, ◌∙◌, ap, subst, arith, add-one}
use Rattle.std.specs.Prelude.{◌==◌, count_by}
use Rattle.std.proofs.lemmas.List.{take_rest}
use Rattle.std.proofs.lemmas.List.Sums.{sum_by-cons, sum_by-append}
use Rattle.std.proofs.lemmas.Bool.{eq-eqb, eqb-true}
use Rattle.check_model.specs.TextFault.{is_line_end}
use Rattle.transcript_whole.specs.Cutting.{HasNoEnd, IsFirstLine}

-- ---- how many lines end

pub ends_front : (b : ℕ) (bytes : List ℕ) → count_by is_line_end (b ∷ bytes) ≡ cond (b == 0x0A) 1 0 + count_by is_line_end bytes
ends_front b bytes = sum_by-cons (λ x. cond (is_line_end x) 1 0) b bytes

pub ends_joined : (a b : List ℕ) → count_by is_line_end (a ++ b) ≡ count_by is_line_end a + count_by is_line_end b
ends_joined a b = sum_by-append (λ x. cond (is_line_end x) 1 0) a b

-- a byte in front that ends no line
one_more : (b : ℕ) (bytes : List ℕ) → ((b == 0x0A) ≡ true → ⊥) → HasNoEnd bytes → HasNoEnd (b ∷ bytes)
one_more b bytes other rest = ends_front b bytes ∙ by (b == 0x0A) other
  where
    by : (t : Bool) → (t ≡ true → ⊥) → cond t 1 0 + count_by is_line_end bytes ≡ 0
    by true is_end = absurd (is_end refl)
    by false is_end = omega (arith, rest)

one_less : (b : ℕ) (bytes : List ℕ) → HasNoEnd (b ∷ bytes) → ((b == 0x0A) ≡ true → ⊥) × HasNoEnd bytes
one_less b bytes h = by (b == 0x0A) (sym (ends_front b bytes) ∙ h)
  where
    by : (t : Bool) → cond t 1 0 + count_by is_line_end bytes ≡ 0 → (t ≡ true → ⊥) × HasNoEnd bytes
    by true is = absurd (let none : ⊥ = omega (arith, is) in none)
    by false is = ((λ e. absurd (cc (e))), omega (arith, is))

-- ---- where it is cut

pub no_end_at : (bytes : List ℕ) → ((j : ℕ) → j < length bytes → (get_or bytes j 0 == 0x0A) ≡ true → ⊥) → HasNoEnd bytes
no_end_at [] none = refl
no_end_at (b ∷ bytes) none = one_more b bytes (none 0 (omega arith)) (no_end_at bytes (λ j h. none (suc j) (omega arith)))

cut_there : (bytes : List ℕ) (k : ℕ) → k < length bytes → get_or bytes k 0 ≡ 0x0A → ((j : ℕ) → j < k → (get_or bytes j 0 == 0x0A) ≡ true → ⊥) → IsFirstLine bytes (take k bytes) (drop (suc k) bytes)
cut_there [] k within end none = absurd (let no_index : ⊥ = omega arith in no_index)
cut_there (b ∷ bytes) zero within end none = record { all = ap (λ (c : ℕ). c ∷ bytes) end; inside = refl }
cut_there (b ∷ bytes) (suc k) within end none =
    let rest = cut_there bytes k (omega arith) end (λ j h. none (suc j) (omega arith)) in
    record { all = ap (λ (bs : List ℕ). b ∷ bs) rest.all; inside = one_more b (take k bytes) (none 0 (omega arith)) rest.inside }

-- as the code cuts it
pub cut_at : (bytes : List ℕ) (k : ℕ) → k < length bytes → (get_or bytes k 0 == 0x0A) ≡ true → ((j : ℕ) → j < k → (get_or bytes j 0 == 0x0A) ≡ true → ⊥)
    → IsFirstLine bytes (take k bytes) (take (length bytes - (k + 1)) (drop (k + 1) bytes))
cut_at bytes k within end none =
    let it = cut_there bytes k within (eqb-true (get_or bytes k 0) 0x0A end) none in
    subst (λ (after : List ℕ). IsFirstLine bytes (take k bytes) after) (ap (λ n. drop n bytes) (sym (add-one k)) ∙ sym (take_rest bytes (k + 1))) it

-- there is one place to cut it
pub cut_one : (a b r q : List ℕ) → HasNoEnd a → HasNoEnd b → a ++ 0x0A ∷ r ≡ b ++ 0x0A ∷ q → (a ≡ b) × (r ≡ q)
cut_one [] [] r q ha hb is = (refl, cc (is))
cut_one [] (y ∷ b) r q ha hb is =
    let end : y ≡ 0x0A = cc (is) in
    absurd ((one_less y b hb).0 (eq-eqb y 0x0A end))
cut_one (x ∷ a) [] r q ha hb is =
    let end : x ≡ 0x0A = cc (is) in
    absurd ((one_less x a ha).0 (eq-eqb x 0x0A end))
cut_one (x ∷ a) (y ∷ b) r q ha hb is =
    let same : x ≡ y = cc (is) in
    let rest : a ++ 0x0A ∷ r ≡ b ++ 0x0A ∷ q = cc (is) in
    let more = cut_one a b r q (one_less x a ha).1 (one_less y b hb).1 rest in
    ((λ i. same i ∷ more.0 i), more.1)
