-- Numbers from one up to before another; bytes inside an object, and the pages that they cover.
use Rattle.std.proofs.Common.{◌≡◌, ℕ, zero, suc, ◌+◌, ◌-◌, ◌<◌, ◌≤◌, ◌||◌, Bool, true, false, cond, [], ◌∷◌, Option, Some, None, inl, inr, refl, sym, ap, ◌∙◌, arith, ◌*◌, length, ◌==◌}
use Rattle.process_view.proofs.Words.{cases_lt, find, is_outside, IsNumberOf, Library, list_any, module_of, nat_lt, nat_tests, object_at, object_of, objects_of}
use Rattle.process_view.proofs.Words.{pages_of, range_with_len}

-- ---- numbers from one up to before another

-- ---- a loop over them

one_first : (a end : ℕ) → a < end → range_with_len a (end - a) ≡ a ∷ range_with_len (a + 1) (end - (a + 1))
one_first a end u = let it : end - a ≡ suc (end - (a + 1)) = omega arith in ap (range_with_len a) it

pub none_left : (a end : ℕ) → end ≤ a → range_with_len a (end - a) ≡ []
none_left a end u = let it : end - a ≡ 0 = omega arith in ap (range_with_len a) it

-- the first is tried, and the others come after it
pub find_first : (p : ℕ → Bool) (a end : ℕ) (b : Bool) → a < end → p a ≡ b → find p (range_with_len a (end - a)) ≡ cond b (Some a) (find p (range_with_len (a + 1) (end - (a + 1))))
find_first p a end b u is = ap (find p) (one_first a end u) ∙ ap (λ c. cond c (Some a) (find p (range_with_len (a + 1) (end - (a + 1))))) is

pub any_first : (p : ℕ → Bool) (a end : ℕ) (b : Bool) → a < end → p a ≡ b → list_any p (range_with_len a (end - a)) ≡ b || list_any p (range_with_len (a + 1) (end - (a + 1)))
any_first p a end b u is = ap (list_any p) (one_first a end u) ∙ ap (λ c. c || list_any p (range_with_len (a + 1) (end - (a + 1)))) is

-- ---- what is found

-- what nothing is found by holds of none
pub none_found : (p : ℕ → Bool) (a n j : ℕ) → find p (range_with_len a n) ≡ None → a ≤ j → j < a + n → p j ≡ false
none_found p a zero j e u v = absurd (omega arith)
none_found p a (suc n) j e u v = by_here (p a) refl (λ rest later. none_found p (a + 1) n j rest later (omega arith))
  where
    by_here : (b : Bool) → p a ≡ b → (find p (range_with_len (a + 1) n) ≡ None → a + 1 ≤ j → p j ≡ false) → p j ≡ false
    by_here true is later = absurd (let none : Some a ≡ None = sym (ap (λ b. cond b (Some a) (find p (range_with_len (a + 1) n))) is) ∙ e in cc)
    by_here false is later =
        let rest : find p (range_with_len (a + 1) n) ≡ None = sym (ap (λ b. cond b (Some a) (find p (range_with_len (a + 1) n))) is) ∙ e in
        elim (cases_lt a j) as (λ _. p j ≡ false) [
          | inl more ↦ later rest (omega arith)
          | inr here ↦ let same : j ≡ a = omega arith in ap p same ∙ is
        ]

-- two tests that agree on the numbers find the same
pub find_alike_from : (p q : ℕ → Bool) (a n : ℕ) → ((j : ℕ) → a ≤ j → j < a + n → p j ≡ q j) → find p (range_with_len a n) ≡ find q (range_with_len a n)
find_alike_from p q a zero h = refl
find_alike_from p q a (suc n) h =
    ap (λ b. cond b (Some a) (find p (range_with_len (a + 1) n))) (h a (omega arith) (omega arith))
    ∙ ap (λ (o : Option ℕ). cond (q a) (Some a) o) (find_alike_from p q (a + 1) n (λ j u v. h j (omega arith) (omega arith)))

-- ---- bytes inside an object, and the pages that they cover

pub record IsInside (lib : Library) (m object offset len : ℕ) : Type 0 where
  pub there : IsNumberOf object (length (module_of lib m).objects)
  pub within : offset + len ≤ (object_of (module_of lib m) object).size

tests_fail : (object count size end : ℕ) → (object == 0 || nat_lt count object || nat_lt size end) ≡ false → (IsNumberOf object count) × (end ≤ size)
tests_fail object count size end e = grind (arith, nat_tests)

pub bytes_inside : (lib : Library) (m object offset len : ℕ) → is_outside lib m object offset len ≡ false → IsInside lib m object offset len
unfolding objects_of object_at
bytes_inside lib m object offset len e =
    let it = tests_fail object (length (module_of lib m).objects) (object_of (module_of lib m) object).size (offset + len) e in
    record { there = it.0; within = it.1 }

-- a page that begins before the bytes' end is one of the object
pub page_inside : (lib : Library) (m object offset len n : ℕ) → IsInside lib m object offset len → n * 4096 < offset + len → n < pages_of (object_of (module_of lib m) object)
page_inside lib m object offset len n is before = let within = is.within in omega arith
