-- The first lines of bytes, and at which line they stop being a text.
use Rattle.std.proofs.Common.{◌≡◌, ℕ, zero, suc, ◌+◌, ◌-◌, ◌<◌, ◌≤◌, ◌⊎◌, inl, inr, ◌==◌, Bool, true, false, cond, List, [], ◌∷◌, ◌++◌, length, filter, refl, sym, ◌∙◌, ap, arith, append_assoc, eqb-true}
use Rattle.std.specs.Prelude.{count_by}
use Rattle.std.proofs.lemmas.Bool.{cases_lt}
use Rattle.std.proofs.lemmas.List.Sums.{length-filter}
use Rattle.load_model.specs.Modules.{Library}
use Rattle.session_model.specs.Kept.{AreLines}
use Rattle.check_model.specs.TextFault.{is_line_end, Begins, TextFault}
use Rattle.check_model.specs.Laws.{TextFaultIsOne}

abbrev pub ends : List ℕ → ℕ
ends bytes = count_by is_line_end bytes

ends-cons : (b : ℕ) (lines : List ℕ) → ends (b ∷ lines) ≡ cond (b == 0x0A) 1 0 + ends lines
ends-cons b lines =
    sym (length-filter is_line_end (b ∷ lines)) ∙ (step (b == 0x0A) ∙ ap (λ (n : ℕ). cond (b == 0x0A) 1 0 + n) (length-filter is_line_end lines))
  where
    step : (t : Bool) → length (cond t (b ∷ filter is_line_end lines) (filter is_line_end lines)) ≡ cond t 1 0 + length (filter is_line_end lines)
    step true = omega arith
    step false = omega arith

pub ends-append : (xs ys : List ℕ) → ends (xs ++ ys) ≡ ends xs + ends ys
ends-append [] ys = let none : ends [] ≡ 0 = refl in omega (arith, none)
ends-append (x ∷ xs) ys =
    let more = ends-append xs ys in
    let whole = ends-cons x (xs ++ ys) in
    let front = ends-cons x xs in
    omega (arith, more, whole, front)

record CutAt (lines : List ℕ) (n : ℕ) : Type 0 where
  front : List ℕ
  more : List ℕ
  all : lines ≡ front ++ more
  whole : AreLines front
  count : ends front ≡ n

after_first : (b : ℕ) (lines : List ℕ) → AreLines (b ∷ lines) → AreLines lines
after_first b [] h = tt
after_first b (c ∷ lines) h = h

-- a byte in front of lines: the end of one, or a byte of the first
ending : (b : ℕ) (front : List ℕ) → b ≡ 0x0A → AreLines front → AreLines (b ∷ front)
ending b [] is h = is
ending b (c ∷ front) is h = h

inside : (b : ℕ) (front : List ℕ) (n : ℕ) → ends front ≡ suc n → AreLines front → AreLines (b ∷ front)
inside b [] n some h = absurd (let none : ⊥ = omega (arith, some) in none)
inside b (c ∷ front) n some h = h

cut : (lines : List ℕ) (n : ℕ) → AreLines lines → n ≤ ends lines → CutAt lines n
cut lines zero h few = record { front = []; more = lines; all = refl; whole = tt; count = refl }
cut [] (suc n) h few = absurd (let none : ⊥ = omega (arith, few) in none)
cut (b ∷ lines) (suc n) h few = step (b == 0x0A) refl (cut lines n (after_first b lines h)) (cut lines (suc n) (after_first b lines h))
  where
    step : (t : Bool) → (b == 0x0A) ≡ t → (n ≤ ends lines → CutAt lines n) → (suc n ≤ ends lines → CutAt lines (suc n)) → CutAt (b ∷ lines) (suc n)
    step true is here later =
        let count : ends (b ∷ lines) ≡ 1 + ends lines = ends-cons b lines ∙ ap (λ (t : Bool). cond t 1 0 + ends lines) is in
        let c : CutAt lines n = here (omega (arith, count, few)) in
        record {
          front = b ∷ c.front;
          more = c.more;
          all = ap (λ (xs : List ℕ). b ∷ xs) c.all;
          whole = ending b c.front (eqb-true b 0x0A is) c.whole;
          count = let one : ends (b ∷ c.front) ≡ 1 + ends c.front = ends-cons b c.front ∙ ap (λ (t : Bool). cond t 1 0 + ends c.front) is in omega (arith, one, c.count);
        }
    step false is here later =
        let count : ends (b ∷ lines) ≡ 0 + ends lines = ends-cons b lines ∙ ap (λ (t : Bool). cond t 1 0 + ends lines) is in
        let c : CutAt lines (suc n) = later (omega (arith, count, few)) in
        record {
          front = b ∷ c.front;
          more = c.more;
          all = ap (λ (xs : List ℕ). b ∷ xs) c.all;
          whole = inside b c.front n c.count c.whole;
          count = let one : ends (b ∷ c.front) ≡ 0 + ends c.front = ends-cons b c.front ∙ ap (λ (t : Bool). cond t 1 0 + ends c.front) is in omega (arith, one, c.count);
        }

fewer : (lib : Library) (bytes : List ℕ) (m n : ℕ) → m ≤ n → Begins lib bytes n → Begins lib bytes m
fewer lib bytes m n few b =
    let c : CutAt b.lines m = cut b.lines m b.first.whole (omega (arith, few, b.first.count)) in
    record {
      lines = c.front;
      first = record { rest = c.more ++ b.first.rest; all = b.first.all ∙ ap (λ (l : List ℕ). l ++ b.first.rest) c.all ∙ append_assoc c.front c.more b.first.rest; whole = c.whole; count = c.count };
      told = b.told;
      is_told = b.is_told;
      after = c.more ++ b.after;
      text = b.text ∙ ap (λ (l : List ℕ). l ++ b.after) c.all ∙ append_assoc c.front c.more b.after;
    }

not_less : (lib : Library) (bytes : List ℕ) (m n : ℕ) → TextFault lib bytes m → TextFault lib bytes n → m < n → ⊥
not_less lib bytes m n f g less = f.first (fewer lib bytes m (n - 1) (omega (arith, less)) g.above)

pub text_fault_is_one : TextFaultIsOne
text_fault_is_one lib bytes m n f g = by_order (cases_lt m n) (cases_lt n m)
  where
    by_order : (m < n) ⊎ (n ≤ m) → (n < m) ⊎ (m ≤ n) → m ≡ n
    by_order (inl less) k = absurd (not_less lib bytes m n f g less)
    by_order (inr few) (inl less) = absurd (not_less lib bytes n m g f less)
    by_order (inr few) (inr more) = omega (arith, few, more)
