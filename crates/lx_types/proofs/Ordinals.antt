-- Entries whose ordinals rise: the one with an ordinal, and that there is none.
use Rattle.std.proofs.Common.{◌≡◌, ℕ, zero, suc, ◌+◌, ◌<◌, ◌≤◌, Bool, true, false, cond, eqb, List, [], ◌∷◌, length, get_or, Option, Some, None, refl, subst, ap, ◌∙◌, arith, inl, inr}
use Rattle.std.specs.Prelude.{AllPairs, find, option_map}
use Rattle.std.proofs.lemmas.List.{get_or_default}
use Rattle.std.proofs.lemmas.Bool.{cases_lt, eq-eqb}
use Rattle.std.proofs.lemmas.Bool.Decides.{nat_tests}
use Rattle.lx_types.specs.declared.entry.EntryHead.{EntryHead}
use Rattle.lx_types.specs.Parts.{entry_of}

abbrev pub Entry : Type 0
Entry = ℕ × EntryHead

abbrev pub Rising : List Entry → Type 0
Rising es = AllPairs (λ a b. a.0 < b.0) es

Rising-tail : (e : Entry) (es : List Entry) → Rising (e ∷ es) → Rising es
Rising-tail e es h i j d lt below = h (suc i) (suc j) d (omega arith) (omega arith)

abbrev entry_if : Bool → Entry → List Entry → ℕ → Option EntryHead
entry_if b e es ordinal = option_map (λ x. x.1) (cond b (Some e) (find (λ x. eqb x.0 ordinal) es))

first_is : (e : Entry) (es : List Entry) (ordinal : ℕ) → eqb e.0 ordinal ≡ true → entry_of (e ∷ es) ordinal ≡ Some e.1
first_is e es ordinal is = ap (λ (b : Bool). entry_if b e es ordinal) is

first_is_not : (e : Entry) (es : List Entry) (ordinal : ℕ) → eqb e.0 ordinal ≡ false → entry_of (e ∷ es) ordinal ≡ entry_of es ordinal
first_is_not e es ordinal is = ap (λ (b : Bool). entry_if b e es ordinal) is

pub above : (m n : ℕ) → n < m → eqb m n ≡ false
above m n h = grind (arith, nat_tests)

below : (m n : ℕ) → m < n → eqb m n ≡ false
below m n h = grind (arith, nat_tests)

pub entry_found : (es : List Entry) (ordinal k : ℕ) (d : Entry) → Rising es → k < length es → (get_or es k d).0 ≡ ordinal → entry_of es ordinal ≡ Some (get_or es k d).1
entry_found [] ordinal k d rising lt is = absurd (omega arith)
entry_found (e ∷ es) ordinal zero d rising lt is = first_is e es ordinal (eq-eqb e.0 ordinal is)
entry_found (e ∷ es) ordinal (suc k) d rising lt is =
    let less : e.0 < (get_or es k d).0 = rising 0 (suc k) d (omega arith) lt in
    first_is_not e es ordinal (below e.0 ordinal (omega arith)) ∙ entry_found es ordinal k d (Rising-tail e es rising) (omega arith) is

-- the entries below one place have lower ordinals, and those from another on greater ones
pub record Narrowed (es : List Entry) (ordinal low high : ℕ) : Type 0 where
  pub within : high ≤ length es
  pub lower : (k : ℕ) (d : Entry) → k < low → (get_or es k d).0 < ordinal
  pub greater : (k : ℕ) (d : Entry) → high ≤ k → k < length es → ordinal < (get_or es k d).0

Apart : List Entry → ℕ → Type 0
Apart es ordinal = (k : ℕ) (d : Entry) → k < length es → eqb (get_or es k d).0 ordinal ≡ false

no_entry : (es : List Entry) (ordinal : ℕ) → Apart es ordinal → entry_of es ordinal ≡ None
unfolding Apart
no_entry [] ordinal h = refl
no_entry (e ∷ es) ordinal h = first_is_not e es ordinal (h 0 e (omega arith)) ∙ no_entry es ordinal (λ k d lt. h (suc k) d (omega arith))

pub entry_lacks : (es : List Entry) (ordinal low high : ℕ) → Narrowed es ordinal low high → high ≤ low → entry_of es ordinal ≡ None
unfolding Apart
entry_lacks es ordinal low high n met = no_entry es ordinal (λ k d lt. elim (cases_lt k low) [
  | inl less ↦ below (get_or es k d).0 ordinal (n.lower k d less)
  | inr more ↦ above (get_or es k d).0 ordinal (n.greater k d (omega arith) lt)
])

pub Narrowed-start : (es : List Entry) (ordinal : ℕ) → Narrowed es ordinal 0 (length es)
Narrowed-start es ordinal = record { within = omega arith; lower = λ k d lt. absurd (omega arith); greater = λ k d ge lt. absurd (omega arith) }

pub Narrowed-up : (es : List Entry) (ordinal low middle high : ℕ) (d : Entry) → Rising es → Narrowed es ordinal low high → middle < high → (get_or es middle d).0 < ordinal → Narrowed es ordinal (middle + 1) high
Narrowed-up es ordinal low middle high d rising n lt less =
    let inside : middle < length es = let top = n.within in omega arith in
    record {
      within = n.within;
      lower = λ k c under. elim (cases_lt k middle) [
        | inl before ↦ let step = rising k middle c before inside in let is = ap (λ (e : Entry). e.0) (get_or_default es middle c d inside) in omega arith
        | inr ge ↦ let here : middle ≡ k = omega arith in subst (λ (j : ℕ). (get_or es j c).0 < ordinal) here (let is = ap (λ (e : Entry). e.0) (get_or_default es middle c d inside) in omega arith)
      ];
      greater = n.greater;
    }

pub Narrowed-down : (es : List Entry) (ordinal low middle high : ℕ) (d : Entry) → Rising es → Narrowed es ordinal low high → middle < high → ordinal < (get_or es middle d).0 → Narrowed es ordinal low middle
Narrowed-down es ordinal low middle high d rising n lt more =
    let inside : middle < length es = let top = n.within in omega arith in
    record {
      within = omega arith;
      lower = n.lower;
      greater = λ k c from under. elim (cases_lt middle k) [
        | inl after ↦ let step = rising middle k c after under in let is = ap (λ (e : Entry). e.0) (get_or_default es middle c d inside) in omega arith
        | inr le ↦ let here : middle ≡ k = omega arith in subst (λ (j : ℕ). ordinal < (get_or es j c).0) here (let is = ap (λ (e : Entry). e.0) (get_or_default es middle c d inside) in omega arith)
      ];
    }
