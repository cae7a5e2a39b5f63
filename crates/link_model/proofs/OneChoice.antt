-- Two lists of chosen modules of one input are the same: neither has a first place at which they differ.
use Rattle.std.specs.Prelude.{◌≡◌, ℕ, suc, zero, ◌+◌, ◌-◌, ◌<◌, ◌≤◌, ◌⊎◌, List, [], ◌∷◌, Some, None, length, take, slice_get, refl}
use Rattle.std.proofs.Common.{ap, sym, ◌∙◌, arith, inl, inr, subst}
use Rattle.std.proofs.lemmas.Bool.{cases_lt}
use Rattle.std.proofs.lemmas.List.{length-take}
use Rattle.std.proofs.Math.Seq.{take-length}
use Rattle.obj_types.specs.declared.input.LinkInput.{LinkInput}
use Rattle.link_model.specs.declared.symbols.Pick.{Pick}
use Rattle.link_model.specs.Choosing.{next_pick, Chosen}
use Rattle.link_model.specs.ChosenOnce.{ChosenOnce}
use Rattle.link_model.proofs.Growing.{object_picks-length}

-- The first n + 1 items, by the first n and the item after them.
take_more : (xs ys : List Pick) (n : ℕ) → take n xs ≡ take n ys → slice_get xs n ≡ slice_get ys n → take (suc n) xs ≡ take (suc n) ys
take_more [] [] n e g = refl
take_more [] (y ∷ ys) zero e g = cc
take_more [] (y ∷ ys) (suc n) e g = cc
take_more (x ∷ xs) [] zero e g = cc
take_more (x ∷ xs) [] (suc n) e g = cc
take_more (x ∷ xs) (y ∷ ys) zero e g = let same : x ≡ y = cc in ap (λ (z : Pick). z ∷ []) same
take_more (x ∷ xs) (y ∷ ys) (suc n) e g =
    let same : x ≡ y = cc in
    let rest : take n xs ≡ take n ys = cc in
    ap (λ (z : Pick). z ∷ take (suc n) xs) same ∙ ap (λ (t : List Pick). y ∷ t) (take_more xs ys n rest g)

-- An item that there is.
there : (xs : List Pick) (n : ℕ) → n < length xs → (x : Pick) × (slice_get xs n ≡ Some x)
there [] n h = absurd (omega arith)
there (x ∷ xs) zero h = (x, refl)
there (x ∷ xs) (suc n) h = there xs n (omega arith)

-- The lists agree on their first n, and the second is as long.
pub record AgreesFor (picks others : List Pick) (n : ℕ) : Type 0 where
  pub enough : n ≤ length others
  pub same : take n picks ≡ take n others

objects_in : (input : LinkInput) (picks : List Pick) → Chosen input picks → length input.objects ≤ length picks
objects_in input picks h =
    omega (arith, ap length h.begins, length-take (length input.objects) picks, object_picks-length input)

agree_by : (input : LinkInput) (picks others : List Pick) (n : ℕ) → Chosen input picks → Chosen input others →
    length input.objects ≤ n → n < length picks → AgreesFor picks others n → (n < length others) ⊎ (length others ≤ n) → AgreesFor picks others (suc n)
agree_by input picks others n p q from below h (inl more) =
    record {
      enough = omega arith;
      same = take_more picks others n h.same (sym (p.grows n from below) ∙ (ap (next_pick input) h.same ∙ q.grows n from more));
    }
agree_by input picks others n p q from below h (inr last) =
    let found = there picks n below in
    let enough = h.enough in
    let at : n ≡ length others = omega arith in
    let all : take n others ≡ others = ap (λ (k : ℕ). take k others) at ∙ take-length others in
    let some : next_pick input (take n picks) ≡ Some found.0 = p.grows n from below ∙ found.1 in
    let none : next_pick input (take n picks) ≡ None = ap (next_pick input) (h.same ∙ all) ∙ q.ends in
    cc

agree_on : (input : LinkInput) (picks others : List Pick) (d : ℕ) → Chosen input picks → Chosen input others → length input.objects + d ≤ length picks → AgreesFor picks others (length input.objects + d)
agree_on input picks others zero p q fits =
    let at : length input.objects + 0 ≡ length input.objects = omega arith in
    let fine = objects_in input others q in
    record {
      enough = omega arith;
      same = ap (λ (k : ℕ). take k picks) at ∙ (p.begins ∙ (sym q.begins ∙ ap (λ (k : ℕ). take k others) (sym at)));
    }
agree_on input picks others (suc d) p q fits =
    let at : suc (length input.objects + d) ≡ length input.objects + suc d = omega arith in
    let before = agree_on input picks others d p q (omega arith) in
    subst (AgreesFor picks others) at (agree_by input picks others (length input.objects + d) p q (omega arith) (omega arith) before (cases_lt (length input.objects + d) (length others)))

agree_all : (input : LinkInput) (picks others : List Pick) → Chosen input picks → Chosen input others → AgreesFor picks others (length picks)
agree_all input picks others p q =
    let fits = objects_in input picks p in
    let at : length input.objects + (length picks - length input.objects) ≡ length picks = omega arith in
    subst (AgreesFor picks others) at (agree_on input picks others (length picks - length input.objects) p q (omega arith))

pub chosen_once : ChosenOnce
chosen_once input picks others p q =
    let there = agree_all input picks others p q in
    let back = agree_all input others picks q p in
    let no_longer = there.enough in
    let no_shorter = back.enough in
    let same : length picks ≡ length others = omega arith in
    sym (take-length picks) ∙ (there.same ∙ (ap (λ (k : ℕ). take k others) same ∙ take-length others))
