-- What a table keeps of its residences.
use Rattle.std.proofs.Common.{◌≡◌, Bool, true, false, cond, List, [], ◌∷◌, length, refl, ◌∙◌, ap, subst, arith}
use Rattle.std.specs.List.{filter, items_where_true}
use Rattle.std.specs.List.Retain.{IsFiltered, ReturnsInTurn}

-- ---- what `retain` keeps, where no call changes the closure

module _ {X F : Type 0} (R : F → X → Bool → F → Type 0) (test : X → Bool) (f : F) (says : (x : X) (b : Bool) (g : F) → R f x b g → (b ≡ test x) × (g ≡ f)) where
  kept_in_turn : (bs : List Bool) (xs : List X) (q : F) → length bs ≡ length xs → ReturnsInTurn R f bs xs q → items_where_true bs xs ≡ filter test xs
  kept_in_turn [] [] q long told = refl
  kept_in_turn [] (x ∷ xs) q long told = absurd (omega (arith, long))
  kept_in_turn (b ∷ bs) [] q long told = absurd told
  kept_in_turn (true ∷ bs) (x ∷ xs) q long told =
      let one = says x true told.0 told.1 in
      let rest = kept_in_turn bs xs q (omega (arith, long)) (subst (λ (g : F). ReturnsInTurn R g bs xs q) one.1 told.2) in
      ap (λ ys. x ∷ ys) rest ∙ ap (λ b. cond b (x ∷ filter test xs) (filter test xs)) one.0
  kept_in_turn (false ∷ bs) (x ∷ xs) q long told =
      let one = says x false told.0 told.1 in
      let rest = kept_in_turn bs xs q (omega (arith, long)) (subst (λ (g : F). ReturnsInTurn R g bs xs q) one.1 told.2) in
      rest ∙ ap (λ b. cond b (x ∷ filter test xs) (filter test xs)) one.0

  pub filter_from_retained : (xs ys : List X) → IsFiltered R f xs ys → ys ≡ filter test xs
  filter_from_retained xs ys kept = kept.4 ∙ kept_in_turn kept.0 xs kept.1 kept.2 kept.3
