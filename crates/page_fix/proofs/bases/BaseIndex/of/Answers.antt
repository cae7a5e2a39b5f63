use Rattle.std.proofs.Common.{◌≡◌, ◌+◌, ◌++◌, ◌∷◌, ◌∙◌, [], ℕ, List, Option, Some, None, get_or, set, take, length, sym, ap, subst, rules, arith}
use Rattle.std.specs.Option.{option_or}
use Rattle.std.proofs.lemmas.List.{take_more, length-take-le, length-set}
use Rattle.lx_types.specs.declared.bases.ModBases.{ModBases}
use Rattle.page_fix.specs.Found.{AreFound}
use Rattle.page_fix.proofs.Places.{noted, past_noted, none_noted}
use Rattle.page_fix.proofs.bases.BaseIndex.of.Goals as goal
use Rattle.page_fix.proofs.bases.BaseIndex.of.Goals.{then-m-lt-MAX_MODULES_LEN, else-m-lt-MAX_MODULES_LEN}

pub loop-place-init : goal.loop-place-init
loop-place-init c = (search rules, none_noted)

pub loop-place-preserved : goal.loop-place-preserved
loop-place-preserved c =
    let mods : List ModBases = c.as_slice-mods.result.now in
    let n : ℕ = c.loop-place.place in
    let own : ModBases = get_or mods n c.index-mods-place.result in
    let places : List (Option ℕ) = c.loop-place.places in
    let more : take n mods ++ own ∷ [] ≡ take (n + 1) mods = sym (take_more mods n c.index-mods-place.result c.loop-place-test.true) in
    let long : length (take n mods) ≡ n = length-take-le n mods (omega (arith, c.loop-place-test.true)) in
    elim c.if-m-lt-MAX_MODULES_LEN.branch [
      | then-m-lt-MAX_MODULES_LEN w ↦
          let put : set places own.«module» (option_or (get_or places own.«module» None) (Some (length (take n mods)))) ≡ c.if-m-lt-MAX_MODULES_LEN.places =
          ap (λ (k : ℕ). set places own.«module» (option_or (get_or places own.«module» None) (Some k))) long
          ∙ ap (λ (o : Option ℕ). set places own.«module» o) (sym w.or.ensures) ∙ sym w.places-is in (
            subst (λ (xs : List (Option ℕ)). length xs ≡ 64) (sym w.places-is) (length-set places own.«module» w.or.result ∙ c.loop-place.invariant.0),
            subst (λ (xs : List ModBases). AreFound xs c.if-m-lt-MAX_MODULES_LEN.places) more
                (subst (AreFound (take n mods ++ own ∷ [])) put
                (noted (take n mods) own places c.loop-place.invariant.0 w.if-m-lt-MAX_MODULES_LEN.true c.loop-place.invariant.1)),
          )
      | else-m-lt-MAX_MODULES_LEN w ↦ (
        subst (λ (xs : List (Option ℕ)). length xs ≡ 64) (sym w.places-is) c.loop-place.invariant.0,
        subst (λ (xs : List ModBases). AreFound xs c.if-m-lt-MAX_MODULES_LEN.places) more
            (subst (AreFound (take n mods ++ own ∷ [])) (sym w.places-is)
            (past_noted (take n mods) own places w.if-m-lt-MAX_MODULES_LEN.false c.loop-place.invariant.1)),
      )
    ]
