-- The numbers of the chosen modules by their places, with one more pick.
use Rattle.std.specs.Prelude.{◌≡◌, ℕ, ◌+◌, ◌<◌, Bool, true, false, cond, ◌==◌, List, Option, Some, None, length, take, is_some, refl}
use Rattle.std.specs.List.{position_from}
use Rattle.std.specs.Option.{option_map, option_or}
use Rattle.std.specs.Ordering.{nat_cmp, is_eq}
use Rattle.std.specs.BTreeMap.{BTreeMap, get, is_at}
use Rattle.std.proofs.Common.{ap, sym, ◌∙◌, true≢false, subst, arith}
use Rattle.std.proofs.lemmas.Bool.Decides.{nat_tests}
use Rattle.std.proofs.lemmas.List.{get_or_default}
use Rattle.std.proofs.Math.ListN.{get_or}
use Rattle.std.proofs.lemmas.Bool.{eqb-true}
use Rattle.std.proofs.lemmas.Iterator.Adapters.{position_from-zero}
use Rattle.obj_types.specs.declared.input.LinkInput.{LinkInput}
use Rattle.link_model.specs.declared.symbols.Pick.{Pick}
use Rattle.link_model.specs.Clash.{place_of, chosen_number}
use Rattle.sym_table.specs.Leading.{given}
use Rattle.sym_table.proofs.LeaderTables.{position-more, map-or}
use Rattle.comdat_core.specs.Judging.{HasNumbers}

map-given : (b : Bool) (v : ℕ) → option_map (λ k. k + 1) (given b v) ≡ given b (v + 1)
map-given true v = refl
map-given false v = refl

number_more : (input : LinkInput) (picks : List Pick) (i : ℕ) (pick : Pick) (place : ℕ) → i < length picks → pick ≡ get_or picks i pick → chosen_number input (take (i + 1) picks) place ≡ option_or (chosen_number input (take i picks) place) (given (place_of input pick == place) (i + 1))
number_more input picks i pick place below is =
    let test : Pick → Bool = λ p. place_of input p == place in
    let next : ℕ → ℕ = λ k. k + 1 in
    ap (option_map next) (position_from-zero test (take (i + 1) picks) ∙ position-more test picks i pick below is)
    ∙ map-or next (position_from test 0 (take i picks)) (given (test pick) i)
    ∙ ap (λ (o : Option ℕ). option_or (option_map next o) (option_map next (given (test pick) i))) (sym (position_from-zero test (take i picks)))
    ∙ ap (option_or (chosen_number input (take i picks) place)) (map-given (test pick) i)

held_by : (o : Option ℕ) (b : Bool) (v : ℕ) → (b ≡ true → is_some o ≡ true) → o ≡ option_or o (given b v)
held_by (Some n) b v h = refl
held_by None true v h = absurd (true≢false (sym (h refl)))
held_by None false v h = refl

put_by : (o : Option ℕ) (b : Bool) (v : ℕ) → (b ≡ true → o ≡ None) → cond b (Some v) o ≡ option_or o (given b v)
put_by None true v h = refl
put_by None false v h = refl
put_by (Some n) true v h = ap (λ (o : Option ℕ). option_or o (Some v)) (sym (h refl))
put_by (Some n) false v h = refl

-- A place that has its number keeps it.
pub numbers_stay : (input : LinkInput) (picks : List Pick) (i : ℕ) (pick : Pick) (numbers : BTreeMap ℕ ℕ) → i < length picks → pick ≡ get_or picks i pick → HasNumbers input (take i picks) numbers → is_some (get nat_cmp numbers (place_of input pick)) ≡ true → HasNumbers input (take (i + 1) picks) numbers
numbers_stay input picks i pick numbers below is has there = λ place.
    held_by (get nat_cmp numbers place) (place_of input pick == place) (i + 1) (λ e. ap (λ (n : ℕ). is_some (get nat_cmp numbers n)) (sym (eqb-true (place_of input pick) place e)) ∙ there)
    ∙ ap (λ (o : Option ℕ). option_or o (given (place_of input pick == place) (i + 1))) (has place)
    ∙ sym (number_more input picks i pick place below is)

equal_places : (p q : ℕ) → is_eq (nat_cmp p q) ≡ (p == q)
equal_places p q = grind (arith, nat_tests)

-- A place that has none gets one.
pub numbers_put : (input : LinkInput) (picks : List Pick) (i : ℕ) (pick : Pick) (old new : BTreeMap ℕ ℕ) → i < length picks → pick ≡ get_or picks i pick → HasNumbers input (take i picks) old → is_some (get nat_cmp old (place_of input pick)) ≡ false
    → ((q : ℕ) → get nat_cmp new q ≡ cond (is_at (nat_cmp (place_of input pick)) q) (Some (i + 1)) (get nat_cmp old q)) → HasNumbers input (take (i + 1) picks) new
numbers_put input picks i pick old new below is has none puts = λ place.
    puts place
    ∙ ap (λ (b : Bool). cond b (Some (i + 1)) (get nat_cmp old place)) (equal_places (place_of input pick) place)
    ∙ put_by (get nat_cmp old place) (place_of input pick == place) (i + 1) (λ e. gone (get nat_cmp old place) (ap (λ (n : ℕ). is_some (get nat_cmp old n)) (sym (eqb-true (place_of input pick) place e)) ∙ none))
    ∙ ap (λ (o : Option ℕ). option_or o (given (place_of input pick == place) (i + 1))) (has place)
    ∙ sym (number_more input picks i pick place below is)
  where
    gone : (o : Option ℕ) → is_some o ≡ false → o ≡ None
    gone None e = refl
    gone (Some n) e = absurd (true≢false e)

-- The same of the pick at a place of the list, by its own place.
pub numbers_stay_at : (input : LinkInput) (picks : List Pick) (i p : ℕ) (d : Pick) (old new : BTreeMap ℕ ℕ) → i < length picks → p ≡ place_of input (get_or picks i d) → HasNumbers input (take i picks) old → is_some (get nat_cmp old p) ≡ true → new ≡ old → HasNumbers input (take (i + 1) picks) new
numbers_stay_at input picks i p d old new below place has there same =
    let pick = get_or picks i d in
    subst (HasNumbers input (take (i + 1) picks)) (sym same) (numbers_stay input picks i pick old below (get_or_default picks i d pick below) has (ap (λ (n : ℕ). is_some (get nat_cmp old n)) (sym place) ∙ there))

pub numbers_put_at : (input : LinkInput) (picks : List Pick) (i p n : ℕ) (d : Pick) (old put new : BTreeMap ℕ ℕ) → i < length picks → p ≡ place_of input (get_or picks i d) → HasNumbers input (take i picks) old → is_some (get nat_cmp old p) ≡ false → n ≡ i + 1
    → ((q : ℕ) → get nat_cmp put q ≡ cond (is_at (nat_cmp p) q) (Some n) (get nat_cmp old q)) → new ≡ put → HasNumbers input (take (i + 1) picks) new
numbers_put_at input picks i p n d old put new below place has none number puts same =
    let pick = get_or picks i d in
    subst (HasNumbers input (take (i + 1) picks)) (sym same)
    (numbers_put input picks i pick old put below (get_or_default picks i d pick below) has (ap (λ (k : ℕ). is_some (get nat_cmp old k)) (sym place) ∙ none)
    (λ q. puts q ∙ ap (λ (k : ℕ). cond (is_at (nat_cmp k) q) (Some n) (get nat_cmp old q)) place ∙ ap (λ (k : ℕ). cond (is_at (nat_cmp (place_of input pick)) q) (Some k) (get nat_cmp old q)) number))
