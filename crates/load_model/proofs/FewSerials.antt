-- An order is no longer than the library, so an entry gives few serial numbers.
use Rattle.std.proofs.Common.{◌≡◌, ℕ, ◌+◌, ◌*◌, ◌<◌, ◌≤◌, ◌==◌, Bool, true, not, List, [], ◌∷◌, ◌++◌, filter, length, refl, sym, ◌∙◌, ap, subst, append_assoc, arith}
use Rattle.std.specs.Prelude.{Contains, is_none}
use Rattle.std.specs.List.{list_any}
use Rattle.std.proofs.lemmas.Bool.{eqb-true, eq-eqb, ltb-true}
use Rattle.std.proofs.lemmas.List.{append-nil, length-append, length-map}
use Rattle.std.proofs.lemmas.List.Sums.{length-filter, count_by-le-length}
use Rattle.std.proofs.lemmas.Map.Made.{IsDistinct-from_AllPairs}
use Rattle.std.proofs.lemmas.Map.Steps.{length-le_from_distinct_below}
use Rattle.lx_types.specs.Object.{class_of}
use Rattle.lx_types.specs.declared.object.Class.TheVariants as classes
use Rattle.lx_types.specs.declared.limits.TheConstants.{MAX_MODULES}
use Rattle.lx_model.specs.Reach.{Order}
use Rattle.lx_model.specs.Laws.{OrderHasEachOnce, OrderIsInLibrary}
use Rattle.load_model.specs.declared.deeds.Deed.{Deed}
use Rattle.load_model.specs.declared.deeds.Deed.TheVariants as deeds
use Rattle.load_model.specs.declared.deeds.Entry.{Entry}
use Rattle.load_model.specs.declared.deeds.Fresh.{Fresh}
use Rattle.load_model.specs.Modules.{Library, Held, order_of, object_at}
use Rattle.load_model.specs.State.{Failing, Eager, with_process, reaches, residence_of}
use Rattle.load_model.specs.Entering.{joined, newcomers, after_entering}
use Rattle.load_model.specs.Leaving.{after_leaving}
use Rattle.load_model.specs.Asks.{may_ask, deed_of, after_deed}
use Rattle.load_model.specs.Histories.{state_after, Follows, AllFollow, Legal}
use Rattle.load_model.specs.Bounds.{OrdersAreFew, SerialsAreFew}
use Rattle.load_model.proofs.Bools.{and_left}
use Rattle.load_model.proofs.Among.{any_same}
use Rattle.load_model.proofs.Orders.{among_contains}
use Rattle.load_model.proofs.Growing.{one_more_is_after}
use Rattle.load_model.proofs.Kept.{modules_of, fresh_are_new}
use Rattle.load_model.proofs.GivenSerials.{written_serials}
use Rattle.load_model.proofs.ViewWrites.{turned}
use Rattle.load_model.proofs.FailedLoads.{failed_leaves_nothing}

-- ---- an order

contained : (q : ℕ) (xs : List ℕ) → list_any (λ x. q == x) xs ≡ true → Contains xs q
contained q xs h = among_contains xs q (any_same (λ x. x == q) (λ x. q == x) (λ x. turned q x (q == x) refl) xs ∙ h)

pub orders_are_few : OrderHasEachOnce → OrderIsInLibrary → OrdersAreFew
unfolding order_of
orders_are_few once within lib m below =
    length-le_from_distinct_below (Order lib m) (length lib) (IsDistinct-from_AllPairs (λ a b. (eqb-true a b, eq-eqb a b)) (Order lib m) (once lib m))
    (λ q h. within lib m q below (contained q (Order lib m) h))

-- ---- newcomers

pub fewer : {X : Type 0} (f : X → Bool) (xs : List X) → length (filter f xs) ≤ length xs
fewer f xs = subst (λ n. n ≤ length xs) (sym (length-filter f xs)) (count_by-le-length f xs)

new_are_few : OrdersAreFew → (lib : Library) (e : Eager) (pid m : ℕ) → m < length lib → length (newcomers lib e pid m) ≤ length lib
unfolding newcomers joined
new_are_few few lib e pid m below =
    let first = fewer (λ k. not (reaches lib (e.processes pid) k)) (order_of lib m) in
    let second = fewer (λ k. is_none (residence_of e k)) (filter (λ k. not (reaches lib (e.processes pid) k)) (order_of lib m)) in
    let third = few lib m below in
    omega arith

begun_are_few : OrdersAreFew → (lib : Library) (e : Eager) (pid m : ℕ) (fresh : List Fresh) → m < length lib → modules_of fresh ≡ newcomers lib e pid m → length fresh ≤ length lib
begun_are_few few lib e pid m fresh below new =
    subst (λ n. n ≤ length lib) (ap length (sym new) ∙ length-map fresh (λ f. f.«module»)) (new_are_few few lib e pid m below)

-- ---- an entry

no_more : (a b n : ℕ) → b ≡ a → b ≤ a + n
no_more a b n same = omega (arith, same)

some_more : (a b n : ℕ) → b ≤ n → a + b ≤ a + n
some_more a b n h = omega arith

deed_gives : OrdersAreFew → (lib : Library) (failing : Failing) (contents : Held) (h : List Entry) (pid : ℕ) (d : Deed) → Follows lib failing contents h (record { pid = pid; deed = d }) →
    (after_deed lib (state_after lib failing h) pid d).serials ≤ (state_after lib failing h).serials + length lib
unfolding after_deed after_entering after_leaving with_process may_ask deed_of
deed_gives few lib failing contents h pid (deeds.Enter how m fresh calls) follows =
    some_more (state_after lib failing h).serials (length fresh) (length lib)
    (begun_are_few few lib (state_after lib failing h) pid m fresh (ltb-true m (length lib) (and_left _ _ follows.may))
    (fresh_are_new lib (state_after lib failing h) pid how m fresh calls follows.done))
deed_gives few lib failing contents h pid (deeds.Failed how m by fresh calls gone) follows =
    some_more (state_after lib failing h).serials (length fresh) (length lib)
    (begun_are_few few lib (state_after lib failing h) pid m fresh (ltb-true m (length lib) (and_left _ _ follows.may))
    (failed_leaves_nothing lib failing contents h pid how m by fresh calls gone follows).began)
deed_gives few lib failing contents h pid (deeds.Full how m of object size) follows = no_more _ _ (length lib) refl
deed_gives few lib failing contents h pid (deeds.Free m calls gone) follows = no_more _ _ (length lib) refl
deed_gives few lib failing contents h pid (deeds.Exit calls gone) follows = no_more _ _ (length lib) refl
deed_gives few lib failing contents h pid (deeds.Fault serial m p) follows = no_more _ _ (length lib) refl
deed_gives few lib failing contents h pid (deeds.Write serial m object offset bytes) follows =
    no_more _ _ (length lib) (written_serials (state_after lib failing h) pid serial (record { object = object; offset = offset; bytes = bytes }) (class_of (object_at lib m object)))
deed_gives few lib failing contents h pid (deeds.Debug serial m object offset bytes) follows =
    no_more _ _ (length lib) (written_serials (state_after lib failing h) pid serial (record { object = object; offset = offset; bytes = bytes }) classes.Private)
deed_gives few lib failing contents h pid (deeds.Shared serial m object offset bytes) follows = no_more _ _ (length lib) refl

-- ---- a history

abbrev Few : Library → Failing → List Entry → Type 0
Few lib failing h = (state_after lib failing h).serials ≤ MAX_MODULES * length h

few_more : OrdersAreFew → (lib : Library) (failing : Failing) (contents : Held) (h : List Entry) (x : Entry) → length lib ≤ MAX_MODULES → Follows lib failing contents h x →
    Few lib failing h → Few lib failing (h ++ x ∷ [])
few_more few lib failing contents h x most follows before =
    sums (state_after lib failing h).serials (state_after lib failing (h ++ x ∷ [])).serials (length lib) (length h) (length (h ++ x ∷ [])) before most
    (subst (λ (e : Eager). e.serials ≤ (state_after lib failing h).serials + length lib) (sym (one_more_is_after lib failing h x)) (deed_gives few lib failing contents h x.pid x.deed follows))
    (length-append h (x ∷ []))
  where
    sums : (a b l n m : ℕ) → a ≤ MAX_MODULES * n → l ≤ MAX_MODULES → b ≤ a + l → m ≡ n + 1 → b ≤ MAX_MODULES * m
    sums a b l n m first most more is = omega (arith, is)

all_few : OrdersAreFew → (lib : Library) (failing : Failing) (contents : Held) (h before : List Entry) → length lib ≤ MAX_MODULES → AllFollow lib failing contents before h →
    Few lib failing before → Few lib failing (before ++ h)
all_few few lib failing contents [] before most all given = (let F : List Entry → Type 0 = Few lib failing in subst F (sym (append-nil before)) given)
all_few few lib failing contents (x ∷ h) before most all given =
    let F : List Entry → Type 0 = Few lib failing in
    subst F (append_assoc before (x ∷ []) h) (all_few few lib failing contents h (before ++ x ∷ []) most all.1 (few_more few lib failing contents before x most all.0 given))

pub serials_are_few : OrderHasEachOnce → OrderIsInLibrary → SerialsAreFew
unfolding Legal state_after
serials_are_few once within lib failing contents h most legal = all_few (orders_are_few once within) lib failing contents h [] most legal (omega arith)
