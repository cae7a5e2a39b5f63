-- Residences that stand, from one entry to the next.
use Rattle.std.proofs.Common.{◌≡◌, ℕ, ◌==◌, Bool, true, false, cond, if◌then◌else◌, not, ◌&&◌, List, [], ◌∷◌, ◌++◌, map, filter, find, Option, Some, None, is_some, refl, sym, ◌∙◌, ap}
use Rattle.std.specs.Prelude.{option_map}
use Rattle.std.proofs.lemmas.Bool.{eqb-true}
use Rattle.lx_types.specs.declared.object.Class.{Class}
use Rattle.lx_types.specs.declared.object.Class.TheVariants as classes
use Rattle.load_model.specs.declared.deeds.Fresh.{Fresh}
use Rattle.load_model.specs.declared.deeds.How.{How}
use Rattle.load_model.specs.declared.deeds.Deed.{Deed}
use Rattle.load_model.specs.declared.deeds.Deed.TheVariants as deeds
use Rattle.load_model.specs.Modules.{Library, Held}
use Rattle.load_model.specs.State.{Residence, Process, Eager, Written, with_process, is_among, pids, is_reached, residence_of}
use Rattle.load_model.specs.Entering.{after_entering, residence_from}
use Rattle.load_model.specs.Initialising.{after_failing}
use Rattle.load_model.specs.Leaving.{gone_modules, after_leaving, freeing, exiting}
use Rattle.load_model.specs.Memory.{with_write}
use Rattle.load_model.specs.Asks.{after_write, after_deed}
use Rattle.load_model.specs.Histories.{state_after}
use Rattle.load_model.specs.Laws.{unwritten_of, ResidenceStays, ReachStays}
use Rattle.load_model.proofs.Bools.{and_false}
use Rattle.load_model.proofs.Kept.{Kept, is_resident}
use Rattle.load_model.proofs.KeptLeaving.{GivesUp, gone_among, left_reached, freeing_gives_up, exiting_gives_up}
use Rattle.load_model.proofs.Residents.{Done, done_by, after_kept, legal_kept}
use Rattle.load_model.proofs.Orders.{OrdersNest, reached_closed}

-- ---- the first that passes

find_append : {X : Type 0} (f : X → Bool) (xs ys : List X) → is_some (find f xs) ≡ true → find f (xs ++ ys) ≡ find f xs
find_append f [] ys h = (let wrong : false ≡ true = h in cc)
find_append f (x ∷ xs) ys h = step (f x) (find_append f xs ys) h
  where
    step : (b : Bool) → (is_some (find f xs) ≡ true → find f (xs ++ ys) ≡ find f xs) → is_some (cond b (Some x) (find f xs)) ≡ true →
        cond b (Some x) (find f (xs ++ ys)) ≡ cond b (Some x) (find f xs)
    step true later h = refl
    step false later h = later h

find_filter_at : {X : Type 0} (of : X → ℕ) (g : ℕ → Bool) (m : ℕ) (xs : List X) → g m ≡ true → find (λ x. of x == m) (filter (λ x. g (of x)) xs) ≡ find (λ x. of x == m) xs
find_filter_at of g m [] h = refl
find_filter_at {X} of g m (x ∷ xs) h = step (of x == m) refl (g (of x)) refl (find_filter_at of g m xs h)
  where
    rest : Option X
    rest = find (λ y. of y == m) xs

    kept : List X
    kept = filter (λ y. g (of y)) xs

    inner : (b c : Bool) → (of x == m) ≡ b → find (λ y. of y == m) kept ≡ rest → (b ≡ true → c ≡ true) → find (λ y. of y == m) (cond c (x ∷ kept) kept) ≡ cond b (Some x) rest
    inner b true e later h = ap (λ z. cond z (Some x) (find (λ y. of y == m) kept)) e ∙ ap (λ z. cond b (Some x) z) later
    inner true false e later h = (let wrong : false ≡ true = h refl in cc)
    inner false false e later h = later

    step : (b : Bool) → (of x == m) ≡ b → (c : Bool) → g (of x) ≡ c → find (λ y. of y == m) kept ≡ rest → find (λ y. of y == m) (cond c (x ∷ kept) kept) ≡ cond b (Some x) rest
    step b e c f later = inner b c e later (λ t. sym f ∙ ap g (eqb-true (of x) m (e ∙ t)) ∙ h)

find_map : {X : Type 0} (f : X → Bool) (g : X → X) → ((x : X) → f (g x) ≡ f x) → (xs : List X) → find f (map g xs) ≡ option_map g (find f xs)
find_map f g same [] = refl
find_map f g same (x ∷ xs) = ap (λ b. cond b (Some (g x)) (find f (map g xs))) (same x) ∙ step (f x) (find_map f g same xs)
  where
    step : (b : Bool) → find f (map g xs) ≡ option_map g (find f xs) → cond b (Some (g x)) (find f (map g xs)) ≡ option_map g (cond b (Some x) (find f xs))
    step true later = refl
    step false later = later

-- ---- one entry

pub entered_stays : (lib : Library) (e : Eager) (pid : ℕ) (how : How) (m : ℕ) (fresh : List Fresh) (k : ℕ) → is_some (residence_of e k) ≡ true →
    residence_of (after_entering lib e pid how m fresh) k ≡ residence_of e k
unfolding after_entering with_process residence_of
entered_stays lib e pid how m fresh k h = find_append (λ r. r.«module» == k) e.residences (map residence_from fresh) h

not_gone : (a n : Bool) → n ≡ true → not (a && not n) ≡ true
not_gone a n h = ap (λ x. not (a && not x)) h ∙ ap not (and_false a)

pub left_stays : (lib : Library) (e : Eager) (pid : ℕ) (p : Process) (k : ℕ) → is_among pids pid ≡ true → Kept lib e → GivesUp lib (e.processes pid) p →
    is_reached lib (after_leaving lib e pid p) k ≡ true → residence_of (after_leaving lib e pid p) k ≡ residence_of e k
unfolding after_leaving residence_of
left_stays lib e pid p k there kept gives reached =
    find_filter_at (λ r. r.«module») (λ x. not (is_among (gone_modules lib e pid p) x)) k e.residences
    (ap not (gone_among lib e pid p k there kept gives) ∙ not_gone _ _ (sym (left_reached lib e pid p k there) ∙ reached))

write_stays : (serial : ℕ) (w : Written) (r : Option Residence) → unwritten_of (option_map (with_write serial w) r) ≡ unwritten_of r
write_stays serial w None = refl
write_stays serial w (Some r) = step (r.serial == serial)
  where
    step : (b : Bool) → unwritten_of (Some (if b then record r { writes = r.writes ++ w ∷ [] } else r)) ≡ unwritten_of (Some r)
    step true = refl
    step false = refl

write_module : (serial : ℕ) (w : Written) (k : ℕ) (r : Residence) → ((with_write serial w r).«module» == k) ≡ (r.«module» == k)
write_module serial w k r = step (r.serial == serial)
  where
    step : (b : Bool) → ((if b then record r { writes = r.writes ++ w ∷ [] } else r).«module» == k) ≡ (r.«module» == k)
    step true = refl
    step false = refl

pub written_stays : (e : Eager) (pid serial : ℕ) (w : Written) (class : Class) (k : ℕ) → unwritten_of (residence_of (after_write e pid serial w class) k) ≡ unwritten_of (residence_of e k)
unfolding residence_of with_process
written_stays e pid serial w classes.Code k = refl
written_stays e pid serial w classes.Private k = refl
written_stays e pid serial w classes.Shared k =
    ap unwritten_of (find_map (λ r. r.«module» == k) (with_write serial w) (write_module serial w k) e.residences) ∙ write_stays serial w (find (λ r. r.«module» == k) e.residences)

failed_stays : (e : Eager) (fresh : List Fresh) (k : ℕ) → unwritten_of (residence_of (after_failing e fresh) k) ≡ unwritten_of (residence_of e k)
unfolding residence_of
failed_stays e fresh k = refl

pub deed_stays : (lib : Library) (contents : Held) (e : Eager) (pid : ℕ) (d : Deed) (k : ℕ) → Done lib contents e pid d → Kept lib e → is_some (residence_of e k) ≡ true →
    is_reached lib (after_deed lib e pid d) k ≡ true → unwritten_of (residence_of (after_deed lib e pid d) k) ≡ unwritten_of (residence_of e k)
unfolding after_deed
deed_stays lib contents e pid (deeds.Enter how m fresh calls) k done kept h reached = ap unwritten_of (entered_stays lib e pid how m fresh k h)
deed_stays lib contents e pid (deeds.Full how m of object size) k done kept h reached = refl
deed_stays lib contents e pid (deeds.Failed how m by fresh calls gone) k done kept h reached = failed_stays e fresh k
deed_stays lib contents e pid (deeds.Free m calls gone) k done kept h reached =
    ap unwritten_of (left_stays lib e pid (freeing m (e.processes pid)) k done.there kept (freeing_gives_up lib m (e.processes pid)) reached)
deed_stays lib contents e pid (deeds.Exit calls gone) k done kept h reached =
    ap unwritten_of (left_stays lib e pid (exiting (e.processes pid)) k done.there kept (exiting_gives_up lib (e.processes pid)) reached)
deed_stays lib contents e pid (deeds.Fault serial m p) k done kept h reached = refl
deed_stays lib contents e pid (deeds.Write serial m object offset bytes) k done kept h reached = written_stays e pid serial _ _ k
deed_stays lib contents e pid (deeds.Debug serial m object offset bytes) k done kept h reached = written_stays e pid serial _ classes.Private k
deed_stays lib contents e pid (deeds.Shared serial m object offset bytes) k done kept h reached = refl

pub residence_stays : ResidenceStays
residence_stays lib failing contents h x m legal follows there reached =
    deed_stays lib contents (state_after lib failing h) x.pid x.deed m (done_by lib failing contents h x follows) (legal_kept lib failing contents h legal) there reached

pub resident_reached : (lib : Library) (e : Eager) (m : ℕ) → Kept lib e → is_some (residence_of e m) ≡ is_reached lib e m
resident_reached lib e m kept = is_resident e m ∙ kept.resident m

pub reach_stays : OrdersNest → ReachStays
reach_stays nest lib failing contents h x m k legal follows before after member =
    let e : Eager = state_after lib failing h in
    let kept : Kept lib e = legal_kept lib failing contents h legal in
    let done : Done lib contents e x.pid x.deed = done_by lib failing contents h x follows in
    let later : Kept lib (after_deed lib e x.pid x.deed) = after_kept lib contents e x.pid x.deed done kept in
    let there : is_some (residence_of e k) ≡ true =
    resident_reached lib e k kept ∙ reached_closed nest lib e m k (sym (resident_reached lib e m kept) ∙ before) member
    in
    let reached : is_reached lib (after_deed lib e x.pid x.deed) k ≡ true =
    reached_closed nest lib (after_deed lib e x.pid x.deed) m k (sym (resident_reached lib (after_deed lib e x.pid x.deed) m later) ∙ after) member
    in
    (there, deed_stays lib contents e x.pid x.deed k done kept there reached)
