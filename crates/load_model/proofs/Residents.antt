-- What every legal history keeps, entry by entry.
use Rattle.std.proofs.Common.{◌≡◌, ℕ, ◌==◌, Bool, true, false, not, ◌&&◌, ◌||◌, List, [], ◌∷◌, ◌++◌, map, refl, sym, ◌∙◌, ap, subst, append_assoc}
use Rattle.std.specs.List.{list_any}
use Rattle.std.specs.Prelude.{nat_lt, count_by, fold, cond}
use Rattle.std.proofs.Common.{◌+◌, arith}
use Rattle.std.proofs.lemmas.Bool.{lt-ltb}
use Rattle.std.proofs.lemmas.List.{append-nil}
use Rattle.std.proofs.Math.Bool.{or_assoc}
use Rattle.load_model.specs.declared.deeds.Call.{Call}
use Rattle.load_model.specs.declared.deeds.Gone.{Gone}
use Rattle.load_model.specs.declared.deeds.Deed.{Deed}
use Rattle.load_model.specs.declared.deeds.Deed.TheVariants as deeds
use Rattle.load_model.specs.declared.deeds.Entry.{Entry}
use Rattle.load_model.specs.Modules.{Library, Held, order_of}
use Rattle.load_model.specs.State.{Failing, Eager, nothing_yet, is_among, pids, reaches, is_reached}
use Rattle.load_model.specs.declared.deeds.Fresh.{Fresh}
use Rattle.lx_types.specs.declared.object.Class.TheVariants as classes
use Rattle.load_model.specs.Initialising.{after_failing}
use Rattle.load_model.specs.Leaving.{gone, freeing, exiting}
use Rattle.load_model.specs.Asks.{ask_in, deed_of, may_ask, after_deed}
use Rattle.load_model.specs.Histories.{state_after, Follows, AllFollow, Legal}
use Rattle.load_model.specs.Laws.{gone_in, ReachedIsResident, AttachedIsReached, GoneIsUnreached, CountsAreResidence}
use Rattle.load_model.proofs.Bools.{and_right, or_false, or_true}
use Rattle.load_model.proofs.Kept.{Kept, others, is_resident, reached_apart, entered_kept, entered_reached, fresh_are_new}
use Rattle.load_model.proofs.KeptLeaving.{freeing_gives_up, exiting_gives_up, left_kept, gone_unreached, written_kept, written_reached}
use Rattle.load_model.proofs.Growing.{one_more_is_after}

-- a process asked it, and it was done
pub record Done (lib : Library) (contents : Held) (e : Eager) (pid : ℕ) (d : Deed) : Type 0 where
  pub there : is_among pids pid ≡ true
  pub may : may_ask lib e pid (ask_in d) ≡ true
  pub is : d ≡ deed_of lib contents e pid (ask_in d)

failed_reached : (lib : Library) (e : Eager) (fresh : List Fresh) (k : ℕ) → is_reached lib (after_failing e fresh) k ≡ is_reached lib e k
unfolding is_reached
failed_reached lib e fresh k = refl

failed_kept : (lib : Library) (e : Eager) (fresh : List Fresh) → Kept lib e → Kept lib (after_failing e fresh)
failed_kept lib e fresh kept = record { attached = kept.attached; resident = λ m. kept.resident m ∙ sym (failed_reached lib e fresh m) }

pub after_kept : (lib : Library) (contents : Held) (e : Eager) (pid : ℕ) (d : Deed) → Done lib contents e pid d → Kept lib e → Kept lib (after_deed lib e pid d)
unfolding after_deed may_ask deed_of
after_kept lib contents e pid (deeds.Enter how m fresh calls) done kept =
    entered_kept lib e pid how m fresh done.there (and_right _ _ done.may) (fresh_are_new lib e pid how m fresh calls done.is) kept
after_kept lib contents e pid (deeds.Full how m of object size) done kept = kept
after_kept lib contents e pid (deeds.Failed how m by fresh calls gone) done kept = failed_kept lib e fresh kept
after_kept lib contents e pid (deeds.Free m calls gone) done kept =
    left_kept lib e pid (freeing m (e.processes pid)) done.there (freeing_gives_up lib m (e.processes pid)) kept
after_kept lib contents e pid (deeds.Exit calls gone) done kept = left_kept lib e pid (exiting (e.processes pid)) done.there (exiting_gives_up lib (e.processes pid)) kept
after_kept lib contents e pid (deeds.Fault serial m p) done kept = kept
after_kept lib contents e pid (deeds.Write serial m object offset bytes) done kept = written_kept lib e pid serial _ _ done.there kept
after_kept lib contents e pid (deeds.Debug serial m object offset bytes) done kept = written_kept lib e pid serial _ classes.Private done.there kept
after_kept lib contents e pid (deeds.Shared serial m object offset bytes) done kept = kept

pub done_by : (lib : Library) (failing : Failing) (contents : Held) (h : List Entry) (x : Entry) → Follows lib failing contents h x → Done lib contents (state_after lib failing h) x.pid x.deed
done_by lib failing contents h x f = record { there = f.process; may = f.may; is = f.done }

-- ---- along a history

all_kept : (lib : Library) (failing : Failing) (contents : Held) (before h : List Entry) →
    AllFollow lib failing contents before h → Kept lib (state_after lib failing before) → Kept lib (state_after lib failing (before ++ h))
all_kept lib failing contents before [] all kept = subst (λ b. Kept lib (state_after lib failing b)) (sym (append-nil before)) kept
all_kept lib failing contents before (x ∷ h) all kept =
    let next : Kept lib (state_after lib failing (before ++ x ∷ [])) =
    subst (Kept lib) (sym (one_more_is_after lib failing before x)) (after_kept lib contents (state_after lib failing before) x.pid x.deed (done_by lib failing contents before x all.0) kept)
    in
    subst (λ b. Kept lib (state_after lib failing b)) (append_assoc before (x ∷ []) h) (all_kept lib failing contents (before ++ x ∷ []) h all.1 next)

nothing_kept : (lib : Library) (failing : Failing) → Kept lib (nothing_yet failing)
unfolding reaches is_reached
nothing_kept lib failing = record { attached = λ pid m. refl; resident = λ m. refl }

pub legal_kept : (lib : Library) (failing : Failing) (contents : Held) (h : List Entry) → Legal lib failing contents h → Kept lib (state_after lib failing h)
unfolding Legal state_after
legal_kept lib failing contents h legal = all_kept lib failing contents [] h legal (nothing_kept lib failing)

pub reached_is_resident : ReachedIsResident
reached_is_resident lib failing contents h legal m = is_resident (state_after lib failing h) m ∙ (legal_kept lib failing contents h legal).resident m

pub attached_is_reached : AttachedIsReached
attached_is_reached lib failing contents h legal pid m = (legal_kept lib failing contents h legal).attached pid m

-- ---- what is gone

none_gone : (o r s : Bool) → false ≡ (r || s) && not ((o || r) || s)
none_gone true true s = refl
none_gone true false true = refl
none_gone true false false = refl
none_gone false true s = refl
none_gone false false true = refl
none_gone false false false = refl

none_more : (a b : Bool) → b ≡ a → false ≡ a && not b
none_more true b e = (let same : b ≡ true = e in ap (λ x. true && not x) (sym same))
none_more false b e = refl

free_gone : (m : ℕ) (calls made : List Call) (xs ys : List Gone) → deeds.Free m calls xs ≡ deeds.Free m made ys → xs ≡ ys
free_gone m calls made xs ys e = cc

exit_gone : (calls made : List Call) (xs ys : List Gone) → deeds.Exit calls xs ≡ deeds.Exit made ys → xs ≡ ys
exit_gone calls made xs ys e = cc

gone_after : (lib : Library) (contents : Held) (e : Eager) (pid : ℕ) (d : Deed) (k : ℕ) → Done lib contents e pid d → Kept lib e →
    is_among (map (λ g. g.«module») (gone_in d)) k ≡ list_any (λ r. r.«module» == k) e.residences && not (is_reached lib (after_deed lib e pid d) k)
unfolding after_deed may_ask deed_of
gone_after lib contents e pid (deeds.Enter how m fresh calls) k done kept =
    none_gone (is_among (order_of lib m) k) (reaches lib (e.processes pid) k) (others lib e pid k)
    ∙ ap (λ b. b && not ((is_among (order_of lib m) k || reaches lib (e.processes pid) k) || others lib e pid k)) (sym (kept.resident k ∙ reached_apart lib e pid k done.there))
    ∙ ap (λ b. list_any (λ r. r.«module» == k) e.residences && not b) (sym (entered_reached lib e pid how m fresh k done.there (and_right _ _ done.may)))
gone_after lib contents e pid (deeds.Full how m of object size) k done kept = none_more _ _ (sym (kept.resident k))
gone_after lib contents e pid (deeds.Failed how m by fresh calls gone) k done kept = none_more _ _ (failed_reached lib e fresh k ∙ sym (kept.resident k))
gone_after lib contents e pid (deeds.Free m calls xs) k done kept =
    ap (λ ys. is_among (map (λ g. g.«module») ys) k) (free_gone m calls _ xs _ done.is)
    ∙ gone_unreached lib e pid (freeing m (e.processes pid)) k done.there (freeing_gives_up lib m (e.processes pid)) kept
gone_after lib contents e pid (deeds.Exit calls xs) k done kept =
    ap (λ ys. is_among (map (λ g. g.«module») ys) k) (exit_gone calls _ xs _ done.is)
    ∙ gone_unreached lib e pid (exiting (e.processes pid)) k done.there (exiting_gives_up lib (e.processes pid)) kept
gone_after lib contents e pid (deeds.Fault serial m p) k done kept = none_more _ _ (sym (kept.resident k))
gone_after lib contents e pid (deeds.Write serial m object offset bytes) k done kept =
    none_more _ _ (written_reached lib e pid serial _ _ k done.there ∙ sym (kept.resident k))
gone_after lib contents e pid (deeds.Debug serial m object offset bytes) k done kept =
    none_more _ _ (written_reached lib e pid serial _ classes.Private k done.there ∙ sym (kept.resident k))
gone_after lib contents e pid (deeds.Shared serial m object offset bytes) k done kept = none_more _ _ (sym (kept.resident k))

pub gone_is_unreached : GoneIsUnreached
gone_is_unreached lib failing contents h x k legal follows =
    let e : Eager = state_after lib failing h in
    gone_after lib contents e x.pid x.deed k (done_by lib failing contents h x follows) (legal_kept lib failing contents h legal)
    ∙ ap (λ b. b && not (is_reached lib (after_deed lib e x.pid x.deed) k)) (sym (is_resident e k))

-- ---- counts

one_more : (a : ℕ) (b : Bool) → nat_lt 0 (a + cond b 1 0) ≡ nat_lt 0 a || b
one_more a true = lt-ltb 0 (a + 1) (omega arith) ∙ sym (or_true (nat_lt 0 a))
one_more a false = (let same : a + 0 ≡ a = omega arith in ap (nat_lt 0) same ∙ sym (or_false (nat_lt 0 a)))

any_from : {X : Type 0} (f : X → Bool) (a : ℕ) (xs : List X) → nat_lt 0 (fold (λ n x. n + cond (f x) 1 0) a xs) ≡ nat_lt 0 a || list_any f xs
any_from f a [] = sym (or_false (nat_lt 0 a))
any_from f a (x ∷ xs) =
    any_from f (a + cond (f x) 1 0) xs ∙ ap (λ b. b || list_any f xs) (one_more a (f x)) ∙ or_assoc (nat_lt 0 a) (f x) (list_any f xs)

pub any_counts : {X : Type 0} (f : X → Bool) (xs : List X) → list_any f xs ≡ nat_lt 0 (count_by f xs)
any_counts f xs = sym (any_from f 0 xs)

pub counts_are_residence : CountsAreResidence
unfolding is_reached
counts_are_residence lib failing contents h legal m =
    reached_is_resident lib failing contents h legal m ∙ any_counts (λ pid. reaches lib ((state_after lib failing h).processes pid) m) pids
