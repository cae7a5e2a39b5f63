-- What a process is answered by its view is what the loader answers at its front.
use Rattle.proc_core.proofs.Words.{answer_of, AnsweredByView, ap, Bool, call_refusal, Command, debug, Ended, Err, false, fixed_bytes, found_refusal, front_of, Holding, Holds, inl, inr, is_held_in, IsAnswerAtFront}
use Rattle.proc_core.proofs.Words.{IsRefusedAtFront, IsRefusedCall, IsReplied, IsWorn, key_refusal, leb-true, Library, MatchResult, MAX_TICKETS, nat_le, None, not, NotHeld, number_of, Ok, Option, ◌orelse◌, peek, ProcState}
use Rattle.proc_core.proofs.Words.{reached_named, refl, Refusal, Refused, RefusedByView, RefusedIsTold, Reply, residence_refusal, Result, same_Some, seen_process, share, Some, started_refusal, state_for, steady, subst, sym, touch}
use Rattle.proc_core.proofs.Words.{true, view_module_or_none, view_reply, when, Worn, write, ℕ, ◌∙◌, ◌≡◌, ◌⊎◌}
use Rattle.load_model.specs.declared.commands.Command.TheVariants as commands
use Rattle.load_model.specs.declared.deeds.How.TheVariants as ways
use Rattle.load_model.specs.ViewAnswers.{view_refusal}

pub record Laws : Type 0 where
  pub refusals : RefusedByView
  pub replies : AnsweredByView
  pub told : RefusedIsTold

pub replied : Laws → (p : ProcState) → Holds p → (command : Command) (reply : Reply) → view_refusal p.view.library p.view.holding command ≡ None →
    view_reply p.view.library p.view.holding command ≡ Some reply → IsReplied p command reply
replied laws p holds command reply accepted is = record {
  accepted = accepted;
  replied = is;
  step = subst (λ (pid : ℕ). answer_of p.view.library (fixed_bytes p.view.library) (state_for p.view.library (front_of p).failing p.view.holding p.known.seen) pid command ≡ steady reply) holds.number
      (laws.replies p.view.library (front_of p).failing (fixed_bytes p.view.library) p.view.holding p.known.seen command reply holds.legal holds.stands.stands accepted is);
}

-- a view's refusal is the loader's
pub front_refused : RefusedByView → RefusedIsTold → (p : ProcState) → Holds p → (command : Command) (refusal : Refusal) → view_refusal p.view.library p.view.holding command ≡ Some refusal →
    IsAnswerAtFront p command (Refused refusal)
front_refused refusals told p holds command refusal is =
    subst (λ (pid : ℕ). answer_of p.view.library (fixed_bytes p.view.library) (state_for p.view.library (front_of p).failing p.view.holding p.known.seen) pid command ≡ steady (Refused refusal)) holds.number
    (told p.view.library (fixed_bytes p.view.library) (state_for p.view.library (front_of p).failing p.view.holding p.known.seen) p.view.holding.pid 0 command refusal
    (refusals p.view.library (front_of p).failing (fixed_bytes p.view.library) p.view.holding p.known.seen command holds.stands.stands ∙ is)).0

pub refused : Laws → (p : ProcState) → Holds p → (command : Command) (refusal : Refusal) → view_refusal p.view.library p.view.holding command ≡ Some refusal → IsRefusedAtFront p command refusal
refused laws p holds command refusal is = record { refused = is; step = front_refused laws.refusals laws.told p holds command refusal is }

-- ---- calls that may take a turn

-- a process that has ended is refused everything
pub ended_first : (lib : Library) (v : Holding) (c : Command) → v.ended ≡ true → view_refusal lib v c ≡ Some Ended
unfolding view_refusal
ended_first lib v (commands.Start name) is = ap (λ b. when b Ended orelse started_refusal (seen_process v) ways.Start orelse view_module_or_none lib v ways.Start (number_of lib name)) is
ended_first lib v (commands.Load name) is = ap (λ b. when b Ended orelse started_refusal (seen_process v) ways.Load orelse view_module_or_none lib v ways.Load (number_of lib name)) is
ended_first lib v (commands.Free name) is = ap (λ b. when b Ended orelse when (not (is_held_in v (number_of lib name))) NotHeld) is
ended_first lib v (commands.Touch at) is = ap (λ b. when b Ended orelse residence_refusal lib (seen_process v) touch at (reached_named lib v at.«module»)) is
ended_first lib v (commands.Peek at) is = ap (λ b. when b Ended orelse residence_refusal lib (seen_process v) peek at (reached_named lib v at.«module»)) is
ended_first lib v (commands.Shared at) is = ap (λ b. when b Ended orelse residence_refusal lib (seen_process v) share at (reached_named lib v at.«module»)) is
ended_first lib v (commands.Write at bytes) is = ap (λ b. when b Ended orelse residence_refusal lib (seen_process v) write at (reached_named lib v at.«module»)) is
ended_first lib v (commands.Debug at bytes) is = ap (λ b. when b Ended orelse residence_refusal lib (seen_process v) debug at (reached_named lib v at.«module»)) is
ended_first lib v (commands.Query name key) is = ap (λ b. when b Ended orelse key_refusal lib key (reached_named lib v name)) is
ended_first lib v (commands.GetRes name ty id) is = ap (λ b. when b Ended orelse found_refusal lib ty id (reached_named lib v name)) is
ended_first lib v commands.Exit is = ap (λ b. when b Ended) is

abbrev CallCases : Bool → Bool → Option Refusal → Refusal → Type 0
CallCases ended worn seen refusal = ((ended ≡ true) × (refusal ≡ Ended)) ⊎ ((ended ≡ false) × (worn ≡ true) × (refusal ≡ Worn)) ⊎ ((ended ≡ false) × (seen ≡ Some refusal))

call_cases : (ended worn : Bool) (seen : Option Refusal) (refusal : Refusal) → (when ended Ended orelse when worn Worn orelse seen) ≡ Some refusal → CallCases ended worn seen refusal
call_cases true worn seen refusal is = inl (refl, sym (same_Some Ended refusal is))
call_cases false true seen refusal is = inr (inl (refl, refl, sym (same_Some Worn refusal is)))
call_cases false false seen refusal is = inr (inr (refl, is))

pub refused_call : RefusedByView → RefusedIsTold → (p : ProcState) → Holds p → (command : Command) (refusal : Refusal) → call_refusal p command ≡ Some refusal → IsRefusedCall p command refusal
refused_call refusals told p holds command refusal is =
    record { refused = is; step = step (call_cases p.view.holding.ended (nat_le MAX_TICKETS p.known.drawn) (view_refusal p.view.library p.view.holding command) refusal is) }
  where
    step : CallCases p.view.holding.ended (nat_le MAX_TICKETS p.known.drawn) (view_refusal p.view.library p.view.holding command) refusal → IsWorn p refusal ⊎ IsAnswerAtFront p command (Refused refusal)
    step (inl it) = inr (front_refused refusals told p holds command refusal (ended_first p.view.library p.view.holding command it.0 ∙ ap Some (sym it.1)))
    step (inr (inl it)) = inl (it.2, it.0, leb-true 4294901760 p.known.drawn it.1)
    step (inr (inr it)) = inr (front_refused refusals told p holds command refusal it.1)

-- what a view answers
abbrev pub Answered : {A : Type 0} → ProcState → Command → (A → Reply) → Result A Refusal → Type 0
Answered p command reply r = MatchResult r
    (λ a. (view_refusal p.view.library p.view.holding command ≡ None) × (view_reply p.view.library p.view.holding command ≡ Some (reply a)))
    (λ refusal. view_refusal p.view.library p.view.holding command ≡ Some refusal)

pub answered : {A : Type 0} → Laws → (p : ProcState) → Holds p → (command : Command) (reply : A → Reply) (r : Result A Refusal) → Answered p command reply r →
    MatchResult r (λ a. IsReplied p command (reply a)) (λ refusal. IsRefusedAtFront p command refusal)
answered laws p holds command reply (Ok a) is = replied laws p holds command (reply a) is.0 is.1
answered laws p holds command reply (Err refusal) is = refused laws p holds command refusal is

-- the same, with a fact more beside a refusal
pub answered_with : {A : Type 0} (K : Type 0) → Laws → (p : ProcState) → Holds p → (command : Command) (reply : A → Reply) (r : Result A Refusal) →
    MatchResult r
    (λ a. (view_refusal p.view.library p.view.holding command ≡ None) × (view_reply p.view.library p.view.holding command ≡ Some (reply a)))
    (λ refusal. (view_refusal p.view.library p.view.holding command ≡ Some refusal) × K) →
    MatchResult r (λ a. IsReplied p command (reply a)) (λ refusal. IsRefusedAtFront p command refusal × K)
answered_with K laws p holds command reply (Ok a) is = replied laws p holds command (reply a) is.0 is.1
answered_with K laws p holds command reply (Err refusal) is = (refused laws p holds command refusal is.0, is.1)
