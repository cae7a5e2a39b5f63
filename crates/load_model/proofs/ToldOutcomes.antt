-- What callers are told, and that their entries follow the history.
use Rattle.std.proofs.Common.{◌≡◌, ℕ, true, List, length, Option, Some, None, Result, Ok, Err, refl, sym, ◌∙◌, ap, subst}
use Rattle.std.specs.List.{range_with_len}
use Rattle.std.proofs.lemmas.List.{length-map}
use Rattle.std.proofs.lemmas.List.FromFn.{length-range_with_len}
use Rattle.lx_types.specs.declared.object.PageId.{PageId}
use Rattle.load_model.specs.declared.commands.Command.{Command}
use Rattle.load_model.specs.declared.commands.Command.TheVariants as commands
use Rattle.load_model.specs.declared.commands.Reply.TheVariants as replies
use Rattle.load_model.specs.declared.deeds.Deed.{Deed}
use Rattle.load_model.specs.declared.deeds.Deed.TheVariants as deeds
use Rattle.load_model.specs.declared.deeds.Entry.{Entry}
use Rattle.load_model.specs.declared.deeds.Fresh.{Fresh}
use Rattle.load_model.specs.declared.deeds.How.{How}
use Rattle.load_model.specs.Modules.{Library, Held}
use Rattle.load_model.specs.State.{Residence, Eager, attached_residence}
use Rattle.load_model.specs.Entering.{NoRoom, placing}
use Rattle.load_model.specs.Initialising.{failing_module, entered, enter_by, enter_deed}
use Rattle.load_model.specs.Memory.{Byte, Bytes}
use Rattle.load_model.specs.declared.commands.Ask.{Ask}
use Rattle.load_model.specs.declared.commands.Ask.TheVariants.{Enter as enter, Free as free, Exit as exit, Fault as fault, Write as put, Debug as patch, Shared as get}
use Rattle.load_model.specs.Asks.{ask_in, bytes_at, deed_of, is_serial, may_ask}
use Rattle.load_model.specs.Step.{Answer, steady, fine_answer, answer_of, ask_by}
use Rattle.load_model.specs.Histories.{state_after, is_first_fault}
use Rattle.load_model.specs.Accepted.{retouched, AcceptedFollows}
use Rattle.load_model.specs.Outcomes.{outcome_of_entry, outcome_of, IsTold, RefusedIsTold, AcceptedIsTold}
use Rattle.load_model.specs.Outcomes.IsTold.{arena_full, init_failed, is_done}
use Rattle.load_model.proofs.Bools.{and_left, and_right}
use Rattle.load_model.proofs.Accepted.{accepted_may_ask}
use Rattle.load_model.proofs.Retouched.{touched_is_apart}

-- ---- what is told

told_of : (number : ℕ) (d : Deed) → IsTold number d (outcome_of_entry number d)
told_of number (deeds.Full how m of object size) = arena_full
told_of number (deeds.Failed how m by fresh calls gone) = init_failed
told_of number (deeds.Enter how m fresh calls) = is_done tt
told_of number (deeds.Free m calls gone) = is_done tt
told_of number (deeds.Exit calls gone) = is_done tt
told_of number (deeds.Fault serial m p) = is_done tt
told_of number (deeds.Write serial m object offset bytes) = is_done tt
told_of number (deeds.Debug serial m object offset bytes) = is_done tt
told_of number (deeds.Shared serial m object offset bytes) = is_done tt

pub accepted_is_told : AcceptedIsTold
accepted_is_told lib contents e pid number command ask fits fine is =
    subst (λ a. IsTold number (deed_of lib contents e pid ask) (outcome_of number a)) (sym (accepted_may_ask lib contents e pid command ask fits fine is).1)
    (told_of number (deed_of lib contents e pid ask))

pub refused_is_told : RefusedIsTold
unfolding answer_of
refused_is_told lib contents e pid number command refusal is =
    let answered : answer_of lib contents e pid command ≡ steady (replies.Refused refusal) =
    ap (λ r. elim r as (λ _. Answer) [ Some refusal ↦ steady (replies.Refused refusal) | None ↦ fine_answer lib contents e pid command ]) is
    in
    (answered, ap (outcome_of number) answered)

-- ---- an entry asks what it was asked

asks_to_enter : (lib : Library) (e : Eager) (pid : ℕ) (how : How) (m : ℕ) (r : Result (List Fresh) NoRoom) → ask_in (enter_by lib e pid how m r) ≡ enter how m
asks_to_enter lib e pid how m (Err none) = refl
asks_to_enter lib e pid how m (Ok fresh) = step (failing_module lib e pid how m fresh)
  where
    step : (o : Option ℕ) → ask_in (entered lib e pid how m fresh o) ≡ enter how m
    step None = refl
    step (Some by) = refl

pub bytes_long : (lib : Library) (contents : Held) (e : Eager) (pid serial object offset len : ℕ) (o : Option Residence) → is_serial serial o ≡ true →
    length (bytes_at lib contents e pid object offset len o) ≡ len
unfolding Bytes
bytes_long lib contents e pid serial object offset len None at = cc
bytes_long lib contents e pid serial object offset len (Some r) at = length-map (range_with_len offset len) (Byte lib contents e pid r object) ∙ length-range_with_len offset len

asks_again : (lib : Library) (contents : Held) (e : Eager) (pid : ℕ) (ask : Ask) → may_ask lib e pid ask ≡ true → ask_in (deed_of lib contents e pid ask) ≡ ask
unfolding deed_of may_ask enter_deed
asks_again lib contents e pid (enter how m) may = asks_to_enter lib e pid how m (placing lib e pid m)
asks_again lib contents e pid (free m) may = refl
asks_again lib contents e pid exit may = refl
asks_again lib contents e pid (fault serial m p) may = refl
asks_again lib contents e pid (put serial m object offset bytes) may = refl
asks_again lib contents e pid (patch serial m object offset bytes) may = refl
asks_again lib contents e pid (get serial m object offset len) may =
    ap (get serial m object offset) (bytes_long lib contents e pid serial object offset len (attached_residence lib e pid m) (and_left _ _ (and_right _ _ may)))

-- ---- no command asks a fault

no_fault : (lib : Library) (e : Eager) (pid : ℕ) (command : Command) (serial m : ℕ) (p : PageId) → ask_by lib e pid command ≡ Some (fault serial m p) → ⊥
no_fault lib e pid (commands.Start name) serial m p is = cc
no_fault lib e pid (commands.Load name) serial m p is = cc
no_fault lib e pid (commands.Free name) serial m p is = cc
no_fault lib e pid (commands.Touch place) serial m p is = cc
no_fault lib e pid (commands.Peek place) serial m p is = cc
no_fault lib e pid (commands.Shared place) serial m p is = cc
no_fault lib e pid (commands.Write place bytes) serial m p is = cc
no_fault lib e pid (commands.Debug place bytes) serial m p is = cc
no_fault lib e pid (commands.Query name key) serial m p is = cc
no_fault lib e pid (commands.GetRes name ty id) serial m p is = cc
no_fault lib e pid commands.Exit serial m p is = cc

enters_first : (h : List Entry) (lib : Library) (e : Eager) (pid : ℕ) (how : How) (m : ℕ) (r : Result (List Fresh) NoRoom) → is_first_fault h (enter_by lib e pid how m r) ≡ true
enters_first h lib e pid how m (Err none) = refl
enters_first h lib e pid how m (Ok fresh) = step (failing_module lib e pid how m fresh)
  where
    step : (o : Option ℕ) → is_first_fault h (entered lib e pid how m fresh o) ≡ true
    step None = refl
    step (Some by) = refl

first_of : (h : List Entry) (lib : Library) (contents : Held) (e : Eager) (pid : ℕ) (ask : Ask) → ((serial m : ℕ) (p : PageId) → ask ≡ fault serial m p → ⊥) →
    is_first_fault h (deed_of lib contents e pid ask) ≡ true
unfolding deed_of enter_deed
first_of h lib contents e pid (enter how m) none = enters_first h lib e pid how m (placing lib e pid m)
first_of h lib contents e pid (free m) none = refl
first_of h lib contents e pid exit none = refl
first_of h lib contents e pid (fault serial m p) none = absurd (none serial m p refl)
first_of h lib contents e pid (put serial m object offset bytes) none = refl
first_of h lib contents e pid (patch serial m object offset bytes) none = refl
first_of h lib contents e pid (get serial m object offset len) none = refl

pub accepted_follows : AcceptedFollows
accepted_follows lib failing contents h touched pid command ask there fits fine is =
    let e : Eager = state_after lib failing h in
    let may : may_ask lib e pid ask ≡ true =
    sym (touched_is_apart lib contents e touched pid ask).0 ∙ (accepted_may_ask lib contents (retouched touched e) pid command ask fits fine is).0
    in
    let again : ask_in (deed_of lib contents e pid ask) ≡ ask = asks_again lib contents e pid ask may in
    record {
      process = there;
      may = ap (may_ask lib e pid) again ∙ may;
      done = ap (deed_of lib contents e pid) (sym again);
      first = first_of h lib contents e pid ask (λ serial m p same. no_fault lib (retouched touched e) pid command serial m p (is ∙ ap Some same));
    }
