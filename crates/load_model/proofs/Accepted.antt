-- Commands that are not refused, and states that differ in touched pages alone.
use Rattle.std.proofs.Common.{◌≡◌, ℕ, ◌==◌, true, false, not, List, length, Option, Some, None, refl, sym, ◌∙◌, ap, subst}
use Rattle.std.specs.Prelude.{unwrap_or, is_none, nat_lt}
use Rattle.std.proofs.lemmas.Bool.{eq-eqb, lt-ltb, not_from_false}
use Rattle.std.proofs.lemmas.List.Quantifiers.{position-Some}
use Rattle.load_model.specs.declared.commands.Place.{Place}
use Rattle.load_model.specs.declared.commands.Command.{Command}
use Rattle.load_model.specs.declared.commands.Command.TheVariants as commands
use Rattle.load_model.specs.declared.commands.Refusal.{Refusal}
use Rattle.load_model.specs.declared.commands.Refusal.TheVariants.{Ended, NoModule, NotHeld, NotAttached}
use Rattle.load_model.specs.declared.commands.Reply.TheVariants as replies
use Rattle.load_model.specs.declared.deeds.How.{How}
use Rattle.load_model.specs.declared.deeds.How.TheVariants as ways
use Rattle.load_model.specs.Modules.{no_parts, Library, Held, module_count, number_of}
use Rattle.load_model.specs.State.{serial_of, Residence, Process, Eager}
use Rattle.load_model.specs.Refusals.{Purpose, write, share, debug, when, started_refusal, enter_refusal, free_refusal, span_refusal, residence_refusal, residence_named, place_refusal, refusal_of}
use Rattle.load_model.specs.declared.commands.Ask.{Ask}
use Rattle.load_model.specs.declared.commands.Ask.TheVariants.{Enter as enter, Free as free, Exit as exit, Write as put, Debug as patch, Shared as get}
use Rattle.load_model.specs.Asks.{deed_of, may_ask, is_attached, is_serial}
use Rattle.load_model.specs.Step.{Answer, entry, steady, meant, serial_named, fine_answer, answer_of, ask_by, FitsPlace}
use Rattle.load_model.specs.Accepted.{AcceptedMayAsk}
use Rattle.load_model.proofs.Bools.{and_true}
use Rattle.load_model.proofs.Bytes.{named_is, left_none, right_none}
use Rattle.load_model.proofs.Holding.{when_none, no_name, attached_named}

-- ---- names

none_true : (r : Option Refusal) → r ≡ None → is_none r ≡ true
none_true None h = refl
none_true (Some r) h = cc

number_below : (lib : Library) (name : List ℕ) (m : ℕ) → number_of lib name ≡ Some m → nat_lt m (module_count lib) ≡ true
unfolding number_of
number_below lib name m e = lt-ltb m (length lib) (position-Some _ lib m no_parts e).0

some_no_module : Some NoModule ≡ None → ⊥
some_no_module h = cc

pub nobody : (lib : Library) (p : Process) (how : How) → enter_refusal lib p how None ≡ None → ⊥
unfolding enter_refusal
nobody lib p how h = some_no_module (right_none (started_refusal p how) _ (right_none (when p.ended Ended) _ h))

enter_may : (lib : Library) (e : Eager) (pid : ℕ) (how : How) (name : List ℕ) (n : Option ℕ) → number_of lib name ≡ n → enter_refusal lib (e.processes pid) how n ≡ None →
    may_ask lib e pid (enter how (unwrap_or n (length lib))) ≡ true
unfolding may_ask
enter_may lib e pid how name (Some m) is h = and_true _ _ (number_below lib name m is) (none_true _ h)
enter_may lib e pid how name None is h = absurd (nobody lib (e.processes pid) how h)

free_may : (lib : Library) (e : Eager) (pid : ℕ) (n : Option ℕ) → free_refusal (e.processes pid) n ≡ None → may_ask lib e pid (free (unwrap_or n (length lib))) ≡ true
unfolding may_ask
free_may lib e pid (Some m) h = none_true _ h
free_may lib e pid None h = absurd (some_none (right_none (when (e.processes pid).ended Ended) _ h))
  where
    some_none : Some NotHeld ≡ None → ⊥
    some_none h = cc

-- ---- places

-- what is so of a place that is not refused
pub record Open (lib : Library) (e : Eager) (pid : ℕ) (how : Purpose) (place : Place) : Type 0 where
  pub going : not (e.processes pid).ended ≡ true
  pub attached : is_attached lib e pid (serial_named lib e pid place) (meant lib place.«module») ≡ true
  pub span : is_none (span_refusal lib how (meant lib place.«module») place.object place.offset place.len) ≡ true

open_by : (lib : Library) (e : Eager) (pid : ℕ) (how : Purpose) (place : Place) → place_refusal lib e pid how place ≡ None → (n : Option ℕ) → number_of lib place.«module» ≡ n →
    (r : Option Residence) → residence_named lib e pid place.«module» ≡ r → Open lib e pid how place
unfolding place_refusal
open_by lib e pid how place h None is r found_is = absurd (no_name lib e pid how place h is)
open_by lib e pid how place h (Some m) is None found_is =
    absurd (some_none (ap (residence_refusal lib (e.processes pid) how place) (sym found_is) ∙ right_none (when (e.processes pid).ended Ended) _ h))
  where
    some_none : Some NotAttached ≡ None → ⊥
    some_none h = cc
open_by lib e pid how place h (Some m) is (Some r) found_is =
    let inner : residence_refusal lib (e.processes pid) how place (Some r) ≡ None =
    ap (residence_refusal lib (e.processes pid) how place) (sym found_is) ∙ right_none (when (e.processes pid).ended Ended) _ h
    in
    let same : r.«module» ≡ meant lib place.«module» = sym (ap (λ n. unwrap_or n (length lib)) (named_is lib e pid place.«module» r found_is).1) in
    record {
      going = not_from_false _ (when_none _ Ended (left_none _ _ h));
      attached =
          ap (is_serial (serial_named lib e pid place)) (attached_named lib e pid place.«module» m is ∙ found_is)
          ∙ ap (λ o. r.serial == serial_of o) found_is ∙ eq-eqb r.serial r.serial refl;
      span =
          ap (λ k. is_none (span_refusal lib how k place.object place.offset place.len)) (sym same) ∙ none_true _ (left_none _ _ inner);
    }

opened : (lib : Library) (e : Eager) (pid : ℕ) (how : Purpose) (place : Place) → place_refusal lib e pid how place ≡ None → Open lib e pid how place
opened lib e pid how place h = open_by lib e pid how place h (number_of lib place.«module») refl (residence_named lib e pid place.«module») refl

get_may : (lib : Library) (e : Eager) (pid : ℕ) (place : Place) → Open lib e pid share place →
    may_ask lib e pid (get (serial_named lib e pid place) (meant lib place.«module») place.object place.offset place.len) ≡ true
unfolding may_ask
get_may lib e pid place o = and_true _ _ o.going (and_true _ _ o.attached o.span)

put_may : (lib : Library) (e : Eager) (pid : ℕ) (place : Place) (bytes : List ℕ) → length bytes ≡ place.len → Open lib e pid write place →
    may_ask lib e pid (put (serial_named lib e pid place) (meant lib place.«module») place.object place.offset bytes) ≡ true
unfolding may_ask
put_may lib e pid place bytes fits o =
    and_true _ _ o.going
    (and_true _ _ o.attached (ap (λ len. is_none (span_refusal lib write (meant lib place.«module») place.object place.offset len)) fits ∙ o.span))

patch_may : (lib : Library) (e : Eager) (pid : ℕ) (place : Place) (bytes : List ℕ) → length bytes ≡ place.len → Open lib e pid debug place →
    may_ask lib e pid (patch (serial_named lib e pid place) (meant lib place.«module») place.object place.offset bytes) ≡ true
unfolding may_ask
patch_may lib e pid place bytes fits o =
    and_true _ _ o.going
    (and_true _ _ o.attached (ap (λ len. is_none (span_refusal lib debug (meant lib place.«module») place.object place.offset len)) fits ∙ o.span))

exit_may : (lib : Library) (e : Eager) (pid : ℕ) → (e.processes pid).ended ≡ false → may_ask lib e pid exit ≡ true
unfolding may_ask
exit_may lib e pid h = ap not h

-- ---- all commands

same_ask : (lib : Library) (e : Eager) (pid : ℕ) (a b : Ask) → may_ask lib e pid a ≡ true → Some a ≡ Some b → may_ask lib e pid b ≡ true
same_ask lib e pid a b h is = (let same : a ≡ b = cc in subst (λ x. may_ask lib e pid x ≡ true) same h)

may_by : (lib : Library) (e : Eager) (pid : ℕ) (command : Command) (ask : Ask) → FitsPlace command → refusal_of lib e pid command ≡ None → ask_by lib e pid command ≡ Some ask →
    may_ask lib e pid ask ≡ true
unfolding refusal_of
may_by lib e pid (commands.Start name) ask fits h is = same_ask lib e pid _ ask (enter_may lib e pid ways.Start name (number_of lib name) refl h) is
may_by lib e pid (commands.Load name) ask fits h is = same_ask lib e pid _ ask (enter_may lib e pid ways.Load name (number_of lib name) refl h) is
may_by lib e pid (commands.Free name) ask fits h is = same_ask lib e pid _ ask (free_may lib e pid (number_of lib name) h) is
may_by lib e pid (commands.Touch place) ask fits h is = cc
may_by lib e pid (commands.Peek place) ask fits h is = cc
may_by lib e pid (commands.Query name key) ask fits h is = cc
may_by lib e pid (commands.GetRes name ty id) ask fits h is = cc
may_by lib e pid (commands.Shared place) ask fits h is = same_ask lib e pid _ ask (get_may lib e pid place (opened lib e pid share place h)) is
may_by lib e pid (commands.Write place bytes) ask fits h is = same_ask lib e pid _ ask (put_may lib e pid place bytes fits (opened lib e pid write place h)) is
may_by lib e pid (commands.Debug place bytes) ask fits h is = same_ask lib e pid _ ask (patch_may lib e pid place bytes fits (opened lib e pid debug place h)) is
may_by lib e pid commands.Exit ask fits h is = same_ask lib e pid exit ask (exit_may lib e pid (when_none _ Ended h)) is

accepted_by : (lib : Library) (contents : Held) (e : Eager) (pid : ℕ) (command : Command) (ask : Ask) → ask_by lib e pid command ≡ Some ask →
    fine_answer lib contents e pid command ≡ entry (deed_of lib contents e pid ask)
unfolding fine_answer
accepted_by lib contents e pid (commands.Start name) ask is = (let same : enter ways.Start (meant lib name) ≡ ask = cc in ap (λ a. entry (deed_of lib contents e pid a)) same)
accepted_by lib contents e pid (commands.Load name) ask is = (let same : enter ways.Load (meant lib name) ≡ ask = cc in ap (λ a. entry (deed_of lib contents e pid a)) same)
accepted_by lib contents e pid (commands.Free name) ask is = (let same : free (meant lib name) ≡ ask = cc in ap (λ a. entry (deed_of lib contents e pid a)) same)
accepted_by lib contents e pid (commands.Touch place) ask is = cc
accepted_by lib contents e pid (commands.Peek place) ask is = cc
accepted_by lib contents e pid (commands.Query name key) ask is = cc
accepted_by lib contents e pid (commands.GetRes name ty id) ask is = cc
accepted_by lib contents e pid (commands.Shared place) ask is =
    let same : get (serial_named lib e pid place) (meant lib place.«module») place.object place.offset place.len ≡ ask = cc in
    ap (λ a. entry (deed_of lib contents e pid a)) same
accepted_by lib contents e pid (commands.Write place bytes) ask is =
    let same : put (serial_named lib e pid place) (meant lib place.«module») place.object place.offset bytes ≡ ask = cc in
    ap (λ a. entry (deed_of lib contents e pid a)) same
accepted_by lib contents e pid (commands.Debug place bytes) ask is =
    let same : patch (serial_named lib e pid place) (meant lib place.«module») place.object place.offset bytes ≡ ask = cc in
    ap (λ a. entry (deed_of lib contents e pid a)) same
accepted_by lib contents e pid commands.Exit ask is = (let same : exit ≡ ask = cc in ap (λ a. entry (deed_of lib contents e pid a)) same)

pub accepted_may_ask : AcceptedMayAsk
unfolding answer_of
accepted_may_ask lib contents e pid command ask fits h is = (
  may_by lib e pid command ask fits h is,
  ap (λ r. elim r as (λ _. Answer) [ Some refusal ↦ steady (replies.Refused refusal) | None ↦ fine_answer lib contents e pid command ]) h ∙ accepted_by lib contents e pid command ask is,
)
