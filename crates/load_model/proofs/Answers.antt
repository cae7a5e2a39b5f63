-- What a process is answered without an entry is the same in two states that it cannot tell apart.
use Rattle.std.proofs.Common.{◌≡◌, ℕ, true, List, Option, Some, None, Result, Ok, Err, refl, sym, ◌∙◌, ap}
use Rattle.std.specs.Prelude.{unwrap_or, length}
use Rattle.lx_types.specs.declared.entry.EntryKey.{EntryKey}
use Rattle.load_model.specs.declared.commands.Command.{Command}
use Rattle.load_model.specs.declared.commands.Command.TheVariants as commands
use Rattle.load_model.specs.declared.commands.Refusal.{Refusal}
use Rattle.load_model.specs.declared.commands.Refusal.TheVariants.{Ended}
use Rattle.load_model.specs.declared.commands.Reply.TheVariants as replies
use Rattle.load_model.specs.Modules.{Spot, EntryFault, Library, Held, number_of, entry_spot, address_in}
use Rattle.load_model.specs.State.{Residence, Eager, reaches, residence_of}
use Rattle.load_model.specs.Refusals.{when, key_refusal, residence_named, query_refusal, refusal_of}
use Rattle.load_model.specs.Step.{Answer, steady, fine_answer, answer_of, meant, spot_address, address_of}
use Rattle.load_model.specs.Histories.{state_after}
use Rattle.load_model.specs.Laws.{IsSteady, OthersAnswerAlike}
use Rattle.load_model.proofs.Orders.{OrdersNest, reaches_closed}
use Rattle.load_model.proofs.EntryReach.{SpotsAreOrdered}
use Rattle.load_model.specs.Accepted.{retouched}
use Rattle.load_model.specs.Alike.{Alike}
use Rattle.load_model.proofs.Apart.{refusal_alike, retouched_alike, others_leave_alike}
use Rattle.load_model.proofs.Bytes.{named_is, bases_stay, peek_alike, right_none}

-- ---- addresses

spot_alike : OrdersNest → SpotsAreOrdered → (lib : Library) (e after : Eager) (q m : ℕ) (key : EntryKey) → Alike lib e after q → reaches lib (e.processes q) m ≡ true →
    (r : Result Spot EntryFault) → entry_spot lib m key ≡ r → spot_address after r ≡ spot_address e r
spot_alike nest spots lib e after q m key alike reached (Err fault) is = refl
spot_alike nest spots lib e after q m key alike reached (Ok s) is =
    ap (λ bases. address_in bases s.object s.offset)
    (bases_stay (residence_of after s.«module») (residence_of e s.«module»)
    (alike.residences s.«module» (reaches_closed nest lib (e.processes q) m s.«module» reached (spots lib m key s is))))

address_alike : OrdersNest → SpotsAreOrdered → (lib : Library) (e after : Eager) (q : ℕ) (name : List ℕ) (key : EntryKey) → Alike lib e after q →
    query_refusal lib e q name key ≡ None → address_of lib after q name key ≡ address_of lib e q name key
unfolding address_of query_refusal
address_alike nest spots lib e after q name key alike fine =
    step (residence_named lib e q name) refl (right_none (when (e.processes q).ended Ended) _ fine)
  where
    step : (r : Option Residence) → residence_named lib e q name ≡ r → key_refusal lib key r ≡ None →
        spot_address after (entry_spot lib (meant lib name) key) ≡ spot_address e (entry_spot lib (meant lib name) key)
    step None is h = cc
    step (Some a) is h =
        let it : (reaches lib (e.processes q) a.«module» ≡ true) × (number_of lib name ≡ Some a.«module») = named_is lib e q name a is in
        let same : a.«module» ≡ meant lib name = sym (ap (λ n. unwrap_or n (length lib)) it.1) in
        spot_alike nest spots lib e after q (meant lib name) key alike (sym (ap (reaches lib (e.processes q)) same) ∙ it.0) (entry_spot lib (meant lib name) key) refl

-- ---- answers

done_alike : OrdersNest → SpotsAreOrdered → (lib : Library) (contents : Held) (e after : Eager) (q : ℕ) (command : Command) → Alike lib e after q → IsSteady command →
    refusal_of lib e q command ≡ None → fine_answer lib contents after q command ≡ fine_answer lib contents e q command
unfolding fine_answer refusal_of
done_alike nest spots lib contents e after q (commands.Touch place) alike is fine = refl
done_alike nest spots lib contents e after q (commands.Peek place) alike is fine = ap (λ bytes. steady (replies.Bytes bytes)) (peek_alike nest lib contents e after q place alike fine)
done_alike nest spots lib contents e after q (commands.Query name key) alike is fine =
    ap (λ a. steady (replies.Address a)) (address_alike nest spots lib e after q name key alike fine)
done_alike nest spots lib contents e after q (commands.GetRes name ty id) alike is fine = refl
done_alike nest spots lib contents e after q (commands.Start name) alike is fine = absurd is
done_alike nest spots lib contents e after q (commands.Load name) alike is fine = absurd is
done_alike nest spots lib contents e after q (commands.Free name) alike is fine = absurd is
done_alike nest spots lib contents e after q (commands.Shared place) alike is fine = absurd is
done_alike nest spots lib contents e after q (commands.Write place bytes) alike is fine = absurd is
done_alike nest spots lib contents e after q (commands.Debug place bytes) alike is fine = absurd is
done_alike nest spots lib contents e after q commands.Exit alike is fine = absurd is

abbrev pub answer_by : Answer → Option Refusal → Answer
answer_by other (Some refusal) = steady (replies.Refused refusal)
answer_by other None = other

pub answer_is : (lib : Library) (contents : Held) (e : Eager) (q : ℕ) (command : Command) → answer_of lib contents e q command ≡ answer_by (fine_answer lib contents e q command) (refusal_of lib e q command)
unfolding answer_of
answer_is lib contents e q command = step (refusal_of lib e q command)
  where
    step : (r : Option Refusal) → elim r as (λ _. Answer) [ Some refusal ↦ steady (replies.Refused refusal) | None ↦ fine_answer lib contents e q command ] ≡ answer_by (fine_answer lib contents e q command) r
    step None = refl
    step (Some refusal) = refl

answer_alike : OrdersNest → SpotsAreOrdered → (lib : Library) (contents : Held) (e after : Eager) (q : ℕ) (command : Command) → Alike lib e after q → IsSteady command →
    answer_of lib contents after q command ≡ answer_of lib contents e q command
answer_alike nest spots lib contents e after q command alike is =
    answer_is lib contents after q command ∙ ap (answer_by (fine_answer lib contents after q command)) (refusal_alike lib e after q command alike)
    ∙ step (refusal_of lib e q command) refl ∙ sym (answer_is lib contents e q command)
  where
    step : (r : Option Refusal) → refusal_of lib e q command ≡ r → answer_by (fine_answer lib contents after q command) r ≡ answer_by (fine_answer lib contents e q command) r
    step (Some refusal) h = refl
    step None h = done_alike nest spots lib contents e after q command alike is h

pub others_answer_alike : OrdersNest → SpotsAreOrdered → OthersAnswerAlike
others_answer_alike nest spots lib failing contents h x touched pid command legal follows there apart is =
    answer_alike nest spots lib contents (retouched touched (state_after lib failing h)) _ pid command
    (retouched_alike lib (state_after lib failing h) _ touched pid (others_leave_alike lib failing contents h x pid legal follows there apart)) is
