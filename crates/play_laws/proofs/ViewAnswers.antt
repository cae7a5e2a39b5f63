-- What a view answers by itself is what the loader answers at a place.
use Rattle.std.proofs.Common.{◌≡◌, ℕ, List, Option, Some, None, refl, sym, ◌∙◌, ap}
use Rattle.load_model.specs.declared.commands.Command.{Command}
use Rattle.load_model.specs.declared.commands.Command.TheVariants as commands
use Rattle.load_model.specs.declared.commands.Refusal.{Refusal}
use Rattle.load_model.specs.declared.commands.Reply.{Reply}
use Rattle.load_model.specs.declared.commands.Reply.TheVariants as replies
use Rattle.load_model.specs.Modules.{Library, Held}
use Rattle.load_model.specs.State.{Eager}
use Rattle.load_model.specs.Step.{steady, fine_answer, answer_of}
use Rattle.load_model.specs.Views.{Holding}
use Rattle.load_model.specs.ViewAnswers.{view_refusal, view_reply}
use Rattle.load_model.proofs.Answers.{answer_by, answer_is}
use Rattle.session_model.specs.Merging.{Item}
use Rattle.check_model.specs.Checks.{Judge, state_at}
use Rattle.check_core.specs.PlaceStates.{StandsAtPlace, ViewsAnswerAtPlaces}
use Rattle.play_laws.specs.ViewAnswers.{refused_or, view_answer, RepliesAtPlaces}

-- a command that has an entry has no reply of its own
no_reply : (lib : Library) (contents : Held) (e : Eager) (pid : ℕ) (v : Holding) (c : Command) (reply : Reply) → view_reply lib v c ≡ None → fine_answer lib contents e pid c ≡ steady reply → ⊥
unfolding fine_answer
no_reply lib contents e pid v (commands.Start name) reply none is = cc
no_reply lib contents e pid v (commands.Load name) reply none is = cc
no_reply lib contents e pid v (commands.Free name) reply none is = cc
no_reply lib contents e pid v (commands.Touch at) reply none is = cc
no_reply lib contents e pid v (commands.Peek at) reply none is = cc
no_reply lib contents e pid v (commands.Shared at) reply none is = cc
no_reply lib contents e pid v (commands.Write at bytes) reply none is = cc
no_reply lib contents e pid v (commands.Debug at bytes) reply none is = cc
no_reply lib contents e pid v (commands.Query name key) reply none is = cc
no_reply lib contents e pid v (commands.GetRes name ty id) reply none is = cc
no_reply lib contents e pid v commands.Exit reply none is = cc

module _ (laws : ViewsAnswerAtPlaces) (j : Judge) (before : List Item) (v : Holding) (c : Command) (reply : Reply) (stands : StandsAtPlace j before v) where
  abbrev IsAnswered : Type 0
  IsAnswered = answer_of j.lib j.contents (state_at j before) v.pid c ≡ steady reply

  so_by : (r : Option Refusal) → view_refusal j.lib v c ≡ r → refused_or r (view_reply j.lib v c) ≡ Some reply → IsAnswered
  so_by None none got = laws.answers j before v c reply stands none got
  so_by (Some r) some got = laws.refused j before v c r stands some ∙ (let same : replies.Refused r ≡ reply = cc in ap steady same)

  -- what the view answers is answered
  pub answered_so : view_answer j.lib v c ≡ Some reply → IsAnswered
  answered_so is = so_by (view_refusal j.lib v c) refl is

  only_by : (r : Option Refusal) (o : Option Reply) → view_refusal j.lib v c ≡ r → view_reply j.lib v c ≡ o → IsAnswered → refused_or r o ≡ Some reply
  only_by (Some r) o some reply_is got =
      let both : steady (replies.Refused r) ≡ steady reply = sym (laws.refused j before v c r stands some) ∙ got in
      let same : replies.Refused r ≡ reply = cc in
      ap Some same
  only_by None (Some x) none reply_is got =
      let both : steady x ≡ steady reply = sym (laws.answers j before v c x stands none reply_is) ∙ got in
      let same : x ≡ reply = cc in
      ap Some same
  only_by None None none reply_is got =
      absurd (no_reply j.lib j.contents (state_at j before) v.pid v c reply reply_is
      (sym (answer_is j.lib j.contents (state_at j before) v.pid c
      ∙ ap (answer_by (fine_answer j.lib j.contents (state_at j before) v.pid c)) (laws.refusals j before v c stands ∙ none)) ∙ got))

  -- and nothing else
  pub answered_only : IsAnswered → view_answer j.lib v c ≡ Some reply
  answered_only got = only_by (view_refusal j.lib v c) (view_reply j.lib v c) refl refl got

pub replies_at_places : ViewsAnswerAtPlaces → RepliesAtPlaces
replies_at_places laws j before v c reply stands = (answered_so laws j before v c reply stands, answered_only laws j before v c reply stands)
