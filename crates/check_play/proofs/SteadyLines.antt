-- Steady lines, judged by views.
use Rattle.std.proofs.Common.{◌≡◌, ◌↔◌, IsTrue, inl, inr, ℕ, Bool, true, false, List, [], ◌∷◌, ◌++◌, length, Some, None, refl, sym, ◌∙◌, ap, subst, eq-eqb, true≢false}
use Rattle.load_model.specs.declared.commands.Command.{Command}
use Rattle.load_model.specs.declared.commands.Command.TheVariants as commands
use Rattle.load_model.specs.declared.commands.Reply.{Reply}
use Rattle.load_model.specs.declared.commands.Reply.TheVariants as replies
use Rattle.load_model.specs.Modules.{Library}
use Rattle.load_model.specs.State.{Failing}
use Rattle.load_model.specs.Step.{steady, answer_of}
use Rattle.load_model.specs.Views.{Holding, mapped_pages}
use Rattle.load_model.specs.ViewAnswers.{view_refusal, view_reply}
use Rattle.session_model.specs.declared.sessions.Line.{Line}
use Rattle.session_model.specs.Merging.{Item, line, touch_follows}
use Rattle.session_model.specs.MergeLaws.{entries_in}
use Rattle.load_core.specs.BoardState.{BoardState}
use Rattle.process_view.specs.ProcessViews.{ProcessView}
use Rattle.check_model.specs.Checks.{Judge, state_at}
use Rattle.check_core.specs.PlayedItems.{IsPlayed}
use Rattle.play_laws.specs.ViewAnswers.{refused_or, view_answer, RepliesAtPlaces}
use Rattle.play_laws.specs.MappedPages.{accepted_in, MappedIsTouched, MappedAfterLine}
use Rattle.check_play.specs.AtPlaces.{IsBoardAt, IsViewAt, fault_unless}
use Rattle.check_play.proofs.Fronts.{fronts_alike}
use Rattle.check_play.proofs.ViewsAtPlaces.{at_place}

reply_alike : (lib : Library) (v : Holding) (n : ℕ) (c : Command) → view_reply lib (record v { front = n }) c ≡ view_reply lib v c
reply_alike lib v n (commands.Start name) = refl
reply_alike lib v n (commands.Load name) = refl
reply_alike lib v n (commands.Free name) = refl
reply_alike lib v n (commands.Touch at) = refl
reply_alike lib v n (commands.Peek at) = refl
reply_alike lib v n (commands.Shared at) = refl
reply_alike lib v n (commands.Write at bytes) = refl
reply_alike lib v n (commands.Debug at bytes) = refl
reply_alike lib v n (commands.Query name key) = refl
reply_alike lib v n (commands.GetRes name ty id) = refl
reply_alike lib v n commands.Exit = refl

answer_alike : (lib : Library) (v : Holding) (n : ℕ) (c : Command) → view_answer lib (record v { front = n }) c ≡ view_answer lib v c
answer_alike lib v n c = ap (λ r. refused_or r (view_reply lib (record v { front = n }) c)) (fronts_alike lib v n c) ∙ ap (refused_or (view_refusal lib v c)) (reply_alike lib v n c)

follows_none : (lib : Library) (failing : Failing) (before : List Item) (pid : ℕ) (c : Command) (r : Reply) → accepted_in c r ≡ None → touch_follows lib failing before pid c r ≡ true
follows_none lib failing before pid (commands.Touch at) replies.Fine none = cc
follows_none lib failing before pid c r none = refl

-- the reply is the loader's exactly where the view answers it
reply_right : RepliesAtPlaces → MappedIsTouched → (j : Judge) (before after : List Item) (b : BoardState) (v : ProcessView) (pid : ℕ) (l : Line) → accepted_in l.command l.reply ≡ None →
    IsBoardAt j before b → IsViewAt j before (line pid l ∷ after) b v pid →
    (view_answer v.library v.holding l.command ≡ Some l.reply) ↔ (answer_of j.lib j.contents (state_at j before) pid l.command ≡ steady l.reply)
reply_right laws touched j before after b v pid l none board view =
    let h : Holding = record v.holding { front = length (entries_in before) } in
    let law = laws j before h l.command l.reply (at_place touched j before after b v (line pid l) pid (eq-eqb pid pid refl) none board view) in
    let lib : v.library ≡ j.lib = view.stands.library ∙ ap (λ (x : BoardState). x.library) board.is in
    let same : view_answer v.library v.holding l.command ≡ view_answer j.lib h l.command =
    ap (λ (x : Library). view_answer x v.holding l.command) lib ∙ sym (answer_alike j.lib v.holding (length (entries_in before)) l.command) in (
      λ is. subst (λ (n : ℕ). answer_of j.lib j.contents (state_at j before) n l.command ≡ steady l.reply) view.number (law.0 (sym same ∙ is)),
      λ is. same ∙ law.1 (subst (λ (n : ℕ). answer_of j.lib j.contents (state_at j before) n l.command ≡ steady l.reply) (sym view.number) is),
    )

played_by : (j : Judge) (before after : List Item) (pid : ℕ) (l : Line) → touch_follows j.lib j.failing before pid l.command l.reply ≡ true → (right : Bool) →
    ((right ≡ true) ↔ (answer_of j.lib j.contents (state_at j before) pid l.command ≡ steady l.reply)) → IsPlayed j before (line pid l) after (fault_unless right)
played_by j before after pid l follows true law = (tt, (tt, ((tt, tt), ((tt, follows), (law.0 refl, tt)))))
played_by j before after pid l follows false law = inr (tt, inr (tt, inr ((tt, tt), inr ((tt, follows), inl (refl, λ is. true≢false (sym (law.1 is)))))))

pub line_played : RepliesAtPlaces → MappedIsTouched → (j : Judge) (before after : List Item) (b : BoardState) (v : ProcessView) (pid : ℕ) (l : Line) (right : Bool) →
    (IsTrue right ↔ (view_answer v.library v.holding l.command ≡ Some l.reply)) → accepted_in l.command l.reply ≡ None → IsBoardAt j before b →
    IsViewAt j before (line pid l ∷ after) b v pid → IsPlayed j before (line pid l) after (fault_unless right)
line_played laws touched j before after b v pid l right found none board view =
    let law = reply_right laws touched j before after b v pid l none board view in
    played_by j before after pid l (follows_none j.lib j.failing before pid l.command l.reply none) right (λ is. law.0 (found.0 is), λ is. found.1 (law.1 is))

pub stands_after : MappedIsTouched → MappedAfterLine → (j : Judge) (before after : List Item) (b : BoardState) (v : ProcessView) (pid : ℕ) (l : Line) → accepted_in l.command l.reply ≡ None →
    IsViewAt j before (line pid l ∷ after) b v pid → IsViewAt j (before ++ line pid l ∷ []) after b v pid
stands_after touched goes j before after b v pid l none view = record {
  number = view.number;
  stands = view.stands;
  mapped = goes j before after pid l (mapped_pages v.holding) none (touched j before after (line pid l) pid (mapped_pages v.holding) (eq-eqb pid pid refl) none view.mapped);
}
