-- Items of one process, played.
use Rattle.std.proofs.Common.{◌≡◌, ℕ, List, [], ◌∷◌, ◌++◌, append-nil, Option, None, Result, Ok, Err, sym, ap, ◌∙◌}
use Rattle.std.specs.Prelude.{IfOk}
use Rattle.load_model.specs.declared.commands.Command.{Command}
use Rattle.load_model.specs.declared.deeds.Deed.TheVariants as deeds
use Rattle.load_model.specs.declared.deeds.Entry.{Entry}
use Rattle.session_model.specs.declared.sessions.Line.{Line}
use Rattle.session_model.specs.Merging.{Item, entry, line}
use Rattle.session_model.specs.MergeLaws.{entries_in}
use Rattle.session_model.proofs.MergeStates.{entries_append}
use Rattle.load_core.specs.BoardState.{BoardState}
use Rattle.process_view.specs.ProcessViews.{ProcessView}
use Rattle.check_model.specs.declared.kinds.CheckKind.{CheckKind}
use Rattle.check_model.specs.Checks.{Judge}
use Rattle.check_core.specs.PlayedItems.{IsPlayed, CanPlay, next_after}
use Rattle.play_laws.specs.MappedPages.{accepted_in}
use Rattle.check_play.specs.declared.faults.ResidencePage.{ResidencePage}
use Rattle.check_play.specs.declared.standing.Standing.{Standing}
use Rattle.check_play.specs.AtPlaces.{IsBoardAt, IsViewAt}
use Rattle.check_play.specs.Playing.{StandsAlone, IsPlayedAlone, PlaysItem}

-- a line leaves a board as it is
board_same : (j : Judge) (before : List Item) (pid : ℕ) (l : Line) (b : BoardState) → IsBoardAt j before b → IsBoardAt j (before ++ line pid l ∷ []) b
board_same j before pid l b here = record {
  is = here.is ∙ ap (λ (h : List Entry). record { library = j.lib; failing = j.failing; history = h; keeper = b.keeper }) (sym (entries_append before (line pid l ∷ []) ∙ append-nil (entries_in before)));
  contents = here.contents;
  legal = here.legal;
}

-- a line that is no accepted touch
pub line_alone : {E : Type 0} (r : Result (Option CheckKind) E) (s : Standing) (v : ProcessView) (pid : ℕ) (l : Line) → None ≡ accepted_in l.command l.reply →
    IfOk r (λ answer. (j : Judge) (before after : List Item) (b : BoardState) (p : ℕ) → accepted_in l.command l.reply ≡ None → IsBoardAt j before b → IsViewAt j before (line p l ∷ after) b v p →
    IsPlayed j before (line p l) after answer) →
    ((j : Judge) (before after : List Item) (b : BoardState) (p : ℕ) → accepted_in l.command l.reply ≡ None → IsViewAt j before (line p l ∷ after) b v p →
    IsViewAt j (before ++ line p l ∷ []) after b v p) →
    IfOk r (λ answer. (j : Judge) (before after : List Item) → StandsAlone j before (line pid l ∷ after) s v pid → IsPlayedAlone j before (line pid l) after s v pid answer)
line_alone (Ok answer) s v pid l none judged on = λ j before after stands. record {
  judged = judged j before after s.board pid (sym none) stands.board stands.view;
  stands = λ right. record {
    board = board_same j before pid l s.board stands.board;
    kept = stands.kept;
    view = on j before after s.board pid (sym none) stands.view;
  };
}
line_alone (Err e) s v pid l none judged on = tt

pub fault_alone : {E : Type 0} (r : Result (Option CheckKind) E) (at : ResidencePage) (x : Entry) (command : Option Command) (next : Option Item) (s t : Standing) (v w : ProcessView) →
    x.deed ≡ deeds.Fault at.residence.serial at.residence.«module» at.page →
    IfOk r (λ answer. (j : Judge) (before after : List Item) (y : Entry) (asked : Option Command) → y.deed ≡ deeds.Fault at.residence.serial at.residence.«module» at.page → CanPlay j before (entry y) asked →
    next ≡ next_after (entry y) after → StandsAlone j before (entry y ∷ after) s v y.pid → IsPlayedAlone j before (entry y) after t w y.pid answer) →
    IfOk r (PlaysItem (entry x) command next s v t w)
fault_alone (Ok answer) at x command next s t v w is played = λ j before after can follows stands. played j before after x command is can follows stands
fault_alone (Err e) at x command next s t v w is played = tt
