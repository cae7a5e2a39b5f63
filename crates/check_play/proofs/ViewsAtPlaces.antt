-- The view of a process at the place of an item of its own.
use Rattle.std.proofs.Common.{◌≡◌, ℕ, true, List, ◌∷◌, length, None, sym, subst}
use Rattle.load_model.specs.Modules.{Held, fixed_bytes}
use Rattle.load_model.specs.Histories.{Legal}
use Rattle.load_model.specs.Views.{Holding, mapped_pages, StandsFor}
use Rattle.session_model.specs.Merging.{Item, is_command_of}
use Rattle.session_model.specs.MergeLaws.{entries_in}
use Rattle.load_core.specs.BoardState.{BoardState, IsLegal}
use Rattle.process_view.specs.ProcessViews.{ProcessView}
use Rattle.check_model.specs.Checks.{Judge}
use Rattle.check_core.specs.PlaceStates.{HasTouchedAt, StandsAtPlace}
use Rattle.play_laws.specs.MappedPages.{accepted_touch, MappedIsTouched}
use Rattle.check_play.specs.Standing.{StandsShown}
use Rattle.check_play.specs.AtPlaces.{IsBoardAt, IsViewAt}

-- Where the item is for a command and no accepted touch, the view stands at its place.
pub at_place : MappedIsTouched → (j : Judge) (before after : List Item) (b : BoardState) (v : ProcessView) (item : Item) (pid : ℕ) → is_command_of pid item ≡ true → accepted_touch item ≡ None → IsBoardAt j before b →
    IsViewAt j before (item ∷ after) b v pid → StandsAtPlace j before (record v.holding { front = length (entries_in before) })
at_place touched j before after b v item pid own none board view =
    let legal : Legal j.lib j.failing (fixed_bytes j.lib) (entries_in before) = subst IsLegal board.is board.legal in
    let shown : StandsShown (record { library = j.lib; failing = j.failing; history = entries_in before; keeper = b.keeper }) v = subst (λ (x : BoardState). StandsShown x v) board.is view.stands in
    let h : Holding = record v.holding { front = length (entries_in before) } in
    record {
      legal = subst (λ (c : Held). Legal j.lib j.failing c (entries_in before)) (sym board.contents) legal;
      stands = subst (λ (c : Held). StandsFor j.lib j.failing c h (entries_in before)) (sym board.contents) shown.stands;
      touched = subst (λ (n : ℕ). HasTouchedAt j before n (mapped_pages v.holding)) (sym view.number) (touched j before after item pid (mapped_pages v.holding) own none view.mapped);
    }
