-- All items, judged.
use Rattle.std.specs.Prelude.{◌≡◌, ℕ, [], None}
use Rattle.session_model.specs.Merging.{merge_of}
use Rattle.check_model.specs.Told.{Told}
use Rattle.check_model.specs.Places.{item_places, numbered_merge, numbered_scripts}
use Rattle.check_model.specs.Checks.{Judge}
use Rattle.check_core.specs.declared.whole.ItemsJudged.{ItemsJudged}
use Rattle.check_core.specs.Judged.{IsJudged}
use Rattle.check_core.specs.NextCommands.{AreDone}

-- What is wrong first with an item is told; where nothing is, the commands of all are counted.
pub record AreItemsJudged (j : Judge) (t : Told) (first : ℕ) (judged : ItemsJudged) : Type 0 where
  pub items : IsJudged j t (item_places [] (numbered_merge (numbered_scripts 1 first t.run.steady) t.run.history)) judged.fault
  pub counted : judged.fault ≡ None → AreDone j (merge_of t.run.history t.run.steady) judged.done.items
