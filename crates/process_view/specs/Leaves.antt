-- What a view keeps once its process gave something up.
use Rattle.std.specs.Prelude.{◌≡◌, ◌<◌, ℕ, [], true, All, AllPairs, length, slice_index}
use Rattle.load_model.specs.Modules.{order_of}
use Rattle.load_model.specs.State.{Process, reaches}
use Rattle.load_model.specs.Leaving.{freeing}
use Rattle.load_model.specs.ProcessCounts.{ProcessCounts}
use Rattle.mod_refs.specs.declared.changes.Leaving.{Leaving}
use Rattle.mod_refs.specs.declared.changes.Leaving.TheVariants.{One, All as Everything}
use Rattle.process_view.specs.ProcessViews.{ProcessView, freed_view}

-- by what its process was before, and with these counts
abbrev pub view_left : ProcessView → Leaving → Process → ProcessCounts → ℕ → ℕ → ProcessView
view_left v (One m) p counts room more = freed_view v (reaches v.library (freeing m p)) counts room more
view_left v Everything p counts room more = record {
  library = v.library;
  holding = record v.holding { ended = true; counts = counts; residences = []; mapped = [] };
  residences = [];
  page_room = room;
  residence_room = more;
}

-- the view's counts hold it
abbrev pub CanLeave : ProcessView → Leaving → Type 0
CanLeave v (One m) =
    (m < length v.library) × (0 < slice_index v.holding.counts.loads m)
    × All (λ k. 0 < slice_index v.holding.counts.reached k) (order_of v.library m)
    × AllPairs (λ a b. a ≡ b → ⊥) (order_of v.library m)
CanLeave v Everything = Unit {0}
