-- Views of processes over one board, in one thread.
use Rattle.std.specs.Prelude.{◌≡◌, ℕ, ◌+◌, ◌<◌, ◌≤◌, ◌++◌, List, length, true, slice_index_or}
use Rattle.std.specs.List.{AllByRecursion}
use Rattle.load_model.specs.declared.deeds.Entry.{Entry}
use Rattle.load_model.specs.State.{pids, is_among}
use Rattle.load_core.specs.BoardState.{BoardState}
use Rattle.process_view.specs.ProcessViews.{ProcessView, StandsAt, at_front}

-- the view stands for all that was done, once it is shown it
abbrev pub StandsShown : BoardState → ProcessView → Type 0
StandsShown b v = StandsAt b (at_front (length b.history) v)

-- It is the view of one of 16 processes, and stands so.
pub record CanGoOn (b : BoardState) (v : ProcessView) : Type 0 where
  pub process : is_among pids v.holding.pid ≡ true
  pub stands : StandsShown b v

-- The process of a view did more, and no other did; its view stands for that as well.
pub record WentOn (b c : BoardState) (v w : ProcessView) : Type 0 where
  pub library : c.library ≡ b.library
  pub failing : c.failing ≡ b.failing
  pub more : List Entry
  pub history : c.history ≡ b.history ++ more
  pub own : AllByRecursion (λ (x : Entry). x.pid ≡ v.holding.pid) more
  pub pid : w.holding.pid ≡ v.holding.pid
  pub stands : StandsShown c w

-- Beside that it has pages more, and nothing else.
pub record MappedMore (b c : BoardState) (v w : ProcessView) : Type 0 where
  pub went : WentOn b c v w
  pub library : w.library ≡ v.library
  pub residences : w.residences ≡ v.residences
  pub ended : w.holding.ended ≡ v.holding.ended

-- views of at most 16 processes, numbered from 1, each of which stands so
pub record AreViews (b : BoardState) (vs : List ProcessView) : Type 0 where
  pub few : length vs ≤ 16
  pub numbers : (k : ℕ) (d : ProcessView) → k < length vs → (slice_index_or vs k d).holding.pid ≡ k + 1
  pub stand : (k : ℕ) (d : ProcessView) → k < length vs → StandsShown b (slice_index_or vs k d)
