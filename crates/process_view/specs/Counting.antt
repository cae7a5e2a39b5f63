-- What a view must be for one start or load more to be counted.
use Rattle.std.specs.Prelude.{◌≡◌, ℕ, ◌<◌, ◌-◌, ◌^◌, None, length, slice_index}
use Rattle.lx_types.specs.declared.limits.TheConstants.{MAX_LOADS}
use Rattle.load_model.specs.declared.deeds.How.{How}
use Rattle.load_model.specs.declared.deeds.How.TheVariants as ways
use Rattle.load_model.specs.State.{Process}
use Rattle.load_model.specs.ProcessCounts.{ProcessCounts, AreCountsOf}
use Rattle.process_view.specs.ProcessViews.{ProcessView}

-- no program was started, or fewer loads are held than can be
abbrev pub IsFree : How → ProcessCounts → ℕ → Type 0
IsFree ways.Start counts m = counts.started ≡ None
IsFree ways.Load counts m = slice_index counts.loads m < MAX_LOADS

-- The counts are those of a process, of which one root more can be counted for each module.
pub record CanCount (how : How) (m : ℕ) (v : ProcessView) : Type 0 where
  pub process : Process
  pub counts : AreCountsOf v.library process v.holding.counts
  pub within : m < length v.library
  pub free : IsFree how v.holding.counts m
  pub small : (k : ℕ) → slice_index v.holding.counts.reached k < 2 ^ 32 - 1

-- the view with other counts
abbrev pub with_counts : ProcessCounts → ProcessView → ProcessView
with_counts counts v = record v { holding = record v.holding { counts = counts } }
