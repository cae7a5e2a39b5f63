use Rattle.std.proofs.Common.{◌≡◌, ◌<◌, ◌+◌, ℕ, length}
use Rattle.std.specs.Prelude.{slice_index}
use Rattle.lx_fixrec.specs.Left.{left_in, count_of}
use Rattle.page_fix.specs.Laid.{laid, patches_left}
use Rattle.page_fix.proofs.fixing.Site.put_sources.Given as goal

-- The sources that are left make of the page so far what all make of the page, and what was counted and is left is all.
abbrev pub invariant-loop-source : goal.invariant-loop-source
invariant-loop-source g l = record {
  same : (i : ℕ) → i < 4096 →
      laid (patches_left l.fn.self.lib.now l.fn.self.«module» l.fn.self.bases.bases.now l.fn.self.page l.sources) i (slice_index l.page i)
      ≡ laid (patches_left l.fn.self.lib.now l.fn.self.«module» l.fn.self.bases.bases.now l.fn.self.page (left_in l.at l.bytes)) i (slice_index l.initial.page i);
  long : length l.page ≡ 4096;
  counted : l.steps + length l.sources.items ≡ l.initial.steps + length (left_in l.at l.bytes).items;
}

abbrev pub decreases-loop-source : goal.decreases-loop-source
decreases-loop-source g l = count_of l.sources
