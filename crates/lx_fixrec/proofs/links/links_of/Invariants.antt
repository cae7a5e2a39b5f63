use Rattle.std.proofs.Common.{◌≡◌, ℕ, ◌≤◌, length, Some, slice_get, slice_index}
use Rattle.lx_types.specs.declared.fix.Fix.{Fix}
use Rattle.lx_fixrec.specs.Links.{IsNext, AreFirsts}
use Rattle.lx_fixrec.proofs.links.links_of.Given as goal

-- the sources from a place on
abbrev pub invariant-sources : goal.invariant-sources
invariant-sources l = record {
  few : l.left ≤ length l.sources;
  many : length l.links.items ≡ length l.sources;
  firsts : AreFirsts l.sources l.left l.firsts;
  each : (i : ℕ) (f : Fix) → l.left ≤ i → slice_get l.sources i ≡ Some f → IsNext l.sources f i (slice_index l.links.items i);
}

abbrev pub decreases-sources : goal.decreases-sources
decreases-sources l = l.left
