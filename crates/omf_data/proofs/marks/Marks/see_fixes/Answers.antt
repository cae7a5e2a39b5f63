use Rattle.std.proofs.Common.{◌∙◌}
use Rattle.omf_data.proofs.Touched.{one-seen}
use Rattle.omf_data.proofs.marks.Marks.see_fixes.Goals as goal

pub fixes-preserved : goal.fixes-preserved
fixes-preserved c =
    record {
      have = one-seen c.fixes.self c.see_location.new.self c.args.fixes.now _ c.fixes-test.true c.fixes.invariant.have c.see_location.ensures.counts.fixes c.in_ok-see_location.ensures.ok;
      pieces = c.see_location.ensures.counts.pieces ∙ c.fixes.invariant.pieces;
      bytes = c.see_location.ensures.counts.bytes ∙ c.fixes.invariant.bytes;
      ends = c.see_location.ensures.counts.ends ∙ c.fixes.invariant.ends;
      begun = c.see_location.ensures.counts.begun ∙ c.fixes.invariant.begun;
    }
