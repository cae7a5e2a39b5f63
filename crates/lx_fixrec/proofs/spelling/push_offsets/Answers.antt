use Rattle.std.proofs.Common.{rules, ◌≡◌, ◌++◌, get_or, pos}
use Rattle.lx_model.specs.RecordSpelling.{offset_spelling}
use Rattle.lx_fixrec.proofs.Written.{more}
use Rattle.lx_fixrec.proofs.spelling.push_offsets.Goals as goal

pub loop-offset-preserved : goal.loop-offset-preserved
loop-offset-preserved c =
    let after : c.push_offset.new.out.items ≡ c.loop-offset.out.items ++ offset_spelling (get_or c.args.offsets.now c.loop-offset.offset-index (pos 0)) = search rules in
    more offset_spelling c.args.offsets.now c.loop-offset.offset-index (pos 0) c.args.out.now.items c.loop-offset.out.items _ c.loop-offset-test.true c.loop-offset.invariant after
