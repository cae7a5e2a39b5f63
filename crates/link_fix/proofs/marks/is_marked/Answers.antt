use Rattle.std.proofs.Common.{◌≡◌, ◌∙◌, sym, arith}
use Rattle.link_fix.specs.Images.{byte_of}
use Rattle.link_fix.proofs.MarkedBytes.{marks-step}
use Rattle.link_fix.proofs.marks.is_marked.Goals as goal

pub bytes-preserved : goal.bytes-preserved
bytes-preserved c =
    let bare : c.byte.result ≡ 0 = omega arith in
    record {
      same = marks-step (byte_of c.args.marks.now c.args.q.now.object) c.bytes.at c.bytes.left (omega arith) (sym c.byte.ensures ∙ bare) ∙ c.bytes.invariant.same;
      place = omega arith;
    }
