use Rattle.std.proofs.Common.{refl, ap, arith}
use Rattle.std.specs.List.{list_any}
use Rattle.omf_data.specs.Marks.{is_inside}
use Rattle.omf_data.proofs.marks.Marks.new.Goals as goal

pub returns : goal.returns
returns c = λ p. record {
  pieces = record { seen = omega arith; counted = refl };
  ends = c.new.ensures p.module.fixes;
  fixes = record {
    seen = omega arith;
    located = λ seg x. c.new-2.ensures seg x;
    bare = λ seg start len. ap (list_any (is_inside seg start len)) c.new-3.ensures.items;
  };
  begun = c.new-4.ensures p.comdats;
}
