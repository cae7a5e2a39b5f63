use Rattle.std.proofs.Common.{List, length, ap, arith}
use Rattle.std.proofs.lemmas.List.{nil_from_length}
use Rattle.obj_types.specs.declared.parts.BegunComdat.{BegunComdat}
use Rattle.omf_comdat.proofs.finish.finished.Goals as goal

pub without_comdats-requires-clause-none : goal.without_comdats-requires-clause-none
without_comdats-requires-clause-none c =
    let same = ap (λ (bs : List BegunComdat). length bs) c.as_slice.ensures in
    nil_from_length c.args.parts.comdats (grind (arith, same, c.is_empty.ensures, c.if-is_empty.true))
