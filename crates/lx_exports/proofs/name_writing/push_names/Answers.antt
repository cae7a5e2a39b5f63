use Rattle.std.proofs.Common.{◌≡◌, ◌++◌, inl, inr}
use Rattle.lx_exports.proofs.NamesWritten.{names_bytes, no_exports, no_ordinals}
use Rattle.lx_exports.proofs.name_writing.push_names.Goals as goal

pub returns : goal.returns
returns c =
    let left = c.loop-export.export-iterator in
    let all = c.args.out.now.items ++ names_bytes c.args.resident c.args.exports.now c.args.ordinals.now in
    elim c.in-None.ensures.steps [
      | inl end ↦ no_exports c.args.resident c.loop-export.out.items all left.a.rest.now left.b.rest.now end.1.0 c.loop-export.invariant
      | inr end ↦ no_ordinals c.args.resident c.loop-export.out.items all left.a.rest.now left.b.rest.now end.1.0 c.loop-export.invariant
    ]
