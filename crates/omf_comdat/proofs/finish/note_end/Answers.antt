use Rattle.std.proofs.Common.{◌≡◌, ◌+◌, ◌-◌, ◌<◌, ℕ, List, length, get_or, set, ap, ◌∙◌, arith}
use Rattle.std.proofs.lemmas.List.FromFn.{get_or-map-range_with_len}
use Rattle.obj_types.specs.declared.parts.TheConstants.{COMDAT_BASE}
use Rattle.omf_model.specs.Finished.{greatest_end}
use Rattle.omf_comdat.proofs.Ends.{ends-apart, ends-set}
use Rattle.omf_comdat.proofs.finish.note_end.Goals as goal

pub returns-then-piece-le-COMDAT_BASE : goal.returns-then-piece-le-COMDAT_BASE
returns-then-piece-le-COMDAT_BASE c = λ before e.
    e ∙ ends-apart before c.args.piece.now (COMDAT_BASE + 1) (length c.args.ends.now) (λ j low high same. omega (arith, c.if-piece-le-COMDAT_BASE.true, same, low))

pub returns-then-ends-place : goal.returns-then-ends-place
returns-then-ends-place c = λ before e.
    e ∙ ends-apart before c.args.piece.now (COMDAT_BASE + 1) (length c.args.ends.now) (λ j low high same. omega (arith, c.if-piece-le-COMDAT_BASE.false, c.if-ends-place.true, same, low, high))

pub returns : goal.returns
returns c = λ before e.
    let k : ℕ = c.args.piece.now.seg - COMDAT_BASE - 1 in
    let at : c.args.piece.now.seg ≡ COMDAT_BASE + 1 + k = omega (arith, c.if-piece-le-COMDAT_BASE.false) in
    let fits : k < length c.args.ends.now = omega (arith, c.if-ends-place.false) in
    let item : get_or c.args.ends.now k 0 ≡ greatest_end before c.args.piece.now.seg =
    ap (λ (ns : List ℕ). get_or ns k 0) e ∙ get_or-map-range_with_len (greatest_end before) (COMDAT_BASE + 1) (length c.args.ends.now) k c.args.piece.now.seg 0 fits (omega (arith, at)) in
    ap (λ (ns : List ℕ). set ns k c.max.result) e
    ∙ ends-set before c.args.piece.now k (COMDAT_BASE + 1) (length c.args.ends.now) c.max.result at fits (omega (arith, c.max.ensures, item, ap (λ (bs : List ℕ). length bs) c.as_slice.ensures))
