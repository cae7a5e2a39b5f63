use Rattle.std.proofs.Common.{◌≡◌, ◌-◌, ◌∷◌, ◌∙◌, List, ap, sym, refl, to_z, of_z, to_z-of_z, w32, arith}
use Rattle.lx_types.specs.declared.fix.Fix.{Fix}
use Rattle.lx_fixrec.specs.Sources.{offsets_left, fix_of}
use Rattle.std.specs.Prelude.{ℤ}
use Rattle.lx_model.specs.Records.{fixes_at_offsets}
use Rattle.lx_fixrec.specs.Reads.{kind_of, refusal}
use Rattle.lx_fixrec.proofs.Offsets.{left_next, left_wrong, nothing_left}
use Rattle.lx_fixrec.proofs.record.next_fix.Goals as goal

pub returns-then-current-eq0 : goal.returns-then-current-eq0
returns-then-current-eq0 c =
    let r = c.args.current.now in
    (ap (λ (os : List ℤ). fixes_at_offsets (kind_of r.kind) r.target r.additive os) (nothing_left r.left r.kind.source r.offsets c.if-current-eq0.true), refl)

pub unreachable-requires : goal.unreachable-requires
unreachable-requires c =
    let r = c.args.current.now in
    left_wrong r.left r.kind.source r.offsets (refusal c.in_default.field-0) c.if-current-eq0.false c.in_default.ensures c.requires

pub returns : goal.returns
returns c =
    let r = c.args.current.now in
    let next = left_next r.left r.kind.source r.offsets c.offset.new.fields c.in-Ok.offset c.if-current-eq0.false c.in-Ok.ensures c.requires in
    let more = fixes_at_offsets (kind_of r.kind) r.target r.additive in
    let back : to_z w32 (of_z w32 c.in-Ok.offset) ≡ c.in-Ok.offset = grind (arith, to_z-of_z) in
    let fix : c.fix_at-fix.result ≡ fix_of r c.in-Ok.offset = c.fix_at-fix.ensures ∙ ap (fix_of r) back in
    (ap more next.0 ∙ ap (λ (f : Fix). f ∷ more (offsets_left (r.left - 1) r.kind.source c.offset.new.fields)) (sym fix), next.1)
