use Rattle.std.proofs.Common.{◌≡◌, ◌∙◌, ◌-◌, ap, arith, cond, get_or, ℕ, List, take}
use Rattle.std.proofs.lemmas.List.{get_or-take, take-take}
use Rattle.obj_types.specs.declared.symbol.Imp.{Imp}
use Rattle.link_model.specs.Mean.{fixup_covers}
use Rattle.link_fix.specs.declared.fixup.Fixup.{Fixup}
use Rattle.link_fix.specs.Images.{byte_of}
use Rattle.link_fix.specs.Paging.{fixes_of, records_before}
use Rattle.link_fix.specs.Shown.{shown}
use Rattle.link_fix.specs.Values.{field_byte}
use Rattle.link_fix.proofs.PagedFixes.{records-more}
use Rattle.link_fix.proofs.PaintedFields.{fields-more}
use Rattle.link_fix.proofs.pages.place_live.Goals as goal

pub fixups-preserved : goal.fixups-preserved
fixups-preserved c =
    let live : List Fixup = c.args.live.items in
    let imports : List Imp = c.args.imports.now in
    let left : ℕ = c.fixups.left in
    let q : Fixup = c.index.result.now in
    let here : q ≡ get_or live (left - 1) q =
    c.index.ensures ∙ ap (λ (qs : List Fixup). get_or qs (left - 1) q) c.fixups.invariant.kept ∙ get_or-take left live (left - 1) q (omega arith) in
    record {
      within = omega arith;
      kept = c.leave_first.ensures ∙ ap (take (left - 1)) c.fixups.invariant.kept ∙ take-take (left - 1) left live (omega arith);
      bytes = fields-more (byte_of c.args.rows.now) c.fixups.rows c.place_fixup.new.rows live left q (omega arith) c.fixups.invariant.within c.fixups.invariant.bytes
          (λ l n x. c.in_ok-place_fixup.ensures.bytes l n x
          ∙ ap (λ (r : Fixup). cond (fixup_covers n x (shown r)) (field_byte l (shown r) (x - r.offset)) (byte_of c.fixups.rows n x)) here);
      records = λ pairs are n k. records-more imports pairs live left q n k _ _ (omega arith) c.fixups.invariant.within (c.fixups.invariant.records pairs are n k)
          (c.in_ok-place_fixup.ensures.records pairs are n k ∙ ap (λ (r : Fixup). records_before imports pairs (shown r) n k (fixes_of c.fixups.pages n k)) here);
    }
