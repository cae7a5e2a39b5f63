use Rattle.std.proofs.Common.{◌≡◌, to_z, of_z, w32, subst, sym, ap, ◌∙◌, ◌+◌, ◌≤◌, rules}
use Rattle.std.proofs.lemmas.Int.{to_z-of_z}
use Rattle.std.specs.Prelude.{FitsSigned, ℤ}
use Rattle.lx_model.specs.RecordSpelling.{OffsetFits}
use Rattle.writable_images.specs.Bytes.{first_byte}
use Rattle.writable_images.proofs.records.first_byte.Goals as goal

pub first_at-requires : goal.first_at-requires
first_at-requires c =
    let fits : FitsSigned w32 c.args.fix.now.offset = search rules in
    let same : to_z w32 (of_z w32 c.args.fix.now.offset) ≡ c.args.fix.now.offset = to_z-of_z w32 c.args.fix.now.offset fits in
    subst (OffsetFits c.args.fix.now.source) (sym same) c.requires

pub returns : goal.returns
returns c =
    let fits : FitsSigned w32 c.args.fix.now.offset = search rules in
    let same : to_z w32 (of_z w32 c.args.fix.now.offset) ≡ c.args.fix.now.offset = to_z-of_z w32 c.args.fix.now.offset fits in
    record {
      value = c.first_at.ensures.value ∙ ap first_byte same;
      room = c.first_at.ensures.room;
    }
