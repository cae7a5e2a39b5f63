use Rattle.std.proofs.Common.{refl, sym, ◌∙◌}
use Rattle.omf_model.proofs.BegunLaws.{begun-whole}
use Rattle.omf_fix.specs.Field.{first_at, unplaced}
use Rattle.omf_fix.proofs.Fields.{fixup-refused, fixup-dropped, fixup-kept, gives-adds}
use Rattle.omf_fix.proofs.field.fixup.Goals as goal

pub see-requires-clause-limit : goal.see-requires-clause-limit
see-requires-clause-limit c = (begun-whole c.args.into.now c.requires.begun).data_limit

pub returns-in-Err-clause-added : goal.returns-in-Err-clause-added
returns-in-Err-clause-added c = fixup-refused c.args.start.fixupp.wide c.args.into.now (first_at c.args.start) c.args.fields.now _ c.in-Err.ensures

pub returns-then-is_dropped-clause-added : goal.returns-then-is_dropped-clause-added
returns-then-is_dropped-clause-added c =
    fixup-dropped c.args.start.fixupp.wide c.args.into.now (first_at c.args.start) c.args.fields.now c.fixup_fields.new.fields (unplaced c.in-Ok.read) (begun-whole c.args.into.now c.requires.begun).four c.in-Ok.ensures (sym c.is_dropped.ensures ∙ c.if-is_dropped.true)

pub returns-clause-added : goal.returns-clause-added
returns-clause-added c =
    gives-adds c.place_fixup.new.into c.place_fixup.result _ _ c.fixup_fields.new.fields c.place_fixup.ensures.placed
    (fixup-kept c.args.start.fixupp.wide c.args.into.now (record { of_record = c.args.start.fixupp.at; at = c.args.start.at; high = c.args.start.byte; low = c.in-Ok.read.low }) c.args.fields.now c.fixup_fields.new.fields (unplaced c.in-Ok.read) c.in-Ok.ensures refl (sym c.is_dropped.ensures ∙ c.if-is_dropped.false))
