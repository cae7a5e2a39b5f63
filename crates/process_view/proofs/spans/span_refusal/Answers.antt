use Rattle.std.proofs.Common.{◌∙◌, sym}
use Rattle.process_view.proofs.Insides.{bytes_inside}
use Rattle.process_view.proofs.spans.span_refusal.Goals as goal

pub class_of-class-requires-clause-object : goal.class_of-class-requires-clause-object
class_of-class-requires-clause-object c =
    (bytes_inside c.args.lib.now c.args.m c.args.place.now.object c.args.place.now.offset c.args.place.now.len (sym c.is_outside.ensures ∙ c.if-is_outside.false)).there
