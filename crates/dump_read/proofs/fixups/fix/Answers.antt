use Rattle.std.proofs.Common.{rules, w32, subst, sym}
use Rattle.std.specs.Prelude.{FitsSigned}
use Rattle.std.proofs.lemmas.Int.{to_z-of_z}
use Rattle.dump_model.specs.Bounds.{IsFix}
use Rattle.dump_model.specs.Lines.{fix_line}
use Rattle.dump_read.specs.Taken.{Reads, shut}
use Rattle.dump_read.proofs.FixForms.{fix_with, fix-reads}
use Rattle.dump_read.proofs.fixups.fix.Goals as goal

pub returns : goal.returns
returns c =
    let fits : FitsSigned w32 c.signed-offset.result = search rules in
    subst
    (λ z. Reads (fix_line c.args.object c.args.page) IsFix shut (fix_with c.source-source.result c.aliased-alias.result.0 c.aliased-alias.result.1 c.number-additive.result z)
    c.args.reader.now c.number-additive.new.self)
    (sym (to_z-of_z w32 c.signed-offset.result fits))
    (fix-reads c.args.object c.args.page _ c.args.reader.now c.word.new.self c.count.new.self c.count-2.new.self c.signed-offset.new.self c.source-source.new.reader c.aliased-alias.new.reader
    c.word-2.new.self c.number-additive.new.self c.word.ensures c.count.ensures c.count-2.ensures c.signed-offset.ensures c.source-source.ensures c.aliased-alias.ensures c.word-2.ensures
    c.number-additive.ensures)
