use Rattle.std.proofs.Common.{◌<◌, length, arith}
use Rattle.lx_types.specs.Names.{IsName}
use Rattle.obj_types.specs.declared.symbol.Exp.{Exp}
use Rattle.def_write.specs.Names.{ExportNames}
use Rattle.def_write.specs.Writing.{export_tokens}
use Rattle.def_write.proofs.WritingLaws.{written_more, all_more}
use Rattle.def_write.proofs.writing.put_exports.Goals as goal

pub loop-export-preserved : goal.loop-export-preserved
loop-export-preserved c =
    let i = c.loop-export.export-index in
    let xs = c.args.exports.now in
    let x = c.export-item.result in
    let within : i < length xs = omega arith in (
      written_more export_tokens c.args.out.now.items c.loop-export.out.items c.put_export.new.out.items xs i x within c.export-item.is c.loop-export.invariant.0
          c.in_ok-put_export.ensures.text,
      all_more (λ (s : Exp). ExportNames IsName s) xs i x within c.export-item.is c.loop-export.invariant.1 c.in_ok-put_export.ensures.short,
    )
