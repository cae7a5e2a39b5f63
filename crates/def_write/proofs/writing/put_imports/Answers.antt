use Rattle.std.proofs.Common.{◌<◌, length, arith}
use Rattle.lx_types.specs.Names.{IsName}
use Rattle.obj_types.specs.declared.symbol.Imp.{Imp}
use Rattle.def_write.specs.Names.{ImportNames}
use Rattle.def_write.specs.Writing.{import_tokens}
use Rattle.def_write.proofs.WritingLaws.{written_more, all_more}
use Rattle.def_write.proofs.writing.put_imports.Goals as goal

pub loop-import-preserved : goal.loop-import-preserved
loop-import-preserved c =
    let i = c.loop-import.import-index in
    let xs = c.args.imports.now in
    let x = c.import-item.result in
    let within : i < length xs = omega arith in (
      written_more import_tokens c.args.out.now.items c.loop-import.out.items c.put_import.new.out.items xs i x within c.import-item.is c.loop-import.invariant.0
          c.in_ok-put_import.ensures.text,
      all_more (λ (s : Imp). ImportNames IsName s) xs i x within c.import-item.is c.loop-import.invariant.1 c.in_ok-put_import.ensures.short,
    )
