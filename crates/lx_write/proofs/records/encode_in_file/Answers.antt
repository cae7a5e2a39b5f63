use Rattle.std.proofs.Common.{◌<◌, ◌^◌, ◌≡◌, ◌∙◌, sym, subst, arith, rules, List}
use Rattle.std.specs.Prelude.{slice_index, IfOk}
use Rattle.lx_types.specs.declared.fix.Fix.{Fix}
use Rattle.lx_model.specs.JoinedRecords.{records_for}
use Rattle.image_model.specs.PageTables.{page_records}
use Rattle.lx_fixrec.specs.Writable.{MayBeWritten}
use Rattle.lx_write.proofs.InFile.{written_at, unnamed_same}
use Rattle.lx_write.proofs.records.encode_in_file.Goals as goal

pub encode_page-requires-2 : goal.encode_page-requires-2
encode_page-requires-2 c =
    subst MayBeWritten (sym (c.deref.ensures.value ∙ c.in_ok-fixes.ensures))
    (written_at c.args.offsets.now c.args.fixes.now (λ i. let small = c.type_inv.offsets i in let f : slice_index c.args.offsets.now i < 2 ^ 32 = omega (arith, small) in f) c.requires.fit)

pub returns-then-is_empty : goal.returns-then-is_empty
returns-then-is_empty c =
    subst (λ (fs : List Fix). IfOk c.encode_page.result (λ bytes. bytes ≡ page_records (records_for fs)))
    (sym (unnamed_same c.args.offsets.now c.args.fixes.now (search rules) c.requires.names)) c.encode_page.ensures.written
