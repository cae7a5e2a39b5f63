use Rattle.std.proofs.Common.{◌*◌, ◌∙◌, arith}
use Rattle.lx_model.specs.declared.lengths.TheConstants.{PAGE_ENTRY_LEN}
use Rattle.lx_model.specs.declared.header_fields.TheConstants.{OBJECT_PAGE_TABLE}
use Rattle.lx_model.specs.Header.{table, page_count}
use Rattle.lx_model.specs.TableSpelling.{pages_spelling}
use Rattle.res_model.specs.Bound.{new_pages, old_entries, page_table}
use Rattle.res_bind.proofs.Written.{old_part, joined}
use Rattle.res_bind.proofs.tables.push_pages.Goals as goal

pub returns : goal.returns
unfolding page_table
returns c =
    let file = c.args.plan.now.file.now in
    let items = c.args.plan.now.items.now in
    let numbers = c.requires.numbers in
    let part = c.part.ensures ∙ old_part file c.args.plan.now.tables.page_table (table file OBJECT_PAGE_TABLE) (PAGE_ENTRY_LEN * c.args.plan.now.tables.pages) (PAGE_ENTRY_LEN * page_count file) numbers.page_table.0 (omega (arith, numbers.pages)) in
    let entry = c.as_slice.ensures ∙ c.in_ok-entry.ensures in
    joined c.args.out.now.items c.part.result.now c.as_slice.result.now c.extend_from_slice.new.self.items c.extend_from_slice-2.new.self.items
    (old_entries file OBJECT_PAGE_TABLE PAGE_ENTRY_LEN (page_count file)) (pages_spelling (new_pages file items)) c.in_ok-extend_from_slice.ensures.items c.in_ok-extend_from_slice-2.ensures.items part entry
