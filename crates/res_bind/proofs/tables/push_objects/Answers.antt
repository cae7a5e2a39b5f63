use Rattle.std.proofs.Common.{◌*◌, ◌∙◌, append-nil, arith}
use Rattle.lx_model.specs.declared.lengths.TheConstants.{OBJECT_ENTRY_LEN}
use Rattle.lx_model.specs.declared.header_fields.TheConstants.{OBJECT_TABLE}
use Rattle.lx_model.specs.Header.{table, object_count}
use Rattle.lx_model.specs.TableSpelling.{object_spelling}
use Rattle.res_model.specs.Bound.{new_object, old_entries, object_table}
use Rattle.res_bind.proofs.Written.{old_part, joined}
use Rattle.res_bind.proofs.tables.push_objects.Goals as goal

pub returns : goal.returns
unfolding object_table
returns c =
    let file = c.args.plan.now.file.now in
    let items = c.args.plan.now.items.now in
    let numbers = c.requires.numbers in
    let part = c.part.ensures ∙ old_part file c.args.plan.now.tables.object_table (table file OBJECT_TABLE) (OBJECT_ENTRY_LEN * c.args.plan.now.tables.objects) (OBJECT_ENTRY_LEN * object_count file) numbers.object_table.0 (omega (arith, numbers.objects)) in
    let entry = c.as_slice.ensures ∙ c.in_ok-entry.ensures ∙ append-nil (object_spelling (new_object file items)) in
    joined c.args.out.now.items c.part.result.now c.as_slice.result.now c.extend_from_slice.new.self.items c.extend_from_slice-2.new.self.items
    (old_entries file OBJECT_TABLE OBJECT_ENTRY_LEN (object_count file)) (object_spelling (new_object file items)) c.in_ok-extend_from_slice.ensures.items c.in_ok-extend_from_slice-2.ensures.items part entry
