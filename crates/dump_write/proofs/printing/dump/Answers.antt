use Rattle.std.proofs.Common.{◌++◌, ap, ◌∙◌}
use Rattle.std.specs.List.{flat_map, enumerate_from}
use Rattle.dump_model.specs.Lines.{module_line, entry_line, name_line}
use Rattle.dump_model.specs.Dumps.{object_lines, numbered_import_line}
use Rattle.dump_write.proofs.LinesPushed.{dump-pushed}
use Rattle.dump_write.proofs.printing.dump.Goals as goal

pub returns : goal.returns
returns c =
    c.from_vec.ensures
    ∙ dump-pushed c.args.l.now c.push_module.new.out.items c.push_objects.new.out.items c.push_imports.new.out.items c.push_entries.new.out.items
    c.push_names.new.out.items c.push_line.new.out.items
    (c.in_ok-push_module.ensures ∙ ap (λ out. out ++ module_line c.args.l.now) c.new-out.ensures.items)
    (c.in_ok-push_objects.ensures ∙ ap (λ xs. c.push_module.new.out.items ++ flat_map object_lines (enumerate_from 1 xs)) c.as_slice.ensures)
    (c.in_ok-push_imports.ensures ∙ ap (λ xs. c.push_objects.new.out.items ++ flat_map numbered_import_line (enumerate_from 1 xs)) c.as_slice-2.ensures)
    (c.in_ok-push_entries.ensures ∙ ap (λ xs. c.push_imports.new.out.items ++ flat_map entry_line xs) c.as_slice-3.ensures)
    (c.in_ok-push_names.ensures ∙ ap (λ xs. c.push_entries.new.out.items ++ flat_map name_line xs) c.as_slice-4.ensures)
    c.in_ok-push_line.ensures
