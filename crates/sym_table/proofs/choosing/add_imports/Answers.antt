use Rattle.std.proofs.Common.{◌∙◌, ap, ℕ, List, bytes_eq, refl}
use Rattle.name_table.specs.Entries.{value_named, with_entry}
use Rattle.sym_table.proofs.LeaderTables.{more_entry, item_given}
use Rattle.sym_table.proofs.choosing.add_imports.Goals as goal

-- src/choosing.rt:45:5
pub loop-import-preserved : goal.loop-import-preserved
loop-import-preserved c = λ name.
    let x = c.import-item.result in
    let table = c.loop-import.table in
    let v = c.args.value in
    item_given (λ i. bytes_eq i.name name) c.args.imports.now c.loop-import.import-index x (value_named name c.args.table.now) (value_named name table) (value_named name c.push.new.self)
    (bytes_eq x.name name) v c.loop-import-test.true c.import-item.is (c.loop-import.invariant name)
    (ap (λ (t : List (List ℕ × ℕ)). value_named name t) (c.in_ok-push.ensures.entries ∙ ap (λ (n : List ℕ). with_entry table n v) c.bytes.ensures.same) ∙ more_entry name x.name v table)
    refl
