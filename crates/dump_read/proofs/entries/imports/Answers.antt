use Rattle.std.proofs.Common.{◌+◌, [], ◌∷◌, length, subst, sym, ap, arith}
use Rattle.std.specs.Prelude.{codes}
use Rattle.std.proofs.lemmas.List.{length-append}
use Rattle.dump_model.specs.Bounds.{IsListedName}
use Rattle.dump_model.specs.Lines.{import_line}
use Rattle.dump_model.specs.Dumps.{numbered_import_line}
use Rattle.dump_read.specs.Taken.{Reads, shut}
use Rattle.dump_read.specs.Settled.{IsNext}
use Rattle.dump_read.specs.Sequences.{StarSoFar, list_text, list_opens, AllIn}
use Rattle.dump_read.proofs.Elements.{import-element}
use Rattle.dump_read.proofs.Runs.{star-steps, star-done, star-smaller}
use Rattle.dump_read.proofs.entries.imports.Goals as goal

pub overflow_add-number : goal.overflow_add-number
overflow_add-number c = omega (arith, c.loop-alloc.invariant.0, c.loop-alloc.names.ok, c.loop-alloc.names.small)

pub loop-alloc-smaller : goal.loop-alloc-smaller
loop-alloc-smaller c =
    star-smaller numbered_import_line IsListedName shut (codes "import ") import-element (1 + length c.loop-alloc.names.items) c.in_ok-import.field-0 c.loop-alloc.reader c.is_next.new.self c.import.new.reader (subst (λ b. IsNext (codes "import ") b c.loop-alloc.reader c.is_next.new.self) c.loop-alloc-test.true c.is_next.ensures)
    (subst (λ n. Reads (import_line n) IsListedName shut c.in_ok-import.field-0 c.is_next.new.self c.import.new.reader) (omega (arith, c.loop-alloc.invariant.0)) c.in_ok-import.ensures)

pub loop-alloc-preserved : goal.loop-alloc-preserved
loop-alloc-preserved c = (
  omega (arith, c.loop-alloc.invariant.0, ap length c.in_ok-push.ensures.items, length-append c.loop-alloc.names.items (c.in_ok-import.field-0 ∷ [])),
  subst (λ xs. StarSoFar numbered_import_line IsListedName shut (codes "import ") 1 xs c.args.reader.now c.import.new.reader) (sym c.in_ok-push.ensures.items)
      (star-steps numbered_import_line IsListedName shut (codes "import ") import-element 1 c.loop-alloc.names.items c.in_ok-import.field-0 c.args.reader.now c.loop-alloc.reader c.is_next.new.self c.import.new.reader c.loop-alloc.invariant.1 (subst (λ b. IsNext (codes "import ") b c.loop-alloc.reader c.is_next.new.self) c.loop-alloc-test.true c.is_next.ensures) (subst (λ n. Reads (import_line n) IsListedName shut c.in_ok-import.field-0 c.is_next.new.self c.import.new.reader) (omega (arith, c.loop-alloc.invariant.0)) c.in_ok-import.ensures)),
)

pub returns : goal.returns
returns c =
    subst (λ xs. Reads (list_text numbered_import_line 1) (AllIn IsListedName) (list_opens ((codes "import ") ∷ []) shut) xs c.args.reader.now c.is_next.new.self) (sym c.from_vec.ensures)
    (star-done numbered_import_line IsListedName shut (codes "import ") import-element 1 c.loop-alloc.names.items c.args.reader.now c.loop-alloc.reader c.is_next.new.self c.loop-alloc.invariant.1 (subst (λ b. IsNext (codes "import ") b c.loop-alloc.reader c.is_next.new.self) c.loop-alloc-test.false c.is_next.ensures))
