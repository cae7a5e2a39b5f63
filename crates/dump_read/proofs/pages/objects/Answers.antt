use Rattle.std.proofs.Common.{◌+◌, [], ◌∷◌, length, subst, sym, ap, arith}
use Rattle.std.specs.Prelude.{codes}
use Rattle.std.proofs.lemmas.List.{length-append}
use Rattle.dump_model.specs.Bounds.{IsObject}
use Rattle.dump_model.specs.Dumps.{object_lines}
use Rattle.dump_read.specs.Lists.{object_opens}
use Rattle.dump_read.specs.Taken.{Reads}
use Rattle.dump_read.specs.Settled.{IsNext}
use Rattle.dump_read.specs.Sequences.{StarSoFar, list_text, list_opens, AllIn}
use Rattle.dump_read.proofs.Elements.{object-element}
use Rattle.dump_read.proofs.Runs.{star-steps, star-done, star-smaller}
use Rattle.dump_read.proofs.pages.objects.Goals as goal

pub overflow_add-number : goal.overflow_add-number
overflow_add-number c = omega (arith, c.loop-alloc.invariant.0, c.loop-alloc.objects.ok, c.loop-alloc.objects.small)

pub loop-alloc-smaller : goal.loop-alloc-smaller
loop-alloc-smaller c =
    star-smaller object_lines IsObject object_opens (codes "object ") object-element (1 + length c.loop-alloc.objects.items) c.in_ok-object.field-0 c.loop-alloc.reader c.is_next.new.self c.object.new.reader (subst (λ b. IsNext (codes "object ") b c.loop-alloc.reader c.is_next.new.self) c.loop-alloc-test.true c.is_next.ensures)
    (subst (λ n. Reads (λ q. object_lines (n, q)) IsObject object_opens c.in_ok-object.field-0 c.is_next.new.self c.object.new.reader) (omega (arith, c.loop-alloc.invariant.0)) c.in_ok-object.ensures)

pub loop-alloc-preserved : goal.loop-alloc-preserved
loop-alloc-preserved c = (
  omega (arith, c.loop-alloc.invariant.0, ap length c.in_ok-push.ensures.items, length-append c.loop-alloc.objects.items (c.in_ok-object.field-0 ∷ [])),
  subst (λ xs. StarSoFar object_lines IsObject object_opens (codes "object ") 1 xs c.args.reader.now c.object.new.reader) (sym c.in_ok-push.ensures.items)
      (star-steps object_lines IsObject object_opens (codes "object ") object-element 1 c.loop-alloc.objects.items c.in_ok-object.field-0 c.args.reader.now c.loop-alloc.reader c.is_next.new.self c.object.new.reader c.loop-alloc.invariant.1 (subst (λ b. IsNext (codes "object ") b c.loop-alloc.reader c.is_next.new.self) c.loop-alloc-test.true c.is_next.ensures) (subst (λ n. Reads (λ q. object_lines (n, q)) IsObject object_opens c.in_ok-object.field-0 c.is_next.new.self c.object.new.reader) (omega (arith, c.loop-alloc.invariant.0)) c.in_ok-object.ensures)),
)

pub returns : goal.returns
returns c =
    subst (λ xs. Reads (list_text object_lines 1) (AllIn IsObject) (list_opens ((codes "object ") ∷ []) object_opens) xs c.args.reader.now c.is_next.new.self) (sym c.from_vec.ensures)
    (star-done object_lines IsObject object_opens (codes "object ") object-element 1 c.loop-alloc.objects.items c.args.reader.now c.loop-alloc.reader c.is_next.new.self c.loop-alloc.invariant.1 (subst (λ b. IsNext (codes "object ") b c.loop-alloc.reader c.is_next.new.self) c.loop-alloc-test.false c.is_next.ensures))
