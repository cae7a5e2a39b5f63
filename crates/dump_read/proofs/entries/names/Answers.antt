use Rattle.std.proofs.Common.{◌+◌, [], ◌∷◌, length, subst, sym}
use Rattle.std.specs.Prelude.{codes}
use Rattle.dump_model.specs.Bounds.{IsNamed}
use Rattle.dump_read.specs.Lists.{numbered_name}
use Rattle.dump_read.specs.Taken.{Reads, shut}
use Rattle.dump_read.specs.Settled.{IsNext}
use Rattle.dump_read.specs.Sequences.{StarSoFar, list_text, list_opens, AllIn}
use Rattle.dump_read.proofs.Elements.{name-element}
use Rattle.dump_read.proofs.Runs.{star-steps, star-done, star-smaller}
use Rattle.dump_read.proofs.entries.names.Goals as goal

pub loop-alloc-smaller : goal.loop-alloc-smaller
loop-alloc-smaller c =
    star-smaller numbered_name IsNamed shut (codes "name ") name-element (1 + length c.loop-alloc.names.items) c.in_ok-named.field-0 c.loop-alloc.reader c.is_next.new.self c.named.new.reader (subst (λ b. IsNext (codes "name ") b c.loop-alloc.reader c.is_next.new.self) c.loop-alloc-test.true c.is_next.ensures)
    c.in_ok-named.ensures

pub loop-alloc-preserved : goal.loop-alloc-preserved
loop-alloc-preserved c =
    subst (λ xs. StarSoFar numbered_name IsNamed shut (codes "name ") 1 xs c.args.reader.now c.named.new.reader) (sym c.in_ok-push.ensures.items)
    (star-steps numbered_name IsNamed shut (codes "name ") name-element 1 c.loop-alloc.names.items c.in_ok-named.field-0 c.args.reader.now c.loop-alloc.reader c.is_next.new.self c.named.new.reader c.loop-alloc.invariant (subst (λ b. IsNext (codes "name ") b c.loop-alloc.reader c.is_next.new.self) c.loop-alloc-test.true c.is_next.ensures) c.in_ok-named.ensures)

pub returns : goal.returns
returns c =
    subst (λ xs. Reads (list_text numbered_name 1) (AllIn IsNamed) (list_opens ((codes "name ") ∷ []) shut) xs c.args.reader.now c.is_next.new.self) (sym c.from_vec.ensures)
    (star-done numbered_name IsNamed shut (codes "name ") name-element 1 c.loop-alloc.names.items c.args.reader.now c.loop-alloc.reader c.is_next.new.self c.loop-alloc.invariant (subst (λ b. IsNext (codes "name ") b c.loop-alloc.reader c.is_next.new.self) c.loop-alloc-test.false c.is_next.ensures))
