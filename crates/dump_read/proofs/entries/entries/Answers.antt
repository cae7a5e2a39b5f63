use Rattle.std.proofs.Common.{◌+◌, [], ◌∷◌, length, subst, sym}
use Rattle.std.specs.Prelude.{codes}
use Rattle.dump_model.specs.Bounds.{IsEntry}
use Rattle.dump_read.specs.Lists.{numbered_entry}
use Rattle.dump_read.specs.Taken.{Reads, shut}
use Rattle.dump_read.specs.Settled.{IsNext}
use Rattle.dump_read.specs.Sequences.{StarSoFar, list_text, list_opens, AllIn}
use Rattle.dump_read.proofs.Elements.{entry-element}
use Rattle.dump_read.proofs.Runs.{star-steps, star-done, star-smaller}
use Rattle.dump_read.proofs.entries.entries.Goals as goal

pub loop-entries-smaller : goal.loop-entries-smaller
loop-entries-smaller c =
    star-smaller numbered_entry IsEntry shut (codes "entry ") entry-element (1 + length c.loop-entries.entries.items) c.entry.result c.loop-entries.reader c.is_next.new.self c.entry.new.reader (subst (λ b. IsNext (codes "entry ") b c.loop-entries.reader c.is_next.new.self) c.loop-entries-test.true c.is_next.ensures)
    c.entry.ensures

pub loop-entries-preserved : goal.loop-entries-preserved
loop-entries-preserved c =
    subst (λ xs. StarSoFar numbered_entry IsEntry shut (codes "entry ") 1 xs c.args.reader.now c.entry.new.reader) (sym c.in_ok-push.ensures.items)
    (star-steps numbered_entry IsEntry shut (codes "entry ") entry-element 1 c.loop-entries.entries.items c.entry.result c.args.reader.now c.loop-entries.reader c.is_next.new.self c.entry.new.reader c.loop-entries.invariant (subst (λ b. IsNext (codes "entry ") b c.loop-entries.reader c.is_next.new.self) c.loop-entries-test.true c.is_next.ensures) c.entry.ensures)

pub returns : goal.returns
returns c =
    subst (λ xs. Reads (list_text numbered_entry 1) (AllIn IsEntry) (list_opens ((codes "entry ") ∷ []) shut) xs c.args.reader.now c.is_next.new.self) (sym c.from_vec.ensures)
    (star-done numbered_entry IsEntry shut (codes "entry ") entry-element 1 c.loop-entries.entries.items c.args.reader.now c.loop-entries.reader c.is_next.new.self c.loop-entries.invariant (subst (λ b. IsNext (codes "entry ") b c.loop-entries.reader c.is_next.new.self) c.loop-entries-test.false c.is_next.ensures))
