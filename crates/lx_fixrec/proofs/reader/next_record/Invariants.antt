use Rattle.std.proofs.Common.{◌≡◌, length}
use Rattle.lx_model.specs.Reading.{fault_of}
use Rattle.lx_fixrec.specs.Left.{after, items_after}
use Rattle.lx_fixrec.proofs.reader.next_record.Given as goal

-- the records so far have no source
abbrev pub invariant-loop-fields : goal.invariant-loop-fields
invariant-loop-fields l = record {
  items : items_after l.fn.fields ≡ items_after l.fields;
  end : fault_of (after l.fn.fields).end ≡ fault_of (after l.fields).end;
}

abbrev pub decreases-loop-fields : goal.decreases-loop-fields
decreases-loop-fields l = length l.fields.left
