use Rattle.std.proofs.Common.{◌≡◌, ◌≤◌, length}
use Rattle.omf_data.specs.Marks.{AreMarks}
use Rattle.omf_model.specs.Begun.{IsBegun}
use Rattle.omf_model.specs.ReadModule.{rest_at}
use Rattle.omf_files.proofs.objects.add_records.Given as goal

abbrev pub invariant-records : goal.invariant-records
invariant-records l = record {
  begun : IsBegun l.parts;
  marks : AreMarks l.marks l.parts;
  read : rest_at l.parts l.cur ≡ rest_at l.fn.parts l.fn.cur;
  after : length l.cur.left ≤ length l.fn.cur.left;
}

abbrev pub decreases-records : goal.decreases-records
decreases-records l = length l.cur.left
