use Rattle.std.proofs.Common.{◌≡◌, ◌+◌, ◌<◌, ◌^◌}
use Rattle.obj_types.specs.Location.{location_len}
use Rattle.link_fix.specs.Images.{byte_of}
use Rattle.link_fix.specs.Marks.{any_mark}
use Rattle.link_fix.proofs.marks.is_marked.Given as goal

abbrev pub invariant-bytes : goal.invariant-bytes
invariant-bytes l = record {
  same : any_mark (byte_of l.marks l.q.object) l.at l.left ≡ any_mark (byte_of l.marks l.q.object) l.q.offset (location_len l.q.loc);
  place : l.at + l.left < 2 ^ 33;
}

abbrev pub decreases-bytes : goal.decreases-bytes
decreases-bytes l = l.left
