-- Fixups as the rules have them.
use Rattle.std.specs.Prelude.{None}
use Rattle.obj_types.specs.declared.object.Frame.TheVariants as frames
use Rattle.obj_types.specs.declared.object.Goal.TheVariants as origins
use Rattle.link_model.specs.Goals as goals
use Rattle.link_model.specs.Fixups as rules
use Rattle.link_fix.specs.declared.fixup.Target.{Target}
use Rattle.link_fix.specs.declared.fixup.Target.TheVariants.{Internal, Constant, Entry}
use Rattle.link_fix.specs.declared.fixup.Fixup.{Fixup}
use Rattle.link_fix.specs.declared.fixup.PlacedFixup.{PlacedFixup}
use Rattle.link_fix.specs.declared.painting.PlacedPiece.{PlacedPiece}
use Rattle.link_model.specs.Mean.{PlacedPiece as Placed}

abbrev pub target_shown : Target → goals.Target
target_shown (Internal object offset) = goals.Internal object offset
target_shown (Constant value) = goals.Constant value
target_shown (Entry slot) = goals.Entry slot

abbrev pub placed_shown : PlacedFixup → rules.Fixup
placed_shown q =
    record {
      by = q.by;
      fix = q.fix;
      object = q.object;
      offset = q.offset;
      narrow = q.narrow;
      target = target_shown q.target;
      frame = q.frame;
      standing = q.standing;
    }

-- One without its module, its segment, its frame and its goal, and with one number for what is added.
abbrev pub shown : Fixup → rules.Fixup
shown q =
    record {
      by = 0;
      fix = record { seg = 0; offset = 0; loc = q.loc; selfrel = q.selfrel; frame = frames.OfTarget; goal = origins.Seg 0; disp = q.added };
      object = q.object;
      offset = q.offset;
      narrow = q.narrow;
      target = target_shown q.target;
      frame = None;
      standing = 0;
    }

abbrev pub piece_shown : PlacedPiece → Placed
piece_shown p = record { object = p.object; offset = p.offset; bytes = p.bytes.now }
