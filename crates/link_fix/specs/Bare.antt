-- What the bytes and the records of a link need of its fixups.
use Rattle.std.specs.Prelude.{◌+◌, None}
use Rattle.obj_types.specs.declared.object.Frame.TheVariants as frames
use Rattle.obj_types.specs.declared.object.Goal.TheVariants as goals
use Rattle.link_model.specs.Words.{wrapped}
use Rattle.link_model.specs.Fixups.{Fixup}

-- A fixup without its module, its segment and its frame, which a refusal tells or is made by, and without the goal whose
-- target it has. What stands in its location is in its displacement: only the two together count, since nothing stands in
-- a location without an offset.
abbrev pub bare : Fixup → Fixup
bare q =
    record {
      by = 0;
      fix = record {
        seg = 0;
        offset = 0;
        loc = q.fix.loc;
        selfrel = q.fix.selfrel;
        frame = frames.OfTarget;
        goal = goals.Seg 0;
        disp = wrapped (q.fix.disp + q.standing);
      };
      object = q.object;
      offset = q.offset;
      narrow = q.narrow;
      target = q.target;
      frame = None;
      standing = 0;
    }
