use Rattle.omf_frame.specs.declared.refusal.FrameRefusal.TheVariants.{Short, BadChecksum, UnknownType}
use Rattle.omf_files.proofs.RecordRead.{stands, shorter, frame-refused}
use Rattle.omf_files.proofs.objects.record.Goals as goal

pub returns-in-Ok-clause-read : goal.returns-in-Ok-clause-read
returns-in-Ok-clause-read c = stands c.in-Ok.rec c.args.cur.now c.next_record.new.cur c.in-Ok.ensures.read.0 c.in-Ok.ensures.read.1 c.in-Ok.ensures.after

pub returns-in-Ok-clause-shorter : goal.returns-in-Ok-clause-shorter
returns-in-Ok-clause-shorter c = shorter c.in-Ok.rec c.args.cur.now c.next_record.new.cur c.in-Ok.ensures.read.1

pub returns-in-Err-Short-clause-read : goal.returns-in-Err-Short-clause-read
returns-in-Err-Short-clause-read c = frame-refused c.args.cur.now c.in-Err-Short.field-0 (Short c.in-Err-Short.at) c.in-Err-Short.ensures.refused c.in-Err-Short.field-0-is

pub returns-in-Err-BadChecksum-clause-read : goal.returns-in-Err-BadChecksum-clause-read
returns-in-Err-BadChecksum-clause-read c =
    frame-refused c.args.cur.now c.in-Err-BadChecksum.field-0 (BadChecksum c.in-Err-BadChecksum.at c.in-Err-BadChecksum.sum) c.in-Err-BadChecksum.ensures.refused c.in-Err-BadChecksum.field-0-is

pub returns-in-Err-UnknownType-clause-read : goal.returns-in-Err-UnknownType-clause-read
returns-in-Err-UnknownType-clause-read c =
    frame-refused c.args.cur.now c.in-Err-UnknownType.field-0 (UnknownType c.in-Err-UnknownType.at c.in-Err-UnknownType.ty) c.in-Err-UnknownType.ensures.refused c.in-Err-UnknownType.field-0-is
