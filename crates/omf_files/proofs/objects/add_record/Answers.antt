use Rattle.std.proofs.Common.{◌≡◌, arith, rules}
use Rattle.std.specs.Prelude.{◌⊎◌}
use Rattle.omf_data.proofs.Stay.{gives-more}
use Rattle.omf_files.proofs.RecordRead.{header-passed, lines-passed}
use Rattle.omf_files.proofs.objects.add_record.Goals as goal

pub returns-in-128-clause-read : goal.returns-in-128-clause-read
returns-in-128-clause-read c = header-passed c.args.into.now c.args.rec.now c.in-128.is

pub returns-in-148-clause-read : goal.returns-in-148-clause-read
returns-in-148-clause-read c =
    let lines : (c.args.rec.now.ty ≡ 0x94) ⊎ (c.args.rec.now.ty ≡ 0x95) = first_of (search rules, grind arith) in
    lines-passed c.args.into.now c.args.rec.now lines

pub returns-in-136-clause-marks : goal.returns-in-136-clause-marks
returns-in-136-clause-marks c = gives-more c.args.marks.now c.args.into.now c.coment.new.into c.args.rec.now c.coment.result c.requires.begun c.requires.marks c.coment.ensures

pub returns-in-138-clause-marks : goal.returns-in-138-clause-marks
returns-in-138-clause-marks c = gives-more c.args.marks.now c.args.into.now c.modend.new.into c.args.rec.now c.modend.result c.requires.begun c.requires.marks c.modend.ensures

pub returns-in-140-clause-marks : goal.returns-in-140-clause-marks
returns-in-140-clause-marks c = gives-more c.args.marks.now c.args.into.now c.extdef.new.into c.args.rec.now c.extdef.result c.requires.begun c.requires.marks c.extdef.ensures

pub returns-in-144-clause-marks : goal.returns-in-144-clause-marks
returns-in-144-clause-marks c = gives-more c.args.marks.now c.args.into.now c.pubdef.new.into c.args.rec.now c.pubdef.result c.requires.begun c.requires.marks c.pubdef.ensures

pub returns-in-150-clause-marks : goal.returns-in-150-clause-marks
returns-in-150-clause-marks c = gives-more c.args.marks.now c.args.into.now c.names.new.into c.args.rec.now c.names.result c.requires.begun c.requires.marks c.names.ensures

pub returns-in-152-clause-marks : goal.returns-in-152-clause-marks
returns-in-152-clause-marks c = gives-more c.args.marks.now c.args.into.now c.segdef.new.into c.args.rec.now c.segdef.result c.requires.begun c.requires.marks c.segdef.ensures

pub returns-in-154-clause-marks : goal.returns-in-154-clause-marks
returns-in-154-clause-marks c = gives-more c.args.marks.now c.args.into.now c.grpdef.new.into c.args.rec.now c.grpdef.result c.requires.begun c.requires.marks c.grpdef.ensures

pub returns-in-176-clause-marks : goal.returns-in-176-clause-marks
returns-in-176-clause-marks c = gives-more c.args.marks.now c.args.into.now c.comdef.new.into c.args.rec.now c.comdef.result c.requires.begun c.requires.marks c.comdef.ensures
