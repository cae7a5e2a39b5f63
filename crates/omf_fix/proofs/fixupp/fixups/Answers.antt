use Rattle.omf_fix.proofs.fixupp.fixups.Goals as goal

pub fixups_marked-requires-clause-marks : goal.fixups_marked-requires-clause-marks
fixups_marked-requires-clause-marks c = c.new-marks.ensures c.args.into.now
