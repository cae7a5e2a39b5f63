use Rattle.omf_data.proofs.straight.ledata.Goals as goal

pub ledata_marked-requires-clause-marks : goal.ledata_marked-requires-clause-marks
ledata_marked-requires-clause-marks c = c.new-marks.ensures c.args.into.now
