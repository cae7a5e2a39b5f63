use Rattle.omf_data.proofs.iterated.lidata.Goals as goal

pub lidata_marked-requires-clause-marks : goal.lidata_marked-requires-clause-marks
lidata_marked-requires-clause-marks c = c.new-marks.ensures c.args.into.now
