use Rattle.std.proofs.Common.{◌∙◌, ap}
use Rattle.def_model.specs.Reading.{read_of}
use Rattle.def_write.proofs.QuotableLaws.{file-fits}
use Rattle.def_write.proofs.ReadBack.{read-back}
use Rattle.def_write.proofs.writing.write_def.Goals as goal

pub returns-clause-read_back : goal.returns-clause-read_back
returns-clause-read_back c = λ stated.
    ap read_of (c.from_vec.ensures ∙ c.in_ok-written.ensures.text)
    ∙ read-back c.args.d.now c.requires.whole (file-fits c.args.d.now c.requires.quotable) c.in_ok-written.ensures.short c.in_ok-written.ensures.heap stated
