use Rattle.std.proofs.Common.{subst, sym}
use Rattle.dump_model.specs.Lines.{source_word}
use Rattle.dump_read.specs.Taken.{Reads, shut}
use Rattle.dump_read.specs.Settled.{ended_by}
use Rattle.dump_read.specs.Parts.{Any}
use Rattle.dump_read.proofs.FixForms.{source-reads}
use Rattle.dump_read.proofs.fixups.source.Goals as goal

pub returns : goal.returns
returns c =
    subst (λ s. Reads (ended_by 0x20 source_word) Any shut s c.args.reader.now c.one_of.new.self) (sym c.source_of.ensures)
    (source-reads c.one_of.result c.args.reader.now c.one_of.new.self c.one_of.ensures.one)
