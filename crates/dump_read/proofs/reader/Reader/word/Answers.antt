use Rattle.std.proofs.Common.{subst, sym}
use Rattle.dump_read.specs.Taken.{Takes}
use Rattle.dump_read.proofs.Steps.{piece-test, taken-reads}
use Rattle.dump_read.proofs.reader.Reader.word.Goals as goal

pub returns : goal.returns
returns c =
    subst (λ s. Takes c.args.piece.now c.args.self.now s) (sym c.take.ensures)
    (taken-reads c.args.piece.now (piece-test c.args.piece.now c.requires) c.args.self.now)
