use Rattle.std.proofs.Common.{take}
use Rattle.load_core.specs.Enters.{AreNew}
use Rattle.load_core.proofs.board.Board.new_residences.Given as goal

abbrev pub invariant-loop-one : goal.invariant-loop-one
invariant-loop-one l = AreNew l.self l.fresh (take l.one-index l.fresh) l.rows.items
