-- The fields of a board as its state, and what holds among them.
use Rattle.std.specs.Arc.{arc_value}
use Rattle.load_core.specs.BoardState.{BoardState}
use Rattle.load_core.specs.Kept.{Keeps}
use Rattle.load_core.specs.declared.board.Board.TheInside.{Inside}

abbrev pub board_state_in : Inside → BoardState
board_state_in b = record { library = arc_value b.lib; failing = b.failing.items; history = b.history.items; keeper = b.keeper.name }

abbrev pub KeepsAll : Inside → Type 0
KeepsAll b = Keeps (board_state_in b) b.refs b.table b.keeper.given
