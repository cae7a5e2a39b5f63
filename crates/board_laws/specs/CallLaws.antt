-- What the definitions say of a list of calls on a new board.
use Rattle.std.specs.Prelude.{◌≡◌, ℕ, List, [], ◌∷◌, Ok, Err}
use Rattle.load_model.specs.Modules.{Library}
use Rattle.load_model.specs.State.{Failing}
use Rattle.load_model.specs.State as state
use Rattle.load_core.specs.BoardState.{BoardState, state_of, IsLegal}
use Rattle.load_core.specs.Answered.{after_ask, IsAnswerTo, buffer_after}
use Rattle.board_laws.specs.Calls.{Call, asks, looks, AreMade}

-- a board with which nothing was done yet
abbrev pub new_board_state : Library → Failing → ℕ → BoardState
new_board_state lib failing keeper = record { library = lib; failing = failing; history = []; keeper = keeper }

-- the board after a call; want of memory changes nothing
abbrev pub after_call : BoardState → Call → BoardState
after_call b (asks pid ask before after (Ok answer)) = after_ask b pid ask
after_call b (asks pid ask before after (Err want)) = b
after_call b (looks pid m answer) = b

abbrev pub after_calls : BoardState → List Call → BoardState
after_calls b [] = b
after_calls b (call ∷ calls) = after_calls (after_call b call) calls

-- the answer of a call; want of memory may be answered to all that is asked
abbrev pub IsAnswer : BoardState → Call → Type 0
IsAnswer b (asks pid ask before after (Ok answer)) = IsAnswerTo b pid ask answer × (after ≡ buffer_after b pid ask before)
IsAnswer b (asks pid ask before after (Err want)) = after ≡ before
IsAnswer b (looks pid m answer) = answer ≡ state.reaches b.library ((state_of b).processes pid) m

-- The history is legal before each call and after the last, and each call answers what the definitions say at its place.
abbrev pub AreAnswered : BoardState → List Call → Type 0
AreAnswered b [] = IsLegal b
AreAnswered b (call ∷ calls) = IsLegal b × IsAnswer b call × AreAnswered (after_call b call) calls

pub record AllAnswered (b : BoardState) (calls : List Call) (c : BoardState) : Type 0 where
  pub answered : AreAnswered b calls
  pub after : c ≡ after_calls b calls
  pub legal : IsLegal c
  pub library : c.library ≡ b.library
  pub failing : c.failing ≡ b.failing

-- So it is for every list of calls on a new board, and the board after them is the one that the definitions say.
abbrev pub CallsAreAnswered : Type 0
CallsAreAnswered =
    (lib : Library) (failing : Failing) (keeper : ℕ) (calls : List Call) (c : BoardState) → AreMade (new_board_state lib failing keeper) calls c →
    AllAnswered (new_board_state lib failing keeper) calls c
