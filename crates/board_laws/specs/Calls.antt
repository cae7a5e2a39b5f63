-- Lists of calls on a board, each with its answer.
use Rattle.std.specs.Prelude.{◌≡◌, ℕ, List, [], ◌∷◌, Bool, true, Result, IfOk, OnOk, OnErr}
use Rattle.lx_types.specs.declared.fail.NoMemory.{NoMemory as Want}
use Rattle.load_model.specs.State.{pids, is_among}
use Rattle.load_model.specs.State as state
use Rattle.load_model.specs.declared.commands.Ask.{Ask}
use Rattle.load_core.specs.BoardState.{BoardState, state_of, MayAsk}
use Rattle.load_core.specs.Answered.{after_ask, IsAnswerTo, buffer_after}
use Rattle.load_core.specs.declared.answers.Answer.{Answer}

-- A process asks something, with what its buffer has before and after; or anybody asks whether a process reaches a
-- module; and the answer.
pub data Call : Type 0 where
  asks : ℕ → Ask → List ℕ → List ℕ → Result Answer Want → Call
  looks : ℕ → ℕ → Bool → Call

-- what the clauses of a call say of the boards before and after it
abbrev pub IsCall : BoardState → BoardState → Call → Type 0
IsCall b c (asks pid ask before after answer) =
    (is_among pids pid ≡ true) × MayAsk b pid ask × OnOk answer (c ≡ after_ask b pid ask) × IfOk answer (IsAnswerTo b pid ask)
    × OnOk answer (after ≡ buffer_after b pid ask before) × OnErr answer ((c ≡ b) × (after ≡ before))
IsCall b c (looks pid m answer) = (c ≡ b) × (answer ≡ state.reaches b.library ((state_of b).processes pid) m)

-- The calls are made one after the other.
abbrev pub AreMade : BoardState → List Call → BoardState → Type 0
AreMade b [] c = c ≡ b
AreMade b (call ∷ calls) c = (d : BoardState) × IsCall b d call × AreMade d calls c
