-- The bases of all modules once others have begun.
use Rattle.std.proofs.Common.{ℕ, List, length, map, ◌∙◌, ap}
use Rattle.std.specs.List.{range_with_len}
use Rattle.lx_types.specs.declared.bases.ModBases.{ModBases}
use Rattle.load_model.specs.Entering.{with_fresh_residences}
use Rattle.load_core.specs.BoardState.{BoardState, state_of}
use Rattle.load_core.specs.Inside.{board_state_in}
use Rattle.load_core.specs.Enters.{bases_at}
use Rattle.load_core.proofs.Beginning.{bases_with_are}
use Rattle.load_core.proofs.board.Board.beginning.Goals as goal

pub returns-clause-bases : goal.returns-clause-bases
returns-clause-bases c =
    let b = board_state_in c.self.inside in
    let N : ℕ → List ModBases = λ n. map (bases_at (with_fresh_residences (state_of b) c.args.fresh.now)) (range_with_len 0 n) in
    let S : BoardState → List ModBases = λ a. map (bases_at (with_fresh_residences (state_of a) c.args.fresh.now)) (range_with_len 0 (length a.library)) in
    c.in_ok-bases.ensures ∙ bases_with_are b c.self.inside.table c.args.fresh.now (range_with_len 0 c.len.result) c.self.invariant.residences_are
    ∙ ap N (c.len.ensures.count ∙ ap length c.deref.ensures) ∙ ap S c.self.view_is
