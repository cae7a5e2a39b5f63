use Rattle.std.proofs.Common.{ap, ◌∙◌}
use Rattle.load_core.specs.BoardState.{BoardState}
use Rattle.check_play.specs.Standing.{made_entry}
use Rattle.check_play.proofs.asking.makes_entry.Goals as goal

pub returns : goal.returns
returns c =
    let done = c.in_ok-act.ensures in (
      done,
      c.is_last.ensures c.args.board.now.history (made_entry c.args.board.now c.args.view.now done)
          (c.history.ensures.history ∙ ap (λ (l : BoardState). l.history) done.did.adds),
    )
