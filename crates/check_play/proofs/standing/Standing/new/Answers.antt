use Rattle.std.proofs.Common.{rules, ◌≡◌, length, sym, subst}
use Rattle.std.specs.Arc.{arc_value}
use Rattle.load_core.specs.BoardState.{BoardState}
use Rattle.check_play.specs.Standing.{IsStanding}
use Rattle.check_play.proofs.standing.Standing.new.Goals as goal

pub returns-clause-standing : goal.returns-clause-standing
returns-clause-standing c =
    let count : length (arc_value c.in_ok-try_clone.field-0) ≡ c.len.result = search rules in
    subst (λ (b : BoardState). IsStanding (record { board = b; serials = c.in_ok-new.field-0; faulted = c.new-2.result })) (sym c.in_ok-make_with.ensures)
    (record {
      serials = c.in_ok-new.ensures (arc_value c.in_ok-try_clone.field-0) c.in_ok-failing.failing.items count;
      faulted = c.new-2.ensures;
    })
