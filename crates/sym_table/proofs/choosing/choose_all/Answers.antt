use Rattle.std.proofs.Common.{sym, ◌∙◌, refl}
use Rattle.link_model.specs.Choosing.{next_pick}
use Rattle.link_model.proofs.Growing.{begun}
use Rattle.sym_table.proofs.ChoosingByNames.{more_begun, fewer_left, at_end}
use Rattle.sym_table.proofs.choosing.choose_all.Goals as goal

pub choosing-init : goal.choosing-init
choosing-init c = (begun c.args.input.now c.args.choice.now.picks c.requires.picks, c.requires.known)

pub choosing-smaller : goal.choosing-smaller
choosing-smaller c =
    let input = c.args.input.now in
    let picks = c.choosing.choice.picks in
    fewer_left input picks c.choose_next.new.choice.picks (next_pick input picks) refl (sym c.in_ok-choose_next.ensures.more ∙ c.if-branch.true) c.in_ok-choose_next.ensures.picks

pub choosing-preserved : goal.choosing-preserved
choosing-preserved c =
    let input = c.args.input.now in
    let picks = c.choosing.choice.picks in (
      more_begun input picks c.choose_next.new.choice.picks (next_pick input picks) refl c.choosing.invariant.0 c.in_ok-choose_next.ensures.picks,
      c.in_ok-choose_next.ensures.known,
    )

pub returns : goal.returns
returns c =
    let input = c.args.input.now in
    let picks = c.choosing.choice.picks in
    at_end input picks c.choose_next.new.choice.picks (next_pick input picks) refl (sym c.in_ok-choose_next.ensures.more ∙ c.if-branch.false) c.choosing.invariant.0 c.in_ok-choose_next.ensures.picks
