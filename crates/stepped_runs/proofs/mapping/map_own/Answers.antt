use Rattle.std.proofs.lemmas.Bool.{not-false}
use Rattle.stepped_runs.proofs.Pages.{can, nowhere, own_mapped}
use Rattle.stepped_runs.proofs.mapping.map_own.Goals as goal

pub map_private-requires-clause-page : goal.map_private-requires-clause-page
map_private-requires-clause-page g c = λ d. can c.args.board.now c.args.view.now c.args.at.residence c.args.at.page d c.history.ensures.legal c.requires.stands c.requires.page (c.requires.apart d)

pub map_private-requires-clause-own : goal.map_private-requires-clause-own
map_private-requires-clause-own g c = λ d. not-false _ (c.requires.own d)

pub returns : goal.returns
returns g c =
    own_mapped c.pages_stand.ensures c.args.board.now c.args.view.now c.map_private.new.self c.args.at.residence c.args.at.page c.history.ensures.legal c.requires.stands c.requires.page c.requires.apart c.requires.own
    (c.map_private.ensures.mapped nowhere)
