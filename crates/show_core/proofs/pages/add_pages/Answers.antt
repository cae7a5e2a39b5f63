use Rattle.show_model.specs.Outlines.{tallies}
use Rattle.show_core.proofs.Chains.{then, last_then}
use Rattle.show_core.proofs.pages.add_pages.Goals as goal

pub returns : goal.returns
returns c =
    let t = tallies c.args.out.now.items in
    let two = then t _ _ c.in_ok-add_list.ensures c.in_ok-add_list-2.ensures in
    last_then c.add_list-3.result _ t _ _ two c.add_list-3.ensures
