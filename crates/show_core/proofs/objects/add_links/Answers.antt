use Rattle.show_model.specs.Outlines.{tallies}
use Rattle.show_core.proofs.Chains.{then, last_then}
use Rattle.show_core.proofs.objects.add_links.Goals as goal

pub returns : goal.returns
returns c =
    let t = tallies c.args.out.now.items in
    let two = then t _ _ c.in_ok-add_seq.ensures c.in_ok-add_fixups.ensures in
    let three = then t _ _ two c.in_ok-add_seq-2.ensures in
    let four = then t _ _ three c.in_ok-add_seq-3.ensures in
    let five = then t _ _ four c.in_ok-add_seq-4.ensures in
    last_then c.add_start.result _ t _ _ five c.add_start.ensures
