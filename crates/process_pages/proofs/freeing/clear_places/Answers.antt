use Rattle.process_pages.proofs.Words.{ap, arith, get_or, PagePlaces, without_places}
use Rattle.process_pages.proofs.Copies.{mapped_by_index, mapped_more}
use Rattle.process_pages.proofs.freeing.clear_places.Goals as goal

pub loop-k-preserved : goal.loop-k-preserved
loop-k-preserved c =
    let s = get_or c.loop-k.residences c.loop-k.k c.index-residences-k.result in
    mapped_more without_places c.loop-k.residences c.args.residences.now c.loop-k.k _ _ c.loop-k.auto.residences (omega arith)
    (ap (λ (rows : PagePlaces). record s { places = rows }) c.clear.ensures) c.loop-k.invariant

pub returns : goal.returns
returns c = mapped_by_index without_places c.loop-k.residences c.args.residences.now c.loop-k.auto.residences (λ i d u. c.loop-k.invariant.0 i d (omega arith) u)
