use Rattle.std.proofs.Common.{◌∙◌, refl, arith, length-set, get_or-set_other, get_or-set_same}
use Rattle.std.proofs.lemmas.List.{get_or_read}
use Rattle.lx_fixrec.proofs.Counts.{counted_on}
use Rattle.lx_fixrec.proofs.links.count_next.Goals as goal

pub returns-then-next-len : goal.returns-then-next-len
returns-then-next-len c = λ s f at is had.
    let old = c.args.counts.now.items in
    let next = c.args.next in
    let new = c.place_after.result in
    counted_on s c.args.place next f old _ at is had (record {
      many = length-set old next new;
      others = λ i ne. get_or-set_other old next i new 0 ne;
      next_is = λ a lt e. get_or-set_same old next new 0 lt ∙ c.place_after.ensures a (get_or_read old c.args.place c.index.result.now c.requires c.index.ensures 0 ∙ e);
    })

pub returns-else-next-len : goal.returns-else-next-len
returns-else-next-len c = λ s f at is had.
    counted_on s c.args.place c.args.next f c.args.counts.now.items c.args.counts.now.items at is had (record { many = refl; others = λ i ne. refl; next_is = λ a lt e. absurd (omega arith) })
