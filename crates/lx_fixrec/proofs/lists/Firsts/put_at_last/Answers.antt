use Rattle.indexmap.proofs.CallerLemmas.{updates-with_value_at}
use Rattle.lx_fixrec.proofs.Derived.{derived_equiv, puts_by}
use Rattle.lx_fixrec.proofs.lists.Firsts.put_at_last.Goals as goal

pub returns : goal.returns
returns c = λ shared first at is.
    let written = updates-with_value_at c.args.self.now.places c.args.self.now.last c.args.place derived_equiv c.pair_mut-first.ensures.unique shared first at in
    puts_by c.args.self.now shared c.args.place _ _ is written.1 written.2
