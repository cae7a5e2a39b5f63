use Rattle.std.proofs.Common.{◌∙◌}
use Rattle.lx_fixrec.proofs.Derived.{first_is, puts_by}
use Rattle.lx_fixrec.proofs.lists.Firsts.put.Goals as goal

pub returns : goal.returns
returns c = puts_by c.args.self.now c.args.shared c.args.place _ _ (c.in_ok-at.ensures.old ∙ first_is c.args.self.now c.args.shared) c.in_ok-at.ensures.updates.1 c.in_ok-at.ensures.updates.2
