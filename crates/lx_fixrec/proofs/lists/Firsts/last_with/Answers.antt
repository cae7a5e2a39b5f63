use Rattle.std.proofs.Common.{◌≡◌, sym, ap, ◌∙◌}
use Rattle.lx_fixrec.specs.declared.lists.Shared.{Shared}
use Rattle.lx_fixrec.specs.Lists.{first_in}
use Rattle.lx_fixrec.proofs.Shared.{shared_is}
use Rattle.lx_fixrec.proofs.Derived.{derived_at, first_is}
use Rattle.lx_fixrec.proofs.lists.Firsts.last_with.Goals as goal

pub returns-in-Some-clause-first : goal.returns-in-Some-clause-first
returns-in-Some-clause-first c =
    let key = c.in-Some.key.now in
    let same : key ≡ c.args.shared.now = shared_is key c.args.shared.now (sym (derived_at key c.args.shared.now) ∙ sym c.eq.ensures ∙ c.if-eq.true) in
    sym c.in-Some.ensures.value ∙ first_is c.args.self.now key ∙ ap (first_in c.args.self.now) same
