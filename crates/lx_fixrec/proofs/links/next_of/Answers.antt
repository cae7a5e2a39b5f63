use Rattle.std.proofs.Common.{sym, subst, ◌∙◌}
use Rattle.std.proofs.lemmas.Option.{slice_get-get_or}
use Rattle.lx_fixrec.specs.Links.{IsNext}
use Rattle.lx_fixrec.proofs.Linked.{crossing_at, next_crossing, next_put, firsts_crossing, firsts_put}
use Rattle.lx_fixrec.proofs.links.next_of.Goals as goal

pub returns-then-crosses-clause-next : goal.returns-then-crosses-clause-next
returns-then-crosses-clause-next c = λ f at. next_crossing c.args.sources.now f c.args.place c.requires.place (crossing_at c.args.sources.now c.args.place _ f _ at (sym c.crosses.ensures ∙ c.if-crosses.true))

pub returns-then-crosses-clause-firsts : goal.returns-then-crosses-clause-firsts
returns-then-crosses-clause-firsts c = firsts_crossing c.args.sources.now c.args.place _ c.args.firsts.now (slice_get-get_or c.args.sources.now c.args.place _ c.requires.place) (sym c.crosses.ensures ∙ c.if-crosses.true) c.requires.firsts

pub returns-clause-next : goal.returns-clause-next
returns-clause-next c = λ f at.
    subst (IsNext c.args.sources.now f c.args.place) (sym c.unwrap_or.ensures)
    (next_put c.args.sources.now c.args.place _ f c.shared_of.result c.args.firsts.now c.put.new.self c.in_ok-next.next c.requires.place at (sym c.crosses.ensures ∙ c.if-crosses.false) c.shared_of.ensures c.in_ok-next.ensures c.requires.firsts)

pub returns-clause-firsts : goal.returns-clause-firsts
returns-clause-firsts c =
    firsts_put c.args.sources.now c.args.place _ c.shared_of.result c.args.firsts.now c.put.new.self c.in_ok-next.next (slice_get-get_or c.args.sources.now c.args.place _ c.requires.place) (sym c.crosses.ensures ∙ c.if-crosses.false)
    c.shared_of.ensures c.in_ok-next.ensures c.requires.firsts
