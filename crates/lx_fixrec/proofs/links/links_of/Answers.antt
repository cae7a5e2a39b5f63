use Rattle.std.proofs.Common.{◌≡◌, ◌+◌, ◌-◌, subst, ◌∙◌, arith}
use Rattle.std.proofs.lemmas.List.{length-set}
use Rattle.std.proofs.lemmas.Option.{slice_get_within}
use Rattle.lx_fixrec.specs.Links.{AreFirsts}
use Rattle.lx_fixrec.proofs.Linked.{no_firsts, links_more}
use Rattle.lx_fixrec.proofs.links.links_of.Goals as goal

pub sources-init : goal.sources-init
sources-init c = record {
  few = omega arith;
  many = grind (arith, c.in_ok-links.ensures.len);
  firsts = no_firsts c.args.sources.now c.new-firsts.result c.new-firsts.ensures;
  each = λ i f from at. let within = slice_get_within c.args.sources.now i f at in absurd (omega (arith, within, from));
}

pub next_of-requires-clause-firsts : goal.next_of-requires-clause-firsts
next_of-requires-clause-firsts c =
    let left : c.sources.left ≡ c.sources.left - 1 + 1 = omega arith in
    subst (λ n. AreFirsts c.args.sources.now n c.sources.firsts) left c.sources.invariant.firsts

pub sources-preserved : goal.sources-preserved
sources-preserved c = record {
  few = omega arith;
  many = length-set c.sources.links.items (c.sources.left - 1) c.in_ok-links-2.field-0 ∙ c.sources.invariant.many;
  firsts = c.in_ok-links-2.ensures.firsts;
  each = links_more c.args.sources.now c.sources.links.items c.sources.left c.in_ok-links-2.field-0 (omega arith) (omega arith) c.sources.invariant.many c.sources.invariant.each c.in_ok-links-2.ensures.next;
}

pub returns : goal.returns
returns c = record { count = c.sources.invariant.many; each = λ i f at. c.sources.invariant.each i f (omega arith) at }
