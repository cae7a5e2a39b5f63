use Rattle.std.proofs.Common.{◌≡◌, ◌∙◌, [], ap, sym, subst, arith, length, take}
use Rattle.std.specs.Prelude.{◌==◌, vec_len}
use Rattle.std.specs.Global.{Vec}
use Rattle.std.proofs.lemmas.List.{take_all}
use Rattle.std.proofs.lemmas.List.Elements.{All-more, All-same}
use Rattle.comdat_core.specs.declared.taking.Taken.{Taken}
use Rattle.comdat_core.proofs.Loops.{no_items}
use Rattle.comdat_core.proofs.aside.are_empty.Goals as goal

pub loop-list-preserved : goal.loop-list-preserved
loop-list-preserved c =
    let out = c.list-item.result in
    let len : length out.items ≡ vec_len out = omega (arith, out.ok) in
    let none : out.items ≡ [] = no_items out.items (ap (λ n. n == 0) len ∙ sym c.is_empty.ensures ∙ c.if-not-is_empty.false) in
    All-more (λ (o : Vec Taken). o.items ≡ []) c.args.lists.now c.loop-list.list-index out c.loop-list-test.true c.loop-list.invariant (subst (λ (o : Vec Taken). o.items ≡ []) c.list-item.is none)

pub returns : goal.returns
returns c =
    let outs = c.args.lists.now in
    let i = c.loop-list.list-index in
    All-same (λ (o : Vec Taken). o.items ≡ []) outs (take i outs) (sym (take_all i outs c.loop-list-test.false)) c.loop-list.invariant
