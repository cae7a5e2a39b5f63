use Rattle.std.proofs.Common.{◌≡◌, ℕ, ◌+◌, ◌-◌, ◌∙◌, None, Some, sym, ap, arith}
use Rattle.lx_types.specs.declared.entry.EntryHead.TheVariants.{At, Gate286, Forward}
use Rattle.lx_model.specs.Entries.{followed}
use Rattle.mod_graph.proofs.Following.{followed-some, after_place}
use Rattle.mod_graph.proofs.entries.spot_after.Goals as goal

pub returns-in-None : goal.returns-in-None
returns-in-None c =
    let left : ℕ = c.args.places - c.loop.counter in
    sym (c.loop.invariant.0 ∙ followed-some left c.args.mods.now c.loop.place None (omega (arith, c.loop-test.true)) (sym c.in-None.ensures))

pub returns-in-Some-At : goal.returns-in-Some-At
returns-in-Some-At c =
    let left : ℕ = c.args.places - c.loop.counter in
    sym (c.loop.invariant.0 ∙ followed-some left c.args.mods.now c.loop.place (Some (At c.in-Some-At.object c.in-Some-At.offset)) (omega (arith, c.loop-test.true)) (sym c.in-Some-At.ensures ∙ ap Some c.in-Some-At.field-0-is))

pub returns-in-Some-Gate286 : goal.returns-in-Some-Gate286
returns-in-Some-Gate286 c =
    let left : ℕ = c.args.places - c.loop.counter in
    sym (c.loop.invariant.0 ∙ followed-some left c.args.mods.now c.loop.place (Some (Gate286 c.in-Some-Gate286.field-0-0 c.in-Some-Gate286.field-0-1)) (omega (arith, c.loop-test.true)) (sym c.in-Some-Gate286.ensures ∙ ap Some c.in-Some-Gate286.field-0-is))

pub returns-in-None-import_place : goal.returns-in-None-import_place
returns-in-None-import_place c =
    let left : ℕ = c.args.places - c.loop.counter in
    sym (c.loop.invariant.0 ∙ followed-some left c.args.mods.now c.loop.place (Some (Forward c.in-Some-Forward.import c.in-Some-Forward.key)) (omega (arith, c.loop-test.true)) (sym c.in-Some-Forward.ensures ∙ ap Some c.in-Some-Forward.field-0-is)
    ∙ ap (after_place (left - 1) c.args.mods.now) (sym c.in-None-import_place.ensures.place))

pub loop-preserved : goal.loop-preserved
loop-preserved c =
    let left : ℕ = c.args.places - c.loop.counter in
    let less : left - 1 ≡ c.args.places - (c.loop.counter + 1) = omega arith in (
      c.loop.invariant.0 ∙ followed-some left c.args.mods.now c.loop.place (Some (Forward c.in-Some-Forward.import c.in-Some-Forward.key)) (omega (arith, c.loop-test.true)) (sym c.in-Some-Forward.ensures ∙ ap Some c.in-Some-Forward.field-0-is)
          ∙ ap (after_place (left - 1) c.args.mods.now) (sym c.in-Some.ensures.place)
          ∙ ap (λ n. followed n c.args.mods.now c.in-Some.next) less,
      c.in-Some.ensures.within,
    )

pub returns : goal.returns
unfolding followed
returns c =
    let none_left : c.args.places - c.loop.counter ≡ 0 = omega (arith, c.loop-test.false) in
    sym (c.loop.invariant.0 ∙ ap (λ n. followed n c.args.mods.now c.loop.place) none_left)
