use Rattle.std.proofs.Common.{◌≡◌, ◌+◌, ◌*◌, ◌-◌, ◌≤◌, List, ℕ, Option, Ok, Some, None, sym, subst, ap, ◌∙◌, arith, take, drop, replicate, length, length-take, length-drop}
use Rattle.std.specs.Prelude.{IfSome}
use Rattle.std.specs.Option.{option_map}
use borrow.Rule.Slice.PartMut.{mid_of}
use Rattle.lx_types.specs.declared.object.TheConstants.{PAGE_SIZE}
use Rattle.lx_model.specs.Iterated.{group_at, expansion}
use Rattle.lx_model.specs.Reading.{many}
use Rattle.lx_iter.specs.Expansion.{group_of, refusal, after_given}
use Rattle.lx_iter.specs.declared.expansion.Group.{Group}
use Rattle.lx_iter.proofs.Groups.{given_none, given_wrong, given_more, shorter, said, full}
use Rattle.lx_iter.proofs.expansion.expand.Goals as goal

pub returns-in_err-group : goal.returns-in_err-group
returns-in_err-group c =
    let r = c.in_err-group.field-0.0 in
    said c.from_residual.result c.args.bytes.now c.loop-group.into r c.from_residual.ensures.1
    (given_wrong c.loop-group.given c.loop-group.fields (refusal r) (take c.loop-group.given c.loop-group.into) (expansion c.args.bytes.now) c.in_err-group.ensures.read c.loop-group.invariant.kept)

pub loop-group-smaller : goal.loop-group-smaller
loop-group-smaller c =
    let some : c.in_ok-group.field-0 ≡ Some c.in-Some.group = c.in-Some.is in
    let next = subst (λ (o : Option Group). group_at c.loop-group.given c.loop-group.fields ≡ Ok (option_map (λ (g : Group). (group_of g, c.loop-group.given + g.times * length g.bytes.now)) o, c.next_group.new.fields)) some c.in_ok-group.ensures.read in
    shorter c.loop-group.given _ c.loop-group.fields c.next_group.new.fields (group_of c.in-Some.group) next

pub loop-group-preserved : goal.loop-group-preserved
loop-group-preserved c =
    let some : c.in_ok-group.field-0 ≡ Some c.in-Some.group = c.in-Some.is in
    let g = c.in-Some.group in
    let given = c.loop-group.given in
    let all = expansion c.args.bytes.now in
    let next = subst (λ (o : Option Group). group_at given c.loop-group.fields ≡ Ok (option_map (λ (g : Group). (group_of g, given + g.times * length g.bytes.now)) o, c.next_group.new.fields)) some c.in_ok-group.ensures.read in
    let fits = subst (λ (o : Option Group). IfSome o (λ h. given + h.times * length h.bytes.now ≤ PAGE_SIZE)) some c.in_ok-group.ensures.fits in
    let more = given_more given (given + g.times * length g.bytes.now) c.loop-group.fields c.next_group.new.fields (group_of g) (take given c.loop-group.into) all next c.loop-group.invariant.kept in
    let here = subst (λ (xs : List ℕ). after_given xs (many group_at (given + g.times * length g.bytes.now) c.next_group.new.fields) ≡ all) (sym c.put_times.ensures) more in
    let same : g.times ≡ c.from.result = sym c.from.ensures in
    record {
      room = subst (λ (n : ℕ). given + n * length g.bytes.now ≤ PAGE_SIZE) same fits;
      kept = subst (λ (n : ℕ). after_given (take (given + n * length g.bytes.now) c.put_times.new.into) (many group_at (given + n * length g.bytes.now) c.next_group.new.fields) ≡ all) same here;
    }

pub returns : goal.returns
returns c =
    let none : c.in_ok-group.field-0 ≡ None = c.in_default.is in
    let given = c.loop-group.given in
    let next = subst (λ (o : Option Group). group_at given c.loop-group.fields ≡ Ok (option_map (λ (g : Group). (group_of g, given + g.times * length g.bytes.now)) o, c.next_group.new.fields)) none c.in_ok-group.ensures.read in
    let all = given_none given c.loop-group.fields c.next_group.new.fields (take given c.loop-group.into) (expansion c.args.bytes.now) next c.loop-group.invariant.kept in
    let page : length c.loop-group.into ≡ 4096 = omega arith in
    let size : length (mid_of given (4096 - given) c.loop-group.into) ≡ 4096 - given = omega (arith, length-take (4096 - given) (drop given c.loop-group.into), length-drop given c.loop-group.into) in
    let zeros : c.fill.new.self ≡ replicate (4096 - given) 0 = c.fill.ensures.after (λ y h. h) ∙ ap (λ (n : ℕ). replicate n 0) size in
    full given (4096 - given) c.loop-group.into c.fill.new.self c.args.bytes.now page c.loop-group.invariant.room (omega arith) zeros all
