use Rattle.process_view.proofs.Words.{ap, arith, length, modules_of, zip_first, zip_second, ◌∷◌}
use Rattle.process_view.proofs.Mapping.{first_empty, left_as, left_after}
use Rattle.process_view.proofs.view.View.keep_joined.Goals as goal

pub keep_residence-requires-clause-none : goal.keep_residence-requires-clause-none
keep_residence-requires-clause-none c =
    let i = c.loop-residence.invariant in
    let s = c.loop-residence.residence-iterator in
    let t = c.next.new.self in
    let v = c.loop-residence.self in
    let r = c.in-Some.residence in
    let rs = (zip_first t).rest.items in
    let counts = c.in-Some.places in
    let rows = (zip_second t).rest.items in
    let steps = c.in-Some.ensures.steps in
    let all = c.args.joined.items in
    let left = left_as all c.args.self.now v (zip_first s).rest.items (r ∷ rs) (zip_second s).rest.items (counts ∷ rows) steps.0.0 steps.1.0 (i.4, i.5, i.6) in
    first_empty v.library r.«module» (modules_of rs) counts rows left.1

pub keep_residence-requires-clause-apart : goal.keep_residence-requires-clause-apart
keep_residence-requires-clause-apart c =
    let i = c.loop-residence.invariant in
    let s = c.loop-residence.residence-iterator in
    let t = c.next.new.self in
    let v = c.loop-residence.self in
    let r = c.in-Some.residence in
    let rs = (zip_first t).rest.items in
    let counts = c.in-Some.places in
    let rows = (zip_second t).rest.items in
    let steps = c.in-Some.ensures.steps in
    let all = c.args.joined.items in
    let left = left_as all c.args.self.now v (zip_first s).rest.items (r ∷ rs) (zip_second s).rest.items (counts ∷ rows) steps.0.0 steps.1.0 (i.4, i.5, i.6) in
    (left.0.new 0 r (omega arith)).apart

pub loop-residence-preserved : goal.loop-residence-preserved
loop-residence-preserved c =
    let i = c.loop-residence.invariant in
    let s = c.loop-residence.residence-iterator in
    let t = c.next.new.self in
    let v = c.loop-residence.self in
    let r = c.in-Some.residence in
    let rs = (zip_first t).rest.items in
    let counts = c.in-Some.places in
    let rows = (zip_second t).rest.items in
    let steps = c.in-Some.ensures.steps in
    let all = c.args.joined.items in
    let left = left_as all c.args.self.now v (zip_first s).rest.items (r ∷ rs) (zip_second s).rest.items (counts ∷ rows) steps.0.0 steps.1.0 (i.4, i.5, i.6) in
    let firsts = ap length steps.0.0 in
    let seconds = ap length steps.1.0 in
    let after = left_after all c.args.self.now v c.keep_residence.new.self r rs counts rows c.keep_residence.ensures left in
    ((tt, tt), tt, omega (arith, firsts, steps.0.1, i.2), omega (arith, seconds, steps.1.1, i.3), after.0, after.1, after.2)
