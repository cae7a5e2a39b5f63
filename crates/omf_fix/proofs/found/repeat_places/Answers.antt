use Rattle.std.proofs.Common.{◌≡◌, ◌+◌, ◌*◌, ◌∙◌, ◌++◌, ℕ, ap, sym, suc, take, drop, arith}
use Rattle.std.proofs.Math.Nat.{suc-mul}
use Rattle.omf_model.specs.Copies.{repeated}
use Rattle.omf_fix.proofs.Shifted.{none-repeated, once-repeated, more-repeated, still-there}
use Rattle.omf_fix.proofs.found.repeat_places.Goals as goal

pub returns-then-start-end : goal.returns-then-start-end
returns-then-start-end c = none-repeated c.args.places.now.items c.args.start c.len-end.result c.args.times c.args.unit c.if-start-end.true (c.len-end.ensures ∙ c.args.places.now.ok.0)

pub copies-init : goal.copies-init
copies-init c = (once-repeated c.args.places.now.items c.args.start c.args.unit, omega arith, omega arith, c.requires.some)

pub push_shifted-requires-clause-low : goal.push_shifted-requires-clause-low
push_shifted-requires-clause-low c = omega (arith, c.requires.there, c.len-end.ensures)

pub push_shifted-requires-clause-high : goal.push_shifted-requires-clause-high
push_shifted-requires-clause-high c =
    let there = still-there c.args.places.now.items c.copies.places.items c.args.start c.args.unit c.copies.done c.copies.invariant.0 c.copies.invariant.2 in
    omega (arith, there, c.len-end.ensures, c.args.places.now.ok.0, c.copies.places.ok.0)

pub copies-preserved : goal.copies-preserved
copies-preserved c = (
  more-repeated c.args.places.now.items c.copies.places.items c.push_shifted.new.places.items c.args.start c.len-end.result c.args.unit c.copies.done c.copies.shift c.copies.invariant.0 c.copies.invariant.2 (c.len-end.ensures ∙ c.args.places.now.ok.0)
      (omega (arith, c.requires.there, c.len-end.ensures)) c.copies.invariant.1 c.in_ok-push_shifted.ensures,
  (let count : suc c.copies.done ≡ c.copies.done + 1 = omega arith in c.in_ok-shift.ensures ∙ ap (λ (n : ℕ). n + c.args.unit) c.copies.invariant.1 ∙ sym (suc-mul c.copies.done c.args.unit) ∙ ap (λ (n : ℕ). n * c.args.unit) count),
  omega arith,
  omega (arith, c.copies-test.true),
)

pub returns : goal.returns
returns c =
    let last : c.copies.done ≡ c.args.times = omega (arith, c.copies.invariant.3, c.copies-test.false) in
    c.copies.invariant.0 ∙ ap (λ (n : ℕ). take c.args.start c.args.places.now.items ++ repeated n c.args.unit (drop c.args.start c.args.places.now.items)) last
