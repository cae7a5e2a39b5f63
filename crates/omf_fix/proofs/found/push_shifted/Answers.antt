use Rattle.std.proofs.Common.{◌≡◌, ◌+◌, ◌-◌, ◌∙◌, ◌++◌, ℕ, ap, take, drop, arith, length, length-append}
use Rattle.omf_fix.proofs.Shifted.{moved, shift-none, shift-more}
use Rattle.omf_fix.proofs.found.push_shifted.Goals as goal

pub places-init : goal.places-init
places-init c = (shift-none c.args.places.now.items c.args.shift c.args.start, omega arith, c.requires.low)

pub index-place-requires : goal.index-place-requires
index-place-requires c =
    omega (arith, c.requires.high, c.places-test.true, c.args.places.now.ok.0, c.places.places.ok.0, ap (λ ys. length ys) c.places.invariant.0, length-append c.args.places.now.items (moved c.args.shift (take (c.places.next - c.args.start) (drop c.args.start c.args.places.now.items))))

pub places-preserved : goal.places-preserved
places-preserved c = (
  shift-more c.args.places.now.items c.places.places.items c.push.new.self.items c.args.start c.args.end c.places.next c.args.shift c.in_ok-place_at.field-0 c.index-place.result.now c.places.invariant.0 c.places.invariant.1 c.places-test.true (omega (arith, c.requires.high, c.args.places.now.ok.0))
      (c.in_ok-place_at.ensures ∙ ap (λ (n : ℕ). c.args.shift + n) c.index-place.ensures) c.in_ok-push.ensures.items,
  omega (arith, c.places.invariant.1),
  omega (arith, c.places-test.true),
)

pub returns : goal.returns
returns c =
    let last : c.places.next ≡ c.args.end = omega (arith, c.places.invariant.2, c.places-test.false) in
    c.places.invariant.0 ∙ ap (λ (n : ℕ). c.args.places.now.items ++ moved c.args.shift (take (n - c.args.start) (drop c.args.start c.args.places.now.items))) last
