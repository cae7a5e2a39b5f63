use Rattle.std.proofs.Common.{◌≡◌, suc, ◌<◌, ◌^◌, ◌∙◌, ap, length, arith}
use Rattle.std.specs.Fmt.{decimal}
use Rattle.std.proofs.lemmas.Fmt.{length-decimal-le}
use Rattle.gen_core.proofs.names.public_name.Goals as goal

pub of_short-requires : goal.of_short-requires
of_short-requires c =
    let small : c.args.k < 2 ^ 32 = c.ranges.k.fits in
    let few = length-decimal-le 10 c.args.k (omega arith) (omega arith) (omega arith) in
    let long : length c.as_bytes.result.now ≡ suc (length (decimal c.args.k)) = ap length (c.as_bytes.ensures.value ∙ c.in_ok-format.ensures.ok) in
    omega (arith, few, long)
