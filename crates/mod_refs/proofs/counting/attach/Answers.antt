-- A module without a count leaves room for one more.
use Rattle.std.proofs.Common.{arith}
use Rattle.mod_refs.proofs.Counts.{room_for_one}
use Rattle.mod_refs.proofs.counting.attach.Goals as goal

pub push-requires : goal.push-requires
push-requires c =
    let less = room_for_one c.args.reached.now c.args.attached.now.items c.args.k c.requires.within c.requires.uncounted c.requires.attached in
    omega (arith, less, c.requires.few)
