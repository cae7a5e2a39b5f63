use Rattle.std.proofs.Common.{◌+◌, ◌-◌, ◌/◌, ◌<◌, length, get_or, sym, arith}
use Rattle.lx_types.specs.declared.entry.EntryHead.TheVariants.{At}
use Rattle.lx_types.proofs.Ordinals.{Entry, Narrowed-up, Narrowed-down, entry_found, entry_lacks}
use Rattle.lx_types.proofs.module.entry_with.Goals as goal

-- any entry, where a read wants one
abbrev other : Entry
other = (0, At 0 0)

pub returns-then-found-ordinal : goal.returns-then-found-ordinal
returns-then-found-ordinal c =
    let middle = c.loop-low.low + (c.loop-low.high - c.loop-low.low) / 2 in
    let test = c.loop-low-test.true in
    let top = c.loop-low.invariant.within in
    let inside : middle < length c.args.entries.now = omega arith in
    sym (entry_found c.args.entries.now c.args.ordinal middle other c.requires inside c.if-found-ordinal.true)

pub loop-low-preserved-then-found-ordinal-2 : goal.loop-low-preserved-then-found-ordinal-2
loop-low-preserved-then-found-ordinal-2 c =
    let middle = c.loop-low.low + (c.loop-low.high - c.loop-low.low) / 2 in
    let test = c.loop-low-test.true in
    let before : middle < c.loop-low.high = omega arith in
    Narrowed-up c.args.entries.now c.args.ordinal c.loop-low.low middle c.loop-low.high other c.requires c.loop-low.invariant before c.if-found-ordinal-2.true

pub loop-low-preserved : goal.loop-low-preserved
loop-low-preserved c =
    let middle = c.loop-low.low + (c.loop-low.high - c.loop-low.low) / 2 in
    let test = c.loop-low-test.true in
    let before : middle < c.loop-low.high = omega arith in
    let apart = c.if-found-ordinal.false in
    let least = c.if-found-ordinal-2.false in
    let more : c.args.ordinal < (get_or c.args.entries.now middle other).0 = omega arith in
    Narrowed-down c.args.entries.now c.args.ordinal c.loop-low.low middle c.loop-low.high other c.requires c.loop-low.invariant before more

pub returns : goal.returns
returns c = sym (entry_lacks c.args.entries.now c.args.ordinal c.loop-low.low c.loop-low.high c.loop-low.invariant c.loop-low-test.false)
