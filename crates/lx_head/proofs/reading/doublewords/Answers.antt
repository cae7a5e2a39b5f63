use Rattle.lx_head.proofs.Numbers.{all_numbers}
use Rattle.lx_head.proofs.reading.doublewords.Goals as goal

pub returns : goal.returns
returns c = all_numbers c.args.bytes.now c.read_u32_into.new.dst c.args.place c.requires c.read_u32_into.auto.dst c.read_u32_into.ensures
