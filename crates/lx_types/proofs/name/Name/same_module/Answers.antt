use Rattle.lx_types.proofs.Letters.{upper-from-lower, lower-from-upper}
use Rattle.lx_types.proofs.name.Name.same_module.Goals as goal
use Rattle.std.proofs.Common.{rules}

pub returns : goal.returns
returns c = search (upper-from-lower, lower-from-upper, rules)
