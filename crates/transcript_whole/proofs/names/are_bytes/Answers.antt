use Rattle.std.proofs.Common.{arith}
use Rattle.transcript_whole.proofs.LibraryNames.{all_bytes}
use Rattle.transcript_whole.proofs.names.are_bytes.Goals as goal

pub returns : goal.returns
returns c = all_bytes c.args.bytes.now (λ k. let byte = c.type_inv.bytes k in omega (arith, byte))
