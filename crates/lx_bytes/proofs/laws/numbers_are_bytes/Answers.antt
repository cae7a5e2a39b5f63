use Rattle.lx_bytes.proofs.Numbers.{length-little_bytes, little-little_bytes, little_bytes-little}
use Rattle.lx_bytes.proofs.laws.numbers_are_bytes.Goals as goal

pub returns-clause-length : goal.returns-clause-length
returns-clause-length c = length-little_bytes

pub returns-clause-read_back : goal.returns-clause-read_back
returns-clause-read_back c = little-little_bytes

pub returns-clause-written_back : goal.returns-clause-written_back
returns-clause-written_back c = little_bytes-little
