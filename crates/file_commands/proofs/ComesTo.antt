-- What a command comes to, and what it says.
use Rattle.std.proofs.Common.{Result, Ok, Err}
use Rattle.std.specs.Prelude.{IfOk}
use Rattle.lx_types.specs.declared.fail.NoMemory.{NoMemory}
use Rattle.answer_model.specs.declared.said.Said.{Said}
use Rattle.file_commands.specs.declared.told.Told.{Told}
use Rattle.file_commands.specs.Refusals.{said_in}

pub if_said : (P : Said → Type 0) (r : Result Told NoMemory) → IfOk r (λ told. P told.said) → IfOk (said_in r) P
if_said P (Ok told) is = is
if_said P (Err why) is = is

pub if_told : (P : Said → Type 0) (r : Result Told NoMemory) → IfOk (said_in r) P → IfOk r (λ told. P told.said)
if_told P (Ok told) is = is
if_told P (Err why) is = is
