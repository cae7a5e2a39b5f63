-- A field at a place of a file.
use Rattle.std.specs.Prelude.{ℕ, List, Result}
use Rattle.lx_types.specs.Answers.{as_is}
use Rattle.lx_types.specs.declared.refusal.LxRefusal.{LxRefusal}
use Rattle.lx_model.specs.Reading.{number_at, short_at}
use Rattle.lx_model.specs.Judging.{Judges}

-- the number in the n bytes at a place
abbrev pub IsField : ℕ → Result ℕ LxRefusal → List ℕ → ℕ → Type 0
IsField n result file at = Judges as_is result (number_at n file at) (short_at n file at)
