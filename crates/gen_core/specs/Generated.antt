-- The files that are made before any is saved.
use Rattle.std.specs.Prelude.{◌≡◌, ℕ, List, codes, length, map, string_bytes, All}
use Rattle.answer_model.specs.FileLine.{file_line}
use Rattle.answer_model.specs.GenAnswer.{AreObjectFiles, GenWords, files_with}
use Rattle.answer_model.specs.Outcome.{Saved}
use Rattle.gen_core.specs.declared.outputs.Output.{Output}

abbrev pub saved_of : Output → Saved
saved_of output = record { name = string_bytes output.name; bytes = output.bytes }

-- It has the line that is said where it is not saved.
abbrev pub HasLine : Output → Type 0
HasLine output = output.failed ≡ file_line (string_bytes output.name) (codes "write failed")

abbrev pub IsOutput : List ℕ → List ℕ → Output → Type 0
IsOutput name bytes output = (saved_of output ≡ record { name = name; bytes = bytes }) × HasLine output

-- They are the files of the words, each with its line.
pub record AreOutputs (words : GenWords) (outputs : List Output) : Type 0 where
  pub objects : List (List ℕ)
  pub each : length objects ≡ words.count
  pub mean : AreObjectFiles 1 objects
  pub files_are : map saved_of outputs ≡ files_with words objects
  pub lines : All HasLine outputs
