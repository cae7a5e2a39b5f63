-- What a line says, as the reader holds it.
use Rattle.std.specs.Prelude.{◌≡◌, Option, Some, None, Result}
use Rattle.lx_types.specs.declared.fail.Fail.{Fail}
use Rattle.lx_types.specs.Answers.{Answers}
use Rattle.session_model.specs.declared.sessions.SessionKind.{SessionKind}
use Rattle.session_model.specs.declared.sessions.ModLine.{ModLine}
use Rattle.session_model.specs.declared.sessions.FailingLine.{FailingLine}
use Rattle.session_model.specs.Kept.{module_told, failure_told}
use Rattle.session_model.specs.Statements.{Statement, gives, fails, process, command, Reading, nothing, says, wrong}
use Rattle.session_read.specs.declared.said.Said.{Said}
use Rattle.session_read.specs.declared.said.Said.TheVariants.{Module, Failing, Process, Command}

abbrev pub told : Said → Statement
told (Module line) = gives line
told (Failing line) = fails line
told (Process pid) = process pid
told (Command c) = command c

abbrev pub reading_told : Option Said → Reading
reading_told None = nothing
reading_told (Some said) = says (told said)

-- what a statement has in the lists that are kept
abbrev pub module_said : Said → Option ModLine
module_said said = module_told (says (told said))

abbrev pub failing_said : Said → Option FailingLine
failing_said said = failure_told (says (told said))

-- A call gives the statement that is read, or what is wrong.
abbrev pub Says : Reading → Result Said (Fail SessionKind) → Type 0
Says reading result = Answers result (λ said. reading ≡ says (told said)) (λ kind. reading ≡ wrong kind)
