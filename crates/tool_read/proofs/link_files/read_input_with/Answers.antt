use Rattle.std.specs.Prelude.{option_map, string_bytes}
use Rattle.answer_model.specs.AskedFiles.{asked_definition, asked_inputs}
use Rattle.std.proofs.Common.{◌≡◌, ◌++◌, map, sym, subst, Result}
use Rattle.lx_types.specs.declared.fail.Fail.{Fail}
use Rattle.refusal_text.specs.declared.refused.LinkFiles.{LinkFiles}
use Rattle.refusal_text.specs.declared.refused.Refused.{Refused}
use Rattle.answer_model.specs.LinkAnswer.{input_with}
use Rattle.tool_read.specs.Steps.{AreModulesOf, GivesDefinition, ReadsInTurn}
use Rattle.tool_read.proofs.LinkInput.{input_is}
use Rattle.tool_read.proofs.Walk.{both_end, both_read, err_is, stopped_first, stopped_second}
use Rattle.tool_read.proofs.link_files.read_input_with.Goals as goal

pub returns-in_err-counted_input-in-Ok-read_modules-clause-read : goal.returns-in_err-counted_input-in-Ok-read_modules-clause-read
returns-in_err-counted_input-in-Ok-read_modules-clause-read g c =
    let P : Result LinkFiles (Fail Refused) → Type 0 = λ r. ReadsInTurn (λ read items. read.input ≡ input_with c.args.stem items) (asked_definition (option_map (λ name. name.now) c.args.definition) ++ asked_inputs (map string_bytes c.args.inputs.now)) (g.F.Files.state c.args.files.now) (g.F.Files.state c.read_modules.new.files) r in
    subst P (sym (err_is c.from_residual.result c.from_residual.ensures.1)) (both_end GivesDefinition AreModulesOf _ _ _ _ _ _ c.in-Ok.def c.in-Ok-read_modules.modules c.in-Ok.ensures.read c.in-Ok-read_modules.ensures.read)

pub returns-in_ok-counted_input-in-Ok-read_modules-clause-read : goal.returns-in_ok-counted_input-in-Ok-read_modules-clause-read
returns-in_ok-counted_input-in-Ok-read_modules-clause-read g c =
    both_read GivesDefinition AreModulesOf _ _ _ _ _ _ c.in-Ok.def c.in-Ok-read_modules.modules c.in_ok-counted_input-in-Ok-read_modules.field-0 c.in-Ok.ensures.read c.in-Ok-read_modules.ensures.read
    (λ calls is js one read two. input_is c.args.stem c.in-Ok.def c.in-Ok-read_modules.modules c.in_ok-counted_input-in-Ok-read_modules.field-0.input _ calls is js one read two c.in_ok-counted_input-in-Ok-read_modules.ensures.is)

pub returns-in-Err-read_modules-clause-read : goal.returns-in-Err-read_modules-clause-read
returns-in-Err-read_modules-clause-read g c = stopped_second GivesDefinition AreModulesOf _ _ _ _ _ _ c.in-Ok.def c.in-Err-read_modules.why c.in-Ok.ensures.read c.in-Err-read_modules.ensures.read

pub returns-in-Err-clause-read : goal.returns-in-Err-clause-read
returns-in-Err-clause-read g c = stopped_first GivesDefinition _ _ _ _ _ c.in-Err.why c.in-Err.ensures.read
