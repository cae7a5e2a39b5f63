use Rattle.std.proofs.Common.{◌≡◌, Some, ap, subst, sym, ◌∙◌}
use Rattle.command_line.specs.Commands.{HasBase, meant}
use Rattle.command_line.specs.declared.words.Command.{Command}
use Rattle.file_commands.proofs.Done.{done_usage, done_words}
use Rattle.file_commands.proofs.ComesTo.{if_said}
use Rattle.answer_model.specs.FileLine.{usage_line}
use Rattle.lx_tool.proofs.tool.answer.Goals as goal

pub image-requires : goal.image-requires
image-requires g c = subst HasBase c.in-Some-Image.field-0-is c.in-Some-Image.ensures.based

pub returns-in-Some-Image : goal.returns-in-Some-Image
returns-in-Some-Image g c =
    let same = c.in-Some-Image.field-0-is in
    done_words _ _ _ _ _ (ap (λ (one : Command). Some (meant one)) (sym same) ∙ c.in-Some-Image.ensures.command) c.image.ensures

pub returns-in-Some-Link : goal.returns-in-Some-Link
returns-in-Some-Link g c =
    let same = c.in-Some-Link.field-0-is in
    done_words _ _ _ _ _ (ap (λ (one : Command). Some (meant one)) (sym same) ∙ c.in-Some-Link.ensures.command) c.link.ensures

pub returns-in-Some-Implib : goal.returns-in-Some-Implib
returns-in-Some-Implib g c =
    let same = c.in-Some-Implib.field-0-is in
    done_words _ _ _ _ _ (ap (λ (one : Command). Some (meant one)) (sym same) ∙ c.in-Some-Implib.ensures.command) c.implib.ensures

pub returns-in-Some-Bind : goal.returns-in-Some-Bind
returns-in-Some-Bind g c =
    let same = c.in-Some-Bind.field-0-is in
    done_words _ _ _ _ _ (ap (λ (one : Command). Some (meant one)) (sym same) ∙ c.in-Some-Bind.ensures.command) c.bind.ensures

pub returns-in-Some-Gen : goal.returns-in-Some-Gen
returns-in-Some-Gen g c =
    let same = c.in-Some-Gen.field-0-is in
    done_words _ _ _ _ _ (ap (λ (one : Command). Some (meant one)) (sym same) ∙ c.in-Some-Gen.ensures.command) c.generated.ensures

pub returns-in-Some-Dump : goal.returns-in-Some-Dump
returns-in-Some-Dump g c =
    let same = c.in-Some-Dump.field-0-is in
    done_words _ _ _ _ _ (ap (λ (one : Command). Some (meant one)) (sym same) ∙ c.in-Some-Dump.ensures.command) c.dump.ensures

pub returns-in-Some-Map : goal.returns-in-Some-Map
returns-in-Some-Map g c =
    let same = c.in-Some-Map.field-0-is in
    done_words _ _ _ _ _ (ap (λ (one : Command). Some (meant one)) (sym same) ∙ c.in-Some-Map.ensures.command) c.show_map.ensures

pub returns-in-Some-Memory : goal.returns-in-Some-Memory
returns-in-Some-Memory g c =
    let same = c.in-Some-Memory.field-0-is in
    done_words _ _ _ _ _ (ap (λ (one : Command). Some (meant one)) (sym same) ∙ c.in-Some-Memory.ensures.command) c.show_memory.ensures

pub returns-in-Some-Show : goal.returns-in-Some-Show
returns-in-Some-Show g c =
    let same = c.in-Some-Show.field-0-is in
    done_words _ _ _ _ _ (ap (λ (one : Command). Some (meant one)) (sym same) ∙ c.in-Some-Show.ensures.command) c.show.ensures

pub returns-in-None : goal.returns-in-None
returns-in-None g c = done_words _ _ _ _ _ c.in-None.ensures.command (done_usage _ _ (if_said (λ said. said ≡ record { status = 2; text = usage_line }) c.usage.result c.usage.ensures))
