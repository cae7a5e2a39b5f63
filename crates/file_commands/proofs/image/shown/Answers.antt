use Rattle.std.proofs.Common.{List, subst, sym, ap, ◌∙◌}
use Rattle.std.specs.List.{flat_map}
use Rattle.obj_types.specs.declared.input.LinkInput.{LinkInput}
use Rattle.image_pages.specs.Memory.{IsMemory}
use Rattle.file_commands.specs.Rows.{Row, row_text}
use Rattle.answer_model.specs.ImageAnswer.{ShowsObject}
use Rattle.answer_model.specs.Outcome.{says_only}
use Rattle.answer_model.specs.declared.said.Said.{Said}
use Rattle.file_commands.proofs.ImageMemory.{image_refused, memory_fits, memory_shows}
use Rattle.file_commands.proofs.image.shown.Goals as goal

pub memory_text-requires : goal.memory_text-requires
memory_text-requires c =
    let is = c.in-Ok.ensures.memory in
    memory_fits is.link c.deref.result.now is.accepted (c.deref.ensures.value ∙ is.rows)

pub returns-in_ok-memory_text-in-Ok : goal.returns-in_ok-memory_text-in-Ok
returns-in_ok-memory_text-in-Ok c =
    let P : LinkInput → Type 0 = λ i. IsMemory i c.in-Ok.rows.items in
    let Q : Said → Type 0 = λ s. ShowsObject c.args.base c.args.object (says_only s) in
    subst Q (sym c.done.ensures) (memory_shows c.args.base c.args.object c.in_ok-memory_text-in-Ok.field-0 c.in-Ok.rows.items (subst P c.in_ok-input.ensures.is c.in-Ok.ensures.memory)
    (c.in_ok-memory_text-in-Ok.ensures ∙ ap (λ (rows : List Row). flat_map row_text rows) c.deref.ensures.value))

pub returns-in-Ok-files_of : goal.returns-in-Ok-files_of
returns-in-Ok-files_of c =
    image_refused _ c.args.base c.args.object c.in_ok-input.input c.in-Err.why c.unshown.result c.in_ok-input.ensures.is c.in-Err.ensures.memory c.unshown.ensures
