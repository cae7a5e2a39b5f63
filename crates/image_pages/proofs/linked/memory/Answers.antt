use Rattle.link_place.proofs.AnswersMapped.{answers-map}
use Rattle.link_core.proofs.Assembled.{failed-by}
use Rattle.image_pages.specs.declared.refusals.ImageRefusal.TheVariants.{Link as NotLinked}
use Rattle.image_pages.proofs.MemoryIs.{from_file, is_memory, link_refused, refuses_memory}
use Rattle.image_pages.proofs.linked.memory.Goals as goal

pub returns-in_ok-linked_module-in-Ok-clause-memory : goal.returns-in_ok-linked_module-in-Ok-clause-memory
returns-in_ok-linked_module-in-Ok-clause-memory c =
    let input = c.args.input.now in
    let m = c.in_ok-linked_module-in-Ok.field-0 in
    let from = from_file input c.in-Ok.file.items m c.requires.whole c.input_range.ensures c.in-Ok.ensures.linked c.in-Ok.ensures.short c.in_ok-linked_module-in-Ok.ensures.parts c.in_ok-linked_module-in-Ok.ensures.read in
    answers-map c.loaded_alone.result _ _ _ _
    (λ rows loaded. is_memory c.linked_bytes_are_loaded.ensures c.linked_files_are_read.ensures c.linked_modules_load_alone.ensures input m rows.items from loaded)
    (λ refusal is. refuses_memory c.linked_files_are_read.ensures input m refusal from is) c.loaded_alone.ensures

pub returns-in-Err-clause-memory : goal.returns-in-Err-clause-memory
returns-in-Err-clause-memory c =
    failed-by c.link.result c.in-Err.fail c.failed_as.result NotLinked _ _ _ _ c.failed_as.ensures c.in-Err.is (λ e h. link_refused c.args.input.now e h) c.link.ensures.linked
