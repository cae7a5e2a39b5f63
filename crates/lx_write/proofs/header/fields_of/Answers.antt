use Rattle.std.proofs.Common.{◌∙◌, ap, sym, length}
use Rattle.lx_write.specs.Value.{image_value}
use Rattle.lx_write.specs.Sections.{sections_value}
use Rattle.lx_write.proofs.Fields.{fields_are, object_of, offset_of, fixups_long, loader_long, others_long, objects_counted}
use Rattle.lx_write.proofs.header.fields_of.Goals as goal

pub returns : goal.returns
unfolding image_value
returns c =
    let m = image_value c.args.image.now in
    let s = sections_value c.args.s.now in
    let p = c.requires.places in
    fields_are m s _ _ _ _ _ _ _ _ _ _ _ _ _ _ _ _ _ _ _ _
    c.module_flags.ensures
    (c.in_ok-pages.ensures ∙ c.requires.pages)
    (ap (λ t. t.0) c.unwrap_or-start_object.ensures ∙ object_of c.args.image.now.start)
    (ap (λ t. t.1) c.unwrap_or-start_object.ensures ∙ offset_of c.args.image.now.start)
    (ap (λ t. t.0) c.unwrap_or-stack_object.ensures ∙ object_of c.args.image.now.stack)
    (ap (λ t. t.1) c.unwrap_or-stack_object.ensures ∙ offset_of c.args.image.now.stack)
    (rw (p.contents, p.spans) (fixups_long s))
    (rw (p.spans) (loader_long s))
    (c.in_ok-objects.ensures ∙ ap length c.as_slice.ensures ∙ sym (objects_counted c.args.image.now.objects 1))
    p.pages p.contents p.residents p.entries p.spans p.records p.imports
    (c.in_ok-imports.ensures ∙ ap length c.as_slice-2.ensures)
    p.procs p.others
    (rw (p.end, p.others) (others_long s))
