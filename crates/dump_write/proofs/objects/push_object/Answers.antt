use Rattle.std.proofs.Common.{[], ◌∷◌, ◌++◌, length, ap, ◌∙◌}
use Rattle.std.specs.Prelude.{codes, decimal}
use Rattle.std.specs.List.{flat_map, enumerate_from}
use Rattle.std.proofs.lemmas.Result.{on_ok_weaker}
use Rattle.session_model.specs.Text.{line_of}
use Rattle.dump_model.specs.Dumps.{page_lines}
use Rattle.dump_write.proofs.LinesPushed.{object-pushed}
use Rattle.dump_write.proofs.objects.push_object.Goals as goal

pub returns : goal.returns
returns c =
    on_ok_weaker c.push_pages.result
    (λ pages. object-pushed c.args.out.now.items c.push_leading.new.out.items c.push_leading-2.new.out.items c.push_leading-3.new.out.items
    c.push_leading-4.new.out.items c.push_line.new.out.items c.push_pages.new.out.items c.args.number c.args.object.now c.in_ok-push_leading.ensures
    c.in_ok-push_leading-2.ensures c.in_ok-push_leading-3.ensures c.in_ok-push_leading-4.ensures
    (c.in_ok-push_line.ensures ∙ ap (λ ps. c.push_leading-4.new.out.items ++ line_of (codes "pages" ∷ decimal (length ps) ∷ [])) c.as_slice-pages.ensures)
    (pages ∙ ap (λ ps. c.push_line.new.out.items ++ flat_map (page_lines c.args.number) (enumerate_from 0 ps)) c.as_slice-pages.ensures))
    c.push_pages.ensures
