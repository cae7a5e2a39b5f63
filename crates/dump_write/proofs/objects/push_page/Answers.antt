use Rattle.std.proofs.Common.{◌++◌, ap, ◌∙◌}
use Rattle.std.specs.List.{flat_map}
use Rattle.std.proofs.lemmas.Result.{on_ok_weaker}
use Rattle.dump_model.specs.Lines.{fix_line}
use Rattle.dump_write.proofs.LinesPushed.{page-pushed, some-data}
use Rattle.dump_write.proofs.objects.push_page.Goals as goal

pub returns : goal.returns
returns c =
    let p = c.args.page.now in
    on_ok_weaker c.push_fixes.result
    (λ fixes. page-pushed c.args.out.now.items c.push_leading.new.out.items c.push_data.new.out.items c.push_fixes.new.out.items c.args.id.object c.args.id.page p
    c.in_ok-push_leading.ensures (some-data p.kind p.at p.len) c.in_ok-push_data.ensures
    (fixes ∙ ap (λ fs. c.push_data.new.out.items ++ flat_map (fix_line c.args.id.object c.args.id.page) fs) c.as_slice.ensures))
    c.push_fixes.ensures
