use Rattle.std.proofs.Common.{◌≡◌, ◌++◌, drop}
use Rattle.std.specs.List.{flat_map}
use Rattle.dump_model.specs.Lines.{fix_line}
use Rattle.dump_write.proofs.objects.push_fixes.Given as goal

abbrev pub invariant-loop-fix : goal.invariant-loop-fix
invariant-loop-fix l =
    l.out.items ++ flat_map (fix_line l.id.object l.id.page) (drop l.fix-index l.fixes) ≡ l.initial.out.items ++ flat_map (fix_line l.id.object l.id.page) l.fixes
