use Rattle.std.proofs.Common.{◌≡◌, ◌++◌, drop}
use Rattle.std.specs.List.{flat_map, enumerate_from}
use Rattle.dump_model.specs.Dumps.{page_lines}
use Rattle.dump_write.proofs.objects.push_pages.Given as goal

abbrev pub invariant-loop-page : goal.invariant-loop-page
invariant-loop-page l =
    (l.number ≡ l.page-index)
    × (l.out.items ++ flat_map (page_lines l.object) (enumerate_from l.number (drop l.page-index l.pages))
    ≡ l.initial.out.items ++ flat_map (page_lines l.object) (enumerate_from 0 l.pages))
