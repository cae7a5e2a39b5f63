use Rattle.std.proofs.Common.{◌≡◌, ◌<◌, ◌^◌, map}
use Rattle.std.specs.Prelude.{All}
use Rattle.std.specs.List.{range_with_len}
use Rattle.res_model.specs.Bound.{new_page}
use Rattle.res_bind.proofs.tables.new_pages.Given as goal

abbrev pub invariant-loop-k : goal.invariant-loop-k
invariant-loop-k l = record {
  are : l.pages.items ≡ map (new_page l.plan.file.now l.plan.items.now) (range_with_len 0 l.k);
  short : All (λ p. p.len < 2 ^ 16) l.pages.items;
}
