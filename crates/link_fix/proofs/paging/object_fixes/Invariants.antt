use Rattle.std.proofs.Common.{◌≡◌, ◌<◌, ℕ, map, take}
use Rattle.std.specs.List.{range_with_len, enumerate_from}
use Rattle.link_model.specs.Records.{page_count}
use Rattle.link_fix.specs.Paging.{fixes_of}
use Rattle.link_fix.proofs.paging.object_fixes.Given as goal

abbrev pub invariant-loop-object : goal.invariant-loop-object
invariant-loop-object l = record {
  counted : l.number ≡ l.object-index;
  kept : (n : ℕ) (k : ℕ) → l.number < n → fixes_of l.left n k ≡ fixes_of l.fn.pages n k;
  lists : l.all ≡ map (λ q. map (fixes_of l.fn.pages q.0) (range_with_len 0 (page_count q.1.size))) (enumerate_from 1 (take l.object-index l.objects));
}
