use Rattle.std.proofs.Common.{◌≡◌, ◌<◌, ℕ, map, take}
use Rattle.std.specs.List.{range_with_len, enumerate_from}
use Rattle.link_fix.specs.Images.{byte_of}
use Rattle.link_fix.proofs.painting.object_rows.Given as goal

abbrev pub invariant-loop-object : goal.invariant-loop-object
invariant-loop-object l = record {
  counted : l.number ≡ l.object-index;
  kept : (n : ℕ) (x : ℕ) → l.number < n → byte_of l.left n x ≡ byte_of l.fn.rows n x;
  rows : l.all ≡ map (λ q. map (byte_of l.fn.rows q.0) (range_with_len 0 q.1.size)) (enumerate_from 1 (take l.object-index l.objects));
}
