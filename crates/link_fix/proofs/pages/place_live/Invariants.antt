use Rattle.std.proofs.Common.{◌≡◌, ◌≤◌, ℕ, List, map, take, drop, length}
use Rattle.obj_types.specs.declared.symbol.Imp.{Imp}
use Rattle.link_model.specs.Link.{Link}
use Rattle.link_fix.specs.Images.{byte_of}
use Rattle.link_fix.specs.Shown.{shown}
use Rattle.link_fix.specs.Tables.{ArePairs}
use Rattle.link_fix.specs.Paging.{fixes_of, records_among, recorded_in}
use Rattle.link_fix.specs.Values.{with_fields}
use Rattle.link_fix.proofs.pages.place_live.Given as goal

abbrev pub invariant-fixups : goal.invariant-fixups
invariant-fixups l = record {
  within : l.left ≤ length l.fn.live.items;
  kept : l.kept.items ≡ take l.left l.fn.live.items;
  bytes : (k : Link) (n : ℕ) (x : ℕ) → byte_of l.rows n x ≡ with_fields k (map shown (drop l.left l.fn.live.items)) (byte_of l.fn.rows) n x;
  records : (pairs : List Imp) → ArePairs l.tables pairs → (n : ℕ) (k : ℕ) → fixes_of l.pages n k ≡ records_among l.imports pairs (recorded_in (map shown (drop l.left l.fn.live.items))) n k;
}

abbrev pub decreases-fixups : goal.decreases-fixups
decreases-fixups l = l.left
