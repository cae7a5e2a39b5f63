-- Mapped pages after a write of their process.
use Rattle.std.specs.Prelude.{ℕ, ◌+◌, ◌*◌, ◌==◌, ◌&&◌, if◌then◌else◌, map, slice_index, ◌∷◌, List, []}
use Rattle.std.specs.List.{range_with_len}
use Rattle.lx_types.specs.declared.object.PageId.{PageId}
use Rattle.lx_types.specs.declared.object.TheConstants.{PAGE_SIZE}
use Rattle.load_model.specs.State.{Written}
use Rattle.load_model.specs.Memory.{last_put}
use Rattle.load_model.specs.Views.{Mapped}

-- the bytes of a page after a write to its object
abbrev pub over_page : Written → PageId → List ℕ → List ℕ
over_page w q bytes = map (λ i. last_put (w ∷ []) (q.page * PAGE_SIZE + i) (slice_index bytes i)) (range_with_len 0 PAGE_SIZE)

-- a write to an object of a residence goes into those of its pages that are mapped
abbrev pub written_over : ℕ → Written → Mapped → Mapped
written_over serial w p = if (p.of.serial == serial) && (p.of.page.object == w.object) then record p { bytes = over_page w p.of.page p.bytes } else p
