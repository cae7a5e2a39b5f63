-- A page under sources: the last that covers a byte decides it.
use Rattle.std.specs.Prelude.{ℕ, List, map, reverse, unwrap_or}
use Rattle.lx_types.specs.declared.bases.Bases.{Bases}
use Rattle.lx_types.specs.declared.object.PageId.{PageId}
use Rattle.lx_types.specs.declared.parts.Parts.{Parts}
use Rattle.lx_model.specs.Reading.{first}
use Rattle.lx_model.specs.Fixed.{Patch, patch_of, patched}
use Rattle.lx_fixrec.specs.Left.{Left}

-- a byte, where patches were put over another one, in their order
abbrev pub laid : List Patch → ℕ → ℕ → ℕ
laid qs i raw = unwrap_or (first (map (λ q. patched q i) (reverse qs))) raw

-- what the sources that are left put into a page of module m
abbrev pub patches_left : List Parts → ℕ → Bases → PageId → Left → List Patch
patches_left lib m bases p left = map (λ s. patch_of lib m bases p s.1) left.items
