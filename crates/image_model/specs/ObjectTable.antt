-- The object table of a link: the layout's objects, each with the entries of the page table that are its own.
-- "32-bit Linear eXecutable Module Format": "Object Table".
use Rattle.std.specs.Prelude.{ℕ, ◌+◌, ◌==◌, List, [], ◌∷◌, if◌then◌else◌}
use Rattle.lx_types.specs.declared.object.ObjHead.{ObjHead}
use Rattle.link_model.specs.declared.symbols.LaidObject.{LaidObject}
use Rattle.link_model.specs.Records.{page_count}

-- All pages of an object stand in the page table, the zero-filled ones too. An object without pages has the first page 0.
abbrev pub object_head : ℕ → LaidObject → ObjHead
object_head first o = record {
  size = o.size;
  base = o.base;
  flags = o.flags;
  first = if page_count o.size == 0 then 0 else first;
  count = page_count o.size;
}

-- The objects, where the first page that is not yet given to one has a number, from 1.
abbrev pub object_heads_from : ℕ → List LaidObject → List ObjHead
object_heads_from first [] = []
object_heads_from first (o ∷ os) = object_head first o ∷ object_heads_from (first + page_count o.size) os
