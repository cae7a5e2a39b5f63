-- What the functions answer that make a layout.
use Rattle.std.specs.Prelude.{◌≡◌, ℕ, ◌≤◌, ◌^◌, List, Option, Some, None, Result, Ok, Err}
use Rattle.res_model.specs.declared.item.ResItem.{ResItem}
use Rattle.res_model.specs.Placed.{object_size}
use Rattle.res_model.specs.Refusal.{layout_refusal}
use Rattle.res_bind.specs.Numbers.{IsLayoutOf}
use Rattle.res_bind.specs.declared.layout.Layout.{Layout}
use Rattle.res_model.specs.declared.refusal.BindRefusal.{BindRefusal}

-- the size of an object with these items, or that it has more than 32 bits
abbrev pub IsSizeOf : List ResItem → Option ℕ → Type 0
IsSizeOf items (Some size) = size ≡ object_size items
IsSizeOf items None = 2 ^ 32 ≤ object_size items

-- the layout, or the refusal that comes first
abbrev pub GivesLayout : List ℕ → List ResItem → Result Layout BindRefusal → Type 0
GivesLayout file items (Ok layout) = (layout_refusal file items ≡ None) × IsLayoutOf file items layout
GivesLayout file items (Err told) = layout_refusal file items ≡ Some told
