-- Which items are refused.
use Rattle.std.specs.Prelude.{ℕ, ◌+◌, ◌==◌, ◌||◌, not, Bool, List, [], ◌∷◌, length, nat_lt, Option, Some, None, if◌then◌else◌}
use Rattle.lx_types.specs.declared.limits.TheConstants.{MAX_PAGES, MAX_OBJECTS, MAX_FILE}
use Rattle.lx_model.specs.declared.header_fields.TheConstants.{RESOURCE_COUNT}
use Rattle.lx_model.specs.Header.{field, page_count, object_count}
use Rattle.res_model.specs.declared.item.ResItem.{ResItem}
use Rattle.res_model.specs.Placed.{new_page_count}
use Rattle.res_model.specs.Layout.{end_place}
use Rattle.res_model.specs.declared.refusal.BindRefusal.{BindRefusal}
use Rattle.res_model.specs.declared.refusal.BindRefusal.TheVariants.{HasResources, TooMany, TooLarge}

-- a file of so many bytes is too large
abbrev pub size_refusal : ℕ → Option BindRefusal
size_refusal bytes = if nat_lt MAX_FILE bytes then Some TooLarge else None

-- with one object and its pages more there are too many
abbrev pub are_too_many : List ℕ → List ResItem → Bool
are_too_many file items = nat_lt MAX_OBJECTS (object_count file + 1) || nat_lt MAX_PAGES (page_count file + new_page_count items)

-- what is refused of a file with a new object
unfoldable pub layout_refusal : List ℕ → List ResItem → Option BindRefusal
layout_refusal file items = if are_too_many file items then Some TooMany else size_refusal (end_place file items)

-- without items there is no new object, and the file is as long as it is
abbrev pub items_refusal : List ℕ → List ResItem → Option BindRefusal
items_refusal file [] = size_refusal (length file)
items_refusal file (i ∷ items) = layout_refusal file (i ∷ items)

-- The first of the causes that holds.
unfoldable pub bind_refusal : List ℕ → List ResItem → Option BindRefusal
bind_refusal file items = if not (field file RESOURCE_COUNT == 0) then Some HasResources else items_refusal file items
