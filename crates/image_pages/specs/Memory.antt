-- The objects of a linked module in memory, each at its linked base, and why a module has none there.
use Rattle.std.specs.Prelude.{◌≡◌, ℕ, ◌+◌, [], ◌∷◌, List, Option, None, Some, if◌then◌else◌, nat_lt, ◌==◌, length, map, find}
use Rattle.std.specs.List.{range_with_len, enumerate_from}
use Rattle.std.specs.Option.{option_map}
use Rattle.lx_types.specs.declared.limits.TheConstants.{SHARED_END}
use Rattle.obj_types.specs.declared.input.LinkInput.{LinkInput}
use Rattle.link_model.specs.declared.symbols.LaidObject.{LaidObject}
use Rattle.link_model.specs.Words.{first_of}
use Rattle.link_model.specs.Link.{Link, IsLinkOf}
use Rattle.link_model.specs.Layout.{objects}
use Rattle.link_model.specs.Mean.{Mean}
use Rattle.link_model.specs.Patches.{linked_world}
use Rattle.link_model.specs.Refusal.{link_refusal}
use Rattle.image_model.specs.Linked.{link_modules}
use Rattle.image_pages.specs.declared.refusals.ImageRefusal.{ImageRefusal}
use Rattle.image_pages.specs.declared.refusals.ImageRefusal.TheVariants.{Link as NotLinked, NoModule, ArenaFull}

-- ---- refusals

-- `NoModule`: the written module imports other modules, which are not given.
abbrev pub no_module : Link → Option ImageRefusal
no_module l = if length (link_modules l) == 0 then None else Some NoModule

-- `ArenaFull`: the first object that ends past the arenas, by its number and with its size.
abbrev pub full_from : ℕ → List LaidObject → Option ImageRefusal
full_from number os =
    option_map (λ q. ArenaFull q.0 q.1.size)
    (find (λ q. nat_lt SHARED_END (q.1.base + q.1.size)) (enumerate_from number os))

abbrev pub arena_full : Link → Option ImageRefusal
arena_full l = full_from 1 (objects l)

-- The refusal, in this order.
abbrev pub image_refusal : Link → Option ImageRefusal
image_refusal l = first_of (option_map NotLinked (link_refusal l) ∷ no_module l ∷ arena_full l ∷ [])

-- ---- bytes

-- The bytes of an object at the linked bases of all.
abbrev pub memory_of : Link → ℕ → LaidObject → List ℕ
memory_of l object o = map (Mean l (linked_world l) object) (range_with_len 0 o.size)

-- The objects in order, each with its bytes.
abbrev pub memory : Link → List (LaidObject × List ℕ)
memory l = map (λ q. (q.1, memory_of l q.0 q.1)) (enumerate_from 1 (objects l))

-- ---- answers

-- The input's link is accepted, and these are its objects in memory.
pub record IsMemory (input : LinkInput) (found : List (LaidObject × List ℕ)) : Type 0 where
  pub link : Link
  pub of_input : IsLinkOf input link
  pub accepted : image_refusal link ≡ None
  pub rows : found ≡ memory link

-- The input's link has no place in memory, for this reason.
pub record RefusesMemory (input : LinkInput) (refusal : ImageRefusal) : Type 0 where
  pub link : Link
  pub of_input : IsLinkOf input link
  pub refused : image_refusal link ≡ Some refusal
