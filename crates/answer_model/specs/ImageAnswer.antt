-- What `image OBJ BASE` comes to: the object file is linked alone, as the library IMAGE from the base, and the bytes of its
-- objects in memory are shown, each object at its linked base.
use Rattle.std.specs.Prelude.{◌≡◌, ℕ, ◌+◌, List, [], ◌∷◌, codes, ◌++◌, length, nat_lt, ◌==◌, if◌then◌else◌, Option, Some, None, map, find}
use Rattle.std.specs.List.{flat_map, enumerate_from, range_with_len}
use Rattle.std.specs.Option.{option_map}
use Rattle.lx_types.specs.declared.limits.TheConstants.{SHARED_END}
use Rattle.obj_types.specs.declared.object.ObjModule.{ObjModule}
use Rattle.link_model.specs.declared.symbols.LaidObject.{LaidObject}
use Rattle.link_model.specs.Link.{Link, IsLinkOf}
use Rattle.link_model.specs.Layout.{objects}
use Rattle.link_model.specs.Mean.{Mean}
use Rattle.link_model.specs.OneSegment.{alone}
use Rattle.link_model.specs.Patches.{linked_world}
use Rattle.link_model.specs.Refusal.{link_refusal}
use Rattle.link_model.specs.Words.{first_of}
use Rattle.image_model.specs.Linked.{link_modules}
use Rattle.answer_model.specs.FileRefusals.{field}
use Rattle.answer_model.specs.ImageText.{image_text}
use Rattle.answer_model.specs.LinkAnswer.{link_text}
use Rattle.answer_model.specs.Outcome.{Outcome, shown, refused_or}
use Rattle.answer_model.specs.Items.{Item, object}

-- The name of the module, and of its refusals.
abbrev pub NAME : List ℕ
NAME = codes "IMAGE"

-- ---- refusals

-- The written module imports others, which are not given.
abbrev pub no_module : Link → Option (List ℕ)
no_module l = if length (link_modules l) == 0 then None else Some (codes "NoModule")

-- The first object that ends past the arenas, by its number and with its size.
abbrev pub arena_full : Link → Option (List ℕ)
arena_full l =
    option_map (λ q. codes "ArenaFull" ++ (field q.0 ++ field q.1.size))
    (find (λ q. nat_lt SHARED_END (q.1.base + q.1.size)) (enumerate_from 1 (objects l)))

-- The first, in this order.
abbrev pub image_refusal : Link → Option (List ℕ)
image_refusal l = first_of (option_map link_text (link_refusal l) ∷ no_module l ∷ arena_full l ∷ [])

-- ---- text

-- The bytes of an object where all stand at their linked bases.
abbrev pub memory_of : Link → ℕ → LaidObject → List ℕ
memory_of l number o = map (Mean l (linked_world l) number) (range_with_len 0 o.size)

abbrev pub object_text : Link → ℕ × LaidObject → List ℕ
object_text l numbered = image_text numbered.1.base (memory_of l numbered.0 numbered.1)

abbrev pub memory_text : Link → List ℕ
memory_text l = flat_map (object_text l) (enumerate_from 1 (objects l))

abbrev pub image_outcome : Link → Outcome
image_outcome l = refused_or NAME (image_refusal l) (shown (memory_text l))

-- ---- the answer

pub record ShowsObject (base : ℕ) (m : ObjModule) (outcome : Outcome) : Type 0 where
  pub link : Link
  pub of_input : IsLinkOf (alone m NAME base) link
  pub comes_to : outcome ≡ image_outcome link

abbrev pub ImageAnswer : ℕ → List Item → Outcome → Type 0
ImageAnswer base (object m ∷ []) outcome = ShowsObject base m outcome
ImageAnswer base _ outcome = ⊥
