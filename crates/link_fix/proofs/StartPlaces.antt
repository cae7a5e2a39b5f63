-- The start among the objects of a link.
use Rattle.std.specs.Prelude.{◌≡◌, ℕ, List, Option, refl}
use Rattle.std.proofs.Common.{ap, ◌∙◌}
use Rattle.obj_types.specs.declared.object.StartAt.{StartAt}
use Rattle.link_model.specs.declared.symbols.LaidObject.{LaidObject}
use Rattle.link_model.specs.Link.{Link}
use Rattle.link_model.specs.Layout.{objects}
use Rattle.link_model.specs.Goals.{Target, Internal, Constant, Entry}
use Rattle.link_model.specs.Start.{start_place}
use Rattle.link_fix.specs.Start.{start_among}

of_link : (l : Link) (s : StartAt) (t : Target) → start_among (objects l) s t ≡ start_place l s t
of_link l s (Internal o offset) = refl
of_link l s (Constant value) = refl
of_link l s (Entry slot) = refl

pub start-is : (l : Link) (os : List LaidObject) (s : StartAt) (t : Target) (r : Option (ℕ × ℕ)) → os ≡ objects l → r ≡ start_among os s t → r ≡ start_place l s t
start-is l os s t r of is = is ∙ ap (λ (xs : List LaidObject). start_among xs s t) of ∙ of_link l s t
