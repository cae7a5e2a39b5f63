-- Worked values: where resources lie.
use Rattle.std.specs.Prelude.{◌≡◌, [], ◌∷◌, codes}
use Rattle.lx_model.specs.Worked.Resources.{with_resources, item}
use Rattle.load_model.specs.declared.commands.Command.TheVariants.{Load, GetRes, Exit}
use Rattle.load_model.specs.declared.commands.Reply.TheVariants.{Spot}
use Rattle.load_model.specs.declared.commands.Refusal.TheVariants as why
use Rattle.load_model.specs.Modules.{Library}
use Rattle.load_model.specs.Step.{steady}
use Rattle.load_model.specs.Samples.{answer_after, refused}

-- a library with the resource 1 2: the three bytes of its object 2
abbrev resourced : Library
resourced = with_resources 1 (item 1 2 3 2 0) ∷ []

pub record WorkedResources : Type 0 where
  pub there : answer_after resourced ((1, Load (codes "R")) ∷ []) 1 (GetRes (codes "r") 1 2) ≡ steady (Spot (record { object = 2; offset = 0; len = 3 }))
  pub other : answer_after resourced ((1, Load (codes "R")) ∷ []) 1 (GetRes (codes "R") 1 3) ≡ refused why.NoResource
  pub not_attached : answer_after resourced [] 1 (GetRes (codes "R") 1 2) ≡ refused why.NotAttached
  pub ended : answer_after resourced ((1, Exit) ∷ []) 1 (GetRes (codes "R") 1 2) ≡ refused why.Ended
