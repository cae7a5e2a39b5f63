-- Worked values: the words of `show`, and how its text ends.
use Rattle.std.specs.Prelude.{◌≡◌, ◌++◌, [], ◌∷◌, codes, None, Some}
use Rattle.obj_types.specs.declared.refusal.OmfRefusal.TheVariants.{BadChecksum}
use Rattle.show_model.specs.declared.fault.ShowFault.TheVariants.{Object}
use Rattle.answer_model.specs.ShowAnswer.{shown_said}
use Rattle.answer_model.specs.Words.{command_of, show}

pub record WorkedShow : Type 0 where
  pub words : command_of (codes "show" ∷ codes "a" ∷ []) ≡ Some (show (codes "a"))
  pub no_file : command_of (codes "show" ∷ []) ≡ None
  pub two_files : command_of (codes "show" ∷ codes "a" ∷ codes "b" ∷ []) ≡ None
  pub whole : shown_said (codes "a") (codes "x") None ≡ record { status = 0; text = codes "x" }
  pub faulty : shown_said (codes "a") (codes "x: 0" ++ 10 ∷ []) (Some (Object (BadChecksum 5 254)))
      ≡ record { status = 1; text = codes "x: 0" ++ 10 ∷ codes "lx: a: @5 BadChecksum 254" ++ 10 ∷ [] }
