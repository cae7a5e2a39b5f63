-- What is taken out of an input.
use Rattle.std.specs.Prelude.{[]}
use Rattle.obj_types.specs.declared.input.LinkInput.{LinkInput}
use Rattle.link_model.specs.Clash.{all_modules}
use Rattle.comdat_core.specs.declared.taking.TakenOut.{TakenOut}
use Rattle.comdat_core.specs.Taking.{owned_in, AreListsOf}

pub record IsTakenOut (input : LinkInput) (out : TakenOut) : Type 0 where
  pub objects : AreListsOf (owned_in (all_modules input)) [] input.objects out.objects.items
  pub libs : AreListsOf (owned_in (all_modules input)) input.objects input.libs out.libs.items
