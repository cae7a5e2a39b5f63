-- Where nothing is taken out of an input, and what it is linked to then.
use Rattle.std.specs.Prelude.{◌≡◌, List, []}
use Rattle.std.specs.Global.{Vec}
use Rattle.std.specs.List.{All}
use Rattle.obj_types.specs.declared.input.LinkInput.{LinkInput}
use Rattle.link_model.specs.Kept.{Kept}
use Rattle.link_model.specs.Link.{Link, IsLinkOf}
use Rattle.comdat_core.specs.declared.taking.Taken.{Taken}
use Rattle.comdat_core.specs.declared.taking.TakenOut.{TakenOut}
use Rattle.comdat_core.specs.Aside.{bare}
use Rattle.comdat_core.specs.TakenOut.{IsTakenOut}

abbrev pub AreEmpty : List (Vec Taken) → Type 0
AreEmpty outs = All (λ (out : Vec Taken). out.items ≡ []) outs

-- Nothing is taken out of any module.
pub record IsNothing (out : TakenOut) : Type 0 where
  pub objects : AreEmpty out.objects.items
  pub libs : AreEmpty out.libs.items

-- All is kept then but the lists of COMDATs.
abbrev pub KeptIsBare : Type 0
KeptIsBare = (input : LinkInput) (out : TakenOut) → IsTakenOut input out → IsNothing out → Kept input ≡ bare input

-- Of an input without these lists all is kept.
abbrev pub BareIsKept : Type 0
BareIsKept = (input : LinkInput) → Kept (bare input) ≡ bare input

-- The link without these lists is that of the input.
abbrev pub LinksAlike : Type 0
LinksAlike = (input : LinkInput) (out : TakenOut) → IsTakenOut input out → IsNothing out → (l : Link) → IsLinkOf (bare input) l → IsLinkOf input l
