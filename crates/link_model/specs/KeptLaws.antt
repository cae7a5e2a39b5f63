-- Laws of what is kept of an input.
use Rattle.std.specs.Prelude.{◌≡◌, List, [], None}
use Rattle.std.specs.List.{All}
use Rattle.obj_types.specs.declared.object.ObjModule.{ObjModule}
use Rattle.obj_types.specs.declared.input.LinkInput.{LinkInput}
use Rattle.obj_types.specs.Input.{WholeInput}
use Rattle.link_model.specs.declared.symbols.Pick.{Pick}
use Rattle.link_model.specs.Kept.{Kept}
use Rattle.link_model.specs.Clash.{comdat_refusal}

-- What is kept of a whole input is whole.
abbrev pub KeptIsWhole : Type 0
KeptIsWhole = (input : LinkInput) → WholeInput input → WholeInput (Kept input)

-- No module has COMDATs.
pub record HasNoComdats (input : LinkInput) : Type 0 where
  pub objects : All (λ (m : ObjModule). m.comdats ≡ []) input.objects
  pub libs : All (λ (m : ObjModule). m.comdats ≡ []) input.libs

-- All of such an input is kept, and none of it clashes.
abbrev pub AllIsKept : Type 0
AllIsKept = (input : LinkInput) → HasNoComdats input → Kept input ≡ input

abbrev pub NoneClash : Type 0
NoneClash = (input : LinkInput) (picks : List Pick) → HasNoComdats input → comdat_refusal input picks ≡ None
