use Rattle.std.proofs.Common.{◌≡◌, ◌∙◌, ◌-◌, Option, None, option_copied, slice_get, unwrap_or, sym, ap}
use Rattle.std.proofs.lemmas.Option.{unwrap_or-slice_get}
use Rattle.lx_types.specs.declared.object.ObjHead.{ObjHead}
use Rattle.lx_types.specs.declared.parts.Parts.{Parts}
use Rattle.lx_types.specs.Object.{class_of}
use Rattle.lx_types.specs.Parts.{no_object, object_of}
use Rattle.load_model.specs.Modules.{object_at}
use Rattle.load_core.proofs.bytes.class_at.Goals as goal

pub returns-in-None : goal.returns-in-None
unfolding object_at
returns-in-None c =
    let objects = c.module.result.now.objects in
    let number = c.args.object - 1 in
    let none : slice_get objects number ≡ None = sym c.object.ensures ∙ ap option_copied c.in-None.is in
    ap (λ (o : Option ObjHead). class_of (unwrap_or o no_object)) (sym none)
    ∙ ap class_of (unwrap_or-slice_get objects number no_object)
    ∙ ap (λ (p : Parts). class_of (object_of p c.args.object)) c.module.ensures
