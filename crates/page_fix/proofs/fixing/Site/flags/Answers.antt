use Rattle.std.proofs.Common.{◌≡◌, ◌∙◌, ◌-◌, Option, None, option_copied, slice_get, unwrap_or, sym, ap}
use Rattle.std.proofs.lemmas.Option.{unwrap_or-slice_get}
use Rattle.lx_types.specs.declared.object.ObjHead.{ObjHead}
use Rattle.lx_types.specs.declared.parts.Parts.{Parts}
use Rattle.lx_types.specs.Parts.{no_object, object_of}
use Rattle.page_fix.proofs.fixing.Site.flags.Goals as goal

pub returns-in-None : goal.returns-in-None
returns-in-None c =
    let objects = c.module.result.now.objects in
    let number = c.args.spot.object - 1 in
    let none : slice_get objects number ≡ None = sym c.object.ensures ∙ ap option_copied c.in-None.is in
    ap (λ (o : Option ObjHead). (unwrap_or o no_object).flags) (sym none)
    ∙ ap (λ (o : ObjHead). o.flags) (unwrap_or-slice_get objects number no_object)
    ∙ ap (λ (p : Parts). (object_of p c.args.spot.object).flags) c.module.ensures
