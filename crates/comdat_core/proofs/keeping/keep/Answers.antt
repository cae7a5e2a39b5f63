use Rattle.std.proofs.Common.{◌≡◌, ◌∙◌, List, ap}
use Rattle.std.specs.Global.{Vec}
use Rattle.obj_types.specs.declared.object.ObjModule.{ObjModule}
use Rattle.comdat_core.specs.declared.taking.Taken.{Taken}
use Rattle.comdat_core.specs.Keeping.{without_lists}
use Rattle.comdat_core.proofs.KeptLists.{input_kept}
use Rattle.comdat_core.proofs.keeping.keep.Goals as goal

pub returns : goal.returns
returns c =
    let input = c.args.input.now in
    let out = c.args.out.now in
    let objects : c.in_ok-kept_modules.field-0 ≡ without_lists input.objects out.objects.items =
    c.in_ok-kept_modules.ensures ∙ ap (λ (ms : List ObjModule). without_lists ms c.as_slice-2.result.now) c.as_slice.ensures ∙ ap (λ (outs : List (Vec Taken)). without_lists input.objects outs) c.as_slice-2.ensures.value in
    let libs : c.in_ok-kept_modules-2.field-0 ≡ without_lists input.libs out.libs.items =
    c.in_ok-kept_modules-2.ensures ∙ ap (λ (ms : List ObjModule). without_lists ms c.as_slice-4.result.now) c.as_slice-3.ensures ∙ ap (λ (outs : List (Vec Taken)). without_lists input.libs outs) c.as_slice-4.ensures.value in
    (λ i. record { objects = objects i; libs = libs i; def = c.in_ok-copied_def.ensures i; stem = c.in_ok-copied.ensures i }) ∙ input_kept input out c.requires
