-- Modules without their lists are what is kept of them.
use Rattle.std.specs.Prelude.{◌≡◌, ℕ, List, [], ◌∷◌, ◌++◌, length, refl}
use Rattle.std.specs.Global.{Vec}
use Rattle.std.proofs.Common.{ap, sym, ◌∙◌, arith}
use Rattle.std.proofs.lemmas.List.{append-nil}
use Rattle.obj_types.specs.declared.object.Comdat.{Comdat}
use Rattle.obj_types.specs.declared.object.ObjModule.{ObjModule}
use Rattle.obj_types.specs.declared.input.LinkInput.{LinkInput}
use Rattle.link_model.specs.Kept.{is_seg_of, without, kept_module, kept_after, Kept}
use Rattle.link_model.specs.Clash.{Owned, all_modules}
use Rattle.comdat_core.specs.declared.taking.Taken.{Taken}
use Rattle.comdat_core.specs.declared.taking.TakenOut.{TakenOut}
use Rattle.comdat_core.specs.Taking.{owned_in, AreListsOf}
use Rattle.comdat_core.specs.TakenOut.{IsTakenOut}
use Rattle.comdat_core.specs.Keeping.{without_lists}

lists_kept : (all : List (ℕ × Owned)) (before ms : List ObjModule) (outs : List (Vec Taken)) → AreListsOf all before ms outs → without_lists ms outs ≡ kept_after before ms
lists_kept all before [] [] h = refl
lists_kept all before [] (out ∷ outs) h = absurd h
lists_kept all before (m ∷ ms) [] h = absurd h
lists_kept all before (m ∷ ms) (out ∷ outs) h =
    ap (λ (cs : List Comdat). without (is_seg_of cs) m ∷ without_lists ms outs) h.0.comdats
    ∙ ap (λ (ns : List ObjModule). kept_module before m ∷ ns) (lists_kept all (before ++ m ∷ []) ms outs h.1)

pub input_kept : (input : LinkInput) (out : TakenOut) → IsTakenOut input out → record input { objects = without_lists input.objects out.objects.items; libs = without_lists input.libs out.libs.items } ≡ Kept input
unfolding Kept
input_kept input out h = λ i. record input {
  objects = lists_kept (owned_in (all_modules input)) [] input.objects out.objects.items h.objects i;
  libs = lists_kept (owned_in (all_modules input)) input.objects input.libs out.libs.items h.libs i;
}

-- ---- no module or no list is left

pub no_modules : (done all : List ObjModule) (ms : List ObjModule) (outs : List (Vec Taken)) → length ms ≡ 0 → done ++ without_lists ms outs ≡ all → done ≡ all
no_modules done all [] outs none is = sym (append-nil done) ∙ is
no_modules done all (m ∷ ms) outs none is = absurd (omega (arith, none))

pub no_lists : (done all : List ObjModule) (ms : List ObjModule) (outs : List (Vec Taken)) → length outs ≡ 0 → done ++ without_lists ms outs ≡ all → done ≡ all
no_lists done all [] outs none is = sym (append-nil done) ∙ is
no_lists done all (m ∷ ms) [] none is = sym (append-nil done) ∙ is
no_lists done all (m ∷ ms) (out ∷ outs) none is = absurd (omega (arith, none))
