-- Where nothing is taken out of an input, all is kept but the lists of COMDATs, and none of it clashes.
use Rattle.std.specs.Prelude.{◌≡◌, ℕ, Bool, true, false, List, [], ◌∷◌, ◌++◌, Option, Some, None, map, slice_get, if◌then◌else◌, refl}
use Rattle.std.specs.Global.{Vec}
use Rattle.std.specs.List.{flat_map, enumerate_from, AllByRecursion}
use Rattle.std.proofs.Common.{ap, sym, ◌∙◌, subst}
use Rattle.std.proofs.lemmas.List.Elements.{recursion_from_All, All-from_recursion}
use Rattle.obj_types.specs.declared.object.Comdat.{Comdat}
use Rattle.obj_types.specs.declared.object.ObjModule.{ObjModule}
use Rattle.obj_types.specs.declared.input.LinkInput.{LinkInput}
use Rattle.link_model.specs.declared.symbols.Pick.{Pick}
use Rattle.link_model.specs.declared.refusals.ComdatRefusal.{ComdatRefusal}
use Rattle.link_model.specs.Words.{first_of}
use Rattle.link_model.specs.Choosing.{Chosen}
use Rattle.link_model.specs.Kept.{is_seg_of, without, Kept}
use Rattle.link_model.specs.KeptLaws.{HasNoComdats}
use Rattle.link_model.specs.Clash.{Owned, all_modules, clashes_of, comdat_refusal}
use Rattle.link_model.specs.Link.{link_of}
use Rattle.link_model.proofs.AllKept.{none_taken, module_kept, all_is_kept, none_clash}
use Rattle.link_model.proofs.Members.{all_in, in_at}
use Rattle.comdat_core.specs.declared.taking.Taken.{Taken}
use Rattle.comdat_core.specs.declared.taking.TakenOut.{TakenOut}
use Rattle.comdat_core.specs.Taking.{comdat_of, owned_in, AreListsOf}
use Rattle.comdat_core.specs.TakenOut.{IsTakenOut}
use Rattle.comdat_core.specs.Keeping.{without_lists}
use Rattle.comdat_core.specs.Judging.{clash_by}
use Rattle.comdat_core.specs.Aside.{bare, bare_module}
use Rattle.comdat_core.specs.Nothing.{IsNothing, BareIsKept, KeptIsBare, LinksAlike}
use Rattle.comdat_core.proofs.KeptLists.{input_kept}
use Rattle.comdat_core.proofs.Clashes.{clashes_among, pick_clashes, list_for}

-- ---- modules without COMDATs

none_in_bare : (ms : List ObjModule) → AllByRecursion (λ (m : ObjModule). m.comdats ≡ []) (map bare_module ms)
none_in_bare [] = tt
none_in_bare (m ∷ ms) = (refl, none_in_bare ms)

bare_has_none : (input : LinkInput) → HasNoComdats (bare input)
bare_has_none input = record {
  objects = All-from_recursion (λ (m : ObjModule). m.comdats ≡ []) (map bare_module input.objects) (none_in_bare input.objects);
  libs = All-from_recursion (λ (m : ObjModule). m.comdats ≡ []) (map bare_module input.libs) (none_in_bare input.libs);
}

pub bare_is_kept : BareIsKept
bare_is_kept input = all_is_kept (bare input) (bare_has_none input)

-- ---- all is kept

without_nothing : (m : ObjModule) → without (is_seg_of []) m ≡ bare_module m
without_nothing m = ap (λ (cs : List Comdat). without (is_seg_of cs) (bare_module m)) (sym (none_taken [] (bare_module m) refl)) ∙ module_kept [] (bare_module m) refl

abbrev IsEmpty : Vec Taken → Type 0
IsEmpty out = out.items ≡ []

lists_bare : (all : List (ℕ × Owned)) (before ms : List ObjModule) (outs : List (Vec Taken)) → AreListsOf all before ms outs → AllByRecursion IsEmpty outs → without_lists ms outs ≡ map bare_module ms
lists_bare all before [] [] h none = refl
lists_bare all before [] (out ∷ outs) h none = absurd h
lists_bare all before (m ∷ ms) [] h none = absurd h
lists_bare all before (m ∷ ms) (out ∷ outs) h none =
    ap (λ (ts : List Taken). without (is_seg_of (map comdat_of ts)) m ∷ without_lists ms outs) none.0
    ∙ ap (λ (n : ObjModule). n ∷ without_lists ms outs) (without_nothing m)
    ∙ ap (λ (ns : List ObjModule). bare_module m ∷ ns) (lists_bare all (before ++ m ∷ []) ms outs h.1 none.1)

pub kept_is_bare : KeptIsBare
kept_is_bare input out is none =
    let all = owned_in (all_modules input) in
    sym (input_kept input out is)
    ∙ (λ i. record input {
      objects = lists_bare all [] input.objects out.objects.items is.objects (recursion_from_All IsEmpty out.objects.items none.objects) i;
      libs = lists_bare all input.objects input.libs out.libs.items is.libs (recursion_from_All IsEmpty out.libs.items none.libs) i;
    })

-- ---- none clashes

empty_at : (out : TakenOut) (lib : Bool) (k : ℕ) (list : Vec Taken) → IsNothing out → slice_get (if lib then out.libs.items else out.objects.items) k ≡ Some list → list.items ≡ []
empty_at out true k list none e = all_in IsEmpty out.libs.items none.libs (in_at out.libs.items k list e)
empty_at out false k list none e = all_in IsEmpty out.objects.items none.objects (in_at out.objects.items k list e)

none_among : (input : LinkInput) (picks : List Pick) (n : ℕ) (found : Option (Vec Taken)) → ((list : Vec Taken) → found ≡ Some list → list.items ≡ []) → clashes_among input picks n found ≡ []
none_among input picks n None h = refl
none_among input picks n (Some list) h = ap (map (clash_by input picks n)) (h list refl)

none_of : (input : LinkInput) (picks : List Pick) (out : TakenOut) (qs : List (ℕ × Pick)) → IsTakenOut input out → IsNothing out → flat_map (clashes_of input picks) qs ≡ []
none_of input picks out [] is none = refl
none_of input picks out (q ∷ qs) is none =
    ap (λ (t : List (Option ComdatRefusal)). t ++ flat_map (clashes_of input picks) qs)
    (pick_clashes input picks out q.0 q.1 is ∙ none_among input picks q.0 (list_for out q.1) (λ list e. empty_at out q.1.lib q.1.index list none e))
    ∙ none_of input picks out qs is none

none_clashes : (input : LinkInput) (picks : List Pick) (out : TakenOut) → IsTakenOut input out → IsNothing out → comdat_refusal input picks ≡ None
unfolding comdat_refusal
none_clashes input picks out is none = ap first_of (none_of input picks out (enumerate_from 1 picks) is none)

-- ---- the link

pub links_alike : LinksAlike
links_alike input out is none l h =
    let kept : Kept (bare input) ≡ Kept input = bare_is_kept input ∙ sym (kept_is_bare input out is none) in
    let clash : comdat_refusal (bare input) h.picks ≡ comdat_refusal input h.picks =
    none_clash (bare input) h.picks (bare_has_none input) ∙ sym (none_clashes input h.picks out is none) in
    record {
      picks = h.picks;
      chosen = subst (λ (k : LinkInput). Chosen k h.picks) kept h.chosen;
      same = h.same ∙ (λ i. record (link_of (kept i) h.picks) { clash = clash i });
    }
