-- The lists of COMDATs of modules, taken and put back one after another.
use Rattle.std.specs.Prelude.{◌≡◌, ℕ, zero, suc, ◌+◌, ◌<◌, List, [], ◌∷◌, ◌++◌, length, map, take, drop, refl}
use Rattle.std.proofs.Common.{ap, sym, ◌∙◌, arith, add-one}
use Rattle.std.proofs.Math.ListN.{get_or, set}
use Rattle.std.proofs.lemmas.List.{take_more, take-append-drop, map-append, nil_from_length}
use Rattle.obj_types.specs.declared.object.Comdat.{Comdat}
use Rattle.obj_types.specs.declared.object.ObjModule.{ObjModule}
use Rattle.obj_types.specs.declared.input.LinkInput.{LinkInput}
use Rattle.comdat_core.specs.declared.aside.Aside.{Aside}
use Rattle.comdat_core.specs.Aside.{bare, bare_module, lists_of, with_lists, IsAsideOf}

-- ---- the list of one more module is taken

abbrev first_bare : List ObjModule → ℕ → List ObjModule
first_bare ms i = map bare_module (take i ms) ++ drop i ms

-- It has its list still.
still_there : (ms : List ObjModule) (i : ℕ) (d : ObjModule) → i < length ms → get_or (first_bare ms i) i d ≡ get_or ms i d
still_there [] i d below = absurd (omega (arith, below))
still_there (m ∷ ms) zero d below = refl
still_there (m ∷ ms) (suc i) d below = still_there ms i d (omega (arith, below))

bare_one : (ms : List ObjModule) (i : ℕ) (d : ObjModule) → i < length ms → set (first_bare ms i) i (bare_module (get_or ms i d)) ≡ first_bare ms (suc i)
bare_one [] i d below = absurd (omega (arith, below))
bare_one (m ∷ ms) zero d below = refl
bare_one (m ∷ ms) (suc i) d below = ap (λ (ns : List ObjModule). bare_module m ∷ ns) (bare_one ms i d (omega (arith, below)))

pub bare_next : (ms now : List ObjModule) (i : ℕ) (m : ObjModule) → now ≡ first_bare ms i → i < length ms → set now i (bare_module (get_or now i m)) ≡ first_bare ms (i + 1)
bare_next ms now i m was below =
    ap (λ (ns : List ObjModule). set ns i (bare_module (get_or ns i m))) was
    ∙ ap (λ (n : ObjModule). set (first_bare ms i) i (bare_module n)) (still_there ms i m below)
    ∙ bare_one ms i m below ∙ ap (first_bare ms) (sym (add-one i))

pub lists_next : (ms now : List ObjModule) (i : ℕ) (m : ObjModule) (old new : List (List Comdat)) → now ≡ first_bare ms i → i < length ms → old ≡ lists_of (take i ms) → new ≡ old ++ (get_or now i m).comdats ∷ [] → new ≡ lists_of (take (i + 1) ms)
lists_next ms now i m old new was below before more =
    more ∙ ap (λ (ls : List (List Comdat)). ls ++ (get_or now i m).comdats ∷ []) before
    ∙ ap (λ (n : ObjModule). lists_of (take i ms) ++ n.comdats ∷ []) (ap (λ (ns : List ObjModule). get_or ns i m) was ∙ still_there ms i m below)
    ∙ sym (ap lists_of (take_more ms i m below) ∙ map-append (λ (n : ObjModule). n.comdats) (take i ms) (get_or ms i m ∷ []))

-- ---- one more list is put back

-- Modules of which the first so many have theirs, with what is left.
abbrev pub put_from : ℕ → List ObjModule → List (List Comdat) → List ObjModule
put_from i ms lists = take i ms ++ with_lists (drop i ms) lists

put_one : (ms : List ObjModule) (i : ℕ) (d : ObjModule) (cs : List Comdat) (lists : List (List Comdat)) → i < length ms → put_from (suc i) (set ms i (record (get_or ms i d) { comdats = cs })) lists ≡ put_from i ms (cs ∷ lists)
put_one [] i d cs lists below = absurd (omega (arith, below))
put_one (m ∷ ms) zero d cs lists below = refl
put_one (m ∷ ms) (suc i) d cs lists below = ap (λ (ns : List ObjModule). m ∷ ns) (put_one ms i d cs lists (omega (arith, below)))

pub put_next : (ms all : List ObjModule) (i : ℕ) (m : ObjModule) (cs : List Comdat) (old new : List (List Comdat)) → i < length ms → put_from i ms old ≡ all → old ≡ cs ∷ new → put_from (i + 1) (set ms i (record (get_or ms i m) { comdats = cs })) new ≡ all
put_next ms all i m cs old new below before next =
    ap (λ (k : ℕ). put_from k (set ms i (record (get_or ms i m) { comdats = cs })) new) (add-one i) ∙ put_one ms i m cs new below
    ∙ ap (put_from i ms) (sym next) ∙ before

with_none : (ms : List ObjModule) → with_lists ms [] ≡ ms
with_none [] = refl
with_none (m ∷ ms) = refl

put_none : (ms : List ObjModule) (i : ℕ) → put_from i ms [] ≡ ms
put_none ms i = ap (λ (ns : List ObjModule). take i ms ++ ns) (with_none (drop i ms)) ∙ take-append-drop i ms

-- Where none is left.
pub put_past : (ms all : List ObjModule) (i : ℕ) (old new : List (List Comdat)) → put_from i ms old ≡ all → length old ≡ 0 → old ≡ new → put_from (i + 1) ms new ≡ all
put_past ms all i old new before none same =
    let was : old ≡ [] = nil_from_length old none in
    ap (put_from (i + 1) ms) (sym same ∙ was) ∙ put_none ms (i + 1) ∙ sym (ap (put_from i ms) was ∙ put_none ms i) ∙ before

-- ---- all are put back

whole_again : (ms : List ObjModule) → with_lists (map bare_module ms) (lists_of ms) ≡ ms
whole_again [] = refl
whole_again (m ∷ ms) = ap (λ (ns : List ObjModule). m ∷ ns) (whole_again ms)

pub put_again : (input whole : LinkInput) (aside : Aside) → input ≡ bare whole → IsAsideOf whole aside → record input { objects = with_lists input.objects aside.objects.items; libs = with_lists input.libs aside.libs.items } ≡ whole
put_again input whole aside is of =
    (λ i. record (is i) { objects = with_lists (is i).objects (of.objects i); libs = with_lists (is i).libs (of.libs i) })
    ∙ (λ i. record whole { objects = whole_again whole.objects i; libs = whole_again whole.libs i })
