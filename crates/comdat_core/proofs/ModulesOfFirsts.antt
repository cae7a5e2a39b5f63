-- The modules of COMDATs that are taken out, and of the first ones of their names, stand at their places.
use Rattle.std.specs.Prelude.{◌≡◌, ℕ, zero, suc, ◌+◌, Bool, true, false, cond, List, [], ◌∷◌, ◌++◌, Option, Some, None, map, find, length, take, slice_get, if◌then◌else◌, refl}
use Rattle.std.specs.Global.{Vec}
use Rattle.std.specs.List.{flat_map, enumerate_from, AllByRecursion}
use Rattle.std.specs.Option.{option_or}
use Rattle.std.proofs.Common.{ap, sym, ◌∙◌, arith, subst}
use Rattle.std.proofs.lemmas.Option.{none-some, same_Some}
use Rattle.std.proofs.lemmas.List.Folds.{find-append}
use Rattle.obj_types.specs.declared.object.Comdat.{Comdat}
use Rattle.obj_types.specs.declared.object.ObjModule.{ObjModule}
use Rattle.obj_types.specs.declared.input.LinkInput.{LinkInput}
use Rattle.link_model.specs.declared.symbols.Pick.{Pick}
use Rattle.link_model.specs.Choosing.{module_of}
use Rattle.link_model.specs.Kept.{shared}
use Rattle.link_model.specs.Clash.{Owned, owned_by, all_modules, place_of}
use Rattle.comdat_core.specs.declared.taking.Taken.{Taken}
use Rattle.comdat_core.specs.declared.taking.TakenOut.{TakenOut}
use Rattle.comdat_core.specs.Taking.{owned_in, first_called, HasFirst, placed}
use Rattle.comdat_core.specs.TakenOut.{IsTakenOut}
use Rattle.comdat_core.specs.ModuleData.{AreAt}
use Rattle.comdat_core.proofs.Lists.{AtPlace, list_of_pick}

-- ---- a COMDAT that is found

-- Its module is among these, of which the first is at place s.
abbrev IsFrom : ℕ → List ObjModule → ℕ × Owned → Type 0
IsFrom s ms x = (k : ℕ) × (x.0 ≡ s + k) × (slice_get ms k ≡ Some x.1.owner)

in_first : (test : ℕ × Owned → Bool) (s : ℕ) (m : ObjModule) (ms : List ObjModule) (cs : List Comdat) (x : ℕ × Owned) → find test (map (λ c. (s, record { owner = m; comdat = c })) cs) ≡ Some x → IsFrom s (m ∷ ms) x
in_first test s m ms [] x e = absurd (none-some x e)
in_first test s m ms (c ∷ cs) x e = by (test (s, record { owner = m; comdat = c })) (in_first test s m ms cs x) e
  where
    by : (b : Bool) → (find test (map (λ c. (s, record { owner = m; comdat = c })) cs) ≡ Some x → IsFrom s (m ∷ ms) x)
        → cond b (Some (s, record { owner = m; comdat = c })) (find test (map (λ c. (s, record { owner = m; comdat = c })) cs)) ≡ Some x → IsFrom s (m ∷ ms) x
    by true rest e = subst (IsFrom s (m ∷ ms)) (same_Some (s, record { owner = m; comdat = c }) x e) (0, omega arith, refl)
    by false rest e = rest e

in_one : (test : ℕ × Owned → Bool) (s : ℕ) (ms : List ObjModule) (x : ℕ × Owned) → find test (flat_map owned_by (enumerate_from s ms)) ≡ Some x → IsFrom s ms x
in_one test s [] x e = absurd (none-some x e)
in_one test s (m ∷ ms) x e =
    by (find test (owned_by (s, m))) (in_one test (s + 1) ms x) (in_first test s m ms (shared m) x) (sym (find-append test (owned_by (s, m)) (flat_map owned_by (enumerate_from (s + 1) ms))) ∙ e)
  where
    by : (o : Option (ℕ × Owned)) → (find test (flat_map owned_by (enumerate_from (s + 1) ms)) ≡ Some x → IsFrom (s + 1) ms x) → (o ≡ Some x → IsFrom s (m ∷ ms) x)
        → option_or o (find test (flat_map owned_by (enumerate_from (s + 1) ms))) ≡ Some x → IsFrom s (m ∷ ms) x
    by (Some y) others own e = own e
    by None others own e = let rest = others e in (suc rest.0, omega (arith, rest.1), rest.2)

first_at : (ms : List ObjModule) (name : List ℕ) (x : ℕ × Owned) → first_called name (owned_in ms) ≡ Some x → slice_get ms x.0 ≡ Some x.1.owner
first_at ms name x e =
    let from = in_one _ 0 ms x e in
    let at : x.0 ≡ from.0 = omega (arith, from.1) in
    ap (slice_get ms) at ∙ from.2

-- ---- what is taken out of a module

list_at : (ms : List ObjModule) (place : ℕ) (m : ObjModule) (ts : List Taken) → slice_get ms place ≡ Some m → AllByRecursion (λ (t : Taken). t.own.owner.now ≡ m) ts → AllByRecursion (HasFirst (owned_in ms)) ts → AllByRecursion (AreAt ms place) ts
list_at ms place m [] at owners firsts = tt
list_at ms place m (t ∷ ts) at owners firsts =
    ((at ∙ ap (λ (o : ObjModule). Some o) (sym owners.0), first_at ms t.own.comdat.now.name (placed t.first) firsts.0), list_at ms place m ts at owners.1 firsts.1)

-- ---- by picks

left_at : (xs ys : List ObjModule) (k : ℕ) (m : ObjModule) → slice_get xs k ≡ Some m → slice_get (xs ++ ys) k ≡ Some m
left_at [] ys k m e = absurd (none-some m e)
left_at (x ∷ xs) ys zero m e = e
left_at (x ∷ xs) ys (suc k) m e = left_at xs ys k m e

right_at : (xs ys : List ObjModule) (k : ℕ) → slice_get (xs ++ ys) (length xs + k) ≡ slice_get ys k
right_at [] ys k = ap (slice_get ys) (let e : 0 + k ≡ k = omega arith in e)
right_at (x ∷ xs) ys k = ap (slice_get (x ∷ (xs ++ ys))) (let e : length (x ∷ xs) + k ≡ suc (length xs + k) = omega arith in e) ∙ right_at xs ys k

module_at : (input : LinkInput) (lib : Bool) (index : ℕ) (m : ObjModule) → slice_get (if lib then input.libs else input.objects) index ≡ Some m → slice_get (all_modules input) (if lib then length input.objects + index else index) ≡ Some m
module_at input true index m e = right_at input.objects input.libs index ∙ e
module_at input false index m e = left_at input.objects input.libs index m e

list_by : (input : LinkInput) (place : ℕ) (o : Option ObjModule) (found : Option (Vec Taken)) (list : Vec Taken) → ((m : ObjModule) → o ≡ Some m → slice_get (all_modules input) place ≡ Some m) → AtPlace (owned_in (all_modules input)) (take place (all_modules input)) o found → Some list ≡ found → AllByRecursion (AreAt (all_modules input) place) list.items
list_by input place None None list is h e = absurd (none-some list (sym e))
list_by input place None (Some out) list is h e = absurd h
list_by input place (Some m) None list is h e = absurd h
list_by input place (Some m) (Some out) list is h e =
    subst (λ (v : Vec Taken). AllByRecursion (AreAt (all_modules input) place) v.items) (sym (same_Some list out e)) (list_at (all_modules input) place m out.items (is m refl) h.owners h.firsts)

-- Those that are taken out of the module of a pick.
pub taken_at : (input : LinkInput) (out : TakenOut) (pick : Pick) (place : ℕ) (list : Vec Taken) (ts : List Taken) → IsTakenOut input out → place ≡ place_of input pick → Some list ≡ slice_get (if pick.lib then out.libs.items else out.objects.items) pick.index → ts ≡ list.items → AllByRecursion (AreAt (all_modules input) place) ts
taken_at input out pick place list ts h at found items =
    subst (λ (n : ℕ). AllByRecursion (AreAt (all_modules input) n) ts) (sym at)
    (subst (AllByRecursion (AreAt (all_modules input) (place_of input pick))) (sym items)
    (list_by input (place_of input pick) (module_of input pick) _ list (λ m. module_at input pick.lib pick.index m) (list_of_pick input out pick h) found))
