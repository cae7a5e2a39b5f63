-- The clashes of a link by what is taken out of each module.
use Rattle.std.specs.Prelude.{◌≡◌, ℕ, zero, suc, ◌+◌, ◌<◌, ◌≤◌, Bool, true, false, List, [], ◌∷◌, ◌++◌, Option, Some, None, Err, map, length, take, drop, slice_get, if◌then◌else◌, bytes_eq, not, ◌||◌, ◌&&◌, ◌==◌, refl}
use Rattle.std.specs.Global.{Vec}
use Rattle.std.specs.List.{list_any, flat_map, enumerate_from, AllByRecursion}
use Rattle.std.specs.Option.{option_map_or, option_and_then, option_or}
use Rattle.std.proofs.Common.{ap, sym, ◌∙◌, arith, subst}
use Rattle.std.proofs.Math.ListN.{get_or}
use Rattle.std.proofs.lemmas.List.{drop_more, drop_all}
use Rattle.lx_types.specs.Answers.{Answers}
use Rattle.lx_types.specs.declared.fail.Fail.{Fail}
use Rattle.lx_types.specs.declared.fail.Fail.TheVariants.{Said, NoMemory}
use Rattle.obj_types.specs.declared.object.ObjModule.{ObjModule}
use Rattle.obj_types.specs.declared.input.LinkInput.{LinkInput}
use Rattle.link_model.specs.declared.symbols.Pick.{Pick}
use Rattle.link_model.specs.declared.refusals.ComdatRefusal.{ComdatRefusal}
use Rattle.link_model.specs.Words.{first_of}
use Rattle.link_model.specs.Choosing.{module_of}
use Rattle.link_model.specs.Clash.{all_modules, place_of, clash_with, clash_of, clashes_in, clashes_of, comdat_refusal}
use Rattle.comdat_core.specs.declared.taking.Taken.{Taken}
use Rattle.comdat_core.specs.declared.taking.TakenOut.{TakenOut}
use Rattle.comdat_core.specs.Taking.{placed, comdat_of, owned_in, HasFirst}
use Rattle.comdat_core.specs.TakenOut.{IsTakenOut}
use Rattle.comdat_core.specs.Judging.{clash_by}
use Rattle.comdat_core.proofs.Lists.{AtPlace, list_of_pick}

-- ---- the first that there is, after others

pub first-append : {X : Type 0} (xs ys : List (Option X)) → first_of (xs ++ ys) ≡ option_or (first_of xs) (first_of ys)
first-append [] ys = refl
first-append (None ∷ xs) ys = first-append xs ys
first-append (Some x ∷ xs) ys = refl

-- ---- one module

one_clash : (input : LinkInput) (picks : List Pick) (n : ℕ) (m : ObjModule) (t : Taken) → t.own.owner.now ≡ m → HasFirst (owned_in (all_modules input)) t → clash_of input picks n (record { owner = m; comdat = comdat_of t }) ≡ clash_by input picks n t
one_clash input picks n m t owner first =
    ap (option_and_then (clash_with input picks n (record { owner = m; comdat = comdat_of t }))) first
    ∙ ap (λ (o : ObjModule). clash_with input picks n (record { owner = o; comdat = comdat_of t }) (placed t.first)) (sym owner)

list_clashes : (input : LinkInput) (picks : List Pick) (n : ℕ) (m : ObjModule) (ts : List Taken) → AllByRecursion (λ (t : Taken). t.own.owner.now ≡ m) ts → AllByRecursion (HasFirst (owned_in (all_modules input))) ts
    → map (λ c. clash_of input picks n (record { owner = m; comdat = c })) (map comdat_of ts) ≡ map (clash_by input picks n) ts
list_clashes input picks n m [] owners firsts = refl
list_clashes input picks n m (t ∷ ts) owners firsts =
    ap (λ (o : Option ComdatRefusal). o ∷ map (λ c. clash_of input picks n (record { owner = m; comdat = c })) (map comdat_of ts)) (one_clash input picks n m t owners.0 firsts.0)
    ∙ ap (λ (os : List (Option ComdatRefusal)). clash_by input picks n t ∷ os) (list_clashes input picks n m ts owners.1 firsts.1)

-- ---- what is taken out of one module, one after another

pub all_at : {X : Type 0} (P : X → Type 0) (xs : List X) (i : ℕ) (d x : X) → i < length xs → x ≡ get_or xs i d → AllByRecursion P xs → P x
all_at P [] i d x below is all = absurd (omega (arith, below))
all_at P (y ∷ xs) zero d x below is all = subst P (sym is) all.0
all_at P (y ∷ xs) (suc i) d x below is all = all_at P xs i d x (omega (arith, below)) is all.1

pub none_at : (f : Taken → Option ComdatRefusal) (ts : List Taken) (i : ℕ) (t : Taken) → i < length ts → t ≡ get_or ts i t → f t ≡ None → first_of (map f (drop (i + 1) ts)) ≡ first_of (map f (drop i ts))
none_at f ts i t below is none =
    sym (ap (λ (us : List Taken). first_of (map f us)) (drop_more ts i t below ∙ ap (λ (u : Taken). u ∷ drop (i + 1) ts) (sym is))
    ∙ ap (λ (o : Option ComdatRefusal). first_of (o ∷ map f (drop (i + 1) ts))) none)

pub none_after : (f : Taken → Option ComdatRefusal) (ts : List Taken) (i : ℕ) → length ts ≤ i → first_of (map f (drop i ts)) ≡ None
none_after f ts i past = ap (λ (us : List Taken). first_of (map f us)) (drop_all i ts past)

-- ---- one pick

abbrev pub clashes_among : LinkInput → List Pick → ℕ → Option (Vec Taken) → List (Option ComdatRefusal)
clashes_among input picks n found = option_map_or (λ out. map (clash_by input picks n) out.items) found []

pick_by : (input : LinkInput) (picks : List Pick) (n place : ℕ) (o : Option ObjModule) (found : Option (Vec Taken)) → AtPlace (owned_in (all_modules input)) (take place (all_modules input)) o found → option_map_or (clashes_in input picks n place) o [] ≡ clashes_among input picks n found
pick_by input picks n place None None h = refl
pick_by input picks n place None (Some out) h = absurd h
pick_by input picks n place (Some m) None h = absurd h
pick_by input picks n place (Some m) (Some out) h =
    ap (map (λ c. clash_of input picks n (record { owner = m; comdat = c }))) (sym h.comdats) ∙ list_clashes input picks n m out.items h.owners h.firsts

pub pick_clashes : (input : LinkInput) (picks : List Pick) (out : TakenOut) (n : ℕ) (pick : Pick) → IsTakenOut input out → clashes_of input picks (n, pick) ≡ clashes_among input picks n (slice_get (if pick.lib then out.libs.items else out.objects.items) pick.index)
pick_clashes input picks out n pick h =
    pick_by input picks n (place_of input pick) (module_of input pick) (slice_get (if pick.lib then out.libs.items else out.objects.items) pick.index) (list_of_pick input out pick h)

-- ---- the picks in order

-- The clash of the picks from i on.
abbrev pub clash_from : LinkInput → List Pick → ℕ → Option ComdatRefusal
clash_from input picks i = first_of (flat_map (clashes_of input picks) (enumerate_from (i + 1) (drop i picks)))

pub clash_from_begin : (input : LinkInput) (picks : List Pick) → clash_from input picks 0 ≡ comdat_refusal input picks
unfolding comdat_refusal
clash_from_begin input picks = refl

clash_next : (input : LinkInput) (picks : List Pick) (i : ℕ) (d : Pick) → i < length picks → clash_from input picks i ≡ option_or (first_of (clashes_of input picks (i + 1, get_or picks i d))) (clash_from input picks (i + 1))
clash_next input picks i d below =
    ap (λ (ps : List Pick). first_of (flat_map (clashes_of input picks) (enumerate_from (i + 1) ps))) (drop_more picks i d below)
    ∙ first-append (clashes_of input picks (i + 1, get_or picks i d)) (flat_map (clashes_of input picks) (enumerate_from (i + 1 + 1) (drop (i + 1) picks)))

-- What is taken out of the module of a pick.
abbrev pub list_for : TakenOut → Pick → Option (Vec Taken)
list_for out pick = slice_get (if pick.lib then out.libs.items else out.objects.items) pick.index

clash_here : (input : LinkInput) (picks : List Pick) (out : TakenOut) (i : ℕ) (d : Pick) → IsTakenOut input out → i < length picks → clash_from input picks i ≡ comdat_refusal input picks
    → comdat_refusal input picks ≡ option_or (first_of (clashes_among input picks (i + 1) (list_for out (get_or picks i d)))) (clash_from input picks (i + 1))
clash_here input picks out i d h below before =
    sym before ∙ clash_next input picks i d below
    ∙ ap (λ (os : List (Option ComdatRefusal)). option_or (first_of os) (clash_from input picks (i + 1))) (pick_clashes input picks out (i + 1) (get_or picks i d) h)

clash_with_list : (input : LinkInput) (picks : List Pick) (out : TakenOut) (i n : ℕ) (d : Pick) (list : Vec Taken) (ts : List Taken) → IsTakenOut input out → i < length picks → clash_from input picks i ≡ comdat_refusal input picks
    → Some list ≡ list_for out (get_or picks i d) → n ≡ i + 1 → ts ≡ list.items → comdat_refusal input picks ≡ option_or (first_of (map (clash_by input picks n) ts)) (clash_from input picks (i + 1))
clash_with_list input picks out i n d list ts h below before found number items =
    clash_here input picks out i d h below before
    ∙ ap (λ (o : Option (Vec Taken)). option_or (first_of (clashes_among input picks (i + 1) o)) (clash_from input picks (i + 1))) (sym found)
    ∙ ap (λ (xs : List Taken). option_or (first_of (map (clash_by input picks (i + 1)) xs)) (clash_from input picks (i + 1))) (sym items)
    ∙ ap (λ (k : ℕ). option_or (first_of (map (clash_by input picks k) ts)) (clash_from input picks (i + 1))) (sym number)

-- The first clash of its list is that of the link.
pub refused_at : (input : LinkInput) (picks : List Pick) (out : TakenOut) (i n : ℕ) (d : Pick) (list : Vec Taken) (ts : List Taken) → IsTakenOut input out → i < length picks → clash_from input picks i ≡ comdat_refusal input picks
    → Some list ≡ list_for out (get_or picks i d) → n ≡ i + 1 → ts ≡ list.items → (r : ComdatRefusal) → first_of (map (clash_by input picks n) ts) ≡ Some r → comdat_refusal input picks ≡ Some r
refused_at input picks out i n d list ts h below before found number items r clash =
    clash_with_list input picks out i n d list ts h below before found number items ∙ ap (λ (o : Option ComdatRefusal). option_or o (clash_from input picks (i + 1))) clash

pub passed_at : (input : LinkInput) (picks : List Pick) (out : TakenOut) (i n : ℕ) (d : Pick) (list : Vec Taken) (ts : List Taken) → IsTakenOut input out → i < length picks → clash_from input picks i ≡ comdat_refusal input picks
    → Some list ≡ list_for out (get_or picks i d) → n ≡ i + 1 → ts ≡ list.items → first_of (map (clash_by input picks n) ts) ≡ None → clash_from input picks (i + 1) ≡ comdat_refusal input picks
passed_at input picks out i n d list ts h below before found number items none =
    sym (clash_with_list input picks out i n d list ts h below before found number items ∙ ap (λ (o : Option ComdatRefusal). option_or o (clash_from input picks (i + 1))) none)

pub absent_at : (input : LinkInput) (picks : List Pick) (out : TakenOut) (i : ℕ) (d : Pick) → IsTakenOut input out → i < length picks → clash_from input picks i ≡ comdat_refusal input picks
    → None ≡ list_for out (get_or picks i d) → clash_from input picks (i + 1) ≡ comdat_refusal input picks
absent_at input picks out i d h below before found =
    sym (clash_here input picks out i d h below before ∙ ap (λ (o : Option (Vec Taken)). option_or (first_of (clashes_among input picks (i + 1) o)) (clash_from input picks (i + 1))) (sym found))

-- The refusal of one call as that of another.
pub as_refused : {A R : Type 0} (f : Fail R) (P P′ : A → Type 0) (Q Q′ : R → Type 0) → ((r : R) → Q r → Q′ r) → Answers {A = A} (Err f) P Q → Answers {A = A} (Err f) P′ Q′
as_refused (Said r) P P′ Q Q′ f h = f r h
as_refused NoMemory P P′ Q Q′ f h = tt

-- ---- the bytes of two lists

pub other_bytes : (f g : ℕ → ℕ) (xs : List ℕ) → not (bytes_eq (map f xs) (map g xs)) ≡ list_any (λ x. not (f x == g x)) xs
other_bytes f g [] = refl
other_bytes f g (x ∷ xs) = by (f x == g x) (bytes_eq (map f xs) (map g xs)) (list_any (λ x. not (f x == g x)) xs) (other_bytes f g xs)
  where
    by : (b c d : Bool) → not c ≡ d → not (b && c) ≡ (not b || d)
    by true c d e = e
    by false c d e = refl
