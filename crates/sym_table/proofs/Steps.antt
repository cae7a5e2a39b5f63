-- What waits when one more module is chosen.
use Rattle.std.specs.Prelude.{◌≡◌, ℕ, suc, ◌+◌, ◌≤◌, Bool, true, false, cond, not, ◌||◌, ◌&&◌, ◌==◌, List, [], ◌∷◌, ◌++◌, Option, Some, None, map, filter, slice_get, is_some, bytes_eq, refl}
use Rattle.std.specs.List.{list_any, filter_map, flat_map, cons_option, enumerate_from}
use Rattle.std.proofs.Common.{ap, sym, ◌∙◌, arith, true≢false, append_assoc}
use Rattle.std.proofs.Math.Bool.{and-false}
use Rattle.std.proofs.lemmas.Bool.{and_parts, eqb-true, eq-eqb, false_from_ne_true}
use Rattle.std.proofs.lemmas.List.{append-nil}
use Rattle.std.proofs.lemmas.List.Elements.{filter_map-append}
use Rattle.std.proofs.lemmas.List.Folds.{list_any-append}
use Rattle.lx_types.proofs.Lists.{any_map, any_filter, any_flat_map}
use Rattle.obj_types.specs.declared.object.ObjModule.{ObjModule}
use Rattle.obj_types.specs.declared.definition.DefFile.{DefFile}
use Rattle.obj_types.specs.declared.input.LinkInput.{LinkInput}
use Rattle.obj_types.specs.declared.symbol.Ext.{Ext}
use Rattle.link_model.specs.declared.symbols.Pick.{Pick}
use Rattle.link_model.specs.Words.{option_any}
use Rattle.link_model.specs.Choosing.{wanted, defines, is_defined, undefined, module_of, modules_of, object_picks}
use Rattle.link_model.proofs.Members.{In, here, there, any_in}
use Rattle.name_table.specs.Entries.{value_named}
use Rattle.sym_table.specs.Leading.{leader, waits, awaits}
use Rattle.sym_table.proofs.Waiting.{leads, led, placed, earlier}

-- ---- tests of lists

any_alike : {X : Type 0} (f g : X → Bool) (xs : List X) → ((x : X) → In x xs → f x ≡ g x) → list_any f xs ≡ list_any g xs
any_alike f g [] same = refl
any_alike f g (x ∷ xs) same = ap (λ (b : Bool). b || list_any f xs) (same x here) ∙ ap (λ (b : Bool). g x || b) (any_alike f g xs (λ y i. same y (there i)))

any_none : {X : Type 0} (f : X → Bool) (xs : List X) → ((x : X) → f x ≡ false) → list_any f xs ≡ false
any_none f [] never = refl
any_none f (x ∷ xs) never = ap (λ (b : Bool). b || list_any f xs) (never x) ∙ any_none f xs never

flat_map-append : {X Y : Type 0} (f : X → List Y) (xs ys : List X) → flat_map f (xs ++ ys) ≡ flat_map f xs ++ flat_map f ys
flat_map-append f [] ys = refl
flat_map-append {X} {Y} f (x ∷ xs) ys = ap (λ (t : List Y). f x ++ t) (flat_map-append f xs ys) ∙ sym (append_assoc (f x) (flat_map f xs) (flat_map f ys))

-- ---- one more module

pub modules_more : (input : LinkInput) (picks : List Pick) (j : ℕ) (m : ObjModule) → slice_get input.libs j ≡ Some m → modules_of input (picks ++ record { lib = true; index = j } ∷ []) ≡ modules_of input picks ++ m ∷ []
modules_more input picks j m at =
    filter_map-append (module_of input) picks (record { lib = true; index = j } ∷ []) ∙ ap (λ (o : Option ObjModule). modules_of input picks ++ cons_option o []) at

swapped : (a b c : Bool) → ((a || (b || false)) || c) ≡ ((a || c) || b)
swapped true b c = refl
swapped false true true = refl
swapped false true false = refl
swapped false false true = refl
swapped false false false = refl

pub defined_more : (ms : List ObjModule) (m : ObjModule) (def : DefFile) (name : List ℕ) → is_defined (ms ++ m ∷ []) def name ≡ (is_defined ms def name || defines m name)
defined_more ms m def name =
    let own : Bool = list_any (λ i. bytes_eq i.name name) def.imports in
    ap (λ (b : Bool). b || own) (list_any-append (λ (o : ObjModule). defines o name) ms (m ∷ [])) ∙ swapped (list_any (λ (o : ObjModule). defines o name) ms) (defines m name) own

-- A name waits for k, by whether it is defined.
abbrev pub open_for : LinkInput → (List ℕ → Bool) → ℕ → List ℕ → Bool
open_for input defined k name = not (defined name) && leads input k name

no_two : (d e l : Bool) → (d ≡ false → l ≡ true → e ≡ false) → (not (d || e) && l) ≡ (not d && l)
no_two true e l h = refl
no_two false e false h = and-false (not e)
no_two false true true h = absurd (true≢false (h refl refl))
no_two false false true h = refl

-- What the names that were wanted wait for.
still : (input : LinkInput) (picks : List Pick) (j : ℕ) (m : ObjModule) (k : ℕ) (b : Bool) → (k == j) ≡ b → slice_get input.libs j ≡ Some m → ((i : ℕ) → waits input picks i ≡ true → j ≤ i) →
    list_any (open_for input (λ name. is_defined (modules_of input picks) input.def name || defines m name) k) (flat_map wanted (modules_of input picks)) ≡ (not b && waits input picks k)
still input picks j m k true same at least =
    let defined : List ℕ → Bool = is_defined (modules_of input picks) input.def in
    any_none (open_for input (λ name. defined name || defines m name) k) (flat_map wanted (modules_of input picks))
    (λ name. false_from_ne_true (open_for input (λ n. defined n || defines m n) k name) (λ is.
    let both = and_parts (not (defined name || defines m name)) (leads input k name) is in
    let r = placed (λ (o : ObjModule). defines o name) 0 input.libs k (led (leader input.libs name) k both.1) in
    let n = r.number in
    let at_j : k ≡ j = eqb-true k j same in
    let place : r.place ≡ j = omega (arith, n, at_j) in
    let one : m ≡ r.item = only m r.item (sym at ∙ (ap (slice_get input.libs) (sym place) ∙ r.is)) in
    let own : defines m name ≡ true = ap (λ (o : ObjModule). defines o name) one ∙ r.passes in
    true≢false (sym both.0 ∙ ap not (ap (λ (c : Bool). defined name || c) own ∙ always (defined name)))))
  where
    only : (x y : ObjModule) → Some x ≡ Some y → x ≡ y
    only x y e = cc

    always : (d : Bool) → (d || true) ≡ true
    always true = refl
    always false = refl
still input picks j m k false other at least =
    let defined : List ℕ → Bool = is_defined (modules_of input picks) input.def in
    let names : List (List ℕ) = flat_map wanted (modules_of input picks) in
    let whole : waits input picks k ≡ list_any (open_for input defined k) names = any_filter (leads input k) (λ name. not (defined name)) names in
    any_alike (open_for input (λ name. defined name || defines m name) k) (open_for input defined k) names
    (λ name inside. no_two (defined name) (defines m name) (leads input k name) (λ undef leading. false_from_ne_true (defines m name) (λ own.
    let r = earlier (λ (o : ObjModule). defines o name) 0 input.libs j m at own in
    let is : k ≡ r.first = same_value (led (leader input.libs name) k leading) r.is in
    let up = r.below in
    let w : waits input picks k ≡ true = whole ∙ any_in (open_for input defined k) inside (ap (λ (d : Bool). not d && leads input k name) undef ∙ leading) in
    let low = least k w in
    let equal : k ≡ j = omega (arith, is, up, low) in
    true≢false (sym (eq-eqb k j equal) ∙ other))))
    ∙ sym whole
  where
    same_value : {o : Option ℕ} {a b : ℕ} → o ≡ Some a → o ≡ Some b → a ≡ b
    same_value e f = cc

-- What waits when the first that waits is chosen: what waited, and what the new module's names wait for.
pub waits_more : (input : LinkInput) (picks : List Pick) (j : ℕ) (m : ObjModule) (k : ℕ) → slice_get input.libs j ≡ Some m → ((i : ℕ) → waits input picks i ≡ true → j ≤ i) →
    waits input (picks ++ record { lib = true; index = j } ∷ []) k
    ≡ ((not (k == j) && waits input picks k) || list_any (open_for input (λ name. is_defined (modules_of input picks) input.def name || defines m name) k) (wanted m))
waits_more input picks j m k at least =
    let ms = modules_of input picks in
    let after : List ℕ → Bool = λ name. is_defined ms input.def name || defines m name in
    ap (λ (os : List ObjModule). list_any (leads input k) (undefined os input.def)) (modules_more input picks j m at)
    ∙ any_filter (leads input k) (λ name. not (is_defined (ms ++ m ∷ []) input.def name)) (flat_map wanted (ms ++ m ∷ []))
    ∙ any_alike (open_for input (is_defined (ms ++ m ∷ []) input.def) k) (open_for input after k) (flat_map wanted (ms ++ m ∷ [])) (λ name _. ap (λ (d : Bool). not d && leads input k name) (defined_more ms m input.def name))
    ∙ ap (list_any (open_for input after k)) (flat_map-append wanted ms (m ∷ []) ∙ ap (λ (t : List (List ℕ)). flat_map wanted ms ++ t) (append-nil (wanted m)))
    ∙ list_any-append (open_for input after k) (flat_map wanted ms) (wanted m)
    ∙ ap (λ (b : Bool). b || list_any (open_for input after k) (wanted m)) (still input picks j m k (k == j) refl at least)

-- ---- by the tables

awaits_is : (leaders defined : List (List ℕ × ℕ)) (k : ℕ) (local is : Bool) (o : Option ℕ) → option_any (λ f. f == k) (cond local None (cond is None o)) ≡ (not local && (not is && option_any (λ f. f == k) o))
awaits_is leaders defined k true is o = refl
awaits_is leaders defined k false true o = refl
awaits_is leaders defined k false false o = refl

-- What a module's externals wait for.
pub awaited_names : (input : LinkInput) (leaders defined : List (List ℕ × ℕ)) (known : List ℕ → Bool) (k : ℕ) (m : ObjModule) → ((name : List ℕ) → value_named name leaders ≡ leader input.libs name) → ((name : List ℕ) → is_some (value_named name defined) ≡ known name) →
    list_any (awaits leaders defined k) m.exts ≡ list_any (open_for input known k) (wanted m)
awaited_names input leaders defined known k m led_by said =
    any_alike (awaits leaders defined k) (λ e. not e.local && open_for input known k e.name) m.exts (λ e _.
    awaits_is leaders defined k e.local (is_some (value_named e.name defined)) (value_named e.name leaders)
    ∙ ap (λ (d : Bool). not e.local && (not d && option_any (λ f. f == k) (value_named e.name leaders))) (said e.name)
    ∙ ap (λ (o : Option ℕ). not e.local && (not (known e.name) && option_any (λ f. f == k) o)) (led_by e.name))
    ∙ sym (any_map (open_for input known k) (λ (e : Ext). e.name) (filter (λ e. not e.local) m.exts) ∙ any_filter (λ (e : Ext). open_for input known k e.name) (λ e. not e.local) m.exts)

-- What the object files wait for.
pub waits_first : (input : LinkInput) (picks : List Pick) (leaders defined : List (List ℕ × ℕ)) (k : ℕ) → modules_of input picks ≡ input.objects → ((name : List ℕ) → value_named name leaders ≡ leader input.libs name) → ((name : List ℕ) → is_some (value_named name defined) ≡ is_defined input.objects input.def name) →
    list_any (λ m. list_any (awaits leaders defined k) m.exts) input.objects ≡ waits input picks k
waits_first input picks leaders defined k are led_by said =
    let known : List ℕ → Bool = is_defined input.objects input.def in
    any_alike (λ m. list_any (awaits leaders defined k) m.exts) (λ m. list_any (open_for input known k) (wanted m)) input.objects (λ m _. awaited_names input leaders defined known k m led_by said)
    ∙ sym (ap (λ (os : List ObjModule). list_any (leads input k) (undefined os input.def)) are
    ∙ any_filter (leads input k) (λ name. not (known name)) (flat_map wanted input.objects)
    ∙ any_flat_map (open_for input known k) wanted input.objects)

-- ---- the object files

objects_from : (input : LinkInput) (s : ℕ) (ms : List ObjModule) → ((i : ℕ) → slice_get input.objects (s + i) ≡ slice_get ms i) → filter_map (module_of input) (map (λ (q : ℕ × ObjModule). let p : Pick = record { lib = false; index = q.0 } in p) (enumerate_from s ms)) ≡ ms
objects_from input s [] same = refl
objects_from input s (m ∷ ms) same =
    let rest : List Pick = map (λ (q : ℕ × ObjModule). let p : Pick = record { lib = false; index = q.0 } in p) (enumerate_from (s + 1) ms) in
    ap (λ (o : Option ObjModule). cons_option o (filter_map (module_of input) rest)) (ap (slice_get input.objects) (omega arith) ∙ same 0)
    ∙ ap (λ (t : List ObjModule). m ∷ t) (objects_from input (s + 1) ms (λ i. ap (slice_get input.objects) (omega arith) ∙ same (suc i)))

pub objects_are : (input : LinkInput) (picks : List Pick) → picks ≡ object_picks input → modules_of input picks ≡ input.objects
objects_are input picks e =
    ap (modules_of input) e ∙ objects_from input 0 input.objects (λ i. ap (slice_get input.objects) (omega arith))
