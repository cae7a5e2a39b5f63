-- Lists that grow by one item.
use Rattle.std.specs.Prelude.{◌≡◌, ℕ, ◌+◌, ◌<◌, Bool, true, false, cond, List, [], ◌∷◌, ◌++◌, Option, Some, None, map, length, take, drop, find, is_none, refl}
use Rattle.std.specs.Option.{option_or}
use Rattle.std.proofs.lemmas.List.{take-append-drop}
use Rattle.std.proofs.lemmas.List.Folds.{find-append}
use Rattle.std.proofs.Common.{ap, sym, ◌∙◌}
use Rattle.link_types.proofs.Lists.{firsts-keys}
use Rattle.std.proofs.lemmas.List.{take_more, length-map}
use Rattle.std.proofs.Math.ListN.{get_or}
use Rattle.std.specs.Prelude.{bytes_eq}
use Rattle.sym_table.specs.Firsts.{same_name}
use Rattle.link_model.specs.Appearance.{firsts}

-- ---- searches in a loop

pub find-past : {X : Type 0} (p : X → Bool) (xs : List X) (i : ℕ) (x : X) → i < length xs → x ≡ get_or xs i x → find p (take i xs) ≡ None → p x ≡ false → find p (take (i + 1) xs) ≡ None
find-past {X} p xs i x there is none fails =
    ap (find p) (take_more xs i x there ∙ ap (λ (y : X). take i xs ++ y ∷ []) (sym is))
    ∙ find-append p (take i xs) (x ∷ [])
    ∙ ap (λ (o : Option X). option_or o (find p (x ∷ []))) none
    ∙ ap (λ (b : Bool). cond b (Some x) None) fails

pub find-here : {X : Type 0} (p : X → Bool) (xs : List X) (i : ℕ) (x : X) → i < length xs → x ≡ get_or xs i x → find p (take i xs) ≡ None → p x ≡ true → find p xs ≡ Some x
find-here {X} p xs i x there is none passes =
    let one : find p (take (i + 1) xs) ≡ Some x =
    ap (find p) (take_more xs i x there ∙ ap (λ (y : X). take i xs ++ y ∷ []) (sym is))
    ∙ find-append p (take i xs) (x ∷ [])
    ∙ ap (λ (o : Option X). option_or o (find p (x ∷ []))) none
    ∙ ap (λ (b : Bool). cond b (Some x) None) passes in
    ap (find p) (sym (take-append-drop (i + 1) xs))
    ∙ find-append p (take (i + 1) xs) (drop (i + 1) xs)
    ∙ ap (λ (o : Option X). option_or o (find p (drop (i + 1) xs))) one

-- Where each item has a value, none has none.
pub none_is_none : {X Y : Type 0} (m : X → Option Y) (ys : List Y) (xs : List X) → map Some ys ≡ map m xs → find (λ x. is_none (m x)) xs ≡ None
none_is_none m ys [] e = refl
none_is_none m [] (x ∷ xs) e = cc
none_is_none {X} {Y} m (y ∷ ys) (x ∷ xs) e =
    let head : Some y ≡ m x = cc in
    let rest : map Some ys ≡ map m xs = cc in
    ap (λ (b : Bool). cond b (Some x) (find (λ z. is_none (m z)) xs)) (ap is_none (sym head)) ∙ none_is_none m ys xs rest

-- How many different names a table of names has.
keys_of_named : {X : Type 0} (key : X → List ℕ) (xs : List X) → map (λ (e : List ℕ × Unit {0}). e.0) (map (λ (x : X). (key x, tt)) xs) ≡ map key xs
keys_of_named key [] = refl
keys_of_named {X} key (x ∷ xs) = ap (λ (t : List (List ℕ)). key x ∷ t) (keys_of_named key xs)

pub count-keys : {X : Type 0} (key : X → List ℕ) (xs : List X) → length (firsts (same_name {V = Unit {0}}) (map (λ (x : X). (key x, tt)) xs)) ≡ length (firsts bytes_eq (map key xs))
count-keys {X} key xs =
    sym (length-map (firsts (same_name {V = Unit {0}}) (map (λ (x : X). (key x, tt)) xs)) (λ (e : List ℕ × Unit {0}). e.0))
    ∙ ap length (firsts-keys (λ (e : List ℕ × Unit {0}). e.0) bytes_eq (map (λ (x : X). (key x, tt)) xs) ∙ ap (firsts bytes_eq) (keys_of_named key xs))
