-- The longest COMDEF of each name, with one more.
use Rattle.std.specs.Prelude.{◌≡◌, ℕ, ◌+◌, ◌<◌, Bool, true, false, cond, List, [], ◌∷◌, ◌++◌, Option, Some, map, max, filter, length, take, unwrap_or, bytes_eq, refl}
use Rattle.std.specs.List.{fold}
use Rattle.std.proofs.Common.{ap, sym, ◌∙◌}
use Rattle.std.proofs.Math.ListN.{get_or}
use Rattle.std.proofs.lemmas.List.{append-nil}
use Rattle.std.proofs.lemmas.List.Elements.{filter-append}
use Rattle.std.proofs.lemmas.Slice.Eq.{bytes_eq-Decides}
use Rattle.obj_types.specs.declared.symbol.Common.{Common}
use Rattle.name_table.specs.Entries.{value_named, with_value}
use Rattle.name_table.proofs.Shown.{value-set}
use Rattle.sym_table.specs.declared.communals.Comdef.{Comdef}
use Rattle.sym_table.specs.Communals.{comdef_shown, greatest_of}
use Rattle.link_types.proofs.Lists.{map-more}

fold-more : (a : ℕ) (xs : List (List ℕ × Common)) (x : List ℕ × Common) → fold (λ len c. max len c.1.len) a (xs ++ x ∷ []) ≡ max (fold (λ len c. max len c.1.len) a xs) x.1.len
fold-more a [] x = refl
fold-more a (y ∷ ys) x = fold-more (max a y.1.len) ys x

one_more : (b : Bool) (xs : List (List ℕ × Common)) (x : List ℕ × Common) → fold (λ len c. max len c.1.len) 0 (xs ++ cond b (x ∷ []) []) ≡ cond b (max (fold (λ len c. max len c.1.len) 0 xs) x.1.len) (fold (λ len c. max len c.1.len) 0 xs)
one_more true xs x = fold-more 0 xs x
one_more false xs x = ap (fold (λ len c. max len c.1.len) 0) (append-nil xs)

greatest-more : (name : List ℕ) (xs : List Comdef) (i : ℕ) (x : Comdef) → i < length xs → x ≡ get_or xs i x →
    greatest_of (map comdef_shown (take (i + 1) xs)) name ≡ cond (bytes_eq x.name.now name) (max (greatest_of (map comdef_shown (take i xs)) name) x.common.len) (greatest_of (map comdef_shown (take i xs)) name)
greatest-more name xs i x below is =
    let test : (List ℕ × Common) → Bool = λ q. bytes_eq q.0 name in
    ap (λ (cs : List (List ℕ × Common)). greatest_of cs name) (map-more comdef_shown xs i x below is)
    ∙ ap (fold (λ len c. max len c.1.len) 0) (filter-append test (map comdef_shown (take i xs)) (comdef_shown x ∷ []))
    ∙ one_more (test (comdef_shown x)) (filter test (map comdef_shown (take i xs))) (comdef_shown x)

set_or : (b : Bool) (v : ℕ) (o : Option ℕ) → unwrap_or (cond b (Some v) o) 0 ≡ cond b v (unwrap_or o 0)
set_or true v o = refl
set_or false v o = refl

both_by : (b : Bool) (v w u : ℕ) → (b ≡ true → v ≡ w) → cond b v u ≡ cond b w u
both_by true v w u h = h refl
both_by false v w u h = refl

-- One more COMDEF.
pub len-more : (name : List ℕ) (xs : List Comdef) (i : ℕ) (x : Comdef) (lens after : List (List ℕ × ℕ)) (len : ℕ) → i < length xs → x ≡ get_or xs i x →
    ((n : List ℕ) → unwrap_or (value_named n lens) 0 ≡ greatest_of (map comdef_shown (take i xs)) n) →
    len ≡ max (unwrap_or (value_named x.name.now lens) 0) x.common.len → after ≡ with_value lens x.name.now len →
    unwrap_or (value_named name after) 0 ≡ greatest_of (map comdef_shown (take (i + 1) xs)) name
len-more name xs i x lens after len below is known longest grown =
    let before : ℕ = greatest_of (map comdef_shown (take i xs)) name in
    ap (λ (t : List (List ℕ × ℕ)). unwrap_or (value_named name t) 0) grown
    ∙ ap (λ (o : Option ℕ). unwrap_or o 0) (value-set name x.name.now len lens)
    ∙ set_or (bytes_eq x.name.now name) len (value_named name lens)
    ∙ ap (λ (n : ℕ). cond (bytes_eq x.name.now name) len n) (known name)
    ∙ both_by (bytes_eq x.name.now name) len (max before x.common.len) before
    (λ same. longest ∙ ap (λ (n : ℕ). max n x.common.len) (known x.name.now ∙ ap (greatest_of (map comdef_shown (take i xs))) ((bytes_eq-Decides x.name.now name).0 same)))
    ∙ sym (greatest-more name xs i x below is)
