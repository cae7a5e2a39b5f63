-- The names of exports, against those before them.
use Rattle.std.proofs.Common.{◌≡◌, ℕ, suc, arith, ◌+◌, ◌<◌, true, false, Bool, List, [], ◌∷◌, ◌++◌, Some, None, length, map, drop, refl, sym, ap, ◌∙◌}
use Rattle.std.specs.Prelude.{bytes_eq, find, Option, is_some, cond, ◌||◌}
use Rattle.std.specs.List.{list_any}
use Rattle.std.specs.Option.{option_map}
use Rattle.std.specs.Cmp.Lexicographic.{nat_list_eq_equiv}
use Rattle.std.proofs.lemmas.List.{map-append}
use Rattle.std.proofs.Math.Seq.{drop-cons}
use Rattle.std.proofs.Math.ListN.{get_or}
use Rattle.name_table.specs.Entries.{is_named, value_named, with_entry}
use Rattle.link_model.specs.Words.{first_conflict}
use Rattle.lx_exports.specs.declared.exports.OutEntry.{OutEntry}
use Rattle.lx_exports.specs.Exports.{names_of}

-- ---- a name among those of a table

any_key : (name : List ℕ) (es : List (List ℕ × Unit {0})) → list_any (λ y. bytes_eq y name) (map (λ e. e.0) es) ≡ list_any (is_named name) es
any_key name [] = refl
any_key name (e ∷ es) =
    ap (λ (b : Bool). b || list_any (λ y. bytes_eq y name) (map (λ e. e.0) es)) (nat_list_eq_equiv.symm e.0 name)
    ∙ ap (λ (b : Bool). bytes_eq name e.0 || b) (any_key name es)

found_by : (b : Bool) (e : List ℕ × Unit {0}) (o : Option (List ℕ × Unit {0})) (c : Bool) → is_some (option_map (λ (e : List ℕ × Unit {0}). e.1) o) ≡ c →
    is_some (option_map (λ (e : List ℕ × Unit {0}). e.1) (cond b (Some e) o)) ≡ (b || c)
found_by true e o c is = refl
found_by false e o c is = is

any_found : (name : List ℕ) (es : List (List ℕ × Unit {0})) → is_some (value_named name es) ≡ list_any (is_named name) es
any_found name [] = refl
any_found name (e ∷ es) = found_by (is_named name e) e (find (is_named name) es) (list_any (is_named name) es) (any_found name es)

-- ---- the export at a place

next_is : (xs : List OutEntry) (i : ℕ) (x : OutEntry) → i < length xs → x ≡ get_or xs i x → names_of (drop i xs) ≡ x.name ∷ names_of (drop (i + 1) xs)
next_is xs i x there is =
    ap names_of (drop-cons xs i x there)
    ∙ ap (λ (y : OutEntry). y.name ∷ names_of (drop (suc i) xs)) {x = get_or xs i x} (sym is)
    ∙ ap (λ (n : ℕ). x.name ∷ names_of (drop n xs)) {x = suc i} (omega arith)

pub twice_now : (es : List (List ℕ × Unit {0})) (xs : List OutEntry) (i : ℕ) (x : OutEntry) → i < length xs → x ≡ get_or xs i x →
    is_some (value_named x.name es) ≡ true → first_conflict bytes_eq (map (λ e. e.0) es) (names_of (drop i xs)) ≡ Some x.name
twice_now es xs i x there is some =
    ap (first_conflict bytes_eq (map (λ e. e.0) es)) (next_is xs i x there is)
    ∙ ap (λ (b : Bool). cond b (Some x.name) (first_conflict bytes_eq (map (λ e. e.0) es ++ x.name ∷ []) (names_of (drop (i + 1) xs))))
    (any_key x.name es ∙ sym (any_found x.name es) ∙ some)

pub not_twice : (es : List (List ℕ × Unit {0})) (xs : List OutEntry) (i : ℕ) (x : OutEntry) → i < length xs → x ≡ get_or xs i x →
    is_some (value_named x.name es) ≡ false →
    first_conflict bytes_eq (map (λ e. e.0) (with_entry es x.name tt)) (names_of (drop (i + 1) xs)) ≡ first_conflict bytes_eq (map (λ e. e.0) es) (names_of (drop i xs))
not_twice es xs i x there is none =
    let none_there : list_any (is_named x.name) es ≡ false = sym (any_found x.name es) ∙ none in
    let rest = names_of (drop (i + 1) xs) in
    let keys = map (λ (e : List ℕ × Unit {0}). e.0) es in
    ap (λ (b : Bool). first_conflict bytes_eq (map (λ (e : List ℕ × Unit {0}). e.0) (cond b es (es ++ (x.name, tt) ∷ []))) rest) none_there
    ∙ ap (λ (ns : List (List ℕ)). first_conflict bytes_eq ns rest) (map-append (λ (e : List ℕ × Unit {0}). e.0) es ((x.name, tt) ∷ []))
    ∙ sym (ap (first_conflict bytes_eq keys) (next_is xs i x there is)
    ∙ ap (λ (b : Bool). cond b (Some x.name) (first_conflict bytes_eq (keys ++ x.name ∷ []) rest)) (any_key x.name es ∙ none_there))
