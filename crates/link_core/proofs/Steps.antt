-- Steps of the loops over exports and names, and the tables with which they begin.
use Rattle.std.specs.Prelude.{◌≡◌, ℕ, ◌+◌, ◌<◌, List, [], ◌∷◌, ◌++◌, Option, Some, map, take, length, slice_get, bytes_eq, option_to_list}
use Rattle.std.specs.List.{filter_map, flat_map, range_with_len}
use Rattle.std.specs.Borrow.{Bor}
use Rattle.std.proofs.Common.{ap, sym, ◌∙◌, subst, get_or, arith}
use Rattle.std.proofs.lemmas.List.{append-nil, append_assoc, map-append, take_more, length-map}
use Rattle.std.proofs.lemmas.List.FromFn.{length-range_with_len, get_or-map-range_with_len}
use Rattle.std.proofs.lemmas.List.Elements.{filter_map-append}
use Rattle.std.proofs.lemmas.Option.{slice_get-get_or}
use Rattle.link_fix.proofs.PagedFixes.{one_option}
use Rattle.obj_types.specs.declared.object.ObjModule.{ObjModule}
use Rattle.obj_types.specs.declared.symbol.Exp.{Exp}
use Rattle.obj_types.specs.declared.symbol.Imp.{Imp}
use Rattle.lx_types.specs.Names.{uppercase}
use Rattle.link_model.specs.Appearance.{firsts}
use Rattle.link_model.specs.ImportTables.{modules_in, procs_in, proc_name, name_offset}
use Rattle.link_fix.specs.declared.tables.FirstNames.{FirstNames}
use Rattle.link_fix.specs.declared.tables.ImportTables.{ImportTables}
use Rattle.link_fix.specs.Tables.{AreFirst, ArePairs}
use Rattle.link_core.specs.Exports.{offsets_of}
use Rattle.image_model.proofs.FewImports.{firsts-again}

-- ---- lent items

pub lent-more : {X : Type 0} (xs : List (Bor X)) (i : ℕ) (x : Bor X) → i < length xs → x ≡ get_or xs i x → map (λ b. b.now) (take i xs) ++ x.now ∷ [] ≡ map (λ b. b.now) (take (i + 1) xs)
lent-more {X} xs i x h is =
    sym (map-append (λ (b : Bor X). b.now) (take i xs) (x ∷ [])) ∙ ap (map (λ (b : Bor X). b.now)) (ap (λ (b : Bor X). take i xs ++ b ∷ []) is ∙ sym (take_more xs i x h))

pub lent-pushed : {X : Type 0} (before old new : List (Bor X)) (xs : List X) (i : ℕ) (x : Bor X) → i < length xs → x.now ≡ get_or xs i x.now → map (λ b. b.now) old ≡ map (λ b. b.now) before ++ take i xs → new ≡ old ++ x ∷ []
    → map (λ b. b.now) new ≡ map (λ b. b.now) before ++ take (i + 1) xs
lent-pushed {X} before old new xs i x h is was made =
    let values : List X = map (λ (b : Bor X). b.now) before in
    ap (map (λ (b : Bor X). b.now)) made ∙ map-append (λ (b : Bor X). b.now) old (x ∷ []) ∙ ap (λ (ys : List X). ys ++ x.now ∷ []) was ∙ append_assoc values (take i xs) (x.now ∷ [])
    ∙ ap (λ (ys : List X). values ++ ys) (ap (λ (y : X). take i xs ++ y ∷ []) is ∙ sym (take_more xs i x.now h))

flat_push : {X Y : Type 0} (f : X → List Y) (xs : List X) (x : X) → flat_map f (xs ++ x ∷ []) ≡ flat_map f xs ++ f x
flat_push f [] x = append-nil (f x)
flat_push {X} {Y} f (y ∷ xs) x = ap (λ (t : List Y). f y ++ t) (flat_push f xs x) ∙ sym (append_assoc (f y) (flat_map f xs) (f x))

pub exports-more : (ms : List (Bor ObjModule)) (i : ℕ) (x : Bor ObjModule) (old new : List Exp) → i < length ms → x ≡ get_or ms i x → old ≡ flat_map (λ m. m.exports) (map (λ b. b.now) (take i ms)) → new ≡ old ++ x.now.exports
    → new ≡ flat_map (λ m. m.exports) (map (λ b. b.now) (take (i + 1) ms))
exports-more ms i x old new h is was made =
    made ∙ ap (λ (ys : List Exp). ys ++ x.now.exports) was ∙ sym (flat_push (λ (m : ObjModule). m.exports) (map (λ b. b.now) (take i ms)) x.now) ∙ ap (flat_map (λ (m : ObjModule). m.exports)) (lent-more ms i x h is)

-- ---- what is picked of lent items

pub picked-more : {X Y : Type 0} (f : X → Option Y) (base : List Y) (xs : List (Bor X)) (i : ℕ) (x : Bor X) → i < length xs → x ≡ get_or xs i x
    → (base ++ filter_map f (map (λ b. b.now) (take i xs))) ++ option_to_list (f x.now) ≡ base ++ filter_map f (map (λ b. b.now) (take (i + 1) xs))
picked-more {X} {Y} f base xs i x h is =
    append_assoc base (filter_map f (map (λ b. b.now) (take i xs))) (option_to_list (f x.now))
    ∙ ap (λ (ys : List Y). base ++ ys) (ap (λ (ys : List Y). filter_map f (map (λ b. b.now) (take i xs)) ++ ys) (sym (one_option (f x.now))) ∙ sym (filter_map-append f (map (λ b. b.now) (take i xs)) (x.now ∷ [])) ∙ ap (filter_map f) (lent-more xs i x h is))

-- ---- names

pub names-more : (t : FirstNames) (names : List (List ℕ)) (i : ℕ) (d name : List ℕ) → i < length names → d ≡ get_or names i d → name ≡ d → AreFirst t (firsts bytes_eq (take i names ++ name ∷ [])) → AreFirst t (firsts bytes_eq (take (i + 1) names))
names-more t names i d name h is copied first =
    subst (λ (ns : List (List ℕ)). AreFirst t (firsts bytes_eq ns)) (ap (λ (n : List ℕ). take i names ++ n ∷ []) (copied ∙ is) ∙ sym (take_more names i d h)) first

-- Tables that begin with these names are those of the pairs whose names they are.
pub pairs-begin : (m p : FirstNames) (imports procs : List (List ℕ)) (pairs : List Imp) → AreFirst m (firsts bytes_eq imports) → AreFirst p (firsts bytes_eq procs) → imports ≡ modules_in pairs → procs ≡ procs_in pairs → ArePairs (record { modules = m; procs = p }) pairs
pairs-begin m p imports procs pairs hm hp em ep = record {
  modules = subst (λ (ns : List (List ℕ)). AreFirst m ns) (ap (firsts bytes_eq) em ∙ firsts-again bytes_eq (map (λ pair. uppercase pair.module) pairs)) hm;
  procs = subst (λ (ns : List (List ℕ)). AreFirst p ns) (ap (firsts bytes_eq) ep ∙ firsts-again bytes_eq (filter_map (λ pair. proc_name pair.entry) pairs)) hp;
}

pub offsets-are : (t : ImportTables) (lent : List (List ℕ)) (offsets : List ℕ) (pairs : List Imp) → ArePairs t pairs → lent ≡ t.procs.names → offsets ≡ offsets_of lent → offsets ≡ offsets_of (procs_in pairs)
offsets-are t lent offsets pairs are is made = made ∙ ap offsets_of (is ∙ are.procs.0)

-- ---- offsets of names

pub offset-at : (names : List (List ℕ)) (offsets : List ℕ) (k : ℕ) → offsets ≡ offsets_of names → k < length names → slice_get offsets k ≡ Some (name_offset names k)
offset-at names offsets k is h =
    let long = length-map (range_with_len 0 (length names)) (name_offset names) ∙ length-range_with_len 0 (length names) in
    let same : 0 + k ≡ k = omega arith in
    ap (λ (ns : List ℕ). slice_get ns k) is ∙ slice_get-get_or (offsets_of names) k 0 (omega (arith, h, long)) ∙ ap (λ (n : ℕ). Some n) (get_or-map-range_with_len (name_offset names) 0 (length names) k k 0 h same)
