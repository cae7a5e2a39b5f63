-- The table of a module's local publics gives what a search of its publics gives.
use Rattle.std.specs.Prelude.{◌≡◌, ℕ, ◌+◌, ◌<◌, ◌&&◌, Bool, true, false, cond, List, [], ◌∷◌, ◌++◌, Option, Some, None, map, length, take, find, is_none, bytes_eq, refl}
use Rattle.std.specs.Option.{option_map, option_or}
use Rattle.std.proofs.Common.{ap, sym, ◌∙◌}
use Rattle.std.proofs.Math.ListN.{get_or}
use Rattle.std.proofs.lemmas.List.{take_more}
use Rattle.std.proofs.lemmas.List.Folds.{find-append}
use Rattle.lx_types.proofs.Lists.{map_agree}
use Rattle.obj_types.specs.declared.object.ObjModule.{ObjModule}
use Rattle.obj_types.specs.declared.symbol.Ext.{Ext}
use Rattle.obj_types.specs.declared.symbol.Pub.{Pub}
use Rattle.obj_types.specs.declared.symbol.PubPlace.{PubPlace}
use Rattle.link_model.specs.declared.symbols.SymDef.{SymDef}
use Rattle.link_model.specs.declared.refusals.SymRefusal.TheVariants.{Missing}
use Rattle.link_model.specs.Symbols as rules
use Rattle.name_table.specs.Entries.{value_named}
use Rattle.link_types.specs.declared.symbols.Globals.{Globals}
use Rattle.link_types.specs.Globals.{global_in}
use Rattle.sym_table.specs.Meanings.{meaning_in, meaning_by, missing_by, row_in, missing_row}
use Rattle.sym_table.proofs.LeaderTables.{when, map-or, map-when}

-- The place of the first local public of a name.
abbrev pub local_place : List ℕ → List Pub → Option PubPlace
local_place name publics = option_map (λ p. p.place) (find (λ p. p.local && bytes_eq p.name name) publics)

pub place-more : (name : List ℕ) (xs : List Pub) (i : ℕ) (x : Pub) → i < length xs → x ≡ get_or xs i x → local_place name (take (i + 1) xs) ≡ option_or (local_place name (take i xs)) (when (x.local && bytes_eq x.name name) x.place)
place-more name xs i x below is =
    let test : Pub → Bool = λ p. p.local && bytes_eq p.name name in
    let place : Pub → PubPlace = λ p. p.place in
    ap (λ (ps : List Pub). option_map place (find test ps)) (take_more xs i x below ∙ ap (λ (y : Pub). take i xs ++ y ∷ []) (sym is))
    ∙ ap (option_map place) (find-append test (take i xs) (x ∷ []))
    ∙ map-or place (find test (take i xs)) (when (test x) x)
    ∙ ap (λ (o : Option PubPlace). option_or (local_place name (take i xs)) o) (map-when place (test x) x)

composed : (by : ℕ) (o : Option Pub) → option_map (rules.at_place by) (option_map (λ (p : Pub). p.place) o) ≡ option_map (λ (p : Pub). rules.at_place by p.place) o
composed by None = refl
composed by (Some p) = refl

-- An external's meaning by the table.
meaning_is_by : (globals : Globals) (by : ℕ) (m : ObjModule) (locals : List (List ℕ × PubPlace)) (e : Ext) → ((name : List ℕ) → value_named name locals ≡ local_place name m.pubs) → meaning_by globals by locals e ≡ meaning_in globals by m e
meaning_is_by globals by m locals e are =
    ap (λ (o : Option SymDef). cond e.local o (global_in globals e.name))
    (ap (option_map (rules.at_place by)) (are e.name) ∙ composed by (find (λ p. p.local && bytes_eq p.name e.name) m.pubs))

-- ---- all externals of a module

missing_alike : (f g : Ext → Option SymDef) → ((e : Ext) → f e ≡ g e) → (es : List Ext) → missing_by f es ≡ missing_by g es
missing_alike f g same [] = refl
missing_alike f g same (e ∷ es) =
    ap (λ (b : Bool). option_map (λ (x : Ext). Missing x.name) (cond b (Some e) (find (λ x. is_none (f x)) es))) (ap is_none (same e)) ∙ by (is_none (g e)) (missing_alike f g same es)
  where
    by : (b : Bool) → missing_by f es ≡ missing_by g es → option_map (λ (x : Ext). Missing x.name) (cond b (Some e) (find (λ x. is_none (f x)) es)) ≡ option_map (λ (x : Ext). Missing x.name) (cond b (Some e) (find (λ x. is_none (g x)) es))
    by true h = refl
    by false h = h

-- A table has the places of a module's local publics.
abbrev pub AreLocals : ObjModule → List Pub → List (List ℕ × PubPlace) → Type 0
AreLocals m pubs locals = (pubs ≡ m.pubs) × ((name : List ℕ) → value_named name locals ≡ local_place name pubs)

located : (globals : Globals) (by : ℕ) (m : ObjModule) (pubs : List Pub) (locals : List (List ℕ × PubPlace)) → AreLocals m pubs locals → (e : Ext) → meaning_by globals by locals e ≡ meaning_in globals by m e
located globals by m pubs locals are e = meaning_is_by globals by m locals e (λ name. are.1 name ∙ ap (local_place name) are.0)

pub row_is : (globals : Globals) (by : ℕ) (m : ObjModule) (pubs : List Pub) (locals : List (List ℕ × PubPlace)) (es : List Ext) → AreLocals m pubs locals → es ≡ m.exts → map (meaning_by globals by locals) es ≡ row_in globals by m
row_is globals by m pubs locals es are same =
    map_agree (meaning_by globals by locals) (meaning_in globals by m) (located globals by m pubs locals are) es ∙ ap (map (meaning_in globals by m)) same

pub missing_is : (globals : Globals) (by : ℕ) (m : ObjModule) (pubs : List Pub) (locals : List (List ℕ × PubPlace)) (es : List Ext) → AreLocals m pubs locals → es ≡ m.exts → missing_by (meaning_by globals by locals) es ≡ missing_row globals by m
missing_is globals by m pubs locals es are same =
    missing_alike (meaning_by globals by locals) (meaning_in globals by m) (located globals by m pubs locals are) es ∙ ap (missing_by (meaning_in globals by m)) same
