-- The exports of all modules as one list, module by module.
use Rattle.std.specs.Prelude.{◌≡◌, ℕ, ◌+◌, ◌<◌, Bool, not, List, [], ◌∷◌, ◌++◌, Option, Some, None, map, length, take, drop, find, refl}
use Rattle.std.specs.Borrow.{Bor}
use Rattle.std.specs.List.{flat_map}
use Rattle.std.specs.Option.{option_map, option_or}
use Rattle.std.proofs.Common.{ap, sym, ◌∙◌, append_assoc}
use Rattle.std.proofs.Math.ListN.{get_or}
use Rattle.std.proofs.lemmas.List.{append-nil, take_more, take-append-drop}
use Rattle.std.proofs.lemmas.List.Folds.{find-append}
use Rattle.obj_types.specs.declared.object.ObjModule.{ObjModule}
use Rattle.obj_types.specs.declared.symbol.Exp.{Exp}
use Rattle.link_model.specs.declared.refusals.SymRefusal.{SymRefusal}
use Rattle.link_model.specs.declared.refusals.SymRefusal.TheVariants.{Missing}
use Rattle.link_model.specs.SymbolRefusals.{is_exportable}
use Rattle.link_types.specs.declared.symbols.Globals.{Globals}
use Rattle.link_types.specs.Globals.{global_in}
use Rattle.sym_table.specs.Meanings.{missing_export_in}
use Rattle.sym_table.proofs.LeaderTables.{map-or}

-- The exports of these modules.
abbrev pub exports_of : List (Bor ObjModule) → List Exp
exports_of mods = flat_map (λ m. m.exports) (map (λ (b : Bor ObjModule). b.now) mods)

pub exports-append : (xs ys : List (Bor ObjModule)) → exports_of (xs ++ ys) ≡ exports_of xs ++ exports_of ys
exports-append [] ys = refl
exports-append (x ∷ xs) ys =
    ap (λ (t : List Exp). x.now.exports ++ t) (exports-append xs ys) ∙ sym (append_assoc x.now.exports (exports_of xs) (exports_of ys))

pub exports-more : (mods : List (Bor ObjModule)) (i : ℕ) (m : Bor ObjModule) → i < length mods → m ≡ get_or mods i m → exports_of (take (i + 1) mods) ≡ exports_of (take i mods) ++ m.now.exports
exports-more mods i m below is =
    ap exports_of (take_more mods i m below ∙ ap (λ (b : Bor ObjModule). take i mods ++ b ∷ []) (sym is))
    ∙ exports-append (take i mods) (m ∷ [])
    ∙ ap (λ (t : List Exp). exports_of (take i mods) ++ t) (append-nil m.now.exports)

-- The first refusal of two lists.
pub refusal-append : (globals : Globals) (xs ys : List Exp) → missing_export_in globals (xs ++ ys) ≡ option_or (missing_export_in globals xs) (missing_export_in globals ys)
refusal-append globals xs ys =
    let test : Exp → Bool = λ x. not (is_exportable (global_in globals x.internal)) in
    ap (λ (o : Option Exp). option_map (λ (x : Exp). Missing x.internal) o) (find-append test xs ys)
    ∙ map-or (λ (x : Exp). Missing x.internal) (find test xs) (find test ys)

-- One more module whose exports all mean something.
pub exports-past : (globals : Globals) (mods : List (Bor ObjModule)) (i : ℕ) (m : Bor ObjModule) → i < length mods → m ≡ get_or mods i m →
    missing_export_in globals (exports_of (take i mods)) ≡ None → missing_export_in globals m.now.exports ≡ None → missing_export_in globals (exports_of (take (i + 1) mods)) ≡ None
exports-past globals mods i m below is none own =
    ap (missing_export_in globals) (exports-more mods i m below is)
    ∙ refusal-append globals (exports_of (take i mods)) m.now.exports
    ∙ ap (λ (o : Option SymRefusal). option_or o (missing_export_in globals m.now.exports)) none
    ∙ own

-- The first module one of whose exports means nothing.
pub exports-here : (globals : Globals) (mods : List (Bor ObjModule)) (i : ℕ) (m : Bor ObjModule) (r : SymRefusal) → i < length mods → m ≡ get_or mods i m →
    missing_export_in globals (exports_of (take i mods)) ≡ None → missing_export_in globals m.now.exports ≡ Some r → missing_export_in globals (exports_of mods) ≡ Some r
exports-here globals mods i m r below is none own =
    let front : List Exp = exports_of (take (i + 1) mods) in
    let rest : List Exp = exports_of (drop (i + 1) mods) in
    ap (λ (ms : List (Bor ObjModule)). missing_export_in globals (exports_of ms)) (sym (take-append-drop (i + 1) mods))
    ∙ ap (missing_export_in globals) (exports-append (take (i + 1) mods) (drop (i + 1) mods))
    ∙ refusal-append globals front rest
    ∙ ap (λ (o : Option SymRefusal). option_or o (missing_export_in globals rest)) (ap (missing_export_in globals) (exports-more mods i m below is)
    ∙ refusal-append globals (exports_of (take i mods)) m.now.exports
    ∙ ap (λ (o : Option SymRefusal). option_or o (missing_export_in globals m.now.exports)) none
    ∙ own)

-- The definition file's exports come last.
pub exports-after : (globals : Globals) (mods : List (Bor ObjModule)) (own : List Exp) → missing_export_in globals (exports_of mods) ≡ None → missing_export_in globals (exports_of mods ++ own) ≡ missing_export_in globals own
exports-after globals mods own none =
    refusal-append globals (exports_of mods) own ∙ ap (λ (o : Option SymRefusal). option_or o (missing_export_in globals own)) none

pub exports-before : (globals : Globals) (mods : List (Bor ObjModule)) (own : List Exp) (r : SymRefusal) → missing_export_in globals (exports_of mods) ≡ Some r → missing_export_in globals (exports_of mods ++ own) ≡ Some r
exports-before globals mods own r some =
    refusal-append globals (exports_of mods) own ∙ ap (λ (o : Option SymRefusal). option_or o (missing_export_in globals own)) some
