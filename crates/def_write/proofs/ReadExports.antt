-- The items of EXPORTS, read again.
use Rattle.std.proofs.Common.{◌≡◌, ◌≢◌, ℕ, zero, suc, ◌≤◌, List, [], ◌∷◌, ◌++◌, map, refl, ap, sym, ◌∙◌, append_assoc, append-nil, arith, Bool, true, false, Option, Some, None}
use Rattle.std.specs.Prelude.{IfSome, ◌==◌}
use Rattle.std.specs.List.{All}
use Rattle.std.proofs.lemmas.Bool.{ne_eqb}
use Rattle.std.proofs.lemmas.List.Elements.{All-head, All-tail}
use Rattle.lx_types.specs.Names.{IsName}
use Rattle.obj_types.specs.Definition.{WholeExport, IsOrdinal}
use Rattle.obj_types.specs.declared.symbol.Exp.{Exp}
use Rattle.def_model.specs.declared.keyword.Keyword.TheVariants as kw
use Rattle.def_model.specs.Lexemes.{Lexeme, text, number, equals, keyword}
use Rattle.def_tokens.proofs.TokenLaws.{if-second}
use Rattle.def_model.specs.declared.draft.Draft.{Draft}
use Rattle.def_model.specs.declared.draft.Part.{Part}
use Rattle.def_model.specs.declared.draft.Part.TheVariants as parts
use Rattle.def_model.specs.declared.draft.Place.TheVariants as place
use Rattle.def_write.specs.Names.{ExportNames}
use Rattle.def_write.specs.Writing.{ordinal_tokens, flag_tokens, words_tokens, export_tokens}
use Rattle.def_file.proofs.Compute.{computed}
use Rattle.def_file.proofs.SaysLaws.{says, name-is, within-is, goes-on}
use Rattle.def_write.proofs.ReadSegments.{joined}

abbrev pub with_exports : Draft → List Exp → Draft
with_exports d exports = record d { exports = exports }

abbrev item : List ℕ → List ℕ → Option ℕ → Bool → Bool → Exp
item name internal ordinal resident nodata =
    record { name = name; internal = internal; ordinal = ordinal; resident = resident; nodata = nodata; words = 0 }

-- ---- what an item may have

-- The part after `@` and a number, if there is one.
abbrev ordinal_part : Option ℕ → Part
ordinal_part None = parts.Internal
ordinal_part (Some n) = parts.Ordinal

abbrev resident_part : Bool → Part → Part
resident_part true p = parts.Resident
resident_part false p = p

abbrev nodata_part : Bool → Part → Part
nodata_part true p = parts.NoData
nodata_part false p = p

ordinal-read : (ordinal : Option ℕ) (d : Draft) (name internal : List ℕ) (ts : List Lexeme) → IfSome ordinal IsOrdinal
    → says (record { draft = d; place = place.Export (item name internal None false false) parts.Internal }) (ordinal_tokens ordinal ++ ts)
    ≡ says (record { draft = d; place = place.Export (item name internal ordinal false false) (ordinal_part ordinal) }) ts
unfolding computed
ordinal-read None d name internal ts h = refl
ordinal-read (Some n) d name internal ts h = goes-on _ n _ _ (within-is 1 65535 n h.0 h.1)

resident-read : (resident : Bool) (ordinal : Option ℕ) (d : Draft) (name internal : List ℕ) (ts : List Lexeme)
    → says (record { draft = d; place = place.Export (item name internal ordinal false false) (ordinal_part ordinal) })
    (flag_tokens resident kw.ResidentName ++ ts)
    ≡ says (record { draft = d; place = place.Export (item name internal ordinal resident false) (resident_part resident (ordinal_part ordinal)) }) ts
unfolding computed
resident-read true None d name internal ts = refl
resident-read true (Some n) d name internal ts = refl
resident-read false ordinal d name internal ts = refl

nodata-read : (nodata resident : Bool) (ordinal : Option ℕ) (d : Draft) (name internal : List ℕ) (ts : List Lexeme)
    → says (record { draft = d; place = place.Export (item name internal ordinal resident false) (resident_part resident (ordinal_part ordinal)) })
    (flag_tokens nodata kw.NoData ++ ts)
    ≡ says (record { draft = d; place = place.Export (item name internal ordinal resident nodata) (nodata_part nodata (resident_part resident (ordinal_part ordinal))) }) ts
unfolding computed
nodata-read true true ordinal d name internal ts = refl
nodata-read true false None d name internal ts = refl
nodata-read true false (Some n) d name internal ts = refl
nodata-read false resident ordinal d name internal ts = refl

-- ---- the end of an item

words-are : (words : ℕ) → words_tokens (suc words) ≡ number (Some (suc words)) ∷ []
words-are words = if-second (suc words == 0) _ _ (ne_eqb (suc words) 0 (λ e. omega arith))

-- A number ends an item.
words-read : (part : Part) (d : Draft) (e : Exp) (words : ℕ) (ts : List Lexeme) → suc words ≤ 31
    → says (record { draft = d; place = place.Export e part }) (number (Some (suc words)) ∷ ts)
    ≡ says (record { draft = record d { exports = d.exports ++ record e { words = suc words } ∷ [] }; place = place.Exports }) ts
unfolding computed
words-read parts.Name d e words ts h = goes-on _ (suc words) _ _ (within-is 0 31 (suc words) (omega arith) h)
words-read parts.Internal d e words ts h = goes-on _ (suc words) _ _ (within-is 0 31 (suc words) (omega arith) h)
words-read parts.Ordinal d e words ts h = goes-on _ (suc words) _ _ (within-is 0 31 (suc words) (omega arith) h)
words-read parts.Resident d e words ts h = goes-on _ (suc words) _ _ (within-is 0 31 (suc words) (omega arith) h)
words-read parts.NoData d e words ts h = goes-on _ (suc words) _ _ (within-is 0 31 (suc words) (omega arith) h)

-- So does the next item, or IMPORTS.
export-ends : (part : Part) (d : Draft) (e : Exp) (exports : List Exp) (rest : List Lexeme)
    → says (record { draft = d; place = place.Export e part }) (joined (map export_tokens exports) ++ keyword kw.Imports ∷ rest)
    ≡ says (record { draft = record d { exports = d.exports ++ e ∷ [] }; place = place.Exports }) (joined (map export_tokens exports) ++ keyword kw.Imports ∷ rest)
unfolding computed
export-ends parts.Name d e [] rest = refl
export-ends parts.Internal d e [] rest = refl
export-ends parts.Ordinal d e [] rest = refl
export-ends parts.Resident d e [] rest = refl
export-ends parts.NoData d e [] rest = refl
export-ends parts.Name d e (next ∷ exports) rest = refl
export-ends parts.Internal d e (next ∷ exports) rest = refl
export-ends parts.Ordinal d e (next ∷ exports) rest = refl
export-ends parts.Resident d e (next ∷ exports) rest = refl
export-ends parts.NoData d e (next ∷ exports) rest = refl

end-read : (words : ℕ) (part : Part) (d : Draft) (name internal : List ℕ) (ordinal : Option ℕ) (resident nodata : Bool) (exports : List Exp) (rest : List Lexeme) → words ≤ 31
    → says (record { draft = d; place = place.Export (item name internal ordinal resident nodata) part })
    (words_tokens words ++ (joined (map export_tokens exports) ++ keyword kw.Imports ∷ rest))
    ≡ says (record { draft = record d { exports = d.exports ++ record (item name internal ordinal resident nodata) { words = words } ∷ [] }; place = place.Exports })
    (joined (map export_tokens exports) ++ keyword kw.Imports ∷ rest)
end-read zero part d name internal ordinal resident nodata exports rest h =
    export-ends part d (item name internal ordinal resident nodata) exports rest
end-read (suc words) part d name internal ordinal resident nodata exports rest h =
    ap (λ ts. says (record { draft = d; place = place.Export (item name internal ordinal resident nodata) part })
    (ts ++ (joined (map export_tokens exports) ++ keyword kw.Imports ∷ rest))) (words-are words)
    ∙ words-read part d (item name internal ordinal resident nodata) words _ h

-- ---- items

regrouped : (a b c d e : List Lexeme) → (a ++ b ++ c ++ d) ++ e ≡ a ++ (b ++ (c ++ (d ++ e)))
regrouped a b c d e = simp append_assoc

name-read : (d : Draft) (name internal : List ℕ) (ts : List Lexeme) → name ≢ [] → internal ≢ [] → IsName name → IsName internal
    → says (record { draft = d; place = place.Exports }) (text name ∷ equals ∷ text internal ∷ ts)
    ≡ says (record { draft = d; place = place.Export (item name internal None false false) parts.Internal }) ts
unfolding computed
name-read d name internal ts some other short few =
    goes-on _ name _ _ (name-is name some short) ∙ goes-on _ internal _ _ (name-is internal other few)

export-read : (e : Exp) (d : Draft) (exports : List Exp) (rest : List Lexeme) → WholeExport e → ExportNames IsName e
    → says (record { draft = d; place = place.Exports }) (export_tokens e ++ (joined (map export_tokens exports) ++ keyword kw.Imports ∷ rest))
    ≡ says (record { draft = record d { exports = d.exports ++ e ∷ [] }; place = place.Exports })
    (joined (map export_tokens exports) ++ keyword kw.Imports ∷ rest)
export-read e d exports rest whole short =
    let others : List Lexeme = joined (map export_tokens exports) ++ keyword kw.Imports ∷ rest in
    let words : List Lexeme = words_tokens e.words ++ others in
    let nodata : List Lexeme = flag_tokens e.nodata kw.NoData ++ words in
    let resident : List Lexeme = flag_tokens e.resident kw.ResidentName ++ nodata in
    ap (λ ts. says (record { draft = d; place = place.Exports }) (text e.name ∷ equals ∷ text e.internal ∷ ts))
    (regrouped (ordinal_tokens e.ordinal) (flag_tokens e.resident kw.ResidentName) (flag_tokens e.nodata kw.NoData) (words_tokens e.words) others)
    ∙ name-read d e.name e.internal (ordinal_tokens e.ordinal ++ resident) whole.name whole.internal short.name short.internal
    ∙ ordinal-read e.ordinal d e.name e.internal resident whole.ordinal
    ∙ resident-read e.resident e.ordinal d e.name e.internal nodata
    ∙ nodata-read e.nodata e.resident e.ordinal d e.name e.internal words
    ∙ end-read e.words (nodata_part e.nodata (resident_part e.resident (ordinal_part e.ordinal))) d e.name e.internal e.ordinal e.resident e.nodata exports rest whole.words

imports-begin : (d : Draft) (rest : List Lexeme)
    → says (record { draft = d; place = place.Exports }) (keyword kw.Imports ∷ rest) ≡ says (record { draft = d; place = place.Imports }) rest
unfolding computed
imports-begin d rest = refl

pub exports-read : (exports : List Exp) (d : Draft) (done : List Exp) (rest : List Lexeme)
    → All WholeExport exports → All (λ (e : Exp). ExportNames IsName e) exports
    → says (record { draft = with_exports d done; place = place.Exports }) (joined (map export_tokens exports) ++ keyword kw.Imports ∷ rest)
    ≡ says (record { draft = with_exports d (done ++ exports); place = place.Imports }) rest
exports-read [] d done rest whole short =
    imports-begin (with_exports d done) rest
    ∙ ap (λ xs. says (record { draft = with_exports d xs; place = place.Imports }) rest) (sym (append-nil done))
exports-read (e ∷ exports) d done rest whole short =
    ap (λ ts. says (record { draft = with_exports d done; place = place.Exports }) ts)
    (append_assoc (export_tokens e) (joined (map export_tokens exports)) (keyword kw.Imports ∷ rest))
    ∙ export-read e (with_exports d done) exports rest (All-head WholeExport e exports whole) (All-head (λ (e : Exp). ExportNames IsName e) e exports short)
    ∙ exports-read exports d (done ++ e ∷ []) rest (All-tail WholeExport e exports whole) (All-tail (λ (e : Exp). ExportNames IsName e) e exports short)
    ∙ ap (λ xs. says (record { draft = with_exports d xs; place = place.Imports }) rest) (append_assoc done (e ∷ []) exports)
