-- Names and texts that fit between single quotes are read again.
use Rattle.std.proofs.Common.{◌≡◌, ◌≢◌, ℕ, List, [], ◌∷◌, refl, Bool, true, false, ◌&&◌, Option, Some, None}
use Rattle.std.specs.Prelude.{IfSome, ◌==◌, not}
use Rattle.std.specs.Option.{option_map_or}
use Rattle.std.specs.List.{All, list_all}
use Rattle.std.proofs.lemmas.Bool.{eqb-false}
use Rattle.std.proofs.lemmas.List.Elements.{All-nil, All-cons}
use Rattle.lx_types.specs.declared.entry.EntryKey.{EntryKey}
use Rattle.lx_types.specs.declared.entry.EntryKey.TheVariants.{Ordinal, Named}
use Rattle.obj_types.specs.declared.definition.DefFile.{DefFile}
use Rattle.obj_types.specs.declared.definition.SegAttrs.{SegAttrs}
use Rattle.obj_types.specs.declared.symbol.Exp.{Exp}
use Rattle.obj_types.specs.declared.symbol.Imp.{Imp}
use Rattle.def_write.specs.Spelling.{IsQuotable}
use Rattle.def_tokens.proofs.LexemeLaws.{first-true, second-true}
use Rattle.def_write.specs.Names.{EachName, SegmentNames, ExportNames, ImportNames, EntryName}
use Rattle.def_write.specs.Quotable.{text_fits, segment_fits, export_fits, entry_fits, import_fits, file_fits}

-- What a test of each item says of each item.
each-passes : {X : Type 0} (p : X → Bool) (P : X → Type 0) → ((x : X) → p x ≡ true → P x) → (xs : List X) → list_all p xs ≡ true → All P xs
each-passes p P tells [] h = All-nil P
each-passes p P tells (x ∷ xs) h =
    All-cons P x xs (tells x (first-true (p x) (list_all p xs) h)) (each-passes p P tells xs (second-true (p x) (list_all p xs) h))

not-true : (test : Bool) → not test ≡ true → test ≡ false
not-true true h = cc
not-true false h = refl

byte-fits : (b : ℕ) → (not (b == 39) && not (b == 13) && not (b == 10)) ≡ true → (b ≢ 39) × (b ≢ 13) × (b ≢ 10)
byte-fits b h =
    let both : (not (b == 39) && not (b == 13)) ≡ true = first-true (not (b == 39) && not (b == 13)) (not (b == 10)) h in (
      eqb-false b 39 (not-true (b == 39) (first-true (not (b == 39)) (not (b == 13)) both)),
      eqb-false b 13 (not-true (b == 13) (second-true (not (b == 39)) (not (b == 13)) both)),
      eqb-false b 10 (not-true (b == 10) (second-true (not (b == 39) && not (b == 13)) (not (b == 10)) h)),
    )

text-fits : (bytes : List ℕ) → text_fits bytes ≡ true → IsQuotable bytes
text-fits bytes h =
    each-passes (λ b. not (b == 39) && not (b == 13) && not (b == 10)) (λ b. (b ≢ 39) × (b ≢ 13) × (b ≢ 10)) byte-fits bytes h

option-fits : (text : Option (List ℕ)) → option_map_or text_fits text true ≡ true → IfSome text IsQuotable
option-fits None h = tt
option-fits (Some bytes) h = text-fits bytes h

segment-fits : (s : SegAttrs) → segment_fits s ≡ true → SegmentNames IsQuotable s
segment-fits s h =
    record {
      name = text-fits s.name (first-true (text_fits s.name) (option_map_or text_fits s.class true) h);
      class = option-fits s.class (second-true (text_fits s.name) (option_map_or text_fits s.class true) h);
    }

export-fits : (e : Exp) → export_fits e ≡ true → ExportNames IsQuotable e
export-fits e h =
    record {
      name = text-fits e.name (first-true (text_fits e.name) (text_fits e.internal) h);
      internal = text-fits e.internal (second-true (text_fits e.name) (text_fits e.internal) h);
    }

entry-fits : (entry : EntryKey) → entry_fits entry ≡ true → EntryName IsQuotable entry
entry-fits (Ordinal n) h = tt
entry-fits (Named name) h = text-fits name h

import-fits : (i : Imp) → import_fits i ≡ true → ImportNames IsQuotable i
import-fits i h =
    let both : (text_fits i.name && text_fits i.module) ≡ true = first-true (text_fits i.name && text_fits i.module) (entry_fits i.entry) h in
    record {
      name = text-fits i.name (first-true (text_fits i.name) (text_fits i.module) both);
      «module» = text-fits i.module (second-true (text_fits i.name) (text_fits i.module) both);
      entry = entry-fits i.entry (second-true (text_fits i.name && text_fits i.module) (entry_fits i.entry) h);
    }

pub file-fits : (d : DefFile) → file_fits d ≡ true → EachName IsQuotable d
unfolding file_fits
file-fits d h =
    let name : Bool = option_map_or text_fits d.name true in
    let about : Bool = text_fits d.about in
    let segs : Bool = list_all segment_fits d.segs in
    let exports : Bool = list_all export_fits d.exports in
    let imports : Bool = list_all import_fits d.imports in
    let four : (name && about && segs && exports) ≡ true = first-true (name && about && segs && exports) imports h in
    let three : (name && about && segs) ≡ true = first-true (name && about && segs) exports four in
    let two : (name && about) ≡ true = first-true (name && about) segs three in
    record {
      name = option-fits d.name (first-true name about two);
      about = text-fits d.about (second-true name about two);
      segs = each-passes segment_fits (λ (s : SegAttrs). SegmentNames IsQuotable s) segment-fits d.segs (second-true (name && about) segs three);
      exports = each-passes export_fits (λ (e : Exp). ExportNames IsQuotable e) export-fits d.exports (second-true (name && about && segs) exports four);
      imports = each-passes import_fits (λ (i : Imp). ImportNames IsQuotable i) import-fits d.imports (second-true (name && about && segs && exports) imports h);
    }
