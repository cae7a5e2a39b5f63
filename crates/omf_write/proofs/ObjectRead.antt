-- A written object file is read as its module.
use Rattle.std.proofs.Common.{◌≡◌, ℕ, List, [], ◌∷◌, ◌++◌, Option, Some, None, refl, sym, ap, subst, ◌∙◌, arith}
use Rattle.std.specs.Prelude.{true, false, IfSome, IsSomeAnd}
use Rattle.std.specs.List.{AllByRecursion, flat_map}
use Rattle.lx_types.specs.Names.{IsName}
use Rattle.obj_types.specs.declared.object.Seg.{Seg}
use Rattle.obj_types.specs.declared.object.Group.{Group}
use Rattle.obj_types.specs.declared.object.Piece.{Piece}
use Rattle.obj_types.specs.declared.object.FixAt.{FixAt}
use Rattle.obj_types.specs.declared.object.StartAt.{StartAt}
use Rattle.obj_types.specs.declared.object.Comdat.{Comdat}
use Rattle.obj_types.specs.declared.object.ObjModule.{ObjModule}
use Rattle.obj_types.specs.declared.symbol.Pub.{Pub}
use Rattle.obj_types.specs.declared.symbol.PubPlace.{PubPlace}
use Rattle.obj_types.specs.declared.symbol.PubPlace.TheVariants.{In, Const}
use Rattle.obj_types.specs.declared.parts.LastData.{LastData}
use Rattle.obj_types.specs.declared.parts.LastData.TheVariants as datas
use Rattle.obj_types.specs.declared.parts.ObjParts.{ObjParts}
use Rattle.obj_types.specs.Fresh.{empty_module, fresh_parts}
use Rattle.obj_types.specs.Items.{item}
use Rattle.obj_types.specs.Whole.{WholeModule, WholePlace, WholeStart}
use Rattle.omf_fields.specs.Forms.{◌then◌, anything, nothing, byte, name}
use Rattle.omf_model.specs.Record.{header, modend, FixData}
use Rattle.omf_model.specs.Add.{add}
use Rattle.omf_model.specs.Finished.{finished}
use Rattle.omf_model.specs.Parts.{parts_of}
use Rattle.omf_model.specs.Spelling.{Spells, fix_data_form}
use Rattle.omf_model.specs.Object.{IsModule, Obj}
use Rattle.omf_model.proofs.EndLaws.{finished-whole}
use Rattle.omf_model.proofs.ModuleLaws.{parts_header}
use Rattle.implib_model.specs.Framed.{record_of, name_bytes}
use Rattle.omf_write.specs.ObjectNames.{NameList, names_of, texts}
use Rattle.omf_write.specs.ObjectBytes.{lnames_record, segdef_record, grpdef_record, extdef_record, pubdef_record, impdef_record, expdef_record, deflib_record, segment_records, symbol_records, data_records, body_records, fix_data_bytes, end_record, object_bytes}
use Rattle.omf_write.specs.ObjectFits.{ObjectFits, StartFits}
use Rattle.omf_write.specs.Writable.{IsOff, IsWritable}
use Rattle.omf_write.proofs.CommentsRead.{with_imports, imports_go, with_exports, exports_go, with_deflibs, deflibs_go}
use Rattle.omf_write.proofs.DataRead.{data_go}
use Rattle.omf_write.proofs.FieldBytes.{spells_as, name_spelled}
use Rattle.omf_write.proofs.FixDataRead.{data_parts, data_of, Few, fix_data_spelled, fix_data_len, good_data, start_is}
use Rattle.omf_write.proofs.Goes.{Goes, goes_on, module_ends}
use Rattle.omf_write.proofs.GroupsRead.{ReadyGroup, with_groups, groups_go}
use Rattle.omf_write.proofs.ImportRead.{both, passed_over}
use Rattle.omf_write.proofs.ObjectReady.{names_short, ready_segs, ready_groups, ready_exts, ready_pubs, ready_imports, ready_exports, ready_pieces, ready_fixes, allowed}
use Rattle.omf_write.proofs.SegmentsRead.{parts, with_segs, names_go, segs_go}
use Rattle.omf_write.proofs.SymbolsRead.{ReadyPub, with_exts, exts_go, with_pubs, pubs_go}

-- ---- the module, list by list

abbrev headed : ObjModule → ObjModule
headed m = record empty_module { name = m.name }

abbrev with_symbols : ObjModule → ObjModule
with_symbols m = record m { pieces = []; fixes = []; start = None; comdats = [] }

few_items : (m : ObjModule) → IsWritable m → Few m
few_items m can = record { segs = can.segs; groups = can.groups; exts = can.exts }

none_off : (pieces : List Piece) → AllByRecursion (λ q. AllByRecursion (IsOff q) []) pieces
none_off [] = tt
none_off (p ∷ pieces) = (tt, none_off pieces)

-- the conditions on groups and publics speak of segments alone
groups_at : (m : ObjModule) (names : NameList) (groups : List Group) → AllByRecursion (ReadyGroup names m) groups → AllByRecursion (ReadyGroup names (with_segs (headed m) m.segs)) groups
groups_at m names [] all = tt
groups_at m names (g ∷ groups) all = (record { members = all.0.members; flat = all.0.flat; short = all.0.short; name = all.0.name }, groups_at m names groups all.1)

pubs_at : (m n : ObjModule) (pubs : List Pub) → n.segs ≡ m.segs → AllByRecursion (ReadyPub m) pubs → AllByRecursion (ReadyPub n) pubs
pubs_at m n [] same all = tt
pubs_at m n (p ∷ pubs) same all = (record { plain = all.0.plain; place = place_at m n p.place same all.0.place; name = all.0.name; fits = all.0.fits }, pubs_at m n pubs same all.1)
  where
    place_at : (m n : ObjModule) (place : PubPlace) → n.segs ≡ m.segs → WholePlace m place → WholePlace n place
    place_at m n (In seg offset) same whole = subst (λ (segs : List Seg). IsSomeAnd (item segs seg) (λ (s : Seg). s.debug ≡ false)) (sym same) whole
    place_at m n (Const value) same whole = tt

segments_go : (m : ObjModule) → IsWritable m → ObjectFits m → Goes (parts [] (headed m)) (segment_records (names_of m) m) (parts (texts (names_of m)) (with_groups (with_segs (headed m) m.segs) m.groups))
segments_go m can fits =
    let names : NameList = names_of m in
    let ns : List (List ℕ) = texts names in
    let m1 : ObjModule = with_segs (headed m) m.segs in
    let m2 : ObjModule = with_groups m1 m.groups in
    let named = names_go (headed m) ns (names_short m fits) in
    let segs = segs_go names (headed m) can.names m.segs (ready_segs m can fits) in
    let groups = groups_go names m1 can.names can.segs m.groups (groups_at m names m.groups (ready_groups m can)) in
    goes_on (parts [] (headed m)) (parts ns (headed m)) (parts ns m2) (flat_map lnames_record ns) (flat_map (segdef_record names) m.segs ++ flat_map (grpdef_record names) m.groups) named
    (goes_on (parts ns (headed m)) (parts ns m1) (parts ns m2) (flat_map (segdef_record names) m.segs) (flat_map (grpdef_record names) m.groups) segs groups)

symbols_go : (m : ObjModule) → IsWritable m → ObjectFits m → (ns : List (List ℕ)) → Goes (parts ns (with_groups (with_segs (headed m) m.segs) m.groups)) (symbol_records m) (parts ns (with_symbols m))
symbols_go m can fits ns =
    let m2 : ObjModule = with_groups (with_segs (headed m) m.segs) m.groups in
    let m3 : ObjModule = with_exts m2 m.exts in
    let m4 : ObjModule = with_pubs m3 m.pubs in
    let m5 : ObjModule = with_imports m4 m.imports in
    let m6 : ObjModule = with_exports m5 m.exports in
    let m7 : ObjModule = with_deflibs m6 m.deflibs in
    let exts : List ℕ = flat_map extdef_record m.exts in
    let pubs : List ℕ = flat_map pubdef_record m.pubs in
    let imports : List ℕ = flat_map impdef_record m.imports in
    let exports : List ℕ = flat_map expdef_record m.exports in
    let deflibs : List ℕ = flat_map deflib_record m.deflibs in
    let a = exts_go ns m2 m.exts (ready_exts m can fits) in
    let b = pubs_go ns m3 can.segs m.pubs (pubs_at m m3 m.pubs refl (ready_pubs m can fits)) in
    let c = imports_go ns m4 m.imports (ready_imports m can fits) in
    let d = exports_go ns m5 m.exports (ready_exports m can fits) in
    let e = deflibs_go ns m6 m.deflibs fits.symbols.deflibs in
    goes_on (parts ns m2) (parts ns m3) (parts ns m7) exts (pubs ++ (imports ++ (exports ++ deflibs))) a
    (goes_on (parts ns m3) (parts ns m4) (parts ns m7) pubs (imports ++ (exports ++ deflibs)) b
    (goes_on (parts ns m4) (parts ns m5) (parts ns m7) imports (exports ++ deflibs) c
    (goes_on (parts ns m5) (parts ns m6) (parts ns m7) exports deflibs d e)))

record BodyGo (m : ObjModule) : Type 0 where
  then_last : LastData
  goes : Goes (parts_of (header m.name ∷ [])) (body_records m) (data_parts (texts (names_of m)) m m.pieces m.fixes then_last)

begin_added : (m : ObjModule) → add fresh_parts (header m.name) ≡ parts [] (headed m)
unfolding add
begin_added m = refl

begin : (m : ObjModule) → parts [] (headed m) ≡ parts_of (header m.name ∷ [])
begin m = sym (parts_header m.name ∙ begin_added m)

body_go : (m : ObjModule) → IsWritable m → ObjectFits m → BodyGo m
body_go m can fits =
    let ns : List (List ℕ) = texts (names_of m) in
    let m2 : ObjModule = with_groups (with_segs (headed m) m.segs) m.groups in
    let s0 : ObjParts = parts [] (headed m) in
    let s1 : ObjParts = parts ns m2 in
    let s2 : ObjParts = parts ns (with_symbols m) in
    let k = data_go ns m (few_items m can) [] m.pieces [] m.fixes datas.None (ready_pieces m can fits) can.whole.data_limit (ready_fixes m can fits) (none_off m.pieces) can.follow (allowed m can.whole) in
    let s3 : ObjParts = data_parts ns m m.pieces m.fixes k.then_last in
    let all = goes_on s0 s1 s3 (segment_records (names_of m) m) (symbol_records m ++ data_records m.pieces m.fixes) (segments_go m can fits)
    (goes_on s1 s2 s3 (symbol_records m) (data_records m.pieces m.fixes) (symbols_go m can fits ns) k.goes) in
    record { then_last = k.then_last; goes = subst (λ (p : ObjParts). Goes p (body_records m) s3) (begin m) all }

-- ---- the end

header_spelled : (text : List ℕ) → IsName text → Spells (record_of 0x80 (name_bytes text)) (header text)
header_spelled text short =
    spells_as (header text) 0x80 false (name_bytes text) (0, omega arith, refl) (omega (arith, short)) refl (passed_over (name text) (name_bytes text) (name_spelled text short))

end_spelled : Spells (record_of 0x8A (0 ∷ [])) (modend 0 None)
end_spelled = spells_as (modend 0 None) 0x8A false (0 ∷ []) (0, omega arith, refl) (omega arith) refl
    (both (byte 0) (nothing then anything) (0 ∷ []) [] (omega arith, refl) (passed_over nothing [] refl))

start_spelled : (m : ObjModule) → Few m → (s : StartAt) → WholeStart m s → StartFits s → Spells (end_record (Some s)) (modend 0xC1 (Some (data_of s.frame s.goal s.disp)))
start_spelled m few s whole fits =
    let d : FixData = data_of s.frame s.goal s.disp in
    let bytes : List ℕ = fix_data_bytes s.frame s.goal s.disp in
    let n = fix_data_len s.frame s.goal s.disp in
    let fix = fix_data_spelled m few s.frame s.goal s.disp whole.0 whole.1 fits in
    spells_as (modend 0xC1 (Some d)) 0x8B true (0xC1 ∷ bytes) (1, omega arith, refl) (omega (arith, n)) refl
    (both (byte 0xC1) (fix_data_form true d then anything) (0xC1 ∷ []) bytes (omega arith, refl) (passed_over (fix_data_form true d) bytes fix))

-- The module without COMDATs, with this start.
abbrev with_start : ObjModule → Option StartAt → ObjModule
with_start m start = record m { start = start; comdats = [] }

-- What ends so is the module at its end, since no number names a COMDAT.
ends_as : (m : ObjModule) (ns : List (List ℕ)) (last : LastData) (kind : ℕ) (last_data : Option FixData) (start : Option StartAt) → Few m → WholeModule (with_start m start)
    → (add (data_parts ns m m.pieces m.fixes last) (modend kind last_data)).module ≡ with_start m start → finished (add (data_parts ns m m.pieces m.fixes last) (modend kind last_data)) ≡ with_start m start
unfolding add
ends_as m ns last kind last_data start few whole is =
    let counted = few.segs in
    finished-whole (add (data_parts ns m m.pieces m.fixes last) (modend kind last_data)) refl (ap (λ (x : ObjModule). x.comdats) is) (subst WholeModule (sym is) whole) (omega (arith, counted)) ∙ is

ended : (m : ObjModule) (ns : List (List ℕ)) (last : LastData) (body : List ℕ) (start : Option StartAt) → Few m → IsName m.name → WholeModule (with_start m start) → IfSome start StartFits
    → Goes (parts_of (header m.name ∷ [])) body (data_parts ns m m.pieces m.fixes last) → IsModule (record_of 0x80 (name_bytes m.name) ++ (body ++ end_record start)) (with_start m start)
ended m ns last body None few short whole fits goes =
    let p : ObjParts = data_parts ns m m.pieces m.fixes last in
    subst (λ (x : ObjModule). IsModule (record_of 0x80 (name_bytes m.name) ++ (body ++ end_record None)) x) (ends_as m ns last 0 None None few whole (added p))
    (module_ends m.name (record_of 0x80 (name_bytes m.name)) body (end_record None) p 0 None (header_spelled m.name short) goes tt end_spelled)
  where
    added : (p : ObjParts) → (add p (modend 0 None)).module ≡ record p.module { start = None }
    added p = unfold add in refl
ended m ns last body (Some s) few short whole fits goes =
    let p : ObjParts = data_parts ns m m.pieces m.fixes last in
    let d : FixData = data_of s.frame s.goal s.disp in
    subst (λ (x : ObjModule). IsModule (record_of 0x80 (name_bytes m.name) ++ (body ++ end_record (Some s))) x) (ends_as m ns last 0xC1 (Some d) (Some s) few whole (added m.pieces m.fixes))
    (module_ends m.name (record_of 0x80 (name_bytes m.name)) body (end_record (Some s)) p 0xC1 (Some d) (header_spelled m.name short) goes
    (good_data ns m m.pieces m.fixes last s.frame s.goal s.disp whole.start.0 whole.start.1) (start_spelled m few s whole.start fits))
  where
    added : (pieces : List Piece) (fixes : List FixAt) → (add (data_parts ns m pieces fixes last) (modend 0xC1 (Some (data_of s.frame s.goal s.disp)))).module ≡ record m { pieces = pieces; fixes = fixes; start = Some s; comdats = [] }
    added pieces fixes = unfold add in ap (λ (o : Option StartAt). record m { pieces = pieces; fixes = fixes; start = o; comdats = [] }) (start_is s)

pub object_is_read : (m : ObjModule) → IsWritable m → ObjectFits m → IsModule (object_bytes m) m
object_is_read m can fits =
    let k = body_go m can fits in
    let ns : List (List ℕ) = texts (names_of m) in
    let same : m ≡ with_start m m.start = ap (λ (cs : List Comdat). record m { comdats = cs }) can.no_comdats in
    subst (λ (x : ObjModule). IsModule (object_bytes m) x) (sym same)
    (ended m ns k.then_last (body_records m) m.start (few_items m can) fits.name (subst WholeModule same can.whole) fits.start k.goes)

-- nothing stands after the module
pub module_is_file : (m : ObjModule) {bytes : List ℕ} → IsModule bytes m → Obj bytes m
module_is_file m {bytes} is = passed_over (λ front. IsModule front m) bytes is
