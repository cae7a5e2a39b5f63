-- What is known of each item of a module that is written.
use Rattle.std.proofs.Common.{◌≡◌, ℕ, suc, ◌<◌, ◌≤◌, Bool, true, false, cond, List, [], ◌∷◌, ◌++◌, length, refl, sym, subst, ◌∙◌, append_assoc, arith}
use Rattle.std.proofs.lemmas.List.Elements.{recursion_from_All}
use Rattle.std.specs.List.{AllByRecursion, AllPairs, list_any}
use Rattle.lx_types.specs.Names.{IsName}
use Rattle.obj_types.specs.declared.object.Seg.{Seg}
use Rattle.obj_types.specs.declared.object.Group.{Group}
use Rattle.obj_types.specs.declared.object.Piece.{Piece}
use Rattle.obj_types.specs.declared.object.FixAt.{FixAt}
use Rattle.obj_types.specs.declared.object.ObjModule.{ObjModule}
use Rattle.obj_types.specs.declared.symbol.Pub.{Pub}
use Rattle.obj_types.specs.declared.symbol.Ext.{Ext}
use Rattle.obj_types.specs.declared.symbol.Imp.{Imp}
use Rattle.obj_types.specs.declared.symbol.Exp.{Exp}
use Rattle.obj_types.specs.Whole.{WholeModule, WholeSeg, WholeGroup, WholePlace, WholeFix, WholeExp, IsPlainSeg, LiesIn}
use Rattle.name_table.specs.Entries.{is_named, with_entry}
use Rattle.omf_model.proofs.PairLaws.{Pairs}
use Rattle.implib_model.specs.ImportModule.{ImportFits, NamesFit}
use Rattle.omf_write.specs.ObjectNames.{NameList, with_names, seg_names, group_names, names_of, texts}
use Rattle.omf_write.specs.ObjectBytes.{grpdef_bytes}
use Rattle.omf_write.specs.ObjectFits.{SegFits, GroupFits, ExtFits, PubFits, ExpFits, PieceFits, FixFits, ObjectFits}
use Rattle.omf_write.specs.Writable.{IsNoDebug, IsPlainPub, IsPlainExt, IsWritable}
use Rattle.omf_write.proofs.CommentsRead.{ReadyImport, ReadyExport}
use Rattle.omf_write.proofs.DataRead.{ReadyPiece}
use Rattle.omf_write.proofs.FixupsRead.{ReadyFix, Apart, Allowed}
use Rattle.omf_write.proofs.GroupsRead.{ReadyGroup}
use Rattle.omf_write.proofs.NamesRead.{IsThere, named, all_there}
use Rattle.omf_write.proofs.SegmentsRead.{ReadySeg, IsShort}
use Rattle.omf_write.proofs.SymbolsRead.{ReadyExt, ReadyPub}

-- ---- names

short_by : (b : Bool) (entries : NameList) (name : List ℕ) → AllByRecursion IsShort (texts entries) → IsName name → AllByRecursion IsShort (texts (cond b entries (entries ++ (name, 0) ∷ [])))
short_by true entries name all short = all
short_by false [] name all short = (short, tt)
short_by false (e ∷ entries) name all short = (all.0, short_by false entries name all.1 short)

short_names : (names : List (List ℕ)) (entries : NameList) → AllByRecursion IsShort (texts entries) → AllByRecursion IsName names → AllByRecursion IsShort (texts (with_names entries names))
short_names [] entries all short = all
short_names (name ∷ names) entries all short = short_names names (with_entry entries name 0) (short_by (list_any (is_named name) entries) entries name all short.0) short.1

seg_names_short : (segs : List Seg) (rest : List (List ℕ)) → AllByRecursion SegFits segs → AllByRecursion IsName rest → AllByRecursion IsName (seg_names segs ++ rest)
seg_names_short [] rest all short = short
seg_names_short (s ∷ segs) rest all short = (all.0.name, (all.0.class, seg_names_short segs rest all.1 short))

group_names_short : (groups : List Group) → AllByRecursion GroupFits groups → AllByRecursion IsName (group_names groups)
group_names_short [] all = tt
group_names_short (g ∷ groups) all = (all.0, group_names_short groups all.1)

abbrev all_names : ObjModule → List (List ℕ)
all_names m = [] ∷ seg_names m.segs ++ group_names m.groups

pub names_short : (m : ObjModule) → ObjectFits m → AllByRecursion IsShort (texts (names_of m))
names_short m fits = short_names (all_names m) [] tt (omega arith, seg_names_short m.segs (group_names m.groups) fits.segments.segs (group_names_short m.groups fits.segments.groups))

abbrev AreThere : NameList → Seg → Type 0
AreThere entries s = IsThere entries s.name × IsThere entries s.class

segs_there : (all front : List (List ℕ)) (segs : List Seg) (rest : List (List ℕ)) → all ≡ front ++ (seg_names segs ++ rest) → AllByRecursion (AreThere (with_names [] all)) segs
segs_there all front [] rest is = tt
segs_there all front (s ∷ segs) rest is =
    let tail : List (List ℕ) = seg_names segs ++ rest in
    let name : IsThere (with_names [] all) s.name = subst (λ (ns : List (List ℕ)). IsThere (with_names [] ns) s.name) (sym is) (all_there front (s.class ∷ tail) [] s.name) in
    let next : all ≡ (front ++ s.name ∷ []) ++ (s.class ∷ tail) = is ∙ sym (append_assoc front (s.name ∷ []) (s.class ∷ tail)) in
    let class : IsThere (with_names [] all) s.class = subst (λ (ns : List (List ℕ)). IsThere (with_names [] ns) s.class) (sym next) (all_there (front ++ s.name ∷ []) tail [] s.class) in
    ((name, class), segs_there all (front ++ s.name ∷ s.class ∷ []) segs rest (is ∙ sym (append_assoc front (s.name ∷ s.class ∷ []) tail)))

groups_there : (all front : List (List ℕ)) (groups : List Group) → all ≡ front ++ group_names groups → AllByRecursion (λ (g : Group). IsThere (with_names [] all) g.name) groups
groups_there all front [] is = tt
groups_there all front (g ∷ groups) is = (
  subst (λ (ns : List (List ℕ)). IsThere (with_names [] ns) g.name) (sym is) (all_there front (group_names groups) [] g.name),
  groups_there all (front ++ g.name ∷ []) groups (is ∙ sym (append_assoc front (g.name ∷ []) (group_names groups))),
)

-- ---- items

ready_segs_by : (names : NameList) (segs : List Seg) → AllByRecursion WholeSeg segs → AllByRecursion IsNoDebug segs → AllByRecursion SegFits segs → AllByRecursion (AreThere names) segs → AllByRecursion (ReadySeg names) segs
ready_segs_by names [] a b c d = tt
ready_segs_by names (s ∷ segs) a b c d =
    (record { whole = a.0; no_debug = b.0; len = c.0.len; name = named names s.name d.0.0; class = named names s.class d.0.1 }, ready_segs_by names segs a.1 b.1 c.1 d.1)

pub ready_segs : (m : ObjModule) → IsWritable m → ObjectFits m → AllByRecursion (ReadySeg (names_of m)) m.segs
ready_segs m can fits =
    ready_segs_by (names_of m) m.segs (recursion_from_All WholeSeg m.segs can.whole.segs) can.no_debug fits.segments.segs
    (segs_there (all_names m) ([] ∷ []) m.segs (group_names m.groups) refl)

ready_groups_by : (names : NameList) (m : ObjModule) (groups : List Group) → AllByRecursion (WholeGroup m) groups → AllByRecursion (λ g. length (grpdef_bytes names g) < 65535) groups → AllByRecursion (λ (g : Group). IsThere names g.name) groups → AllByRecursion (ReadyGroup names m) groups
ready_groups_by names m [] a b c = tt
ready_groups_by names m (g ∷ groups) a b c =
    (record { members = recursion_from_All (IsPlainSeg m) g.members a.0.members; flat = a.0.flat; short = b.0; name = named names g.name c.0 }, ready_groups_by names m groups a.1 b.1 c.1)

pub ready_groups : (m : ObjModule) → IsWritable m → AllByRecursion (ReadyGroup (names_of m) m) m.groups
ready_groups m can =
    ready_groups_by (names_of m) m m.groups (recursion_from_All (WholeGroup m) m.groups can.whole.groups) can.members
    (groups_there (all_names m) ([] ∷ seg_names m.segs) m.groups refl)

ready_exts_by : (exts : List Ext) → AllByRecursion IsPlainExt exts → AllByRecursion ExtFits exts → AllByRecursion ReadyExt exts
ready_exts_by [] a b = tt
ready_exts_by (e ∷ exts) a b = (record { plain = a.0; name = b.0 }, ready_exts_by exts a.1 b.1)

pub ready_exts : (m : ObjModule) → IsWritable m → ObjectFits m → AllByRecursion ReadyExt m.exts
ready_exts m can fits = ready_exts_by m.exts can.plain_exts fits.symbols.exts

ready_pubs_by : (m : ObjModule) (pubs : List Pub) → AllByRecursion (λ (p : Pub). WholePlace m p.place) pubs → AllByRecursion IsPlainPub pubs → AllByRecursion PubFits pubs → AllByRecursion (ReadyPub m) pubs
ready_pubs_by m [] a b c = tt
ready_pubs_by m (p ∷ pubs) a b c = (record { plain = b.0; place = a.0; name = c.0.name; fits = c.0.place }, ready_pubs_by m pubs a.1 b.1 c.1)

pub ready_pubs : (m : ObjModule) → IsWritable m → ObjectFits m → AllByRecursion (ReadyPub m) m.pubs
ready_pubs m can fits = ready_pubs_by m m.pubs (recursion_from_All (λ (p : Pub). WholePlace m p.place) m.pubs can.whole.pubs) can.plain_pubs fits.symbols.pubs

ready_imports_by : (imports : List Imp) → AllByRecursion ImportFits imports → AllByRecursion NamesFit imports → AllByRecursion ReadyImport imports
ready_imports_by [] a b = tt
ready_imports_by (i ∷ imports) a b = (record { fits = a.0; names = b.0 }, ready_imports_by imports a.1 b.1)

pub ready_imports : (m : ObjModule) → IsWritable m → ObjectFits m → AllByRecursion ReadyImport m.imports
ready_imports m can fits = ready_imports_by m.imports can.fit_imports fits.symbols.imports

ready_exports_by : (exports : List Exp) → AllByRecursion WholeExp exports → AllByRecursion (λ (e : Exp). e.internal ≡ [] → ⊥) exports → AllByRecursion ExpFits exports → AllByRecursion ReadyExport exports
ready_exports_by [] a b c = tt
ready_exports_by (e ∷ exports) a b c =
    (record { whole = a.0; internal = b.0; short = c.0.name; short_internal = c.0.internal; ordinal = c.0.ordinal }, ready_exports_by exports a.1 b.1 c.1)

pub ready_exports : (m : ObjModule) → IsWritable m → ObjectFits m → AllByRecursion ReadyExport m.exports
ready_exports m can fits = ready_exports_by m.exports (recursion_from_All WholeExp m.exports can.whole.exports) can.internal fits.symbols.exports

ready_pieces_by : (m : ObjModule) (pieces : List Piece) → AllByRecursion (λ (p : Piece). LiesIn m p.seg p.offset (length p.bytes)) pieces → AllByRecursion (λ (p : Piece). length p.bytes ≤ 1024) pieces → AllByRecursion PieceFits pieces → AllByRecursion (ReadyPiece m) pieces
ready_pieces_by m [] a b c = tt
ready_pieces_by m (p ∷ pieces) a b c = (record { range = a.0; short = b.0; offset = c.0 }, ready_pieces_by m pieces a.1 b.1 c.1)

pub ready_pieces : (m : ObjModule) → IsWritable m → ObjectFits m → AllByRecursion (ReadyPiece m) m.pieces
ready_pieces m can fits = ready_pieces_by m m.pieces (recursion_from_All (λ (p : Piece). LiesIn m p.seg p.offset (length p.bytes)) m.pieces can.whole.pieces) can.short fits.pieces

ready_fixes_by : (m : ObjModule) (fixes : List FixAt) → AllByRecursion (WholeFix m) fixes → AllByRecursion FixFits fixes → AllByRecursion (ReadyFix m) fixes
ready_fixes_by m [] a b = tt
ready_fixes_by m (f ∷ fixes) a b = (record { whole = a.0; disp = b.0 }, ready_fixes_by m fixes a.1 b.1)

pub ready_fixes : (m : ObjModule) → IsWritable m → ObjectFits m → AllByRecursion (ReadyFix m) m.fixes
ready_fixes m can fits = ready_fixes_by m m.fixes (recursion_from_All (WholeFix m) m.fixes can.whole.fixes) fits.fixes

-- ---- no two fixups share a byte

pairs_of : (fixes : List FixAt) → AllPairs Apart fixes → Pairs Apart fixes
pairs_of [] all = tt
pairs_of (f ∷ fixes) all = (
  recursion_from_All (Apart f) fixes (λ k d lt. all 0 (suc k) d (omega arith) (omega (arith, lt))),
  pairs_of fixes (λ i j d below lt. all (suc i) (suc j) d (omega (arith, below)) (omega (arith, lt))),
)

pub allowed : (m : ObjModule) → WholeModule m → Allowed m.fixes
allowed m whole = record { apart = pairs_of m.fixes whole.apart; few = whole.fix_limit }
