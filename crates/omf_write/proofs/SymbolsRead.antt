-- Written externals and publics are read as what they were.
use Rattle.std.proofs.Common.{◌≡◌, ℕ, ◌<◌, ◌≤◌, Bool, true, false, cond, List, [], ◌∷◌, ◌++◌, length, None, refl, sym, ap, subst, arith, length-append}
use Rattle.std.proofs.lemmas.Bool.Decides.{nat_tests}
use Rattle.std.specs.Prelude.{◌==◌}
use Rattle.std.specs.List.{AllByRecursion, flat_map}
use Rattle.lx_bytes.specs.LittleEndian.{little_bytes}
use Rattle.lx_bytes.proofs.Numbers.{length-little_bytes}
use Rattle.obj_types.specs.declared.object.Seg.{Seg}
use Rattle.obj_types.specs.declared.object.ObjModule.{ObjModule}
use Rattle.obj_types.specs.declared.symbol.Ext.{Ext}
use Rattle.obj_types.specs.declared.symbol.Pub.{Pub}
use Rattle.obj_types.specs.declared.symbol.PubPlace.{PubPlace}
use Rattle.obj_types.specs.declared.symbol.PubPlace.TheVariants.{In, Const}
use Rattle.obj_types.specs.Whole.{WholePlace}
use Rattle.omf_fields.specs.Forms.{Form, ◌then◌, nothing, present, number, name, index, each}
use Rattle.omf_model.specs.Record.{Record, extdef, ExtDef, pubdef, PubDef}
use Rattle.omf_model.specs.Add.{add}
use Rattle.omf_model.specs.Spelling.{contents_form, ext_form, pub_form}
use Rattle.implib_model.specs.Framed.{record_of, name_bytes}
use Rattle.omf_write.specs.ObjectBytes.{index_bytes, extdef_record, pubdef_bytes, pubdef_record}
use Rattle.omf_write.specs.ObjectFits.{PlaceFits}
use Rattle.omf_write.specs.Writable.{IsPlainExt, IsPlainPub, IsInSegment}
use Rattle.omf_write.proofs.FieldBytes.{spells_as, index_spelled, index_len, name_spelled}
use Rattle.omf_write.proofs.Goes.{Goes, one, items}
use Rattle.omf_write.proofs.ImportRead.{both, last}
use Rattle.omf_write.proofs.Listed.{index_there}
use Rattle.omf_write.proofs.SegmentsRead.{parts}

-- ---- externals

abbrev pub with_exts : ObjModule → List Ext → ObjModule
with_exts m exts = record m { exts = exts }

pub record ReadyExt (e : Ext) : Type 0 where
  pub plain : IsPlainExt e
  pub name : length e.name ≤ 255

abbrev ext_def : List ℕ → ExtDef
ext_def text = record { name = text; type = 0 }

ext_spelled : (text : List ℕ) → length text ≤ 255 → contents_form false (extdef false (ext_def text ∷ [])) (name_bytes text ++ 0 ∷ [])
ext_spelled text short =
    last (ext_form (ext_def text)) (name_bytes text ++ 0 ∷ [])
    (both (name text) (index 0) (name_bytes text) (0 ∷ []) (name_spelled text short) (index_spelled 0 (omega arith)))

abbrev plain_ext : Ext → Ext
plain_ext e = record { name = e.name; local = false; common = None }

ext_is : (e : Ext) → IsPlainExt e → plain_ext e ≡ e
ext_is e plain = λ i. record { name = e.name; local = sym plain.0 i; common = sym plain.1 i }

ext_step : (names : List (List ℕ)) (m : ObjModule) (before : List Ext) (e : Ext) → ReadyExt e → Goes (parts names (with_exts m before)) (extdef_record e) (parts names (with_exts m (before ++ e ∷ [])))
unfolding add
ext_step names m before e ready =
    let short = ready.name in
    let two = length-append e.name (0 ∷ []) in
    one (parts names (with_exts m before)) (parts names (with_exts m (before ++ e ∷ []))) (extdef false (ext_def e.name ∷ [])) (extdef_record e)
    (refl, tt) refl
    (spells_as (extdef false (ext_def e.name ∷ [])) 0x8C false (name_bytes e.name ++ 0 ∷ []) (0, omega arith, refl) (omega (arith, short, two)) refl (ext_spelled e.name short))
    (ap (λ (x : Ext). parts names (with_exts m (before ++ x ∷ []))) (ext_is e ready.plain))

pub exts_go : (names : List (List ℕ)) (m : ObjModule) (exts : List Ext) → AllByRecursion ReadyExt exts → Goes (parts names (with_exts m [])) (flat_map extdef_record exts) (parts names (with_exts m exts))
exts_go names m exts all = items (λ es. parts names (with_exts m es)) extdef_record ReadyExt (ext_step names m) [] exts all

-- ---- publics

abbrev pub with_pubs : ObjModule → List Pub → ObjModule
with_pubs m pubs = record m { pubs = pubs }

pub record ReadyPub (m : ObjModule) (p : Pub) : Type 0 where
  pub plain : IsPlainPub p
  pub place : WholePlace m p.place
  pub name : length p.name ≤ 255
  pub fits : PlaceFits p.place

abbrev pub_def : List ℕ → ℕ → PubDef
pub_def text offset = record { name = text; offset = offset; type = 0 }

abbrev in_segment : List ℕ → ℕ → List PubDef → Record
in_segment text seg defs = pubdef false 0 seg None defs

not_zero : (n : ℕ) → 1 ≤ n → (n == 0) ≡ false
not_zero n least = grind (arith, nat_tests)

absent : (b : Bool) (form : Form) (rest : List ℕ) → b ≡ false → form rest → (present b (number 2) None then form) rest
absent true form rest e is = absurd cc
absent false form rest e is = both nothing form [] rest refl is

pub_spelled : (text : List ℕ) (seg offset : ℕ) → length text ≤ 255 → 1 ≤ seg → seg ≤ 32767 → offset < 0x100000000 → contents_form true (in_segment text seg (pub_def text offset ∷ [])) (pubdef_bytes text (In seg offset))
pub_spelled text seg offset short least most fits =
    let d : PubDef = pub_def text offset in
    let tail : List ℕ = little_bytes 4 offset ++ 0 ∷ [] in
    let body : List ℕ = name_bytes text ++ tail in
    let end : (number 4 offset then index 0) tail = both (number 4 offset) (index 0) (little_bytes 4 offset) (0 ∷ []) (omega (arith, fits), refl) (index_spelled 0 (omega arith)) in
    let def : pub_form true d body = both (name text) (number 4 offset then index 0) (name_bytes text) tail (name_spelled text short) end in
    let defs : each (pub_form true) (d ∷ []) body = last (pub_form true d) body def in
    let frame = absent (seg == 0) (each (pub_form true) (d ∷ [])) body (not_zero seg least) defs in
    let segment = both (index seg) (present (seg == 0) (number 2) None then each (pub_form true) (d ∷ [])) (index_bytes seg) body (index_spelled seg most) frame in
    both (index 0) _ (0 ∷ []) (index_bytes seg ++ body) (index_spelled 0 (omega arith)) segment

pub_short : (text : List ℕ) (seg offset : ℕ) → length text ≤ 255 → length (pubdef_bytes text (In seg offset)) < 65535
pub_short text seg offset short =
    let four = length-little_bytes 4 offset in
    let i = index_len seg in
    let l3 = length-append (index_bytes seg) (name_bytes text ++ (little_bytes 4 offset ++ 0 ∷ [])) in
    let l2 = length-append text (little_bytes 4 offset ++ 0 ∷ []) in
    let l1 = length-append (little_bytes 4 offset) (0 ∷ []) in
    omega (arith, short, four, i, l1, l2, l3)

abbrev placed_pub : List ℕ → PubPlace → Pub
placed_pub text place = record { name = text; local = false; place = place }

place_by : (b : Bool) (seg offset : ℕ) → b ≡ false → cond b (Const offset) (In seg offset) ≡ In seg offset
place_by true seg offset e = absurd cc
place_by false seg offset e = refl

pub_by : (names : List (List ℕ)) (m : ObjModule) → length m.segs ≤ 32767 → (before : List Pub) (text : List ℕ) (place : PubPlace) → length text ≤ 255 → IsInSegment place → WholePlace m place → PlaceFits place
    → Goes (parts names (with_pubs m before)) (record_of 0x91 (pubdef_bytes text place)) (parts names (with_pubs m (before ++ placed_pub text place ∷ [])))
unfolding add
pub_by names m few before text (In seg offset) short plain whole fits =
    let there = index_there (λ (s : Seg). s.debug ≡ false) m.segs seg whole in
    let least = there.0 in
    let most = there.1 in
    let d : PubDef = pub_def text offset in
    one (parts names (with_pubs m before)) (parts names (with_pubs m (before ++ placed_pub text (In seg offset) ∷ []))) (in_segment text seg (d ∷ [])) (record_of 0x91 (pubdef_bytes text (In seg offset)))
    (record { in_group = omega arith; index = omega (arith, most, few); in_segment = λ e. whole; types = (refl, tt) }) refl
    (spells_as (in_segment text seg (d ∷ [])) 0x91 true (pubdef_bytes text (In seg offset)) (1, omega arith, refl) (pub_short text seg offset short) refl
    (pub_spelled text seg offset short least (omega (arith, most, few)) fits))
    (ap (λ (x : PubPlace). parts names (with_pubs m (before ++ placed_pub text x ∷ []))) (place_by (seg == 0) seg offset (not_zero seg least)))
pub_by names m few before text (Const value) short plain whole fits = absurd plain

pub_is : (p : Pub) → p.local ≡ false → placed_pub p.name p.place ≡ p
pub_is p e = λ i. record { name = p.name; local = sym e i; place = p.place }

pub_step : (names : List (List ℕ)) (m : ObjModule) → length m.segs ≤ 32767 → (before : List Pub) (p : Pub) → ReadyPub m p → Goes (parts names (with_pubs m before)) (pubdef_record p) (parts names (with_pubs m (before ++ p ∷ [])))
pub_step names m few before p ready =
    subst (λ (x : Pub). Goes (parts names (with_pubs m before)) (pubdef_record p) (parts names (with_pubs m (before ++ x ∷ [])))) (pub_is p ready.plain.0)
    (pub_by names m few before p.name p.place ready.name ready.plain.1 ready.place ready.fits)

pub pubs_go : (names : List (List ℕ)) (m : ObjModule) → length m.segs ≤ 32767 → (pubs : List Pub) → AllByRecursion (ReadyPub m) pubs → Goes (parts names (with_pubs m [])) (flat_map pubdef_record pubs) (parts names (with_pubs m pubs))
pubs_go names m few pubs all = items (λ ps. parts names (with_pubs m ps)) pubdef_record (ReadyPub m) (pub_step names m few) [] pubs all
