-- Written names, segments and groups are read as what they were.
use Rattle.std.proofs.Common.{◌≡◌, ◌≢◌, ℕ, ◌+◌, ◌*◌, ◌/◌, ◌%◌, ◌<◌, ◌≤◌, Bool, true, false, cond, List, [], ◌∷◌, ◌++◌, length, Some, None, refl, sym, ap, subst, ◌∙◌, arith, length-append}
use Rattle.std.proofs.lemmas.Bool.Decides.{nat_tests}
use Rattle.std.specs.Prelude.{◌&&◌, not, nat_le, ◌==◌}
use Rattle.std.specs.List.{AllByRecursion, flat_map}
use Rattle.lx_bytes.specs.LittleEndian.{little_bytes}
use Rattle.lx_bytes.proofs.Numbers.{length-little_bytes}
use Rattle.obj_types.specs.declared.object.Seg.{Seg}
use Rattle.obj_types.specs.declared.object.ObjModule.{ObjModule}
use Rattle.obj_types.specs.declared.parts.LastData.TheVariants as datas
use Rattle.obj_types.specs.declared.parts.ObjParts.{ObjParts}
use Rattle.obj_types.specs.Whole.{WholeSeg}
use Rattle.omf_fields.specs.Forms.{Form, ◌then◌, anything, nothing, present, byte, number, name, index}
use Rattle.omf_model.specs.Record.{lnames, segdef, SegDef, align_of, combine_of, is_big}
use Rattle.omf_model.specs.Items.{name_with, seg_of, is_debug}
use Rattle.omf_model.specs.Fixups.{unset}
use Rattle.omf_model.specs.Add.{add}
use Rattle.omf_model.specs.Spelling.{contents_form}
use Rattle.omf_model.specs.Good.{GoodSegDef}
use Rattle.implib_model.specs.Framed.{name_bytes}
use Rattle.omf_write.specs.ObjectNames.{NameList, texts, name_index}
use Rattle.omf_write.specs.ObjectBytes.{index_bytes, bit, lnames_record, attributes_of, place_bytes, segdef_bytes, segdef_record}
use Rattle.omf_write.specs.Writable.{IsNoDebug}
use Rattle.omf_write.proofs.FieldBytes.{spells_as, index_spelled, index_len, name_spelled}
use Rattle.omf_write.proofs.Goes.{Goes, one, items}
use Rattle.omf_write.proofs.ImportRead.{both, last, passed_over}
use Rattle.omf_write.proofs.NamesRead.{HasName}

-- an unfinished module before its data
abbrev pub parts : List (List ℕ) → ObjModule → ObjParts
parts names m = record { names = names; «module» = m; last = datas.None; threads = unset; comdats = [] }

-- ---- names

abbrev pub IsShort : List ℕ → Type 0
IsShort text = length text ≤ 255

name_step : (m : ObjModule) (before : List (List ℕ)) (text : List ℕ) → IsShort text → Goes (parts before m) (lnames_record text) (parts (before ++ text ∷ []) m)
unfolding add
name_step m before text short =
    one (parts before m) (parts (before ++ text ∷ []) m) (lnames (text ∷ [])) (lnames_record text) tt refl
    (spells_as (lnames (text ∷ [])) 0x96 false (name_bytes text) (0, omega arith, refl) (omega (arith, short)) refl (last (name text) (name_bytes text) (name_spelled text short)))
    refl

pub names_go : (m : ObjModule) (names : List (List ℕ)) → AllByRecursion IsShort names → Goes (parts [] m) (flat_map lnames_record names) (parts names m)
names_go m names all = items (λ ns. parts ns m) lnames_record IsShort (name_step m) [] names all

-- ---- the attribute byte

record Attributes (align combine w a : ℕ) : Type 0 where
  align_is : align_of a ≡ align
  combine_is : combine_of a ≡ combine
  small : a < 256
  no_big : a / 2 % 2 ≡ 0
  use32 : a % 2 ≡ w

attributes : (align combine w : ℕ) → align ≤ 5 → combine ≤ 7 → w ≤ 1 → Attributes align combine w (align % 8 * 32 + combine % 8 * 4 + w)
attributes align combine w least most one_bit = record {
  align_is = omega (arith, least, most, one_bit);
  combine_is = omega (arith, least, most, one_bit);
  small = omega (arith, least, most, one_bit);
  no_big = omega (arith, least, most, one_bit);
  use32 = omega (arith, least, most, one_bit);
}

pub bit_most : (b : Bool) → bit b ≤ 1
bit_most true = omega arith
bit_most false = omega arith

pub bit_is : (b : Bool) (n : ℕ) → n ≡ bit b → (n == 1) ≡ b
bit_is true n e = ap (λ (k : ℕ). k == 1) e
bit_is false n e = ap (λ (k : ℕ). k == 1) e

allowed : (align combine : ℕ) → align ≤ 5 → combine ≢ 1 → combine ≢ 3 → (nat_le align 5 && not (combine == 1) && not (combine == 3)) ≡ true
allowed align combine least not_one not_three = grind (arith, nat_tests)

-- ---- segments

-- what is known of a segment that is written
pub record ReadySeg (names : NameList) (s : Seg) : Type 0 where
  pub whole : WholeSeg s
  pub no_debug : IsNoDebug s
  pub len : s.len < 0x100000000
  pub name : HasName names s.name
  pub class : HasName names s.class

abbrev def_of : NameList → Seg → SegDef
def_of names s = record {
  attributes = attributes_of s;
  frame = cond (s.align == 0) (Some 0) None;
  offset = cond (s.align == 0) (Some 0) None;
  len = s.len;
  name = name_index names s.name;
  class = name_index names s.class;
  overlay = 0;
}

attributes_are : (s : Seg) → WholeSeg s → Attributes s.align s.combine (bit s.wide) (attributes_of s)
attributes_are s whole = attributes s.align s.combine (bit s.wide) whole.align whole.combine (bit_most s.wide)

placed : (b : Bool) (form : Form) (rest : List ℕ) → form rest → (present b (number 2) (cond b (Some 0) None) then present b byte (cond b (Some 0) None) then form) (cond b (0 ∷ 0 ∷ 0 ∷ []) [] ++ rest)
placed true form rest is =
    both (number 2 0) (byte 0 then form) (0 ∷ 0 ∷ []) (0 ∷ rest) (omega arith, refl) (both (byte 0) form (0 ∷ []) rest (omega arith, refl) is)
placed false form rest is = both nothing (nothing then form) [] rest refl (both nothing form [] rest refl is)

not_long : (a : ℕ) (b : Bool) → a / 2 % 2 ≡ 0 → (true && is_big a && b) ≡ false
not_long a b e = ap (λ (k : ℕ). (k == 1) && b) e

seg_spelled : (names : NameList) (s : Seg) → length names ≤ 32767 → ReadySeg names s → contents_form true (segdef (def_of names s)) (segdef_bytes names s)
seg_spelled names s few ready =
    let a = attributes_are s ready.whole in
    let n : ℕ = name_index names s.name in
    let c : ℕ = name_index names s.class in
    let most_n = ready.name.most in
    let most_c = ready.class.most in
    let f3 : Form = index c then index 0 then anything in
    let f2 : Form = index n then f3 in
    let f1 : Form = number 4 s.len then f2 in
    let b3 : List ℕ = index_bytes c ++ 0 ∷ [] in
    let b2 : List ℕ = index_bytes n ++ b3 in
    let b1 : List ℕ = little_bytes 4 s.len ++ b2 in
    let len = ready.len in
    let overlay : (index 0 then anything) (0 ∷ []) = passed_over (index 0) (0 ∷ []) (index_spelled 0 (omega arith)) in
    let third : f3 b3 = both (index c) (index 0 then anything) (index_bytes c) (0 ∷ []) (index_spelled c (omega (arith, most_c, few))) overlay in
    let second : f2 b2 = both (index n) f3 (index_bytes n) b3 (index_spelled n (omega (arith, most_n, few))) third in
    let first : f1 b1 = both (number 4 s.len) f2 (little_bytes 4 s.len) b2 (omega (arith, len), refl) second in
    let place = placed (s.align == 0) f1 b1 first in
    let here : (present (align_of (attributes_of s) == 0) (number 2) (def_of names s).frame then present (align_of (attributes_of s) == 0) byte (def_of names s).offset then f1) (place_bytes s.align ++ b1)
    = subst (λ (k : ℕ). (present (k == 0) (number 2) (def_of names s).frame then present (k == 0) byte (def_of names s).offset then f1) (place_bytes s.align ++ b1)) (sym a.align_is) place in
    (not_long (attributes_of s) (s.len == 0) a.no_big, both (byte (attributes_of s)) _ (attributes_of s ∷ []) (place_bytes s.align ++ b1) (a.small, refl) here)

place_len : (b : Bool) → length {A = ℕ} (cond b (0 ∷ 0 ∷ 0 ∷ []) []) ≤ 3
place_len true = omega arith
place_len false = omega arith

pub seg_short : (names : NameList) (s : Seg) → length (segdef_bytes names s) < 65535
seg_short names s =
    let n : List ℕ = index_bytes (name_index names s.name) in
    let c : List ℕ = index_bytes (name_index names s.class) in
    let four = length-little_bytes 4 s.len in
    let i = index_len (name_index names s.name) in
    let j = index_len (name_index names s.class) in
    let p : length (place_bytes s.align) ≤ 3 = place_len (s.align == 0) in
    let l4 = length-append (place_bytes s.align) (little_bytes 4 s.len ++ (n ++ (c ++ 0 ∷ []))) in
    let l3 = length-append (little_bytes 4 s.len) (n ++ (c ++ 0 ∷ [])) in
    let l2 = length-append n (c ++ 0 ∷ []) in
    let l1 = length-append c (0 ∷ []) in
    omega (arith, four, i, j, p, l1, l2, l3, l4)

same_len : (a len : ℕ) → a / 2 % 2 ≡ 0 → cond (is_big a && (len == 0)) 65536 len ≡ len
same_len a len e = ap (λ (k : ℕ). cond ((k == 1) && (len == 0)) 65536 len) e

seg_meant : (names : NameList) (s : Seg) → ReadySeg names s → seg_of (texts names) (def_of names s) ≡ s
seg_meant names s ready =
    let a = attributes_are s ready.whole in
    let n = ready.name.is in
    let c = ready.class.is in
    let wide = bit_is s.wide (attributes_of s % 2) a.use32 in
    let len = same_len (attributes_of s) s.len a.no_big in
    let debug : is_debug (name_with (texts names) (name_index names s.name)) (name_with (texts names) (name_index names s.class)) ≡ s.debug
    = (λ i. is_debug (n i) (c i)) ∙ ready.no_debug.1 ∙ sym ready.no_debug.0 in
    λ i. record { name = n i; class = c i; align = a.align_is i; combine = a.combine_is i; wide = wide i; len = len i; debug = debug i }

good_seg : (names : NameList) (s : Seg) (m : ObjModule) → ReadySeg names s → GoodSegDef (parts (texts names) m) (def_of names s)
good_seg names s m ready =
    let a = attributes_are s ready.whole in
    record {
      attributes = subst (λ (k : ℕ). (nat_le k 5 && not (combine_of (attributes_of s) == 1) && not (combine_of (attributes_of s) == 3)) ≡ true) (sym a.align_is)
          (subst (λ (k : ℕ). (nat_le s.align 5 && not (k == 1) && not (k == 3)) ≡ true) (sym a.combine_is)
          (allowed s.align s.combine ready.whole.align ready.whole.not_reserved.0 ready.whole.not_reserved.1));
      name = (ready.name.low, ready.name.high);
      class = (ready.class.low, ready.class.high);
      overlay = omega arith;
    }

abbrev pub with_segs : ObjModule → List Seg → ObjModule
with_segs m segs = record m { segs = segs }

seg_step : (names : NameList) (m : ObjModule) → length names ≤ 32767 → (before : List Seg) (s : Seg) → ReadySeg names s → Goes (parts (texts names) (with_segs m before)) (segdef_record names s) (parts (texts names) (with_segs m (before ++ s ∷ [])))
unfolding add
seg_step names m few before s ready =
    one (parts (texts names) (with_segs m before)) (parts (texts names) (with_segs m (before ++ s ∷ []))) (segdef (def_of names s)) (segdef_record names s)
    (good_seg names s (with_segs m before) ready) refl
    (spells_as (segdef (def_of names s)) 0x99 true (segdef_bytes names s) (1, omega arith, refl) (seg_short names s) refl (seg_spelled names s few ready))
    (ap (λ (x : Seg). parts (texts names) (with_segs m (before ++ x ∷ []))) (seg_meant names s ready))

pub segs_go : (names : NameList) (m : ObjModule) → length names ≤ 32767 → (segs : List Seg) → AllByRecursion (ReadySeg names) segs → Goes (parts (texts names) (with_segs m [])) (flat_map (segdef_record names) segs) (parts (texts names) (with_segs m segs))
segs_go names m few segs all = items (λ ss. parts (texts names) (with_segs m ss)) (segdef_record names) (ReadySeg names) (seg_step names m few) [] segs all
