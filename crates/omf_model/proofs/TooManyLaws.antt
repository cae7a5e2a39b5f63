-- A fixup with more copies than a module may have fixups: they are counted and not made.
use Rattle.std.proofs.Common.{◌≡◌, ℕ, zero, suc, ◌+◌, ◌<◌, Bool, true, false, leb, ltb, List, [], ◌∷◌, length, drop, codes, Some, None, Result, Ok, Err, refl, ap, ◌∙◌, arith, inl, inr}
use Rattle.std.specs.Prelude.{not}
use Rattle.std.specs.List.{list_any, list_all}
use Rattle.std.proofs.lemmas.Bool.{leb-true, ltb-true}
use Rattle.std.proofs.lemmas.List.{length-map}
use Rattle.lx_bytes.specs.Cursor.{Cursor}
use Rattle.lx_bytes.specs.LittleEndian.{AreBytes}
use Rattle.obj_types.specs.declared.limits.TheConstants.{MAX_FIXES}
use Rattle.obj_types.specs.declared.refusal.OmfRefusal.{OmfRefusal}
use Rattle.obj_types.specs.declared.refusal.OmfRefusal.TheVariants.{TooMany}
use Rattle.obj_types.specs.declared.object.Seg.{Seg}
use Rattle.obj_types.specs.declared.object.Group.{Group}
use Rattle.obj_types.specs.declared.object.FixAt.{FixAt}
use Rattle.obj_types.specs.Fresh.{fresh_parts}
use Rattle.obj_types.specs.declared.parts.LastData.TheVariants as datas
use Rattle.obj_types.specs.declared.parts.Threads.{Threads}
use Rattle.obj_types.specs.declared.parts.ObjParts.{ObjParts}
use Rattle.obj_types.specs.Location.{location_len, meets}
use Rattle.omf_fields.specs.Within.{within}
use Rattle.lx_types.specs.Answers.{◌>>=◌}
use Rattle.omf_fields.specs.Fields.{index_below, index_or_zero, items_at, list_within}
use Rattle.omf_model.specs.Blocks.{Blocks, bytes, none, block_bytes}
use Rattle.omf_model.specs.Items.{is_debug_seg}
use Rattle.omf_model.specs.Add.{add}
use Rattle.omf_model.specs.RawRecord.{whole_at, raw_at}
use Rattle.omf_model.specs.ReadNames.{lnames_at, segdef_at, grpdef_at, plain_seg_at}
use Rattle.omf_model.specs.ReadData.{judge_data, lidata_at}
use Rattle.omf_model.specs.Finished.{finished}
use Rattle.omf_model.specs.ReadModule.{record_at, header_at, rest_within, module_at, object_of}
use Rattle.omf_model.specs.WholeExamples.{many_body, byte_fixup, one_too_many}
use Rattle.omf_model.specs.Record.{Record, header, lnames, segdef, grpdef, lidata, FixField, fixup, FixData, location_of, offset_of}
use Rattle.omf_model.specs.Fixups.{has_data, copies_of, fixes_by, are_apart}
use Rattle.omf_model.specs.Copies.{copy_count}
use Rattle.omf_model.specs.ReadBlocks.{block_at, blocks_at, blocks_in}
use Rattle.omf_model.specs.ReadFixups.{FirstByte, judge_fixup, fix_data_at, fixup_at, field_at, fields_at, fixupp_at}
use Rattle.omf_model.proofs.DataLaws.{bool_cases}
use Rattle.omf_model.proofs.FixLaws.{and_true}
use Rattle.omf_model.proofs.TurnLaws.{fields-next, rest-more, rest-next, rest-refused}
use Rattle.omf_model.proofs.CopiesLaws.{copies-found, copies-counted}

-- how many fixes a fixup on blocks has
fixes-counted : (ts : Threads) (seg start : ℕ) (wide : Bool) (body : List ℕ) (high low : ℕ) (d : FixData) →
    length (fixes_by (datas.Blocks seg start wide body) ts (fixup high low d)) ≡ copy_count wide 0 (blocks_in wide body) (offset_of high low)
unfolding fixes_by
fixes-counted ts seg start wide body high low d =
    length-map (copies_of (datas.Blocks seg start wide body) (offset_of high low)) _
    ∙ length-map _ (λ x. start + x)
    ∙ ap (λ (xs : List ℕ). length xs) (copies-found wide 0 (blocks_in wide body) (offset_of high low))
    ∙ copies-counted wide 0 (blocks_in wide body) (offset_of high low)

none-earlier : (new : List FixAt) → are_apart [] new ≡ true
none-earlier new = ap (λ (b : Bool). not b) (by new)
  where
    by : (fs : List FixAt) → list_any (λ g. list_any (λ f. meets f g) []) fs ≡ false
    by [] = refl
    by (f ∷ fs) = by fs

over : (n : ℕ) → MAX_FIXES < n → leb (0 + n) MAX_FIXES ≡ false
over n h = elim (bool_cases (leb (0 + n) MAX_FIXES)) [ inl y ↦ absurd (omega (arith, h, leb-true (0 + n) MAX_FIXES y)) | inr z ↦ z ]

-- A module's first fixup, on blocks with more copies than fixups are allowed.
pub judge-too_many : (p : ObjParts) (first : FirstByte) (low : ℕ) (d : FixData) (seg start : ℕ) (wide : Bool) (body : List ℕ) → p.last ≡ datas.Blocks seg start wide body → p.module.fixes ≡ []
    → has_data (datas.Blocks seg start wide body) (offset_of first.byte low) (location_len (location_of first.byte)) ≡ true
    → MAX_FIXES < copy_count wide 0 (blocks_in wide body) (offset_of first.byte low)
    → judge_fixup p first low d ≡ Err (TooMany first.of_record)
unfolding judge_fixup
judge-too_many p first low d seg start wide body last unfixed on many =
    let counted = fixes-counted p.threads seg start wide body first.byte low d in
    let more : leb (0 + length (fixes_by (datas.Blocks seg start wide body) p.threads (fixup first.byte low d))) MAX_FIXES ≡ false =
    ap (λ (n : ℕ). leb (0 + n) MAX_FIXES) counted ∙ over (copy_count wide 0 (blocks_in wide body) (offset_of first.byte low)) many in
    rw (last, on, unfixed, none-earlier (fixes_by (datas.Blocks seg start wide body) p.threads (fixup first.byte low d)), more) refl

-- ---- a whole file

-- a list of numbers below 256, as it is tested
are_bytes : (bs : List ℕ) → list_all (λ b. ltb b 256) bs ≡ true → AreBytes bs
are_bytes [] e i = omega arith
are_bytes (b ∷ bs) e zero = let k = and_true _ _ e in ltb-true b 256 k.0
are_bytes (b ∷ bs) e (suc i) = let k = and_true _ _ e in are_bytes bs k.1 i

-- what LIDATA leaves, whatever its blocks are
record AfterBlocks (p q : ObjParts) (wide : Bool) (seg offset : ℕ) (blocks : Blocks) : Type 0 where
  last : q.last ≡ datas.Blocks seg offset wide (block_bytes wide blocks)
  fixes : q.module.fixes ≡ p.module.fixes
  segs : q.module.segs ≡ p.module.segs
  groups : q.module.groups ≡ p.module.groups

after-blocks : (p : ObjParts) (wide : Bool) (seg offset : ℕ) (blocks : Blocks) → is_debug_seg p.module.segs seg ≡ false → AfterBlocks p (add p (lidata wide seg offset blocks)) wide seg offset blocks
unfolding add
after-blocks p wide seg offset blocks plain = rw plain (record { last = refl; fixes = refl; segs = refl; groups = refl })

abbrev from : ℕ → List ℕ → Cursor
from at bs = record { at = at; left = bs }

abbrev fixup_bytes : List ℕ
fixup_bytes = 0xC0 ∷ 0x07 ∷ 0x14 ∷ 0x01 ∷ 0x01 ∷ []

field-too_many : (p : ObjParts) (body : List ℕ) → p.last ≡ datas.Blocks 1 0 true body → p.module.fixes ≡ [] → length p.module.groups ≡ 1 → length p.module.segs ≡ 1 → is_debug_seg p.module.segs 1 ≡ false
    → has_data (datas.Blocks 1 0 true body) 7 1 ≡ true → MAX_FIXES < copy_count true 0 (blocks_in true body) 7
    → field_at true p 62 (from 65 fixup_bytes) ≡ Err (TooMany 62)
unfolding field_at fixup_at fix_data_at plain_seg_at index_below
field-too_many p body last unfixed groups segs plain on many =
    let judged = judge-too_many (record p { last = datas.Blocks 1 0 true body }) (record { of_record = 62; at = 65; byte = 0xC0 }) 7
    (record { fix = 0x14; frame = Some 1; target = Some 1; displacement = None }) 1 0 true body refl unfixed on many in
    rw (last, groups, segs, plain, judged) refl

record-too_many : (p : ObjParts) (body : List ℕ) → p.last ≡ datas.Blocks 1 0 true body → p.module.fixes ≡ [] → length p.module.groups ≡ 1 → length p.module.segs ≡ 1 → is_debug_seg p.module.segs 1 ≡ false
    → has_data (datas.Blocks 1 0 true body) 7 1 ≡ true → MAX_FIXES < copy_count true 0 (blocks_in true body) 7
    → record_at p (from 62 byte_fixup) ≡ Err (TooMany 62)
unfolding record_at raw_at whole_at fixupp_at
record-too_many p body last unfixed groups segs plain on many =
    let field = field-too_many p body last unfixed groups segs plain on many in
    let failed : Result (List FixField) OmfRefusal = Err (TooMany 62) in
    let fields : fields_at true 62 p (from 65 fixup_bytes) ≡ failed = fields-next true 62 p (from 65 fixup_bytes) (are_bytes fixup_bytes refl) (λ e. cc) ∙ rw field refl in
    rw fields refl

abbrev names_read : Record
names_read = lnames ([] ∷ codes "CODE32" ∷ codes "CODE" ∷ codes "FLAT" ∷ [])

abbrev segment_read : Record
segment_read = segdef (record { attributes = 0xA9; frame = None; offset = None; len = 1048577; name = 2; class = 3; overlay = 1 })

abbrev many_blocks : Blocks
many_blocks = bytes 1048577 (0xAA ∷ []) none

abbrev p1 : ObjParts
p1 = add fresh_parts (header (codes "a"))

abbrev p4 : ObjParts
p4 = add (add (add p1 names_read) segment_read) (grpdef 4 [])

abbrev rest_bytes : ℕ → List ℕ
rest_bytes n = drop n one_too_many

names-so : record_at p1 (from 6 (rest_bytes 6)) ≡ Ok (names_read, from 28 (rest_bytes 28))
unfolding record_at raw_at whole_at lnames_at list_within within
names-so = refl

segment-so : record_at (add p1 names_read) (from 28 (rest_bytes 28)) ≡ Ok (segment_read, from 40 (rest_bytes 40))
unfolding record_at raw_at whole_at segdef_at index_below index_or_zero add
segment-so = refl

group-so : record_at (add (add p1 names_read) segment_read) (from 40 (rest_bytes 40)) ≡ Ok (grpdef 4 [], from 45 (rest_bytes 45))
unfolding record_at raw_at whole_at grpdef_at index_below list_within within add
group-so = refl

data-so : record_at p4 (from 45 (rest_bytes 45)) ≡ Ok (lidata true 1 0 many_blocks, from 62 byte_fixup)
unfolding record_at raw_at whole_at lidata_at index_below blocks_at block_at items_at list_within within judge_data add
data-so = refl

p4-facts : (p4.module.fixes ≡ []) × (length p4.module.groups ≡ 1) × (length p4.module.segs ≡ 1) × (is_debug_seg p4.module.segs 1 ≡ false)
unfolding add
p4-facts = (refl, refl, refl, refl)

on-body : has_data (datas.Blocks 1 0 true many_body) 7 1 ≡ true
unfolding blocks_in blocks_at block_at items_at list_within within
on-body = refl

many-copies : copy_count true 0 (blocks_in true many_body) 7 ≡ 1048577
unfolding blocks_in blocks_at block_at items_at list_within within
many-copies = refl

last-record : record_at (add p4 (lidata true 1 0 many_blocks)) (from 62 byte_fixup) ≡ Err (TooMany 62)
last-record =
    let q : ObjParts = add p4 (lidata true 1 0 many_blocks) in
    let a = after-blocks p4 true 1 0 many_blocks p4-facts.3 in
    record-too_many q many_body a.last (a.fixes ∙ p4-facts.0) (ap (λ (gs : List Group). length gs) a.groups ∙ p4-facts.1) (ap (λ (ss : List Seg). length ss) a.segs ∙ p4-facts.2)
    (ap (λ (ss : List Seg). is_debug_seg ss 1) a.segs ∙ p4-facts.3) on-body (omega (arith, many-copies))

failed_parts : Result (ObjParts × Cursor) OmfRefusal
failed_parts = Err (TooMany 62)

module-so : module_at (from 0 one_too_many) ≡ (rest_within (length one_too_many) p1 (from 6 (rest_bytes 6)) >>= λ p. Ok (finished p.0, p.1))
unfolding module_at header_at raw_at whole_at
module-so = refl

rest-so : rest_within (length one_too_many) p1 (from 6 (rest_bytes 6)) ≡ failed_parts
unfolding failed_parts
rest-so =
    rest-more (length one_too_many) p1 (from 6 (rest_bytes 6)) (are_bytes (rest_bytes 6) refl) (omega arith)
    ∙ rest-next p1 (from 6 (rest_bytes 6)) names_read (from 28 (rest_bytes 28)) (are_bytes (rest_bytes 6) refl) names-so refl
    ∙ rest-next (add p1 names_read) (from 28 (rest_bytes 28)) segment_read (from 40 (rest_bytes 40)) (are_bytes (rest_bytes 28) refl) segment-so refl
    ∙ rest-next (add (add p1 names_read) segment_read) (from 40 (rest_bytes 40)) (grpdef 4 []) (from 45 (rest_bytes 45)) (are_bytes (rest_bytes 40) refl) group-so refl
    ∙ rest-next p4 (from 45 (rest_bytes 45)) (lidata true 1 0 many_blocks) (from 62 byte_fixup) (are_bytes (rest_bytes 45) refl) data-so refl
    ∙ rest-refused (add p4 (lidata true 1 0 many_blocks)) (from 62 byte_fixup) (TooMany 62) (are_bytes byte_fixup refl) last-record

pub too-many : object_of one_too_many ≡ Err (TooMany 62)
unfolding object_of failed_parts
too-many = rw (module-so, rest-so) refl
