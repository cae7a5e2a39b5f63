-- The blocks of LIDATA fail exactly so. "A2h LIDATA".
use Rattle.std.proofs.Common.{◌≡◌, ◌≢◌, ℕ, zero, suc, ◌+◌, ◌^◌, ◌<◌, ◌≤◌, Bool, true, false, cond, ltb, List, [], ◌∷◌, ◌++◌, length, take, Err, refl, sym, ap, ◌∙◌, arith, inl, inr, append_assoc, length-append}
use Rattle.std.specs.Prelude.{◌⊎◌, ◌↔◌}
use Rattle.std.proofs.lemmas.Bool.{ltb-true, lt-ltb}
use Rattle.lx_bytes.specs.Cursor.{Cursor, advance}
use Rattle.lx_bytes.specs.LittleEndian.{AreBytes, little_bytes}
use Rattle.lx_bytes.proofs.Numbers.{length-little_bytes}
use Rattle.obj_types.specs.declared.limits.TheConstants.{MAX_DEPTH}
use Rattle.obj_types.specs.declared.refusal.OmfRefusal.{OmfRefusal}
use Rattle.obj_types.specs.declared.refusal.OmfRefusal.TheVariants.{Short, Nested}
use Rattle.omf_fields.specs.Fields.{width, byte_at, bytes_at, items_at}
use Rattle.omf_fields.specs.Forms.{Form, ◌then◌, number}
use Rattle.omf_fields.proofs.SpanLaws.{Sound, Complete, given}
use Rattle.omf_fields.proofs.ListLaws.{OneByte}
use Rattle.omf_model.specs.Blocks.{count_of, depth_of, head_bytes, block_bytes, FitBlocks}
use Rattle.omf_model.specs.ReadBlocks.{Block, innermost, outer, joined, block_rest, block_at, blocks_at}
use Rattle.omf_model.proofs.BlockLaws.{block_sound, block_complete}
use Rattle.omf_faults.specs.Parts.{Part, PartThen, WrongOf, WrongItem}
use Rattle.omf_faults.specs.FieldParts.{a_byte, IsCut}
use Rattle.omf_faults.specs.DataRecords.{block_form, GoodBlock, WrongBlock, outermost}
use Rattle.omf_faults.proofs.Told.{Judges, refused, ok_no_err, done_tells, part_tells, of_tells}
use Rattle.omf_faults.proofs.FieldTold.{byte_judges, number_judges}
use Rattle.omf_faults.proofs.ListTold.{items_tell}

-- ---- a block field by field, and as the bytes of one block

abbrev times_of : Block → ℕ
times_of (innermost times content) = times
times_of (outer times inner) = times

abbrev inner_count : Block → ℕ
inner_count (innermost times content) = 0
inner_count (outer times inner) = count_of inner

abbrev rest_bytes : Bool → Block → List ℕ
rest_bytes wide (innermost times content) = length content ∷ content
rest_bytes wide (outer times inner) = block_bytes wide inner

abbrev fields_form : Bool → Block → Form
fields_form wide b = number (width wide) (times_of b) then number 2 (inner_count b) then (λ bs. bs ≡ rest_bytes wide b)

abbrev GoodFields : Bool → ℕ → Block → Type 0
GoodFields wide zero b = ⊥
GoodFields wide (suc left) (innermost times content) = length content < 256
GoodFields wide (suc left) (outer times inner) = (1 ≤ count_of inner) × FitBlocks wide inner × (depth_of inner ≤ left)

no_more : (xs : List ℕ) → xs ++ [] ≡ xs
no_more [] = refl
no_more (x ∷ xs) = ap (λ (ys : List ℕ). x ∷ ys) (no_more xs)

-- the bytes of one block
one_block : (wide : Bool) (b : Block) → block_bytes wide (joined (b ∷ [])) ≡ head_bytes wide (times_of b) (inner_count b) ++ rest_bytes wide b
one_block wide (innermost times content) = no_more (head_bytes wide times 0 ++ length content ∷ content)
one_block wide (outer times inner) = no_more (head_bytes wide times (count_of inner) ++ block_bytes wide inner)

as_block : (wide : Bool) (b : Block) (bs : List ℕ) → fields_form wide b bs → block_form wide b bs
as_block wide b bs h =
    h.joined ∙ (λ i. h.first_so.1 i ++ (h.second_so.joined ∙ (λ j. h.second_so.first_so.1 j ++ h.second_so.second_so j)) i)
    ∙ sym (append_assoc (little_bytes (width wide) (times_of b)) (little_bytes 2 (inner_count b)) (rest_bytes wide b)) ∙ sym (one_block wide b)

as_fields : (wide : Bool) (b : Block) (bs : List ℕ) → times_of b < 256 ^ width wide → inner_count b < 2 ^ 16 → block_form wide b bs → fields_form wide b bs
as_fields wide b bs times count h = record {
  front = little_bytes (width wide) (times_of b);
  back = little_bytes 2 (inner_count b) ++ rest_bytes wide b;
  joined = h ∙ one_block wide b ∙ append_assoc (little_bytes (width wide) (times_of b)) (little_bytes 2 (inner_count b)) (rest_bytes wide b);
  first_so = (times, refl);
  second_so = record { front = little_bytes 2 (inner_count b); back = rest_bytes wide b; joined = refl; first_so = (count, refl); second_so = refl };
}

as_good : (wide : Bool) (depths : ℕ) (b : Block) (bs : List ℕ) → fields_form wide b bs → GoodFields wide depths b → GoodBlock depths wide b
as_good wide zero b bs h ok = absurd ok
as_good wide (suc depths) (innermost times content) bs h ok = ((h.first_so.0, ok, tt), omega arith)
as_good wide (suc depths) (outer times inner) bs h ok = ((h.first_so.0, ok.0, h.second_so.first_so.0, ok.1, tt), omega (arith, ok.2))

fits_times : (wide : Bool) (b : Block) → FitBlocks wide (joined (b ∷ [])) → (times_of b < 256 ^ width wide) × (inner_count b < 2 ^ 16)
fits_times wide (innermost times content) fit = (fit.0, omega arith)
fits_times wide (outer times inner) fit = (fit.0, fit.2)

good_fields : (wide : Bool) (depths : ℕ) (b : Block) → GoodBlock depths wide b → GoodFields wide depths b
good_fields wide zero (innermost times content) ok = absurd (omega (arith, ok.1))
good_fields wide zero (outer times inner) ok = absurd (omega (arith, ok.1))
good_fields wide (suc depths) (innermost times content) ok = ok.0.1
good_fields wide (suc depths) (outer times inner) ok = (ok.0.1, ok.0.3, omega (arith, ok.1))

block_judged_sound : (wide : Bool) (depths : ℕ) → Sound (block_at depths wide) (block_form wide) (GoodBlock depths wide)
block_judged_sound wide depths c b d bs e =
    let s = block_sound wide depths c b d bs e in
    (record { front = s.0.front; joined = s.0.joined; moved = s.0.moved; so = as_block wide b s.0.front s.0.so }, as_good wide depths b s.0.front s.0.so s.1)

block_judged_complete : (wide : Bool) (depths : ℕ) → Complete (block_at depths wide) (block_form wide) (GoodBlock depths wide)
block_judged_complete wide depths c b d t ok =
    let fit = fits_times wide b ok.0 in
    block_complete wide depths c b d (record { front = t.front; joined = t.joined; moved = t.moved; so = as_fields wide b t.front fit.0 fit.1 t.so }) (good_fields wide depths b ok)

-- ---- what fails

cut_tells : (n : ℕ) (c : Cursor) (e : OmfRefusal) → (bytes_at n c ≡ Err e) ↔ IsCut n c e
cut_tells n c e = by (ltb (length c.left) n) refl
  where
    by : (few : Bool) → ltb (length c.left) n ≡ few → (cond few (refused {A = List ℕ × Cursor} (Short c.at)) (given (take n c.left) (advance n c)) ≡ Err e) ↔ IsCut n c e
    by true is = (λ h. (ltb-true _ _ is, (let same : Short c.at ≡ e = cc in sym same)), λ w. ap (λ (y : OmfRefusal). refused {A = List ℕ × Cursor} y) (sym w.1))
    by false is = (λ h. absurd (ok_no_err (take n c.left, advance n c) e h), λ w. let both : true ≡ false = sym (lt-ltb _ _ w.0) ∙ is in absurd cc)

abbrev within_depths : ℕ → Bool → Part Block
within_depths depths wide = record { form = block_form wide; good = GoodBlock depths wide; wrong = WrongBlock depths wide }

abbrev WrongInside : ℕ → Bool → ℕ → Cursor → OmfRefusal → Type 0
WrongInside depths wide count c e =
    ((count ≡ 0) × PartThen a_byte c e λ len d. IsCut len d e)
    ⊎ ((count ≢ 0) × WrongOf (within_depths depths wide) count c e)

inside_tells : (depths : ℕ) (wide : Bool) → Judges (block_at depths wide) (within_depths depths wide) → (times count : ℕ) (c : Cursor) (e : OmfRefusal) → AreBytes c.left
    → (block_rest (block_at depths wide) times count c ≡ Err e) ↔ WrongInside depths wide count c e
inside_tells depths wide j times zero c e bs =
    let k : (block_rest (block_at depths wide) times 0 c ≡ Err e) ↔ (PartThen a_byte c e λ len d. IsCut len d e) =
    part_tells byte_at _ byte_judges c _ e _ bs λ len d b. done_tells (bytes_at len d) (λ content. (innermost times content.0, content.1)) e _ (cut_tells len d e) in
    (λ is. inl (refl, k.0 is), λ w. elim w [ inl h ↦ k.1 h.1 | inr h ↦ absurd (h.0 refl) ])
inside_tells depths wide j times (suc more) c e bs =
    let k : (block_rest (block_at depths wide) times (suc more) c ≡ Err e) ↔ WrongOf (within_depths depths wide) (suc more) c e =
    done_tells (items_at (block_at depths wide) (suc more) c) (λ inner. (outer times (joined inner.0), inner.1)) e _ (of_tells (block_at depths wide) (within_depths depths wide) j (suc more) c e bs) in
    (λ is. inr (λ none. omega (arith, none), k.0 is), λ w. elim w [ inl h ↦ absurd (omega (arith, h.0)) | inr h ↦ k.1 h.1 ])

too_deep : (at : ℕ) (e : OmfRefusal) → (refused {A = Block × Cursor} (Nested at) ≡ Err e) ↔ (e ≡ Nested at)
too_deep at e = (λ h. (let same : Nested at ≡ e = cc in sym same), λ is. ap (λ (y : OmfRefusal). refused {A = Block × Cursor} y) (sym is))

none_tells : (wide : Bool) (c : Cursor) (e : OmfRefusal) → AreBytes c.left → (block_at 0 wide c ≡ Err e) ↔ WrongBlock 0 wide c e
unfolding block_at
none_tells wide c e bs = part_tells _ _ (number_judges (width wide)) c _ e _ bs λ times d b. too_deep c.at e

more_tells : (depths : ℕ) (wide : Bool) → Judges (block_at depths wide) (within_depths depths wide) → (c : Cursor) (e : OmfRefusal) → AreBytes c.left → (block_at (suc depths) wide c ≡ Err e) ↔ WrongBlock (suc depths) wide c e
unfolding block_at
more_tells depths wide j c e bs =
    part_tells _ _ (number_judges (width wide)) c _ e _ bs λ times c1 b1.
    part_tells _ _ (number_judges 2) c1 _ e _ b1 λ count c2 b2.
    inside_tells depths wide j times count c2 e b2

pub block_judges : (depths : ℕ) (wide : Bool) → Judges (block_at depths wide) (within_depths depths wide)
block_judges zero wide = record { sound = block_judged_sound wide 0; complete = block_judged_complete wide 0; tells = none_tells wide }
block_judges (suc depths) wide = record { sound = block_judged_sound wide (suc depths); complete = block_judged_complete wide (suc depths); tells = more_tells depths wide (block_judges depths wide) }

-- ---- all blocks

block_one : (wide : Bool) → OneByte (block_form wide)
block_one wide b bs h =
    let all : length bs ≡ width wide + 2 + length (rest_bytes wide b) =
    ap (λ (xs : List ℕ). length xs) (h ∙ one_block wide b) ∙ length-append (head_bytes wide (times_of b) (inner_count b)) (rest_bytes wide b)
    ∙ ap (λ (n : ℕ). n + length (rest_bytes wide b)) (length-append (little_bytes (width wide) (times_of b)) (little_bytes 2 (inner_count b)) ∙ (λ i. length-little_bytes (width wide) (times_of b) i + length-little_bytes 2 (inner_count b) i)) in
    omega (arith, all)

pub blocks_tell : (wide : Bool) (c : Cursor) (e : OmfRefusal) → AreBytes c.left → (blocks_at wide c ≡ Err e) ↔ WrongItem (outermost wide) c e
unfolding blocks_at
blocks_tell wide c e bs = items_tell (block_at MAX_DEPTH wide) (outermost wide) (block_judges MAX_DEPTH wide) (block_one wide) c (λ blocks. joined blocks) e bs
