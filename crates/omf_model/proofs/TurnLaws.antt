-- Fields, records and modules, read turn after turn.
use Rattle.std.proofs.Common.{◌≡◌, ◌≢◌, ℕ, ◌≤◌, Bool, true, false, List, [], ◌∷◌, ◌++◌, length, drop, Result, Ok, Err, refl, sym, ap, ◌∙◌, arith, append_assoc, length-drop}
use Rattle.std.proofs.lemmas.List.{append-nil, nil_from_length, take-append-drop}
use Rattle.lx_bytes.specs.Cursor.{Cursor}
use Rattle.lx_bytes.specs.LittleEndian.{AreBytes}
use Rattle.obj_types.specs.declared.refusal.OmfRefusal.{OmfRefusal}
use Rattle.obj_types.specs.declared.object.ObjModule.{ObjModule}
use Rattle.obj_types.specs.declared.parts.ObjParts.{ObjParts}
use Rattle.omf_fields.specs.Within.{within, through, Shortens, EndsSo}
use Rattle.lx_types.specs.Answers.{◌>>=◌}
use Rattle.omf_fields.specs.Taking.{TakesBytes}
use Rattle.omf_fields.specs.Onto.{onto}
use Rattle.omf_fields.specs.Spans.{Free}
use Rattle.omf_fields.proofs.Turns.{enough, one_turn}
use Rattle.omf_fields.proofs.ItemLaws.{bind-same, cond-same, not-empty, takes-form}
use Rattle.omf_model.specs.Record.{Record, FixField, fixupp, is_end}
use Rattle.omf_model.specs.Add.{add, add_field, add_fields}
use Rattle.omf_model.specs.Good.{GoodAfter, GoodField}
use Rattle.omf_model.specs.ReadAfter.{then_add}
use Rattle.omf_model.specs.Spelling.{field_form}
use Rattle.omf_model.specs.RawRecord.{whole_at, raw_at}
use Rattle.omf_model.specs.ReadFixups.{field_at, fields_turn, no_fields, fields_within, fields_at, fixupp_at}
use Rattle.omf_model.specs.ReadModule.{record_at, header_at, rest_turn, records_missing, rest_within, rest_at, module_at, up_to_page, ends_library, modules_turn, module_missing, modules_within, modules_at}
use Rattle.omf_model.proofs.FixuppLaws.{field_sound, field_one}
use Rattle.omf_model.proofs.RecordLaws.{SpellForm, record_sound, spelled_long}
use Rattle.omf_model.proofs.ModuleLaws.{ModuleForm, module_sound, nothing_left}
use Rattle.omf_model.proofs.LibraryLaws.{AreBytes-back, module_long}
use Rattle.omf_model.proofs.PageLaws.{up_from}

-- a state of parts and a cursor
abbrev HasBytes : ObjParts × Cursor → Type 0
HasBytes s = AreBytes s.1.left

abbrev left_of : ObjParts × Cursor → ℕ
left_of s = length s.1.left

-- ---- fields

field-takes : (wide : Bool) (p : ObjParts) (at : ℕ) → TakesBytes (field_at wide p at)
field-takes wide p at = takes-form (field_at wide p at) (field_form wide) (GoodField p) (field_sound p wide at) (field_one wide)

fields_shorten : (wide : Bool) (at : ℕ) → Shortens HasBytes left_of (fields_turn wide at)
fields_shorten wide at f g s bytes same =
    cond-same _ (Ok []) _ _ λ some.
    bind-same (field_at wide s.0 at s.1) _ _ λ first e.
    let less = field-takes wide s.0 at s.1 first.0 first.1 bytes e in
    ap (λ (r : Result (List FixField) OmfRefusal). r >>= λ others. Ok (first.0 ∷ others)) (same (add_field s.0 first.0, first.1) less.1 less.0)

fields_end : (wide : Bool) (at : ℕ) → EndsSo left_of (fields_turn wide at) no_fields
fields_end wide at f s none = rw none refl

fields_through : (wide : Bool) (at : ℕ) (p : ObjParts) (c : Cursor) → fields_at wide at p c ≡ through left_of (fields_turn wide at) no_fields (p, c)
unfolding fields_within through
fields_through wide at p c = refl

pub fields-more : (wide : Bool) (at most : ℕ) (p : ObjParts) (c : Cursor) → AreBytes c.left → length c.left ≤ most → fields_within wide at most p c ≡ fields_at wide at p c
unfolding fields_within
fields-more wide at most p c bytes long = enough HasBytes left_of (fields_turn wide at) no_fields (fields_shorten wide at) (fields_end wide at) most (p, c) bytes long ∙ sym (fields_through wide at p c)

pub fields-next : (wide : Bool) (at : ℕ) (p : ObjParts) (c : Cursor) → AreBytes c.left → c.left ≢ []
    → fields_at wide at p c ≡ (field_at wide p at c >>= λ first. (fields_at wide at (add_field p first.0) first.1 >>= λ others. Ok (first.0 ∷ others)))
fields-next wide at p c bytes some =
    fields_through wide at p c
    ∙ one_turn HasBytes left_of (fields_turn wide at) no_fields (fields_shorten wide at) (fields_end wide at) (p, c) bytes
    ∙ ap (λ (f : ObjParts × Cursor → Result (List FixField) OmfRefusal). fields_turn wide at f (p, c)) (λ i s. sym (fields_through wide at s.0 s.1) i)
    ∙ rw (not-empty c.left some) refl

-- what a FIXUPP record adds, by its fields
added-fields : (p : ObjParts) (r : Result (List FixField) OmfRefusal) → then_add p (r >>= λ fields. Ok (fixupp fields)) ≡ (r >>= λ fields. Ok (add_fields p fields))
unfolding add
added-fields p (Ok fields) = refl
added-fields p (Err e) = refl

added-first : (p : ObjParts) (f : FixField) (r : Result (List FixField) OmfRefusal) → ((r >>= λ others. Ok (f ∷ others)) >>= λ fields. Ok (add_fields p fields)) ≡ (r >>= λ others. Ok (add_fields (add_field p f) others))
unfolding add_fields
added-first p f (Ok others) = refl
added-first p f (Err e) = refl

abbrev adding : ObjParts → Result (List FixField) OmfRefusal → Result ObjParts OmfRefusal
adding p r = r >>= λ fields. Ok (add_fields p fields)

fixupp-adds : (wide : Bool) (at : ℕ) (p : ObjParts) (c : Cursor) → then_add p (fixupp_at wide p at c) ≡ adding p (fields_at wide at p c)
unfolding fixupp_at
fixupp-adds wide at p c = added-fields p (fields_at wide at p c)

pub fixupp-next : (wide : Bool) (at : ℕ) (p : ObjParts) (c : Cursor) (f : FixField) (d : Cursor) → AreBytes c.left → c.left ≢ [] → field_at wide p at c ≡ Ok (f, d)
    → then_add p (fixupp_at wide p at c) ≡ then_add (add_field p f) (fixupp_at wide (add_field p f) at d)
fixupp-next wide at p c f d bytes some e =
    fixupp-adds wide at p c
    ∙ ap (λ (r : Result (List FixField) OmfRefusal). adding p r) (fields-next wide at p c bytes some ∙ rw e refl)
    ∙ added-first p f (fields_at wide at (add_field p f) d)
    ∙ sym (fixupp-adds wide at (add_field p f) d)

no_list : OmfRefusal → Result (List FixField) OmfRefusal
no_list e = Err e

pub fixupp-refused : (wide : Bool) (at : ℕ) (p : ObjParts) (c : Cursor) (refusal : OmfRefusal) → AreBytes c.left → c.left ≢ [] → field_at wide p at c ≡ Err refusal → then_add p (fixupp_at wide p at c) ≡ Err refusal
unfolding no_list
fixupp-refused wide at p c refusal bytes some e =
    let failed : fields_at wide at p c ≡ no_list refusal = fields-next wide at p c bytes some ∙ rw e refl in
    fixupp-adds wide at p c ∙ ap (λ (r : Result (List FixField) OmfRefusal). adding p r) failed

pub fixupp-done : (wide : Bool) (at : ℕ) (p : ObjParts) (c : Cursor) → c.left ≡ [] → then_add p (fixupp_at wide p at c) ≡ Ok p
unfolding fields_within within add_fields
fixupp-done wide at p c none =
    let empty : fields_at wide at p c ≡ Ok [] = rw none refl in
    fixupp-adds wide at p c ∙ ap (λ (r : Result (List FixField) OmfRefusal). adding p r) empty

-- ---- records

record-takes : (p : ObjParts) → TakesBytes (record_at p)
record-takes p = takes-form (record_at p) SpellForm (GoodAfter p) (record_sound p) spelled_long

rest_shorten : Shortens HasBytes left_of rest_turn
rest_shorten f g s bytes same =
    bind-same (record_at s.0 s.1) _ _ λ r e.
    let less = record-takes s.0 s.1 r.0 r.1 bytes e in
    cond-same (is_end r.0) (Ok (add s.0 r.0, r.1)) _ _ λ more. same (add s.0 r.0, r.1) less.1 less.0

rest_end : EndsSo left_of rest_turn records_missing
rest_end f s none = rw (nothing_left s.0 s.1 (nil_from_length s.1.left none)) refl

rest_through : (p : ObjParts) (c : Cursor) → rest_at p c ≡ through left_of rest_turn records_missing (p, c)
unfolding rest_within through
rest_through p c = refl

pub rest-more : (most : ℕ) (p : ObjParts) (c : Cursor) → AreBytes c.left → length c.left ≤ most → rest_within most p c ≡ rest_at p c
unfolding rest_within
rest-more most p c bytes long = enough HasBytes left_of rest_turn records_missing rest_shorten rest_end most (p, c) bytes long ∙ sym (rest_through p c)

rest-turn : (p : ObjParts) (c : Cursor) → AreBytes c.left → rest_at p c ≡ rest_turn (λ s. rest_at s.0 s.1) (p, c)
rest-turn p c bytes =
    rest_through p c
    ∙ one_turn HasBytes left_of rest_turn records_missing rest_shorten rest_end (p, c) bytes
    ∙ ap (λ (f : ObjParts × Cursor → Result (ObjParts × Cursor) OmfRefusal). rest_turn f (p, c)) (λ i s. sym (rest_through s.0 s.1) i)

pub rest-next : (p : ObjParts) (c : Cursor) (r : Record) (d : Cursor) → AreBytes c.left → record_at p c ≡ Ok (r, d) → is_end r ≡ false → rest_at p c ≡ rest_at (add p r) d
rest-next p c r d bytes e more = rest-turn p c bytes ∙ rw (e, more) refl

pub rest-last : (p : ObjParts) (c : Cursor) (r : Record) (d : Cursor) → AreBytes c.left → record_at p c ≡ Ok (r, d) → is_end r ≡ true → rest_at p c ≡ Ok (add p r, d)
rest-last p c r d bytes e last = rest-turn p c bytes ∙ rw (e, last) refl

pub rest-refused : (p : ObjParts) (c : Cursor) (refusal : OmfRefusal) → AreBytes c.left → record_at p c ≡ Err refusal → rest_at p c ≡ Err refusal
rest-refused p c refusal bytes e = rest-turn p c bytes ∙ rw e refl

-- ---- modules

abbrev BytesLeft : Cursor → Type 0
BytesLeft c = AreBytes c.left

abbrev length_of : Cursor → ℕ
length_of c = length c.left

module-takes : TakesBytes module_at
module-takes = takes-form module_at ModuleForm Free module_sound module_long

page_less : (size : ℕ) (c : Cursor) → length (up_to_page size c).left ≤ length c.left
page_less size c =
    shorter (up_from size c.at) c.left
  where
    shorter : (k : ℕ) (xs : List ℕ) → length (drop k xs) ≤ length xs
    shorter k xs = omega (arith, length-drop k xs)

page_bytes : (size : ℕ) (c : Cursor) → AreBytes c.left → AreBytes (up_to_page size c).left
page_bytes size c bytes = AreBytes-back _ (drop (up_from size c.at) c.left) 0 c.left (sym (take-append-drop (up_from size c.at) c.left)) bytes

modules_shorten : (size : ℕ) → Shortens BytesLeft length_of (modules_turn size)
modules_shorten size f g c bytes same =
    cond-same (ends_library c.left) (Ok []) _ _ λ more.
    bind-same (module_at c) _ _ λ m e.
    let less = module-takes c m.0 m.1 bytes e in
    ap (λ (r : Result (List ObjModule) OmfRefusal). r >>= λ others. Ok (m.0 ∷ others)) (same (up_to_page size m.1) (page_bytes size m.1 less.1) (omega (arith, less.0, page_less size m.1)))

modules_end : (size : ℕ) → EndsSo length_of (modules_turn size) module_missing
unfolding module_at header_at raw_at whole_at
modules_end size f c none = rw (nil_from_length c.left none) refl

modules_through : (size : ℕ) (c : Cursor) → modules_at size c ≡ through length_of (modules_turn size) module_missing c
unfolding modules_within through
modules_through size c = refl

pub modules-more : (most size : ℕ) (c : Cursor) → AreBytes c.left → length c.left ≤ most → modules_within most size c ≡ modules_at size c
unfolding modules_within
modules-more most size c bytes long = enough BytesLeft length_of (modules_turn size) module_missing (modules_shorten size) (modules_end size) most c bytes long ∙ sym (modules_through size c)

modules-turn : (size : ℕ) (c : Cursor) → AreBytes c.left → modules_at size c ≡ modules_turn size (modules_at size) c
modules-turn size c bytes =
    modules_through size c
    ∙ one_turn BytesLeft length_of (modules_turn size) module_missing (modules_shorten size) (modules_end size) c bytes
    ∙ ap (λ (f : Cursor → Result (List ObjModule) OmfRefusal). modules_turn size f c) (λ i d. sym (modules_through size d) i)

onto-more : (ms : List ObjModule) (m : ObjModule) (r : Result (List ObjModule) OmfRefusal) → onto ms (r >>= λ others. Ok (m ∷ others)) ≡ onto (ms ++ m ∷ []) r
onto-more ms m (Ok others) = ap (λ (xs : List ObjModule). Ok xs) (sym (append_assoc ms (m ∷ []) others))
onto-more ms m (Err e) = refl

no_modules : OmfRefusal → Result (List ObjModule) OmfRefusal
no_modules e = Err e

some_modules : List ObjModule → Result (List ObjModule) OmfRefusal
some_modules ms = Ok ms

pub modules-next : (size : ℕ) (ms : List ObjModule) (c : Cursor) (m : ObjModule) (d : Cursor) → AreBytes c.left → ends_library c.left ≡ false → module_at c ≡ Ok (m, d)
    → onto ms (modules_at size c) ≡ onto (ms ++ m ∷ []) (modules_at size (up_to_page size d))
modules-next size ms c m d bytes more e =
    ap (λ (r : Result (List ObjModule) OmfRefusal). onto ms r) (modules-turn size c bytes ∙ rw (more, e) refl) ∙ onto-more ms m (modules_at size (up_to_page size d))

pub modules-refused : (size : ℕ) (ms : List ObjModule) (c : Cursor) (refusal : OmfRefusal) → AreBytes c.left → ends_library c.left ≡ false → module_at c ≡ Err refusal → onto ms (modules_at size c) ≡ Err refusal
unfolding no_modules
modules-refused size ms c refusal bytes more e =
    let failed : modules_at size c ≡ no_modules refusal = modules-turn size c bytes ∙ rw (more, e) refl in
    ap (λ (r : Result (List ObjModule) OmfRefusal). onto ms r) failed

pub modules-done : (size : ℕ) (ms : List ObjModule) (c : Cursor) → AreBytes c.left → ends_library c.left ≡ true → onto ms (modules_at size c) ≡ Ok ms
unfolding some_modules
modules-done size ms c bytes end =
    let none : modules_at size c ≡ some_modules [] = modules-turn size c bytes ∙ rw end refl in
    ap (λ (r : Result (List ObjModule) OmfRefusal). onto ms r) none ∙ ap (λ (xs : List ObjModule). some_modules xs) (append-nil ms)
