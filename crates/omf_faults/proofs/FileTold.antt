-- The first fault of a record, a module and a file is told by what is spelled.
use Rattle.std.proofs.Common.{◌≡◌, ℕ, suc, ◌+◌, Bool, true, false, eqb, List, [], ◌∷◌, ◌++◌, length, Result, Ok, Err, refl, sym, ap, subst, ◌∙◌, inl, inr}
use Rattle.std.specs.Prelude.{◌||◌, ◌⊎◌, ◌↔◌}
use Rattle.std.proofs.lemmas.Bool.{eqb-true, eqb-false, eq-eqb}
use Rattle.lx_bytes.specs.Cursor.{Cursor}
use Rattle.lx_bytes.specs.LittleEndian.{AreBytes}
use Rattle.obj_types.specs.declared.refusal.OmfRefusal.{OmfRefusal}
use Rattle.obj_types.specs.declared.refusal.OmfRefusal.TheVariants.{UnknownType, BadChecksum, BadField}
use Rattle.obj_types.specs.declared.parts.ObjParts.{ObjParts}
use Rattle.omf_frame.specs.Frame.{record_bytes, BeginsWhole}
use Rattle.omf_frame.specs.RecordType.{is_record_type}
use Rattle.omf_frame.specs.declared.refusal.FrameRefusal.TheVariants as framing
use Rattle.lx_types.specs.Answers.{◌>>=◌}
use Rattle.omf_fields.specs.Fields.{check, name_at}
use Rattle.omf_fields.proofs.SpanLaws.{done}
use Rattle.omf_model.specs.Record.{Record, header}
use Rattle.omf_model.specs.RawRecord.{RawRecord, whole_at, raw_at, sum_of}
use Rattle.omf_model.specs.ReadModule.{contents_of, reader_of, record_at, header_at}
use Rattle.omf_model.specs.Object.{FaultAt, at_header, after_records}
use Rattle.omf_model.specs.Parts.{parts_of}
use Rattle.omf_model.proofs.RawLaws.{raw, whole_sound, whole_short, whole_cut, raw_sound, raw_refused, raw_begun}
use Rattle.omf_model.proofs.RecordLaws.{reader_sound, reader_complete, AreBytes-front}
use Rattle.omf_model.proofs.ModuleLaws.{bind_err}
use Rattle.omf_faults.specs.Parts.{ConditionThen}
use Rattle.omf_faults.specs.FieldParts.{a_name}
use Rattle.omf_faults.specs.WrongContents.{WrongContents}
use Rattle.omf_faults.specs.FirstFaults.{GoodContents, WrongFrame, contents_at, FrameThen, WrongRecord, WrongHeader, WrongModule}
use Rattle.omf_faults.proofs.Told.{refused, ok_no_err, err_bind, done_tells, last_tells, condition_tells}
use Rattle.omf_faults.proofs.FieldTold.{name_judges}
use Rattle.omf_faults.proofs.TypeTold.{contents_found, contents_shown}

-- ---- a record's contents are bytes

body_bytes : (bytes : List ℕ) (ty : ℕ) (body : List ℕ) (checksum : ℕ) (rest : List ℕ) → BeginsWhole bytes ty body checksum rest → AreBytes bytes → AreBytes body
body_bytes bytes ty body checksum rest w h =
    let all : AreBytes (record_bytes ty body checksum) = AreBytes-front (record_bytes ty body checksum) rest (subst AreBytes w.joined h) in
    AreBytes-front body (checksum ∷ []) (λ i. all (suc (suc (suc i))))

-- ---- what stands round a record's contents

refusal_is : (d e : OmfRefusal) → refused {A = RawRecord} d ≡ Err e → e ≡ d
refusal_is d e is = let same : d ≡ e = cc in sym same

not_right : (checksum total : ℕ) → (eqb checksum 0 || eqb total 0) ≡ false → ((checksum ≡ 0) ⊎ (total ≡ 0)) → ⊥
not_right checksum total is (inl zero_) = let both : true ≡ false = sym (ap (λ (b : Bool). b || eqb total 0) (eq-eqb checksum 0 zero_)) ∙ is in absurd cc
not_right checksum total is (inr zero_) = eqb-false total 0 (last (eqb checksum 0) (eqb total 0) is) zero_
  where
    last : (a b : Bool) → (a || b) ≡ false → b ≡ false
    last true b e = absurd cc
    last false b e = e

frame_found : (c : Cursor) (e : OmfRefusal) → AreBytes c.left → raw_at c ≡ Err e → WrongFrame c e
unfolding raw_at
frame_found c e bytes is =
    elim (bind_err (whole_at c) (λ f. check (is_record_type f.ty) (UnknownType c.at f.ty) >>= λ known. check (eqb f.checksum 0 || eqb (sum_of f) 0) (BadChecksum c.at (sum_of f)) >>= λ right. done f) e is) [
      | inl none ↦ (framing.Short c.at, (refl, whole_cut c e none), sym (whole_short c e none))
      | inr x ↦ by_type x.0 (whole_sound c x.0 bytes x.1).whole (is_record_type x.0.ty) (eqb x.0.checksum 0 || eqb (sum_of x.0) 0) refl refl x.2
    ]
  where
    by_type : (f : RawRecord) → BeginsWhole c.left f.ty f.contents f.checksum f.after.left → (known right : Bool) → is_record_type f.ty ≡ known → (eqb f.checksum 0 || eqb (sum_of f) 0) ≡ right
        → (check known (UnknownType c.at f.ty) >>= λ a. check right (BadChecksum c.at (sum_of f)) >>= λ b. done f) ≡ Err e → WrongFrame c e
    by_type f whole false right known_is right_is fails = (
      framing.UnknownType c.at f.ty,
      (refl, record { body = f.contents; checksum = f.checksum; rest = f.after.left; whole = whole; unknown = λ known. let both : true ≡ false = sym known ∙ known_is in absurd cc }),
      refusal_is (UnknownType c.at f.ty) e fails,
    )
    by_type f whole true false known_is right_is fails = (
      framing.BadChecksum c.at (sum_of f),
      (refl, record { ty = f.ty; body = f.contents; checksum = f.checksum; rest = f.after.left; whole = whole; known = known_is; wrong = not_right f.checksum (sum_of f) right_is; sum = refl }),
      refusal_is (BadChecksum c.at (sum_of f)) e fails,
    )
    by_type f whole true true known_is right_is fails = absurd (ok_no_err f e fails)

-- a record's frame, and what is read of its contents
frame_tells : {B : Type 0} (c : Cursor) (f : RawRecord → Result B OmfRefusal) (e : OmfRefusal) (Inside : ℕ → Cursor → Type 0) → AreBytes c.left
    → ((ty : ℕ) (body : List ℕ) (checksum : ℕ) (rest : List ℕ) → AreBytes body → (f (raw c.at ty body checksum rest) ≡ Err e) ↔ Inside ty (contents_at c body)) → ((raw_at c >>= f) ≡ Err e) ↔ FrameThen c e Inside
frame_tells {B} c f e Inside bytes k = (to, from)
  where
    to : (raw_at c >>= f) ≡ Err e → FrameThen c e Inside
    to is = elim (bind_err (raw_at c) f e is) [
      | inl none ↦ inl (frame_found c e bytes none)
      | inr x ↦
          let r : RawRecord = x.0 in
          let g = raw_sound c r bytes x.1 in
          let same : r ≡ raw c.at r.ty r.contents r.checksum r.after.left =
          (λ i. record { at = g.is.place i; ty = r.ty; contents = r.contents; checksum = r.checksum; after = record { at = g.is.after i; left = r.after.left } }) in
          let fails : f (raw c.at r.ty r.contents r.checksum r.after.left) ≡ Err e = sym (ap f same) ∙ x.2 in
          inr (
            r.ty,
            r.contents,
            r.after.left,
            record { checksum = r.checksum; whole = g.is.whole; known = g.known; right = g.right },
            (k r.ty r.contents r.checksum r.after.left (body_bytes c.left r.ty r.contents r.checksum r.after.left g.is.whole bytes)).0 fails,
          )
    ]

    from : FrameThen c e Inside → (raw_at c >>= f) ≡ Err e
    from (inl w) = err_bind (raw_at c) f e (raw_refused c w.0 w.1 ∙ ap (λ (y : OmfRefusal). refused {A = RawRecord} y) (sym w.2))
    from (inr w) =
        ap (λ (r : Result RawRecord OmfRefusal). r >>= f) (raw_begun c w.0 w.1 w.2 w.3)
        ∙ (k w.0 w.1 w.3.checksum w.2 (body_bytes c.left w.0 w.1 w.3.checksum w.2 w.3.whole bytes)).1 w.4

-- ---- records

record_tells : (p : ObjParts) (c : Cursor) (e : OmfRefusal) → AreBytes c.left → (record_at p c ≡ Err e) ↔ WrongRecord p c e
unfolding record_at
record_tells p c e bytes =
    frame_tells c (λ f. reader_of f.ty p f.at (contents_of f) >>= λ r. done (r, f.after)) e (λ ty d. WrongContents ty p c.at d e) bytes λ ty body checksum rest b.
    done_tells (reader_of ty p c.at (contents_at c body)) (λ r. (r, (raw c.at ty body checksum rest).after)) e _ (contents_found ty p c.at (contents_at c body) e b, contents_shown ty p c.at (contents_at c body) e b)

is_header : (ty : ℕ) → ((eqb ty 0x80 || eqb ty 0x82) ≡ true) ↔ ((ty ≡ 0x80) ⊎ (ty ≡ 0x82))
is_header ty = (to (eqb ty 0x80) (eqb ty 0x82) refl refl, from)
  where
    to : (a b : Bool) → eqb ty 0x80 ≡ a → eqb ty 0x82 ≡ b → (a || b) ≡ true → (ty ≡ 0x80) ⊎ (ty ≡ 0x82)
    to true b p q h = inl (eqb-true _ _ p)
    to false true p q h = inr (eqb-true _ _ q)
    to false false p q h = absurd cc

    from : (ty ≡ 0x80) ⊎ (ty ≡ 0x82) → (eqb ty 0x80 || eqb ty 0x82) ≡ true
    from (inl h) = rw h refl
    from (inr h) = rw h refl

header_tells : (c : Cursor) (e : OmfRefusal) → AreBytes c.left → (header_at c ≡ Err e) ↔ WrongHeader c e
unfolding header_at
header_tells c e bytes =
    frame_tells c (λ f. check (eqb f.ty 0x80 || eqb f.ty 0x82) (BadField c.at) >>= λ ok. name_at (contents_of f) >>= λ name. done (header name.0, f.after)) e
    (λ ty d. ConditionThen ((ty ≡ 0x80) ⊎ (ty ≡ 0x82)) (BadField c.at) e (a_name.wrong d e)) bytes λ ty body checksum rest b.
    condition_tells (eqb ty 0x80 || eqb ty 0x82) _ (is_header ty) (BadField c.at) _ e _ λ ok.
    last_tells name_at a_name name_judges (contents_at c body) (λ name. (header name.0, (raw c.at ty body checksum rest).after)) e b

-- ---- modules

back_bytes : (bytes front back : List ℕ) → bytes ≡ front ++ back → AreBytes bytes → AreBytes back
back_bytes bytes [] back is h = subst AreBytes is h
back_bytes bytes (b ∷ front) back is h = back_bytes (front ++ back) front back refl (λ i. subst AreBytes is h (suc i))

pub module_found : (at : ℕ) (bytes : List ℕ) (e : OmfRefusal) → AreBytes bytes → FaultAt at bytes e → WrongModule at bytes e
module_found at bytes e h (at_header fails) = inl ((header_tells (record { at = at; left = bytes }) e h).0 fails)
module_found at bytes e h (after_records f) = inr (record {
  records = f.records;
  front = f.front;
  back = f.back;
  joined = f.joined;
  spelled = f.spelled;
  begun = f.begun;
  open_ended = f.open_ended;
  wrong = (record_tells (parts_of f.records) (record { at = at + length f.front; left = f.back }) e (back_bytes bytes f.front f.back f.joined h)).0 f.fault;
})

pub module_shown : (at : ℕ) (bytes : List ℕ) (e : OmfRefusal) → AreBytes bytes → WrongModule at bytes e → FaultAt at bytes e
module_shown at bytes e h (inl w) = at_header ((header_tells (record { at = at; left = bytes }) e h).1 w)
module_shown at bytes e h (inr w) = after_records (record {
  records = w.records;
  front = w.front;
  back = w.back;
  joined = w.joined;
  spelled = w.spelled;
  begun = w.begun;
  open_ended = w.open_ended;
  fault = (record_tells (parts_of w.records) (record { at = at + length w.front; left = w.back }) e (back_bytes bytes w.front w.back w.joined h)).1 w.wrong;
})

-- ---- good or wrong

pub good_or_wrong : (ty : ℕ) (p : ObjParts) (at : ℕ) (c : Cursor) → AreBytes c.left → GoodContents ty p c ⊎ ((e : OmfRefusal) × WrongContents ty p at c e)
good_or_wrong ty p at c bytes = by (reader_of ty p at c) refl
  where
    by : (r : Result Record OmfRefusal) → reader_of ty p at c ≡ r → GoodContents ty p c ⊎ ((e : OmfRefusal) × WrongContents ty p at c e)
    by (Ok r) is = let s = reader_sound ty at p c r bytes is in inl (record { spelled = r; wide = s.wide; is_type = s.is_type; content = s.content; good = s.good })
    by (Err e) is = inr (e, contents_found ty p at c e bytes is)

pub not_good_and_wrong : (ty : ℕ) (p : ObjParts) (at : ℕ) (c : Cursor) (e : OmfRefusal) → AreBytes c.left → GoodContents ty p c → WrongContents ty p at c e → ⊥
not_good_and_wrong ty p at c e bytes g w =
    let there = (reader_complete p at c g.spelled ty g.wide g.is_type g.good g.content).0 in
    ok_no_err g.spelled e (sym there ∙ contents_shown ty p at c e bytes w)

pub one_wrong : (ty : ℕ) (p : ObjParts) (at : ℕ) (c : Cursor) (e f : OmfRefusal) → AreBytes c.left → WrongContents ty p at c e → WrongContents ty p at c f → e ≡ f
one_wrong ty p at c e f bytes w v =
    let both : refused {A = Record} e ≡ Err f = sym (contents_shown ty p at c e bytes w) ∙ contents_shown ty p at c f bytes v in
    let same : e ≡ f = cc in same
