-- The next record: what is read is spelled so and good, and what is so is read.
use Rattle.std.proofs.Common.{◌≡◌, ℕ, zero, suc, ◌+◌, ◌<◌, ◌≤◌, Bool, true, false, cond, eqb, List, [], ◌∷◌, ◌++◌, length, get_or, Result, Ok, refl, sym, ap, subst, ◌∙◌, arith, inl, inr, length-append}
use Rattle.std.specs.Prelude.{◌⊎◌, ◌||◌}
use Rattle.std.specs.List.{Contains}
use Rattle.std.proofs.lemmas.Bool.{eqb-true, or_cases}
use Rattle.lx_bytes.specs.Cursor.{Cursor}
use Rattle.lx_bytes.specs.LittleEndian.{AreBytes}
use Rattle.std.proofs.lemmas.List.{append-nil, take_at}
use Rattle.omf_frame.specs.Frame.{record_bytes, BeginsWhole, IsChecksum}
use Rattle.omf_frame.specs.RecordType.{is_record_type}
use Rattle.omf_frame.proofs.Records.{AreBytes-take}
use Rattle.obj_types.specs.declared.refusal.OmfRefusal.{OmfRefusal}
use Rattle.obj_types.specs.declared.parts.ObjParts.{ObjParts}
use Rattle.omf_fields.specs.Forms.{Form, anything, name}
use Rattle.omf_model.specs.Record.{Record, header, passed, comment, default_library, impdef, expdef, lnames, segdef, grpdef, pubdef, extdef, comdef, ledata, lidata, comdat, fixupp, modend}
use Rattle.omf_model.specs.RawRecord.{RawRecord, raw_at}
use Rattle.omf_model.specs.ReadModule.{contents_of, is_wide, reader_of, record_at, header_at}
use Rattle.omf_model.specs.Spelling.{pair, types_of, contents_form, Spells}
use Rattle.omf_model.specs.Good.{GoodAfter}
use Rattle.omf_fields.proofs.SpanLaws.{Spans, cursor_is, then_left, left_splits, Sound, Complete, given, ok_is, bind_ok, step, checked_step}
use Rattle.omf_fields.proofs.FieldLaws.{Free, name_sound, name_complete}
use Rattle.omf_model.proofs.NameLaws.{IsRead, ext_types, pub_types, lnames_sound, lnames_complete, segdef_sound, segdef_complete, grpdef_sound, grpdef_complete, pubdef_sound, pubdef_complete, extdef_sound, extdef_complete, comdef_sound, comdef_complete}
use Rattle.omf_model.proofs.CommentLaws.{comment_types, coment_sound, library_complete, impdef_read, expdef_read, comment_read}
use Rattle.omf_model.proofs.DataLaws.{block_types, ledata_sound, ledata_complete, lidata_sound, lidata_complete}
use Rattle.omf_model.proofs.ComdatLaws.{comdat_sound, comdat_complete}
use Rattle.omf_model.proofs.FixuppLaws.{fixupp_sound, fixupp_complete, modend_sound, modend_complete}
use Rattle.omf_model.proofs.RawLaws.{IsRaw, raw, raw_sound, raw_complete}

-- ---- what is read

abbrev Reader : Type 0
Reader = ObjParts → ℕ → Cursor → Result Record OmfRefusal

which : (b : Bool) (f g : Reader) (p : ObjParts) (at : ℕ) (c : Cursor) (r : Record) → cond b f g p at c ≡ Ok r → ((b ≡ true) × (f p at c ≡ Ok r)) ⊎ ((b ≡ false) × (g p at c ≡ Ok r))
which true f g p at c r e = inl (refl, e)
which false f g p at c r e = inr (refl, e)

-- the record is spelled in a type
pub record Found (ty : ℕ) (p : ObjParts) (c : Cursor) (r : Record) : Type 0 where
  pub wide : Bool
  pub is_type : Contains (types_of r) (ty, wide)
  pub content : contents_form wide r c.left
  pub good : GoodAfter p r

found : (types : List (ℕ × Bool)) (ty : ℕ) (p : ObjParts) (c : Cursor) (r : Record) (wide : Bool) → Contains types (ty, wide) → IsRead types p wide c r → Found ty p c r
found types ty p c r wide is h = record { wide = wide; is_type = subst (λ (ts : List (ℕ × Bool)). Contains ts (ty, wide)) (sym h.2) is; content = h.0; good = h.1 }

-- a type, by its byte and its width
abbrev pub HasType : List (ℕ × Bool) → ℕ → Bool → Type 0
HasType types ty wide = Contains types (ty, wide)

abbrev only : ℕ → Bool → List (ℕ × Bool)
only ty wide = (ty, wide) ∷ []

-- of one type
single : (a ty : ℕ) (wide : Bool) → eqb ty a ≡ true → HasType (only a wide) ty wide
single a ty wide e = subst (λ (k : ℕ). HasType (only a wide) k wide) (sym (eqb-true ty a e)) (0, omega arith, refl)

-- of a pair of types, or of one with a twin
twin : (a b ty : ℕ) (types : List (ℕ × Bool)) → Contains types (a, is_wide a) → Contains types (b, is_wide b) → (eqb ty a || eqb ty b) ≡ true → Contains types (ty, is_wide ty)
twin a b ty types first second e =
    elim (or_cases (eqb ty a) (eqb ty b) e) [
      | inl h ↦ subst (λ (k : ℕ). Contains types (k, is_wide k)) (sym (eqb-true ty a h)) first
      | inr h ↦ subst (λ (k : ℕ). Contains types (k, is_wide k)) (sym (eqb-true ty b h)) second
    ]

four : (ty : ℕ) → (eqb ty 0x80 || eqb ty 0x82 || eqb ty 0x94 || eqb ty 0x95) ≡ true → Contains (types_of passed) (ty, is_wide ty)
four ty e =
    elim (or_cases (eqb ty 0x80 || eqb ty 0x82 || eqb ty 0x94) (eqb ty 0x95) e) [
      | inr h ↦ subst (λ (k : ℕ). Contains (types_of passed) (k, is_wide k)) (sym (eqb-true ty 0x95 h)) (3, omega arith, refl)
      | inl h ↦ elim (or_cases (eqb ty 0x80 || eqb ty 0x82) (eqb ty 0x94) h) [
        | inr k ↦ subst (λ (k : ℕ). Contains (types_of passed) (k, is_wide k)) (sym (eqb-true ty 0x94 k)) (2, omega arith, refl)
        | inl k ↦ twin 0x80 0x82 ty (types_of passed) (0, omega arith, refl) (1, omega arith, refl) k
      ]
    ]

pub reader_sound : (ty at : ℕ) (p : ObjParts) (c : Cursor) (r : Record) → AreBytes c.left → reader_of ty p at c ≡ Ok r → Found ty p c r
reader_sound ty at p c r bytes e =
    elim (which (eqb ty 0x88) _ _ p at c r e) [
      | inl h ↦ found comment_types ty p c r false (single 0x88 ty false h.0) (coment_sound p false c r bytes h.1)
      | inr h1 ↦ elim (which (eqb ty 0x8A || eqb ty 0x8B) _ _ p at c r h1.1) [
        | inl h ↦ found (pair 0x8A) ty p c r (is_wide ty) (twin 0x8A 0x8B ty (pair 0x8A) (0, omega arith, refl) (1, omega arith, refl) h.0) (modend_sound p (is_wide ty) c r bytes h.1)
        | inr h2 ↦ elim (which (eqb ty 0x8C) _ _ p at c r h2.1) [
          | inl h ↦ found (ext_types false) ty p c r false (single 0x8C ty false h.0) (extdef_sound p false false c r bytes h.1)
          | inr h3 ↦ elim (which (eqb ty 0x90 || eqb ty 0x91) _ _ p at c r h3.1) [
            | inl h ↦ found (pub_types false) ty p c r (is_wide ty) (twin 0x90 0x91 ty (pair 0x90) (0, omega arith, refl) (1, omega arith, refl) h.0) (pubdef_sound p (is_wide ty) false c r bytes h.1)
            | inr h4 ↦ elim (which (eqb ty 0x96) _ _ p at c r h4.1) [
              | inl h ↦ found ((0x96, false) ∷ []) ty p c r false (single 0x96 ty false h.0) (lnames_sound p false c r bytes h.1)
              | inr h5 ↦ elim (which (eqb ty 0x98 || eqb ty 0x99) _ _ p at c r h5.1) [
                | inl h ↦ found (pair 0x98) ty p c r (is_wide ty) (twin 0x98 0x99 ty (pair 0x98) (0, omega arith, refl) (1, omega arith, refl) h.0) (segdef_sound p (is_wide ty) c r bytes h.1)
                | inr h6 ↦ elim (which (eqb ty 0x9A) _ _ p at c r h6.1) [
                  | inl h ↦ found ((0x9A, false) ∷ []) ty p c r false (single 0x9A ty false h.0) (grpdef_sound p false c r bytes h.1)
                  | inr h7 ↦ elim (which (eqb ty 0x9C || eqb ty 0x9D) _ _ p at c r h7.1) [
                    | inl h ↦ found (pair 0x9C) ty p c r (is_wide ty) (twin 0x9C 0x9D ty (pair 0x9C) (0, omega arith, refl) (1, omega arith, refl) h.0) (fixupp_sound p (is_wide ty) at c r bytes h.1)
                    | inr h8 ↦ elim (which (eqb ty 0xA0 || eqb ty 0xA1) _ _ p at c r h8.1) [
                      | inl h ↦ found (pair 0xA0) ty p c r (is_wide ty) (twin 0xA0 0xA1 ty (pair 0xA0) (0, omega arith, refl) (1, omega arith, refl) h.0) (ledata_sound p (is_wide ty) at c r bytes h.1)
                      | inr h9 ↦ elim (which (eqb ty 0xA2 || eqb ty 0xA3) _ _ p at c r h9.1) [
                        | inl h ↦ found (block_types (is_wide ty)) ty p c r (is_wide ty) (blocks_type ty h.0) (lidata_sound p (is_wide ty) at c r bytes h.1)
                        | inr h10 ↦ elim (which (eqb ty 0xB0) _ _ p at c r h10.1) [
                          | inl h ↦ found ((0xB0, false) ∷ []) ty p c r false (single 0xB0 ty false h.0) (comdef_sound p false c r bytes h.1)
                          | inr h11 ↦ elim (which (eqb ty 0xB4 || eqb ty 0xB5) _ _ p at c r h11.1) [
                            | inl h ↦ found (ext_types true) ty p c r (is_wide ty) (twin 0xB4 0xB5 ty (pair 0xB4) (0, omega arith, refl) (1, omega arith, refl) h.0) (extdef_sound p (is_wide ty) true c r bytes h.1)
                            | inr h12 ↦ elim (which (eqb ty 0xB6 || eqb ty 0xB7) _ _ p at c r h12.1) [
                              | inl h ↦ found (pub_types true) ty p c r (is_wide ty) (twin 0xB6 0xB7 ty (pair 0xB6) (0, omega arith, refl) (1, omega arith, refl) h.0) (pubdef_sound p (is_wide ty) true c r bytes h.1)
                              | inr h13 ↦ elim (which (eqb ty 0xC2 || eqb ty 0xC3) _ _ p at c r h13.1) [
                                | inl h ↦ found (pair 0xC2) ty p c r (is_wide ty) (twin 0xC2 0xC3 ty (pair 0xC2) (0, omega arith, refl) (1, omega arith, refl) h.0) (comdat_sound p (is_wide ty) at c r bytes h.1)
                                | inr h14 ↦ elim (which (eqb ty 0x80 || eqb ty 0x82 || eqb ty 0x94 || eqb ty 0x95) _ _ p at c r h14.1) [
                                  | inl h ↦ subst (λ (q : Record). Found ty p c q) (ok_is passed r h.1) (record { wide = is_wide ty; is_type = four ty h.0; content = tt; good = tt })
                                  | inr h15 ↦ absurd cc
                                ]
                              ]
                            ]
                          ]
                        ]
                      ]
                    ]
                  ]
                ]
              ]
            ]
          ]
        ]
      ]
    ]
  where
    blocks_type : (ty : ℕ) → (eqb ty 0xA2 || eqb ty 0xA3) ≡ true → Contains (block_types (is_wide ty)) (ty, is_wide ty)
    blocks_type ty e =
        elim (or_cases (eqb ty 0xA2) (eqb ty 0xA3) e) [
          | inl h ↦ subst (λ (k : ℕ). Contains (block_types (is_wide k)) (k, is_wide k)) (sym (eqb-true ty 0xA2 h)) (0, omega arith, refl)
          | inr h ↦ subst (λ (k : ℕ). Contains (block_types (is_wide k)) (k, is_wide k)) (sym (eqb-true ty 0xA3 h)) (0, omega arith, refl)
        ]

-- ---- what is so is read

same_type : (types : List (ℕ × Bool)) (ty : ℕ) (wide : Bool) → HasType types ty wide → (Q : ℕ → Bool → Type 0) → ((k : ℕ) → k < length types → (let x : ℕ × Bool = get_or types k (ty, wide) in Q x.0 x.1)) → Q ty wide
same_type types ty wide h Q each =
    subst (λ (x : ℕ × Bool). Q x.0 x.1) h.2 (each h.0 h.1)

by_one : (a : ℕ) (x : Bool) (ty : ℕ) (wide : Bool) → HasType (only a x) ty wide → (Q : ℕ → Bool → Type 0) → Q a x → Q ty wide
by_one a x ty wide h Q first = same_type (only a x) ty wide h Q pick
  where
    pick : (k : ℕ) → k < 1 → (let y : ℕ × Bool = get_or (only a x) k (ty, wide) in Q y.0 y.1)
    pick zero lt = first
    pick (suc k) lt = absurd (omega (arith, lt))

pub by_two : (a b : ℕ) (x y : Bool) (ty : ℕ) (wide : Bool) → HasType (let ts : List (ℕ × Bool) = (a, x) ∷ (b, y) ∷ [] in ts) ty wide → (Q : ℕ → Bool → Type 0) → Q a x → Q b y → Q ty wide
by_two a b x y ty wide h Q first second = same_type ((a, x) ∷ (b, y) ∷ []) ty wide h Q pick
  where
    pick : (k : ℕ) → k < 2 → (let z : ℕ × Bool = get_or (let ts : List (ℕ × Bool) = (a, x) ∷ (b, y) ∷ [] in ts) k (ty, wide) in Q z.0 z.1)
    pick zero lt = first
    pick (suc zero) lt = second
    pick (suc (suc k)) lt = absurd (omega (arith, lt))

by_four : (ty : ℕ) (wide : Bool) → HasType (types_of passed) ty wide → (Q : ℕ → Bool → Type 0) → Q 0x80 false → Q 0x82 false → Q 0x94 false → Q 0x95 true → Q ty wide
by_four ty wide h Q a b c d = same_type (types_of passed) ty wide h Q pick
  where
    pick : (k : ℕ) → k < 4 → (let z : ℕ × Bool = get_or (types_of passed) k (ty, wide) in Q z.0 z.1)
    pick zero lt = a
    pick (suc zero) lt = b
    pick (suc (suc zero)) lt = c
    pick (suc (suc (suc zero))) lt = d
    pick (suc (suc (suc (suc k)))) lt = absurd (omega (arith, lt))

-- a record is read and its type is known
abbrev Read : ObjParts → ℕ → Cursor → Record → ℕ → Bool → Type 0
Read p at c r ty wide = contents_form wide r c.left → (reader_of ty p at c ≡ Ok r) × (is_record_type ty ≡ true)

pub reader_complete : (p : ObjParts) (at : ℕ) (c : Cursor) (r : Record) (ty : ℕ) (wide : Bool) → HasType (types_of r) ty wide → GoodAfter p r → Read p at c r ty wide
reader_complete p at c (header text) ty wide is good = absurd good
reader_complete p at c passed ty wide is good = by_four ty wide is (Read p at c passed) (λ so. (refl, refl)) (λ so. (refl, refl)) (λ so. (refl, refl)) (λ so. (refl, refl))
reader_complete p at c comment ty wide is good = by_one 0x88 false ty wide is (Read p at c comment) (λ so. (comment_read false c so, refl))
reader_complete p at c (default_library text) ty wide is good = by_one 0x88 false ty wide is (Read p at c (default_library text)) (λ so. (library_complete false c text so good, refl))
reader_complete p at c (impdef d) ty wide is good = by_one 0x88 false ty wide is (Read p at c (impdef d)) (λ so. (impdef_read false c d so good, refl))
reader_complete p at c (expdef d) ty wide is good = by_one 0x88 false ty wide is (Read p at c (expdef d)) (λ so. (expdef_read false c d so good, refl))
reader_complete p at c (lnames texts) ty wide is good = by_one 0x96 false ty wide is (Read p at c (lnames texts)) (λ so. (lnames_complete c texts so, refl))
reader_complete p at c (segdef d) ty wide is good = by_two 0x98 0x99 false true ty wide is (Read p at c (segdef d)) (λ so. (segdef_complete p false c d so good, refl)) (λ so. (segdef_complete p true c d so good, refl))
reader_complete p at c (grpdef n members) ty wide is good = by_one 0x9A false ty wide is (Read p at c (grpdef n members)) (λ so. (grpdef_complete p false c n members so good, refl))
reader_complete p at c (pubdef true group segment frame defs) ty wide is good =
    by_two 0xB6 0xB7 false true ty wide is (Read p at c (pubdef true group segment frame defs))
    (λ so. (pubdef_complete p false true c group segment frame defs so good, refl)) (λ so. (pubdef_complete p true true c group segment frame defs so good, refl))
reader_complete p at c (pubdef false group segment frame defs) ty wide is good =
    by_two 0x90 0x91 false true ty wide is (Read p at c (pubdef false group segment frame defs))
    (λ so. (pubdef_complete p false false c group segment frame defs so good, refl)) (λ so. (pubdef_complete p true false c group segment frame defs so good, refl))
reader_complete p at c (extdef true defs) ty wide is good =
    by_two 0xB4 0xB5 false true ty wide is (Read p at c (extdef true defs)) (λ so. (extdef_complete true c defs so good, refl)) (λ so. (extdef_complete true c defs so good, refl))
reader_complete p at c (extdef false defs) ty wide is good = by_one 0x8C false ty wide is (Read p at c (extdef false defs)) (λ so. (extdef_complete false c defs so good, refl))
reader_complete p at c (comdef defs) ty wide is good = by_one 0xB0 false ty wide is (Read p at c (comdef defs)) (λ so. (comdef_complete c defs so good, refl))
reader_complete p at c (ledata seg offset content) ty wide is good =
    by_two 0xA0 0xA1 false true ty wide is (Read p at c (ledata seg offset content))
    (λ so. (ledata_complete p false at c seg offset content so good, refl)) (λ so. (ledata_complete p true at c seg offset content so good, refl))
reader_complete p at c (lidata true seg offset blocks) ty wide is good = by_one 0xA3 true ty wide is (Read p at c (lidata true seg offset blocks)) (λ so. (lidata_complete p true at c seg offset blocks so good, refl))
reader_complete p at c (lidata false seg offset blocks) ty wide is good = by_one 0xA2 false ty wide is (Read p at c (lidata false seg offset blocks)) (λ so. (lidata_complete p false at c seg offset blocks so good, refl))
reader_complete p at c (comdat d) ty wide is good =
    by_two 0xC2 0xC3 false true ty wide is (Read p at c (comdat d)) (λ so. (comdat_complete p false at c d so good, refl)) (λ so. (comdat_complete p true at c d so good, refl))
reader_complete p at c (fixupp fields) ty wide is good =
    by_two 0x9C 0x9D false true ty wide is
    (Read p at c (fixupp fields)) (λ so. (fixupp_complete p false at c fields so good, refl)) (λ so. (fixupp_complete p true at c fields so good, refl))
reader_complete p at c (modend kind start) ty wide is good =
    by_two 0x8A 0x8B false true ty wide is
    (Read p at c (modend kind start)) (λ so. (modend_complete p false c kind start so good, refl)) (λ so. (modend_complete p true c kind start so good, refl))

-- ---- a record at a cursor

abbrev pub SpellForm : Record → Form
SpellForm r bytes = Spells bytes r

length-record : (ty : ℕ) (body : List ℕ) (checksum : ℕ) → length (record_bytes ty body checksum) ≡ 4 + length body
length-record ty body checksum = omega (arith, length-append body (checksum ∷ []))

-- the bytes at a cursor begin with a frame's
raw_spans : (c : Cursor) (f : RawRecord) → IsRaw c f → (r : Record) (wide : Bool) → HasType (types_of r) f.ty wide →
    is_record_type f.ty ≡ true → IsChecksum f.ty f.contents f.checksum → contents_form wide r f.contents → Spans (SpellForm r) c f.after
raw_spans c f is r wide ty known right content = record {
  front = record_bytes f.ty f.contents f.checksum;
  joined = is.whole.joined;
  moved = omega (arith, is.after, length-record f.ty f.contents f.checksum);
  so = record {
    ty = f.ty;
    wide = wide;
    contents = f.contents;
    is_type = ty;
    framed = record {
      checksum = f.checksum;
      whole = record { joined = sym (append-nil (record_bytes f.ty f.contents f.checksum)); counted = is.whole.counted };
      known = known;
      right = right;
    };
    content = content;
  };
}

pub AreBytes-front : (xs ys : List ℕ) → AreBytes (xs ++ ys) → AreBytes xs
AreBytes-front xs ys h = subst AreBytes (take_at xs ys (length xs) refl) (AreBytes-take (length xs) (xs ++ ys) h)

-- a record's contents are bytes
contents_bytes : (c : Cursor) (f : RawRecord) → IsRaw c f → AreBytes c.left → AreBytes f.contents
contents_bytes c f is h =
    let all : AreBytes (record_bytes f.ty f.contents f.checksum ++ f.after.left) = subst AreBytes is.whole.joined h in
    let record_is : AreBytes (record_bytes f.ty f.contents f.checksum) = AreBytes-front (record_bytes f.ty f.contents f.checksum) f.after.left all in
    AreBytes-front f.contents (f.checksum ∷ []) (λ i. record_is (suc (suc (suc i))))

pub record_sound : (p : ObjParts) → Sound (record_at p) SpellForm (GoodAfter p)
unfolding record_at
record_sound p c r d bytes e =
    let a = bind_ok (raw_at c) _ (r, d) e in
    let g = raw_sound c a.0 bytes a.1 in
    let b = bind_ok (reader_of a.0.ty p a.0.at (contents_of a.0)) _ (r, d) a.2 in
    let s = reader_sound a.0.ty a.0.at p (contents_of a.0) b.0 (contents_bytes c a.0 g.is bytes) b.1 in
    subst (λ (q : Record × Cursor). Spans (SpellForm q.0) c q.1 × GoodAfter p q.0) (ok_is (b.0, a.0.after) (r, d) b.2)
    (raw_spans c a.0 g.is b.0 s.wide s.is_type g.known g.right s.content, s.good)

-- a record that is spelled there is taken so
spelled_begins : (c d : Cursor) (r : Record) (t : Spans (SpellForm r) c d) → BeginsWhole c.left t.so.ty t.so.contents t.so.framed.checksum d.left
spelled_begins c d r t = record {
  joined = t.joined ∙ ap (λ (xs : List ℕ). xs ++ d.left) (t.so.framed.whole.joined ∙ append-nil (record_bytes t.so.ty t.so.contents t.so.framed.checksum));
  counted = t.so.framed.whole.counted;
}

after_is : (c d : Cursor) (r : Record) (t : Spans (SpellForm r) c d) → (raw c.at t.so.ty t.so.contents t.so.framed.checksum d.left).after ≡ d
after_is c d r t =
    let long : length t.front ≡ 4 + length t.so.contents =
    ap (λ (xs : List ℕ). length xs) (t.so.framed.whole.joined ∙ append-nil (record_bytes t.so.ty t.so.contents t.so.framed.checksum))
    ∙ length-record t.so.ty t.so.contents t.so.framed.checksum in
    cursor_is d (c.at + 4 + length t.so.contents) d.left (omega (arith, t.moved, long)) refl

pub record_complete : (p : ObjParts) → Complete (record_at p) SpellForm (GoodAfter p)
unfolding record_at
record_complete p c r d t ok =
    let x = reader_complete p c.at (record { at = c.at + 3; left = t.so.contents }) r t.so.ty t.so.wide t.so.is_type ok t.so.content in
    rw (raw_complete c t.so.ty t.so.contents t.so.framed.checksum d.left (spelled_begins c d r t) x.1 t.so.framed.right, x.0) (ap (λ (k : Cursor). given r k) (after_is c d r t))

-- ---- a module's first record

abbrev pub HeaderForm : Record → Form
HeaderForm r bytes = (text : List ℕ) × (r ≡ header text) × Spells bytes r

pub header_sound : Sound header_at HeaderForm Free
unfolding header_at
header_sound c r d bytes e =
    let a = bind_ok (raw_at c) _ (r, d) e in
    let g = raw_sound c a.0 bytes a.1 in
    let k = checked_step (eqb a.0.ty 0x80 || eqb a.0.ty 0x82) _ _ (r, d) a.2 in
    step _ _ _ name_sound (contents_of a.0) _ (r, d) (contents_bytes c a.0 g.is bytes) k.1 λ text c1 t1 f1 b1 e1.
    let is : HasType (types_of (header text)) a.0.ty false = header_type a.0.ty k.0 in
    let t = raw_spans c a.0 g.is (header text) false is g.known g.right (then_left (name text) anything (contents_of a.0) c1 t1 tt) in
    subst (λ (q : Record × Cursor). Spans (HeaderForm q.0) c q.1 × Unit {0}) (ok_is (header text, a.0.after) (r, d) e1)
    (record { front = t.front; joined = t.joined; moved = t.moved; so = (text, refl, t.so) }, tt)
  where
    header_type : (ty : ℕ) → (eqb ty 0x80 || eqb ty 0x82) ≡ true → HasType (let ts : List (ℕ × Bool) = (0x80, false) ∷ (0x82, false) ∷ [] in ts) ty false
    header_type ty e =
        elim (or_cases (eqb ty 0x80) (eqb ty 0x82) e) [
          | inl h ↦ subst (λ (k : ℕ). HasType ((0x80, false) ∷ (0x82, false) ∷ []) k false) (sym (eqb-true ty 0x80 h)) (0, omega arith, refl)
          | inr h ↦ subst (λ (k : ℕ). HasType ((0x80, false) ∷ (0x82, false) ∷ []) k false) (sym (eqb-true ty 0x82 h)) (1, omega arith, refl)
        ]

pub header_complete : (c : Cursor) (text : List ℕ) (d : Cursor) → Spans (SpellForm (header text)) c d → header_at c ≡ Ok (header text, d)
unfolding header_at
header_complete c text d t =
    let s = left_splits (name text) anything (record { at = c.at + 3; left = t.so.contents }) t.so.content in
    let known = by_two 0x80 0x82 false false t.so.ty t.so.wide t.so.is_type (λ ty wide. ((eqb ty 0x80 || eqb ty 0x82) ≡ true) × (is_record_type ty ≡ true)) (refl, refl) (refl, refl) in
    rw (raw_complete c t.so.ty t.so.contents t.so.framed.checksum d.left (spelled_begins c d (header text) t) known.1 t.so.framed.right, known.0, name_complete (record { at = c.at + 3; left = t.so.contents }) text s.0 s.1 tt)
    (ap (λ (k : Cursor). given (header text) k) (after_is c d (header text) t))

pub spelled_long : (r : Record) (bytes : List ℕ) → Spells bytes r → 1 ≤ length bytes
spelled_long r bytes s =
    let long : length bytes ≡ 4 + length s.contents =
    ap (λ (xs : List ℕ). length xs) (s.framed.whole.joined ∙ append-nil (record_bytes s.ty s.contents s.framed.checksum)) ∙ length-record s.ty s.contents s.framed.checksum in
    omega (arith, long)
