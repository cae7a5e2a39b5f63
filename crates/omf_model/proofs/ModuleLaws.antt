-- A module's records: what is read is spelled so, and what is spelled so is read; and the first fault.
use Rattle.std.proofs.Common.{◌≡◌, ℕ, zero, suc, ◌+◌, ◌<◌, ◌≤◌, true, false, List, [], ◌∷◌, ◌++◌, length, Option, Result, Ok, Err, refl, sym, ap, subst, ◌∙◌, arith, inl, inr, append_assoc, length-append}
use Rattle.std.specs.Prelude.{◌⊎◌}
use Rattle.std.proofs.lemmas.List.{append-nil, nil_from_length}
use Rattle.lx_bytes.specs.Cursor.{Cursor}
use Rattle.lx_bytes.specs.LittleEndian.{AreBytes}
use Rattle.obj_types.specs.declared.refusal.OmfRefusal.{OmfRefusal}
use Rattle.obj_types.specs.declared.refusal.OmfRefusal.TheVariants.{Short}
use Rattle.obj_types.specs.declared.object.ObjModule.{ObjModule}
use Rattle.obj_types.specs.declared.parts.ObjParts.{ObjParts}
use Rattle.obj_types.specs.Fresh.{fresh_parts}
use Rattle.omf_fields.specs.Within.{within}
use Rattle.lx_types.specs.Answers.{◌>>=◌}
use Rattle.omf_fields.specs.Forms.{Form, nothing}
use Rattle.omf_model.specs.Record.{Record, header, passed, comment, default_library, impdef, expdef, lnames, segdef, grpdef, pubdef, extdef, comdef, ledata, lidata, comdat, fixupp, modend, FixData, is_end}
use Rattle.omf_model.specs.Add.{add}
use Rattle.omf_model.specs.Parts.{parts_of}
use Rattle.omf_model.specs.Finished.{finished}
use Rattle.omf_model.specs.Good.{EachGood}
use Rattle.omf_model.specs.Spelling.{Spells, SpellsAll}
use Rattle.omf_model.specs.RawRecord.{whole_at, raw_at}
use Rattle.omf_model.specs.ReadModule.{record_at, header_at, rest_within, module_at, object_of}
use Rattle.omf_model.specs.Begun.{IsOpen}
use Rattle.omf_model.specs.Object.{IsModule, Obj, FaultAt, at_header, after_records, FirstFault}
use Rattle.omf_fields.proofs.SpanLaws.{Spans, bytes_after, then_spans, then_splits, spans_nothing, nothing_spans, Sound, Complete, given, done, ok_is, bind_ok, step}
use Rattle.omf_fields.proofs.FieldLaws.{Free, chosen}
use Rattle.omf_model.proofs.PartsLaws.{parts_of-snoc, parts_of-none}
use Rattle.omf_model.proofs.RecordLaws.{SpellForm, HeaderForm, record_sound, record_complete, header_sound, header_complete, spelled_long}

-- ---- the last record alone ends a module

abbrev Ends : List Record → Type 0
Ends [] = ⊥
Ends (r ∷ []) = is_end r ≡ true
Ends (r ∷ s ∷ rs) = (is_end r ≡ false) × Ends (s ∷ rs)

record Ended (rs : List Record) : Type 0 where
  front : List Record
  kind : ℕ
  start : Option FixData
  is : rs ≡ front ++ modend kind start ∷ []
  once : IsOpen front

end_is : (r : Record) → is_end r ≡ true → (kind : ℕ) × (start : Option FixData) × (r ≡ modend kind start)
end_is (modend kind start) e = (kind, start, refl)
end_is (header text) e = absurd cc
end_is passed e = absurd cc
end_is comment e = absurd cc
end_is (default_library text) e = absurd cc
end_is (impdef d) e = absurd cc
end_is (expdef d) e = absurd cc
end_is (lnames texts) e = absurd cc
end_is (segdef d) e = absurd cc
end_is (grpdef n members) e = absurd cc
end_is (pubdef local group segment frame defs) e = absurd cc
end_is (extdef local defs) e = absurd cc
end_is (comdef defs) e = absurd cc
end_is (ledata segment offset content) e = absurd cc
end_is (lidata wide segment offset blocks) e = absurd cc
end_is (comdat d) e = absurd cc
end_is (fixupp fields) e = absurd cc

ended : (rs : List Record) → Ends rs → Ended rs
ended [] h = absurd h
ended (r ∷ []) h = let k = end_is r h in record { front = []; kind = k.0; start = k.1; is = ap (λ (q : Record). q ∷ []) k.2; once = tt }
ended (r ∷ s ∷ rs) h =
    let k = ended (s ∷ rs) h.1 in
    record { front = r ∷ k.front; kind = k.kind; start = k.start; is = ap (λ (qs : List Record). r ∷ qs) k.is; once = (h.0, k.once) }

ends_after : (front : List Record) (kind : ℕ) (start : Option FixData) → IsOpen front → Ends (front ++ modend kind start ∷ [])
ends_after [] kind start open_ = refl
ends_after (r ∷ []) kind start open_ = (open_.0, refl)
ends_after (r ∷ s ∷ front) kind start open_ = (open_.0, ends_after (s ∷ front) kind start open_.1)

-- ---- what is read

record Rest (before : List Record) (c d : Cursor) (q : ObjParts) : Type 0 where
  records : List Record
  spans : Spans (SpellsAll records) c d
  good : EachGood before records
  ends : Ends records
  meant : q ≡ parts_of (before ++ records)

more_ends : (r : Record) (rs : List Record) → is_end r ≡ false → Ends rs → Ends (r ∷ rs)
more_ends r [] n h = absurd h
more_ends r (s ∷ rs) n h = (n, h)

rest_sound : (most : ℕ) (before : List Record) (c : Cursor) (q : ObjParts) (d : Cursor) → AreBytes c.left → rest_within most (parts_of before) c ≡ Ok (q, d) → Rest before c d q
unfolding rest_within within
rest_sound zero before c q d bytes e = absurd cc
rest_sound (suc most) before c q d bytes e =
    step _ _ _ (record_sound (parts_of before)) c _ (q, d) bytes e λ r c1 t1 g1 b1 e1.
    elim (chosen (is_end r) (given (add (parts_of before) r) c1) (rest_within most (add (parts_of before) r) c1) (Ok (q, d)) e1) [
      | inl h ↦
          let same = ok_is (add (parts_of before) r, c1) (q, d) h.1 in
          let one = then_spans (SpellForm r) nothing c c1 c1 t1 (spans_nothing c1) in
          record {
            records = r ∷ [];
            spans = subst (λ (k : Cursor). Spans (SpellsAll (r ∷ [])) c k) (ap (λ (x : ObjParts × Cursor). x.1) same) one;
            good = (g1, tt);
            ends = h.0;
            meant = ap (λ (x : ObjParts × Cursor). x.0) (sym same) ∙ sym (parts_of-snoc before r);
          }
      | inr h ↦
          let there : rest_within most (parts_of (before ++ r ∷ [])) c1 ≡ given q d = subst (λ (p : ObjParts). rest_within most p c1 ≡ given q d) (sym (parts_of-snoc before r)) h.1 in
          let k = rest_sound most (before ++ r ∷ []) c1 q d b1 there in
          record {
            records = r ∷ k.records;
            spans = then_spans (SpellForm r) (SpellsAll k.records) c c1 d t1 k.spans;
            good = (g1, k.good);
            ends = more_ends r k.records h.0 k.ends;
            meant = k.meant ∙ ap (λ (rs : List Record). parts_of rs) (append_assoc before (r ∷ []) k.records);
          }
    ]

pub parts_header : (text : List ℕ) → parts_of (header text ∷ []) ≡ add fresh_parts (header text)
parts_header text = parts_of-snoc [] (header text) ∙ ap (λ (p : ObjParts). add p (header text)) parts_of-none

abbrev pub ModuleForm : ObjModule → Form
ModuleForm m bytes = IsModule bytes m

pub module_sound : Sound module_at ModuleForm Free
unfolding module_at
module_sound c m d bytes e =
    step _ _ _ header_sound c _ (m, d) bytes e λ r c1 t1 f1 b1 e1.
    let a = bind_ok (rest_within (length c.left) (add fresh_parts r) c1) _ (m, d) e1 in
    let text = t1.so.0 in
    let there : rest_within (length c.left) (parts_of (header text ∷ [])) c1 ≡ Ok a.0 =
    subst (λ (p : ObjParts). rest_within (length c.left) p c1 ≡ done a.0) (ap (λ (q : Record). add fresh_parts q) t1.so.1 ∙ sym (parts_header text)) a.1 in
    let k = rest_sound (length c.left) (header text ∷ []) c1 a.0.0 a.0.1 b1 there in
    let first : Spans (SpellForm (header text)) c c1 = record { front = t1.front; joined = t1.joined; moved = t1.moved; so = subst (λ (q : Record). Spells t1.front q) t1.so.1 t1.so.2 } in
    let whole = then_spans (SpellForm (header text)) (SpellsAll k.records) c c1 a.0.1 first k.spans in
    let last = ended k.records k.ends in
    subst (λ (x : ObjModule × Cursor). Spans (ModuleForm x.0) c x.1 × Unit {0}) (ok_is (finished a.0.0, a.0.1) (m, d) a.2) (
      record {
        front = whole.front;
        joined = whole.joined;
        moved = whole.moved;
        so = record {
          records = header text ∷ k.records;
          are = record {
            begun = record { name = text; others = k.records; headed = refl; good = k.good };
            front = header text ∷ last.front;
            kind = last.kind;
            start = last.start;
            ended = ap (λ (rs : List Record). header text ∷ rs) last.is;
            once = (refl, last.once);
          };
          spelled = whole.so;
          meant = ap (λ (p : ObjParts). finished p) k.meant;
        };
      },
      tt,
    )

-- ---- what is spelled

long_enough : (rs : List Record) (bytes : List ℕ) → SpellsAll rs bytes → length rs ≤ length bytes
long_enough [] bytes so = omega arith
long_enough (r ∷ rs) bytes so =
    let long : length bytes ≡ length so.front + length so.back = ap (λ (xs : List ℕ). length xs) so.joined ∙ length-append so.front so.back in
    omega (arith, long, spelled_long r so.front so.first_so, long_enough rs so.back so.second_so)

rest_complete : (rs before : List Record) (most : ℕ) (c d : Cursor) → Ends rs → EachGood before rs → Spans (SpellsAll rs) c d → length rs ≤ most → rest_within most (parts_of before) c ≡ Ok (parts_of (before ++ rs), d)
unfolding rest_within within
rest_complete [] before most c d ends good t few = absurd ends
rest_complete (r ∷ rs) before zero c d ends good t few = absurd (omega (arith, few))
rest_complete (r ∷ []) before (suc most) c d ends good t few =
    let s = then_splits (SpellForm r) nothing c d t in
    rw (record_complete (parts_of before) c r s.0 s.1 good.0, ends, nothing_spans s.0 d s.2, parts_of-snoc before r) refl
rest_complete (r ∷ x ∷ rs) before (suc most) c d ends good t few =
    let s = then_splits (SpellForm r) (SpellsAll (x ∷ rs)) c d t in
    let rest = rest_complete (x ∷ rs) (before ++ r ∷ []) most s.0 d ends.1 good.1 s.2 (omega (arith, few)) in
    let there : rest_within most (add (parts_of before) r) s.0 ≡ Ok (parts_of (before ++ r ∷ x ∷ rs), d) =
    subst (λ (p : ObjParts). rest_within most p s.0 ≡ given (parts_of (before ++ r ∷ x ∷ rs)) d) (parts_of-snoc before r)
    (rest ∙ ap (λ (qs : List Record). given (parts_of qs) d) (append_assoc before (r ∷ []) (x ∷ rs))) in
    rw (record_complete (parts_of before) c r s.0 s.1 good.0, ends.0) there

ends_others : (name : List ℕ) (others : List Record) → Ends (header name ∷ others) → Ends others
ends_others name [] h = absurd cc
ends_others name (r ∷ rs) h = h.1

pub module_complete : Complete module_at ModuleForm Free
unfolding module_at
module_complete c m d t free =
    let w = t.so in
    let name = w.are.begun.name in
    let others = w.are.begun.others in
    let spelled : Spans (SpellsAll (header name ∷ others)) c d = record { front = t.front; joined = t.joined; moved = t.moved; so = subst (λ (rs : List Record). SpellsAll rs t.front) w.are.begun.headed w.spelled } in
    let s = then_splits (SpellForm (header name)) (SpellsAll others) c d spelled in
    let same : w.are.front ++ modend w.are.kind w.are.start ∷ [] ≡ header name ∷ others = sym w.are.ended ∙ w.are.begun.headed in
    let ends = ends_others name others (subst Ends same (ends_after w.are.front w.are.kind w.are.start w.are.once)) in
    let enough : length others ≤ length c.left =
    let long : length c.left ≡ length s.1.front + length s.0.left = ap (λ (xs : List ℕ). length xs) s.1.joined ∙ length-append s.1.front s.0.left in
    let rest : length s.0.left ≡ length s.2.front + length d.left = ap (λ (xs : List ℕ). length xs) s.2.joined ∙ length-append s.2.front d.left in
    omega (arith, long, rest, long_enough others s.2.front s.2.so) in
    let rest = rest_complete others (header name ∷ []) (length c.left) s.0 d ends w.are.begun.good s.2 enough in
    let there : rest_within (length c.left) (add fresh_parts (header name)) s.0 ≡ Ok (parts_of (header name ∷ others), d) =
    subst (λ (p : ObjParts). rest_within (length c.left) p s.0 ≡ given (parts_of (header name ∷ others)) d) (parts_header name) rest in
    let value : finished (parts_of (header name ∷ others)) ≡ m = ap (λ (rs : List Record). finished (parts_of rs)) (sym w.are.begun.headed) ∙ sym w.meant in
    rw (header_complete c name s.0 s.1, there, value) refl

-- ---- an object file

abbrev start_of : List ℕ → Cursor
start_of bytes = record { at = 0; left = bytes }

-- what is read is meant
pub object_sound : (bytes : List ℕ) (m : ObjModule) → AreBytes bytes → object_of bytes ≡ Ok m → Obj bytes m
unfolding object_of
object_sound bytes m are e =
    let a = bind_ok (module_at (start_of bytes)) _ m e in
    let t = (module_sound (start_of bytes) a.0.0 a.0.1 are a.1).0 in
    record { front = t.front; back = a.0.1.left; joined = t.joined; first_so = subst (λ (q : ObjModule). IsModule t.front q) (ok_is a.0.0 m a.2) t.so; second_so = tt }

-- what is meant is read
pub object_complete : (bytes : List ℕ) (m : ObjModule) → Obj bytes m → object_of bytes ≡ Ok m
unfolding object_of
object_complete bytes m h =
    let d : Cursor = record { at = 0 + length h.front; left = h.back } in
    let t : Spans (ModuleForm m) (start_of bytes) d = record { front = h.front; joined = h.joined; moved = refl; so = h.first_so } in
    rw (module_complete (start_of bytes) m d t tt) refl

-- bytes mean one module at most
pub object_one : (bytes : List ℕ) (m n : ObjModule) → Obj bytes m → Obj bytes n → m ≡ n
object_one bytes m n h k = ok_is m n (sym (object_complete bytes m h) ∙ object_complete bytes n k)

-- ---- the first fault

pub bind_err : {A B : Type 0} (r : Result A OmfRefusal) (f : A → Result B OmfRefusal) (y : OmfRefusal) → (r >>= f) ≡ Err y → (r ≡ Err y) ⊎ ((x : A) × (r ≡ Ok x) × (f x ≡ Err y))
bind_err (Ok x) f y e = inr (x, refl, e)
bind_err (Err d) f y e = inl (let same : d ≡ y = cc in ap (λ (q : OmfRefusal). Err q) same)

pub nothing_left : (p : ObjParts) (c : Cursor) → c.left ≡ [] → record_at p c ≡ Err (Short c.at)
unfolding record_at raw_at whole_at
nothing_left p c none = rw none refl

-- after records that are good and open the next one is at fault
record Faults (before : List Record) (c : Cursor) (refusal : OmfRefusal) : Type 0 where
  records : List Record
  after : Cursor
  spans : Spans (SpellsAll records) c after
  good : EachGood before records
  still : IsOpen records
  fault : record_at (parts_of (before ++ records)) after ≡ Err refusal

rest_faults : (most : ℕ) (before : List Record) (c : Cursor) (refusal : OmfRefusal) → AreBytes c.left → length c.left ≤ most → rest_within most (parts_of before) c ≡ Err refusal → Faults before c refusal
unfolding rest_within within
rest_faults zero before c refusal bytes few e =
    let none : c.left ≡ [] = nil_from_length c.left (omega (arith, few)) in
    let same : Short c.at ≡ refusal = cc in
    record {
      records = [];
      after = c;
      spans = spans_nothing c;
      good = tt;
      still = tt;
      fault = nothing_left (parts_of (before ++ [])) c none ∙ ap (λ (q : OmfRefusal). Err q) same;
    }
rest_faults (suc most) before c refusal bytes few e =
    elim (bind_err (record_at (parts_of before) c) _ refusal e) [
      | inl h ↦ record {
        records = [];
        after = c;
        spans = spans_nothing c;
        good = tt;
        still = tt;
        fault = ap (λ (rs : List Record). record_at (parts_of rs) c) (append-nil before) ∙ h;
      }
      | inr h ↦
          let r = h.0.0 in
          let c1 = h.0.1 in
          let s = record_sound (parts_of before) c r c1 bytes h.1 in
          let shorter : length c.left ≡ length s.0.front + length c1.left = ap (λ (ys : List ℕ). length ys) s.0.joined ∙ length-append s.0.front c1.left in
          let grows = spelled_long r s.0.front s.0.so in
          elim (chosen (is_end r) (given (add (parts_of before) r) c1) (rest_within most (add (parts_of before) r) c1) (Err refusal) h.2) [
            | inl k ↦ absurd cc
            | inr k ↦
                let there : rest_within most (parts_of (before ++ r ∷ [])) c1 ≡ Err refusal = subst (λ (p : ObjParts). rest_within most p c1 ≡ failed refusal) (sym (parts_of-snoc before r)) k.1 in
                let rest = rest_faults most (before ++ r ∷ []) c1 refusal (bytes_after (SpellForm r) c c1 s.0 bytes) (omega (arith, few, shorter, grows)) there in
                record {
                  records = r ∷ rest.records;
                  after = rest.after;
                  spans = then_spans (SpellForm r) (SpellsAll rest.records) c c1 rest.after s.0 rest.spans;
                  good = (s.1, rest.good);
                  still = (k.0, rest.still);
                  fault = ap (λ (rs : List Record). record_at (parts_of rs) rest.after) (sym (append_assoc before (r ∷ []) rest.records)) ∙ rest.fault;
                }
          ]
    ]
  where
    failed : OmfRefusal → Result (ObjParts × Cursor) OmfRefusal
    failed q = Err q

pub module_faults : (at : ℕ) (bytes : List ℕ) (refusal : OmfRefusal) → AreBytes bytes → module_at (record { at = at; left = bytes }) ≡ Err refusal → FaultAt at bytes refusal
unfolding module_at
module_faults at bytes refusal are e =
    let c : Cursor = record { at = at; left = bytes } in
    elim (bind_err (header_at c) _ refusal e) [
      | inl h ↦ at_header h
      | inr h ↦
          let r = h.0.0 in
          let c1 = h.0.1 in
          let t1 = (header_sound c r c1 are h.1).0 in
          let text = t1.so.0 in
          elim (bind_err (rest_within (length bytes) (add fresh_parts r) c1) _ refusal h.2) [
            | inl k ↦
                let there : rest_within (length bytes) (parts_of (header text ∷ [])) c1 ≡ Err refusal =
                subst (λ (p : ObjParts). rest_within (length bytes) p c1 ≡ failed refusal) (ap (λ (q : Record). add fresh_parts q) t1.so.1 ∙ sym (parts_header text)) k in
                let long : length bytes ≡ length t1.front + length c1.left = ap (λ (ys : List ℕ). length ys) t1.joined ∙ length-append t1.front c1.left in
                let rest = rest_faults (length bytes) (header text ∷ []) c1 refusal (bytes_after (HeaderForm r) c c1 t1 are) (omega (arith, long)) there in
                let first : Spans (SpellForm (header text)) c c1 = record { front = t1.front; joined = t1.joined; moved = t1.moved; so = subst (λ (q : Record). Spells t1.front q) t1.so.1 t1.so.2 } in
                let whole = then_spans (SpellForm (header text)) (SpellsAll rest.records) c c1 rest.after first rest.spans in
                after_records (record {
                  records = header text ∷ rest.records;
                  front = whole.front;
                  back = rest.after.left;
                  joined = whole.joined;
                  spelled = whole.so;
                  begun = record { name = text; others = rest.records; headed = refl; good = rest.good };
                  open_ended = (refl, rest.still);
                  fault = ap (λ (k : Cursor). record_at (parts_of (header text ∷ rest.records)) k) (sym (λ i. record { at = whole.moved i; left = rest.after.left })) ∙ rest.fault;
                })
            | inr k ↦ absurd cc
          ]
    ]
  where
    failed : OmfRefusal → Result (ObjParts × Cursor) OmfRefusal
    failed q = Err q

-- a fault that is the first is found
rest_meets : (rs before : List Record) (most : ℕ) (c d : Cursor) (refusal : OmfRefusal) → IsOpen rs → EachGood before rs →
    Spans (SpellsAll rs) c d → length rs < most → record_at (parts_of (before ++ rs)) d ≡ Err refusal → rest_within most (parts_of before) c ≡ Err refusal
unfolding rest_within within
rest_meets rs before zero c d refusal still good t few e = absurd (omega (arith, few))
rest_meets [] before (suc most) c d refusal still good t few e =
    let here : record_at (parts_of before) c ≡ Err refusal = ap (λ (rs : List Record). record_at (parts_of rs) c) (sym (append-nil before))
    ∙ ap (λ (k : Cursor). record_at (parts_of (before ++ [])) k) (nothing_spans c d t) ∙ e in
    rw here refl
rest_meets (r ∷ rs) before (suc most) c d refusal still good t few e =
    let s = then_splits (SpellForm r) (SpellsAll rs) c d t in
    let rest = rest_meets rs (before ++ r ∷ []) most s.0 d refusal still.1 good.1 s.2 (omega (arith, few)) (ap (λ (qs : List Record). record_at (parts_of qs) d) (append_assoc before (r ∷ []) rs) ∙ e) in
    let there : rest_within most (add (parts_of before) r) s.0 ≡ Err refusal = subst (λ (p : ObjParts). rest_within most p s.0 ≡ failed refusal) (parts_of-snoc before r) rest in
    rw (record_complete (parts_of before) c r s.0 s.1 good.0, still.0) there
  where
    failed : OmfRefusal → Result (ObjParts × Cursor) OmfRefusal
    failed q = Err q

pub module_meets : (at : ℕ) (bytes : List ℕ) (refusal : OmfRefusal) → FaultAt at bytes refusal → module_at (record { at = at; left = bytes }) ≡ Err refusal
unfolding module_at
module_meets at bytes refusal (at_header h) = rw h refl
module_meets at bytes refusal (after_records h) =
    let c : Cursor = record { at = at; left = bytes } in
    let d : Cursor = record { at = at + length h.front; left = h.back } in
    let name = h.begun.name in
    let others = h.begun.others in
    let spelled : Spans (SpellsAll (header name ∷ others)) c d = record { front = h.front; joined = h.joined; moved = refl; so = subst (λ (rs : List Record). SpellsAll rs h.front) h.begun.headed h.spelled } in
    let s = then_splits (SpellForm (header name)) (SpellsAll others) c d spelled in
    let still : IsOpen (header name ∷ others) = subst IsOpen h.begun.headed h.open_ended in
    let enough : length others < length bytes =
    let long : length bytes ≡ length s.1.front + length s.0.left = ap (λ (xs : List ℕ). length xs) s.1.joined ∙ length-append s.1.front s.0.left in
    let rest : length s.0.left ≡ length s.2.front + length d.left = ap (λ (xs : List ℕ). length xs) s.2.joined ∙ length-append s.2.front d.left in
    omega (arith, long, rest, long_enough others s.2.front s.2.so, spelled_long (header name) s.1.front s.1.so) in
    let fault : record_at (parts_of (header name ∷ others)) d ≡ Err refusal = ap (λ (rs : List Record). record_at (parts_of rs) d) (sym h.begun.headed) ∙ h.fault in
    let rest = rest_meets others (header name ∷ []) (length bytes) s.0 d refusal still.1 h.begun.good s.2 enough fault in
    let there : rest_within (length bytes) (add fresh_parts (header name)) s.0 ≡ Err refusal = subst (λ (p : ObjParts). rest_within (length bytes) p s.0 ≡ failed refusal) (parts_header name) rest in
    rw (header_complete c name s.0 s.1, there) refl
  where
    failed : OmfRefusal → Result (ObjParts × Cursor) OmfRefusal
    failed q = Err q

pub object_faults : (bytes : List ℕ) (refusal : OmfRefusal) → AreBytes bytes → object_of bytes ≡ Err refusal → FirstFault bytes refusal
unfolding object_of
object_faults bytes refusal are e =
    elim (bind_err (module_at (start_of bytes)) _ refusal e) [
      | inl h ↦ module_faults 0 bytes refusal are h
      | inr h ↦ absurd cc
    ]

pub object_meets : (bytes : List ℕ) (refusal : OmfRefusal) → FirstFault bytes refusal → object_of bytes ≡ Err refusal
unfolding object_of
object_meets bytes refusal h = rw (module_meets 0 bytes refusal h) refl

-- the one first fault
pub object_fault_one : (bytes : List ℕ) (f g : OmfRefusal) → FirstFault bytes f → FirstFault bytes g → f ≡ g
object_fault_one bytes f g h k =
    let both : ◌≡◌ {A = Result ObjModule OmfRefusal} (Err f) (Err g) = sym (object_meets bytes f h) ∙ object_meets bytes g k in cc

-- a module and a fault exclude each other
pub object_not_both : (bytes : List ℕ) (m : ObjModule) (f : OmfRefusal) → Obj bytes m → FirstFault bytes f → ⊥
object_not_both bytes m f h k =
    let both : ◌≡◌ {A = Result ObjModule OmfRefusal} (Ok m) (Err f) = sym (object_complete bytes m h) ∙ object_meets bytes f k in absurd cc

-- there is always one of the two
pub object_either : (bytes : List ℕ) → AreBytes bytes → ((m : ObjModule) × Obj bytes m) ⊎ ((f : OmfRefusal) × FirstFault bytes f)
object_either bytes are = by (object_of bytes) refl
  where
    by : (r : Result ObjModule OmfRefusal) → object_of bytes ≡ r → ((m : ObjModule) × Obj bytes m) ⊎ ((f : OmfRefusal) × FirstFault bytes f)
    by (Ok m) e = inl (m, object_sound bytes m are e)
    by (Err f) e = inr (f, object_faults bytes f are e)
