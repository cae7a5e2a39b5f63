-- A field that is read and added, by its parts; and a record's fields, one after another.
use Rattle.std.proofs.Common.{◌≡◌, ◌≢◌, ℕ, ◌<◌, Bool, true, false, cond, List, [], ◌∷◌, ◌++◌, length, Ok, Err, Result, inl, inr, refl, sym, ap, subst, ◌∙◌}
use Rattle.std.specs.Prelude.{◌⊎◌, ◌||◌, not}
use Rattle.std.proofs.lemmas.List.{append-nil}
use Rattle.lx_bytes.specs.Cursor.{Cursor}
use Rattle.lx_bytes.specs.LittleEndian.{AreBytes}
use Rattle.obj_types.specs.declared.refusal.OmfRefusal.{OmfRefusal}
use Rattle.obj_types.specs.declared.refusal.OmfRefusal.TheVariants.{BadLocation}
use Rattle.obj_types.specs.declared.object.FixAt.{FixAt}
use Rattle.obj_types.specs.declared.parts.LastData.{LastData}
use Rattle.obj_types.specs.declared.parts.LastData.TheVariants as datas
use Rattle.obj_types.specs.declared.parts.Threads.{Threads}
use Rattle.obj_types.specs.declared.parts.ObjParts.{ObjParts}
use Rattle.lx_types.specs.Answers.{◌>>=◌, if_said, Gives}
use Rattle.omf_fields.specs.Fields.{Reading, check}
use Rattle.omf_fields.proofs.SpanLaws.{ok_is}
use Rattle.omf_frame.specs.declared.omf_record.Rec.{Rec}
use Rattle.omf_model.specs.AddLists.{HasFour}
use Rattle.omf_model.specs.Begun.{IsBegun}
use Rattle.omf_model.specs.Record.{FixData, FixField, thread, fixup, fixupp, location_of}
use Rattle.omf_model.specs.Fixups.{set_threads, fixes_by, is_location}
use Rattle.omf_model.specs.ReadFixups.{FirstByte, is_dropped, second_of, fix_data_at, judge_fixup, thread_at, fixup_at, field_at, fixupp_at}
use Rattle.omf_model.specs.ReadModule.{is_wide}
use Rattle.omf_model.specs.Add.{add, add_field, add_fields}
use Rattle.omf_model.specs.Good.{GoodField}
use Rattle.omf_model.specs.ReadAfter.{then_add, read_after, contents_at}
use Rattle.omf_model.proofs.PartsLaws.{no_threads}
use Rattle.omf_fields.proofs.ItemLaws.{takes-form}
use Rattle.omf_model.specs.Spelling.{field_form}
use Rattle.omf_model.proofs.FixuppLaws.{field_sound, field_one}
use Rattle.omf_model.proofs.TurnLaws.{fixupp-next, fixupp-refused, fixupp-done}
use Rattle.omf_model.proofs.BegunLaws.{begun-kept}
use Rattle.omf_fix.specs.Field.{then_field, unplaced_at}
use Rattle.lx_types.specs.declared.fail.Fail.TheVariants.{Said, NoMemory}
use Rattle.lx_types.specs.declared.fail.Fail.{Fail}
use Rattle.omf_fix.specs.Placed.{placed, first_of}
use Rattle.omf_fix.specs.declared.place.FixPlace.{FixPlace}
use Rattle.omf_fix.specs.Methods.{Counts}
use Rattle.omf_fix.specs.declared.have.Have.{Have}

-- ---- THREAD

-- it adds no fix
pub thread-adds : (p : ObjParts) (b : ℕ) (i : _) (ts : Threads) → ts ≡ set_threads p.threads (thread b i ∷ []) → add_field p (thread b i) ≡ record p { threads = ts }
unfolding add_field fixes_by
thread-adds p b i ts e = λ j. record p { «module» = record p.module { fixes = append-nil p.module.fixes j }; threads = sym e j }

pub thread-read : (p : ObjParts) (first : FirstByte) (c d : Cursor) (b : ℕ) (i : _) (ts : Threads) → thread_at p first c ≡ Ok (thread b i, d) → ts ≡ set_threads p.threads (thread b i ∷ [])
    → then_field p (thread_at p first c) ≡ Ok (record p { threads = ts }, d)
thread-read p first c d b i ts read e = ap (then_field p) read ∙ ap (λ (q : ObjParts). Ok (q, d)) (thread-adds p b i ts e)

-- ---- FIXUP

abbrev with_low : ℕ → Reading FixData → Reading (ℕ × FixData)
with_low l what = what >>= λ w. Ok ((l, w.0), w.1)

abbrev judged_by : (ℕ → FixData → Result (Unit {0}) OmfRefusal) → ℕ → ℕ → Reading FixData → Reading FixField
judged_by judge high l what = what >>= λ w. judge l w.0 >>= λ u. Ok (fixup high l w.0, w.1)

abbrev Both : Reading ℕ → (Cursor → Reading FixData) → Reading (ℕ × FixData)
Both low what = low >>= λ l. with_low l.0 (what l.1)

abbrev Then : Reading ℕ → (Cursor → Reading FixData) → (ℕ → FixData → Result (Unit {0}) OmfRefusal) → ℕ → Reading FixField
Then low what judge high = low >>= λ l. judged_by judge high l.0 (what l.1)

what-ok : (what : Reading FixData) (judge : ℕ → FixData → Result (Unit {0}) OmfRefusal) (high l low : ℕ) (d : FixData) (c : Cursor)
    → with_low l what ≡ Ok ((low, d), c) → judged_by judge high l what ≡ (judge low d >>= λ u. Ok (fixup high low d, c))
what-ok (Ok w) judge high l low d c e = ap (λ (q : (ℕ × FixData) × Cursor). judge q.0.0 q.0.1 >>= λ u. Ok (fixup high q.0.0 q.0.1, q.1)) (ok_is ((l, w.0), w.1) ((low, d), c) e)
what-ok (Err f) judge high l low d c e = absurd cc

both-ok : (known : Result (Unit {0}) OmfRefusal) (first : Reading ℕ) (what : Cursor → Reading FixData) (judge : ℕ → FixData → Result (Unit {0}) OmfRefusal) (high low : ℕ) (d : FixData) (c : Cursor)
    → (known >>= λ u. Both first what) ≡ Ok ((low, d), c) → (known >>= λ u. Then first what judge high) ≡ (judge low d >>= λ u. Ok (fixup high low d, c))
both-ok (Ok u) (Ok l) what judge high low d c e = what-ok (what l.1) judge high l.0 low d c e
both-ok (Ok u) (Err f) what judge high low d c e = absurd cc
both-ok (Err f) first what judge high low d c e = absurd cc

what-err : (what : Reading FixData) (judge : ℕ → FixData → Result (Unit {0}) OmfRefusal) (high l : ℕ) (f : OmfRefusal)
    → with_low l what ≡ Err f → judged_by judge high l what ≡ Err f
what-err (Ok w) judge high l f e = absurd cc
what-err (Err g) judge high l f e = let same : g ≡ f = cc in ap (λ z. Err z) same

both-err : (known : Result (Unit {0}) OmfRefusal) (first : Reading ℕ) (what : Cursor → Reading FixData) (judge : ℕ → FixData → Result (Unit {0}) OmfRefusal) (high : ℕ) (f : OmfRefusal)
    → (known >>= λ u. Both first what) ≡ Err f → (known >>= λ u. Then first what judge high) ≡ Err f
both-err (Ok u) (Ok l) what judge high f e = what-err (what l.1) judge high l.0 f e
both-err (Ok u) (Err g) what judge high f e = let same : g ≡ f = cc in ap (λ z. Err z) same
both-err (Err g) first what judge high f e = let same : g ≡ f = cc in ap (λ z. Err z) same

abbrev Judging : ObjParts → FirstByte → ℕ → FixData → Result (Unit {0}) OmfRefusal
Judging p first low d = cond (is_dropped p.last) (Ok tt) (judge_fixup p first low d)

fixup-split : (wide : Bool) (p : ObjParts) (first : FirstByte) (c d : Cursor) (low : ℕ) (what : FixData) → unplaced_at wide p first c ≡ Ok ((low, what), d)
    → fixup_at wide p first c ≡ (Judging p first low what >>= λ u. Ok (fixup first.byte low what, d))
unfolding fixup_at
fixup-split wide p first c d low what e =
    both-ok (check (is_dropped p.last || is_location first.byte) (BadLocation first.at (location_of first.byte))) (second_of first.at c) (fix_data_at (not (is_dropped p.last)) wide p) (Judging p first) first.byte low what d e

pub fixup-refused : (wide : Bool) (p : ObjParts) (first : FirstByte) (c : Cursor) (f : OmfRefusal) → unplaced_at wide p first c ≡ Err f → then_field p (fixup_at wide p first c) ≡ Err f
fixup-refused wide p first c f e = ap (then_field p) so
  where
    so : fixup_at wide p first c ≡ Err f
    so = unfold fixup_at in both-err (check (is_dropped p.last || is_location first.byte) (BadLocation first.at (location_of first.byte))) (second_of first.at c) (fix_data_at (not (is_dropped p.last)) wide p) (Judging p first) first.byte f e

-- on data that was dropped
dropped-news : (last : LastData) (ts : Threads) (high low : ℕ) (d : FixData) → is_dropped last ≡ true → fixes_by last ts (fixup high low d) ≡ []
unfolding fixes_by
dropped-news datas.None ts high low d e = absurd cc
dropped-news (datas.Straight seg start len) ts high low d e = absurd cc
dropped-news (datas.Blocks seg start wide body) ts high low d e = absurd cc
dropped-news datas.Dropped ts high low d e = refl

dropped-adds : (p : ObjParts) (high low : ℕ) (d : FixData) → HasFour p.threads → is_dropped p.last ≡ true → add_field p (fixup high low d) ≡ p
unfolding add_field
dropped-adds p high low d four e = λ j. record p { «module» = record p.module { fixes = none j }; threads = kept j }
  where
    none : p.module.fixes ++ fixes_by p.last p.threads (fixup high low d) ≡ p.module.fixes
    none = ap (λ (fs : List FixAt). p.module.fixes ++ fs) (dropped-news p.last p.threads high low d e) ∙ append-nil p.module.fixes

    kept : set_threads p.threads (fixup high low d ∷ []) ≡ p.threads
    kept = unfold set_threads in no_threads p.threads four

pub fixup-dropped : (wide : Bool) (p : ObjParts) (first : FirstByte) (c d : Cursor) (x : ℕ × FixData) → HasFour p.threads → unplaced_at wide p first c ≡ Ok (x, d) → is_dropped p.last ≡ true
    → then_field p (fixup_at wide p first c) ≡ Ok (p, d)
fixup-dropped wide p first c d x four e drop =
    ap (then_field p) (fixup-split wide p first c d x.0 x.1 e) ∙ rw drop refl ∙ ap (λ (q : ObjParts). Ok (q, d)) (dropped-adds p first.byte x.0 x.1 four drop)

-- on data that is kept
placed-then : (p : ObjParts) (judged : Result (Unit {0}) OmfRefusal) (f : FixField) (d : Cursor) → then_field p (judged >>= λ u. Ok (f, d)) ≡ ((judged >>= λ u. Ok (add_field p f)) >>= λ q. Ok (q, d))
placed-then p (Ok u) f d = refl
placed-then p (Err g) f d = refl

pub fixup-kept : (wide : Bool) (p : ObjParts) (place : FixPlace) (c d : Cursor) (x : ℕ × FixData) → unplaced_at wide p (first_of place) c ≡ Ok (x, d) → place.low ≡ x.0 → is_dropped p.last ≡ false
    → then_field p (fixup_at wide p (first_of place) c) ≡ (placed p place x.1 >>= λ q. Ok (q, d))
fixup-kept wide p place c d x e same kept =
    ap (then_field p) (fixup-split wide p (first_of place) c d x.0 x.1 e) ∙ rw kept (placed-then p (judge_fixup p (first_of place) x.0 x.1) (fixup place.high x.0 x.1) d)
    ∙ ap (λ (low : ℕ). (judge_fixup p (first_of place) low x.1 >>= λ u. Ok (add_field p (fixup place.high low x.1))) >>= λ q. Ok (q, d)) (sym same)

pub gives-adds : (new : ObjParts) (r : Result (Unit {0}) (Fail OmfRefusal)) (answer : Result ObjParts OmfRefusal) (read : Reading ObjParts) (d : Cursor) → Gives (λ u. new) if_said r answer → read ≡ (answer >>= λ q. Ok (q, d)) → Gives (λ u. (new, d)) if_said r read
gives-adds new (Ok u) answer read d g e = e ∙ ap (λ (a : Result ObjParts OmfRefusal). a >>= λ q. Ok (q, d)) g
gives-adds new (Err (Said f)) answer read d g e = e ∙ ap (λ (a : Result ObjParts OmfRefusal). a >>= λ q. Ok (q, d)) g
gives-adds new (Err NoMemory) answer read d g e = tt

-- ---- fields, one after another

-- A field of its own is a record of one field: the parts are begun after it.
pub begun-field : (wide : Bool) (p : ObjParts) (at : ℕ) (c d : Cursor) (f : FixField) → AreBytes c.left → IsBegun p → field_at wide p at c ≡ Ok (f, d) → IsBegun (add_field p f)
begun-field wide p at c d f bytes begun e = subst IsBegun one (begun-kept p (fixupp (f ∷ [])) begun ((field_sound p wide at c f d bytes e).1, tt) refl)
  where
    one : add p (fixupp (f ∷ [])) ≡ add_field p f
    one = unfold add add_fields in refl

-- the lists that indices count are not changed
counts-field : (have : Have) (p : ObjParts) (f : FixField) → Counts have p → Counts have (add_field p f)
unfolding add_field
counts-field have p f h = record { segs = h.segs; groups = h.groups; exts = h.exts }

-- The parts so far, and what is still to be read.
pub record FieldsSoFar (wide : Bool) (at : ℕ) (have : Have) (start : Cursor) (old now : ObjParts) (c : Cursor) : Type 0 where
  pub begun : IsBegun now
  pub counts : Counts have now
  pub read : then_add now (fixupp_at wide now at c) ≡ then_add old (fixupp_at wide old at start)

with-field : (p new : ObjParts) (read : Reading FixField) (d : Cursor) → then_field p read ≡ Ok (new, d) → (f : FixField) × (read ≡ Ok (f, d)) × (add_field p f ≡ new)
with-field p new (Ok f) d e = let same = ok_is (add_field p f.0, f.1) (new, d) e in (f.0, ap (λ (k : Cursor). Ok (f.0, k)) (λ i. (same i).1), λ i. (same i).0)
with-field p new (Err g) d e = absurd cc

no-field : (p : ObjParts) (read : Reading FixField) (g : OmfRefusal) → then_field p read ≡ Err g → read ≡ Err g
no-field p (Ok f) g e = absurd cc
no-field p (Err h) g e = let same : h ≡ g = cc in ap (λ z. Err z) same

pub one-more : (wide : Bool) (at : ℕ) (have : Have) (start c d : Cursor) (old now new : ObjParts) → FieldsSoFar wide at have start old now c → AreBytes c.left → c.left ≢ [] → then_field now (field_at wide now at c) ≡ Ok (new, d)
    → FieldsSoFar wide at have start old new d
one-more wide at have start c d old now new so bytes some e =
    let w = with-field now new (field_at wide now at c) d e in
    subst (λ (p : ObjParts). FieldsSoFar wide at have start old p d) w.2 (record {
      begun = begun-field wide now at c d w.0 bytes so.begun w.1;
      counts = counts-field have now w.0 so.counts;
      read = sym (fixupp-next wide at now c w.0 d bytes some w.1) ∙ so.read;
    })

pub after : (rec : Rec) → (rec.ty ≡ 0x9C) ⊎ (rec.ty ≡ 0x9D) → (p : ObjParts) → read_after p rec ≡ then_add p (fixupp_at (is_wide rec.ty) p rec.at (contents_at rec.at rec.body.now))
after rec (inl e) p = rw e refl
after rec (inr e) p = rw e refl

pub refused : (wide : Bool) (at : ℕ) (have : Have) (start c : Cursor) (old now : ObjParts) (g : OmfRefusal) → FieldsSoFar wide at have start old now c → AreBytes c.left → c.left ≢ [] → then_field now (field_at wide now at c) ≡ Err g
    → then_add old (fixupp_at wide old at start) ≡ Err g
refused wide at have start c old now g so bytes some e = sym so.read ∙ fixupp-refused wide at now c g bytes some (no-field now (field_at wide now at c) g e)

pub done : (wide : Bool) (at : ℕ) (have : Have) (start c : Cursor) (old now : ObjParts) → FieldsSoFar wide at have start old now c → c.left ≡ []
    → then_add old (fixupp_at wide old at start) ≡ Ok now
done wide at have start c old now so none = sym so.read ∙ fixupp-done wide at now c none

pub shrinks : (wide : Bool) (at : ℕ) (now new : ObjParts) (c d : Cursor) → AreBytes c.left → then_field now (field_at wide now at c) ≡ Ok (new, d) → length d.left < length c.left
shrinks wide at now new c d bytes e =
    let w = with-field now new (field_at wide now at c) d e in
    (takes-form (field_at wide now at) (field_form wide) (GoodField now) (field_sound now wide at) (field_one wide) c w.0 d bytes w.1).0

pub gives-refusal : (old new : ObjParts) (r : Result (Unit {0}) (Fail OmfRefusal)) (f : Fail OmfRefusal) (handed : Result (Unit {0}) (Fail OmfRefusal)) (answer : Result ObjParts OmfRefusal) (read : Reading ObjParts) (d : Cursor)
    → Gives (λ u. (new, d)) if_said r read → r ≡ Err f → handed ≡ Err f → ((g : OmfRefusal) → read ≡ Err g → answer ≡ Err g) → Gives (λ u. old) if_said handed answer
gives-refusal old new r (Said g) handed answer read d h e same so = subst (λ (s : Result (Unit {0}) (Fail OmfRefusal)). Gives (λ u. old) if_said s answer) (sym same) (so g (subst (λ (s : Result (Unit {0}) (Fail OmfRefusal)). Gives (λ u. (new, d)) if_said s read) e h))
gives-refusal old new r NoMemory handed answer read d h e same so = subst (λ (s : Result (Unit {0}) (Fail OmfRefusal)). Gives (λ u. old) if_said s answer) (sym same) tt
