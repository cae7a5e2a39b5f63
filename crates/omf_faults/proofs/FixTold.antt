-- A fix byte and what stands after it fail exactly so.
use Rattle.std.proofs.Common.{◌≡◌, ℕ, ◌%◌, ◌≤◌, Bool, true, false, cond, eqb, length, Option, Some, None, Result, Ok, Err, refl, sym, ap, subst, ◌∙◌, inl, inr}
use Rattle.std.specs.Prelude.{◌&&◌, ◌||◌, ◌↔◌, not, is_some, IsSome}
use Rattle.std.proofs.lemmas.Bool.{eqb-true, eqb-false, cases_Bool, and_from}
use Rattle.lx_bytes.specs.Cursor.{Cursor}
use Rattle.lx_bytes.specs.LittleEndian.{AreBytes}
use Rattle.obj_types.specs.declared.refusal.OmfRefusal.{OmfRefusal}
use Rattle.obj_types.specs.declared.refusal.OmfRefusal.TheVariants.{BadField, BadIndex, NoThread}
use Rattle.obj_types.specs.declared.object.Frame.{Frame}
use Rattle.obj_types.specs.declared.object.Frame.TheVariants as frames
use Rattle.obj_types.specs.declared.object.Goal.{Goal}
use Rattle.obj_types.specs.declared.object.Goal.TheVariants as goals
use Rattle.obj_types.specs.declared.parts.ObjParts.{ObjParts}
use Rattle.obj_types.specs.Whole.{IsPlainSeg}
use Rattle.lx_types.specs.Answers.{◌>>=◌}
use Rattle.omf_fields.specs.Fields.{Reading, width, byte_at, number_at, index_below}
use Rattle.omf_model.specs.Record.{FixData, by_frame_thread, frame_bits, by_target_thread, target_bits, has_displacement}
use Rattle.omf_model.specs.Items.{is_debug_seg}
use Rattle.omf_model.specs.Fixups.{has_index, are_methods, have_of}
use Rattle.omf_model.specs.ReadNames.{plain_seg_at}
use Rattle.omf_model.specs.ReadFixups.{method_index_at, check_plain, check_frame, check_goal, thread_frame, thread_goal, has_threads, fix_data_at}
use Rattle.omf_model.proofs.PlainLaws.{plain_from, plain_index, plain_not_debug}
use Rattle.omf_model.proofs.FixLaws.{and_true, GoodFix, fix_sound, fix_complete}
use Rattle.omf_faults.specs.Parts.{Part}
use Rattle.omf_faults.specs.FieldParts.{a_number, index_with}
use Rattle.omf_faults.specs.FixupRecords.{IsOfMethod, method_index, frame_thread, target_thread, AreSet, FrameIsDebug, TargetIsDebug, NoneThen, WrongFixData, GoodFixBy, fix_data}
use Rattle.omf_faults.proofs.Told.{Judges, refused, part_tells, last_tells, condition_tells, itself, only_judges, no_truth}
use Rattle.omf_faults.proofs.FieldTold.{byte_judges, number_judges, index_judges, below_judges, not_both}
use Rattle.omf_faults.proofs.PlainTold.{plain_judges}

-- ---- indices

-- the same index, told by another condition
same_index : (read : Cursor → Reading ℕ) (Allowed Other : ℕ → Type 0) (have : ℕ) → Judges read (index_with Allowed have) → ((i : ℕ) → Allowed i → Other i) → ((i : ℕ) → Other i → Allowed i) → Judges read (index_with Other have)
same_index read Allowed Other have j to from = record {
  sound = λ c x d bytes is. let s = j.sound c x d bytes is in (s.0, to x s.1);
  complete = λ c x d t ok. j.complete c x d t (from x ok);
  tells = λ c e bytes.
      let k = j.tells c e bytes in (
        λ is. elim (k.0 is) [
          | inl w ↦ inl w
          | inr w ↦ inr (record { index_there = w.index_there; after = w.after; spelled = w.spelled; is = w.is; not_allowed = λ o. w.not_allowed (from w.index_there o) })
        ],
        λ h. k.1 (elim h [
          | inl w ↦ inl w
          | inr w ↦ inr (record { index_there = w.index_there; after = w.after; spelled = w.spelled; is = w.is; not_allowed = λ a. w.not_allowed (to w.index_there a) })
        ]),
      );
}

segment_judges : (p : ObjParts) → Judges (plain_seg_at p) (index_with (IsOfMethod p 0) (length p.module.segs))
segment_judges p =
    same_index (plain_seg_at p) (IsPlainSeg p.module) (IsOfMethod p 0) (length p.module.segs) (plain_judges p)
    (λ i plain. (plain_index p.module.segs i plain, λ zero_. plain_not_debug p.module.segs i plain))
    (λ i of. plain_from p.module.segs i of.0 (of.1 refl))

other_judges : (p : ObjParts) (m : ℕ) → eqb m 0 ≡ false → Judges (index_below (have_of p m)) (index_with (IsOfMethod p m) (have_of p m))
other_judges p m is =
    same_index (index_below (have_of p m)) (λ i. (1 ≤ i) × (i ≤ have_of p m)) (IsOfMethod p m) (have_of p m) (below_judges (have_of p m))
    (λ i range. (range, λ zero_. absurd (eqb-false m 0 is zero_))) (λ i of. of.0)

choice_judges : {A : Type 0} (b : Bool) (read other : Cursor → Reading A) (part : Part A) → (b ≡ true → Judges read part) → (b ≡ false → Judges other part) → Judges (λ c. cond b (read c) (other c)) part
choice_judges true read other part yes_ no_ = yes_ refl
choice_judges false read other part yes_ no_ = no_ refl

method_judges : (judged : Bool) (p : ObjParts) (m : ℕ) → Judges (method_index_at judged p m) (method_index judged p m)
method_judges false p m = index_judges
method_judges true p m =
    choice_judges (eqb m 0) (plain_seg_at p) (index_below (have_of p m)) (index_with (IsOfMethod p m) (have_of p m))
    (λ is. subst (λ (n : ℕ). Judges (plain_seg_at p) (index_with (IsOfMethod p n) (have_of p n))) (sym (eqb-true m 0 is)) (segment_judges p))
    (other_judges p m)

-- ---- threads

set_by : {A : Type 0} (b : Bool) (o : Option A) → ((not b || is_some (cond b o None)) ≡ true) ↔ (b ≡ true → IsSome o)
set_by true o = (λ h same. h, λ h. h refl)
set_by false o = (λ h same. no_truth same, λ h. refl)

are_set : (p : ObjParts) (fix : ℕ) → (has_threads p fix ≡ true) ↔ AreSet p fix
are_set p fix =
    let f = set_by (by_frame_thread fix) (frame_thread p (frame_bits fix % 4)) in
    let t = set_by (by_target_thread fix) (target_thread p (target_bits fix)) in (
      λ h. let both = and_true _ _ h in record { frame = f.0 both.0; target = t.0 both.1 },
      λ s. and_from _ _ (f.1 s.frame) (t.1 s.target),
    )

unit : Result (Unit {0}) OmfRefusal
unit = Ok tt

-- a thread that names a debug segment is refused, by what it names
check_tells : {B : Type 0} (p : ObjParts) (IsDebug : ℕ → Type 0) (at i : ℕ) → (is_debug_seg p.module.segs i ≡ true → IsDebug i) → ((j : ℕ) → IsDebug j → (i ≡ j) × (is_debug_seg p.module.segs j ≡ true))
    → (f : Unit {0} → Result B OmfRefusal) (e : OmfRefusal) (After : Type 0) → (f tt ≡ Err e) ↔ After → ((check_plain true p at i >>= f) ≡ Err e) ↔ NoneThen p IsDebug at e After
check_tells {B} p IsDebug at i to from f e After k =
    elim (cases_Bool (is_debug_seg p.module.segs i)) [
      | inl h ↦
          let fails : (check_plain true p at i >>= f) ≡ refused {A = B} (BadIndex at i (length p.module.segs)) = rw h refl in (
            λ is. let both : refused {A = B} (BadIndex at i (length p.module.segs)) ≡ Err e = sym fails ∙ is in inl (i, to h, (let same : BadIndex at i (length p.module.segs) ≡ e = cc in sym same)),
            λ w. elim w [
              | inl d ↦ fails ∙ ap (λ (n : ℕ). refused {A = B} (BadIndex at n (length p.module.segs))) (from d.0 d.1).0 ∙ ap (λ (y : OmfRefusal). refused {A = B} y) (sym d.2)
              | inr n ↦ absurd (n.0 i (to h))
            ],
          )
      | inr h ↦
          let passes : (check_plain true p at i >>= f) ≡ f tt = rw h refl in (
            λ is. inr (λ j d. let w = from j d in not_both (is_debug_seg p.module.segs j) w.1 (subst (λ (n : ℕ). is_debug_seg p.module.segs n ≡ false) w.0 h), k.0 (sym passes ∙ is)),
            λ w. elim w [
              | inl d ↦ let s = from d.0 d.1 in not_both (is_debug_seg p.module.segs d.0) s.1 (subst (λ (n : ℕ). is_debug_seg p.module.segs n ≡ false) s.0 h)
              | inr n ↦ passes ∙ k.1 n.1
            ],
          )
    ]

-- one that names no segment passes
passes_tells : (p : ObjParts) (IsDebug : ℕ → Type 0) (at : ℕ) (e : OmfRefusal) (Fails After : Type 0) → ((j : ℕ) → IsDebug j → ⊥) → Fails ↔ After → Fails ↔ NoneThen p IsDebug at e After
passes_tells p IsDebug at e Fails After none k = (λ is. inr (none, k.0 is), λ w. elim w [ inl d ↦ absurd (none d.0 d.1) | inr n ↦ k.1 n.1 ])

abbrev DebugFrame : Bool → ObjParts → Bool → Option Frame → ℕ → Type 0
DebugFrame judged p b o i = (judged ≡ true) × (b ≡ true) × (o ≡ Some (frames.Seg i)) × (is_debug_seg p.module.segs i ≡ true)

judged_frame : {B : Type 0} (p : ObjParts) (at : ℕ) (b : Bool) (o : Option Frame) (f : Unit {0} → Result B OmfRefusal) (e : OmfRefusal) (After : Type 0) → (f tt ≡ Err e) ↔ After
    → ((check_frame true p at (cond b o None) >>= f) ≡ Err e) ↔ NoneThen p (DebugFrame true p b o) at e After
judged_frame p at false o f e After k = passes_tells p (DebugFrame true p false o) at e _ After (λ j d. no_truth d.1) k
judged_frame p at true None f e After k = passes_tells p (DebugFrame true p true None) at e _ After (λ j d. let no_ = d.2 in absurd cc) k
judged_frame p at true (Some (frames.Seg i)) f e After k =
    check_tells p (DebugFrame true p true (Some (frames.Seg i))) at i (λ h. (refl, refl, refl, h)) (λ j d. ((let same = d.2 in cc), d.3)) f e After k
judged_frame p at true (Some (frames.Group i)) f e After k = passes_tells p (DebugFrame true p true (Some (frames.Group i))) at e _ After (λ j d. let no_ = d.2 in absurd cc) k
judged_frame p at true (Some (frames.Ext i)) f e After k = passes_tells p (DebugFrame true p true (Some (frames.Ext i))) at e _ After (λ j d. let no_ = d.2 in absurd cc) k
judged_frame p at true (Some frames.Here) f e After k = passes_tells p (DebugFrame true p true (Some frames.Here)) at e _ After (λ j d. let no_ = d.2 in absurd cc) k
judged_frame p at true (Some frames.OfTarget) f e After k = passes_tells p (DebugFrame true p true (Some frames.OfTarget)) at e _ After (λ j d. let no_ = d.2 in absurd cc) k

abbrev DebugTarget : Bool → ObjParts → Bool → Option Goal → ℕ → Type 0
DebugTarget judged p b o i = (judged ≡ true) × (b ≡ true) × (o ≡ Some (goals.Seg i)) × (is_debug_seg p.module.segs i ≡ true)

judged_target : {B : Type 0} (p : ObjParts) (at : ℕ) (b : Bool) (o : Option Goal) (f : Unit {0} → Result B OmfRefusal) (e : OmfRefusal) (After : Type 0) → (f tt ≡ Err e) ↔ After
    → ((check_goal true p at (cond b o None) >>= f) ≡ Err e) ↔ NoneThen p (DebugTarget true p b o) at e After
judged_target p at false o f e After k = passes_tells p (DebugTarget true p false o) at e _ After (λ j d. no_truth d.1) k
judged_target p at true None f e After k = passes_tells p (DebugTarget true p true None) at e _ After (λ j d. let no_ = d.2 in absurd cc) k
judged_target p at true (Some (goals.Seg i)) f e After k =
    check_tells p (DebugTarget true p true (Some (goals.Seg i))) at i (λ h. (refl, refl, refl, h)) (λ j d. ((let same = d.2 in cc), d.3)) f e After k
judged_target p at true (Some (goals.Group i)) f e After k = passes_tells p (DebugTarget true p true (Some (goals.Group i))) at e _ After (λ j d. let no_ = d.2 in absurd cc) k
judged_target p at true (Some (goals.Ext i)) f e After k = passes_tells p (DebugTarget true p true (Some (goals.Ext i))) at e _ After (λ j d. let no_ = d.2 in absurd cc) k

-- where nothing of them is judged
frame_passes : (p : ObjParts) (at : ℕ) (o : Option Frame) → check_frame false p at o ≡ unit
unfolding unit
frame_passes p at None = refl
frame_passes p at (Some (frames.Seg i)) = refl
frame_passes p at (Some (frames.Group i)) = refl
frame_passes p at (Some (frames.Ext i)) = refl
frame_passes p at (Some frames.Here) = refl
frame_passes p at (Some frames.OfTarget) = refl

target_passes : (p : ObjParts) (at : ℕ) (o : Option Goal) → check_goal false p at o ≡ unit
unfolding unit
target_passes p at None = refl
target_passes p at (Some (goals.Seg i)) = refl
target_passes p at (Some (goals.Group i)) = refl
target_passes p at (Some (goals.Ext i)) = refl

frame_tells : {B : Type 0} (judged : Bool) (p : ObjParts) (at fix : ℕ) (f : Unit {0} → Result B OmfRefusal) (e : OmfRefusal) (After : Type 0) → (f tt ≡ Err e) ↔ After
    → ((check_frame judged p at (thread_frame p fix) >>= f) ≡ Err e) ↔ NoneThen p (FrameIsDebug judged p fix) at e After
unfolding unit
frame_tells true p at fix f e After k = judged_frame p at (by_frame_thread fix) (frame_thread p (frame_bits fix % 4)) f e After k
frame_tells {B} false p at fix f e After k =
    let passes : (check_frame false p at (thread_frame p fix) >>= f) ≡ f tt = ap (λ (r : Result (Unit {0}) OmfRefusal). r >>= f) (frame_passes p at (thread_frame p fix)) in
    passes_tells p (FrameIsDebug false p fix) at e _ After (λ j d. no_truth d.0) (λ is. k.0 (sym passes ∙ is), λ w. passes ∙ k.1 w)

target_tells : {B : Type 0} (judged : Bool) (p : ObjParts) (at fix : ℕ) (f : Unit {0} → Result B OmfRefusal) (e : OmfRefusal) (After : Type 0) → (f tt ≡ Err e) ↔ After
    → ((check_goal judged p at (thread_goal p fix) >>= f) ≡ Err e) ↔ NoneThen p (TargetIsDebug judged p fix) at e After
unfolding unit
target_tells true p at fix f e After k = judged_target p at (by_target_thread fix) (target_thread p (target_bits fix)) f e After k
target_tells {B} false p at fix f e After k =
    let passes : (check_goal false p at (thread_goal p fix) >>= f) ≡ f tt = ap (λ (r : Result (Unit {0}) OmfRefusal). r >>= f) (target_passes p at (thread_goal p fix)) in
    passes_tells p (TargetIsDebug false p fix) at e _ After (λ j d. no_truth d.0) (λ is. k.0 (sym passes ∙ is), λ w. passes ∙ k.1 w)

-- ---- the whole

good_data : (judged : Bool) (p : ObjParts) (d : FixData) → GoodFix judged p d → GoodFixBy judged p d
good_data true p d g = g.1 refl
good_data false p d g = g.0

data_good : (judged : Bool) (p : ObjParts) (d : FixData) → GoodFixBy judged p d → GoodFix judged p d
data_good true p d g = (g.meant, λ same. g)
data_good false p d g = (g, λ no_. no_truth no_)

fix_tells : (judged wide : Bool) (p : ObjParts) (c : Cursor) (e : OmfRefusal) → AreBytes c.left → (fix_data_at judged wide p c ≡ Err e) ↔ WrongFixData judged wide p c e
unfolding fix_data_at
fix_tells judged wide p c e bytes =
    part_tells byte_at _ byte_judges c _ e _ bytes λ fix c1 b1.
    condition_tells (has_threads p fix) _ (are_set p fix) (NoThread c.at) _ e _ λ threads.
    condition_tells (are_methods fix) _ (itself (are_methods fix) true) (BadField c.at) _ e _ λ methods.
    frame_tells judged p c.at fix _ e _ (
    target_tells judged p c.at fix _ e _ (
    part_tells _ _ (only_judges (not (by_frame_thread fix) && has_index (frame_bits fix)) _ _ (method_judges judged p (frame_bits fix))) c1 _ e _ b1 λ frame c2 b2.
    part_tells _ _ (only_judges (not (by_target_thread fix)) _ _ (method_judges judged p (target_bits fix))) c2 _ e _ b2 λ target c3 b3.
    last_tells _ _ (only_judges (has_displacement fix) (number_at (width wide)) (a_number (width wide)) (number_judges (width wide))) c3 (λ disp. ((let d : FixData = record { fix = fix; frame = frame; target = target; displacement = disp.0 } in d), disp.1)) e b3))

pub fix_judges : (judged wide : Bool) (p : ObjParts) → Judges (fix_data_at judged wide p) (fix_data judged wide p)
fix_judges judged wide p = record {
  sound = λ c x d bytes is. let s = fix_sound p wide judged c x d bytes is in (s.0, good_data judged p x s.1);
  complete = λ c x d t ok. fix_complete p wide judged c x d t (data_good judged p x ok);
  tells = fix_tells judged wide p;
}
