-- A fix byte and what stands after it: what is read is spelled so and good, and what is so is read.
use Rattle.std.proofs.Common.{◌≡◌, ℕ, ◌%◌, ◌≤◌, Bool, true, false, cond, eqb, List, length, get_or, Option, Some, None, Ok, refl, ap, subst, ◌∙◌, inl, inr}
use Rattle.std.specs.Prelude.{◌&&◌, ◌||◌, IfSome, not, is_some, unwrap_or}
use Rattle.std.proofs.lemmas.Bool.{eqb-true, and_from}
use Rattle.lx_bytes.specs.Cursor.{Cursor}
use Rattle.obj_types.specs.declared.refusal.OmfRefusal.TheVariants.{BadIndex}
use Rattle.obj_types.specs.declared.object.Frame.{Frame}
use Rattle.obj_types.specs.declared.object.Frame.TheVariants as frames
use Rattle.obj_types.specs.declared.object.Goal.{Goal}
use Rattle.obj_types.specs.declared.object.Goal.TheVariants as goals
use Rattle.obj_types.specs.declared.parts.ObjParts.{ObjParts}
use Rattle.omf_fields.specs.Fields.{check, width, number_at, index_below}
use Rattle.omf_fields.specs.Forms.{present, byte, number, index}
use Rattle.omf_model.specs.Record.{FixData, by_frame_thread, frame_bits, by_target_thread, target_bits, has_displacement}
use Rattle.omf_model.specs.Items.{is_debug_seg}
use Rattle.omf_model.specs.Fixups.{has_index, frame_by, goal_by, are_methods, have_of}
use Rattle.omf_model.specs.ReadNames.{plain_seg_at}
use Rattle.omf_model.specs.ReadFixups.{method_index_at, check_plain, check_frame, check_goal, thread_frame, thread_goal, has_threads, fix_data_at}
use Rattle.omf_model.specs.Spelling.{fix_data_form}
use Rattle.omf_model.specs.Good.{GoodMethods, GoodFixData, IsPlainFrame, IsPlainGoal, HasMethod}
use Rattle.omf_fields.proofs.SpanLaws.{Spans, then_spans, then_splits, Sound, Complete, given, done, ok_is, bind_ok, step, checked_step}
use Rattle.omf_fields.proofs.FieldLaws.{Free, FromOne, chosen, number_sound, number_complete, byte_sound, byte_complete, below_sound, below_complete, index_sound, index_complete}
use Rattle.omf_fields.proofs.ListLaws.{present_sound, present_complete}
use Rattle.omf_model.proofs.PlainLaws.{plain_sound, plain_complete, plain_from, plain_index, plain_not_debug}
use Rattle.omf_model.proofs.DataLaws.{bool_cases}
use Rattle.omf_model.proofs.NameLaws.{free_option}

pub and_true : (a b : Bool) → (a && b) ≡ true → (a ≡ true) × (b ≡ true)
and_true true b e = (refl, e)
and_true false b e = absurd cc

-- ---- threads

set_by : {A : Type 0} (b : Bool) (t : Option A) (x : A) → (not b || is_some (cond b t None)) ≡ true → is_some (cond b t (Some x)) ≡ true
set_by true t x e = e
set_by false t x e = refl

set_back : {A : Type 0} (b : Bool) (t : Option A) (x : A) → is_some (cond b t (Some x)) ≡ true → (not b || is_some (cond b t None)) ≡ true
set_back true t x e = e
set_back false t x e = refl

plain_so : (p : ObjParts) (at i : ℕ) (u : Unit {0}) → check_plain true p at i ≡ Ok u → is_debug_seg p.module.segs i ≡ false
plain_so p at i u e =
    elim (bool_cases (is_debug_seg p.module.segs i)) [
      | inl h ↦ let bad : check (not true) (BadIndex at i (length p.module.segs)) ≡ Ok u = subst (λ (b : Bool). check (not b) (BadIndex at i (length p.module.segs)) ≡ done u) h e in absurd cc
      | inr h ↦ h
    ]

frame_plain : (p : ObjParts) (at : ℕ) (u : Unit {0}) (b : Bool) (t : Option Frame) (x : Frame) → check_frame true p at (cond b t None) ≡ Ok u → (b ≡ false → IsPlainFrame p x) → IfSome (cond b t (Some x)) (IsPlainFrame p)
frame_plain p at u true None x e h = tt
frame_plain p at u true (Some (frames.Seg i)) x e h = plain_so p at i u e
frame_plain p at u true (Some (frames.Group i)) x e h = tt
frame_plain p at u true (Some (frames.Ext i)) x e h = tt
frame_plain p at u true (Some frames.Here) x e h = tt
frame_plain p at u true (Some frames.OfTarget) x e h = tt
frame_plain p at u false t x e h = h refl

goal_plain : (p : ObjParts) (at : ℕ) (u : Unit {0}) (b : Bool) (t : Option Goal) (x : Goal) → check_goal true p at (cond b t None) ≡ Ok u → (b ≡ false → IsPlainGoal p x) → IfSome (cond b t (Some x)) (IsPlainGoal p)
goal_plain p at u true None x e h = tt
goal_plain p at u true (Some (goals.Seg i)) x e h = plain_so p at i u e
goal_plain p at u true (Some (goals.Group i)) x e h = tt
goal_plain p at u true (Some (goals.Ext i)) x e h = tt
goal_plain p at u false t x e h = h refl

frame_checked : (p : ObjParts) (at : ℕ) (b : Bool) (t : Option Frame) (x : Frame) → IfSome (cond b t (Some x)) (IsPlainFrame p) → check_frame true p at (cond b t None) ≡ Ok tt
frame_checked p at true None x h = refl
frame_checked p at true (Some (frames.Seg i)) x h = rw h refl
frame_checked p at true (Some (frames.Group i)) x h = refl
frame_checked p at true (Some (frames.Ext i)) x h = refl
frame_checked p at true (Some frames.Here) x h = refl
frame_checked p at true (Some frames.OfTarget) x h = refl
frame_checked p at false t x h = refl

goal_checked : (p : ObjParts) (at : ℕ) (b : Bool) (t : Option Goal) (x : Goal) → IfSome (cond b t (Some x)) (IsPlainGoal p) → check_goal true p at (cond b t None) ≡ Ok tt
goal_checked p at true None x h = refl
goal_checked p at true (Some (goals.Seg i)) x h = rw h refl
goal_checked p at true (Some (goals.Group i)) x h = refl
goal_checked p at true (Some (goals.Ext i)) x h = refl
goal_checked p at false t x h = refl

frame_unjudged : (p : ObjParts) (at : ℕ) (o : Option Frame) → check_frame false p at o ≡ Ok tt
frame_unjudged p at None = refl
frame_unjudged p at (Some (frames.Seg i)) = refl
frame_unjudged p at (Some (frames.Group i)) = refl
frame_unjudged p at (Some (frames.Ext i)) = refl
frame_unjudged p at (Some frames.Here) = refl
frame_unjudged p at (Some frames.OfTarget) = refl

goal_unjudged : (p : ObjParts) (at : ℕ) (o : Option Goal) → check_goal false p at o ≡ Ok tt
goal_unjudged p at None = refl
goal_unjudged p at (Some (goals.Seg i)) = refl
goal_unjudged p at (Some (goals.Group i)) = refl
goal_unjudged p at (Some (goals.Ext i)) = refl

-- ---- indices

abbrev MethodIndex : ObjParts → ℕ → ℕ → Type 0
MethodIndex p m i = HasMethod p m i × (m ≡ 0 → is_debug_seg p.module.segs i ≡ false)

abbrev Judged : Bool → ObjParts → ℕ → ℕ → Type 0
Judged judged p m i = judged ≡ true → MethodIndex p m i

method_sound : (p : ObjParts) (judged : Bool) (m : ℕ) → Sound (method_index_at judged p m) index (Judged judged p m)
method_sound p false m c x d bytes e = ((index_sound c x d bytes e).0, λ no. absurd cc)
method_sound p true m c x d bytes e =
    elim (chosen (eqb m 0) (plain_seg_at p c) (index_below (have_of p m) c) (given x d) e) [
      | inl h ↦
          let s = plain_sound p c x d bytes h.1 in
          let range : HasMethod p m x = rw h.0 (plain_index p.module.segs x s.1) in
          (s.0, λ yes. (range, λ z. plain_not_debug p.module.segs x s.1))
      | inr h ↦
          let s = below_sound (have_of p m) c x d bytes h.1 in
          (s.0, λ yes. (s.1, λ z. let no : true ≡ false = subst (λ (k : ℕ). eqb k 0 ≡ false) z h.0 in absurd cc))
    ]

method_complete : (p : ObjParts) (judged : Bool) (m : ℕ) → Complete (method_index_at judged p m) index (Judged judged p m)
method_complete p false m c x d t ok = index_complete c x d t tt
method_complete p true m c x d t ok =
    let g = ok refl in
    elim (bool_cases (eqb m 0)) [
      | inl h ↦
          let high : x ≤ length p.module.segs = subst (λ (b : Bool). x ≤ cond b (length p.module.segs) (cond (eqb m 1) (length p.module.groups) (length p.module.exts))) h g.0.1 in
          let range : FromOne (length p.module.segs) x = (g.0.0, high) in
          rw h (plain_complete p c x d t (plain_from p.module.segs x range (g.1 (eqb-true m 0 h))))
      | inr h ↦
          let below : index_below (have_of p m) c ≡ given x d = below_complete (have_of p m) c x d t g.0 in
          rw h (subst (λ (b : Bool). index_below (cond b (length p.module.segs) (cond (eqb m 1) (length p.module.groups) (length p.module.exts))) c ≡ given x d) h below)
    ]

-- ---- frame and goal by a method of their own

frame_of_two : (p : ObjParts) (b : Bool) (x y : Frame) → (b ≡ true → IsPlainFrame p x) → IsPlainFrame p y → IsPlainFrame p (cond b x y)
frame_of_two p true x y h k = h refl
frame_of_two p false x y h k = k

later_frames : (p : ObjParts) (b c d : Bool) (i : ℕ) → IsPlainFrame p (cond b (frames.Group i) (cond c (frames.Ext i) (cond d frames.Here frames.OfTarget)))
later_frames p true c d i = tt
later_frames p false true d i = tt
later_frames p false false true i = tt
later_frames p false false false i = tt

frame_by_plain : (p : ObjParts) (m i : ℕ) → (m ≡ 0 → is_debug_seg p.module.segs i ≡ false) → IsPlainFrame p (frame_by m i)
frame_by_plain p m i h = frame_of_two p (eqb m 0) (frames.Seg i) _ (λ e. h (eqb-true m 0 e)) (later_frames p (eqb m 1) (eqb m 2) (eqb m 4) i)

goal_of_two : (p : ObjParts) (b : Bool) (x y : Goal) → (b ≡ true → IsPlainGoal p x) → IsPlainGoal p y → IsPlainGoal p (cond b x y)
goal_of_two p true x y h k = h refl
goal_of_two p false x y h k = k

later_goals : (p : ObjParts) (b : Bool) (i : ℕ) → IsPlainGoal p (cond b (goals.Group i) (goals.Ext i))
later_goals p true i = tt
later_goals p false i = tt

goal_by_plain : (p : ObjParts) (m i : ℕ) → (m ≡ 0 → is_debug_seg p.module.segs i ≡ false) → IsPlainGoal p (goal_by m i)
goal_by_plain p m i h = goal_of_two p (eqb m 0) (goals.Seg i) _ (λ e. h (eqb-true m 0 e)) (later_goals p (eqb m 1) i)

-- where a test failed there is no field
pub absent : (b : Bool) (o : Option ℕ) (front : List ℕ) → present b index o front → is_some o ≡ b
absent true None front h = absurd h
absent true (Some i) front h = refl
absent false None front h = refl
absent false (Some i) front h = absurd h

own_index : (p : ObjParts) (m : ℕ) (o : Option ℕ) → IfSome o (MethodIndex p m) → is_some o ≡ true → m ≡ 0 → is_debug_seg p.module.segs (unwrap_or o 0) ≡ false
own_index p m None h e z = absurd cc
own_index p m (Some i) h e z = h.1 z

own_frame : (p : ObjParts) (m : ℕ) (b : Bool) (o : Option ℕ) (front : List ℕ) → present (not b && has_index m) index o front → IfSome o (MethodIndex p m) → b ≡ false → IsPlainFrame p (frame_by m (unwrap_or o 0))
own_frame p m true o front so h e = absurd cc
own_frame p m false o front so h e =
    frame_by_plain p m (unwrap_or o 0) (λ z. own_index p m o h (absent (has_index m) o front so ∙ ap (λ (k : ℕ). has_index k) z) z)

own_goal : (p : ObjParts) (m : ℕ) (b : Bool) (o : Option ℕ) (front : List ℕ) → present (not b) index o front → IfSome o (MethodIndex p m) → b ≡ false → IsPlainGoal p (goal_by m (unwrap_or o 0))
own_goal p m true o front so h e = absurd cc
own_goal p m false o front so h e = goal_by_plain p m (unwrap_or o 0) (λ z. own_index p m o h (absent true o front so) z)

ranges : (p : ObjParts) (m : ℕ) (o : Option ℕ) → IfSome o (MethodIndex p m) → IfSome o (HasMethod p m)
ranges p m None h = tt
ranges p m (Some i) h = h.0

judged_all : (p : ObjParts) (m : ℕ) (o : Option ℕ) → IfSome o (Judged true p m) → IfSome o (MethodIndex p m)
judged_all p m None h = tt
judged_all p m (Some i) h = h refl

-- ---- the whole

abbrev pub GoodFix : Bool → ObjParts → FixData → Type 0
GoodFix judged p d = GoodMethods p d × (judged ≡ true → GoodFixData p d)

judged_good : (p : ObjParts) (wide : Bool) (at : ℕ) (d : FixData) (u v : Unit {0}) (f t : List ℕ) → GoodMethods p d
    → check_frame true p at (thread_frame p d.fix) ≡ Ok u → check_goal true p at (thread_goal p d.fix) ≡ Ok v
    → present (not (by_frame_thread d.fix) && has_index (frame_bits d.fix)) index d.frame f → IfSome d.frame (Judged true p (frame_bits d.fix))
    → present (not (by_target_thread d.fix)) index d.target t → IfSome d.target (Judged true p (target_bits d.fix)) → GoodFixData p d
judged_good p wide at d u v f t meant ef eg so_f ok_f so_t ok_t =
    let mf = judged_all p (frame_bits d.fix) d.frame ok_f in
    let mt = judged_all p (target_bits d.fix) d.target ok_t in
    record {
      meant = meant;
      frame_index = ranges p (frame_bits d.fix) d.frame mf;
      target_index = ranges p (target_bits d.fix) d.target mt;
      frame = frame_plain p at u (by_frame_thread d.fix) (get_or p.threads.frame (frame_bits d.fix % 4) None)
          (frame_by (frame_bits d.fix) (unwrap_or d.frame 0)) ef (own_frame p (frame_bits d.fix) (by_frame_thread d.fix) d.frame f so_f mf);
      goal = goal_plain p at v (by_target_thread d.fix) (get_or p.threads.goal (target_bits d.fix) None)
          (goal_by (target_bits d.fix) (unwrap_or d.target 0)) eg (own_goal p (target_bits d.fix) (by_target_thread d.fix) d.target t so_t mt);
    }

methods_good : (p : ObjParts) (d : FixData) (f t : List ℕ) → has_threads p d.fix ≡ true → are_methods d.fix ≡ true →
    present (not (by_frame_thread d.fix) && has_index (frame_bits d.fix)) index d.frame f → present (not (by_target_thread d.fix)) index d.target t → GoodMethods p d
methods_good p d f t threads methods so_f so_t =
    let both = and_true _ _ threads in
    record {
      frame_there = absent (not (by_frame_thread d.fix) && has_index (frame_bits d.fix)) d.frame f so_f;
      target_there = absent (not (by_target_thread d.fix)) d.target t so_t;
      methods = methods;
      frame_set = set_by (by_frame_thread d.fix) (get_or p.threads.frame (frame_bits d.fix % 4) None) (frame_by (frame_bits d.fix) (unwrap_or d.frame 0)) both.0;
      goal_set = set_by (by_target_thread d.fix) (get_or p.threads.goal (target_bits d.fix) None) (goal_by (target_bits d.fix) (unwrap_or d.target 0)) both.1;
    }

pub fix_sound : (p : ObjParts) (wide judged : Bool) → Sound (fix_data_at judged wide p) (fix_data_form wide) (GoodFix judged p)
unfolding fix_data_at
fix_sound p wide judged c x d bytes e =
    step _ _ _ byte_sound c _ (x, d) bytes e λ fix c1 t1 f1 b1 e1.
    let k1 = checked_step (has_threads p fix) _ _ (x, d) e1 in
    let k2 = checked_step (are_methods fix) _ _ (x, d) k1.1 in
    let k3 = bind_ok (check_frame judged p c.at (thread_frame p fix)) _ (x, d) k2.1 in
    let k4 = bind_ok (check_goal judged p c.at (thread_goal p fix)) _ (x, d) k3.2 in
    step _ _ _ (present_sound (not (by_frame_thread fix) && has_index (frame_bits fix)) _ _ _ (method_sound p judged (frame_bits fix))) c1 _ (x, d) b1 k4.2 λ frame c2 t2 g2 b2 e2.
    step _ _ _ (present_sound (not (by_target_thread fix)) _ _ _ (method_sound p judged (target_bits fix))) c2 _ (x, d) b2 e2 λ target c3 t3 g3 b3 e3.
    step _ _ _ (present_sound (has_displacement fix) (number_at (width wide)) (number (width wide)) Free (number_sound (width wide))) c3 _ (x, d) b3 e3 λ disp c4 t4 f4 b4 e4.
    let value : FixData = record { fix = fix; frame = frame; target = target; displacement = disp } in
    let meant = methods_good p value t2.front t3.front k1.0 k2.0 t2.so t3.so in
    let good : judged ≡ true → GoodFixData p value = λ yes. judged_good p wide c.at value k3.0 k4.0 t2.front t3.front meant
    (subst (λ (j : Bool). check_frame j p c.at (thread_frame p fix) ≡ done k3.0) yes k3.1) (subst (λ (j : Bool). check_goal j p c.at (thread_goal p fix) ≡ done k4.0) yes k4.1)
    t2.so (subst (λ (j : Bool). IfSome frame (Judged j p (frame_bits fix))) yes g2) t3.so (subst (λ (j : Bool). IfSome target (Judged j p (target_bits fix))) yes g3) in
    subst (λ (q : FixData × Cursor). Spans (fix_data_form wide q.0) c q.1 × GoodFix judged p q.0) (ok_is (value, c4) (x, d) e4)
    (then_spans (byte fix) _ c c1 c4 t1 (then_spans _ _ c1 c2 c4 t2 (then_spans _ _ c2 c3 c4 t3 t4)), (meant, good))

-- ---- what is so is read

threads_again : (p : ObjParts) (d : FixData) → GoodMethods p d → has_threads p d.fix ≡ true
threads_again p d g =
    and_from _ _ (set_back (by_frame_thread d.fix) (get_or p.threads.frame (frame_bits d.fix % 4) None) (frame_by (frame_bits d.fix) (unwrap_or d.frame 0)) g.frame_set)
    (set_back (by_target_thread d.fix) (get_or p.threads.goal (target_bits d.fix) None) (goal_by (target_bits d.fix) (unwrap_or d.target 0)) g.goal_set)

frame_index_again : (p : ObjParts) (m : ℕ) (b : Bool) (t : Option Frame) (o : Option ℕ) (front : List ℕ) → present (not b && has_index m) index o front →
    IfSome o (HasMethod p m) → IfSome (cond b t (Some (frame_by m (unwrap_or o 0)))) (IsPlainFrame p) → IfSome o (MethodIndex p m)
frame_index_again p m b t None front so h plain = tt
frame_index_again p m true t (Some i) front so h plain = absurd so
frame_index_again p m false t (Some i) front so h plain = (h, λ z. subst (λ (k : ℕ). IsPlainFrame p (frame_by k i)) z plain)

goal_index_again : (p : ObjParts) (m : ℕ) (b : Bool) (t : Option Goal) (o : Option ℕ) (front : List ℕ) →
    present (not b) index o front → IfSome o (HasMethod p m) → IfSome (cond b t (Some (goal_by m (unwrap_or o 0)))) (IsPlainGoal p) → IfSome o (MethodIndex p m)
goal_index_again p m b t None front so h plain = tt
goal_index_again p m true t (Some i) front so h plain = absurd so
goal_index_again p m false t (Some i) front so h plain = (h, λ z. subst (λ (k : ℕ). IsPlainGoal p (goal_by k i)) z plain)

judge_all : (p : ObjParts) (judged : Bool) (m : ℕ) (o : Option ℕ) → (judged ≡ true → IfSome o (MethodIndex p m)) → IfSome o (Judged judged p m)
judge_all p judged m None h = tt
judge_all p judged m (Some i) h = h

frame_check_again : (p : ObjParts) (judged : Bool) (at : ℕ) (d : FixData) → (judged ≡ true → GoodFixData p d) → check_frame judged p at (thread_frame p d.fix) ≡ Ok tt
frame_check_again p true at d good = frame_checked p at (by_frame_thread d.fix) (get_or p.threads.frame (frame_bits d.fix % 4) None) (frame_by (frame_bits d.fix) (unwrap_or d.frame 0)) (good refl).frame
frame_check_again p false at d good = frame_unjudged p at (thread_frame p d.fix)

goal_check_again : (p : ObjParts) (judged : Bool) (at : ℕ) (d : FixData) → (judged ≡ true → GoodFixData p d) → check_goal judged p at (thread_goal p d.fix) ≡ Ok tt
goal_check_again p true at d good = goal_checked p at (by_target_thread d.fix) (get_or p.threads.goal (target_bits d.fix) None) (goal_by (target_bits d.fix) (unwrap_or d.target 0)) (good refl).goal
goal_check_again p false at d good = goal_unjudged p at (thread_goal p d.fix)

pub fix_complete : (p : ObjParts) (wide judged : Bool) → Complete (fix_data_at judged wide p) (fix_data_form wide) (GoodFix judged p)
unfolding fix_data_at
fix_complete p wide judged c x d t ok =
    let s1 = then_splits (byte x.fix) _ c d t in
    let s2 = then_splits (present (not (by_frame_thread x.fix) && has_index (frame_bits x.fix)) index x.frame) _ s1.0 d s1.2 in
    let s3 = then_splits (present (not (by_target_thread x.fix)) index x.target) _ s2.0 d s2.2 in
    let frame_ok = judge_all p judged (frame_bits x.fix) x.frame (λ yes. frame_index_again p (frame_bits x.fix)
    (by_frame_thread x.fix) (get_or p.threads.frame (frame_bits x.fix % 4) None) x.frame s2.1.front s2.1.so (ok.1 yes).frame_index (ok.1 yes).frame) in
    let target_ok = judge_all p judged (target_bits x.fix) x.target (λ yes. goal_index_again p (target_bits x.fix)
    (by_target_thread x.fix) (get_or p.threads.goal (target_bits x.fix) None) x.target s3.1.front s3.1.so (ok.1 yes).target_index (ok.1 yes).goal) in
    let frame = present_complete (not (by_frame_thread x.fix) && has_index (frame_bits x.fix)) _ _ _ (method_complete p judged (frame_bits x.fix)) s1.0 x.frame s2.0 s2.1 frame_ok in
    let target = present_complete (not (by_target_thread x.fix)) _ _ _ (method_complete p judged (target_bits x.fix)) s2.0 x.target s3.0 s3.1 target_ok in
    let disp = present_complete (has_displacement x.fix) (number_at (width wide)) (number (width wide)) Free (number_complete (width wide)) s3.0 x.displacement d s3.2 (free_option x.displacement) in
    rw (byte_complete c x.fix s1.0 s1.1 tt, threads_again p x ok.0, ok.0.methods, frame_check_again p judged c.at x ok.1, goal_check_again p judged c.at x ok.1, frame, target, disp) refl
