-- What is kept of a whole input is whole: a segment that is taken out is named by nothing that stays.
use Rattle.std.specs.Prelude.{◌≡◌, ◌≢◌, ℕ, zero, suc, ◌+◌, ◌≤◌, Bool, true, false, cond, not, ◌==◌, List, [], ◌∷◌, ◌++◌, Option, Some, None, map, length, filter, slice_get, refl}
use Rattle.std.specs.List.{list_any, enumerate_from, sum_by, All, AllByRecursion}
use Rattle.std.specs.Option.{IsSomeAnd, IfSome}
use Rattle.std.proofs.Common.{ap, sym, ◌∙◌, arith, subst, ne_eqb}
use Rattle.std.proofs.Math.ListN.{get_or}
use Rattle.std.proofs.lemmas.List.{length-map}
use Rattle.std.proofs.lemmas.List.Elements.{All-from_recursion, recursion_from_All}
use Rattle.std.proofs.lemmas.List.Filters.{length-filter_both, sum_by-filter_both}
use Rattle.std.proofs.lemmas.List.Sums.{sum_by-cons}
use Rattle.std.proofs.lemmas.List.Kept.{AllPairs-filter}
use Rattle.std.proofs.lemmas.Bool.{or_from, not-true}
use Rattle.lx_types.proofs.Lists.{all_weaker}
use Rattle.obj_types.specs.declared.object.Seg.{Seg}
use Rattle.obj_types.specs.declared.object.Group.{Group}
use Rattle.obj_types.specs.declared.object.Piece.{Piece}
use Rattle.obj_types.specs.declared.object.Frame.{Frame}
use Rattle.obj_types.specs.declared.object.Frame.TheVariants as frames
use Rattle.obj_types.specs.declared.object.Goal.{Goal}
use Rattle.obj_types.specs.declared.object.Goal.TheVariants as goals
use Rattle.obj_types.specs.declared.object.FixAt.{FixAt}
use Rattle.obj_types.specs.declared.object.StartAt.{StartAt}
use Rattle.obj_types.specs.declared.object.Comdat.{Comdat}
use Rattle.obj_types.specs.declared.object.ObjModule.{ObjModule}
use Rattle.obj_types.specs.declared.symbol.Pub.{Pub}
use Rattle.obj_types.specs.declared.symbol.PubPlace.{PubPlace}
use Rattle.obj_types.specs.declared.symbol.PubPlace.TheVariants.{In, Const}
use Rattle.obj_types.specs.Items.{item, IsIndex}
use Rattle.obj_types.specs.Location.{meets}
use Rattle.obj_types.specs.Input.{counted}
use Rattle.obj_types.specs.Whole.{IsPlainSeg, LiesIn, WholeSeg, WholeGroup, WholePlace, WholeFrame, WholeGoal, WholeFix, WholeStart, WholeComdat, WholeModule, IsApartFrame, IsApartGoal}
use Rattle.link_model.specs.Kept.{is_local, is_called, repeated, taken, is_seg_of, seg_without, group_without, is_place_in, without, kept_module, kept_after, Kept}
use Rattle.link_model.specs.KeptLaws.{KeptIsWhole}

-- ---- what holds of each item

all_filter : {X : Type 0} (P Q : X → Type 0) (keep : X → Bool) → ((x : X) → P x → keep x ≡ true → Q x) → (xs : List X) → AllByRecursion P xs → AllByRecursion Q (filter keep xs)
all_filter P Q keep f [] h = tt
all_filter {X} P Q keep f (x ∷ xs) h = by (keep x) refl (all_filter P Q keep f xs h.1)
  where
    by : (b : Bool) → keep x ≡ b → AllByRecursion Q (filter keep xs) → AllByRecursion Q (cond b (x ∷ filter keep xs) (filter keep xs))
    by true e rest = (f x h.0 e, rest)
    by false e rest = rest

all_map : {X Y : Type 0} (P : X → Type 0) (Q : Y → Type 0) (f : X → Y) → ((x : X) → P x → Q (f x)) → (xs : List X) → AllByRecursion P xs → AllByRecursion Q (map f xs)
all_map P Q f g [] h = tt
all_map P Q f g (x ∷ xs) h = (g x h.0, all_map P Q f g xs h.1)

all_numbered : {X Y : Type 0} (P : X → Type 0) (Q : Y → Type 0) (f : ℕ × X → Y) → ((n : ℕ) (x : X) → P x → Q (f (n, x))) → (s : ℕ) (xs : List X) → AllByRecursion P xs → AllByRecursion Q (map f (enumerate_from s xs))
all_numbered P Q f g s [] h = tt
all_numbered P Q f g s (x ∷ xs) h = (g s x h.0, all_numbered P Q f g (s + 1) xs h.1)

-- ---- the segments that stay

seg_at : (gone : ℕ → Bool) (segs : List Seg) (s k : ℕ) (P : Seg → Type 0) → ((x : Seg) → P x → P (seg_without gone (s + k) x)) →
    IsSomeAnd (slice_get segs k) P → IsSomeAnd (slice_get (map (λ q. seg_without gone q.0 q.1) (enumerate_from s segs)) k) P
seg_at gone [] s k P f h = h
seg_at gone (x ∷ xs) s zero P f h = subst (λ (n : ℕ). P (seg_without gone n x)) (let e : s + 0 ≡ s = omega arith in e) (f x h)
seg_at gone (x ∷ xs) s (suc k) P f h =
    seg_at gone xs (s + 1) k P (λ y p. subst (λ (n : ℕ). P (seg_without gone n y)) (let e : s + suc k ≡ s + 1 + k = omega arith in e) (f y p)) h

-- What does not depend on the mark as debug stays true of a segment that stays.
seg_stays : (gone : ℕ → Bool) (m : ObjModule) (i : ℕ) (P : Seg → Type 0) → ((x : Seg) → P x → P (seg_without gone i x)) → IsSomeAnd (item m.segs i) P → IsSomeAnd (item (without gone m).segs i) P
seg_stays gone m zero P f h = h
seg_stays gone m (suc k) P f h =
    seg_at gone m.segs 1 k P (λ x p. subst (λ (n : ℕ). P (seg_without gone n x)) (let e : suc k ≡ 1 + k = omega arith in e) (f x p)) h

plain_stays : (gone : ℕ → Bool) (m : ObjModule) (i : ℕ) → gone i ≡ false → IsPlainSeg m i → IsPlainSeg (without gone m) i
plain_stays gone m i e h = seg_stays gone m i (λ (s : Seg). s.debug ≡ false) (λ x p. or_from x.debug (gone i) p e) h

lies_stays : (gone : ℕ → Bool) (m : ObjModule) (i offset len : ℕ) → gone i ≡ false → LiesIn m i offset len → LiesIn (without gone m) i offset len
lies_stays gone m i offset len e h =
    seg_stays gone m i (λ (s : Seg). (s.debug ≡ false) × (offset + len ≤ s.len)) (λ x p. (or_from x.debug (gone i) p.0 e, p.1)) h

-- ---- what names segments

-- Nothing that is taken out is named.
abbrev FrameStays : (ℕ → Bool) → Frame → Type 0
FrameStays gone (frames.Seg i) = gone i ≡ false
FrameStays gone (frames.Group i) = Unit {0}
FrameStays gone (frames.Ext i) = Unit {0}
FrameStays gone frames.Here = Unit {0}
FrameStays gone frames.OfTarget = Unit {0}

abbrev GoalStays : (ℕ → Bool) → Goal → Type 0
GoalStays gone (goals.Seg i) = gone i ≡ false
GoalStays gone (goals.Group i) = Unit {0}
GoalStays gone (goals.Ext i) = Unit {0}

groups_stay : (gone : ℕ → Bool) (m : ObjModule) (i : ℕ) → IsIndex m.groups i → IsIndex (without gone m).groups i
groups_stay gone m i h = (h.0, subst (λ (n : ℕ). i ≤ n) (sym (length-map m.groups (group_without gone))) h.1)

frame_whole : (gone : ℕ → Bool) (m : ObjModule) (f : Frame) → WholeFrame m f → FrameStays gone f → WholeFrame (without gone m) f
frame_whole gone m (frames.Seg i) h e = plain_stays gone m i e h
frame_whole gone m (frames.Group i) h e = groups_stay gone m i h
frame_whole gone m (frames.Ext i) h e = h
frame_whole gone m frames.Here h e = tt
frame_whole gone m frames.OfTarget h e = tt

goal_whole : (gone : ℕ → Bool) (m : ObjModule) (g : Goal) → WholeGoal m g → GoalStays gone g → WholeGoal (without gone m) g
goal_whole gone m (goals.Seg i) h e = plain_stays gone m i e h
goal_whole gone m (goals.Group i) h e = groups_stay gone m i h
goal_whole gone m (goals.Ext i) h e = h

place_whole : (gone : ℕ → Bool) (m : ObjModule) (p : PubPlace) → WholePlace m p → not (is_place_in gone p) ≡ true → WholePlace (without gone m) p
place_whole gone m (In seg offset) h e = plain_stays gone m seg (not-true (gone seg) e) h
place_whole gone m (Const value) h e = tt

-- ---- COMDATs are apart from what names segments

apart_from : (cs : List Comdat) (i : ℕ) → AllByRecursion (λ (c : Comdat). i ≢ c.seg) cs → is_seg_of cs i ≡ false
apart_from [] i h = refl
apart_from (c ∷ cs) i h = or_from (c.seg == i) (is_seg_of cs i) (ne_eqb c.seg i (λ e. h.0 (sym e))) (apart_from cs i h.1)

frame_stays : (cs : List Comdat) (f : Frame) → AllByRecursion (λ (c : Comdat). IsApartFrame c.seg f) cs → FrameStays (is_seg_of cs) f
frame_stays cs (frames.Seg i) h = apart_from cs i h
frame_stays cs (frames.Group i) h = tt
frame_stays cs (frames.Ext i) h = tt
frame_stays cs frames.Here h = tt
frame_stays cs frames.OfTarget h = tt

goal_stays : (cs : List Comdat) (g : Goal) → AllByRecursion (λ (c : Comdat). IsApartGoal c.seg g) cs → GoalStays (is_seg_of cs) g
goal_stays cs (goals.Seg i) h = apart_from cs i h
goal_stays cs (goals.Group i) h = tt
goal_stays cs (goals.Ext i) h = tt

-- ---- a module

-- A fixup that names nothing that is taken out.
record NamedFix (m : ObjModule) (gone : ℕ → Bool) (f : FixAt) : Type 0 where
  pub whole : WholeFix m f
  pub frame : FrameStays gone f.frame
  pub goal : GoalStays gone f.goal

fix_whole : (m : ObjModule) (gone : ℕ → Bool) (f : FixAt) → NamedFix m gone f → not (gone f.seg) ≡ true → WholeFix (without gone m) f
fix_whole m gone f h e =
    let w = h.whole in
    record {
      location = w.location;
      relative = w.relative;
      place = lies_stays gone m f.seg f.offset _ (not-true (gone f.seg) e) w.place;
      frame = frame_whole gone m f.frame w.frame h.frame;
      goal = goal_whole gone m f.goal w.goal h.goal;
    }

fixes_named : (m : ObjModule) (cs : List Comdat) → WholeModule m → AllByRecursion (WholeComdat m) cs → All (NamedFix m (is_seg_of cs)) m.fixes
fixes_named m cs w h = λ k d below.
    let f = get_or m.fixes k d in
    record {
      whole = w.fixes k d below;
      frame = frame_stays cs f.frame (all_weaker (WholeComdat m) (λ (c : Comdat). IsApartFrame c.seg f.frame) (λ c v. v.frames k d below) cs h);
      goal = goal_stays cs f.goal (all_weaker (WholeComdat m) (λ (c : Comdat). IsApartGoal c.seg f.goal) (λ c v. v.goals k d below) cs h);
    }

-- The start names nothing that is taken out.
apart_frames : (cs : List Comdat) (o : Option StartAt) (m : ObjModule) → m.start ≡ o → AllByRecursion (WholeComdat m) cs →
    AllByRecursion (λ (c : Comdat). IfSome o (λ (s : StartAt). IsApartFrame c.seg s.frame) × IfSome o (λ (s : StartAt). IsApartGoal c.seg s.goal)) cs
apart_frames cs o m is h =
    all_weaker (WholeComdat m) (λ (c : Comdat). IfSome o (λ (s : StartAt). IsApartFrame c.seg s.frame) × IfSome o (λ (s : StartAt). IsApartGoal c.seg s.goal))
    (λ c v. subst (λ (o : Option StartAt). IfSome o (λ (s : StartAt). IsApartFrame c.seg s.frame) × IfSome o (λ (s : StartAt). IsApartGoal c.seg s.goal)) is (v.start_frame, v.start_goal)) cs h

start_by : (m : ObjModule) (cs : List Comdat) (o : Option StartAt) → IfSome o (WholeStart m) → AllByRecursion (λ (c : Comdat). IfSome o
    (λ (s : StartAt). IsApartFrame c.seg s.frame) × IfSome o (λ (s : StartAt). IsApartGoal c.seg s.goal)) cs → IfSome o (WholeStart (without (is_seg_of cs) m))
start_by m cs None h apart = tt
start_by m cs (Some s) h apart = (
  frame_whole (is_seg_of cs) m s.frame h.0 (frame_stays cs s.frame (all_weaker _ (λ (c : Comdat). IsApartFrame c.seg s.frame) (λ c v. v.0) cs apart)),
  goal_whole (is_seg_of cs) m s.goal h.1 (goal_stays cs s.goal (all_weaker _ (λ (c : Comdat). IsApartGoal c.seg s.goal) (λ c v. v.1) cs apart)),
)

group_whole : (gone : ℕ → Bool) (m : ObjModule) (g : Group) → WholeGroup m g → WholeGroup (without gone m) (group_without gone g)
group_whole gone m g h =
    record {
      members = All-from_recursion (IsPlainSeg (without gone m)) (filter (λ i. not (gone i)) g.members)
          (all_filter (IsPlainSeg m) (IsPlainSeg (without gone m)) (λ i. not (gone i)) (λ i p e. plain_stays gone m i (not-true (gone i) e) p) g.members (recursion_from_All (IsPlainSeg m) g.members h.members));
      flat = λ e. ap (filter (λ i. not (gone i))) (h.flat e);
    }

abbrev PieceIn : ObjModule → Piece → Type 0
PieceIn m p = LiesIn m p.seg p.offset (length p.bytes)

without_whole : (m : ObjModule) (cs : List Comdat) → WholeModule m → AllByRecursion (WholeComdat m) cs → WholeModule (without (is_seg_of cs) m)
without_whole m cs w h =
    let gone = is_seg_of cs in
    let n = without gone m in
    let less = sum_by-filter_both (λ (p : Piece). not (gone p.seg)) (λ (p : Piece). not (not (gone p.seg))) (λ p. refl) (λ (p : Piece). length p.bytes) m.pieces in
    let fewer = length-filter_both (λ (f : FixAt). not (gone f.seg)) (λ (f : FixAt). not (not (gone f.seg))) (λ f. refl) m.fixes in
    let bytes = w.data_limit in
    let count = w.fix_limit in
    record {
      segs = All-from_recursion WholeSeg n.segs
          (all_numbered WholeSeg WholeSeg (λ q. seg_without gone q.0 q.1) (λ i s v. record { align = v.align; combine = v.combine; not_reserved = v.not_reserved }) 1 m.segs (recursion_from_All WholeSeg m.segs w.segs));
      groups = All-from_recursion (WholeGroup n) n.groups
          (all_map (WholeGroup m) (WholeGroup n) (group_without gone) (group_whole gone m) m.groups (recursion_from_All (WholeGroup m) m.groups w.groups));
      pubs = All-from_recursion (λ (p : Pub). WholePlace n p.place) n.pubs
          (all_filter (λ (p : Pub). WholePlace m p.place) (λ (p : Pub). WholePlace n p.place) (λ p. not (is_place_in gone p.place))
          (λ p v e. place_whole gone m p.place v e) m.pubs (recursion_from_All (λ (p : Pub). WholePlace m p.place) m.pubs w.pubs));
      pieces = All-from_recursion (PieceIn n) n.pieces
          (all_filter (PieceIn m) (PieceIn n) (λ p. not (gone p.seg)) (λ p v e. lies_stays gone m p.seg p.offset (length p.bytes) (not-true (gone p.seg) e) v) m.pieces (recursion_from_All (PieceIn m) m.pieces w.pieces));
      fixes = All-from_recursion (WholeFix n) n.fixes
          (all_filter (NamedFix m gone) (WholeFix n) (λ f. not (gone f.seg)) (fix_whole m gone) m.fixes (recursion_from_All (NamedFix m gone) m.fixes (fixes_named m cs w h)));
      apart = AllPairs-filter (λ f g. meets f g ≡ false) (λ f. not (gone f.seg)) m.fixes w.apart;
      imports = w.imports;
      exports = w.exports;
      start = start_by m cs m.start w.start (apart_frames cs m.start m refl h);
      data_limit = omega (arith, less, bytes);
      fix_limit = omega (arith, fewer, count);
      comdats = λ k d below. absurd (omega (arith, below));
      comdats_apart = λ i j d first below. absurd (omega (arith, below));
    }

-- ---- an input

repeated_whole : (P : Comdat → Type 0) (earlier cs : List Comdat) → AllByRecursion P cs → AllByRecursion P (repeated earlier cs)
repeated_whole P earlier [] h = tt
repeated_whole P earlier (c ∷ cs) h = by (list_any (is_called c.name) earlier) (repeated_whole P (earlier ++ c ∷ []) cs h.1)
  where
    by : (b : Bool) → AllByRecursion P (repeated (earlier ++ c ∷ []) cs) → AllByRecursion P (cond b (c ∷ repeated (earlier ++ c ∷ []) cs) (repeated (earlier ++ c ∷ []) cs))
    by true rest = (h.0, rest)
    by false rest = rest

kept_whole : (before : List ObjModule) (m : ObjModule) → WholeModule m → WholeModule (kept_module before m)
kept_whole before m w =
    without_whole m (taken before m) w (repeated_whole (WholeComdat m) _ _
    (all_filter (WholeComdat m) (WholeComdat m) (λ c. not (is_local m c)) (λ c v e. v) m.comdats (recursion_from_All (WholeComdat m) m.comdats w.comdats)))

after_whole : (before ms : List ObjModule) → AllByRecursion WholeModule ms → AllByRecursion WholeModule (kept_after before ms)
after_whole before [] w = tt
after_whole before (m ∷ ms) w = (kept_whole before m w.0, after_whole (before ++ m ∷ []) ms w.1)

all_whole : (before ms : List ObjModule) → All WholeModule ms → All WholeModule (kept_after before ms)
all_whole before ms w = All-from_recursion WholeModule (kept_after before ms) (after_whole before ms (recursion_from_All WholeModule ms w))

after_counted : (before ms : List ObjModule) → sum_by counted (kept_after before ms) ≡ sum_by counted ms
after_counted before [] = refl
after_counted before (m ∷ ms) =
    sum_by-cons counted (kept_module before m) (kept_after (before ++ m ∷ []) ms)
    ∙ ap (λ (n : ℕ). counted m + n) (after_counted (before ++ m ∷ []) ms)
    ∙ sym (sum_by-cons counted m ms)

pub kept_is_whole : KeptIsWhole
unfolding Kept
kept_is_whole input w =
    let few = w.few in
    record {
      objects = all_whole [] input.objects w.objects;
      libs = all_whole input.objects input.libs w.libs;
      def = w.def;
      stem = w.stem;
      few = omega (arith, after_counted [] input.objects, after_counted input.objects input.libs, few);
    }
