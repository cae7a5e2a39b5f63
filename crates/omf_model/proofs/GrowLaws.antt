-- What holds of a module holds when its lists grow.
use Rattle.std.proofs.Common.{◌≡◌, ℕ, zero, suc, ◌+◌, ◌≤◌, false, List, [], ◌∷◌, ◌++◌, length, sym, subst, arith}
use Rattle.std.specs.Prelude.{IsSomeAnd, slice_get}
use Rattle.std.specs.List.{AllByRecursion}
use Rattle.lx_types.proofs.Lists.{all_weaker}
use Rattle.obj_types.specs.declared.object.Seg.{Seg}
use Rattle.obj_types.specs.declared.object.Group.{Group}
use Rattle.obj_types.specs.declared.object.Frame.{Frame}
use Rattle.obj_types.specs.declared.object.Frame.TheVariants as frames
use Rattle.obj_types.specs.declared.object.Goal.{Goal}
use Rattle.obj_types.specs.declared.object.Goal.TheVariants as goals
use Rattle.obj_types.specs.declared.object.FixAt.{FixAt}
use Rattle.obj_types.specs.declared.object.StartAt.{StartAt}
use Rattle.obj_types.specs.declared.object.ObjModule.{ObjModule}
use Rattle.obj_types.specs.declared.symbol.PubPlace.{PubPlace}
use Rattle.obj_types.specs.declared.symbol.PubPlace.TheVariants.{In, Const}
use Rattle.obj_types.specs.Items.{item}
use Rattle.obj_types.specs.Whole.{IsPlainSeg, LiesIn, WholeGroup, WholePlace, WholeFrame, WholeGoal, WholeFix, WholeStart}

-- m has what old has, and maybe more after it
pub record Grows (old m : ObjModule) : Type 0 where
  pub more_segs : List Seg
  pub segs : m.segs ≡ old.segs ++ more_segs
  pub groups : length old.groups ≤ length m.groups
  pub exts : length old.exts ≤ length m.exts

get-append : {A : Type 0} (P : A → Type 0) (xs ys : List A) (i : ℕ) → IsSomeAnd (slice_get xs i) P → IsSomeAnd (slice_get (xs ++ ys) i) P
get-append P [] ys i h = absurd h
get-append P (x ∷ xs) ys zero h = h
get-append P (x ∷ xs) ys (suc i) h = get-append P xs ys i h

item-append : {A : Type 0} (P : A → Type 0) (xs ys : List A) (i : ℕ) → IsSomeAnd (item xs i) P → IsSomeAnd (item (xs ++ ys) i) P
item-append P xs ys zero h = absurd h
item-append P xs ys (suc i) h = get-append P xs ys i h

module _ (old m : ObjModule) (g : Grows old m) where
  seg-grows : (P : Seg → Type 0) (i : ℕ) → IsSomeAnd (item old.segs i) P → IsSomeAnd (item m.segs i) P
  seg-grows P i h = subst (λ (ss : List Seg). IsSomeAnd (item ss i) P) (sym g.segs) (item-append P old.segs g.more_segs i h)

  pub plain-grows : (i : ℕ) → IsPlainSeg old i → IsPlainSeg m i
  plain-grows i h = seg-grows (λ s. s.debug ≡ false) i h

  pub lies-grows : (i offset len : ℕ) → LiesIn old i offset len → LiesIn m i offset len
  lies-grows i offset len h = seg-grows (λ s. (s.debug ≡ false) × (offset + len ≤ s.len)) i h

  pub frame-grows : (f : Frame) → WholeFrame old f → WholeFrame m f
  frame-grows (frames.Seg i) h = plain-grows i h
  frame-grows (frames.Group i) h = (h.0, omega (arith, h.1, g.groups))
  frame-grows (frames.Ext i) h = (h.0, omega (arith, h.1, g.exts))
  frame-grows frames.Here h = tt
  frame-grows frames.OfTarget h = tt

  pub goal-grows : (f : Goal) → WholeGoal old f → WholeGoal m f
  goal-grows (goals.Seg i) h = plain-grows i h
  goal-grows (goals.Group i) h = (h.0, omega (arith, h.1, g.groups))
  goal-grows (goals.Ext i) h = (h.0, omega (arith, h.1, g.exts))

  members-grow : (is : List ℕ) → AllByRecursion (IsPlainSeg old) is → AllByRecursion (IsPlainSeg m) is
  members-grow is h = all_weaker (IsPlainSeg old) (IsPlainSeg m) plain-grows is h

  pub place-grows : (p : PubPlace) → WholePlace old p → WholePlace m p
  place-grows (In seg offset) h = plain-grows seg h
  place-grows (Const value) h = tt

  pub fix-grows : (f : FixAt) → WholeFix old f → WholeFix m f
  fix-grows f h = record { location = h.location; relative = h.relative; place = lies-grows f.seg f.offset _ h.place; frame = frame-grows f.frame h.frame; goal = goal-grows f.goal h.goal }

  pub start-grows : (s : StartAt) → WholeStart old s → WholeStart m s
  start-grows s h = (frame-grows s.frame h.0, goal-grows s.goal h.1)

  pub group-grows : (x : Group) → WholeGroup old x → WholeGroup m x
  group-grows x h = record { members = λ k d lt. plain-grows _ (h.members k d lt); flat = h.flat }
