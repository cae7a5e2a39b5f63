-- A good record keeps an unfinished module whole, so what is read is whole.
use Rattle.std.proofs.Common.{◌≡◌, ℕ, zero, suc, ◌+◌, ◌%◌, ◌<◌, ◌≤◌, Bool, true, false, cond, eqb, List, [], ◌∷◌, ◌++◌, length, get_or, Option, Some, None, refl, sym, ap, subst, ◌∙◌, arith, inl, inr, length-append}
use Rattle.std.specs.Prelude.{◌&&◌, IfSome, is_some, not, unwrap_or}
use Rattle.std.specs.List.{AllByRecursion, enumerate_from, filter}
use Rattle.std.proofs.lemmas.List.{append-nil}
use Rattle.std.proofs.lemmas.List.Sums.{sum_by-append}
use Rattle.std.proofs.lemmas.Bool.{eqb-true}
use Rattle.lx_types.proofs.Lists.{all_joined, all_weaker}
use Rattle.obj_types.specs.declared.limits.TheConstants.{MAX_DATA, MAX_FIXES}
use Rattle.obj_types.specs.declared.object.Seg.{Seg}
use Rattle.obj_types.specs.declared.object.Piece.{Piece}
use Rattle.obj_types.specs.declared.object.Frame.{Frame}
use Rattle.obj_types.specs.declared.object.Frame.TheVariants as frames
use Rattle.obj_types.specs.declared.object.Goal.{Goal}
use Rattle.obj_types.specs.declared.object.Goal.TheVariants as goals
use Rattle.obj_types.specs.declared.object.FixAt.{FixAt}
use Rattle.obj_types.specs.declared.object.StartAt.{StartAt}
use Rattle.obj_types.specs.declared.object.ObjModule.{ObjModule}
use Rattle.obj_types.specs.declared.symbol.Pub.{Pub}
use Rattle.obj_types.specs.declared.symbol.PubPlace.{PubPlace}
use Rattle.obj_types.specs.declared.symbol.PubPlace.TheVariants.{In, Const}
use Rattle.obj_types.specs.declared.parts.BegunComdat.{BegunComdat}
use Rattle.obj_types.specs.declared.parts.TheConstants.{COMDAT_BASE}
use Rattle.obj_types.specs.declared.parts.LastData.{LastData}
use Rattle.obj_types.specs.declared.parts.LastData.TheVariants as datas
use Rattle.obj_types.specs.declared.parts.Threads.{Threads}
use Rattle.obj_types.specs.declared.parts.ObjParts.{ObjParts}
use Rattle.obj_types.specs.Location.{meets}
use Rattle.obj_types.specs.Whole.{WholeSeg, WholeGroup, WholeFrame, WholeGoal, WholeStart, WholeExp, is_in_seg}
use Rattle.omf_model.specs.Lists.{collect, latest}
use Rattle.omf_model.specs.Record.{Record, comdat, modend, FixField, FixData, by_frame_thread, frame_bits, by_target_thread, target_bits}
use Rattle.omf_model.specs.Items.{segs_in, groups_in, pubs_in, exts_in, imports_in, exports_in, begun_in, fields_in, starts_in, data_so_far}
use Rattle.omf_model.specs.Fixups.{has_index, frame_by, goal_by, frame_meant, goal_meant, set_threads, fixes_by, have_of}
use Rattle.omf_model.specs.Add.{add}
use Rattle.omf_model.specs.AddLists.{begun_so_far, module_with, parts_with, HasFour}
use Rattle.omf_model.specs.Begun.{IsNumbered, LastFits, InFrame, InGoal}
use Rattle.omf_model.specs.Good.{GoodAfter, GoodFixData, IsPlainFrame, IsPlainGoal, HasMethod}
use Rattle.omf_fields.proofs.FieldLaws.{FromOne}
use Rattle.omf_model.proofs.DataLaws.{bool_cases}
use Rattle.omf_model.proofs.PlainLaws.{plain_from}
use Rattle.omf_model.proofs.PairLaws.{Pairs}
use Rattle.omf_model.proofs.GrowLaws.{Grows, lies-grows, group-grows, start-grows}
use Rattle.omf_model.proofs.NumberLaws.{not-equal, PartsGrow, WholeFixAt, numbered-grows, lies_at-grows, fix_at-grows, numbers-from, in_number, HasPublic, publics-more, none-of}
use Rattle.omf_model.proofs.PartsLaws.{no_threads, add-lists}
use Rattle.omf_model.proofs.SaneLaws.{IsOther, IsIndexed, PubIndexed, PieceIn, pieces_by, datas_by, HasModule, segs-whole, groups-whole, pubs-whole, imports-whole, exports-whole, data-whole}

abbrev pub FrameSet : ObjModule → Option Frame → Type 0
FrameSet m o = IfSome o (InFrame m)

abbrev pub GoalSet : ObjModule → Option Goal → Type 0
GoalSet m o = IfSome o (InGoal m)

abbrev pub Apart : FixAt → FixAt → Type 0
Apart f g = meets f g ≡ false

abbrev pub StartSet : ObjModule → Option StartAt → Type 0
StartSet m o = IfSome o (WholeStart m)

-- A COMDAT that has begun: a segment that is whole.
pub record WholeBegun (b : BegunComdat) : Type 0 where
  pub whole : WholeSeg b.seg
  pub plain : b.seg.debug ≡ false

abbrev pub PubIn : ObjParts → Pub → Type 0
PubIn p q = IsNumbered p q.place

-- the COMDATs with the numbers of their segments
abbrev pub counted : List BegunComdat → List (ℕ × BegunComdat)
counted begun = enumerate_from (COMDAT_BASE + 1) begun

-- An unfinished module that is whole so far.
pub record Sane (p : ObjParts) : Type 0 where
  pub segs : AllByRecursion WholeSeg p.module.segs
  pub groups : AllByRecursion (WholeGroup p.module) p.module.groups
  pub pubs : AllByRecursion (PubIn p) p.module.pubs
  pub pieces : AllByRecursion (PieceIn p) p.module.pieces
  pub fixes : AllByRecursion (WholeFixAt p) p.module.fixes
  pub apart : Pairs Apart p.module.fixes
  pub imports : AllByRecursion HasModule p.module.imports
  pub exports : AllByRecursion WholeExp p.module.exports
  pub start : StartSet p.module p.module.start
  pub data_limit : data_so_far p ≤ MAX_DATA
  pub fix_limit : length p.module.fixes ≤ MAX_FIXES
  pub comdats : AllByRecursion WholeBegun p.comdats
  pub publics : AllByRecursion (HasPublic p.module.pubs) (counted p.comdats)
  pub last : LastFits p p.last
  pub frames : AllByRecursion (FrameSet p.module) p.threads.frame
  pub goals : AllByRecursion (GoalSet p.module) p.threads.goal
  pub four_frames : length p.threads.frame ≡ 4
  pub four_goals : length p.threads.goal ≡ 4

pub sane-four : (p : ObjParts) → Sane p → HasFour p.threads
sane-four p s = record { frames = s.four_frames; goals = s.four_goals }

pub latest-all : {A : Type 0} (P : A → Type 0) (x : A) (ys : List A) → P x → AllByRecursion P ys → P (latest x ys)
latest-all P x [] h a = h
latest-all P x (y ∷ ys) h a = latest-all P y ys a.0 a.1

pub get-all : {A : Type 0} (P : A → Type 0) (xs : List A) (n : ℕ) (d : A) → P d → AllByRecursion P xs → P (get_or xs n d)
get-all P [] n d h a = h
get-all P (x ∷ xs) zero d h a = a.0
get-all P (x ∷ xs) (suc n) d h a = get-all P xs n d h a.1

-- ---- frames and goals

whole_frame : (m : ObjModule) (p : ObjParts) → m ≡ p.module → (f : Frame) → InFrame p.module f → IsPlainFrame p f → WholeFrame p.module f
whole_frame m p e (frames.Seg i) h plain = plain_from p.module.segs i h plain
whole_frame m p e (frames.Group i) h plain = h
whole_frame m p e (frames.Ext i) h plain = h
whole_frame m p e frames.Here h plain = tt
whole_frame m p e frames.OfTarget h plain = tt

whole_goal : (p : ObjParts) (f : Goal) → InGoal p.module f → IsPlainGoal p f → WholeGoal p.module f
whole_goal p (goals.Seg i) h plain = plain_from p.module.segs i h plain
whole_goal p (goals.Group i) h plain = h
whole_goal p (goals.Ext i) h plain = h

both_frame : (p : ObjParts) (o : Option Frame) → IfSome o (InFrame p.module) → IfSome o (IsPlainFrame p) → IfSome o (WholeFrame p.module)
both_frame p None h k = tt
both_frame p (Some f) h k = whole_frame p.module p refl f h k

both_goal : (p : ObjParts) (o : Option Goal) → IfSome o (InGoal p.module) → IfSome o (IsPlainGoal p) → IfSome o (WholeGoal p.module)
both_goal p None h k = tt
both_goal p (Some f) h k = whole_goal p f h k

-- an index of a method's own names what came before, where the method has one
pub frame_by-in : (p : ObjParts) (m : ℕ) (o : Option ℕ) → is_some o ≡ has_index m → IfSome o (HasMethod p m) → InFrame p.module (frame_by m (unwrap_or o 0))
frame_by-in p m o there h =
    elim (bool_cases (eqb m 0)) [
      | inl z ↦ let e = eqb-true m 0 z in subst (λ (k : ℕ). InFrame p.module (frame_by k (unwrap_or o 0)))
          (sym e) (at p o 0 (subst (λ (k : ℕ). is_some o ≡ has_index k) e there) (subst (λ (k : ℕ). IfSome o (HasMethod p k)) e h))
      | inr n0 ↦ elim (bool_cases (eqb m 1)) [
        | inl z ↦ let e = eqb-true m 1 z in subst (λ (k : ℕ). InFrame p.module (frame_by k (unwrap_or o 0)))
            (sym e) (at p o 1 (subst (λ (k : ℕ). is_some o ≡ has_index k) e there) (subst (λ (k : ℕ). IfSome o (HasMethod p k)) e h))
        | inr n1 ↦ elim (bool_cases (eqb m 2)) [
          | inl z ↦ let e = eqb-true m 2 z in subst (λ (k : ℕ). InFrame p.module (frame_by k (unwrap_or o 0)))
              (sym e) (at p o 2 (subst (λ (k : ℕ). is_some o ≡ has_index k) e there) (subst (λ (k : ℕ). IfSome o (HasMethod p k)) e h))
          | inr n2 ↦ elim (bool_cases (eqb m 4)) [
            | inl z ↦ rw (n0, n1, n2, z) tt
            | inr z ↦ rw (n0, n1, n2, z) tt
          ]
        ]
      ]
    ]
  where
    at : (p : ObjParts) (o : Option ℕ) (k : ℕ) → is_some o ≡ true → IfSome o (HasMethod p k) → FromOne (have_of p k) (unwrap_or o 0)
    at p None k t h = absurd cc
    at p (Some i) k t h = h

pub goal_by-in : (p : ObjParts) (m : ℕ) (o : Option ℕ) → is_some o ≡ true → IfSome o (HasMethod p m) → InGoal p.module (goal_by m (unwrap_or o 0))
goal_by-in p m None there h = absurd cc
goal_by-in p m (Some i) there h =
    elim (bool_cases (eqb m 0)) [
      | inl z ↦ let e = eqb-true m 0 z in subst (λ (k : ℕ). InGoal p.module (goal_by k i)) (sym e) (subst (λ (k : ℕ). HasMethod p k i) e h)
      | inr n0 ↦ elim (bool_cases (eqb m 1)) [
        | inl z ↦ let e = eqb-true m 1 z in subst (λ (k : ℕ). InGoal p.module (goal_by k i)) (sym e) (subst (λ (k : ℕ). HasMethod p k i) e h)
        | inr n1 ↦
            let high : i ≤ length p.module.exts = subst (λ (b : Bool). i ≤ cond b (length p.module.groups) (length p.module.exts)) n1
            (subst (λ (b : Bool). i ≤ cond b (length p.module.segs) (cond (eqb m 1) (length p.module.groups) (length p.module.exts))) n0 h.1) in
            rw (n0, n1) (h.0, high)
      ]
    ]

meant_frame : (p : ObjParts) (b : Bool) (t : Option Frame) (m : ℕ) (o : Option ℕ) → FrameSet p.module t →
    is_some o ≡ (not b && has_index m) → IfSome o (HasMethod p m) → IfSome (cond b t (Some (frame_by m (unwrap_or o 0)))) (InFrame p.module)
meant_frame p true t m o set there h = set
meant_frame p false t m o set there h = frame_by-in p m o there h

meant_goal : (p : ObjParts) (b : Bool) (t : Option Goal) (m : ℕ) (o : Option ℕ) → GoalSet p.module t → is_some o ≡ not b → IfSome o (HasMethod p m) → IfSome (cond b t (Some (goal_by m (unwrap_or o 0)))) (InGoal p.module)
meant_goal p true t m o set there h = set
meant_goal p false t m o set there h = goal_by-in p m o there h

pub frame_whole : (p : ObjParts) (d : FixData) → Sane p → GoodFixData p d → IfSome (frame_meant p.threads d) (WholeFrame p.module)
frame_whole p d s g =
    both_frame p (frame_meant p.threads d)
    (meant_frame p (by_frame_thread d.fix) (get_or p.threads.frame (frame_bits d.fix % 4) None)
    (frame_bits d.fix) d.frame (get-all (FrameSet p.module) p.threads.frame (frame_bits d.fix % 4) None tt s.frames) g.meant.frame_there g.frame_index)
    g.frame

pub goal_whole : (p : ObjParts) (d : FixData) → Sane p → GoodFixData p d → IfSome (goal_meant p.threads d) (WholeGoal p.module)
goal_whole p d s g =
    both_goal p (goal_meant p.threads d)
    (meant_goal p (by_target_thread d.fix) (get_or p.threads.goal (target_bits d.fix) None)
    (target_bits d.fix) d.target (get-all (GoalSet p.module) p.threads.goal (target_bits d.fix) None tt s.goals) g.meant.target_there g.target_index)
    g.goal

or_default : {A : Type 0} (P : A → Type 0) (o : Option A) (x : A) → IfSome o P → is_some o ≡ true → P (unwrap_or o x)
or_default P None x h e = absurd cc
or_default P (Some y) x h e = h

pub fix_frame : (p : ObjParts) (d : FixData) → Sane p → GoodFixData p d → WholeFrame p.module (unwrap_or (frame_meant p.threads d) frames.Here)
fix_frame p d s g = or_default (WholeFrame p.module) (frame_meant p.threads d) frames.Here (frame_whole p d s g) g.meant.frame_set

pub fix_goal : (p : ObjParts) (d : FixData) → Sane p → GoodFixData p d → WholeGoal p.module (unwrap_or (goal_meant p.threads d) (goals.Seg 0))
fix_goal p d s g = or_default (WholeGoal p.module) (goal_meant p.threads d) (goals.Seg 0) (goal_whole p d s g) g.meant.goal_set

-- ---- the start

starts-whole : (p : ObjParts) (r : Record) → Sane p → GoodAfter p r → AllByRecursion (StartSet p.module) (starts_in p.threads r)
starts-whole p (modend kind None) s g = (tt, tt)
starts-whole p (modend kind (Some d)) s g = ((fix_frame p d s g, fix_goal p d s g), tt)
starts-whole p r s g = tt

-- ---- one more record that is no FIXUPP

module-grows : (p : ObjParts) (r : Record) → Grows p.module (module_with p r)
unfolding module_with
module-grows p r = record { more_segs = segs_in p.names r; segs = refl; groups = omega (arith, length-append p.module.groups (groups_in p.names r)); exts = omega (arith, length-append p.module.exts (exts_in r)) }

pub add-grows : (p : ObjParts) (r : Record) → PartsGrow p (parts_with p r)
unfolding parts_with module_with
add-grows p r = record {
  «module» = module-grows p r;
  more_pieces = pieces_by p r;
  pieces = refl;
  comdats = omega (arith, length-append p.comdats (begun_in p.names p.module.segs r));
}

pub last-grows : (p q : ObjParts) → PartsGrow p q → (l : LastData) → LastFits p l → LastFits q l
last-grows p q g datas.None h = tt
last-grows p q g (datas.Straight seg offset len) h = lies_at-grows p q g seg offset len h
last-grows p q g (datas.Blocks seg offset wide body) h = (h.0, lies-grows p.module q.module g.module seg offset _ h.1)
last-grows p q g datas.Dropped h = tt

pub in_frame-grows : (old m : ObjModule) → Grows old m → (f : Frame) → InFrame old f → InFrame m f
in_frame-grows old m g (frames.Seg i) h = (h.0, omega (arith, h.1, ap (λ (ss : List Seg). length ss) g.segs, length-append old.segs g.more_segs))
in_frame-grows old m g (frames.Group i) h = (h.0, omega (arith, h.1, g.groups))
in_frame-grows old m g (frames.Ext i) h = (h.0, omega (arith, h.1, g.exts))
in_frame-grows old m g frames.Here h = tt
in_frame-grows old m g frames.OfTarget h = tt

pub in_goal-grows : (old m : ObjModule) → Grows old m → (f : Goal) → InGoal old f → InGoal m f
in_goal-grows old m g (goals.Seg i) h = (h.0, omega (arith, h.1, ap (λ (ss : List Seg). length ss) g.segs, length-append old.segs g.more_segs))
in_goal-grows old m g (goals.Group i) h = (h.0, omega (arith, h.1, g.groups))
in_goal-grows old m g (goals.Ext i) h = (h.0, omega (arith, h.1, g.exts))

pub option-grows : {A : Type 0} (P Q : A → Type 0) → ((x : A) → P x → Q x) → (o : Option A) → IfSome o P → IfSome o Q
option-grows P Q h None a = tt
option-grows P Q h (Some x) a = h x a

no_fixes : (p : ObjParts) (r : Record) → fields_in r ≡ [] → (parts_with p r).module.fixes ≡ p.module.fixes
unfolding parts_with module_with
no_fixes p r none = ap (λ (fs : List FixField). p.module.fixes ++ collect (λ fields f. fixes_by p.last (set_threads p.threads fields) f) fs) none ∙ append-nil p.module.fixes

same_threads : (p : ObjParts) (r : Record) → Sane p → fields_in r ≡ [] → (parts_with p r).threads ≡ p.threads
unfolding parts_with
same_threads p r s none = ap (λ (fs : List FixField). set_threads p.threads fs) none ∙ no_threads p.threads (sane-four p s)

none-begun : (names : List (List ℕ)) (segs : List Seg) (r : Record) → IsOther r → begun_in names segs r ≡ []
none-begun names segs (comdat d) other = absurd other
none-begun names segs r other = refl

same_comdats : (p : ObjParts) (r : Record) → IsOther r → (parts_with p r).comdats ≡ p.comdats
unfolding parts_with
same_comdats p r other = ap (λ (bs : List BegunComdat). p.comdats ++ bs) (none-begun p.names p.module.segs r other) ∙ append-nil p.comdats

-- publics in segments of indices are of no COMDAT
indexed-numbered : (p : ObjParts) (x : PubPlace) → IsIndexed p x → IsNumbered p x
indexed-numbered p (In seg offset) h = inl h
indexed-numbered p (Const value) h = tt

indexed-apart : (p : ObjParts) (number : ℕ) → COMDAT_BASE < number → (x : PubPlace) → IsIndexed p x → is_in_seg number x ≡ false
indexed-apart p number past (In seg offset) h = not-equal seg number (λ e. omega (arith, e, h.0, past))
indexed-apart p number past (Const value) h = refl

none-indexed : (p : ObjParts) (xs : List Pub) → AllByRecursion (PubIndexed p) xs → (qs : List (ℕ × BegunComdat)) (n : ℕ) →
    AllByRecursion (λ (q : ℕ × BegunComdat). (COMDAT_BASE + 1 ≤ q.0) × (q.0 < n)) qs → AllByRecursion (λ (q : ℕ × BegunComdat). filter (in_number q.0) xs ≡ []) qs
none-indexed p xs h qs n past =
    all_weaker (λ (q : ℕ × BegunComdat). (COMDAT_BASE + 1 ≤ q.0) × (q.0 < n)) (λ (q : ℕ × BegunComdat). filter (in_number q.0) xs ≡ [])
    (λ q k. none-of xs q.0 (all_weaker (PubIndexed p) (λ (x : Pub). in_number q.0 x ≡ false) (λ x i. indexed-apart p q.0 (omega (arith, k.0)) x.place i) xs h)) qs past

lists-sane : (p : ObjParts) (r : Record) → fields_in r ≡ [] → IsOther r → Sane p → GoodAfter p r → Sane (parts_with p r)
unfolding parts_with module_with
lists-sane p r none other s good =
    let q : ObjParts = parts_with p r in
    let m : ObjModule = module_with p r in
    let g = module-grows p r in
    let more : PartsGrow p q = add-grows p r in
    let d = data-whole p r good other in
    let fixes = no_fixes p r none in
    let threads = same_threads p r s none in
    let comdats = same_comdats p r other in
    let new : List Pub = pubs_in p.names (begun_so_far p) r in
    let indexed : AllByRecursion (PubIndexed p) new = pubs-whole p r good other in
    record {
      segs = all_joined WholeSeg p.module.segs (segs_in p.names r) s.segs (segs-whole p r good);
      groups =
          all_joined (WholeGroup m) p.module.groups (groups_in p.names r) (all_weaker (WholeGroup p.module) (WholeGroup m) (group-grows p.module m g) p.module.groups s.groups)
          (all_weaker (WholeGroup p.module) (WholeGroup m) (group-grows p.module m g) (groups_in p.names r) (groups-whole p r good));
      pubs = all_joined (PubIn q) p.module.pubs new (all_weaker (PubIn p) (PubIn q) (λ x h. numbered-grows p q more x.place h) p.module.pubs s.pubs)
          (all_weaker (PubIndexed p) (PubIn q) (λ x h. numbered-grows p q more x.place (indexed-numbered p x.place h)) new indexed);
      pieces =
          all_joined (PieceIn q) p.module.pieces (pieces_by p r) (all_weaker (PieceIn p) (PieceIn q) (λ x h. lies_at-grows p q more x.seg x.offset _ h) p.module.pieces s.pieces)
          (all_weaker (PieceIn p) (PieceIn q) (λ x h. lies_at-grows p q more x.seg x.offset _ h) (pieces_by p r) d.pieces);
      fixes = subst (AllByRecursion (WholeFixAt q)) (sym fixes) (all_weaker (WholeFixAt p) (WholeFixAt q) (fix_at-grows p q more) p.module.fixes s.fixes);
      apart = subst (Pairs Apart) (sym fixes) s.apart;
      imports = all_joined HasModule p.module.imports (imports_in r) s.imports (imports-whole p r good);
      exports = all_joined WholeExp p.module.exports (exports_in r) s.exports (exports-whole p r good);
      start = latest-all (StartSet m) p.module.start (starts_in p.threads r)
          (option-grows (WholeStart p.module) (WholeStart m) (start-grows p.module m g) p.module.start s.start) (all_weaker (StartSet p.module)
          (StartSet m) (option-grows (WholeStart p.module) (WholeStart m) (start-grows p.module m g)) (starts_in p.threads r) (starts-whole p r s good));
      data_limit = omega (arith, d.limit s.data_limit, sum_by-append (λ (x : Piece). length x.bytes) p.module.pieces (pieces_by p r));
      fix_limit = subst (λ (fs : List FixAt). length fs ≤ MAX_FIXES) (sym fixes) s.fix_limit;
      comdats = subst (AllByRecursion WholeBegun) (sym comdats) s.comdats;
      publics = subst (λ (bs : List BegunComdat). AllByRecursion (HasPublic (p.module.pubs ++ new)) (counted bs)) (sym comdats)
          (publics-more p.module.pubs new (counted p.comdats) (none-indexed p new indexed (counted p.comdats) _ (numbers-from (COMDAT_BASE + 1) p.comdats)) s.publics);
      last = latest-all (LastFits q) p.last (datas_by p r) (last-grows p q more p.last s.last) (all_weaker (LastFits p) (LastFits q) (last-grows p q more) (datas_by p r) d.last);
      frames = subst (λ (ts : Threads). AllByRecursion (FrameSet m) ts.frame) (sym threads)
          (all_weaker (FrameSet p.module) (FrameSet m) (option-grows (InFrame p.module) (InFrame m) (in_frame-grows p.module m g)) p.threads.frame s.frames);
      goals = subst (λ (ts : Threads). AllByRecursion (GoalSet m) ts.goal)
          (sym threads) (all_weaker (GoalSet p.module) (GoalSet m) (option-grows (InGoal p.module) (InGoal m) (in_goal-grows p.module m g)) p.threads.goal s.goals);
      four_frames = subst (λ (ts : Threads). length ts.frame ≡ 4) (sym threads) s.four_frames;
      four_goals = subst (λ (ts : Threads). length ts.goal ≡ 4) (sym threads) s.four_goals;
    }

pub add-sane : (p : ObjParts) (r : Record) → fields_in r ≡ [] → IsOther r → Sane p → GoodAfter p r → Sane (add p r)
add-sane p r none other s good = subst Sane (sym (add-lists p r (sane-four p s))) (lists-sane p r none other s good)
