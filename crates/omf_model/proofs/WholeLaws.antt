-- What is read is whole.
use Rattle.std.proofs.Common.{◌≡◌, ℕ, ◌+◌, ◌<◌, ◌≤◌, Bool, true, false, cond, eqb, ltb, List, [], ◌∷◌, ◌++◌, length, map, get_or, Option, Some, None, refl, sym, subst, ◌∙◌, arith, inl, inr, length-append, append_assoc}
use Rattle.std.specs.Prelude.{◌&&◌, ◌||◌, IfSome, not, unwrap_or}
use Rattle.std.specs.List.{All, AllByRecursion, cons_option, list_any}
use Rattle.std.proofs.lemmas.List.{append-nil}
use Rattle.std.proofs.lemmas.Bool.{leb-true, ltb-true, le-ltb, not-true}
use Rattle.lx_types.proofs.Lists.{all_joined, all_weaker}
use Rattle.obj_types.specs.declared.limits.TheConstants.{MAX_FIXES}
use Rattle.obj_types.specs.declared.object.Frame.TheVariants as frames
use Rattle.obj_types.specs.declared.object.Goal.TheVariants as goals
use Rattle.obj_types.specs.declared.object.FixAt.{FixAt}
use Rattle.obj_types.specs.declared.object.ObjModule.{ObjModule}
use Rattle.obj_types.specs.declared.parts.LastData.{LastData}
use Rattle.obj_types.specs.declared.parts.LastData.TheVariants as datas
use Rattle.obj_types.specs.declared.parts.Threads.{Threads}
use Rattle.obj_types.specs.declared.parts.ObjParts.{ObjParts}
use Rattle.obj_types.specs.Fresh.{fresh_parts}
use Rattle.obj_types.specs.Location.{location_len, has_selector, meets}
use Rattle.obj_types.specs.Whole.{WholeGroup, WholeStart, WholeModule}
use Rattle.omf_model.specs.Lists.{latest}
use Rattle.omf_model.specs.Blocks.{origins, expanded_len}
use Rattle.omf_model.specs.ReadBlocks.{blocks_in}
use Rattle.omf_model.specs.Record.{Record, header, comdat, fixupp, FixField, thread, fixup, FixData, thread_method, thread_number, is_frame_thread, location_of, offset_of, is_self_relative}
use Rattle.omf_model.specs.Fixups.{some, is_frame_method, is_target_method, frame_by, goal_by, frame_meant, goal_meant, frame_set, goal_set, set_threads, has_data, data_segment, copies_of, places_of, fixes_by, are_apart}
use Rattle.omf_model.specs.Add.{add, add_field, add_fields}
use Rattle.omf_model.specs.Parts.{parts_of}
use Rattle.omf_model.specs.Begun.{AreBegun, LiesAt, LastFits, InFrame, InGoal}
use Rattle.omf_model.specs.Good.{GoodAfter, GoodThread, GoodFixup, GoodAfterData, GoodField, GoodFields, EachGood}
use Rattle.omf_model.specs.Object.{IsModule, Obj}
use Rattle.omf_model.specs.Library.{ArePaged, Lib}
use Rattle.omf_model.proofs.DataLaws.{bool_cases}
use Rattle.omf_model.proofs.FixLaws.{and_true}
use Rattle.omf_model.proofs.PairLaws.{Pairs, all-at, pairs-append, pairs-map, all-mapped, copies}
use Rattle.omf_model.proofs.GrowLaws.{Grows, group-grows, start-grows}
use Rattle.omf_model.proofs.NumberLaws.{PartsGrow, WholeFixAt, numbered-grows, lies_at-grows, fix_at-grows, lies_at-less}
use Rattle.omf_model.proofs.PartsLaws.{parts_of-snoc}
use Rattle.omf_model.proofs.SaneLaws.{PieceIn}
use Rattle.omf_model.proofs.SaneStep.{PubIn, FrameSet, GoalSet, Apart, Sane, latest-all, get-all, frame_by-in, goal_by-in, fix_frame, fix_goal, last-grows, in_frame-grows, in_goal-grows, option-grows, add-sane}
use Rattle.omf_model.proofs.ComdatSane.{comdat-sane}
use Rattle.omf_model.proofs.FinishedLaws.{sane-whole}
use Rattle.omf_model.proofs.ModuleLaws.{parts_header}

-- ---- other fixes and threads

abbrev with_fixes : ObjParts → List FixAt → Threads → ObjParts
with_fixes p fs ts = record { names = p.names; «module» = record p.module { fixes = fs }; last = p.last; threads = ts; comdats = p.comdats }

same-grows : (p : ObjParts) (fs : List FixAt) (ts : Threads) → PartsGrow p (with_fixes p fs ts)
same-grows p fs ts = record {
  «module» = record { more_segs = []; segs = sym (append-nil p.module.segs); groups = omega arith; exts = omega arith };
  more_pieces = [];
  pieces = sym (append-nil p.module.pieces);
  comdats = omega arith;
}

record NewFixes (p : ObjParts) (fs : List FixAt) : Type 0 where
  whole : AllByRecursion (WholeFixAt p) fs
  apart : Pairs Apart fs
  limit : length fs ≤ MAX_FIXES

record NewThreads (p : ObjParts) (ts : Threads) : Type 0 where
  frames : AllByRecursion (FrameSet p.module) ts.frame
  goals : AllByRecursion (GoalSet p.module) ts.goal
  four_frames : length ts.frame ≡ 4
  four_goals : length ts.goal ≡ 4

with-sane : (p : ObjParts) (fs : List FixAt) (ts : Threads) → Sane p → NewFixes p fs → NewThreads p ts → Sane (with_fixes p fs ts)
with-sane p fs ts s f t =
    let q : ObjParts = with_fixes p fs ts in
    let m : ObjModule = record p.module { fixes = fs } in
    let more = same-grows p fs ts in
    let g : Grows p.module m = more.module in
    record {
      segs = s.segs;
      groups = all_weaker (WholeGroup p.module) (WholeGroup m) (group-grows p.module m g) p.module.groups s.groups;
      pubs = all_weaker (PubIn p) (PubIn q) (λ x h. numbered-grows p q more x.place h) p.module.pubs s.pubs;
      pieces = all_weaker (PieceIn p) (PieceIn q) (λ x h. lies_at-grows p q more x.seg x.offset _ h) p.module.pieces s.pieces;
      fixes = all_weaker (WholeFixAt p) (WholeFixAt q) (fix_at-grows p q more) fs f.whole;
      apart = f.apart;
      imports = s.imports;
      exports = s.exports;
      start = option-grows (WholeStart p.module) (WholeStart m) (start-grows p.module m g) p.module.start s.start;
      data_limit = s.data_limit;
      fix_limit = f.limit;
      comdats = s.comdats;
      publics = s.publics;
      last = last-grows p q more p.last s.last;
      frames = all_weaker (FrameSet p.module) (FrameSet m) (option-grows (InFrame p.module) (InFrame m) (in_frame-grows p.module m g)) ts.frame t.frames;
      goals = all_weaker (GoalSet p.module) (GoalSet m) (option-grows (InGoal p.module) (InGoal m) (in_goal-grows p.module m g)) ts.goal t.goals;
      four_frames = t.four_frames;
      four_goals = t.four_goals;
    }

add_field-is : (p : ObjParts) (f : FixField) → add_field p f ≡ with_fixes p (p.module.fixes ++ fixes_by p.last p.threads f) (set_threads p.threads (f ∷ []))
unfolding add_field
add_field-is p f = refl

-- ---- THREAD

if_cond : {A : Type 0} (P : A → Type 0) (c : Bool) (x : A) → P x → IfSome (cond c (Some x) None) P
if_cond P true x h = h
if_cond P false x h = tt

some_one : {A : Type 0} (P : A → Type 0) (o : Option A) → IfSome o P → AllByRecursion (λ q. IfSome q P) (map some (cons_option o []))
some_one P None h = tt
some_one P (Some x) h = (h, tt)

set_frame : (p : ObjParts) (n b : ℕ) (i : Option ℕ) → GoodThread p b i → IfSome (frame_set n (thread b i)) (InFrame p.module)
set_frame p n b i g = if_cond (InFrame p.module) (is_frame_thread b && eqb (thread_number b) n) (frame_by (thread_method b) (unwrap_or i 0)) (frame_by-in p (thread_method b) i g.there g.index)

if_not : {A : Type 0} (P : A → Type 0) (k : Bool) (o : Option A) → (k ≡ false → IfSome o P) → IfSome (cond k None o) P
if_not P true o h = tt
if_not P false o h = h refl

set_goal : (p : ObjParts) (n b : ℕ) (i : Option ℕ) → GoodThread p b i → IfSome (goal_set n (thread b i)) (InGoal p.module)
set_goal p n b i g =
    if_not (InGoal p.module) (is_frame_thread b) (cond (eqb (thread_number b) n) (Some (goal_by (thread_method b) (unwrap_or i 0))) None) λ h.
    let method : is_target_method (thread_method b) ≡ true = subst (λ (k : Bool). cond k (is_frame_method (thread_method b)) (is_target_method (thread_method b)) ≡ true) h g.method in
    if_cond (InGoal p.module) (eqb (thread_number b) n) (goal_by (thread_method b) (unwrap_or i 0)) (goal_by-in p (thread_method b) i (g.there ∙ method) g.index)

frames_set : (p : ObjParts) (f : FixField) → Sane p → ((n : ℕ) → IfSome (frame_set n f) (InFrame p.module)) → ((n : ℕ) → IfSome (goal_set n f) (InGoal p.module)) → NewThreads p (set_threads p.threads (f ∷ []))
unfolding set_threads
frames_set p f s fs gs = record {
  frames = (frame 0, (frame 1, (frame 2, (frame 3, tt))));
  goals = (goal 0, (goal 1, (goal 2, (goal 3, tt))));
  four_frames = refl;
  four_goals = refl;
}
  where
    frame : (n : ℕ) → FrameSet p.module (latest (get_or p.threads.frame n None) (map some (cons_option (frame_set n f) [])))
    frame n = latest-all (FrameSet p.module) (get_or p.threads.frame n None) _ (get-all (FrameSet p.module) p.threads.frame n None tt s.frames) (some_one (InFrame p.module) (frame_set n f) (fs n))

    goal : (n : ℕ) → GoalSet p.module (latest (get_or p.threads.goal n None) (map some (cons_option (goal_set n f) [])))
    goal n = latest-all (GoalSet p.module) (get_or p.threads.goal n None) _ (get-all (GoalSet p.module) p.threads.goal n None tt s.goals) (some_one (InGoal p.module) (goal_set n f) (gs n))

-- ---- FIXUP

-- a fix of a fixup at an offset
abbrev fix_of : ObjParts → ℕ → ℕ → FixData → ℕ → FixAt
fix_of p seg high d x = record {
  seg = seg;
  offset = x;
  loc = location_of high;
  selfrel = is_self_relative high;
  frame = unwrap_or (frame_meant p.threads d) frames.Here;
  goal = unwrap_or (goal_meant p.threads d) (goals.Seg 0);
  disp = unwrap_or d.displacement 0;
}

abbrev len_of : ℕ → ℕ
len_of high = location_len (location_of high)

not_both : (a b : Bool) → not (a && b) ≡ true → b ≡ true → a ≡ false
not_both true true h e = absurd cc
not_both true false h e = absurd cc
not_both false b h e = refl

fix_whole : (p : ObjParts) (high low : ℕ) (d : FixData) (seg x : ℕ) → Sane p → GoodFixup p high low d → LiesAt p seg x (len_of high) → WholeFixAt p (fix_of p seg high d x)
fix_whole p high low d seg x s g lies =
    let loc = and_true _ _ g.location in
    record {
      location = ltb-true _ _ loc.0;
      relative = not_both (is_self_relative high) (has_selector (location_of high)) loc.1;
      place = lies;
      frame = fix_frame p d s g.what;
      goal = fix_goal p d s g.what;
    }

third_false : (a b c : Bool) → c ≡ false → (a && b && c) ≡ false
third_false true true c e = e
third_false true false c e = refl
third_false false b c e = refl

apart_fixes : (p : ObjParts) (seg high : ℕ) (d : FixData) (x y : ℕ) → x + len_of high ≤ y → Apart (fix_of p seg high d x) (fix_of p seg high d y)
apart_fixes p seg high d x y far = third_false (eqb seg seg) (ltb x (y + len_of high)) (ltb y (x + len_of high)) (le-ltb y (x + len_of high) far)

-- the new fixes, by themselves
record Own (p : ObjParts) (fs : List FixAt) : Type 0 where
  whole : AllByRecursion (WholeFixAt p) fs
  apart : Pairs Apart fs

shifted : (start : ℕ) (n : ℕ) (xs : List ℕ) → Pairs (λ x y. x + n ≤ y) xs → Pairs (λ x y. x + n ≤ y) (map (λ x. start + x) xs)
shifted start n xs h = pairs-map (λ x y. x + n ≤ y) (λ x y. x + n ≤ y) (λ x. start + x) (λ x y le. omega (arith, le)) xs h

own : (p : ObjParts) (high low : ℕ) (d : FixData) → Sane p → GoodFixup p high low d → (last : LastData) → LastFits p last →
    has_data last (offset_of high low) (len_of high) ≡ true → Own p (map (fix_of p (data_segment last) high d) (copies_of last (offset_of high low)))
own p high low d s g datas.None fits on = record { whole = tt; apart = tt }
own p high low d s g datas.Dropped fits on = record { whole = tt; apart = tt }
own p high low d s g (datas.Straight seg start have) fits on =
    let inside : offset_of high low + len_of high ≤ have = leb-true _ _ on in
    record {
      whole = (fix_whole p high low d seg (start + offset_of high low) s g (lies_at-less p seg start have (start + offset_of high low) (len_of high) (omega (arith, inside)) fits), tt);
      apart = (tt, tt);
    }
own p high low d s g (datas.Blocks seg start wide body) fits on =
    let b = blocks_in wide body in
    let loc = and_true _ _ g.location in
    let some : 1 ≤ len_of high = let positive : 0 < len_of high = ltb-true _ _ loc.0 in omega (arith, positive) in
    let c = copies wide b (offset_of high low) (len_of high) some on in
    let xs : List ℕ = places_of (offset_of high low) (origins wide 0 b) in
    let inside : AllByRecursion (λ x. LiesAt p seg x (len_of high)) (map (λ x. start + x) xs) =
    all-mapped (λ x. x + len_of high ≤ expanded_len b) (λ x. LiesAt p seg x (len_of high)) (λ x. start + x)
    (λ x le. lies_at-less p seg start (expanded_len b) (start + x) (len_of high) (omega (arith, le)) (inl fits)) xs c.0 in
    record {
      whole = all-mapped (λ x. LiesAt p seg x (len_of high)) (WholeFixAt p) (fix_of p seg high d) (λ x h. fix_whole p high low d seg x s g h) (map (λ x. start + x) xs) inside;
      apart = pairs-map (λ x y. x + len_of high ≤ y) Apart (fix_of p seg high d) (apart_fixes p seg high d) (map (λ x. start + x) xs) (shifted start (len_of high) xs c.1);
    }

pub none-any : {A : Type 0} (test : A → Bool) (xs : List A) → list_any test xs ≡ false → AllByRecursion (λ x. test x ≡ false) xs
none-any test [] e = tt
none-any test (x ∷ xs) e =
    elim (bool_cases (test x)) [
      | inl h ↦ let bad : (true || list_any test xs) ≡ false = subst (λ (b : Bool). (b || list_any test xs) ≡ false) h e in absurd cc
      | inr h ↦ (h, none-any test xs (let rest : (false || list_any test xs) ≡ false = subst (λ (b : Bool). (b || list_any test xs) ≡ false) h e in rest))
    ]

swap : (R : FixAt → FixAt → Type 0) (xs ys : List FixAt) → AllByRecursion (λ y. AllByRecursion (λ x. R x y) xs) ys → AllByRecursion (λ x. AllByRecursion (R x) ys) xs
swap R [] ys h = tt
swap R (x ∷ xs) ys h =
    (all_weaker (λ y. AllByRecursion (λ z. R z y) (x ∷ xs)) (R x) (λ y k. k.0) ys h, swap R xs ys (all_weaker (λ y. AllByRecursion (λ z. R z y) (x ∷ xs)) (λ y. AllByRecursion (λ z. R z y) xs) (λ y k. k.1) ys h))

apart-all : (earlier new : List FixAt) → are_apart earlier new ≡ true → AllByRecursion (λ f. AllByRecursion (Apart f) new) earlier
apart-all earlier new e =
    swap Apart earlier new
    (all_weaker (λ g. list_any (λ f. meets f g) earlier ≡ false) (λ g. AllByRecursion (λ f. meets f g ≡ false) earlier) (λ g h. none-any (λ f. meets f g) earlier h) new
    (none-any (λ g. list_any (λ f. meets f g) earlier) new (not-true _ e)))

new_fixes : (p : ObjParts) (fs : List FixAt) → Sane p → Own p fs → are_apart p.module.fixes fs ≡ true → length p.module.fixes + length fs ≤ MAX_FIXES → NewFixes p (p.module.fixes ++ fs)
new_fixes p fs s o apart limit = record {
  whole = all_joined (WholeFixAt p) p.module.fixes fs s.fixes o.whole;
  apart = pairs-append Apart p.module.fixes fs s.apart o.apart (apart-all p.module.fixes fs apart);
  limit = omega (arith, limit, length-append p.module.fixes fs);
}

no_new : (p : ObjParts) → Sane p → NewFixes p (p.module.fixes ++ [])
no_new p s = subst (NewFixes p) (sym (append-nil p.module.fixes)) (record { whole = s.fixes; apart = s.apart; limit = s.fix_limit })

-- the fixes after a fixup on the last data
fixup_fixes : (p : ObjParts) (high low : ℕ) (d : FixData) (last : LastData) → p.last ≡ last → Sane p → GoodAfterData last p high low d → NewFixes p (p.module.fixes ++ fixes_by p.last p.threads (fixup high low d))
unfolding fixes_by
fixup_fixes p high low d datas.Dropped e s g = subst (λ (l : LastData). NewFixes p (p.module.fixes ++ fixes_by l p.threads (fixup high low d))) (sym e) (no_new p s)
fixup_fixes p high low d datas.None e s g = new_fixes p _ s (own p high low d s g p.last s.last g.on_data) g.apart g.limit
fixup_fixes p high low d (datas.Straight seg start len) e s g = new_fixes p _ s (own p high low d s g p.last s.last g.on_data) g.apart g.limit
fixup_fixes p high low d (datas.Blocks seg start wide body) e s g = new_fixes p _ s (own p high low d s g p.last s.last g.on_data) g.apart g.limit

thread_fixes : (p : ObjParts) (b : ℕ) (i : Option ℕ) → Sane p → NewFixes p (p.module.fixes ++ fixes_by p.last p.threads (thread b i))
unfolding fixes_by
thread_fixes p b i s = no_new p s

field-sane : (p : ObjParts) (f : FixField) → Sane p → GoodField p f → Sane (add_field p f)
field-sane p (thread b i) s g =
    subst Sane (sym (add_field-is p (thread b i)))
    (with-sane p _ _ s (thread_fixes p b i s) (frames_set p (thread b i) s (λ n. set_frame p n b i g) (λ n. set_goal p n b i g)))
field-sane p (fixup high low d) s g =
    subst Sane (sym (add_field-is p (fixup high low d)))
    (with-sane p _ _ s (fixup_fixes p high low d p.last refl s g) (frames_set p (fixup high low d) s (λ n. tt) (λ n. tt)))

fields-sane : (fs : List FixField) (p : ObjParts) → Sane p → GoodFields p fs → Sane (add_fields p fs)
unfolding add_fields
fields-sane [] p s g = s
fields-sane (f ∷ fs) p s g = fields-sane fs (add_field p f) (field-sane p f s g.0) g.1

-- ---- records

pub record-sane : (p : ObjParts) (r : Record) → Sane p → GoodAfter p r → Sane (add p r)
unfolding add
record-sane p (fixupp fields) s g = fields-sane fields p s g
record-sane p (comdat d) s g = comdat-sane p d s g
record-sane p r s g = add-sane p r refl tt s g

begun-sane : (text : List ℕ) → Sane (add fresh_parts (header text))
unfolding add
begun-sane text = record {
  segs = tt;
  groups = tt;
  pubs = tt;
  pieces = tt;
  fixes = tt;
  apart = tt;
  imports = tt;
  exports = tt;
  start = tt;
  data_limit = omega arith;
  fix_limit = omega arith;
  comdats = tt;
  publics = tt;
  last = tt;
  frames = (tt, (tt, (tt, (tt, tt))));
  goals = (tt, (tt, (tt, (tt, tt))));
  four_frames = refl;
  four_goals = refl;
}

records-sane : (rs before : List Record) → Sane (parts_of before) → EachGood before rs → Sane (parts_of (before ++ rs))
records-sane [] before s g = subst (λ (qs : List Record). Sane (parts_of qs)) (sym (append-nil before)) s
records-sane (r ∷ rs) before s g =
    let next : Sane (parts_of (before ++ r ∷ [])) = subst Sane (sym (parts_of-snoc before r)) (record-sane (parts_of before) r s g.0) in
    subst (λ (qs : List Record). Sane (parts_of qs)) (append_assoc before (r ∷ []) rs) (records-sane rs (before ++ r ∷ []) next g.1)

-- Records of a module that is begun are sane.
pub begun_records-sane : (rs : List Record) → AreBegun rs → Sane (parts_of rs)
begun_records-sane rs b =
    let first : Sane (parts_of (header b.name ∷ [])) = subst Sane (sym (parts_header b.name)) (begun-sane b.name) in
    subst (λ (qs : List Record). Sane (parts_of qs)) (sym b.headed) (records-sane b.others (header b.name ∷ []) first b.good)

-- A module that bytes mean is whole.
pub module_whole : (bytes : List ℕ) (m : ObjModule) → IsModule bytes m → WholeModule m
module_whole bytes m w =
    subst WholeModule (sym w.meant) (sane-whole (parts_of w.records) (begun_records-sane w.records w.are.begun))

pub object_whole : (bytes : List ℕ) (m : ObjModule) → Obj bytes m → WholeModule m
object_whole bytes m h = module_whole h.front m h.first_so

paged_whole : (size : ℕ) (ms : List ObjModule) (bytes : List ℕ) → ArePaged size ms bytes → AllByRecursion WholeModule ms
paged_whole size [] bytes so = tt
paged_whole size (m ∷ ms) bytes so = (module_whole so.first_so.body m so.first_so.is_module, paged_whole size ms so.back so.second_so)

pub library_whole : (bytes : List ℕ) (ms : List ObjModule) → Lib bytes ms → All WholeModule ms
library_whole bytes ms l = all-at WholeModule ms (paged_whole l.size ms l.paged.back l.paged.second_so)
