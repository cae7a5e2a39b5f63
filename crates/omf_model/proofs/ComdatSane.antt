-- A good record of a COMDAT keeps an unfinished module whole.
use Rattle.std.proofs.Common.{◌≡◌, ℕ, zero, suc, ◌+◌, ◌<◌, ◌≤◌, Bool, true, false, cond, eqb, List, [], ◌∷◌, ◌++◌, length, Option, Some, None, refl, sym, ap, subst, ◌∙◌, arith, inl, inr, length-append}
use Rattle.std.specs.Prelude.{◌||◌, not, unwrap_or, slice_get, bytes_eq}
use Rattle.std.specs.List.{AllByRecursion, filter, position_or_len}
use Rattle.std.proofs.lemmas.Bool.{eq-eqb, not-true}
use Rattle.std.proofs.lemmas.List.{append-nil, length-map}
use Rattle.std.proofs.lemmas.List.Elements.{filter-append}
use Rattle.std.proofs.lemmas.List.Sums.{sum_by-append}
use Rattle.lx_types.proofs.Lists.{all_joined, all_weaker}
use Rattle.obj_types.specs.declared.object.Seg.{Seg}
use Rattle.obj_types.specs.declared.object.Piece.{Piece}
use Rattle.obj_types.specs.declared.object.ObjModule.{ObjModule}
use Rattle.obj_types.specs.declared.symbol.Pub.{Pub}
use Rattle.obj_types.specs.declared.symbol.PubPlace.{PubPlace}
use Rattle.obj_types.specs.declared.symbol.PubPlace.TheVariants.{In, Const}
use Rattle.obj_types.specs.declared.parts.BegunComdat.{BegunComdat}
use Rattle.obj_types.specs.declared.parts.ObjParts.{ObjParts}
use Rattle.obj_types.specs.declared.parts.TheConstants.{COMDAT_BASE}
use Rattle.obj_types.specs.Items.{item}
use Rattle.obj_types.specs.Whole.{WholeSeg, WholeGroup, WholeStart, is_in_seg}
use Rattle.omf_model.specs.Comdat.{Base, ComDat, is_continued, is_begun, allocation, segment_with, segment_by, allocated, aligned, begun_with, public_with, piece_with, if_first}
use Rattle.omf_model.specs.Items.{name_with, begun_names}
use Rattle.omf_model.specs.ReadComdat.{number_so_far}
use Rattle.omf_model.specs.Add.{add_named, add_comdat}
use Rattle.omf_model.specs.Begun.{IsComdat, IsNumbered, LiesAt, InFrame, InGoal}
use Rattle.omf_model.specs.Good.{GoodComdat}
use Rattle.omf_model.proofs.DataLaws.{bool_cases}
use Rattle.omf_model.proofs.GrowLaws.{Grows, group-grows, start-grows}
use Rattle.omf_model.proofs.NumberLaws.{not-equal, end-reached, PartsGrow, numbered-grows, lies_at-grows, fix_at-grows, WholeFixAt, numbers-from, enumerate-snoc, in_number, HasPublic, publics-more, none-of}
use Rattle.omf_model.proofs.SaneLaws.{PieceIn}
use Rattle.omf_model.proofs.SaneStep.{WholeBegun, PubIn, Sane, counted, FrameSet, GoalSet, option-grows, in_frame-grows, in_goal-grows}

-- ---- the segment of a COMDAT that begins

abbrev IsPlain : Seg → Type 0
IsPlain s = WholeSeg s × (s.debug ≡ false)

cond-so : {A : Type 0} (P : A → Type 0) (b : Bool) (x y : A) → P x → P y → P (cond b x y)
cond-so P true x y h k = h
cond-so P false x y h k = k

named-whole : (name class : List ℕ) (wide : Bool) → IsPlain (segment_with name class wide)
named-whole name class wide = (record { align = omega arith; combine = omega arith; not_reserved = ((λ e. omega (arith, e)), (λ e. omega (arith, e))) }, refl)

by-whole : (n : ℕ) → IsPlain (segment_by n)
by-whole n =
    cond-so IsPlain (eqb n 1) _ _ (named-whole _ _ _)
    (cond-so IsPlain (eqb n 2) _ _ (named-whole _ _ _)
    (cond-so IsPlain (eqb n 3) _ _ (named-whole _ _ _) (named-whole _ _ _)))

get-or-whole : (segs : List Seg) (i : ℕ) (other : Seg) → AllByRecursion WholeSeg segs → WholeSeg other → WholeSeg (unwrap_or (slice_get segs i) other)
get-or-whole [] i other h k = k
get-or-whole (s ∷ segs) zero other h k = h.0
get-or-whole (s ∷ segs) (suc i) other h k = get-or-whole segs i other h.1 k

item-or-whole : (segs : List Seg) (i : ℕ) (other : Seg) → AllByRecursion WholeSeg segs → WholeSeg other → WholeSeg (unwrap_or (item segs i) other)
item-or-whole segs zero other h k = k
item-or-whole segs (suc i) other h k = get-or-whole segs i other h k

allocated-whole : (segs : List Seg) (n : ℕ) (base : Option Base) → AllByRecursion WholeSeg segs → IsPlain (allocated segs n base)
allocated-whole segs n None h = by-whole n
allocated-whole segs n (Some base) h =
    let whole = item-or-whole segs base.segment (segment_by n) h (by-whole n).0 in
    (record { align = whole.align; combine = omega arith; not_reserved = ((λ e. omega (arith, e)), (λ e. omega (arith, e))) }, refl)

aligned-whole : (align : ℕ) (s : Seg) → align ≤ 5 → IsPlain s → IsPlain (aligned align s)
aligned-whole align s small h = cond-so IsPlain (eqb align 0) _ _ h (record { align = small; combine = h.0.combine; not_reserved = h.0.not_reserved }, h.1)

begun-whole : (segs : List Seg) (name : List ℕ) (d : ComDat) → d.align ≤ 5 → AllByRecursion WholeSeg segs → WholeBegun (begun_with segs name d)
begun-whole segs name d small h =
    let w = aligned-whole d.align (allocated segs (allocation d.attributes) d.base) small (allocated-whole segs (allocation d.attributes) d.base h) in
    record { whole = w.0; plain = w.1 }

-- ---- its number

begun-place : (names : List (List ℕ)) (name : List ℕ) → is_begun names name ≡ true → position_or_len (bytes_eq name) names < length names
begun-place [] name e = absurd cc
begun-place (x ∷ names) name e =
    elim (bool_cases (bytes_eq name x)) [
      | inl is ↦ rw is (omega arith)
      | inr other ↦
          let rest : (false || is_begun names name) ≡ true = subst (λ (b : Bool). (b || is_begun names name) ≡ true) other e in
          let less = begun-place names name rest in
          rw other (omega (arith, less))
    ]

new-place : (names : List (List ℕ)) (name : List ℕ) → is_begun names name ≡ false → position_or_len (bytes_eq name) names ≡ length names
new-place [] name e = refl
new-place (x ∷ names) name e =
    elim (bool_cases (bytes_eq name x)) [
      | inl is ↦
          let bad : (true || is_begun names name) ≡ false = subst (λ (b : Bool). (b || is_begun names name) ≡ false) is e in
          absurd cc
      | inr other ↦
          let rest : (false || is_begun names name) ≡ false = subst (λ (b : Bool). (b || is_begun names name) ≡ false) other e in
          let same = new-place names name rest in
          rw other (omega (arith, same))
    ]

-- ---- what the record adds

-- a COMDAT that begins, or none
record Begins (p : ObjParts) (name : List ℕ) (number : ℕ) (d : ComDat) (pubs : List Pub) (begun : List BegunComdat) : Type 0 where
  pubs-are : pubs ≡ public_with number name d ∷ []
  begun-are : begun ≡ begun_with p.module.segs name d ∷ []
  next : number ≡ COMDAT_BASE + 1 + length p.comdats

record GoesOn (p : ObjParts) (number : ℕ) (pubs : List Pub) (begun : List BegunComdat) : Type 0 where
  pubs-are : pubs ≡ []
  begun-are : begun ≡ []
  there : IsComdat p number

module _ (p : ObjParts) (d : ComDat) (s : Sane p) (good : GoodComdat p d) where
  abbrev name : List ℕ
  name = name_with p.names d.name

  abbrev number : ℕ
  number = number_so_far p d

  abbrev new_pubs : List Pub
  new_pubs = if_first d (public_with number name d)

  abbrev new_begun : List BegunComdat
  new_begun = if_first d (begun_with p.module.segs name d)

  long : length (begun_names p.comdats) ≡ length p.comdats
  long = length-map p.comdats (λ b. b.name)

  turn-so : (b : Bool) → is_continued d.flags ≡ b → cond b (is_begun (begun_names p.comdats) name) (not (is_begun (begun_names p.comdats) name)) ≡ true
  turn-so b e = subst (λ (c : Bool). cond c (is_begun (begun_names p.comdats) name) (not (is_begun (begun_names p.comdats) name)) ≡ true) e good.turn

  continued : is_continued d.flags ≡ true → GoesOn p number new_pubs new_begun
  continued e = record {
    pubs-are = rw e refl;
    begun-are = rw e refl;
    there = (omega arith, omega (arith, long, begun-place (begun_names p.comdats) name (turn-so true e)));
  }

  first : is_continued d.flags ≡ false → Begins p name number d new_pubs new_begun
  first e = record {
    pubs-are = rw e refl;
    begun-are = rw e refl;
    next = omega (arith, long, new-place (begun_names p.comdats) name (not-true _ (turn-so false e)));
  }

  abbrev after : ObjParts
  after = add_named p name number d

  -- what is new, by number
  record New : Type 0 where
    there : IsComdat after number
    pubs : AllByRecursion (PubIn after) new_pubs
    begun : AllByRecursion WholeBegun new_begun
    publics : AllByRecursion (HasPublic (p.module.pubs ++ new_pubs)) (counted (p.comdats ++ new_begun))

  continued-new : GoesOn p number new_pubs new_begun → New
  continued-new g =
      let pubs : p.module.pubs ++ new_pubs ≡ p.module.pubs = ap (λ (xs : List Pub). p.module.pubs ++ xs) g.pubs-are ∙ append-nil p.module.pubs in
      let begun : p.comdats ++ new_begun ≡ p.comdats = ap (λ (bs : List BegunComdat). p.comdats ++ bs) g.begun-are ∙ append-nil p.comdats in
      record {
        there = (g.there.0, omega (arith, g.there.1, length-append p.comdats new_begun));
        pubs = subst (AllByRecursion (PubIn after)) (sym g.pubs-are) tt;
        begun = subst (AllByRecursion WholeBegun) (sym g.begun-are) tt;
        publics = subst (λ (xs : List Pub). AllByRecursion (HasPublic xs) (counted (p.comdats ++ new_begun)))
            (sym pubs) (subst (λ (bs : List BegunComdat). AllByRecursion (HasPublic p.module.pubs) (counted bs)) (sym begun) s.publics);
      }

  abbrev own_pub : Pub
  own_pub = public_with number name d

  abbrev own_begun : BegunComdat
  own_begun = begun_with p.module.segs name d

  -- the numbers before it are others
  numbered-apart : COMDAT_BASE + length p.comdats < number → (x : PubPlace) → IsNumbered p x → is_in_seg number x ≡ false
  numbered-apart past (In i offset) h = not-equal i number λ e. elim h [
    | inl plain ↦ omega (arith, e, plain.0, past)
    | inr comdat ↦ omega (arith, e, comdat.1, past)
  ]
  numbered-apart past (Const value) h = refl

  own-public : number ≡ COMDAT_BASE + 1 + length p.comdats → HasPublic (p.module.pubs ++ own_pub ∷ []) (number, own_begun)
  own-public next =
      let past : COMDAT_BASE + length p.comdats < number = omega (arith, next) in
      let none = none-of p.module.pubs number (all_weaker (PubIn p) (λ (x : Pub). in_number number x ≡ false) (λ x h. numbered-apart past x.place h) p.module.pubs s.pubs) in
      let own : filter (in_number number) (own_pub ∷ []) ≡ own_pub ∷ [] = rw (eq-eqb number number refl) refl in
      record {
        public = own_pub;
        only = filter-append (in_number number) p.module.pubs (own_pub ∷ []) ∙ (λ i. none i ++ own i);
        name = refl;
        begin = refl;
      }

  others-public : number ≡ COMDAT_BASE + 1 + length p.comdats → AllByRecursion (HasPublic (p.module.pubs ++ own_pub ∷ [])) (counted p.comdats)
  others-public next =
      publics-more p.module.pubs (own_pub ∷ []) (counted p.comdats)
      (all_weaker (λ (q : ℕ × BegunComdat). (COMDAT_BASE + 1 ≤ q.0) × (q.0 < COMDAT_BASE + 1 + length p.comdats)) (λ (q : ℕ × BegunComdat). filter (in_number q.0) (own_pub ∷ []) ≡ [])
      (λ q h. none-of (own_pub ∷ []) q.0 (not-equal number q.0 (λ e. omega (arith, e, next, h.1)), tt))
      (counted p.comdats) (numbers-from (COMDAT_BASE + 1) p.comdats))
      s.publics

  first-new : Begins p name number d new_pubs new_begun → New
  first-new g =
      let there : IsComdat after number = (omega (arith, g.next), omega (arith, g.next, length-append p.comdats new_begun, ap (λ (bs : List BegunComdat). length bs) g.begun-are)) in
      let all = all_joined (HasPublic (p.module.pubs ++ own_pub ∷ [])) (counted p.comdats) ((number, own_begun) ∷ []) (others-public g.next) (own-public g.next, tt) in
      let counts = enumerate-snoc (COMDAT_BASE + 1) number p.comdats own_begun g.next in
      record {
        there = there;
        pubs = subst (AllByRecursion (PubIn after)) (sym g.pubs-are) (inr there, tt);
        begun = subst (AllByRecursion WholeBegun) (sym g.begun-are) (begun-whole p.module.segs name d good.fields.align s.segs, tt);
        publics =
            subst (λ (xs : List Pub). AllByRecursion (HasPublic (p.module.pubs ++ xs)) (counted (p.comdats ++ new_begun))) (sym g.pubs-are)
            (subst (λ (bs : List BegunComdat). AllByRecursion (HasPublic (p.module.pubs ++ own_pub ∷ [])) (counted (p.comdats ++ bs))) (sym g.begun-are)
            (subst (AllByRecursion (HasPublic (p.module.pubs ++ own_pub ∷ []))) (sym counts) all));
      }

  new : New
  new =
      elim (bool_cases (is_continued d.flags)) [
        | inl e ↦ continued-new (continued e)
        | inr e ↦ first-new (first e)
      ]

  after-grows : PartsGrow p after
  after-grows = record {
    «module» = record { more_segs = []; segs = sym (append-nil p.module.segs); groups = omega arith; exts = omega arith };
    more_pieces = piece_with number d ∷ [];
    pieces = refl;
    comdats = omega (arith, length-append p.comdats new_begun);
  }

  own-lies : LiesAt after number d.offset (length d.content)
  own-lies = inr (record { comdat = new.there; within = end-reached p.module.pieces (piece_with number d); limit = good.range })

  named-sane : Sane after
  named-sane =
      let m : ObjModule = after.module in
      let g : Grows p.module m = after-grows.module in
      record {
        segs = s.segs;
        groups = all_weaker (WholeGroup p.module) (WholeGroup m) (group-grows p.module m g) p.module.groups s.groups;
        pubs = all_joined (PubIn after) p.module.pubs new_pubs (all_weaker (PubIn p) (PubIn after) (λ x h. numbered-grows p after after-grows x.place h) p.module.pubs s.pubs) new.pubs;
        pieces = all_joined (PieceIn after) p.module.pieces (piece_with number d ∷ [])
            (all_weaker (PieceIn p) (PieceIn after) (λ x h. lies_at-grows p after after-grows x.seg x.offset _ h) p.module.pieces s.pieces) (own-lies, tt);
        fixes = all_weaker (WholeFixAt p) (WholeFixAt after) (fix_at-grows p after after-grows) p.module.fixes s.fixes;
        apart = s.apart;
        imports = s.imports;
        exports = s.exports;
        start = option-grows (WholeStart p.module) (WholeStart m) (start-grows p.module m g) p.module.start s.start;
        data_limit = omega (arith, good.limit, sum_by-append (λ (x : Piece). length x.bytes) p.module.pieces (piece_with number d ∷ []));
        fix_limit = s.fix_limit;
        comdats = all_joined WholeBegun p.comdats new_begun s.comdats new.begun;
        publics = new.publics;
        last = own-lies;
        frames = all_weaker (FrameSet p.module) (FrameSet m) (option-grows (InFrame p.module) (InFrame m) (in_frame-grows p.module m g)) p.threads.frame s.frames;
        goals = all_weaker (GoalSet p.module) (GoalSet m) (option-grows (InGoal p.module) (InGoal m) (in_goal-grows p.module m g)) p.threads.goal s.goals;
        four_frames = s.four_frames;
        four_goals = s.four_goals;
      }

  pub comdat-sane : Sane (add_comdat p d)
  unfolding add_comdat
  comdat-sane = named-sane
