-- What an unfinished module's numbers name is there in the module that it is at its end.
use Rattle.std.proofs.Common.{◌≡◌, ◌≢◌, ℕ, zero, suc, ◌+◌, ◌-◌, ◌<◌, ◌≤◌, Bool, true, false, eqb, ltb, List, [], ◌∷◌, ◌++◌, length, map, Option, Some, None, refl, sym, ap, subst, ◌∙◌, arith, inl, inr, length-append}
use Rattle.std.specs.Prelude.{◌⊎◌, ◌&&◌, IsSomeAnd, slice_get, bytes_eq, codes}
use Rattle.std.specs.List.{All, AllByRecursion, enumerate_from, filter, fold, sum_by}
use Rattle.std.proofs.lemmas.Bool.{le-leb, lt-leb}
use Rattle.std.proofs.lemmas.List.{length-map}
use Rattle.std.proofs.lemmas.List.FromFn.{length-enumerate_from}
use Rattle.lx_types.proofs.Lists.{all_joined, all_weaker, all_kept}
use Rattle.obj_types.specs.declared.object.Seg.{Seg}
use Rattle.obj_types.specs.declared.object.Group.{Group}
use Rattle.obj_types.specs.declared.object.Piece.{Piece}
use Rattle.obj_types.specs.declared.object.Frame.{Frame}
use Rattle.obj_types.specs.declared.object.Frame.TheVariants as frames
use Rattle.obj_types.specs.declared.object.Goal.{Goal}
use Rattle.obj_types.specs.declared.object.Goal.TheVariants as goals
use Rattle.obj_types.specs.declared.object.FixAt.{FixAt}
use Rattle.obj_types.specs.declared.object.StartAt.{StartAt}
use Rattle.obj_types.specs.declared.object.Comdat.{Comdat}
use Rattle.obj_types.specs.declared.object.ObjModule.{ObjModule}
use Rattle.obj_types.specs.declared.symbol.Pub.{Pub}
use Rattle.obj_types.specs.declared.symbol.PubPlace.{PubPlace}
use Rattle.obj_types.specs.declared.symbol.PubPlace.TheVariants.{In, Const}
use Rattle.obj_types.specs.declared.parts.BegunComdat.{BegunComdat}
use Rattle.obj_types.specs.declared.parts.ObjParts.{ObjParts}
use Rattle.obj_types.specs.declared.parts.TheConstants.{COMDAT_BASE}
use Rattle.obj_types.specs.Items.{item}
use Rattle.obj_types.specs.Location.{location_len, end_of}
use Rattle.obj_types.specs.Whole.{WholeSeg, IsPlainSeg, LiesIn, WholeGroup, WholePlace, WholeFrame, WholeGoal, WholeFix, WholeStart, WholeExp, IsApartFrame, IsApartGoal, WholeComdat, WholeModule, is_in_seg}
use Rattle.omf_model.specs.Finished.{index_for, place_for, public_for, piece_for, fix_for, greatest_end, seg_for, segs_for, numbered, comdat_for, group_for, finished}
use Rattle.omf_model.specs.Begun.{IsComdat, IsNumber, IsNumbered, LiesAt}
use Rattle.omf_model.proofs.DataLaws.{bool_cases}
use Rattle.omf_model.proofs.PairLaws.{Pairs, all-at, pairs-at, pairs-map, all-mapped}
use Rattle.omf_model.proofs.GrowLaws.{Grows, plain-grows, lies-grows, frame-grows, goal-grows, group-grows, start-grows}
use Rattle.omf_model.proofs.NumberLaws.{same-test, WholeFixAt, numbers-from, in_number, HasPublic}
use Rattle.omf_model.proofs.SaneLaws.{PieceIn, HasModule}
use Rattle.omf_model.proofs.SaneStep.{WholeBegun, PubIn, Sane, counted, Apart, option-grows}
use Rattle.omf_model.proofs.EndLaws.{in-bounds}

-- ---- lists

-- what stands after the items of a list
get-after : {A : Type 0} (P : A → Type 0) (xs ys : List A) (k j : ℕ) → j ≡ length xs + k → IsSomeAnd (slice_get ys k) P → IsSomeAnd (slice_get (xs ++ ys) j) P
get-after P [] ys k j e h = subst (λ (i : ℕ). IsSomeAnd (slice_get ys i) P) (let same : k ≡ j = omega (arith, e) in same) h
get-after P (x ∷ xs) ys k zero e h = absurd (omega (arith, e))
get-after P (x ∷ xs) ys k (suc j) e h = get-after P xs ys k j (omega (arith, e)) h

item-after : {A : Type 0} (P : A → Type 0) (xs ys : List A) (k i : ℕ) → i ≡ length xs + k + 1 → IsSomeAnd (slice_get ys k) P → IsSomeAnd (item (xs ++ ys) i) P
item-after P xs ys k zero e h = absurd (omega (arith, e))
item-after P xs ys k (suc i) e h = get-after P xs ys k i (omega (arith, e)) h

some-so : {A : Type 0} (P Q : A → Type 0) (o : Option A) → ((x : A) → P x → Q x) → IsSomeAnd o P → IsSomeAnd o Q
some-so P Q None h k = absurd k
some-so P Q (Some x) h k = h x k

all-back : {A : Type 0} (P : A → Type 0) (xs : List A) → All P xs → AllByRecursion P xs
all-back P [] h = tt
all-back P (x ∷ xs) h = (h 0 x (omega arith), all-back P xs (λ k d lt. h (suc k) d (omega (arith, lt))))

sum-from : {A : Type 0} (f : A → ℕ) (g : A → A) → ((x : A) → f (g x) ≡ f x) → (m : ℕ) (xs : List A) → fold (λ n x. n + f x) m (map g xs) ≡ fold (λ n x. n + f x) m xs
sum-from f g same m [] = refl
sum-from f g same m (x ∷ xs) = ap (λ (k : ℕ). fold (λ n y. n + f y) (m + k) (map g xs)) (same x) ∙ sum-from f g same (m + f x) xs

sum-mapped : {A : Type 0} (f : A → ℕ) (g : A → A) → ((x : A) → f (g x) ≡ f x) → (xs : List A) → sum_by f (map g xs) ≡ sum_by f xs
sum-mapped f g same xs = sum-from f g same 0 xs

-- each pair, with what holds of both
pairs-both : {A : Type 0} (P : A → Type 0) (R : A → A → Type 0) (xs : List A) → AllByRecursion P xs → Pairs R xs → Pairs (λ x y. P x × P y × R x y) xs
pairs-both P R [] h p = tt
pairs-both {A = A} P R (x ∷ xs) h p = (each xs h.1 p.0, pairs-both P R xs h.1 p.1)
  where
    each : (ys : List A) → AllByRecursion P ys → AllByRecursion (R x) ys → AllByRecursion (λ y. P x × P y × R x y) ys
    each [] a b = tt
    each (y ∷ ys) a b = ((h.0, a.0, b.0), each ys a.1 b.1)

-- ---- the segments of COMDATs

-- a segment that is plain and as long as the data of its number
abbrev IsLong : List Piece → ℕ → Seg → Type 0
IsLong pieces number s = (s.debug ≡ false) × (s.len ≡ greatest_end pieces number)

segs-at : (pieces : List Piece) (bs : List BegunComdat) (n k number : ℕ) →
    number ≡ n + k → k < length bs → AllByRecursion WholeBegun bs → IsSomeAnd (slice_get (map (seg_for pieces) (enumerate_from n bs)) k) (IsLong pieces number)
segs-at pieces [] n k number e lt h = absurd (omega (arith, lt))
segs-at pieces (b ∷ bs) n zero number e lt h = (h.0.plain, ap (greatest_end pieces) (let same : n ≡ number = omega (arith, e) in same))
segs-at pieces (b ∷ bs) n (suc k) number e lt h = segs-at pieces bs (n + 1) k number (omega (arith, e)) (omega (arith, lt)) h.1

segs-whole : (pieces : List Piece) (bs : List BegunComdat) (n : ℕ) → AllByRecursion WholeBegun bs → AllByRecursion WholeSeg (map (seg_for pieces) (enumerate_from n bs))
segs-whole pieces [] n h = tt
segs-whole pieces (b ∷ bs) n h = (record { align = h.0.whole.align; combine = h.0.whole.combine; not_reserved = h.0.whole.not_reserved }, segs-whole pieces bs (n + 1) h.1)

-- ---- the module at the end

module _ (p : ObjParts) (s : Sane p) where
  abbrev n : ℕ
  n = length p.module.segs

  abbrev new_segs : List Seg
  new_segs = segs_for p.module.pieces p.comdats

  -- the module, as `finished` writes it
  abbrev end : ObjModule
  end = record p.module {
    segs = p.module.segs ++ new_segs;
    groups = map (group_for n p.comdats) (enumerate_from 1 p.module.groups);
    pubs = map (public_for n) p.module.pubs;
    pieces = map (piece_for n) p.module.pieces;
    fixes = map (fix_for n) p.module.fixes;
    comdats = map comdat_for (numbered n p.comdats);
  }

  end-grows : Grows p.module end
  end-grows = record {
    more_segs = new_segs;
    segs = refl;
    groups = omega (arith, length-map (enumerate_from 1 p.module.groups) (group_for n p.comdats), length-enumerate_from 1 p.module.groups);
    exts = omega arith;
  }

  segs-count : length end.segs ≡ n + length p.comdats
  segs-count =
      let new : length new_segs ≡ length p.comdats = length-map (counted p.comdats) (seg_for p.module.pieces) ∙ length-enumerate_from (COMDAT_BASE + 1) p.comdats in
      omega (arith, length-append p.module.segs new_segs, new)

  -- ---- numbers

  index-low : (i : ℕ) → i ≤ COMDAT_BASE → index_for n i ≡ i
  index-low i h = rw (le-leb i COMDAT_BASE h) refl

  index-high : (i : ℕ) → COMDAT_BASE < i → index_for n i ≡ n + (i - COMDAT_BASE)
  index-high i h = rw (lt-leb i COMDAT_BASE h) refl

  -- the segment of COMDAT k from 0, by its index
  comdat-seg : (k i : ℕ) → i ≡ n + k + 1 → k < length p.comdats → IsSomeAnd (item end.segs i) (IsLong p.module.pieces (COMDAT_BASE + 1 + k))
  comdat-seg k i e lt = item-after (IsLong p.module.pieces (COMDAT_BASE + 1 + k)) p.module.segs new_segs k i e (segs-at p.module.pieces p.comdats (COMDAT_BASE + 1) k (COMDAT_BASE + 1 + k) refl lt s.comdats)

  numbered-seg : (i : ℕ) → IsComdat p i → IsSomeAnd (item end.segs (index_for n i)) (IsLong p.module.pieces i)
  numbered-seg i h =
      let k : ℕ = i - COMDAT_BASE - 1 in
      let same : COMDAT_BASE + 1 + k ≡ i = omega (arith, h.0) in
      subst (λ (j : ℕ). IsSomeAnd (item end.segs (index_for n i)) (IsLong p.module.pieces j)) same
      (comdat-seg k (index_for n i) (omega (arith, index-high i h.0, h.0)) (omega (arith, h.0, h.1)))

  plain-at : (i : ℕ) → IsNumber p i → IsPlainSeg end (index_for n i)
  plain-at i h =
      elim h [
        | inl plain ↦ subst (IsPlainSeg end) (sym (index-low i plain.0)) (plain-grows p.module end end-grows i plain.1)
        | inr comdat ↦ some-so (IsLong p.module.pieces i) (λ (x : Seg). x.debug ≡ false) (item end.segs (index_for n i)) (λ x k. k.0) (numbered-seg i comdat)
      ]

  lies-at : (i offset len : ℕ) → LiesAt p i offset len → LiesIn end (index_for n i) offset len
  lies-at i offset len h =
      elim h [
        | inl lies ↦ subst (λ (j : ℕ). LiesIn end j offset len) (sym (index-low i lies.0)) (lies-grows p.module end end-grows i offset len lies.1)
        | inr lies ↦
            some-so (IsLong p.module.pieces i) (λ (x : Seg). (x.debug ≡ false) × (offset + len ≤ x.len)) (item end.segs (index_for n i))
            (λ x k. (k.0, omega (arith, k.1, lies.within))) (numbered-seg i lies.comdat)
      ]

  -- a number's index, with what tells two numbers apart
  abbrev IsCounted : ℕ → Type 0
  IsCounted i = ((i ≤ COMDAT_BASE) × (i ≤ n)) ⊎ (COMDAT_BASE < i)

  number-counted : (i : ℕ) → IsNumber p i → IsCounted i
  number-counted i h =
      elim h [
        | inl plain ↦ inl (plain.0, in-bounds (λ (x : Seg). x.debug ≡ false) p.module.segs i plain.1)
        | inr comdat ↦ inr comdat.0
      ]

  lies-counted : (i offset len : ℕ) → LiesAt p i offset len → IsCounted i
  lies-counted i offset len h =
      elim h [
        | inl lies ↦ inl (lies.0, in-bounds (λ (x : Seg). (x.debug ≡ false) × (offset + len ≤ x.len)) p.module.segs i lies.1)
        | inr lies ↦ inr lies.comdat.0
      ]

  index-once : (i j : ℕ) → IsCounted i → IsCounted j → index_for n i ≡ index_for n j → i ≡ j
  index-once i j h k e =
      elim h [
        | inl low ↦ elim k [
          | inl low' ↦ omega (arith, e, index-low i low.0, index-low j low'.0)
          | inr high' ↦ omega (arith, e, index-low i low.0, index-high j high', low.1, high')
        ]
        | inr high ↦ elim k [
          | inl low' ↦ omega (arith, e, index-high i high, index-low j low'.0, low'.1, high)
          | inr high' ↦ omega (arith, e, index-high i high, index-high j high', high, high')
        ]
      ]

  index-same : (i j : ℕ) → IsCounted i → IsCounted j → eqb (index_for n i) (index_for n j) ≡ eqb i j
  index-same i j h k = same-test (index_for n i) (index_for n j) i j (index-once i j h k) (λ e. ap (index_for n) e)

  -- ---- groups

  numbers-plain : AllByRecursion (λ (q : ℕ × BegunComdat). IsPlainSeg end q.0) (numbered n p.comdats)
  numbers-plain =
      all_weaker (λ (q : ℕ × BegunComdat). (n + 1 ≤ q.0) × (q.0 < n + 1 + length p.comdats)) (λ (q : ℕ × BegunComdat). IsPlainSeg end q.0)
      (λ q h. some-so _ (λ (x : Seg). x.debug ≡ false) (item end.segs q.0) (λ x k. k.0) (comdat-seg (q.0 - (n + 1)) q.0 (omega (arith, h.0)) (omega (arith, h.0, h.1))))
      (numbered n p.comdats) (numbers-from (n + 1) p.comdats)

  group-end : (q : ℕ × Group) → WholeGroup p.module q.1 → WholeGroup end (group_for n p.comdats q)
  group-end q h =
      elim (bool_cases (bytes_eq q.1.name (codes "FLAT"))) [
        | inl flat ↦ rw flat (group-grows p.module end end-grows q.1 h)
        | inr not_flat ↦
            let named : ℕ × BegunComdat → Bool = λ b. eqb b.1.group q.0 in
            let new : List ℕ = map (λ (b : ℕ × BegunComdat). b.0) (filter named (numbered n p.comdats)) in
            let old : AllByRecursion (IsPlainSeg end) q.1.members =
            all_weaker (IsPlainSeg p.module) (IsPlainSeg end) (plain-grows p.module end end-grows) q.1.members (all-back (IsPlainSeg p.module) q.1.members h.members) in
            let own : AllByRecursion (IsPlainSeg end) new = all-mapped (λ (b : ℕ × BegunComdat). IsPlainSeg end b.0) (IsPlainSeg end) (λ b. b.0) (λ b k. k)
            (filter named (numbered n p.comdats)) (all_kept (λ (b : ℕ × BegunComdat). IsPlainSeg end b.0) named (numbered n p.comdats) numbers-plain) in
            let whole : WholeGroup end (record q.1 { members = q.1.members ++ new }) = record {
              members = all-at (IsPlainSeg end) (q.1.members ++ new) (all_joined (IsPlainSeg end) q.1.members new old own);
              flat = λ e. let yes' : bytes_eq q.1.name (codes "FLAT") ≡ true = ap (λ (xs : List ℕ). bytes_eq xs (codes "FLAT")) e in absurd cc;
            } in
            rw not_flat whole
      ]

  groups-end : (m : ℕ) (gs : List Group) → AllByRecursion (WholeGroup p.module) gs → AllByRecursion (WholeGroup end) (map (group_for n p.comdats) (enumerate_from m gs))
  groups-end m [] h = tt
  groups-end m (g ∷ gs) h = (group-end (m, g) h.0, groups-end (m + 1) gs h.1)

  -- ---- publics, pieces and fixes

  place-end : (x : PubPlace) → IsNumbered p x → WholePlace end (place_for n x)
  place-end (In i offset) h = plain-at i h
  place-end (Const value) h = tt

  fix-end : (f : FixAt) → WholeFixAt p f → WholeFix end (fix_for n f)
  fix-end f h = record {
    location = h.location;
    relative = h.relative;
    place = lies-at f.seg f.offset (location_len f.loc) h.place;
    frame = frame-grows p.module end end-grows f.frame h.frame;
    goal = goal-grows p.module end end-grows f.goal h.goal;
  }

  meets-end : (f g : FixAt) → WholeFixAt p f × WholeFixAt p g × Apart f g → Apart (fix_for n f) (fix_for n g)
  meets-end f g h =
      let same = index-same f.seg g.seg (lies-counted f.seg f.offset _ h.0.place) (lies-counted g.seg g.offset _ h.1.place) in
      subst (λ (b : Bool). (b && ltb f.offset (end_of g) && ltb g.offset (end_of f)) ≡ false) (sym same) h.2

  -- ---- COMDATs

  frame-apart : (c : ℕ) → n < c → (f : Frame) → WholeFrame p.module f → IsApartFrame c f
  frame-apart c past (frames.Seg i) h = λ e. omega (arith, e, past, in-bounds (λ (x : Seg). x.debug ≡ false) p.module.segs i h)
  frame-apart c past (frames.Group i) h = tt
  frame-apart c past (frames.Ext i) h = tt
  frame-apart c past frames.Here h = tt
  frame-apart c past frames.OfTarget h = tt

  goal-apart : (c : ℕ) → n < c → (f : Goal) → WholeGoal p.module f → IsApartGoal c f
  goal-apart c past (goals.Seg i) h = λ e. omega (arith, e, past, in-bounds (λ (x : Seg). x.debug ≡ false) p.module.segs i h)
  goal-apart c past (goals.Group i) h = tt
  goal-apart c past (goals.Ext i) h = tt

  pub-test : (a c : ℕ) → COMDAT_BASE < a → c ≡ index_for n a → (x : PubPlace) → IsNumbered p x → is_in_seg c (place_for n x) ≡ is_in_seg a x
  pub-test a c past e (In i offset) h = ap (eqb (index_for n i)) e ∙ index-same i a (number-counted i h) (inr past)
  pub-test a c past e (Const value) h = refl

  pubs-found : (a c : ℕ) → COMDAT_BASE < a → c ≡ index_for n a → (xs : List Pub) → AllByRecursion (PubIn p) xs → filter (in_number c) (map (public_for n) xs) ≡ map (public_for n) (filter (in_number a) xs)
  pubs-found a c past e [] h = refl
  pubs-found a c past e (x ∷ xs) h =
      let rest = pubs-found a c past e xs h.1 in
      let same = pub-test a c past e x.place h.0 in
      elim (bool_cases (in_number a x)) [
        | inl t ↦ rw (t, same ∙ t) (ap (λ (ys : List Pub). public_for n x ∷ ys) rest)
        | inr t ↦ rw (t, same ∙ t) rest
      ]

  -- COMDAT k from 0, by its number and its index
  comdat-end : (k a c : ℕ) (b : BegunComdat) → a ≡ COMDAT_BASE + 1 + k → c ≡ n + 1 + k → k < length p.comdats → HasPublic p.module.pubs (a, b) → WholeComdat end (comdat_for (c, b))
  comdat-end k a c b ea ec lt h =
      let past : COMDAT_BASE < a = omega (arith, ea) in
      let after : n < c = omega (arith, ec) in
      let same : c ≡ index_for n a = omega (arith, ea, ec, index-high a past) in
      record {
        segment = (omega (arith, ec), omega (arith, ec, lt, segs-count));
        public = (
          public_for n h.public,
          record {
            only = pubs-found a c past same p.module.pubs s.pubs ∙ ap (λ (xs : List Pub). map (public_for n) xs) h.only;
            name = h.name;
            begin = ap (place_for n) h.begin ∙ ap (λ (i : ℕ). In i 0) (sym same);
          },
        );
        frames = all-at (λ (f : FixAt). IsApartFrame c f.frame) end.fixes
            (all-mapped (WholeFixAt p) (λ (f : FixAt). IsApartFrame c f.frame) (fix_for n) (λ f w. frame-apart c after f.frame w.frame) p.module.fixes s.fixes);
        goals = all-at (λ (f : FixAt). IsApartGoal c f.goal) end.fixes (all-mapped (WholeFixAt p) (λ (f : FixAt). IsApartGoal c f.goal) (fix_for n) (λ f w. goal-apart c after f.goal w.goal) p.module.fixes s.fixes);
        start_frame = option-grows (WholeStart p.module) (λ (x : StartAt). IsApartFrame c x.frame) (λ x w. frame-apart c after x.frame w.0) p.module.start s.start;
        start_goal = option-grows (WholeStart p.module) (λ (x : StartAt). IsApartGoal c x.goal) (λ x w. goal-apart c after x.goal w.1) p.module.start s.start;
      }

  comdats-end : (bs : List BegunComdat) (k a c : ℕ) → a ≡ COMDAT_BASE + 1 + k → c ≡ n + 1 + k → k + length bs ≤ length p.comdats →
      AllByRecursion (HasPublic p.module.pubs) (enumerate_from a bs) → AllByRecursion (WholeComdat end) (map comdat_for (enumerate_from c bs))
  comdats-end [] k a c ea ec few h = tt
  comdats-end (b ∷ bs) k a c ea ec few h = (
    comdat-end k a c b ea ec (omega (arith, few)) h.0,
    comdats-end bs (k + 1) (a + 1) (c + 1) (omega (arith, ea)) (omega (arith, ec)) (omega (arith, few)) h.1,
  )

  numbers-apart : (bs : List BegunComdat) (c : ℕ) → Pairs (λ (q r : ℕ × BegunComdat). q.0 ≢ r.0) (enumerate_from c bs)
  numbers-apart [] c = tt
  numbers-apart (b ∷ bs) c = (
    all_weaker (λ (q : ℕ × BegunComdat). (c + 1 ≤ q.0) × (q.0 < c + 1 + length bs)) (λ (q : ℕ × BegunComdat). c ≢ q.0) (λ q h e. omega (arith, e, h.0)) (enumerate_from (c + 1) bs) (numbers-from (c + 1) bs),
    numbers-apart bs (c + 1),
  )

  -- ---- the whole

  end-whole : WholeModule end
  end-whole = record {
    segs = all-at WholeSeg end.segs (all_joined WholeSeg p.module.segs new_segs s.segs (segs-whole p.module.pieces p.comdats (COMDAT_BASE + 1) s.comdats));
    groups = all-at (WholeGroup end) end.groups (groups-end 1 p.module.groups s.groups);
    pubs = all-at (λ (x : Pub). WholePlace end x.place) end.pubs (all-mapped (PubIn p) (λ (x : Pub). WholePlace end x.place) (public_for n) (λ x h. place-end x.place h) p.module.pubs s.pubs);
    pieces = all-at (λ (x : Piece). LiesIn end x.seg x.offset (length x.bytes)) end.pieces (all-mapped (PieceIn p)
        (λ (x : Piece). LiesIn end x.seg x.offset (length x.bytes)) (piece_for n) (λ x h. lies-at x.seg x.offset (length x.bytes) h) p.module.pieces s.pieces);
    fixes = all-at (WholeFix end) end.fixes (all-mapped (WholeFixAt p) (WholeFix end) (fix_for n) fix-end p.module.fixes s.fixes);
    apart = pairs-at Apart end.fixes (pairs-map (λ f g. WholeFixAt p f × WholeFixAt p g × Apart f g) Apart (fix_for n) meets-end p.module.fixes (pairs-both (WholeFixAt p) Apart p.module.fixes s.fixes s.apart));
    imports = all-at HasModule end.imports s.imports;
    exports = all-at WholeExp end.exports s.exports;
    start = option-grows (WholeStart p.module) (WholeStart end) (start-grows p.module end end-grows) p.module.start s.start;
    data_limit = omega (arith, s.data_limit, sum-mapped (λ (x : Piece). length x.bytes) (piece_for n) (λ x. refl) p.module.pieces);
    fix_limit = omega (arith, s.fix_limit, length-map p.module.fixes (fix_for n));
    comdats = all-at (WholeComdat end) end.comdats (comdats-end p.comdats 0 (COMDAT_BASE + 1) (n + 1) (omega arith) (omega arith) (omega arith) s.publics);
    comdats_apart = pairs-at (λ (x y : Comdat). x.seg ≢ y.seg) end.comdats
        (pairs-map (λ (q r : ℕ × BegunComdat). q.0 ≢ r.0) (λ (x y : Comdat). x.seg ≢ y.seg) comdat_for (λ q r h. h) (numbered n p.comdats) (numbers-apart p.comdats (n + 1)));
  }

  pub sane-whole : WholeModule (finished p)
  unfolding finished
  sane-whole = end-whole
