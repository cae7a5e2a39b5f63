-- The numbers of an unfinished module's segments: what they name when its lists grow.
use Rattle.std.proofs.Common.{◌≡◌, ◌≢◌, ℕ, ◌+◌, ◌<◌, ◌≤◌, Bool, true, false, eqb, List, [], ◌∷◌, ◌++◌, length, Option, Some, None, refl, sym, ap, subst, ◌∙◌, arith, inl, inr}
use Rattle.std.specs.Prelude.{IsSomeAnd, max}
use Rattle.std.specs.List.{AllByRecursion, enumerate_from, filter, fold}
use Rattle.std.proofs.lemmas.Bool.{eq-eqb, eqb-true, eqb-false}
use Rattle.std.proofs.lemmas.List.Elements.{filter-append}
use Rattle.std.proofs.lemmas.List.Sums.{fold-append}
use Rattle.obj_types.specs.declared.object.Seg.{Seg}
use Rattle.obj_types.specs.declared.object.Piece.{Piece}
use Rattle.obj_types.specs.declared.object.FixAt.{FixAt}
use Rattle.obj_types.specs.declared.object.ObjModule.{ObjModule}
use Rattle.obj_types.specs.declared.symbol.Pub.{Pub}
use Rattle.obj_types.specs.declared.symbol.PubPlace.{PubPlace}
use Rattle.obj_types.specs.declared.symbol.PubPlace.TheVariants.{In, Const}
use Rattle.obj_types.specs.declared.parts.BegunComdat.{BegunComdat}
use Rattle.obj_types.specs.declared.parts.ObjParts.{ObjParts}
use Rattle.obj_types.specs.Items.{item}
use Rattle.obj_types.specs.Location.{location_len, has_selector}
use Rattle.obj_types.specs.Whole.{LiesIn, WholeFrame, WholeGoal, is_in_seg}
use Rattle.omf_model.specs.Finished.{greatest_end}
use Rattle.omf_model.specs.Begun.{IsComdat, IsNumber, IsNumbered, LiesAt}
use Rattle.omf_model.proofs.DataLaws.{bool_cases}
use Rattle.omf_model.proofs.GrowLaws.{Grows, plain-grows, lies-grows, frame-grows, goal-grows}

-- ---- two tests of equality that say the same

pub same-test : (a b c d : ℕ) → (a ≡ b → c ≡ d) → (c ≡ d → a ≡ b) → eqb a b ≡ eqb c d
same-test a b c d there back =
    elim (bool_cases (eqb a b)) [
      | inl is ↦ is ∙ sym (eq-eqb c d (there (eqb-true a b is)))
      | inr other ↦ other ∙ sym (unequal c d (λ e. eqb-false a b other (back e)))
    ]
  where
    unequal : (c d : ℕ) → c ≢ d → eqb c d ≡ false
    unequal c d apart =
        elim (bool_cases (eqb c d)) [
          | inl is ↦ absurd (apart (eqb-true c d is))
          | inr other ↦ other
        ]

pub not-equal : (a b : ℕ) → a ≢ b → eqb a b ≡ false
not-equal a b apart =
    elim (bool_cases (eqb a b)) [
      | inl is ↦ absurd (apart (eqb-true a b is))
      | inr other ↦ other
    ]

-- ---- how long a COMDAT is so far

abbrev with_end : ℕ → Piece → ℕ
with_end len q = max len (q.offset + length q.bytes)

abbrev of_number : ℕ → Piece → Bool
of_number number q = eqb q.seg number

end-from : (xs : List Piece) (a : ℕ) → a ≤ fold with_end a xs
end-from [] a = omega arith
end-from (x ∷ xs) a = omega (arith, end-from xs (with_end a x))

end-append : (xs more : List Piece) (number : ℕ) → greatest_end (xs ++ more) number ≡ fold with_end (greatest_end xs number) (filter (of_number number) more)
end-append xs more number =
    ap (λ (ys : List Piece). fold with_end 0 ys) (filter-append (of_number number) xs more)
    ∙ fold-append with_end 0 (filter (of_number number) xs) (filter (of_number number) more)

pub end-grows : (xs more : List Piece) (number : ℕ) → greatest_end xs number ≤ greatest_end (xs ++ more) number
end-grows xs more number = omega (arith, end-append xs more number, end-from (filter (of_number number) more) (greatest_end xs number))

pub end-reached : (xs : List Piece) (q : Piece) → q.offset + length q.bytes ≤ greatest_end (xs ++ q ∷ []) q.seg
end-reached xs q =
    let last : fold with_end (greatest_end xs q.seg) (filter (of_number q.seg) (q ∷ [])) ≡ with_end (greatest_end xs q.seg) q = rw (eq-eqb q.seg q.seg refl) refl in
    omega (arith, end-append xs (q ∷ []) q.seg, last)

-- ---- more after what there is

-- q has what p has, and maybe more after it
pub record PartsGrow (p q : ObjParts) : Type 0 where
  pub «module» : Grows p.module q.module
  pub more_pieces : List Piece
  pub pieces : q.module.pieces ≡ p.module.pieces ++ more_pieces
  pub comdats : length p.comdats ≤ length q.comdats

-- a fix that is whole, by number
pub record WholeFixAt (p : ObjParts) (f : FixAt) : Type 0 where
  pub location : 0 < location_len f.loc
  pub relative : has_selector f.loc ≡ true → f.selfrel ≡ false
  pub place : LiesAt p f.seg f.offset (location_len f.loc)
  pub frame : WholeFrame p.module f.frame
  pub goal : WholeGoal p.module f.goal

module _ (p q : ObjParts) (g : PartsGrow p q) where
  comdat-grows : (i : ℕ) → IsComdat p i → IsComdat q i
  comdat-grows i h = (h.0, omega (arith, h.1, g.comdats))

  pub number-grows : (i : ℕ) → IsNumber p i → IsNumber q i
  number-grows i h =
      elim h [
        | inl plain ↦ inl (plain.0, plain-grows p.module q.module g.module i plain.1)
        | inr comdat ↦ inr (comdat-grows i comdat)
      ]

  pub numbered-grows : (x : PubPlace) → IsNumbered p x → IsNumbered q x
  numbered-grows (In i offset) h = number-grows i h
  numbered-grows (Const value) h = tt

  pub lies_at-grows : (i offset len : ℕ) → LiesAt p i offset len → LiesAt q i offset len
  lies_at-grows i offset len h =
      elim h [
        | inl lies ↦ inl (lies.0, lies-grows p.module q.module g.module i offset len lies.1)
        | inr lies ↦
            let longer : greatest_end p.module.pieces i ≤ greatest_end q.module.pieces i =
            subst (λ (xs : List Piece). greatest_end p.module.pieces i ≤ greatest_end xs i) (sym g.pieces) (end-grows p.module.pieces g.more_pieces i) in
            inr (record { comdat = comdat-grows i lies.comdat; within = omega (arith, lies.within, longer); limit = lies.limit })
      ]

  pub fix_at-grows : (f : FixAt) → WholeFixAt p f → WholeFixAt q f
  fix_at-grows f h = record {
    location = h.location;
    relative = h.relative;
    place = lies_at-grows f.seg f.offset (location_len f.loc) h.place;
    frame = frame-grows p.module q.module g.module f.frame h.frame;
    goal = goal-grows p.module q.module g.module f.goal h.goal;
  }

-- a shorter stretch within a longer one
pub lies-less : (m : ObjModule) (i a n x l : ℕ) → x + l ≤ a + n → LiesIn m i a n → LiesIn m i x l
lies-less m i a n x l le h = by (item m.segs i) h
  where
    by : (o : Option Seg) → IsSomeAnd o (λ (s : Seg). (s.debug ≡ false) × (a + n ≤ s.len)) → IsSomeAnd o (λ (s : Seg). (s.debug ≡ false) × (x + l ≤ s.len))
    by None h = absurd h
    by (Some s) h = (h.0, omega (arith, le, h.1))

pub lies_at-less : (p : ObjParts) (i a n x l : ℕ) → x + l ≤ a + n → LiesAt p i a n → LiesAt p i x l
lies_at-less p i a n x l le h =
    elim h [
      | inl lies ↦ inl (lies.0, lies-less p.module i a n x l le lies.1)
      | inr lies ↦ inr (record { comdat = lies.comdat; within = omega (arith, le, lies.within); limit = omega (arith, le, lies.limit) })
    ]

-- ---- the publics of COMDATs

-- the items of a list and their numbers
pub numbers-from : {A : Type 0} (n : ℕ) (xs : List A) → AllByRecursion (λ (q : ℕ × A). (n ≤ q.0) × (q.0 < n + length xs)) (enumerate_from n xs)
numbers-from n [] = tt
numbers-from {A = A} n (x ∷ xs) = ((omega arith, omega arith), widen (enumerate_from (n + 1) xs) (numbers-from (n + 1) xs))
  where
    widen : (qs : List (ℕ × A)) → AllByRecursion (λ (q : ℕ × A). (n + 1 ≤ q.0) × (q.0 < n + 1 + length xs)) qs → AllByRecursion (λ (q : ℕ × A). (n ≤ q.0) × (q.0 < n + length (x ∷ xs))) qs
    widen [] h = tt
    widen (q ∷ qs) h = ((omega (arith, h.0.0), omega (arith, h.0.1)), widen qs h.1)

pub enumerate-snoc : {A : Type 0} (n m : ℕ) (xs : List A) (x : A) → m ≡ n + length xs → enumerate_from n (xs ++ x ∷ []) ≡ enumerate_from n xs ++ (m, x) ∷ []
enumerate-snoc {A = A} n m [] x e = ap (λ (k : ℕ). (k, x) ∷ []) (let same : n ≡ m = omega (arith, e) in same)
enumerate-snoc {A = A} n m (y ∷ xs) x e = ap (λ (qs : List (ℕ × A)). (n, y) ∷ qs) (enumerate-snoc (n + 1) m xs x (omega (arith, e)))

abbrev pub in_number : ℕ → Pub → Bool
in_number number x = is_in_seg number x.place

-- a COMDAT's public, which is the only one of its number
pub record HasPublic (pubs : List Pub) (q : ℕ × BegunComdat) : Type 0 where
  pub public : Pub
  pub only : filter (in_number q.0) pubs ≡ public ∷ []
  pub name : public.name ≡ q.1.name
  pub begin : public.place ≡ In q.0 0

pub publics-more : (pubs more : List Pub) (qs : List (ℕ × BegunComdat)) → AllByRecursion (λ (q : ℕ × BegunComdat). filter (in_number q.0) more ≡ []) qs →
    AllByRecursion (HasPublic pubs) qs → AllByRecursion (HasPublic (pubs ++ more)) qs
publics-more pubs more [] none h = tt
publics-more pubs more (q ∷ qs) none h = (
  record {
    public = h.0.public;
    only = filter-append (in_number q.0) pubs more ∙ (λ i. h.0.only i ++ none.0 i);
    name = h.0.name;
    begin = h.0.begin;
  },
  publics-more pubs more qs none.1 h.1,
)

-- none of these is of a number that none of them names
pub none-of : (xs : List Pub) (number : ℕ) → AllByRecursion (λ (x : Pub). in_number number x ≡ false) xs → filter (in_number number) xs ≡ []
none-of [] number h = refl
none-of (x ∷ xs) number h = rw h.0 (none-of xs number h.1)
