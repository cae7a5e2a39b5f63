-- Which locations touch some bytes, found by the bytes that are marked.
use Rattle.std.proofs.Common.{◌≡◌, ℕ, suc, ◌+◌, ◌<◌, ◌≤◌, Bool, true, false, List, [], ◌∷◌, refl, sym, ap, ◌∙◌, arith, inl, inr, max}
use Rattle.std.specs.Prelude.{take, length, get_or, ◌&&◌, ◌||◌, ◌==◌, nat_le, nat_lt, IsTrue, ◌↔◌}
use Rattle.std.specs.List.{list_any}
use Rattle.std.proofs.lemmas.Bool.{ltb-true, lt-ltb, leb-true, le-leb, or_left, or_right, and_from}
use Rattle.std.proofs.lemmas.Bool.Decides.{eqb_tells, nat_tests}
use Rattle.std.proofs.lemmas.List.Folds.{list_any-append}
use Rattle.std.proofs.Math.Seq.{take-length, take-suc}
use Rattle.std.proofs.Math.Bool.{or-false}
use Rattle.lx_types.proofs.Bools.{same_test}
use Rattle.obj_types.specs.declared.object.FixAt.{FixAt}
use Rattle.obj_types.specs.Location.{end_of, location_len}
use Rattle.omf_model.specs.Fixups.{touches}
use Rattle.omf_model.proofs.DataLaws.{bool_cases}
use Rattle.omf_model.proofs.FixLaws.{and_true}
use Rattle.byte_marks.specs.Bits.{HasBit}
use Rattle.byte_marks.specs.Marks.{is_marked}
use Rattle.omf_data.specs.declared.marks.Marks.{Marks}
use Rattle.omf_data.specs.Marks.{HaveFixes, KeepsLocations, SeesLocation, has_byte, is_inside, touches_bare}

-- ---- lists

-- what passes a test, and that it would pass others
pub found : {A : Type 0} (p : A → Bool) (xs : List A) → list_any p xs ≡ true → (x : A) × (p x ≡ true) × ((q : A → Bool) → q x ≡ true → list_any q xs ≡ true)
found p [] e = absurd cc
found {A} p (x ∷ xs) e =
    elim (bool_cases (p x)) [
      | inl passed ↦ (x, passed, λ q h. or_left (q x) (list_any q xs) h)
      | inr failed ↦
          let rest : list_any p xs ≡ true = sym (ap (λ (b : Bool). b || list_any p xs) failed) ∙ e in
          let w = found p xs rest in
          (w.0, w.1, λ q h. or_right (q x) (list_any q xs) (w.2 q h))
    ]

-- one more of the first ones
pub any-more : (p : FixAt → Bool) (fixes : List FixAt) (n : ℕ) (d : FixAt) → n < length fixes → list_any p (take (n + 1) fixes) ≡ (list_any p (take n fixes) || p (get_or fixes n d))
any-more p fixes n d more =
    let count : n + 1 ≡ suc n = omega arith in
    ap (λ (i : ℕ). list_any p (take i fixes)) count ∙ ap (list_any p) (take-suc fixes n d more) ∙ list_any-append p (take n fixes) (get_or fixes n d ∷ [])
    ∙ ap (λ (b : Bool). list_any p (take n fixes) || b) (or-false (p (get_or fixes n d)))

-- ---- locations

module _ (seg start len : ℕ) where
  -- a byte of the location among some bytes
  byte-touches : (f : FixAt) (x : ℕ) → start ≤ x → x < start + len → has_byte seg x f ≡ true → touches seg start len f ≡ true
  byte-touches f x least below e =
      let outer = and_true _ _ e in
      let inner = and_true _ _ outer.0 in
      let from : f.offset ≤ x = leb-true _ _ inner.1 in
      let past : x < end_of f = ltb-true _ _ outer.1 in
      and_from _ _ (and_from _ _ (and_from _ _ inner.0 (lt-ltb 0 len (omega arith))) (lt-ltb _ _ (omega arith))) (lt-ltb _ _ (omega arith))

  -- one that has a byte has one among them where they touch it
  touched-byte : (f : FixAt) → 0 < location_len f.loc → touches seg start len f ≡ true
      → (start ≤ max f.offset start) × (max f.offset start < start + len) × (has_byte seg (max f.offset start) f ≡ true)
  touched-byte f some e =
      let a = and_true _ _ e in
      let b = and_true _ _ a.0 in
      let c = and_true _ _ b.0 in
      let before : f.offset < start + len = ltb-true _ _ b.1 in
      let after : start < end_of f = ltb-true _ _ a.1 in
      let there : 0 < len = ltb-true _ _ c.1 in
      let least : f.offset ≤ max f.offset start = omega arith in
      let past : max f.offset start < end_of f = omega (arith, some, after) in
      let own : (f.seg == seg) ≡ true = c.0 in
      let first : start ≤ max f.offset start = omega arith in
      let below : max f.offset start < start + len = omega (arith, there, before) in
      let inner : (f.seg == seg && nat_le f.offset (max f.offset start)) ≡ true = and_from (f.seg == seg) (nat_le f.offset (max f.offset start)) own (le-leb f.offset (max f.offset start) least) in
      (first, below, and_from (f.seg == seg && nat_le f.offset (max f.offset start)) (nat_lt (max f.offset start) (end_of f)) inner (lt-ltb (max f.offset start) (end_of f) past))

  -- The bytes that are marked, and the places without a byte, tell whether one of the fixes is touched.
  pub any-touched : (marked : ℕ → ℕ → Bool) (fixes : List FixAt) (r b : Bool) → ((s x : ℕ) → marked s x ≡ list_any (has_byte s x) fixes)
      → (IsTrue r ↔ HasBit (marked seg) start (start + len)) → b ≡ list_any (touches_bare seg start len) fixes → (r || b) ≡ list_any (touches seg start len) fixes
  any-touched marked fixes r b located asked bare = same_test _ _ (there r b asked.0 bare) back
    where
      there : (r b : Bool) → (IsTrue r → HasBit (marked seg) start (start + len)) → b ≡ list_any (touches_bare seg start len) fixes → (r || b) ≡ true → list_any (touches seg start len) fixes ≡ true
      there true b asked bare e =
          let h = asked refl in
          let w = found (has_byte seg h.place) fixes (sym (located seg h.place) ∙ h.passes) in
          w.2 (touches seg start len) (byte-touches w.0 h.place h.least h.below w.1)
      there false b asked bare e =
          let w = found (touches_bare seg start len) fixes (sym bare ∙ e) in
          w.2 (touches seg start len) (and_true _ _ w.1).1

      back : list_any (touches seg start len) fixes ≡ true → (r || b) ≡ true
      back e =
          let w = found (touches seg start len) fixes e in
          elim (eqb_tells (location_len w.0.loc) 0) [
            | inl none ↦ or_right r b (bare ∙ w.2 (touches_bare seg start len) (and_from _ _ none.0 w.1))
            | inr some ↦
                let h = touched-byte w.0 (let apart = some.1 in omega arith) w.1 in
                or_left r b (asked.1 (record { place = max w.0.offset start; least = h.0; below = h.1; passes = located seg (max w.0.offset start) ∙ w.2 (has_byte seg (max w.0.offset start)) h.2 }))
          ]

-- ---- what has been seen

module _ (m : Marks) (fixes : List FixAt) (have : HaveFixes m fixes) (all : m.fixes ≡ length fixes) where
  whole : (test : FixAt → Bool) → list_any test (take m.fixes fixes) ≡ list_any test fixes
  whole test = ap (λ (n : ℕ). list_any test (take n fixes)) all ∙ ap (list_any test) (take-length fixes)

  pub all-located : (seg x : ℕ) → is_marked m.located seg x ≡ list_any (has_byte seg x) fixes
  all-located seg x = have.located seg x ∙ whole (has_byte seg x)

  pub all-bare : (seg start len : ℕ) → list_any (is_inside seg start len) m.bare.items ≡ list_any (touches_bare seg start len) fixes
  all-bare seg start len = have.bare seg start len ∙ whole (touches_bare seg start len)

-- one fix more
pub one-seen : (m n : Marks) (fixes : List FixAt) (d : FixAt) → m.fixes < length fixes → HaveFixes m fixes → n.fixes ≡ m.fixes → SeesLocation m n (get_or fixes m.fixes d) → HaveFixes (record n { fixes = n.fixes + 1 }) fixes
one-seen m n fixes d more have count sees = record {
  seen = omega (arith, more, count);
  located = λ seg x.
      sees.located seg x ∙ ap (λ (b : Bool). b || has_byte seg x (get_or fixes m.fixes d)) (have.located seg x) ∙ sym (any-more (has_byte seg x) fixes m.fixes d more)
      ∙ ap (λ (i : ℕ). list_any (has_byte seg x) (take (i + 1) fixes)) (sym count);
  bare = λ seg start len.
      sees.bare seg start len ∙ ap (λ (b : Bool). b || touches_bare seg start len (get_or fixes m.fixes d)) (have.bare seg start len) ∙ sym (any-more (touches_bare seg start len) fixes m.fixes d more)
      ∙ ap (λ (i : ℕ). list_any (touches_bare seg start len) (take (i + 1) fixes)) (sym count);
}

-- none more
pub none-seen : (m n : Marks) (fixes : List FixAt) → HaveFixes m fixes → n.fixes ≡ m.fixes → KeepsLocations m n → HaveFixes n fixes
none-seen m n fixes have count keeps = record {
  seen = omega (arith, have.seen, count);
  located = λ seg x. keeps.located seg x ∙ have.located seg x ∙ ap (λ (i : ℕ). list_any (has_byte seg x) (take i fixes)) (sym count);
  bare = λ seg start len.
      ap (list_any (is_inside seg start len)) keeps.bare ∙ have.bare seg start len ∙ ap (λ (i : ℕ). list_any (touches_bare seg start len) (take i fixes)) (sym count);
}

-- the location of a fix: its bytes, or none
pub no-byte : (seg x : ℕ) (f : FixAt) → location_len f.loc ≡ 0 → has_byte seg x f ≡ false
no-byte seg x f none = grind (arith, nat_tests, none)

pub bare-touches : (seg start len : ℕ) (f : FixAt) → location_len f.loc ≡ 0 → is_inside seg start len (f.seg, f.offset) ≡ touches_bare seg start len f
bare-touches seg start len f none = grind (arith, nat_tests, none)

pub not-bare : (seg start len : ℕ) (f : FixAt) → 0 < location_len f.loc → touches_bare seg start len f ≡ false
not-bare seg start len f some = grind (arith, nat_tests, some)
