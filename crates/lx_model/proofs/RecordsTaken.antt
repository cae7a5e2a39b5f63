-- Each fixup record that is read is spelled so.
use Rattle.std.proofs.Common.{◌≡◌, ℕ, zero, suc, ◌+◌, ◌-◌, ◌<◌, ◌^◌, ◌%◌, ◌==◌, ◌&&◌, ◌||◌, Bool, true, false, cond, ltb, List, [], ◌∷◌, ◌++◌, length, Option, Some, None, Ok, Err, ℤ, negsuc, refl, sym, subst, ap, ◌∙◌, arith, inl, inr}
use Rattle.std.specs.List.{flat_map, AllByRecursion as Each}
use Rattle.std.specs.Int.{w16, cast_signed, cast_unsigned}
use Rattle.std.proofs.Math.Facts.{to_z_pos, to_z-neg}
use Rattle.std.proofs.lemmas.Int.{of_z-to_z}
use Rattle.std.proofs.lemmas.Bool.{cases_lt, ltb-true, or_cases, eqb-true}
use Rattle.lx_bytes.specs.Cursor.{Cursor}
use Rattle.lx_bytes.specs.LittleEndian.{AreBytes, little_bytes}
use Rattle.lx_types.specs.declared.refusal.LxRefusal.{LxRefusal}
use Rattle.lx_types.specs.declared.refusal.LxKind.TheVariants as kinds
use Rattle.lx_types.specs.declared.fix.Source.{Source}
use Rattle.lx_types.specs.declared.fix.Source.TheVariants.{Byte, Sel, Far16, Off16, Far32, Off32, Self32}
use Rattle.lx_types.specs.declared.fix.FixTarget.{FixTarget}
use Rattle.lx_types.specs.declared.fix.FixTarget.TheVariants.{Internal, Ordinal, Named, Own}
use Rattle.lx_types.specs.declared.fix.Fix.{Fix}
use Rattle.lx_types.specs.declared.object.TheConstants.{PAGE_SIZE}
use Rattle.lx_model.specs.Reading.{fault, number, Read, ◌>>=◌}
use Rattle.lx_model.specs.Sources.{SourceKind, has_selector, source_byte, source_of_byte, source_size}
use Rattle.lx_model.specs.RecordFields.{has, number_width, target_width, ordinal_width, additive_width, internal_at, target_of_kind, target_at, additive_at, reaches_page, offset_at, offsets_at}
use Rattle.lx_model.specs.declared.record_fields.TheConstants.{ADDITIVE, CHAIN, WIDE_TARGET, WIDE_ADDITIVE, WIDE_NUMBER, BYTE_ORDINAL}
use Rattle.lx_model.specs.Records.{fixes_at_offsets, single_at, list_at, after_source, record_at}
use Rattle.lx_model.specs.RecordSpelling.{Sizes, Written, target_code, flags_of, flags_byte, target_spelling, additive_spelling, offset_spelling, offsets_spelling, record_spelling, fixes_written, TargetFits, AdditiveFits, OffsetFits, CountFits, AliasFits, RecordFits}
use Rattle.lx_model.proofs.Steps.{bind_ok, guard_ok, done}
use Rattle.lx_model.proofs.RecordsRead.{left_true, right_true, size_small, regroup_list}
use Rattle.lx_model.proofs.Takes.{Takes, Takes-then, takes_nothing, number_takes, byte_spelled}

-- ---- tests over all bytes

abbrev pub each_below : ℕ → (ℕ → Bool) → Bool
each_below zero p = true
each_below (suc n) p = p n && each_below n p

below_all : (n k : ℕ) (p : ℕ → Bool) → each_below n p ≡ true → k < n → p k ≡ true
below_all zero k p h lt = absurd (omega arith)
below_all (suc n) k p h lt = elim (cases_lt k n) [
  | inl less ↦ below_all n k p (right_true (p n) (each_below n p) h) less
  | inr ge ↦ let same : n ≡ k = omega arith in subst (λ (j : ℕ). p j ≡ true) same (left_true (p n) (each_below n p) h)
]

-- ---- the source byte

abbrev alias_allowed : Bool → Source → Bool
alias_allowed true source = has_selector source
alias_allowed false source = true

abbrev kind_good : ℕ → Option SourceKind → Bool
kind_good byte None = true
kind_good byte (Some kind) = (source_byte kind == byte) && alias_allowed kind.alias kind.source

all_kinds : (byte : ℕ) → byte < 256 → kind_good byte (source_of_byte byte) ≡ true
all_kinds byte lt = below_all 256 byte (λ b. kind_good b (source_of_byte b)) refl lt

alias_fits : (alias : Bool) (source : Source) → alias_allowed alias source ≡ true → AliasFits alias source
alias_fits true source h = h
alias_fits false source h = tt

record KindTaken (byte : ℕ) (kind : SourceKind) : Type 0 where
  spelled : source_byte kind ≡ byte
  alias : AliasFits kind.alias kind.source

kind_taken : (byte : ℕ) (kind : SourceKind) → byte < 256 → source_of_byte byte ≡ Some kind → KindTaken byte kind
kind_taken byte kind lt is =
    let good : ((source_byte kind == byte) && alias_allowed kind.alias kind.source) ≡ true = subst (λ (o : Option SourceKind). kind_good byte o ≡ true) is (all_kinds byte lt) in
    record {
      spelled = eqb-true (source_byte kind) byte (left_true (source_byte kind == byte) (alias_allowed kind.alias kind.source) good);
      alias = alias_fits kind.alias kind.source (right_true (source_byte kind == byte) (alias_allowed kind.alias kind.source) good);
    }

-- ---- the flags byte

abbrev sizes_from : ℕ → Sizes
sizes_from flags = record { additive = has ADDITIVE flags; wide_target = has WIDE_TARGET flags; wide_additive = has WIDE_ADDITIVE flags; wide_number = has WIDE_NUMBER flags; byte_ordinal = has BYTE_ORDINAL flags }

abbrev flags_good : ℕ → Bool
flags_good flags = has CHAIN flags || (flags_of (sizes_from flags) (flags % 4) == flags)

or_right : (a b : Bool) → a ≡ false → (a || b) ≡ true → b ≡ true
or_right true b e h = absurd cc
or_right false b e h = h

flags_spelled : (flags : ℕ) → flags < 256 → has CHAIN flags ≡ false → flags_of (sizes_from flags) (flags % 4) ≡ flags
flags_spelled flags lt chain = eqb-true _ _ (or_right (has CHAIN flags) (flags_of (sizes_from flags) (flags % 4) == flags) chain (below_all 256 flags flags_good refl lt))

-- ---- target and additive

record TargetTaken (source : Source) (flags : ℕ) (c : Cursor) (t : FixTarget) (d : Cursor) : Type 0 where
  taken : Takes c (target_spelling source flags t) d
  fits : TargetFits source flags t
  code : flags % 4 ≡ target_code t

abbrev target_read : FixTarget → Cursor → Read FixTarget
target_read t c = Ok (t, c)

two_taken : (source : Source) (flags : ℕ) (n m : ℕ) (make : ℕ → ℕ → FixTarget) (c d : Cursor) (t : FixTarget) → AreBytes c.left →
    ((x y : ℕ) (e : Cursor) → x < 256 ^ n → y < 256 ^ m → Takes c (little_bytes n x ++ little_bytes m y) e → TargetTaken source flags c (make x y) e) →
    (number n c >>= λ x. number m x.1 >>= λ y. target_read (make x.0 y.0) y.1) ≡ Ok (t, d) → TargetTaken source flags c t d
two_taken source flags n m make c d t h build e =
    let first = bind_ok (number n c) (λ x. number m x.1 >>= λ y. target_read (make x.0 y.0) y.1) (t, d) e in
    let x = first.0 in
    let a = number_takes n c x.1 x.0 h first.1 in
    let second = bind_ok (number m x.1) (λ y. target_read (make x.0 y.0) y.1) (t, d) first.2 in
    let y = second.0 in
    let b = number_takes m x.1 y.1 y.0 a.taken.rest second.1 in
    let pair : (make x.0 y.0, y.1) ≡ (t, d) = cc in
    subst (λ (p : FixTarget × Cursor). TargetTaken source flags c p.0 p.1) pair (build x.0 y.0 y.1 a.below b.below (Takes-then c x.1 y.1 (little_bytes n x.0) (little_bytes m y.0) a.taken b.taken))

one_taken : (source : Source) (flags : ℕ) (n : ℕ) (make : ℕ → FixTarget) (c d : Cursor) (t : FixTarget) → AreBytes c.left →
    ((x : ℕ) (e : Cursor) → x < 256 ^ n → Takes c (little_bytes n x) e → TargetTaken source flags c (make x) e) →
    (number n c >>= λ x. target_read (make x.0) x.1) ≡ Ok (t, d) → TargetTaken source flags c t d
one_taken source flags n make c d t h build e =
    let first = bind_ok (number n c) (λ x. target_read (make x.0) x.1) (t, d) e in
    let x = first.0 in
    let a = number_takes n c x.1 x.0 h first.1 in
    let pair : (make x.0, x.1) ≡ (t, d) = cc in
    subst (λ (p : FixTarget × Cursor). TargetTaken source flags c p.0 p.1) pair (build x.0 x.1 a.below a.taken)

internal_taken : (source : Source) (flags : ℕ) (c d : Cursor) (t : FixTarget) → flags % 4 ≡ 0 → AreBytes c.left → internal_at source flags c ≡ Ok (t, d) → TargetTaken source flags c t d
unfolding internal_at
internal_taken Byte flags c d t kind h e =
    two_taken Byte flags (number_width flags)
    (target_width flags) (λ o x. Internal o x) c d t h (λ x y end lt less taken. record { taken = taken; fits = (lt, less); code = kind }) e
internal_taken Sel flags c d t kind h e = one_taken Sel flags (number_width flags) (λ o. Internal o 0) c d t h (λ x end lt taken. record { taken = taken; fits = (lt, refl); code = kind }) e
internal_taken Far16 flags c d t kind h e =
    two_taken Far16 flags (number_width flags)
    (target_width flags) (λ o x. Internal o x) c d t h (λ x y end lt less taken. record { taken = taken; fits = (lt, less); code = kind }) e
internal_taken Off16 flags c d t kind h e =
    two_taken Off16 flags (number_width flags)
    (target_width flags) (λ o x. Internal o x) c d t h (λ x y end lt less taken. record { taken = taken; fits = (lt, less); code = kind }) e
internal_taken Far32 flags c d t kind h e =
    two_taken Far32 flags (number_width flags)
    (target_width flags) (λ o x. Internal o x) c d t h (λ x y end lt less taken. record { taken = taken; fits = (lt, less); code = kind }) e
internal_taken Off32 flags c d t kind h e =
    two_taken Off32 flags (number_width flags)
    (target_width flags) (λ o x. Internal o x) c d t h (λ x y end lt less taken. record { taken = taken; fits = (lt, less); code = kind }) e
internal_taken Self32 flags c d t kind h e =
    two_taken Self32 flags (number_width flags)
    (target_width flags) (λ o x. Internal o x) c d t h (λ x y end lt less taken. record { taken = taken; fits = (lt, less); code = kind }) e

target_taken : (code : ℕ) (source : Source) (flags : ℕ) (c d : Cursor) (t : FixTarget) → flags % 4 ≡ code → code < 4 → AreBytes c.left → target_of_kind code source flags c ≡ Ok (t, d) → TargetTaken source flags c t d
unfolding target_of_kind
target_taken zero source flags c d t kind small h e = internal_taken source flags c d t kind h e
target_taken (suc zero) source flags c d t kind small h e =
    two_taken source flags (number_width flags) (ordinal_width flags) (λ i o. Ordinal i o) c d t h (λ x y end lt less taken. record { taken = taken; fits = (lt, less); code = kind }) e
target_taken (suc (suc zero)) source flags c d t kind small h e =
    two_taken source flags (number_width flags) (target_width flags) (λ i n. Named i n) c d t h (λ x y end lt less taken. record { taken = taken; fits = (lt, less); code = kind }) e
target_taken (suc (suc (suc zero))) source flags c d t kind small h e =
    one_taken source flags (number_width flags) (λ o. Own o) c d t h (λ x end lt taken. record { taken = taken; fits = lt; code = kind }) e
target_taken (suc (suc (suc (suc k)))) source flags c d t kind small h e = absurd (omega arith)

record AdditiveTaken (there : Bool) (flags : ℕ) (c : Cursor) (a : ℕ) (d : Cursor) : Type 0 where
  taken : Takes c (cond there (little_bytes (additive_width flags) a) []) d
  fits : AdditiveFits there flags a

additive_by : (there : Bool) (flags : ℕ) (c d : Cursor) (a : ℕ) → AreBytes c.left → cond there (number (additive_width flags) c) (Ok (0, c)) ≡ Ok (a, d) → AdditiveTaken there flags c a d
additive_by true flags c d a h e = let n = number_takes (additive_width flags) c d a h e in record { taken = n.taken; fits = n.below }
additive_by false flags c d a h e =
    let pair : (0, c) ≡ (a, d) = cc in
    let here : AdditiveTaken false flags c 0 c = record { taken = takes_nothing c h; fits = refl } in
    subst (λ (p : ℕ × Cursor). AdditiveTaken false flags c p.0 p.1) pair here

additive_taken : (flags : ℕ) (c d : Cursor) (a : ℕ) → AreBytes c.left → additive_at flags c ≡ Ok (a, d) → AdditiveTaken (has ADDITIVE flags) flags c a d
unfolding additive_at
additive_taken flags c d a h e = additive_by (has ADDITIVE flags) flags c d a h e

-- ---- offsets

record OffsetTaken (source : Source) (c : Cursor) (o : ℤ) (d : Cursor) : Type 0 where
  taken : Takes c (offset_spelling o) d
  fits : OffsetFits source o

chosen_ok : {A : Type 0} (b : Bool) (x y : A) (e : LxRefusal) → cond b (done x) (Err e) ≡ Ok y → (b ≡ true) × (x ≡ y)
chosen_ok true x y e h = (refl, cc)
chosen_ok false x y e h = absurd cc

word_fits : (source : Source) (w : ℕ) → w < 2 ^ 16 → reaches_page source w ≡ true → OffsetFits source (cast_signed w16 w)
word_fits source w lt h = elim (or_cases (ltb w PAGE_SIZE) (ltb (2 ^ 16) (w + source_size source)) h) [
  | inl low ↦
      let below : w < PAGE_SIZE = ltb-true w PAGE_SIZE low in
      subst (λ (z : ℤ). OffsetFits source z) (sym (to_z_pos w16 {n = w} (omega arith))) below
  | inr high ↦
      let above : 2 ^ 16 < w + source_size source = ltb-true (2 ^ 16) (w + source_size source) high in
      let small = size_small source in
      let k = 2 ^ 16 - w - 1 in
      let is : 2 ^ 16 - suc k ≡ w = omega arith in
      let fits : k + 1 < source_size source = omega arith in
      let back : cast_signed w16 (2 ^ 16 - suc k) ≡ negsuc k = to_z-neg w16 k (omega arith) in
      subst (λ (z : ℤ). OffsetFits source z) (sym back ∙ ap (λ (x : ℕ). cast_signed w16 x) is) fits
]

offset_taken : (source : Source) (c d : Cursor) (o : ℤ) → AreBytes c.left → offset_at source c ≡ Ok (o, d) → OffsetTaken source c o d
offset_taken source c d o h e =
    let first = bind_ok (number 2 c) (λ w. cond (reaches_page source w.0) (done (cast_signed w16 w.0, w.1)) (Err (fault kinds.Straddle c.at))) (o, d) e in
    let w = first.0 in
    let n = number_takes 2 c w.1 w.0 h first.1 in
    let choice = chosen_ok (reaches_page source w.0) (cast_signed w16 w.0, w.1) (o, d) (fault kinds.Straddle c.at) first.2 in
    let below : w.0 < 2 ^ 16 = n.below in
    let back : cast_unsigned w16 (cast_signed w16 w.0) ≡ w.0 = of_z-to_z w16 w.0 below in
    let here : OffsetTaken source c (cast_signed w16 w.0) w.1 = record {
      taken = subst (λ (x : ℕ). Takes c (little_bytes 2 x) w.1) (sym back) n.taken;
      fits = word_fits source w.0 below choice.0;
    } in
    subst (λ (p : ℤ × Cursor). OffsetTaken source c p.0 p.1) choice.1 here

record OffsetsTaken (n : ℕ) (source : Source) (c : Cursor) (os : List ℤ) (d : Cursor) : Type 0 where
  taken : Takes c (flat_map offset_spelling os) d
  fits : Each (OffsetFits source) os
  len : length os ≡ n

offsets_taken : (n : ℕ) (source : Source) (c d : Cursor) (os : List ℤ) → AreBytes c.left → offsets_at n source c ≡ Ok (os, d) → OffsetsTaken n source c os d
unfolding offsets_at
offsets_taken zero source c d os h e =
    let pair : ([], c) ≡ (os, d) = cc in
    let here : OffsetsTaken 0 source c [] c = record { taken = takes_nothing c h; fits = tt; len = refl } in
    subst (λ (p : List ℤ × Cursor). OffsetsTaken 0 source c p.0 p.1) pair here
offsets_taken (suc n) source c d os h e =
    let first = bind_ok (offset_at source c) (λ o. offsets_at n source o.1 >>= λ others. done (o.0 ∷ others.0, others.1)) (os, d) e in
    let o = first.0 in
    let a = offset_taken source c o.1 o.0 h first.1 in
    let second = bind_ok (offsets_at n source o.1) (λ others. done (o.0 ∷ others.0, others.1)) (os, d) first.2 in
    let others = second.0 in
    let b = offsets_taken n source o.1 others.1 others.0 a.taken.rest second.1 in
    let pair : (o.0 ∷ others.0, others.1) ≡ (os, d) = cc in
    let here : OffsetsTaken (suc n) source c (o.0 ∷ others.0) others.1 = record {
      taken = Takes-then c o.1 others.1 (offset_spelling o.0) (flat_map offset_spelling others.0) a.taken b.taken;
      fits = (a.fits, b.fits);
      len = ap suc b.len;
    } in
    subst (λ (p : List ℤ × Cursor). OffsetsTaken (suc n) source c p.0 p.1) pair here

-- ---- one source, and a list

record BodyTaken (listed : Bool) (kind : SourceKind) (flags : ℕ) (c : Cursor) (fixes : List Fix) (d : Cursor) : Type 0 where
  target : FixTarget
  additive : ℕ
  offsets : List ℤ
  target_fits : TargetFits kind.source flags target
  code : flags % 4 ≡ target_code target
  additive_fits : AdditiveFits (has ADDITIVE flags) flags additive
  offsets_fit : Each (OffsetFits kind.source) offsets
  count : CountFits listed offsets
  means : fixes ≡ fixes_at_offsets kind target additive offsets
  taken : Takes c (offsets_spelling listed (record { kind = kind; sizes = sizes_from flags; target = target; additive = additive; offsets = offsets }) flags) d

abbrev fixes_read : SourceKind → FixTarget → ℕ → List ℤ → Cursor → Read (List Fix)
fixes_read kind t a os c = Ok (fixes_at_offsets kind t a os, c)

kind_small : (flags : ℕ) → flags % 4 < 4
kind_small flags = omega arith

single_taken : (kind : SourceKind) (flags : ℕ) (c d : Cursor) (fixes : List Fix) → AreBytes c.left → single_at kind flags c ≡ Ok (fixes, d) → BodyTaken false kind flags c fixes d
unfolding single_at
single_taken kind flags c d fixes h e =
    let source = kind.source in
    let first = bind_ok (offset_at source c) (λ o. target_at source flags o.1 >>= λ t. additive_at flags t.1 >>= λ a. fixes_read kind t.0 a.0 (o.0 ∷ []) a.1) (fixes, d) e in
    let o = first.0 in
    let offset = offset_taken source c o.1 o.0 h first.1 in
    let second = bind_ok (target_at source flags o.1) (λ t. additive_at flags t.1 >>= λ a. fixes_read kind t.0 a.0 (o.0 ∷ []) a.1) (fixes, d) first.2 in
    let t = second.0 in
    let target = target_taken (flags % 4) source flags o.1 t.1 t.0 refl (kind_small flags) offset.taken.rest second.1 in
    let third = bind_ok (additive_at flags t.1) (λ a. fixes_read kind t.0 a.0 (o.0 ∷ []) a.1) (fixes, d) second.2 in
    let a = third.0 in
    let additive = additive_taken flags t.1 a.1 a.0 target.taken.rest third.1 in
    let pair : (fixes_at_offsets kind t.0 a.0 (o.0 ∷ []), a.1) ≡ (fixes, d) = cc in
    let fields = Takes-then o.1 t.1 a.1 (target_spelling source flags t.0) (additive_spelling flags a.0) target.taken additive.taken in
    let here : BodyTaken false kind flags c (fixes_at_offsets kind t.0 a.0 (o.0 ∷ [])) a.1 = record {
      target = t.0;
      additive = a.0;
      offsets = o.0 ∷ [];
      target_fits = target.fits;
      code = target.code;
      additive_fits = additive.fits;
      offsets_fit = (offset.fits, tt);
      count = refl;
      means = refl;
      taken = Takes-then c o.1 a.1 (offset_spelling o.0) (target_spelling source flags t.0 ++ additive_spelling flags a.0) offset.taken fields;
    } in
    subst (λ (p : List Fix × Cursor). BodyTaken false kind flags c p.0 p.1) pair here

pub byte_taken : (c d : Cursor) (x : ℕ) → x < 256 ^ 1 → Takes c (little_bytes 1 x) d → Takes c (x ∷ []) d
byte_taken c d x lt h = subst (λ (t : List ℕ). Takes c t d) (byte_spelled x lt) h

list_taken : (kind : SourceKind) (flags : ℕ) (c d : Cursor) (fixes : List Fix) → AreBytes c.left → list_at kind flags c ≡ Ok (fixes, d) → BodyTaken true kind flags c fixes d
unfolding list_at
list_taken kind flags c d fixes h e =
    let source = kind.source in
    let first = bind_ok (number 1 c) (λ n. target_at source flags n.1 >>= λ t. additive_at flags t.1 >>= λ a. offsets_at n.0 source a.1 >>= λ o. fixes_read kind t.0 a.0 o.0 o.1) (fixes, d) e in
    let n = first.0 in
    let count = number_takes 1 c n.1 n.0 h first.1 in
    let second = bind_ok (target_at source flags n.1) (λ t. additive_at flags t.1 >>= λ a. offsets_at n.0 source a.1 >>= λ o. fixes_read kind t.0 a.0 o.0 o.1) (fixes, d) first.2 in
    let t = second.0 in
    let target = target_taken (flags % 4) source flags n.1 t.1 t.0 refl (kind_small flags) count.taken.rest second.1 in
    let third = bind_ok (additive_at flags t.1) (λ a. offsets_at n.0 source a.1 >>= λ o. fixes_read kind t.0 a.0 o.0 o.1) (fixes, d) second.2 in
    let a = third.0 in
    let additive = additive_taken flags t.1 a.1 a.0 target.taken.rest third.1 in
    let fourth = bind_ok (offsets_at n.0 source a.1) (λ o. fixes_read kind t.0 a.0 o.0 o.1) (fixes, d) third.2 in
    let o = fourth.0 in
    let offsets = offsets_taken n.0 source a.1 o.1 o.0 additive.taken.rest fourth.1 in
    let pair : (fixes_at_offsets kind t.0 a.0 o.0, o.1) ≡ (fixes, d) = cc in
    let byte = byte_taken c n.1 n.0 count.below count.taken in
    let tail = Takes-then t.1 a.1 o.1 (additive_spelling flags a.0) (flat_map offset_spelling o.0) additive.taken offsets.taken in
    let more = Takes-then n.1 t.1 o.1 (target_spelling source flags t.0) (additive_spelling flags a.0 ++ flat_map offset_spelling o.0) target.taken tail in
    let all = Takes-then c n.1 o.1 (n.0 ∷ []) (target_spelling source flags t.0 ++ (additive_spelling flags a.0 ++ flat_map offset_spelling o.0)) byte more in
    let grouped = subst (λ (x : List ℕ). Takes c x o.1) (regroup_list n.0 (target_spelling source flags t.0) (additive_spelling flags a.0) (flat_map offset_spelling o.0)) all in
    let here : BodyTaken true kind flags c (fixes_at_offsets kind t.0 a.0 o.0) o.1 = record {
      target = t.0;
      additive = a.0;
      offsets = o.0;
      target_fits = target.fits;
      code = target.code;
      additive_fits = additive.fits;
      offsets_fit = offsets.fits;
      count = subst (λ (k : ℕ). k < 256) (sym offsets.len) count.below;
      means = refl;
      taken = subst (λ (k : ℕ). Takes c ((k ∷ (target_spelling source flags t.0 ++ additive_spelling flags a.0)) ++ flat_map offset_spelling o.0) o.1) (sym offsets.len) grouped;
    } in
    subst (λ (p : List Fix × Cursor). BodyTaken true kind flags c p.0 p.1) pair here

body_taken : (listed : Bool) (kind : SourceKind) (flags : ℕ) (c d : Cursor) (fixes : List Fix) →
    AreBytes c.left → cond listed (list_at kind flags c) (single_at kind flags c) ≡ Ok (fixes, d) → BodyTaken listed kind flags c fixes d
body_taken true kind flags c d fixes h e = list_taken kind flags c d fixes h e
body_taken false kind flags c d fixes h e = single_taken kind flags c d fixes h e

-- ---- a record

pub record RecordTaken (c : Cursor) (fixes : List Fix) (d : Cursor) : Type 0 where
  pub written : Written
  pub fits : RecordFits written
  pub means : fixes ≡ fixes_written written
  pub taken : Takes c (record_spelling written) d

whole : (byte flags : ℕ) (kind : SourceKind) (c b f d : Cursor) (fixes : List Fix) → KindTaken byte kind → flags < 256 → has CHAIN flags ≡ false →
    Takes c (byte ∷ []) b → Takes b (flags ∷ []) f → BodyTaken kind.listed kind flags f fixes d → RecordTaken c fixes d
whole byte flags kind c b f d fixes k small chain first second body =
    let w : Written = record { kind = kind; sizes = sizes_from flags; target = body.target; additive = body.additive; offsets = body.offsets } in
    let same : flags_byte w ≡ flags = ap (λ (n : ℕ). flags_of (sizes_from flags) n) (sym body.code) ∙ flags_spelled flags small chain in
    let bytes = offsets_spelling kind.listed w flags in
    let all : Takes c (byte ∷ flags ∷ bytes) d = Takes-then c b d (byte ∷ []) (flags ∷ bytes) first (Takes-then b f d (flags ∷ []) bytes second body.taken) in
    let with_source : Takes c (source_byte kind ∷ flags ∷ bytes) d = subst (λ (x : ℕ). Takes c (x ∷ flags ∷ bytes) d) (sym k.spelled) all in
    record {
      written = w;
      fits = record {
        alias = k.alias;
        target = subst (λ (x : ℕ). TargetFits kind.source x body.target) (sym same) body.target_fits;
        additive = subst (λ (x : ℕ). AdditiveFits (has ADDITIVE flags) x body.additive) (sym same) body.additive_fits;
        count = body.count;
        offsets = body.offsets_fit;
      };
      means = body.means;
      taken = subst (λ (x : ℕ). Takes c (source_byte kind ∷ x ∷ offsets_spelling kind.listed w x) d) (sym same) with_source;
    }

by_kind : (at byte : ℕ) (c b d : Cursor) (fixes : List Fix) (o : Option SourceKind) → byte < 256 → Takes c (byte ∷ []) b → source_of_byte byte ≡ o → after_source at o b ≡ Ok (fixes, d) → RecordTaken c fixes d
by_kind at byte c b d fixes None lt first is e = absurd cc
by_kind at byte c b d fixes (Some kind) lt first is e =
    let wrong = fault kinds.BadSource at in
    let step = bind_ok (number 1 b) (λ flags. cond (has CHAIN flags.0) (Err wrong) (cond kind.listed (list_at kind flags.0 flags.1) (single_at kind flags.0 flags.1))) (fixes, d) e in
    let flags = step.0 in
    let taken = number_takes 1 b flags.1 flags.0 first.rest step.1 in
    let guard = guard_ok (has CHAIN flags.0) wrong (cond kind.listed (list_at kind flags.0 flags.1) (single_at kind flags.0 flags.1)) (fixes, d) step.2 in
    let body = body_taken kind.listed kind flags.0 flags.1 d fixes taken.taken.rest guard.1 in
    whole byte flags.0 kind c b flags.1 d fixes (kind_taken byte kind lt is) taken.below guard.0 first (byte_taken b flags.1 flags.0 taken.below taken.taken) body

pub record_taken : (c d : Cursor) (fixes : List Fix) → AreBytes c.left → record_at c ≡ Ok (fixes, d) → RecordTaken c fixes d
unfolding record_at
record_taken c d fixes h e =
    let step = bind_ok (number 1 c) (λ s. after_source c.at (source_of_byte s.0) s.1) (fixes, d) e in
    let s = step.0 in
    let taken = number_takes 1 c s.1 s.0 h step.1 in
    by_kind c.at s.0 c s.1 d fixes (source_of_byte s.0) taken.below (byte_taken c s.1 s.0 taken.below taken.taken) refl step.2
