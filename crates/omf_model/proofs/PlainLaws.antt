-- Indices of segments that are no debug segments: what is read is spelled so and good, and what is so is read.
use Rattle.std.specs.Prelude.{IsSomeAnd, slice_get, not, unwrap_or, option_map}
use Rattle.obj_types.specs.declared.object.Seg.{Seg}
use Rattle.obj_types.specs.declared.refusal.OmfRefusal.TheVariants.{BadIndex}
use Rattle.obj_types.specs.Items.{item}
use Rattle.obj_types.specs.Whole.{IsPlainSeg}
use Rattle.omf_model.specs.Items.{is_debug_seg}
use Rattle.std.proofs.Common.{◌≡◌, ◌≢◌, ℕ, zero, suc, ◌<◌, ◌≤◌, Bool, true, false, List, [], ◌∷◌, length, Option, Some, None, refl, sym, ap, subst, arith, inl, inr}
use Rattle.std.proofs.lemmas.Bool.{not-true}
use Rattle.lx_bytes.specs.Cursor.{Cursor}
use Rattle.obj_types.specs.declared.parts.ObjParts.{ObjParts}
use Rattle.obj_types.specs.declared.parts.TheConstants.{COMDAT_BASE}
use Rattle.omf_fields.specs.Fields.{checked, is_among, index_at}
use Rattle.omf_fields.specs.Forms.{index}
use Rattle.omf_model.specs.ReadNames.{checked_plain, plain_seg_at, plain_seg_or_zero}
use Rattle.omf_fields.proofs.SpanLaws.{Spans, Sound, Complete, ok_is, bind_ok, step, checked_step}
use Rattle.omf_fields.proofs.FieldLaws.{Free, FromOne, guard_so, among, is_among_index, among_or_zero, is_among_zero, index_sound, index_complete}

-- ---- an index has 15 bits

pub index_small : (i : ℕ) (bytes : List ℕ) → index i bytes → i ≤ COMDAT_BASE
index_small i bytes h =
    elim h [
      | inl short ↦ omega (arith, short.0)
      | inr long ↦ omega (arith, long.0)
    ]

-- ---- segments that are no debug segments

pub some_at : {A : Type 0} (xs : List A) (i : ℕ) → i < length xs → (x : A) × (slice_get xs i ≡ Some x)
some_at [] i lt = absurd (omega (arith, lt))
some_at (x ∷ xs) zero lt = (x, refl)
some_at (x ∷ xs) (suc i) lt = some_at xs i (omega (arith, lt))

in_bounds : {A : Type 0} (xs : List A) (i : ℕ) (P : A → Type 0) → IsSomeAnd (slice_get xs i) P → i < length xs
in_bounds [] i P h = absurd h
in_bounds (x ∷ xs) zero P h = omega arith
in_bounds (x ∷ xs) (suc i) P h = omega (arith, in_bounds xs i P h)

abbrev debug_of : Option Seg → Bool
debug_of o = unwrap_or (option_map (λ (s : Seg). s.debug) o) false

abbrev NoDebug : Option Seg → Type 0
NoDebug o = IsSomeAnd o (λ (s : Seg). s.debug ≡ false)

no_debug : (o : Option Seg) (s : Seg) → o ≡ Some s → debug_of o ≡ false → NoDebug o
no_debug None s e h = absurd cc
no_debug (Some r) s e h = h

is_no_debug : (o : Option Seg) → NoDebug o → debug_of o ≡ false
is_no_debug None h = absurd h
is_no_debug (Some s) h = h

pub plain_from : (segs : List Seg) (i : ℕ) → FromOne (length segs) i → is_debug_seg segs i ≡ false → IsSomeAnd (item segs i) (λ (s : Seg). s.debug ≡ false)
plain_from segs zero h d = absurd (omega (arith, h.0))
plain_from segs (suc i) h d =
    let s = some_at segs i (omega (arith, h.1)) in
    no_debug (slice_get segs i) s.0 s.1 d

pub plain_index : (segs : List Seg) (i : ℕ) → IsSomeAnd (item segs i) (λ (s : Seg). s.debug ≡ false) → FromOne (length segs) i
plain_index segs zero h = absurd h
plain_index segs (suc i) h = (omega arith, omega (arith, in_bounds segs i (λ (s : Seg). s.debug ≡ false) h))

pub plain_not_debug : (segs : List Seg) (i : ℕ) → IsSomeAnd (item segs i) (λ (s : Seg). s.debug ≡ false) → is_debug_seg segs i ≡ false
plain_not_debug segs i h = is_no_debug (item segs i) h

pub plain_sound : (p : ObjParts) → Sound (plain_seg_at p) index (IsPlainSeg p.module)
unfolding plain_seg_at
plain_sound p c x d bytes e =
    step index_at index Free index_sound c (checked_plain false p c.at) (x, d) bytes e λ i b t free bytes' e1.
    let a = bind_ok (checked false (length p.module.segs) c.at (i, b)) _ (x, d) e1 in
    let g = guard_so (is_among false (length p.module.segs) i) (BadIndex c.at i (length p.module.segs)) (i, b) a.0 a.1 in
    let h = checked_step (not (is_debug_seg p.module.segs a.0.0)) _ _ (x, d) a.2 in
    let same : a.0.0 ≡ i = ap (λ (q : ℕ × Cursor). q.0) (sym g.1) in
    let spans : Spans (index a.0.0) c a.0.1 = subst (λ (q : ℕ × Cursor). Spans (index q.0) c q.1) g.1 t in
    let range : FromOne (length p.module.segs) a.0.0 = subst (λ (k : ℕ). FromOne (length p.module.segs) k) (sym same) (among _ i g.0) in
    subst (λ (q : ℕ × Cursor). Spans (index q.0) c q.1 × IsPlainSeg p.module q.0) (ok_is a.0 (x, d) h.1)
    (spans, plain_from p.module.segs a.0.0 range (not-true _ h.0))

pub plain_complete : (p : ObjParts) → Complete (plain_seg_at p) index (IsPlainSeg p.module)
unfolding plain_seg_at
plain_complete p c x d t ok =
    let range = plain_index p.module.segs x ok in
    rw (index_complete c x d t tt, is_among_index _ x range.0 range.1, plain_not_debug p.module.segs x ok) refl

-- ---- a segment's index, or 0

abbrev pub PlainOrZero : ObjParts → ℕ → Type 0
PlainOrZero p i = i ≢ 0 → IsPlainSeg p.module i

or_zero_from : (segs : List Seg) (i : ℕ) → i ≤ length segs → is_debug_seg segs i ≡ false → i ≢ 0 → IsSomeAnd (item segs i) (λ (s : Seg). s.debug ≡ false)
or_zero_from segs zero range h some = absurd (some refl)
or_zero_from segs (suc i) range h some = plain_from segs (suc i) (omega arith, range) h

or_zero_range : (segs : List Seg) (i : ℕ) → (i ≢ 0 → IsSomeAnd (item segs i) (λ (s : Seg). s.debug ≡ false)) → (i ≤ length segs) × (is_debug_seg segs i ≡ false)
or_zero_range segs zero h = (omega arith, refl)
or_zero_range segs (suc i) h =
    let plain = h (λ none. omega (arith, none)) in
    ((plain_index segs (suc i) plain).1, plain_not_debug segs (suc i) plain)

pub or_zero_plain_sound : (p : ObjParts) → Sound (plain_seg_or_zero p) index (PlainOrZero p)
unfolding plain_seg_or_zero
or_zero_plain_sound p c x d bytes e =
    step index_at index Free index_sound c (checked_plain true p c.at) (x, d) bytes e λ i b t free bytes' e1.
    let a = bind_ok (checked true (length p.module.segs) c.at (i, b)) _ (x, d) e1 in
    let g = guard_so (is_among true (length p.module.segs) i) (BadIndex c.at i (length p.module.segs)) (i, b) a.0 a.1 in
    let h = checked_step (not (is_debug_seg p.module.segs a.0.0)) _ _ (x, d) a.2 in
    let same : a.0.0 ≡ i = ap (λ (q : ℕ × Cursor). q.0) (sym g.1) in
    let spans : Spans (index a.0.0) c a.0.1 = subst (λ (q : ℕ × Cursor). Spans (index q.0) c q.1) g.1 t in
    let range : a.0.0 ≤ length p.module.segs = subst (λ (k : ℕ). k ≤ length p.module.segs) (sym same) (among_or_zero _ i g.0) in
    subst (λ (q : ℕ × Cursor). Spans (index q.0) c q.1 × PlainOrZero p q.0) (ok_is a.0 (x, d) h.1)
    (spans, or_zero_from p.module.segs a.0.0 range (not-true _ h.0))

pub or_zero_plain_complete : (p : ObjParts) → Complete (plain_seg_or_zero p) index (PlainOrZero p)
unfolding plain_seg_or_zero
or_zero_plain_complete p c x d t ok =
    let range = or_zero_range p.module.segs x ok in
    rw (index_complete c x d t tt, is_among_zero _ x range.0, range.1) refl
