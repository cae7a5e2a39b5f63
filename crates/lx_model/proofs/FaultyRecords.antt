-- Where fixup records are wrong.
use Rattle.std.proofs.Common.{◌≡◌, ℕ, zero, suc, ◌+◌, ◌%◌, ◌⊎◌, Bool, true, false, cond, eqb, Option, Some, None, List, [], ◌∷◌, ◌++◌, length, Ok, Err, ℤ, refl, sym, subst, ap, ◌∙◌, arith, inl, inr}
use Rattle.std.specs.Int.{w16, cast_signed}
use Rattle.lx_bytes.specs.Cursor.{Cursor, advance}
use Rattle.lx_bytes.specs.LittleEndian.{AreBytes}
use Rattle.lx_types.specs.declared.refusal.LxRefusal.{LxRefusal}
use Rattle.lx_types.specs.declared.refusal.LxKind.TheVariants as kinds
use Rattle.lx_types.specs.declared.fix.Source.{Source}
use Rattle.lx_types.specs.declared.fix.Source.TheVariants.{Byte, Sel, Far16, Off16, Far32, Off32, Self32}
use Rattle.lx_types.specs.declared.fix.FixTarget.{FixTarget}
use Rattle.lx_types.specs.declared.fix.FixTarget.TheVariants as targets
use Rattle.lx_types.specs.declared.fix.Fix.{Fix}
use Rattle.lx_model.specs.Reading.{fault, cursor, number, Read, ◌>>=◌, ends}
use Rattle.lx_model.specs.Sources.{SourceKind, source_of_byte}
use Rattle.lx_model.specs.RecordFields.{has, number_width, target_width, ordinal_width, additive_width, internal_at, target_of_kind, target_at, additive_at, reaches_page, offset_at, offsets_at}
use Rattle.lx_model.specs.declared.record_fields.TheConstants.{ADDITIVE, CHAIN}
use Rattle.lx_model.specs.Records.{Record, fixes_at_offsets, single_at, list_at, after_source, record_at, next_record}
use Rattle.lx_model.specs.RecordSpelling.{Written, record_spelling, fixes_written, RecordFits}
use Rattle.lx_model.specs.Faults.{FieldThen, FieldsThen, IsCutAmong, internal_widths, target_widths, additive_widths, field_widths, OffsetThen, OffsetsThen, WrongFields, WrongAfterSource, WrongRecord}
use Rattle.lx_model.proofs.FaultsAfter.{Table}
use Rattle.lx_model.proofs.FaultyFields.{Faults, refused, fails_as, good_ends, field_faults, regroup}
use Rattle.lx_model.proofs.NamesRead.{not_zero}
use Rattle.lx_model.proofs.PagesRead.{next_reads}
use Rattle.lx_model.proofs.RecordsRead.{record_reads}
use Rattle.lx_model.proofs.RecordsTaken.{record_taken}
use Rattle.lx_model.proofs.Shortening.{record_shortens}
use Rattle.lx_model.proofs.Steps.{bind_ok, done, never, other}
use Rattle.lx_model.proofs.Takes.{Takes}
use Rattle.lx_model.proofs.TablesTaken.{positive}

-- ---- fields, and what is read after them

-- what is read after a value fails exactly where this is wrong
pub record After {A : Type 0} (f : A × Cursor → Read (List Fix)) (W : Cursor → LxRefusal → Type 0) : Type 0 where
  pub to : (x : A) (d : Cursor) (e : LxRefusal) → f (x, d) ≡ Err e → W d e
  pub from : (x : A) (d : Cursor) (e : LxRefusal) → W d e → f (x, d) ≡ Err e

-- the same reading, grouped in the other way
abbrev Same : {A : Type 0} → (Cursor → Read A) → (Cursor → Read A) → Type 0
Same r s = (c : Cursor) → r c ≡ s c

same_faults : {A : Type 0} (r s : Cursor → Read A) (W : Cursor → LxRefusal → Type 0) → Same r s → Faults s W → Faults r W
same_faults r s W same f = record { fails = λ c e is. f.fails c e (sym (same c) ∙ is); failed = λ c e wrong. same c ∙ f.failed c e wrong }

one_through : {A : Type 0} (n : ℕ) (g : ℕ → A) (f : A × Cursor → Read (List Fix)) (W : Cursor → LxRefusal → Type 0) →
    After f W → Faults (λ c. (number n c >>= λ x. done (g x.0, x.1)) >>= f) (λ c e. FieldsThen (n ∷ []) c e (λ d. W d e))
one_through n g f W b =
    same_faults (λ c. (number n c >>= λ x. done (g x.0, x.1)) >>= f) (λ c. number n c >>= λ x. f (g x.0, x.1)) (λ c e. FieldsThen (n ∷ []) c e (λ d. W d e)) (λ c. regroup (number n c) (λ x. done (g x.0, x.1)) f)
    (field_faults n (λ c x d. f (g x, d)) (λ c e x d. W d e) (λ c x e d is. b.to (g x) d e is) (λ c x e d wrong. b.from (g x) d e wrong))

two_through : {A : Type 0} (m n : ℕ) (g : ℕ → ℕ → A) (f : A × Cursor → Read (List Fix)) (W : Cursor → LxRefusal → Type 0) → After f W →
    Faults (λ c. (number m c >>= λ x. number n x.1 >>= λ y. done (g x.0 y.0, y.1)) >>= f) (λ c e. FieldsThen (m ∷ n ∷ []) c e (λ d. W d e))
two_through m n g f W b =
    same_faults (λ c. (number m c >>= λ x. number n x.1 >>= λ y. done (g x.0 y.0, y.1)) >>= f)
    (λ c. number m c >>= λ x. (number n x.1 >>= λ y. done (g x.0 y.0, y.1)) >>= f) (λ c e. FieldsThen (m ∷ n ∷ []) c e (λ d. W d e))
    (λ c. regroup (number m c) (λ x. number n x.1 >>= λ y. done (g x.0 y.0, y.1)) f)
    (field_faults m (λ c x d. (number n d >>= λ y. done (g x y.0, y.1)) >>= f) (λ c e x d. FieldsThen (n ∷ []) d e (λ d. W d e))
    (λ c x e d is. (one_through n (g x) f W b).fails d e is) (λ c x e d wrong. (one_through n (g x) f W b).failed d e wrong))

-- ---- targets and additives

abbrev TargetThen : ℕ → Source → ℕ → (Cursor → LxRefusal → Type 0) → Cursor → LxRefusal → Type 0
TargetThen kind source flags W c e = FieldsThen (target_widths kind source flags) c e (λ d. W d e)

internal_faults : (source : Source) (flags : ℕ) (f : FixTarget × Cursor → Read (List Fix)) (W : Cursor → LxRefusal → Type 0) →
    After f W → Faults (λ c. internal_at source flags c >>= f) (λ c e. FieldsThen (internal_widths source flags) c e (λ d. W d e))
unfolding internal_at
internal_faults Sel flags f W b = one_through (number_width flags) (λ object. targets.Internal object 0) f W b
internal_faults Byte flags f W b = two_through (number_width flags) (target_width flags) (λ object offset. targets.Internal object offset) f W b
internal_faults Far16 flags f W b = two_through (number_width flags) (target_width flags) (λ object offset. targets.Internal object offset) f W b
internal_faults Off16 flags f W b = two_through (number_width flags) (target_width flags) (λ object offset. targets.Internal object offset) f W b
internal_faults Far32 flags f W b = two_through (number_width flags) (target_width flags) (λ object offset. targets.Internal object offset) f W b
internal_faults Off32 flags f W b = two_through (number_width flags) (target_width flags) (λ object offset. targets.Internal object offset) f W b
internal_faults Self32 flags f W b = two_through (number_width flags) (target_width flags) (λ object offset. targets.Internal object offset) f W b

target_faults : (kind : ℕ) (source : Source) (flags : ℕ) (f : FixTarget × Cursor → Read (List Fix)) (W : Cursor → LxRefusal → Type 0) →
    After f W → Faults (λ c. target_of_kind kind source flags c >>= f) (TargetThen kind source flags W)
unfolding target_of_kind
target_faults zero source flags f W b = internal_faults source flags f W b
target_faults (suc zero) source flags f W b = two_through (number_width flags) (ordinal_width flags) (λ import ordinal. targets.Ordinal import ordinal) f W b
target_faults (suc (suc zero)) source flags f W b = two_through (number_width flags) (target_width flags) (λ import name. targets.Named import name) f W b
target_faults (suc (suc (suc k))) source flags f W b = one_through (number_width flags) (λ ordinal. targets.Own ordinal) f W b

additive_by : (there : Bool) (flags : ℕ) (f : ℕ × Cursor → Read (List Fix)) (W : Cursor → LxRefusal → Type 0) → After f W →
    Faults (λ c. cond there (number (additive_width flags) c) (done (0, c)) >>= f) (λ c e. FieldsThen (cond there (additive_width flags ∷ []) []) c e (λ d. W d e))
additive_by true flags f W b = field_faults (additive_width flags) (λ c x d. f (x, d)) (λ c e x d. W d e) (λ c x e d is. b.to x d e is) (λ c x e d wrong. b.from x d e wrong)
additive_by false flags f W b = record { fails = λ c e is. b.to 0 c e is; failed = λ c e wrong. b.from 0 c e wrong }

additive_faults : (flags : ℕ) (f : ℕ × Cursor → Read (List Fix)) (W : Cursor → LxRefusal → Type 0) → After f W → Faults (λ c. additive_at flags c >>= f) (λ c e. FieldsThen (additive_widths flags) c e (λ d. W d e))
unfolding additive_at
additive_faults flags f W b = additive_by (has ADDITIVE flags) flags f W b

-- both, one after the other
joined : (ns ms : List ℕ) (c : Cursor) (e : LxRefusal) (W : Cursor → Type 0) → FieldsThen ns c e (λ d. FieldsThen ms d e W) → FieldsThen (ns ++ ms) c e W
joined [] ms c e W h = h
joined (n ∷ ns) ms c e W (inl cut) = inl cut
joined (n ∷ ns) ms c e W (inr there) = inr (there.0, joined ns ms (advance n c) e W there.1)

parted : (ns ms : List ℕ) (c : Cursor) (e : LxRefusal) (W : Cursor → Type 0) → FieldsThen (ns ++ ms) c e W → FieldsThen ns c e (λ d. FieldsThen ms d e W)
parted [] ms c e W h = h
parted (n ∷ ns) ms c e W (inl cut) = inl cut
parted (n ∷ ns) ms c e W (inr there) = inr (there.0, parted ns ms (advance n c) e W there.1)

pub fields_faults : (source : Source) (flags : ℕ) (f : FixTarget → ℕ × Cursor → Read (List Fix)) (W : Cursor → LxRefusal → Type 0) → ((target : FixTarget) → After (f target) W) →
    Faults (λ c. target_at source flags c >>= λ target. additive_at flags target.1 >>= f target.0) (λ c e. FieldsThen (field_widths source flags) c e (λ d. W d e))
fields_faults source flags f W each =
    let V : Cursor → LxRefusal → Type 0 = λ d e. FieldsThen (additive_widths flags) d e (λ o. W o e) in
    let after : After (λ target. additive_at flags target.1 >>= f target.0) V = record {
      to = λ target d e is. (additive_faults flags (f target) W (each target)).fails d e is;
      from = λ target d e wrong. (additive_faults flags (f target) W (each target)).failed d e wrong;
    } in
    let all = target_faults (flags % 4) source flags (λ target. additive_at flags target.1 >>= f target.0) V after in
    record {
      fails = λ c e is. joined (target_widths (flags % 4) source flags) (additive_widths flags) c e (λ d. W d e) (all.fails c e is);
      failed = λ c e wrong. all.failed c e (parted (target_widths (flags % 4) source flags) (additive_widths flags) c e (λ d. W d e) wrong);
    }

-- ---- offsets

abbrev Straddles : Source → Cursor → LxRefusal → ℕ → (Cursor → Type 0) → Cursor → Type 0
Straddles source c e word W d = ((reaches_page source word ≡ false) × (e ≡ fault kinds.Straddle c.at)) ⊎ ((reaches_page source word ≡ true) × W d)

abbrev placed : Bool → ℕ → ℕ → Cursor → Read ℤ
placed there at word d = cond there (Ok (cast_signed w16 word, d)) (Err (fault kinds.Straddle at))

placed_to : {A : Type 0} (there : Bool) (at word : ℕ) (d : Cursor) (f : ℤ × Cursor → Read A) (e : LxRefusal) (W : Type 0) → (f (cast_signed w16 word, d) ≡ Err e → W) → (placed there at word d >>= f) ≡ Err e →
    ((there ≡ false) × (e ≡ fault kinds.Straddle at)) ⊎ ((there ≡ true) × W)
placed_to true at word d f e W h is = inr (refl, h is)
placed_to false at word d f e W h is = inl (refl, (let same : fault kinds.Straddle at ≡ e = cc in sym same))

placed_from : {A : Type 0} (there : Bool) (at word : ℕ) (d : Cursor) (f : ℤ × Cursor → Read A) (e : LxRefusal) (W : Type 0) →
    (W → f (cast_signed w16 word, d) ≡ Err e) → ((there ≡ false) × (e ≡ fault kinds.Straddle at)) ⊎ ((there ≡ true) × W) →
    (placed there at word d >>= f) ≡ Err e
placed_from there at word d f e W h (inl wrong) = let outside = wrong.0 in let same = wrong.1 in rw (outside, same) refl
placed_from there at word d f e W h (inr right) = let inside = right.0 in rw inside (h right.1)

-- an offset, and what is read after it
offset_faults : {A : Type 0} (source : Source) (f : ℤ × Cursor → Read A) (W : Cursor → LxRefusal → Type 0) →
    ((x : ℤ) (d : Cursor) (e : LxRefusal) → f (x, d) ≡ Err e → W d e) → ((x : ℤ) (d : Cursor) (e : LxRefusal) → W d e → f (x, d) ≡ Err e) →
    Faults (λ c. offset_at source c >>= f) (λ c e. OffsetThen source c e (λ d. W d e))
offset_faults {A} source f W to from =
    let word_faults : Faults (λ c. number 2 c >>= λ word. placed (reaches_page source word.0) c.at word.0 word.1 >>= f) (λ c e. OffsetThen source c e (λ d. W d e)) =
    field_faults 2 (λ c word d. placed (reaches_page source word) c.at word d >>= f) (λ c e word d. Straddles source c e word (λ o. W o e) d)
    (λ c word e d is. placed_to (reaches_page source word) c.at word d f e (W d e) (to (cast_signed w16 word) d e) is)
    (λ c word e d wrong. placed_from (reaches_page source word) c.at word d f e (W d e) (from (cast_signed w16 word) d e) wrong) in
    same_faults (λ c. offset_at source c >>= f) (λ c. number 2 c >>= λ word. placed (reaches_page source word.0) c.at word.0 word.1 >>= f) (λ c e. OffsetThen source c e (λ d. W d e))
    (λ c. regroup (number 2 c) (λ word. placed (reaches_page source word.0) c.at word.0 word.1) f) word_faults

abbrev put_front : ℤ → List ℤ × Cursor → Read (List ℤ)
put_front offset others = done (offset ∷ others.0, others.1)

front_fails : (r : Read (List ℤ)) (offset : ℤ) (e : LxRefusal) → (r >>= put_front offset) ≡ Err e → r ≡ Err e
front_fails (Ok others) offset e is = absurd (good_ends (offset ∷ others.0, others.1) e is)
front_fails (Err x) offset e is = fails_as (put_front offset) x e is

offsets_fault : (n : ℕ) (source : Source) → Faults (offsets_at n source) (λ c e. OffsetsThen n source c e)
unfolding offsets_at
offsets_fault zero source = record { fails = λ c e is. good_ends ([], c) e is; failed = λ c e wrong. absurd wrong }
offsets_fault (suc n) source =
    let others = offsets_fault n source in
    offset_faults source (λ offset. offsets_at n source offset.1 >>= put_front offset.0) (λ d e. OffsetsThen n source d e)
    (λ x d e is. others.fails d e (front_fails (offsets_at n source d) x e is))
    (λ x d e wrong. ap (λ (r : Read (List ℤ)). r >>= put_front x) (others.failed d e wrong))

-- ---- records

abbrev one_source : SourceKind → ℤ → FixTarget → ℕ × Cursor → Read (List Fix)
one_source kind offset target additive = done (fixes_at_offsets kind target additive.0 (offset ∷ []), additive.1)

single_faults : (kind : SourceKind) (flags : ℕ) → Faults (single_at kind flags) (λ c e. OffsetThen kind.source c e (λ d. IsCutAmong (field_widths kind.source flags) d e))
unfolding single_at
single_faults kind flags =
    let ends : (offset : ℤ) (target : FixTarget) → After (one_source kind offset target) (λ d e. ⊥) = λ offset target. record {
      to = λ x d e is. good_ends (fixes_at_offsets kind target x (offset ∷ []), d) e is;
      from = λ x d e wrong. absurd wrong;
    } in
    let rest : (offset : ℤ) → Faults (λ d. target_at kind.source flags d >>= λ target. additive_at flags target.1 >>= one_source kind offset target.0) (IsCutAmong (field_widths kind.source flags))
    = λ offset. fields_faults kind.source flags (one_source kind offset) (λ d e. ⊥) (ends offset) in
    offset_faults kind.source (λ offset. target_at kind.source flags offset.1 >>= λ target. additive_at flags target.1 >>= one_source kind offset.0 target.0) (IsCutAmong (field_widths kind.source flags))
    (λ offset d e is. (rest offset).fails d e is) (λ offset d e wrong. (rest offset).failed d e wrong)

abbrev of_offsets : SourceKind → FixTarget → ℕ → List ℤ × Cursor → Read (List Fix)
of_offsets kind target additive offsets = done (fixes_at_offsets kind target additive offsets.0, offsets.1)

offsets_fails : (r : Read (List ℤ)) (kind : SourceKind) (target : FixTarget) (additive : ℕ) (e : LxRefusal) → (r >>= of_offsets kind target additive) ≡ Err e → r ≡ Err e
offsets_fails (Ok offsets) kind target additive e is = absurd (good_ends (fixes_at_offsets kind target additive offsets.0, offsets.1) e is)
offsets_fails (Err x) kind target additive e is = fails_as (of_offsets kind target additive) x e is

abbrev listed : SourceKind → ℕ → FixTarget → ℕ × Cursor → Read (List Fix)
listed kind count target additive = offsets_at count kind.source additive.1 >>= of_offsets kind target additive.0

list_faults : (kind : SourceKind) (flags : ℕ) → Faults (list_at kind flags) (λ c e. FieldThen 1 c e (λ count d. FieldsThen (field_widths kind.source flags) d e (λ o. OffsetsThen count kind.source o e)))
unfolding list_at
list_faults kind flags =
    let ends : (count : ℕ) (target : FixTarget) → After (listed kind count target) (λ d e. OffsetsThen count kind.source d e) = λ count target. record {
      to = λ x d e is. (offsets_fault count kind.source).fails d e (offsets_fails (offsets_at count kind.source d) kind target x e is);
      from = λ x d e wrong. ap (λ (r : Read (List ℤ)). r >>= of_offsets kind target x) ((offsets_fault count kind.source).failed d e wrong);
    } in
    let rest : (count : ℕ) → Faults (λ d. target_at kind.source flags d >>= λ target. additive_at flags target.1 >>= listed kind count target.0)
    (λ d e. FieldsThen (field_widths kind.source flags) d e (λ o. OffsetsThen count kind.source o e))
    = λ count. fields_faults kind.source flags (listed kind count) (λ d e. OffsetsThen count kind.source d e) (ends count) in
    field_faults 1 (λ c count d. target_at kind.source flags d >>= λ target. additive_at flags target.1 >>= listed kind count target.0)
    (λ c e count d. FieldsThen (field_widths kind.source flags) d e (λ o. OffsetsThen count kind.source o e))
    (λ c count e d is. (rest count).fails d e is) (λ c count e d wrong. (rest count).failed d e wrong)

-- by whether the source byte says that there is a list
by_listed : (is_list : Bool) (kind : SourceKind) (flags : ℕ) → Faults (λ d. cond is_list (list_at kind flags d) (single_at kind flags d)) (λ d e. WrongFields is_list kind.source flags d e)
by_listed true kind flags = list_faults kind flags
by_listed false kind flags = single_faults kind flags

chain_to : (chain : Bool) (at : ℕ) (rest : Read (List Fix)) (e : LxRefusal) (W : Type 0) →
    (rest ≡ Err e → W) → cond chain (Err (fault kinds.BadSource at)) rest ≡ Err e → ((chain ≡ true) × (e ≡ fault kinds.BadSource at)) ⊎ ((chain ≡ false) × W)
chain_to true at rest e W h is = inl (refl, (let same : fault kinds.BadSource at ≡ e = cc in sym same))
chain_to false at rest e W h is = inr (refl, h is)

chain_from : (chain : Bool) (at : ℕ) (rest : Read (List Fix)) (e : LxRefusal) (W : Type 0) →
    (W → rest ≡ Err e) → ((chain ≡ true) × (e ≡ fault kinds.BadSource at)) ⊎ ((chain ≡ false) × W) → cond chain (Err (fault kinds.BadSource at)) rest ≡ Err e
chain_from chain at rest e W h (inl begins) = let some = begins.0 in let same = begins.1 in rw (some, same) refl
chain_from chain at rest e W h (inr alone) = let none = alone.0 in rw none (h alone.1)

after_faults : (at : ℕ) (kind : Option SourceKind) → Faults (after_source at kind) (WrongAfterSource at kind)
after_faults at None = record {
  fails = λ c e is. (let same : fault kinds.BadSource at ≡ e = cc in sym same);
  failed = λ c e is. ap (λ (x : LxRefusal). refused x) (sym is);
}
after_faults at (Some kind) =
    let rest = by_listed kind.listed kind in
    field_faults 1 (λ c flags d. cond (has CHAIN flags) (Err (fault kinds.BadSource at)) (cond kind.listed (list_at kind flags d) (single_at kind flags d)))
    (λ c e flags d. ((has CHAIN flags ≡ true) × (e ≡ fault kinds.BadSource at)) ⊎ ((has CHAIN flags ≡ false) × WrongFields kind.listed kind.source flags d e))
    (λ c flags e d is. chain_to (has CHAIN flags) at (cond kind.listed (list_at kind flags d) (single_at kind flags d)) e (WrongFields kind.listed kind.source flags d e) ((rest flags).fails d e) is)
    (λ c flags e d wrong. chain_from (has CHAIN flags) at (cond kind.listed (list_at kind flags d) (single_at kind flags d)) e (WrongFields kind.listed kind.source flags d e) ((rest flags).failed d e) wrong)

record_faults : Faults record_at (λ c e. FieldThen 1 c e (λ source d. WrongAfterSource c.at (source_of_byte source) d e))
unfolding record_at
record_faults =
    field_faults 1 (λ c source d. after_source c.at (source_of_byte source) d) (λ c e source d. WrongAfterSource c.at (source_of_byte source) d e)
    (λ c source e d is. (after_faults c.at (source_of_byte source)).fails d e is) (λ c source e d wrong. (after_faults c.at (source_of_byte source)).failed d e wrong)

-- ---- the records of a page

abbrev stands_at : ℕ → List Fix × Cursor → Read (Option (Record × Unit {0}))
stands_at at fixes = done (Some (record { at = at; fixes = fixes.0 }, tt), fixes.1)

fix_fails : (r : Read (List Fix)) (at : ℕ) (e : LxRefusal) → (r >>= stands_at at) ≡ Err e → r ≡ Err e
fix_fails (Ok fixes) at e is = absurd (good_ends (Some (record { at = at; fixes = fixes.0 }, tt), fixes.1) e is)
fix_fails (Err x) at e is = fails_as (stands_at at) x e is

by_left : (c : Cursor) (e : LxRefusal) (none : Bool) → eqb (length c.left) 0 ≡ none → cond none (ends c) (record_at c >>= stands_at c.at) ≡ Err e → WrongRecord tt c e
by_left c e true is fails = absurd (good_ends (None, c) e fails)
by_left c e false is fails = (positive (length c.left) is, record_faults.fails c e (fix_fails (record_at c) c.at e fails))

next_fails : (known : Unit {0}) (c : Cursor) (e : LxRefusal) → AreBytes c.left → next_record known c ≡ Err e → WrongRecord known c e
unfolding next_record
next_fails known c e h is = by_left c e (eqb (length c.left) 0) refl is

next_failed : (known : Unit {0}) (c : Cursor) (e : LxRefusal) → WrongRecord known c e → next_record known c ≡ Err e
unfolding next_record
next_failed known c e wrong =
    other (eqb (length c.left) 0) (ends c) (record_at c >>= stands_at c.at) (not_zero (length c.left) wrong.0)
    ∙ ap (λ (r : Read (List Fix)). r >>= stands_at c.at) (record_faults.failed c e wrong.1)

record WrittenRecord (c d : Cursor) : Type 0 where
  written : Written
  fits : RecordFits written
  taken : Takes c (record_spelling written) d

next_by_left : (c d : Cursor) (o : Record × Unit {0}) (none : Bool) → AreBytes c.left → cond none (ends c) (record_at c >>= stands_at c.at) ≡ Ok (Some o, d) → WrittenRecord c d
next_by_left c d o true h is = absurd (never c d o (ends c) refl is)
next_by_left c d o false h is =
    let step = bind_ok (record_at c) (stands_at c.at) (Some o, d) is in
    let t = record_taken c step.0.1 step.0.0 h step.1 in
    let pair : (Some (record { at = c.at; fixes = step.0.0 }, tt), step.0.1) ≡ (Some o, d) = (let last = step.2 in cc) in
    let end : step.0.1 ≡ d = ap (λ (p : Option (Record × Unit {0}) × Cursor). p.1) pair in
    record { written = t.written; fits = t.fits; taken = subst (λ (x : Cursor). Takes c (record_spelling t.written) x) end t.taken }

next_taken : (known : Unit {0}) (c d : Cursor) (o : Record × Unit {0}) → AreBytes c.left → next_record known c ≡ Ok (Some o, d) → WrittenRecord c d
unfolding next_record
next_taken known c d o h is = next_by_left c d o (eqb (length c.left) 0) h is

pub record_table : Table next_record record_spelling (λ _ w. RecordFits w) (λ s _. s) WrongRecord
record_table = record {
  shorter = record_shortens;
  taken = λ s c d o h e. let t = next_taken s c d o h e in record { written = t.written; good = t.fits; taken = t.taken };
  reads = λ s w fits at rest.
      (record { at = at; fixes = fixes_written w }, next_reads (cursor at (record_spelling w ++ rest)) (cursor (at + length (record_spelling w)) rest) (fixes_written w) (omega arith) (record_reads w fits at rest));
  fails = next_fails;
  failed = next_failed;
}
