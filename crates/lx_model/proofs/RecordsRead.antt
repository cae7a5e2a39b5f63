-- Fixup records that were written are read again.
use Rattle.std.proofs.Common.{◌≡◌, ℕ, zero, suc, ◌+◌, ◌<◌, ◌≤◌, ◌^◌, ◌%◌, ◌==◌, ◌&&◌, not, Bool, true, false, cond, ltb, List, [], ◌∷◌, ◌++◌, length, Some, Result, Ok, Err, ℤ, pos, negsuc, refl, sym, subst, ap, ◌∙◌, append_assoc, arith, lit<}
use Rattle.std.specs.List.{flat_map, AllByRecursion as Each}
use Rattle.std.specs.Int.{w16, cast_signed, cast_unsigned}
use Rattle.std.proofs.Math.Facts.{to_z_pos, to_z-neg}
use Rattle.std.proofs.lemmas.Bool.Decides.{nat_tests}
use Rattle.std.proofs.lemmas.Bool.{ltb-true, not-true, eqb-true}
use Rattle.lx_bytes.specs.Cursor.{Cursor}
use Rattle.lx_bytes.specs.LittleEndian.{little_bytes}
use Rattle.lx_types.specs.declared.refusal.LxRefusal.{LxRefusal}
use Rattle.lx_types.specs.declared.refusal.LxKind.TheVariants as kinds
use Rattle.lx_types.specs.declared.fix.Source.{Source}
use Rattle.lx_types.specs.declared.fix.Source.TheVariants.{Byte, Sel, Far16, Off16, Far32, Off32, Self32}
use Rattle.lx_types.specs.declared.fix.FixTarget.{FixTarget}
use Rattle.lx_types.specs.declared.fix.FixTarget.TheVariants.{Internal, Ordinal, Named, Own}
use Rattle.lx_types.specs.declared.fix.Fix.{Fix}
use Rattle.lx_model.specs.Reading.{fault, cursor, number, Read, ◌>>=◌}
use Rattle.lx_model.specs.Sources.{SourceKind, source_byte, source_of_byte, source_size}
use Rattle.lx_model.specs.RecordFields.{has, number_width, target_width, ordinal_width, additive_width, internal_at, target_of_kind, target_at, additive_at, reaches_page, offset_at, offsets_at}
use Rattle.lx_model.specs.declared.record_fields.TheConstants.{ADDITIVE, CHAIN}
use Rattle.lx_model.specs.Records.{fixes_at_offsets, single_at, list_at, after_source, record_at}
use Rattle.lx_model.specs.RecordSpelling.{Sizes, Written, target_code, flags_of, flags_byte, internal_spelling, target_spelling, additive_spelling, offset_spelling, offsets_spelling, record_spelling, fixes_written, InternalFits, TargetFits, AdditiveFits, OffsetFits, CountFits, AliasFits, RecordFits}
use Rattle.lx_model.proofs.Steps.{then_ok, chosen, other}
use Rattle.lx_model.proofs.ReadsAs.{ReadsAs, number_reads, byte_reads, bind_reads, done_reads}

-- ---- the source byte

source_again : (source : Source) (alias listed : Bool) → AliasFits alias source →
    source_of_byte (source_byte (record { source = source; alias = alias; listed = listed })) ≡ Some (record { source = source; alias = alias; listed = listed })
source_again Byte true true h = absurd cc
source_again Byte true false h = absurd cc
source_again Byte false true h = refl
source_again Byte false false h = refl
source_again Sel true true h = refl
source_again Sel true false h = refl
source_again Sel false true h = refl
source_again Sel false false h = refl
source_again Far16 true true h = refl
source_again Far16 true false h = refl
source_again Far16 false true h = refl
source_again Far16 false false h = refl
source_again Off16 true true h = absurd cc
source_again Off16 true false h = absurd cc
source_again Off16 false true h = refl
source_again Off16 false false h = refl
source_again Far32 true true h = refl
source_again Far32 true false h = refl
source_again Far32 false true h = refl
source_again Far32 false false h = refl
source_again Off32 true true h = absurd cc
source_again Off32 true false h = absurd cc
source_again Off32 false true h = refl
source_again Off32 false false h = refl
source_again Self32 true true h = absurd cc
source_again Self32 true false h = absurd cc
source_again Self32 false true h = refl
source_again Self32 false false h = refl

source_below : (source : Source) (alias listed : Bool) → source_byte (record { source = source; alias = alias; listed = listed }) < 256
source_below Byte true true = lit< tt
source_below Byte true false = lit< tt
source_below Byte false true = lit< tt
source_below Byte false false = lit< tt
source_below Sel true true = lit< tt
source_below Sel true false = lit< tt
source_below Sel false true = lit< tt
source_below Sel false false = lit< tt
source_below Far16 true true = lit< tt
source_below Far16 true false = lit< tt
source_below Far16 false true = lit< tt
source_below Far16 false false = lit< tt
source_below Off16 true true = lit< tt
source_below Off16 true false = lit< tt
source_below Off16 false true = lit< tt
source_below Off16 false false = lit< tt
source_below Far32 true true = lit< tt
source_below Far32 true false = lit< tt
source_below Far32 false true = lit< tt
source_below Far32 false false = lit< tt
source_below Off32 true true = lit< tt
source_below Off32 true false = lit< tt
source_below Off32 false true = lit< tt
source_below Off32 false false = lit< tt
source_below Self32 true true = lit< tt
source_below Self32 true false = lit< tt
source_below Self32 false true = lit< tt
source_below Self32 false false = lit< tt

-- ---- the flags byte

pub left_true : (a b : Bool) → (a && b) ≡ true → a ≡ true
left_true true b e = refl
left_true false b e = e

pub right_true : (a b : Bool) → (a && b) ≡ true → b ≡ true
right_true true b e = e
right_true false b e = absurd cc

-- what holds at both values of a Bool holds at each
at_each : (p : Bool → Bool) → (p true && p false) ≡ true → (b : Bool) → p b ≡ true
at_each p h true = left_true (p true) (p false) h
at_each p h false = right_true (p true) (p false) h

abbrev pub same : Bool → Bool → Bool
same true b = b
same false b = not b

-- a flags byte has the target's code in its low bits, begins no chain, and says whether there is an additive
abbrev good : Bool → Bool → Bool → Bool → Bool → ℕ → Bool
good a b c d e code =
    let flags = flags_of (record { additive = a; wide_target = b; wide_additive = c; wide_number = d; byte_ordinal = e }) code in
    ltb flags 256 && (flags % 4 == code) && not (has CHAIN flags) && same (has ADDITIVE flags) a

abbrev good_four : Bool → Bool → Bool → Bool → ℕ → Bool
good_four a b c d code = good a b c d true code && good a b c d false code

abbrev good_three : Bool → Bool → Bool → ℕ → Bool
good_three a b c code = good_four a b c true code && good_four a b c false code

abbrev good_two : Bool → Bool → ℕ → Bool
good_two a b code = good_three a b true code && good_three a b false code

abbrev good_one : Bool → ℕ → Bool
good_one a code = good_two a true code && good_two a false code

good_at_each : (code : ℕ) → (good_one true code && good_one false code) ≡ true → (a b c d e : Bool) → good a b c d e code ≡ true
good_at_each code h a b c d e =
    at_each (λ x. good a b c d x code)
    (at_each (λ x. good_four a b c x code)
    (at_each (λ x. good_three a b x code)
    (at_each (λ x. good_two a x code) (at_each (λ x. good_one x code) h a) b) c) d) e

all_good : (code : ℕ) → code < 4 → (a b c d e : Bool) → good a b c d e code ≡ true
all_good zero lt = good_at_each 0 refl
all_good (suc zero) lt = good_at_each 1 refl
all_good (suc (suc zero)) lt = good_at_each 2 refl
all_good (suc (suc (suc zero))) lt = good_at_each 3 refl
all_good (suc (suc (suc (suc code)))) lt = absurd (omega arith)

pub same_true : (a b : Bool) → same a b ≡ true → a ≡ b
same_true true true h = refl
same_true true false h = absurd cc
same_true false true h = absurd cc
same_true false false h = refl

pub record GoodFlags (s : Sizes) (code : ℕ) : Type 0 where
  pub below : flags_of s code < 256
  pub kind : flags_of s code % 4 ≡ code
  pub chain : has CHAIN (flags_of s code) ≡ false
  pub additive : has ADDITIVE (flags_of s code) ≡ s.additive

flags_good : (s : Sizes) (code : ℕ) → code < 4 → GoodFlags s code
flags_good s code lt =
    let flags = flags_of s code in
    let h = all_good code lt s.additive s.wide_target s.wide_additive s.wide_number s.byte_ordinal in
    let front = left_true (ltb flags 256 && (flags % 4 == code) && not (has CHAIN flags)) (same (has ADDITIVE flags) s.additive) h in
    let two = left_true (ltb flags 256 && (flags % 4 == code)) (not (has CHAIN flags)) front in
    record {
      below = ltb-true flags 256 (left_true (ltb flags 256) (flags % 4 == code) two);
      kind = eqb-true (flags % 4) code (right_true (ltb flags 256) (flags % 4 == code) two);
      chain = not-true (has CHAIN flags) (right_true (ltb flags 256 && (flags % 4 == code)) (not (has CHAIN flags)) front);
      additive = same_true (has ADDITIVE flags) s.additive (right_true (ltb flags 256 && (flags % 4 == code) && not (has CHAIN flags)) (same (has ADDITIVE flags) s.additive) h);
    }

-- ---- target and additive

plain_reads : (flags object offset : ℕ) → object < 256 ^ number_width flags → offset < 256 ^ target_width flags →
    ReadsAs (λ c. number (number_width flags) c >>= λ o. number (target_width flags) o.1 >>= λ x. Ok (Internal o.0 x.0, x.1))
    (little_bytes (number_width flags) object ++ little_bytes (target_width flags) offset) (Internal object offset)
plain_reads flags object offset small low =
    bind_reads (number (number_width flags)) (λ o. number (target_width flags) o.1 >>= λ x. Ok (Internal o.0 x.0, x.1))
    (little_bytes (number_width flags) object) (little_bytes (target_width flags) offset) object (Internal object offset)
    (number_reads (number_width flags) object small)
    (done_reads (number (target_width flags)) (λ x. Internal object x) (little_bytes (target_width flags) offset) offset (number_reads (target_width flags) offset low))

internal_reads : (source : Source) (flags object offset : ℕ) → InternalFits source flags object offset → ReadsAs (internal_at source flags) (internal_spelling source flags object offset) (Internal object offset)
unfolding internal_at
internal_reads Byte flags object offset h = plain_reads flags object offset h.0 h.1
internal_reads Sel flags object offset h =
    let none = done_reads (number (number_width flags)) (λ o. Internal o 0) (little_bytes (number_width flags) object) object (number_reads (number_width flags) object h.0) in
    subst (λ (x : ℕ). ReadsAs (internal_at Sel flags) (little_bytes (number_width flags) object) (Internal object x)) (sym h.1) none
internal_reads Far16 flags object offset h = plain_reads flags object offset h.0 h.1
internal_reads Off16 flags object offset h = plain_reads flags object offset h.0 h.1
internal_reads Far32 flags object offset h = plain_reads flags object offset h.0 h.1
internal_reads Off32 flags object offset h = plain_reads flags object offset h.0 h.1
internal_reads Self32 flags object offset h = plain_reads flags object offset h.0 h.1

target_reads : (source : Source) (flags : ℕ) (target : FixTarget) → flags % 4 ≡ target_code target → TargetFits source flags target → ReadsAs (target_at source flags) (target_spelling source flags target) target
unfolding target_of_kind
target_reads source flags (Internal object offset) kind h at rest = rw kind (internal_reads source flags object offset h at rest)
target_reads source flags (Ordinal import ordinal) kind h at rest =
    rw kind (bind_reads (number (number_width flags)) (λ i. number (ordinal_width flags) i.1 >>= λ x. Ok (Ordinal i.0 x.0, x.1))
    (little_bytes (number_width flags) import) (little_bytes (ordinal_width flags) ordinal) import (Ordinal import ordinal)
    (number_reads (number_width flags) import h.0)
    (done_reads (number (ordinal_width flags)) (λ x. Ordinal import x) (little_bytes (ordinal_width flags) ordinal) ordinal (number_reads (ordinal_width flags) ordinal h.1)) at rest)
target_reads source flags (Named import name_at) kind h at rest =
    rw kind (bind_reads (number (number_width flags)) (λ i. number (target_width flags) i.1 >>= λ x. Ok (Named i.0 x.0, x.1))
    (little_bytes (number_width flags) import) (little_bytes (target_width flags) name_at) import (Named import name_at)
    (number_reads (number_width flags) import h.0)
    (done_reads (number (target_width flags)) (λ x. Named import x) (little_bytes (target_width flags) name_at) name_at (number_reads (target_width flags) name_at h.1)) at rest)
target_reads source flags (Own ordinal) kind h at rest =
    rw kind (done_reads (number (number_width flags)) (λ x. Own x) (little_bytes (number_width flags) ordinal) ordinal (number_reads (number_width flags) ordinal h) at rest)

additive_reads : (there : Bool) (flags additive : ℕ) → has ADDITIVE flags ≡ there → AdditiveFits there flags additive → ReadsAs (additive_at flags) (additive_spelling flags additive) additive
unfolding additive_at
additive_reads true flags additive is h at rest = rw is (number_reads (additive_width flags) additive h at rest)
additive_reads false flags additive is h at rest = let end : at + 0 ≡ at = omega arith in rw (is, end, h) refl

-- ---- offsets

pub size_small : (source : Source) → source_size source ≤ 6
size_small Byte = omega arith
size_small Sel = omega arith
size_small Far16 = omega arith
size_small Off16 = omega arith
size_small Far32 = omega arith
size_small Off32 = omega arith
size_small Self32 = omega arith

word_below : (source : Source) (offset : ℤ) → OffsetFits source offset → cast_unsigned w16 offset < 256 ^ 2
word_below source (pos n) h = omega arith
word_below source (negsuc n) h = omega arith

word_reaches : (source : Source) (offset : ℤ) → OffsetFits source offset → reaches_page source (cast_unsigned w16 offset) ≡ true
word_reaches source (pos n) h = grind (arith, nat_tests)
word_reaches source (negsuc n) h = let small = size_small source in grind (arith, nat_tests)

word_again : (source : Source) (offset : ℤ) → OffsetFits source offset → cast_signed w16 (cast_unsigned w16 offset) ≡ offset
word_again source (pos n) h = to_z_pos w16 (omega arith)
word_again source (negsuc n) h = let small = size_small source in to_z-neg w16 n (omega arith)

-- a step that is followed by another
offset_reads : (source : Source) (offset : ℤ) → OffsetFits source offset → ReadsAs (offset_at source) (offset_spelling offset) offset
offset_reads source offset h at rest =
    let word = cast_unsigned w16 offset in
    let after = cursor (at + 2) rest in
    then_ok (number 2 (cursor at (little_bytes 2 word ++ rest))) (λ w. cond (reaches_page source w.0) (Ok (cast_signed w16 w.0, w.1)) (Err (fault kinds.Straddle at))) (word, after) (Ok (offset, after))
    (number_reads 2 word (word_below source offset h) at rest)
    (chosen (reaches_page source word) (Ok (cast_signed w16 word, after)) (Err (fault kinds.Straddle at)) (word_reaches source offset h) ∙ ap (λ (z : ℤ). ok_at after z) (word_again source offset h))
  where
    ok_at : Cursor → ℤ → Result (ℤ × Cursor) LxRefusal
    ok_at c z = Ok (z, c)

offsets_read : (source : Source) (offsets : List ℤ) → Each (OffsetFits source) offsets → ReadsAs (offsets_at (length offsets) source) (flat_map offset_spelling offsets) offsets
unfolding offsets_at
offsets_read source [] h at rest = let end : at + 0 ≡ at = omega arith in rw end refl
offsets_read source (o ∷ os) h at rest =
    bind_reads (offset_at source) (λ x. offsets_at (length os) source x.1 >>= λ others. Ok (x.0 ∷ others.0, others.1)) (offset_spelling o) (flat_map offset_spelling os) o (o ∷ os)
    (offset_reads source o h.0)
    (done_reads (offsets_at (length os) source) (λ others. o ∷ others) (flat_map offset_spelling os) os (offsets_read source os h.1)) at rest

-- ---- one source, and a list

-- what a target and an additive of a record are
record FieldsFit (source : Source) (flags : ℕ) (target : FixTarget) (additive : ℕ) : Type 0 where
  code : flags % 4 ≡ target_code target
  target_fits : TargetFits source flags target
  there : Bool
  is_there : has ADDITIVE flags ≡ there
  additive_fits : AdditiveFits there flags additive

same_bytes : {A : Type 0} (step : Cursor → Read A) (a b : List ℕ) (v : A) → a ≡ b → ReadsAs step a v → ReadsAs step b v
same_bytes step a b v e h = subst (λ (x : List ℕ). ReadsAs step x v) e h

single_reads : (kind : SourceKind) (flags : ℕ) (target : FixTarget) (additive : ℕ) (o : ℤ) → FieldsFit kind.source flags target additive → OffsetFits kind.source o →
    ReadsAs (single_at kind flags) (offset_spelling o ++ (target_spelling kind.source flags target ++ additive_spelling flags additive)) (fixes_at_offsets kind target additive (o ∷ []))
unfolding single_at
single_reads kind flags target additive o h low =
    let fixes = fixes_at_offsets kind target additive (o ∷ []) in
    bind_reads (offset_at kind.source) (λ x. target_at kind.source flags x.1 >>= λ t. additive_at flags t.1 >>= λ a. Ok (fixes_at_offsets kind t.0 a.0 (x.0 ∷ []), a.1))
    (offset_spelling o) (target_spelling kind.source flags target ++ additive_spelling flags additive) o fixes
    (offset_reads kind.source o low)
    (bind_reads (target_at kind.source flags) (λ t. additive_at flags t.1 >>= λ a. Ok (fixes_at_offsets kind t.0 a.0 (o ∷ []), a.1))
    (target_spelling kind.source flags target) (additive_spelling flags additive) target fixes
    (target_reads kind.source flags target h.code h.target_fits)
    (done_reads (additive_at flags) (λ a. fixes_at_offsets kind target a (o ∷ [])) (additive_spelling flags additive) additive (additive_reads h.there flags additive h.is_there h.additive_fits)))

list_reads : (kind : SourceKind) (flags : ℕ) (target : FixTarget) (additive : ℕ) (offsets : List ℤ) → FieldsFit kind.source flags target additive → length offsets < 256 → Each (OffsetFits kind.source) offsets →
    ReadsAs (list_at kind flags) ((length offsets ∷ []) ++ (target_spelling kind.source flags target ++ (additive_spelling flags additive ++ flat_map offset_spelling offsets)))
    (fixes_at_offsets kind target additive offsets)
unfolding list_at
list_reads kind flags target additive offsets h few low =
    let fixes = fixes_at_offsets kind target additive offsets in
    let tail = flat_map offset_spelling offsets in
    let count = length offsets in
    bind_reads (number 1) (λ n. target_at kind.source flags n.1 >>= λ t. additive_at flags t.1 >>= λ a. offsets_at n.0 kind.source a.1 >>= λ o. Ok
    (fixes_at_offsets kind t.0 a.0 o.0, o.1)) (count ∷ []) (target_spelling kind.source flags target ++ (additive_spelling flags additive ++ tail)) count fixes
    (byte_reads count few)
    (bind_reads (target_at kind.source flags) (λ t. additive_at flags t.1 >>= λ a. offsets_at count kind.source a.1 >>= λ o. Ok (fixes_at_offsets kind t.0 a.0 o.0, o.1))
    (target_spelling kind.source flags target) (additive_spelling flags additive ++ tail) target fixes
    (target_reads kind.source flags target h.code h.target_fits)
    (bind_reads (additive_at flags) (λ a. offsets_at count kind.source a.1 >>= λ o. Ok (fixes_at_offsets kind target a.0 o.0, o.1)) (additive_spelling flags additive) tail additive fixes
    (additive_reads h.there flags additive h.is_there h.additive_fits)
    (done_reads (offsets_at count kind.source) (λ o. fixes_at_offsets kind target additive o) tail offsets (offsets_read kind.source offsets low))))

-- ---- a record

abbrev body : Bool → SourceKind → ℕ → Cursor → Read (List Fix)
body listed kind flags c = cond listed (list_at kind flags c) (single_at kind flags c)

pub regroup_list : (n : ℕ) (t a o : List ℕ) → (n ∷ []) ++ (t ++ (a ++ o)) ≡ (n ∷ (t ++ a)) ++ o
regroup_list n t a o = ap (λ (x : List ℕ). n ∷ x) (sym (append_assoc t a o))

one_reads : (kind : SourceKind) (flags : ℕ) (target : FixTarget) (additive : ℕ) (offsets : List ℤ) → FieldsFit kind.source flags target additive → length offsets ≡ 1 → Each (OffsetFits kind.source) offsets →
    ReadsAs (single_at kind flags) (flat_map offset_spelling offsets ++ (target_spelling kind.source flags target ++ additive_spelling flags additive)) (fixes_at_offsets kind target additive offsets)
one_reads kind flags target additive [] h one low = absurd (omega arith)
one_reads kind flags target additive (o ∷ []) h one low = single_reads kind flags target additive o h low.0
one_reads kind flags target additive (o ∷ p ∷ os) h one low = absurd (omega arith)

body_reads : (listed : Bool) (w : Written) (flags : ℕ) → FieldsFit w.kind.source flags w.target w.additive → CountFits listed w.offsets → Each (OffsetFits w.kind.source) w.offsets →
    ReadsAs (body listed w.kind flags) (offsets_spelling listed w flags) (fixes_written w)
body_reads true w flags h count low =
    same_bytes (list_at w.kind flags) _ _ (fixes_written w) (regroup_list (length w.offsets) (target_spelling w.kind.source flags w.target) (additive_spelling flags w.additive) (flat_map offset_spelling w.offsets))
    (list_reads w.kind flags w.target w.additive w.offsets h count low)
body_reads false w flags h count low = one_reads w.kind flags w.target w.additive w.offsets h count low

after_reads : (bad : ℕ) (w : Written) (flags : ℕ) → flags < 256 → has CHAIN flags ≡ false →
    FieldsFit w.kind.source flags w.target w.additive → CountFits w.kind.listed w.offsets → Each (OffsetFits w.kind.source) w.offsets →
    ReadsAs (after_source bad (Some w.kind)) (flags ∷ offsets_spelling w.kind.listed w flags) (fixes_written w)
after_reads bad w flags small chain h count low =
    bind_reads (number 1) (λ x. cond (has CHAIN x.0) (Err (fault kinds.BadSource bad)) (body w.kind.listed w.kind x.0 x.1)) (flags ∷ []) (offsets_spelling w.kind.listed w flags) flags (fixes_written w)
    (byte_reads flags small)
    (λ at rest. other (has CHAIN flags) (Err (fault kinds.BadSource bad))
    (body w.kind.listed w.kind flags (cursor at (offsets_spelling w.kind.listed w flags ++ rest))) chain ∙ body_reads w.kind.listed w flags h count low at rest)

code_small : (t : FixTarget) → target_code t < 4
code_small (Internal object offset) = omega arith
code_small (Ordinal import ordinal) = omega arith
code_small (Named import name_at) = omega arith
code_small (Own ordinal) = omega arith

pub record_reads : (w : Written) → RecordFits w → ReadsAs record_at (record_spelling w) (fixes_written w)
unfolding record_at
record_reads w h at rest =
    let code = target_code w.target in
    let flags = flags_byte w in
    let good = flags_good w.sizes code (code_small w.target) in
    let fields : FieldsFit w.kind.source flags w.target w.additive = record { code = good.kind; target_fits = h.target; there = w.sizes.additive; is_there = good.additive; additive_fits = h.additive } in
    let byte = source_byte w.kind in
    let tail = flags ∷ offsets_spelling w.kind.listed w flags ++ rest in
    let beyond = after_reads at w flags good.below good.chain fields h.count h.offsets (at + 1) rest in
    let end : at + 1 + length (flags ∷ offsets_spelling w.kind.listed w flags) ≡ at + length (record_spelling w) = omega arith in
    then_ok (number 1 (cursor at (byte ∷ tail))) (λ x. after_source at (source_of_byte x.0) x.1) (byte, cursor (at + 1) tail) (Ok (fixes_written w, cursor (at + length (record_spelling w)) rest))
    (byte_reads byte (source_below w.kind.source w.kind.alias w.kind.listed) at tail)
    (rw (source_again w.kind.source w.kind.alias w.kind.listed h.alias, ← end) beyond)
