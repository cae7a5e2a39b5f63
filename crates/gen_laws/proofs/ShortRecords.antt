-- How many bytes the fixup records of a page have at most, by how many fixups it has.
use Rattle.std.specs.Prelude.{◌≡◌, ℕ, suc, ◌*◌, ◌≤◌, Bool, true, false, cond, List, [], ◌∷◌, ◌++◌, ℤ, int_le, length, refl}
use Rattle.std.specs.List.{AllByRecursion, flat_map, list_any}
use Rattle.std.proofs.Common.{ap, arith, length-append}
use Rattle.std.proofs.lemmas.List.{length-map}
use Rattle.lx_bytes.specs.LittleEndian.{little_bytes}
use Rattle.lx_bytes.proofs.Numbers.{length-little_bytes}
use Rattle.lx_types.specs.declared.fix.Fix.{Fix}
use Rattle.lx_types.specs.declared.fix.FixTarget.{FixTarget}
use Rattle.lx_types.specs.declared.fix.FixTarget.TheVariants as targets
use Rattle.lx_types.specs.declared.fix.Source.{Source}
use Rattle.lx_types.specs.declared.fix.Source.TheVariants.{Sel}
use Rattle.lx_model.specs.JoinedRecords.{begins, by_offset, inserted, listed_after, record_of, records_for}
use Rattle.lx_model.specs.RecordFields.{additive_width, has, number_width, ordinal_width, target_width}
use Rattle.lx_model.specs.declared.record_fields.TheConstants.{ADDITIVE, BYTE_ORDINAL, WIDE_ADDITIVE, WIDE_NUMBER, WIDE_TARGET}
use Rattle.lx_model.specs.RecordSpelling.{CountFits, RecordFits, Written, additive_spelling, fields_spelling, flags_byte, internal_spelling, offset_spelling, offsets_spelling, record_spelling, target_spelling}
use Rattle.link_model.specs.Fixups.{Fixup}
use Rattle.link_model.specs.Mean.{live, overlap}

-- ---- the fields of one record

either_most : (b : Bool) (m n most : ℕ) → m ≤ most → n ≤ most → cond b m n ≤ most
either_most true m n most h k = h
either_most false m n most h k = k

number_most : (flags : ℕ) → number_width flags ≤ 2
number_most flags = either_most (has WIDE_NUMBER flags) 2 1 2 (omega arith) (omega arith)

target_most : (flags : ℕ) → target_width flags ≤ 4
target_most flags = either_most (has WIDE_TARGET flags) 4 2 4 (omega arith) (omega arith)

ordinal_most : (flags : ℕ) → ordinal_width flags ≤ 4
ordinal_most flags = either_most (has BYTE_ORDINAL flags) 1 (target_width flags) 4 (omega arith) (target_most flags)

additive_most : (flags : ℕ) → additive_width flags ≤ 4
additive_most flags = either_most (has WIDE_ADDITIVE flags) 4 2 4 (omega arith) (omega arith)

two_numbers : (m n x y : ℕ) → m ≤ 2 → n ≤ 4 → length (little_bytes m x ++ little_bytes n y) ≤ 6
two_numbers m n x y first second =
    let both = length-append (little_bytes m x) (little_bytes n y) in
    let one = length-little_bytes m x in
    let other = length-little_bytes n y in
    omega (arith, both, one, other, first, second)

one_number : (n x most : ℕ) → n ≤ most → length (little_bytes n x) ≤ most
one_number n x most few = let long = length-little_bytes n x in omega (arith, long, few)

number_short : (flags x : ℕ) → length (little_bytes (number_width flags) x) ≤ 6
number_short flags x = let few = number_most flags in one_number (number_width flags) x 6 (omega (arith, few))

internal_short : (source : Source) (flags object offset : ℕ) → length (internal_spelling source flags object offset) ≤ 6
internal_short Sel flags object offset = number_short flags object
internal_short source flags object offset = two_numbers (number_width flags) (target_width flags) object offset (number_most flags) (target_most flags)

target_short : (source : Source) (flags : ℕ) (target : FixTarget) → length (target_spelling source flags target) ≤ 6
target_short source flags (targets.Internal object offset) = internal_short source flags object offset
target_short source flags (targets.Ordinal import ordinal) = two_numbers (number_width flags) (ordinal_width flags) import ordinal (number_most flags) (ordinal_most flags)
target_short source flags (targets.Named import name_at) = two_numbers (number_width flags) (target_width flags) import name_at (number_most flags) (target_most flags)
target_short source flags (targets.Own ordinal) = number_short flags ordinal

additive_short : (flags additive : ℕ) → length (additive_spelling flags additive) ≤ 4
additive_short flags additive = by (has ADDITIVE flags)
  where
    by : (b : Bool) → length (cond b (little_bytes (additive_width flags) additive) []) ≤ 4
    by true = one_number (additive_width flags) additive 4 (additive_most flags)
    by false = omega arith

fields_short : (w : Written) (flags : ℕ) → length (fields_spelling w flags) ≤ 10
fields_short w flags =
    let both = length-append (target_spelling w.kind.source flags w.target) (additive_spelling flags w.additive) in
    let target = target_short w.kind.source flags w.target in
    let additive = additive_short flags w.additive in
    omega (arith, both, target, additive)

-- ---- its offsets

offsets_long : (offsets : List ℤ) → length (flat_map offset_spelling offsets) ≡ 2 * length offsets
offsets_long [] = refl
offsets_long (offset ∷ offsets) =
    let both = length-append (offset_spelling offset) (flat_map offset_spelling offsets) in
    let rest = offsets_long offsets in
    omega (arith, both, rest)

offsets_short : (listed : Bool) (w : Written) (flags : ℕ) → CountFits listed w.offsets → length (offsets_spelling listed w flags) ≤ 521
offsets_short true w flags few =
    let both = length-append (fields_spelling w flags) (flat_map offset_spelling w.offsets) in
    let fields = fields_short w flags in
    let offsets = offsets_long w.offsets in
    omega (arith, both, fields, offsets, few)
offsets_short false w flags few =
    let both = length-append (flat_map offset_spelling w.offsets) (fields_spelling w flags) in
    let fields = fields_short w flags in
    let offsets = offsets_long w.offsets in
    omega (arith, both, fields, offsets, few)

record_short : (w : Written) → RecordFits w → length (record_spelling w) ≤ 523
record_short w fits = let offsets = offsets_short w.kind.listed w (flags_byte w) fits.count in omega (arith, offsets)

pub records_short : (ws : List Written) → AllByRecursion RecordFits ws → length (flat_map record_spelling ws) ≤ 523 * length ws
records_short [] fits = omega arith
records_short (w ∷ ws) fits =
    let both = length-append (record_spelling w) (flat_map record_spelling ws) in
    let first = record_short w fits.0 in
    let rest = records_short ws fits.1 in
    omega (arith, both, first, rest)

-- ---- how many records there are

inserted_long : (f : Fix) (fs : List Fix) → length (inserted f fs) ≡ suc (length fs)
inserted_long f [] = refl
inserted_long f (g ∷ gs) = by (int_le f.offset g.offset) (inserted_long f gs)
  where
    by : (b : Bool) → length (inserted f gs) ≡ suc (length gs) → length (cond b (f ∷ g ∷ gs) (g ∷ inserted f gs)) ≡ suc (suc (length gs))
    by true rest = refl
    by false rest = ap suc rest

sorted_long : (fs : List Fix) → length (by_offset fs) ≡ length fs
sorted_long [] = refl
sorted_long (f ∷ fs) =
    let rest = sorted_long fs in
    let more = inserted_long f (by_offset fs) in
    omega (arith, rest, more)

few_either : {X : Type 0} (b : Bool) (x : X) (xs : List X) (n : ℕ) → length xs ≤ n → length (cond b (x ∷ xs) xs) ≤ suc n
few_either true x xs n few = omega (arith, few)
few_either false x xs n few = omega (arith, few)

few_listed : (earlier fs : List Fix) → length (listed_after earlier fs) ≤ length fs
few_listed earlier [] = omega arith
few_listed earlier (f ∷ fs) = few_either (begins earlier f) _ (listed_after (earlier ++ f ∷ []) fs) (length fs) (few_listed (earlier ++ f ∷ []) fs)

pub few_records : (fs : List Fix) → length (records_for fs) ≤ length fs
unfolding records_for
few_records fs =
    let long = length-map (listed_after [] (by_offset fs)) record_of in
    let few = few_listed [] (by_offset fs) in
    let same = sorted_long fs in
    omega (arith, long, few, same)

-- ---- how many fixups there are

few_left : (b : Bool) (q : Fixup) (qs : List Fixup) (n : ℕ) → length qs ≤ n → length (cond b qs (q ∷ qs)) ≤ suc n
few_left true q qs n few = omega (arith, few)
few_left false q qs n few = omega (arith, few)

pub few_live : (qs : List Fixup) → length (live qs) ≤ length qs
few_live [] = omega arith
few_live (q ∷ qs) = few_left (list_any (overlap q) qs) q (live qs) (length qs) (few_live qs)
