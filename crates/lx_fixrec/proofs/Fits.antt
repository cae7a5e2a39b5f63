-- The shortest sizes have room for the numbers of a fixup that can be written.
use Rattle.std.proofs.Common.{◌≡◌, ℕ, ◌<◌, ◌^◌, Bool, true, false, ◌&&◌, not, refl, arith}
use Rattle.std.proofs.lemmas.Bool.Decides.{nat_tests}
use Rattle.lx_types.specs.declared.fix.Source.{Source}
use Rattle.lx_types.specs.declared.fix.Source.TheVariants.{Byte, Sel, Far16, Off16, Far32, Off32, Self32}
use Rattle.lx_types.specs.declared.fix.FixTarget.{FixTarget}
use Rattle.lx_types.specs.declared.fix.FixTarget.TheVariants.{Internal, Ordinal, Named, Own}
use Rattle.lx_model.specs.RecordFields.{has, number_width, target_width, ordinal_width, additive_width}
use Rattle.lx_model.specs.declared.record_fields.TheConstants.{ADDITIVE, WIDE_TARGET, WIDE_ADDITIVE, WIDE_NUMBER, BYTE_ORDINAL}
use Rattle.lx_model.specs.RecordSpelling.{Sizes, target_code, flags_of, InternalFits, TargetFits}
use Rattle.lx_model.specs.JoinedRecords.{passes, shortest}
use Rattle.lx_model.proofs.RecordsRead.{left_true, right_true, same, same_true}
use Rattle.lx_fixrec.specs.Writable.{NumbersFit}
use Rattle.lx_fixrec.specs.Writes.{shortest_flags}

-- ---- the flags byte tells the sizes

-- what holds at both values of a Bool holds at each
at_each : (p : Bool → Bool) → (p true && p false) ≡ true → (b : Bool) → p b ≡ true
at_each p h true = left_true (p true) (p false) h
at_each p h false = right_true (p true) (p false) h

abbrev tells : Bool → Bool → Bool → Bool → Bool → ℕ → Bool
tells a b c d e code =
    let flags = flags_of (record { additive = a; wide_target = b; wide_additive = c; wide_number = d; byte_ordinal = e }) code in
    same (has ADDITIVE flags) a && (same (has WIDE_TARGET flags) b && (same (has WIDE_ADDITIVE flags) c && (same (has WIDE_NUMBER flags) d && same (has BYTE_ORDINAL flags) e)))

abbrev tells_four : Bool → Bool → Bool → Bool → ℕ → Bool
tells_four a b c d code = tells a b c d true code && tells a b c d false code

abbrev tells_three : Bool → Bool → Bool → ℕ → Bool
tells_three a b c code = tells_four a b c true code && tells_four a b c false code

abbrev tells_two : Bool → Bool → ℕ → Bool
tells_two a b code = tells_three a b true code && tells_three a b false code

abbrev tells_one : Bool → ℕ → Bool
tells_one a code = tells_two a true code && tells_two a false code

tells_at_each : (code : ℕ) → (tells_one true code && tells_one false code) ≡ true → (a b c d e : Bool) → tells a b c d e code ≡ true
tells_at_each code h a b c d e =
    at_each (λ x. tells a b c d x code)
    (at_each (λ x. tells_four a b c x code)
    (at_each (λ x. tells_three a b x code)
    (at_each (λ x. tells_two a x code) (at_each (λ x. tells_one x code) h a) b) c) d) e

all_tell : (t : FixTarget) (a b c d e : Bool) → tells a b c d e (target_code t) ≡ true
all_tell (Internal o x) = tells_at_each 0 refl
all_tell (Ordinal o x) = tells_at_each 1 refl
all_tell (Named o x) = tells_at_each 2 refl
all_tell (Own x) = tells_at_each 3 refl

pub record Told (s : Sizes) (flags : ℕ) : Type 0 where
  pub additive : has ADDITIVE flags ≡ s.additive
  pub wide_target : has WIDE_TARGET flags ≡ s.wide_target
  pub wide_additive : has WIDE_ADDITIVE flags ≡ s.wide_additive
  pub wide_number : has WIDE_NUMBER flags ≡ s.wide_number
  pub byte_ordinal : has BYTE_ORDINAL flags ≡ s.byte_ordinal

pub flags_tell : (s : Sizes) (t : FixTarget) → Told s (flags_of s (target_code t))
flags_tell s t =
    let flags = flags_of s (target_code t) in
    let h = all_tell t s.additive s.wide_target s.wide_additive s.wide_number s.byte_ordinal in
    let h1 = right_true (same (has ADDITIVE flags) s.additive) _ h in
    let h2 = right_true (same (has WIDE_TARGET flags) s.wide_target) _ h1 in
    let h3 = right_true (same (has WIDE_ADDITIVE flags) s.wide_additive) _ h2 in
    record {
      additive = same_true (has ADDITIVE flags) s.additive (left_true (same (has ADDITIVE flags) s.additive) _ h);
      wide_target = same_true (has WIDE_TARGET flags) s.wide_target (left_true (same (has WIDE_TARGET flags) s.wide_target) _ h1);
      wide_additive = same_true (has WIDE_ADDITIVE flags) s.wide_additive (left_true (same (has WIDE_ADDITIVE flags) s.wide_additive) _ h2);
      wide_number = same_true (has WIDE_NUMBER flags) s.wide_number (left_true (same (has WIDE_NUMBER flags) s.wide_number) _ h3);
      byte_ordinal = same_true (has BYTE_ORDINAL flags) s.byte_ordinal (right_true (same (has WIDE_NUMBER flags) s.wide_number) _ h3);
    }

-- ---- room for numbers

number_fits : (flags n : ℕ) → has WIDE_NUMBER flags ≡ passes 1 n → n < 2 ^ 16 → n < 256 ^ number_width flags
number_fits flags n is small = by (passes 1 n) refl
  where
    by : (b : Bool) → passes 1 n ≡ b → n < 256 ^ number_width flags
    by true e = rw (is, e) small
    by false e = let low : n < 256 = grind (arith, nat_tests) in rw (is, e) low

place_fits : (flags n : ℕ) → has WIDE_TARGET flags ≡ passes 2 n → n < 2 ^ 32 → n < 256 ^ target_width flags
place_fits flags n is small = by (passes 2 n) refl
  where
    by : (b : Bool) → passes 2 n ≡ b → n < 256 ^ target_width flags
    by true e = rw (is, e) small
    by false e = let low : n < 65536 = grind (arith, nat_tests) in rw (is, e) low

ordinal_fits : (flags n : ℕ) → has WIDE_TARGET flags ≡ passes 2 n → has BYTE_ORDINAL flags ≡ not (passes 1 n) → n < 2 ^ 32 → n < 256 ^ ordinal_width flags
ordinal_fits flags n is byte small = by (passes 1 n) refl
  where
    by : (b : Bool) → passes 1 n ≡ b → n < 256 ^ ordinal_width flags
    by true e = rw (byte, e) (place_fits flags n is small)
    by false e = let low : n < 256 = grind (arith, nat_tests) in rw (byte, e) low

pub additive_room : (t : FixTarget) (n : ℕ) → n < 2 ^ 32 → n < 256 ^ additive_width (shortest_flags t n)
additive_room t n small = by (passes 2 n) refl
  where
    told : (t : FixTarget) → has WIDE_ADDITIVE (shortest_flags t n) ≡ passes 2 n
    told (Internal o x) = (flags_tell (shortest (Internal o x) n) (Internal o x)).wide_additive
    told (Ordinal o x) = (flags_tell (shortest (Ordinal o x) n) (Ordinal o x)).wide_additive
    told (Named o x) = (flags_tell (shortest (Named o x) n) (Named o x)).wide_additive
    told (Own x) = (flags_tell (shortest (Own x) n) (Own x)).wide_additive

    by : (b : Bool) → passes 2 n ≡ b → n < 256 ^ additive_width (shortest_flags t n)
    by true e = rw (told t, e) small
    by false e = let low : n < 65536 = grind (arith, nat_tests) in rw (told t, e) low

internal_fits : (source : Source) (flags object offset : ℕ) → has WIDE_NUMBER flags ≡ passes 1 object → has WIDE_TARGET flags ≡ passes 2 offset → NumbersFit source (Internal object offset) → InternalFits source flags object offset
internal_fits Byte flags object offset n p h = (number_fits flags object n h.0, place_fits flags offset p h.1)
internal_fits Sel flags object offset n p h = (number_fits flags object n h.0, h.2)
internal_fits Far16 flags object offset n p h = (number_fits flags object n h.0, place_fits flags offset p h.1)
internal_fits Off16 flags object offset n p h = (number_fits flags object n h.0, place_fits flags offset p h.1)
internal_fits Far32 flags object offset n p h = (number_fits flags object n h.0, place_fits flags offset p h.1)
internal_fits Off32 flags object offset n p h = (number_fits flags object n h.0, place_fits flags offset p h.1)
internal_fits Self32 flags object offset n p h = (number_fits flags object n h.0, place_fits flags offset p h.1)

pub target_fits : (source : Source) (t : FixTarget) (additive : ℕ) → NumbersFit source t → TargetFits source (shortest_flags t additive) t
target_fits source (Internal o x) additive h =
    let told = flags_tell (shortest (Internal o x) additive) (Internal o x) in internal_fits source (shortest_flags (Internal o x) additive) o x told.wide_number told.wide_target h
target_fits source (Ordinal i x) additive h =
    let told = flags_tell (shortest (Ordinal i x) additive) (Ordinal i x) in
    let flags = shortest_flags (Ordinal i x) additive in
    (number_fits flags i told.wide_number h.0, ordinal_fits flags x told.wide_target told.byte_ordinal h.1)
target_fits source (Named i x) additive h =
    let told = flags_tell (shortest (Named i x) additive) (Named i x) in
    let flags = shortest_flags (Named i x) additive in
    (number_fits flags i told.wide_number h.0, place_fits flags x told.wide_target h.1)
target_fits source (Own x) additive h =
    let told = flags_tell (shortest (Own x) additive) (Own x) in number_fits (shortest_flags (Own x) additive) x told.wide_number h
