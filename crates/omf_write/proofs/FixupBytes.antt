-- The bytes of fixups, record by record.
use Rattle.std.proofs.Common.{◌≡◌, ℕ, suc, ◌+◌, ◌-◌, ◌*◌, ◌<◌, ◌≤◌, Bool, true, false, min, List, [], ◌∷◌, ◌++◌, length, take, drop, refl, sym, ap, ◌∙◌, append_assoc, arith, length-append, drop-drop}
use Rattle.std.proofs.lemmas.List.{take_all, length-drop}
use Rattle.std.proofs.lemmas.Bool.Decides.{nat_tests}
use Rattle.std.specs.Prelude.{nat_le}
use Rattle.std.specs.List.{flat_map}
use Rattle.obj_types.specs.declared.object.FixAt.{FixAt}
use Rattle.omf_write.specs.declared.fixups.TheConstants.{PER_RECORD}
use Rattle.omf_write.specs.ObjectBytes.{fixup_bytes, fixupp_record, fixupp_records}
use Rattle.omf_write.proofs.FixDataRead.{fix_data_len}

pub bytes_len : (from : ℕ) (fixes : List FixAt) → length (flat_map (fixup_bytes from) fixes) ≤ 11 * length fixes
bytes_len from [] = omega arith
bytes_len from (f ∷ fixes) =
    let rest = bytes_len from fixes in
    let own = fix_data_len f.frame f.goal f.disp in
    let n = length-append (fixup_bytes from f) (flat_map (fixup_bytes from) fixes) in
    omega (arith, rest, own, n)

-- a record of at most 64 fixups
pub bytes_short : (from : ℕ) (fixes : List FixAt) → length fixes ≤ 64 → length (flat_map (fixup_bytes from) fixes) < 65535
bytes_short from fixes few = let n = bytes_len from fixes in omega (arith, n, few)

-- ---- a turn of the loop

cut_by : (b : Bool) (len : ℕ) (fixes : List FixAt) → nat_le (length fixes) 64 ≡ b → len ≡ min (length fixes) 64 → take len fixes ≡ take PER_RECORD fixes
cut_by true len fixes e is =
    let few : length fixes ≤ 64 = grind (arith, nat_tests) in
    take_all len fixes (omega (arith, few, is)) ∙ sym (take_all PER_RECORD fixes few)
cut_by false len fixes e is =
    let many : 64 ≤ length fixes = grind (arith, nat_tests) in
    let same : len ≡ PER_RECORD = omega (arith, many, is) in
    ap (λ (n : ℕ). take n fixes) same

-- at most 64 of the fixups
cut : (len : ℕ) (fixes : List FixAt) → len ≡ min (length fixes) 64 → take len fixes ≡ take PER_RECORD fixes
cut len fixes is = cut_by (nat_le (length fixes) 64) len fixes refl is

pub cut_at : (len place : ℕ) (fixes : List FixAt) → len ≡ min (length fixes - place) 64 → take len (take (length fixes - place) (drop place fixes)) ≡ take PER_RECORD (drop place fixes)
cut_at len place fixes is =
    let rest : List FixAt = drop place fixes in
    let n = length-drop place fixes in
    ap (λ (fs : List FixAt). take len fs) (take_all (length fixes - place) rest (omega (arith, n))) ∙ cut len rest (omega (arith, n, is))

pub one_record : (n left : ℕ) (from place next : ℕ) (fixes : List FixAt) (out : List ℕ) → left ≡ suc n → next ≡ place + 64 →
    (out ++ fixupp_record from (take PER_RECORD (drop place fixes))) ++ fixupp_records n from (drop next fixes) ≡ out ++ fixupp_records left from (drop place fixes)
one_record n left from place next fixes out is next_is =
    let here : List FixAt = drop place fixes in
    let after : drop next fixes ≡ drop PER_RECORD here = ap (λ (k : ℕ). drop k fixes) next_is ∙ sym (drop-drop PER_RECORD place fixes) in
    append_assoc out (fixupp_record from (take PER_RECORD here)) (fixupp_records n from (drop next fixes))
    ∙ (λ i. out ++ (fixupp_record from (take PER_RECORD here) ++ fixupp_records n from (after i)))
    ∙ ap (λ (k : ℕ). out ++ fixupp_records k from here) (sym is)
