-- Where entry bundles are wrong.
use Rattle.std.proofs.Common.{◌≡◌, ℕ, zero, suc, ◌+◌, ◌<◌, ◌≤◌, ◌⊎◌, not, Bool, true, false, cond, eqb, ltb, Option, Some, None, List, [], ◌∷◌, Ok, Err, refl, sym, ap, ◌∙◌, arith, inl, inr}
use Rattle.std.specs.List.{enumerate_from}
use Rattle.std.proofs.lemmas.Bool.{ltb-false, ltb-true, le-ltb, lt-ltb}
use Rattle.lx_bytes.specs.Cursor.{Cursor}
use Rattle.lx_types.specs.declared.refusal.LxRefusal.{LxRefusal}
use Rattle.lx_types.specs.declared.refusal.LxKind.TheVariants as kinds
use Rattle.lx_types.specs.declared.entry.EntryHead.{EntryHead}
use Rattle.lx_types.specs.declared.entry.EntryHead.TheVariants.{At, Gate286, Forward}
use Rattle.lx_model.specs.Reading.{fault, number, Read, ◌>>=◌, ends}
use Rattle.lx_model.specs.EntryTable.{Numbered, names_one_of, at_entry, gate_entry, forward_key, forward_entry, bundle_entries, object_entries, bundle_of_type, bundle_at}
use Rattle.lx_model.specs.declared.limits.TheConstants.{MAX_ORDINAL}
use Rattle.lx_model.specs.Bundles.{bundle_spelling, heads_of}
use Rattle.lx_model.specs.Faults.{FieldThen, IsCutAmong, WrongAmong, WrongForward, WrongObjectEntries, WrongOfType, WrongBundle}
use Rattle.lx_model.specs.FaultLaws.{BundleGoes, last_with}
use Rattle.lx_model.proofs.BundlesRead.{bundle_reads}
use Rattle.lx_model.proofs.BundlesTaken.{bundle_taken}
use Rattle.lx_model.proofs.FaultsAfter.{Table}
use Rattle.lx_model.proofs.FaultyFields.{Faults, refused, fails_as, good_ends, field_faults, last_field, next_field, allowed_to, allowed_from, guard_err}
use Rattle.lx_model.proofs.NamesRead.{not_zero}
use Rattle.lx_model.proofs.Shortening.{bundle_shortens}
use Rattle.lx_model.proofs.Steps.{done, chosen, other}
use Rattle.lx_model.proofs.TablesTaken.{positive}

-- ---- entries

at_faults : (width object : ℕ) → Faults (at_entry width object) (IsCutAmong (1 ∷ width ∷ []))
unfolding at_entry
at_faults width object = next_field 1 (λ flags d. number width d >>= λ offset. done (At object offset.0, offset.1)) (width ∷ []) (λ flags. last_field width (λ offset d. (At object offset, d)))

gate_faults : (object : ℕ) → Faults (gate_entry object) (IsCutAmong (1 ∷ 2 ∷ 2 ∷ []))
unfolding gate_entry
gate_faults object =
    next_field 1 (λ flags d. number 2 d >>= λ offset. number 2 offset.1 >>= λ gate. done (Gate286 object offset.0, gate.1)) (2 ∷ 2 ∷ []) (λ flags.
    next_field 2 (λ offset d. number 2 d >>= λ gate. done (Gate286 object offset, gate.1)) (2 ∷ []) (λ offset. last_field 2 (λ gate d. (Gate286 object offset, d))))

abbrev forwarder : ℕ → ℕ → ℕ × Cursor → Read EntryHead
forwarder flags import key = done (Forward import (forward_key flags key.0), key.1)

abbrev after_import : ℕ → ℕ → ℕ → ℕ → Cursor → Read EntryHead
after_import imports at flags import d = cond (not (names_one_of imports import)) (Err (fault kinds.EntryTable at)) (number 4 d >>= forwarder flags import)

import_faults : (imports at flags : ℕ) → Faults (λ b. number 2 b >>= λ import. after_import imports at flags import.0 import.1)
    (λ b e. FieldThen 2 b e (λ import d. ((names_one_of imports import ≡ false) × (e ≡ fault kinds.EntryTable at)) ⊎ ((names_one_of imports import ≡ true) × IsCutAmong (4 ∷ []) d e)))
import_faults imports at flags =
    let key : (import : ℕ) → Faults (λ d. number 4 d >>= forwarder flags import) (IsCutAmong (4 ∷ [])) = λ import. last_field 4 (λ key d. (Forward import (forward_key flags key), d)) in
    field_faults 2 (λ c import d. after_import imports at flags import d)
    (λ c e import d. ((names_one_of imports import ≡ false) × (e ≡ fault kinds.EntryTable at)) ⊎ ((names_one_of imports import ≡ true) × IsCutAmong (4 ∷ []) d e))
    (λ c import e d is. allowed_to (names_one_of imports import) (fault kinds.EntryTable at) (number 4 d >>= forwarder flags import) e (IsCutAmong (4 ∷ []) d e) ((key import).fails d e) is)
    (λ c import e d wrong. allowed_from (names_one_of imports import) (fault kinds.EntryTable at) (number 4 d >>= forwarder flags import) e (IsCutAmong (4 ∷ []) d e) ((key import).failed d e) wrong)

forward_faults : (imports : ℕ) → Faults (forward_entry imports) (WrongForward imports)
unfolding forward_entry
forward_faults imports =
    field_faults 1 (λ c flags b. number 2 b >>= λ import. after_import imports c.at flags import.0 import.1)
    (λ c e flags b. FieldThen 2 b e (λ import d. ((names_one_of imports import ≡ false) × (e ≡ fault kinds.EntryTable c.at)) ⊎ ((names_one_of imports import ≡ true) × IsCutAmong (4 ∷ []) d e)))
    (λ c flags e b is. (import_faults imports c.at flags).fails b e is)
    (λ c flags e b wrong. (import_faults imports c.at flags).failed b e wrong)

-- ---- the entries of a bundle

abbrev put_front : ℕ → EntryHead → List Numbered × Cursor → Read (List Numbered)
put_front ordinal head others = done ((ordinal, head) ∷ others.0, others.1)

front_fails : (r : Read (List Numbered)) (ordinal : ℕ) (head : EntryHead) (e : LxRefusal) → (r >>= put_front ordinal head) ≡ Err e → r ≡ Err e
front_fails (Ok others) ordinal head e is = absurd (good_ends ((ordinal, head) ∷ others.0, others.1) e is)
front_fails (Err x) ordinal head e is = fails_as (put_front ordinal head) x e is

first_fails : (n ordinal : ℕ) (read : Cursor → Read EntryHead) (Wrong : Cursor → LxRefusal → Type 0) →
    Faults read Wrong → ((d : Cursor) (e : LxRefusal) → bundle_entries n (ordinal + 1) read d ≡ Err e → WrongAmong n read Wrong d e) →
    (c : Cursor) (e : LxRefusal) (r : Read EntryHead) → read c ≡ r → (r >>= λ head. bundle_entries n (ordinal + 1) read head.1 >>= put_front ordinal head.0) ≡ Err e → WrongAmong (suc n) read Wrong c e
first_fails n ordinal read Wrong f again c e (Err x) is fails = inl (f.fails c e (is ∙ fails_as (λ head. bundle_entries n (ordinal + 1) read head.1 >>= put_front ordinal head.0) x e fails))
first_fails n ordinal read Wrong f again c e (Ok head) is fails = inr (head.0, head.1, is, again head.1 e (front_fails (bundle_entries n (ordinal + 1) read head.1) ordinal head.0 e fails))

among_fails : (n ordinal : ℕ) (read : Cursor → Read EntryHead) (Wrong : Cursor → LxRefusal → Type 0) →
    Faults read Wrong → (c : Cursor) (e : LxRefusal) → bundle_entries n ordinal read c ≡ Err e → WrongAmong n read Wrong c e
unfolding bundle_entries
among_fails zero ordinal read Wrong f c e is = absurd (good_ends ([], c) e is)
among_fails (suc n) ordinal read Wrong f c e is = first_fails n ordinal read Wrong f (λ d e. among_fails n (ordinal + 1) read Wrong f d e) c e (read c) refl is

among_failed : (n ordinal : ℕ) (read : Cursor → Read EntryHead) (Wrong : Cursor → LxRefusal → Type 0) →
    Faults read Wrong → (c : Cursor) (e : LxRefusal) → WrongAmong n read Wrong c e → bundle_entries n ordinal read c ≡ Err e
unfolding bundle_entries
among_failed zero ordinal read Wrong f c e wrong = absurd wrong
among_failed (suc n) ordinal read Wrong f c e (inl wrong) = ap (λ (r : Read EntryHead). r >>= λ head. bundle_entries n (ordinal + 1) read head.1 >>= put_front ordinal head.0) (f.failed c e wrong)
among_failed (suc n) ordinal read Wrong f c e (inr more) =
    ap (λ (r : Read EntryHead). r >>= λ head. bundle_entries n (ordinal + 1) read head.1 >>= put_front ordinal head.0) more.2
    ∙ ap (λ (r : Read (List Numbered)). r >>= put_front ordinal more.0) (among_failed n (ordinal + 1) read Wrong f more.1 e more.3)

among_faults : (n ordinal : ℕ) (read : Cursor → Read EntryHead) (Wrong : Cursor → LxRefusal → Type 0) → Faults read Wrong → Faults (bundle_entries n ordinal read) (WrongAmong n read Wrong)
among_faults n ordinal read Wrong f = record { fails = among_fails n ordinal read Wrong f; failed = among_failed n ordinal read Wrong f }

-- ---- by the type of a bundle

object_faults : (objects bundle n ordinal : ℕ) (read : ℕ → Cursor → Read EntryHead) (widths : List ℕ) → ((object : ℕ) → Faults (read object) (IsCutAmong widths)) →
    Faults (object_entries objects bundle n ordinal read) (WrongObjectEntries objects bundle n read widths)
unfolding object_entries
object_faults objects bundle n ordinal read widths each =
    field_faults 2 (λ c object d. cond (not (names_one_of objects object)) (Err (fault kinds.EntryTable bundle)) (bundle_entries n ordinal (read object) d))
    (λ c e object d. ((names_one_of objects object ≡ false) × (e ≡ fault kinds.EntryTable bundle)) ⊎ ((names_one_of objects object ≡ true) × WrongAmong n (read object) (IsCutAmong widths) d e))
    (λ c object e d is. allowed_to (names_one_of objects object) (fault kinds.EntryTable bundle) (bundle_entries n ordinal (read object) d) e (WrongAmong n (read object) (IsCutAmong widths) d e)
    ((among_faults n ordinal (read object) (IsCutAmong widths) (each object)).fails d e) is)
    (λ c object e d wrong. allowed_from (names_one_of objects object) (fault kinds.EntryTable bundle) (bundle_entries n ordinal (read object) d) e (WrongAmong n (read object) (IsCutAmong widths) d e)
    ((among_faults n ordinal (read object) (IsCutAmong widths) (each object)).failed d e) wrong)

unknown_type : (at : ℕ) → Faults {A = List Numbered} (λ c. Err (fault kinds.EntryTable at)) (λ c e. e ≡ fault kinds.EntryTable at)
unknown_type at = record {
  fails = λ c e is. (let same : fault kinds.EntryTable at ≡ e = cc in sym same);
  failed = λ c e is. ap (λ (x : LxRefusal). refused x) (sym is);
}

type_faults : (type objects imports bundle n ordinal : ℕ) → Faults (bundle_of_type type objects imports bundle n ordinal) (WrongOfType type objects imports bundle n)
unfolding bundle_of_type
type_faults zero objects imports bundle n ordinal = record { fails = λ c e is. good_ends ([], c) e is; failed = λ c e wrong. absurd wrong }
type_faults (suc zero) objects imports bundle n ordinal = object_faults objects bundle n ordinal (at_entry 2) (1 ∷ 2 ∷ []) (at_faults 2)
type_faults (suc (suc zero)) objects imports bundle n ordinal = object_faults objects bundle n ordinal gate_entry (1 ∷ 2 ∷ 2 ∷ []) gate_faults
type_faults (suc (suc (suc zero))) objects imports bundle n ordinal = object_faults objects bundle n ordinal (at_entry 4) (1 ∷ 4 ∷ []) (at_faults 4)
type_faults (suc (suc (suc (suc zero)))) objects imports bundle n ordinal =
    let among = among_faults n ordinal (forward_entry imports) (WrongForward imports) (forward_faults imports) in
    field_faults 2 (λ c reserved d. bundle_entries n ordinal (forward_entry imports) d) (λ c e reserved d. WrongAmong n (forward_entry imports) (WrongForward imports) d e)
    (λ c reserved e d is. among.fails d e is) (λ c reserved e d wrong. among.failed d e wrong)
type_faults (suc (suc (suc (suc (suc k))))) objects imports bundle n ordinal = unknown_type bundle

-- ---- a bundle

abbrev bundled : ℕ → ℕ → List Numbered × Cursor → Read (Option (List Numbered × ℕ))
bundled last count entries = done (Some (entries.0, last + count), entries.1)

bundled_fails : (r : Read (List Numbered)) (last count : ℕ) (e : LxRefusal) → (r >>= bundled last count) ≡ Err e → r ≡ Err e
bundled_fails (Ok entries) last count e is = absurd (good_ends (Some (entries.0, last + count), entries.1) e is)
bundled_fails (Err x) last count e is = fails_as (bundled last count) x e is

abbrev after_type : ℕ → ℕ → ℕ → ℕ → ℕ → ℕ → Cursor → Read (Option (List Numbered × ℕ))
after_type objects imports last at count type d = bundle_of_type type objects imports at count (last + 1) d >>= bundled last count

body_faults : (objects imports last at count : ℕ) → Faults (λ b. number 1 b >>= λ type.
    after_type objects imports last at count type.0 type.1) (λ b e. FieldThen 1 b e (λ type d. WrongOfType type objects imports at count d e))
body_faults objects imports last at count =
    field_faults 1 (λ c type d. after_type objects imports last at count type d) (λ c e type d. WrongOfType type objects imports at count d e)
    (λ c type e d is. (type_faults type objects imports at count (last + 1)).fails d e (bundled_fails (bundle_of_type type objects imports at count (last + 1) d) last count e is))
    (λ c type e d wrong. ap (λ (r : Read (List Numbered)). r >>= bundled last count) ((type_faults type objects imports at count (last + 1)).failed d e wrong))

abbrev AfterCount : ℕ → ℕ → ℕ → ℕ → ℕ → Cursor → LxRefusal → Type 0
AfterCount objects imports last at count b e =
    (0 < count)
    × (((MAX_ORDINAL < last + count) × (e ≡ fault kinds.EntryTable at))
    ⊎ ((last + count ≤ MAX_ORDINAL) × FieldThen 1 b e (λ type d. WrongOfType type objects imports at count d e)))

abbrev of_count : ℕ → ℕ → ℕ → ℕ → ℕ → Cursor → Read (Option (List Numbered × ℕ))
of_count objects imports last at count b =
    cond (eqb count 0) (ends b) (cond (ltb MAX_ORDINAL (last + count)) (Err (fault kinds.EntryTable at)) (number 1 b >>= λ type. after_type objects imports last at count type.0 type.1))

count_fails : (objects imports last at count : ℕ) (b : Cursor) (e : LxRefusal) (none : Bool) → eqb count 0 ≡ none →
    cond none (ends b) (cond (ltb MAX_ORDINAL (last + count)) (Err (fault kinds.EntryTable at))
    (number 1 b >>= λ type. after_type objects imports last at count type.0 type.1)) ≡ Err e → AfterCount objects imports last at count b e
count_fails objects imports last at count b e true is fails = absurd (good_ends (None, b) e fails)
count_fails objects imports last at count b e false is fails = (
  positive count is,
  elim (guard_err (ltb MAX_ORDINAL (last + count)) (fault kinds.EntryTable at) e (number 1 b >>= λ type. after_type objects imports last at count type.0 type.1) fails) [
    | inl over ↦ inl (ltb-true _ _ over.0, over.1)
    | inr room ↦ inr (ltb-false _ _ room.0, (body_faults objects imports last at count).fails b e room.1)
  ],
)

count_failed : (objects imports last at count : ℕ) (b : Cursor) (e : LxRefusal) → AfterCount objects imports last at count b e → of_count objects imports last at count b ≡ Err e
count_failed objects imports last at count b e wrong =
    let body = number 1 b >>= λ type. after_type objects imports last at count type.0 type.1 in
    other (eqb count 0) (ends b) (cond (ltb MAX_ORDINAL (last + count)) (Err (fault kinds.EntryTable at)) body) (not_zero count wrong.0)
    ∙ elim wrong.1 [
      | inl over ↦ chosen (ltb MAX_ORDINAL (last + count)) (Err (fault kinds.EntryTable at)) body (lt-ltb _ _ over.0) ∙ ap (λ (x : LxRefusal). refused x) (sym over.1)
      | inr room ↦ other (ltb MAX_ORDINAL (last + count)) (Err (fault kinds.EntryTable at)) body (le-ltb _ _ room.0) ∙ (body_faults objects imports last at count).failed b e room.1
    ]

bundle_faults : (objects imports last : ℕ) → Faults (bundle_at objects imports last) (WrongBundle objects imports last)
unfolding bundle_at
bundle_faults objects imports last =
    field_faults 1 (λ c count b. of_count objects imports last c.at count b) (λ c e count b. AfterCount objects imports last c.at count b e)
    (λ c count e b is. count_fails objects imports last c.at count b e (eqb count 0) refl is)
    (λ c count e b wrong. count_failed objects imports last c.at count b e wrong)

pub bundle_table : (objects imports : ℕ) → Table (bundle_at objects imports) bundle_spelling (BundleGoes objects imports) last_with (WrongBundle objects imports)
bundle_table objects imports = record {
  shorter = bundle_shortens objects imports;
  taken = λ last c d o h e.
      let t = bundle_taken objects imports last c d (Some o) h e in
      let room = t.room in
      let last_is = t.last_is in
      record { written = t.bundle; good = (t.fits, omega (arith, room, last_is)); taken = t.taken };
  reads = λ last b goes at rest. (enumerate_from (last + 1) (heads_of b), bundle_reads objects imports last b goes.0 goes.1 at rest);
  fails = λ last c e h is. (bundle_faults objects imports last).fails c e is;
  failed = λ last c e wrong. (bundle_faults objects imports last).failed c e wrong;
}
