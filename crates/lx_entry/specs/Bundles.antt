-- What a reader of bundles answers: the entries stand after those of the bundles before.
use Rattle.std.specs.Prelude.{◌≡◌, ℕ, zero, suc, not, List, ◌++◌, Option, Some, None, Result, Ok, Err, ◌+◌, ◌==◌, nat_lt, if◌then◌else◌}
use Rattle.std.specs.List.{flat_map}
use Rattle.lx_bytes.specs.Cursor.{Cursor}
use Rattle.lx_types.specs.declared.entry.EntryHead.{EntryHead}
use Rattle.lx_types.specs.declared.fail.Fail.{Fail}
use Rattle.lx_types.specs.Answers.{Tells, if_said_as}
use Rattle.lx_types.specs.declared.refusal.LxRefusal.{LxRefusal}
use Rattle.lx_types.specs.declared.refusal.LxKind.TheVariants.{EntryTable}
use Rattle.lx_model.specs.Reading.{fault, number, Read, ◌>>=◌, Many, whole}
use Rattle.lx_model.specs.EntryTable.{Numbered, names_one_of, at_entry, gate_entry, forward_entry}
use Rattle.lx_model.specs.declared.limits.TheConstants.{MAX_ORDINAL}
use Rattle.lx_entry.specs.declared.bundles.Form.{Form}
use Rattle.lx_entry.specs.declared.bundles.Form.TheVariants.{Narrow, Gate, Wide, Forwarder}
use Rattle.lx_entry.specs.declared.bundles.Head.{Head}
use Rattle.lx_entry.specs.declared.refusal.TableRefusal.{TableRefusal}
use Rattle.lx_entry.specs.Refusals.{refusal}

-- how an entry of a form is read
abbrev pub entry_at : Form → ℕ → Cursor → Read EntryHead
entry_at (Narrow object) imports c = at_entry 2 object c
entry_at (Gate object) imports c = gate_entry object c
entry_at (Wide object) imports c = at_entry 4 object c
entry_at Forwarder imports c = forward_entry imports c

-- the number of an object that is there, which the entries of a bundle share
abbrev pub object_at : ℕ → ℕ → Cursor → Read ℕ
object_at objects bundle c = do
  object ← number 2 c
  if not (names_one_of objects object.0) then Err (fault EntryTable bundle) else Ok object

-- How the entries of a bundle of a type are written: the object word of types 1 to 3, and the reserved word of
-- type 4, are read; type 0 has no entries.
abbrev pub form_at : ℕ → ℕ → ℕ → Cursor → Read (Option Form)
form_at zero objects bundle c = Ok (None, c)
form_at (suc zero) objects bundle c = object_at objects bundle c >>= λ object. Ok (Some (Narrow object.0), object.1)
form_at (suc (suc zero)) objects bundle c = object_at objects bundle c >>= λ object. Ok (Some (Gate object.0), object.1)
form_at (suc (suc (suc zero))) objects bundle c = object_at objects bundle c >>= λ object. Ok (Some (Wide object.0), object.1)
form_at (suc (suc (suc (suc zero)))) objects bundle c = number 2 c >>= λ reserved. Ok (Some Forwarder, reserved.1)
form_at (suc (suc (suc (suc (suc k))))) objects bundle c = Err (fault EntryTable bundle)

-- what stands before the entries of a bundle, after the last ordinal of those before it
abbrev pub head_at : ℕ → ℕ → Cursor → Read (Option Head)
head_at objects last c = do
  count ← number 1 c
  if count.0 == 0 then Ok (None, count.1) else if nat_lt MAX_ORDINAL (last + count.0) then Err (fault EntryTable c.at) else do
    type ← number 1 count.1
    form ← form_at type.0 objects c.at type.1
    Ok (Some (record { count = count.0; form = form.0 }), form.1)

-- entries after those that stand there already
abbrev pub onto : List Numbered → Read (List Numbered) → Read (List Numbered)
onto before read = read >>= λ es. Ok (before ++ es.0, es.1)

-- What a call answers that adds entries. Want of memory is free.
abbrev pub Adds : Result (Unit {0}) (Fail TableRefusal) → Read (List Numbered) → List Numbered → List Numbered → Cursor → Type 0
Adds (Ok done) read before after new = onto before read ≡ Ok (after, new)
Adds (Err e) read before after new = Tells (if_said_as (refusal EntryTable) e) read

-- What a call answers that adds the entries of the next bundle: the last ordinal, or none at the table's end.
abbrev pub AddsBundle : Result (Option ℕ) (Fail TableRefusal) → Read (Option (List Numbered × ℕ)) → List Numbered → List Numbered → Cursor → Type 0
AddsBundle (Ok None) read before after new = (read ≡ Ok (None, new)) × (after ≡ before)
AddsBundle (Ok (Some last)) read before after new = (es : List Numbered) × (read ≡ Ok (Some (es, last), new)) × (after ≡ before ++ es)
AddsBundle (Err e) read before after new = Tells (if_said_as (refusal EntryTable) e) read

-- the entries of a table, of which these are those before the rest of its bundles
abbrev pub joined : List Numbered → Many (List Numbered) → Result (List Numbered) LxRefusal
joined before rest = whole rest >>= λ bundles. Ok (before ++ flat_map (λ es. es) bundles)
