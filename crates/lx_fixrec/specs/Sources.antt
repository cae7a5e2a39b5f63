-- A record and its sources, those that are left of it.
use Rattle.std.specs.Prelude.{◌≡◌, ℕ, ◌∷◌, [], List, ℤ, Option, Some, None, Result, Ok, Err}
use Rattle.std.specs.Option.{ForSome}
use Rattle.lx_bytes.specs.Cursor.{Cursor}
use Rattle.lx_types.specs.declared.fix.Fix.{Fix}
use Rattle.lx_types.specs.declared.fix.Source.{Source}
use Rattle.lx_model.specs.Reading.{Read, value_or, fault_of}
use Rattle.lx_model.specs.RecordFields.{offsets_at}
use Rattle.lx_model.specs.Records.{fixes_at_offsets}
use Rattle.lx_fixrec.specs.Reads.{kind_of, refusal}
use Rattle.lx_fixrec.specs.declared.refusal.RecRefusal.{RecRefusal}
use Rattle.lx_fixrec.specs.declared.record.Record.{Record}

-- the offsets that are left of a record
abbrev pub offsets_left : ℕ → Source → Cursor → List ℤ
offsets_left n source c = (value_or ([], c) (offsets_at n source c)).0

abbrev pub record_fixes : Record → List Fix
record_fixes r = fixes_at_offsets (kind_of r.kind) r.target r.additive (offsets_left r.left r.kind.source r.offsets)

abbrev pub fix_of : Record → ℤ → Fix
fix_of r offset = record { source = r.kind.source; alias = r.kind.alias; offset = offset; target = r.target; additive = r.additive }

-- the offsets that are left have no fault
abbrev pub IsGood : Record → Type 0
IsGood r = fault_of (offsets_at r.left r.kind.source r.offsets) ≡ None

-- a call that passes over offsets
abbrev pub Skips : Result (Unit {0}) RecRefusal → (Cursor → Read (List ℤ)) → Cursor → Cursor → Type 0
Skips (Ok done) read old new = (offsets : List ℤ) × (read old ≡ Ok (offsets, new))
Skips (Err r) read old new = read old ≡ Err (refusal r)

-- a call that gives the next source of a record
abbrev pub GivesFix : Option Fix → Record → Record → Type 0
GivesFix (Some f) old new = (record_fixes old ≡ f ∷ record_fixes new) × IsGood new
GivesFix None old new = (record_fixes old ≡ []) × (new ≡ old)

-- the sources that are left of a record, where there is one
abbrev pub fixes_left : Option Record → List Fix
fixes_left None = []
fixes_left (Some r) = record_fixes r

-- the same call where there may be no record
abbrev pub GivesLeft : Option Fix → Option Record → Option Record → Type 0
GivesLeft (Some f) old new = (fixes_left old ≡ f ∷ fixes_left new) × ForSome new IsGood
GivesLeft None old new = (fixes_left old ≡ []) × (new ≡ old)
