-- What the writers of a record's fields add.
use Rattle.std.specs.Prelude.{ℕ, List, [], ◌∷◌, length, map, nat_lt, ℤ, take, filter, if◌then◌else◌, ◌-◌}
use Rattle.std.specs.List.{flat_map}
use Rattle.lx_types.specs.declared.fix.Fix.{Fix}
use Rattle.lx_types.specs.declared.fix.FixTarget.{FixTarget}
use Rattle.lx_model.specs.RecordSpelling.{Written, target_code, flags_of, record_spelling}
use Rattle.lx_model.specs.JoinedRecords.{Listed, shortest, record_of, begins, joins}
use Rattle.lx_model.specs.declared.record_fields.TheConstants.{MAX_LISTED}

abbrev pub shortest_flags : FixTarget → ℕ → ℕ
shortest_flags target additive = flags_of (shortest target additive) (target_code target)

-- the record of a source and of those that stand at other offsets
abbrev pub record_with : Fix → List ℤ → Written
record_with f others = record {
  kind = record { source = f.source; alias = f.alias; listed = nat_lt 0 (length others) };
  sizes = shortest f.target f.additive;
  target = f.target;
  additive = f.additive;
  offsets = f.offset ∷ others;
}

abbrev pub spelled : List Listed → List ℕ
spelled records = flat_map record_spelling (map record_of records)

-- the record that a source begins, if it begins one: after these, before those
abbrev pub begun : List Fix → Fix → List Fix → List ℕ
begun earlier f others =
    if begins earlier f then record_spelling (record_of (record { first = f; others = take (MAX_LISTED - 1) (filter (joins f) others) })) else []

-- the same for the first of those that are left
abbrev pub begun_by : List Fix → List Fix → List ℕ
begun_by earlier [] = []
begun_by earlier (f ∷ fs) = begun earlier f fs
