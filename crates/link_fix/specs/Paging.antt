-- The records of pages, where these are the import pairs of the link and `recorded` its recorded fixups.
use Rattle.std.specs.Prelude.{ℕ, ◌+◌, List, [], ◌∷◌, Option, Some, None, not, if◌then◌else◌, ◌==◌, nat_le, slice_get, filter, reverse}
use Rattle.std.specs.List.{filter_map, cons_option}
use Rattle.std.specs.Option.{option_map, option_and_then, option_map_or}
use Rattle.std.specs.Global.{Vec}
use Rattle.lx_types.specs.declared.limits.TheConstants.{BASE_UNIT}
use Rattle.lx_types.specs.declared.fix.Fix.{Fix}
use Rattle.lx_types.specs.declared.fix.FixTarget.{FixTarget}
use Rattle.lx_types.specs.declared.fix.FixTarget.TheVariants as leads
use Rattle.obj_types.specs.declared.location.TheConstants.{LOCATION_SELECTOR}
use Rattle.obj_types.specs.declared.symbol.Imp.{Imp}
use Rattle.link_model.specs.Words.{wrapped}
use Rattle.link_model.specs.Goals.{Target, Internal, Constant, Entry}
use Rattle.link_model.specs.Fixups as rules
use Rattle.link_model.specs.Patches.{is_patched}
use Rattle.link_model.specs.ImportTables.{import_target}
use Rattle.link_model.specs.Records.{source_of, has_alias, offset_on, stands_on}
use Rattle.link_fix.specs.declared.paging.PageFixes.{PageFixes}

-- A record's target and additive, where these pairs are in the import tables.
abbrev pub target_among : List Imp → List Imp → rules.Fixup → Target → Option (FixTarget × ℕ)
target_among imports pairs q (Internal o offset) =
    let at = wrapped (offset + q.fix.disp) in
    Some (if q.fix.loc == LOCATION_SELECTOR then (leads.Internal o 0, if nat_le BASE_UNIT at then at else 0)
    else (leads.Internal o (wrapped (at + q.standing)), 0))
target_among imports pairs q (Constant value) = None
target_among imports pairs q (Entry slot) =
    option_map (λ target. (target, wrapped (q.fix.disp + q.standing)))
    (option_and_then (import_target pairs) (slice_get imports slot))

-- The record on page k that leads to this target.
abbrev pub record_with : ℕ → rules.Fixup → FixTarget × ℕ → Fix
record_with k q t = record { source = source_of q; alias = has_alias q; offset = offset_on k q; target = t.0; additive = t.1 }

abbrev pub record_among : List Imp → List Imp → ℕ → rules.Fixup → Option Fix
record_among imports pairs k q = option_map (record_with k q) (target_among imports pairs q q.target)

abbrev pub records_among : List Imp → List Imp → List rules.Fixup → ℕ → ℕ → List Fix
records_among imports pairs qs object k = filter_map (record_among imports pairs k) (filter (stands_on object k) qs)

-- Those of these fixups that get records.
abbrev pub recorded_in : List rules.Fixup → List rules.Fixup
recorded_in qs = filter (λ q. not (is_patched q)) qs

-- The records of a page with those of a fixup before them.
abbrev pub records_before : List Imp → List Imp → rules.Fixup → ℕ → ℕ → List Fix → List Fix
records_before imports pairs q object k fixes =
    if is_patched q then fixes
    else if stands_on object k q then cons_option (record_among imports pairs k q) fixes
    else fixes

-- The records of a page of a row, in which they stand from the last to the first.
abbrev pub page_in : List (Vec Fix) → ℕ → List Fix
page_in row k = option_map_or (λ page. reverse page.items) (slice_get row k) []

-- The records of page k of row n.
abbrev pub fixes_of : PageFixes → ℕ → ℕ → List Fix
fixes_of pages n k = option_map_or (λ row. page_in row.items k) (slice_get pages.rows.items n) []

-- The records after one was added before those of its page.
abbrev pub fixes_after : PageFixes → ℕ → ℕ → Fix → ℕ → ℕ → List Fix
fixes_after pages row page fix n k =
    if row == n then (if page == k then fix ∷ fixes_of pages n k else fixes_of pages n k) else fixes_of pages n k
