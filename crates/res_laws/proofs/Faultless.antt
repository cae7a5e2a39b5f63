-- The bound file has no fault.
use Rattle.std.proofs.Common.{◌≡◌, ℕ, List, None}
use Rattle.lx_model.specs.Reading.{first_of, ◌then◌}
use Rattle.lx_model.specs.Header.{page_count, header_fault, start_fault}
use Rattle.lx_model.specs.Tables.{objects_fault, pages_fault}
use Rattle.lx_model.specs.NameTables.{resident_fault, others_fault, imports_fault}
use Rattle.lx_model.specs.EntryTable.{entries_fault}
use Rattle.lx_model.specs.FixupPages.{spans_fault}
use Rattle.lx_model.specs.Module.{LxFault, page_records_fault}
use Rattle.res_model.specs.declared.item.ResItem.{ResItem}
use Rattle.res_laws.proofs.Standing.{extended}
use Rattle.res_laws.proofs.Layouts.{CanExtend}
use Rattle.res_laws.proofs.HeaderFaults.{none_then, header_faultless}
use Rattle.res_laws.proofs.ObjectsNow.{objects_faultless}
use Rattle.res_laws.proofs.PageFaults.{pages_faultless}
use Rattle.res_laws.proofs.SpansNow.{spans_faultless}
use Rattle.res_laws.proofs.NamesNow.{residents_faultless, others_faultless, imports_faultless, entries_faultless, start_faultless}
use Rattle.res_laws.proofs.RecordsNow.{records_faultless}

pub faultless : (file : List ℕ) (items : List ResItem) → CanExtend file items → LxFault (extended file items) ≡ None
unfolding LxFault
faultless file items can =
    let now = extended file items in
    let a = first_of (page_count now) (page_records_fault now) in
    let b = spans_fault now then a in
    let c = start_fault now then b in
    let d = entries_fault now then c in
    let e = imports_fault now then d in
    let f = others_fault now then e in
    let g = resident_fault now then f in
    let h = pages_fault now then g in
    let i = objects_fault now then h in
    none_then (header_fault now) i (header_faultless file items can)
    (none_then (objects_fault now) h (objects_faultless file items can)
    (none_then (pages_fault now) g (pages_faultless file items can)
    (none_then (resident_fault now) f (residents_faultless file items can)
    (none_then (others_fault now) e (others_faultless file items can)
    (none_then (imports_fault now) d (imports_faultless file items can)
    (none_then (entries_fault now) c (entries_faultless file items can)
    (none_then (start_fault now) b (start_faultless file items can)
    (none_then (spans_fault now) a (spans_faultless file items can) (records_faultless file items can)))))))))
