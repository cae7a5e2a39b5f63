use Rattle.std.proofs.Common.{◌++◌, ap}
use Rattle.image_model.specs.File.{sections_bytes}
use Rattle.lx_write.specs.Sections.{sections_value}
use Rattle.lx_write.proofs.Fields.{more, last}
use Rattle.lx_write.proofs.file.join.Goals as goal

pub returns : goal.returns
returns c =
    let file = ap (λ bs. bs ++ sections_bytes (sections_value c.args.s.now)) c.in_ok-file.ensures in
    let objects = more _ _ _ _ _ _ file c.as_slice.ensures c.in_ok-extend_from_slice.ensures.items in
    let pages = more _ _ _ _ _ _ objects c.as_slice-2.ensures c.in_ok-extend_from_slice-2.ensures.items in
    let residents = more _ _ _ _ _ _ pages c.as_slice-3.ensures c.in_ok-extend_from_slice-3.ensures.items in
    let entries = more _ _ _ _ _ _ residents c.as_slice-4.ensures c.in_ok-extend_from_slice-4.ensures.items in
    let spans = more _ _ _ _ _ _ entries c.as_slice-5.ensures c.in_ok-extend_from_slice-5.ensures.items in
    let records = more _ _ _ _ _ _ spans c.as_slice-6.ensures c.in_ok-extend_from_slice-6.ensures.items in
    let imports = more _ _ _ _ _ _ records c.as_slice-7.ensures c.in_ok-extend_from_slice-7.ensures.items in
    let procs = more _ _ _ _ _ _ imports c.as_slice-8.ensures c.in_ok-extend_from_slice-8.ensures.items in
    let contents = more _ _ _ _ _ _ procs c.as_slice-9.ensures c.in_ok-extend_from_slice-9.ensures.items in
    last _ _ _ _ _ contents c.as_slice-10.ensures c.in_ok-extend_from_slice-10.ensures.items
