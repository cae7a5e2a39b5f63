use Rattle.std.proofs.Common.{None, ap, ◌∙◌, ◌++◌}
use Rattle.lx_model.specs.NameTables.{first_name, names_after_first}
use Rattle.lx_read.specs.declared.reading.Pages.{Pages}
use Rattle.lx_read.specs.Reading.{pages_in, links_in}
use Rattle.lx_read.proofs.WholeFiles.{no_header, header_read, no_pages, no_links, links_wrong}
use Rattle.lx_read.proofs.reading.read_tables.Goals as goal

pub returns-in_err-header : goal.returns-in_err-header
returns-in_err-header c = no_header c.args.file.now c.read_header.result c.in_err-header.field-0.0 c.from_residual.result c.read_header.ensures c.in_err-header.ensures c.from_residual.ensures.1

pub read_page_tables-requires : goal.read_page_tables-requires
read_page_tables-requires c = (header_read c.args.file.now c.read_header.result c.in_ok-header.header c.read_header.ensures c.in_ok-header.ensures).1

pub returns-in_err-tables : goal.returns-in_err-tables
returns-in_err-tables c =
    let header = header_read c.args.file.now c.read_header.result c.in_ok-header.header c.read_header.ensures c.in_ok-header.ensures in
    no_pages c.args.file.now (pages_in c.args.file.now) c.in_err-tables.field-0.0 c.from_residual-in_err-tables.result header.0 c.in_err-tables.ensures c.from_residual-in_err-tables.ensures.1

pub returns-in_err-links : goal.returns-in_err-links
returns-in_err-links c =
    let header = header_read c.args.file.now c.read_header.result c.in_ok-header.header c.read_header.ensures c.in_ok-header.ensures in
    no_links c.args.file.now (links_in c.args.file.now) c.in_err-links.field-0.0 c.from_residual-in_err-links.result header.0 c.in_ok-tables.ensures.0 c.in_err-links.ensures c.from_residual-in_err-links.ensures.1

pub returns : goal.returns
returns c =
    let file = c.args.file.now in
    let header = header_read file c.read_header.result c.in_ok-header.header c.read_header.ensures c.in_ok-header.ensures in
    let tables = c.in_ok-tables.ensures in
    let links = c.in_ok-links.ensures in (
      links_wrong file None header.0 tables.0 links.0,
      record {
        header = header.1;
        name = c.in_ok-name.ensures.name ∙ ap (λ (p : Pages). first_name p.resident) tables.1;
        names = c.in_ok-name.ensures.names ∙ ap (λ (p : Pages). names_after_first p.resident ++ names_after_first p.others) tables.1;
        objects = ap (λ (p : Pages). p.objects) tables.1;
        pages = ap (λ (p : Pages). p.pages) tables.1;
        links = links.1;
      },
    )
