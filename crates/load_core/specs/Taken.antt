-- What is kept beside a residence whose right to a page was taken.
use Rattle.std.specs.Prelude.{not, filter}
use Rattle.lx_types.specs.declared.object.PageId.{PageId}
use Rattle.page_fix.specs.Fixable.{is_page}
use Rattle.load_core.specs.declared.residence_parts.ResidenceParts.{ResidenceParts}

abbrev pub without_right : PageId → ResidenceParts → ResidenceParts
without_right p beside = record beside { rights = record beside.rights { left = filter (λ q. not (is_page p q)) beside.rights.left } }
