use Rattle.std.proofs.Common.{◌≡◌, take}
use Rattle.lx_model.specs.TableSpelling.{pages_spelling}
use Rattle.lx_head.proofs.tables.write_pages.Given as goal

-- the entries so far
abbrev pub invariant-loop-page : goal.invariant-loop-page
invariant-loop-page l = l.out.items ≡ pages_spelling (take l.page-index l.pages)
