use Rattle.lx_model.specs.Header.{page_count}
use Rattle.lx_model.specs.Tables.{page_or_zero, page_entry, page_place, page_fault}
use Rattle.lx_read.proofs.TableLoop.{Kept}
use Rattle.lx_read.proofs.pages.read_pages.Given as goal

-- the pages so far and those that are left are all
abbrev pub invariant-loop-k : goal.invariant-loop-k
invariant-loop-k l = Kept (page_fault l.file) (λ k. page_or_zero (page_entry l.file (page_place l.file k))) (page_count l.file) l.k l.pages
