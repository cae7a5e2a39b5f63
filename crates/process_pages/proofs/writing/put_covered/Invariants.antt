use Rattle.process_pages.proofs.Words.{map, residence_in, ◌≡◌, ◌≤◌, ◌+◌}
use Rattle.process_pages.specs.Writing.{covered_end}
use Rattle.process_pages.proofs.Covering.{below}
use Rattle.process_pages.proofs.writing.put_covered.Given as goal

abbrev pub invariant-loop-page : goal.invariant-loop-page
invariant-loop-page l = (l.pages ≡ map (below l.page (residence_in l.reached).serial l.write) l.initial.pages) × (covered_end l.place ≤ l.spares + l.page)
