use Rattle.lx_types.specs.Parts.{span}
use Rattle.lx_fixrec.specs.Left.{left_in, count_of}
use Rattle.lx_read.specs.Targets.{targets}
use Rattle.lx_read.proofs.Sources.{PageKept}
use Rattle.lx_read.proofs.references.add_page.Given as goal

-- the sources so far have no fault, and their targets are added
abbrev pub invariant-loop-source : goal.invariant-loop-source
invariant-loop-source l = PageKept (targets l.within) (left_in l.fn.place.0 (span l.within.file.now l.fn.place.0 l.fn.place.1)) l.fn.references.keys l.sources l.references.keys

abbrev pub decreases-loop-source : goal.decreases-loop-source
decreases-loop-source l = count_of l.sources
