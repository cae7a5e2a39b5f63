use Rattle.lx_read.proofs.PageReferences.{PagesKept}
use Rattle.lx_read.proofs.references.read_references.Given as goal

-- the pages so far have no fault, and their references are listed
abbrev pub invariant-loop-span : goal.invariant-loop-span
invariant-loop-span l = PagesKept l.within.file.now l.span-index l.references.keys
