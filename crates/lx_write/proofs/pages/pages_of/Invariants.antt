use Rattle.std.proofs.Common.{◌≡◌, drop}
use Rattle.lx_write.specs.Growing.{with_pages}
use Rattle.lx_write.proofs.PagesAdded.{forms_in}
use Rattle.lx_write.proofs.pages.pages_of.Given as goal

abbrev pub invariant-loop-bytes : goal.invariant-loop-bytes
invariant-loop-bytes l = with_pages l.pages (forms_in (drop l.bytes-index l.objects)) ≡ with_pages l.initial.pages (forms_in l.objects)
