use Rattle.process_view.proofs.Words.{nowhere}
use Rattle.process_view.proofs.view.View.is_shared_page.Goals as goal

pub is_shared_page-requires-clause-object : goal.is_shared_page-requires-clause-object
is_shared_page-requires-clause-object c = rw (c.library.ensures, c.residence_module.ensures.number nowhere) (c.requires.object nowhere)

pub is_shared_page-requires-clause-page : goal.is_shared_page-requires-clause-page
is_shared_page-requires-clause-page c = rw (c.library.ensures, c.residence_module.ensures.number nowhere) (c.requires.page nowhere)
