use Rattle.process_view.proofs.Words.{nowhere}
use Rattle.process_view.proofs.Lookups.{is_used}
use Rattle.process_view.proofs.view.View.class_at.Goals as goal

pub class_of-requires-clause-object : goal.class_of-requires-clause-object
class_of-requires-clause-object c =
    rw (c.library.ensures, c.residence_module.ensures.number nowhere)
    (is_used c.args.self.now c.requires.used.0 c.args.place.now c.args.k nowhere c.requires.used.1 c.requires.named).inside.there
