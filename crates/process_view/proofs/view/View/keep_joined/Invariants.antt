use Rattle.process_view.proofs.Words.{AreEmpty, CanJoin, length, modules_of, with_residences, zip_first, zip_second, ◌≡◌}
use Rattle.process_view.proofs.view.View.keep_joined.Given as goal

abbrev pub invariant-loop-residence : goal.invariant-loop-residence
invariant-loop-residence l =
    let rs = (zip_first l.residence-iterator).rest in
    let rows = (zip_second l.residence-iterator).rest in
    (goal.iterator-loop-residence).can_next l.residence-iterator ×
    (goal.iterator-loop-residence).is_finite l.residence-iterator ×
    (length rs.items ≡ rs.len) ×
    (length rows.items ≡ rows.len) ×
    CanJoin l.self rs.items ×
    AreEmpty l.self.library (modules_of rs.items) rows.items ×
    (with_residences rs.items l.self ≡ with_residences l.fn.joined.items l.initial.self)
