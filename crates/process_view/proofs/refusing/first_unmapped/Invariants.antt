use Rattle.process_view.proofs.Words.{find, is_none, page, place_in, range_with_len, ◌-◌, ◌≡◌}
use Rattle.process_view.proofs.refusing.first_unmapped.Given as goal

abbrev pub invariant-loop-page : goal.invariant-loop-page
invariant-loop-page l =
    find (λ n. is_none (place_in l.places (page l.object n))) (range_with_len l.page (l.page-end - l.page))
    ≡ find (λ n. is_none (place_in l.places (page l.object n))) (range_with_len l.initial.page (l.page-end - l.initial.page))
