use Rattle.process_view.proofs.Words.{list_any, page, range_with_len, ◌-◌, ◌≡◌}
use Rattle.load_model.specs.Modules as modules
use Rattle.process_view.proofs.spans.covers_invalid.Given as goal

abbrev pub invariant-loop-page : goal.invariant-loop-page
invariant-loop-page l =
    list_any (λ n. modules.is_invalid l.lib l.m (page l.place.object n)) (range_with_len l.page (l.page-end - l.page))
    ≡ list_any (λ n. modules.is_invalid l.lib l.m (page l.place.object n)) (range_with_len l.initial.page (l.page-end - l.initial.page))
