use Rattle.std.proofs.Common.{◌≡◌, map}
use Rattle.std.specs.List.{range_with_len}
use Rattle.dump_model.specs.Listings.{listed_page, page_id}
use Rattle.dump_core.proofs.listed.listed_object.Given as goal

abbrev pub invariant-loop-page : goal.invariant-loop-page
invariant-loop-page l = l.pages.items ≡ map (λ i. listed_page l.m (page_id l.number i)) (range_with_len 0 l.page)
