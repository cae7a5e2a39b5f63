use Rattle.std.proofs.Common.{◌≡◌, map}
use Rattle.std.specs.List.{range_with_len}
use Rattle.dump_model.specs.Listings.{listed_object}
use Rattle.dump_core.proofs.listed.listed_objects.Given as goal

abbrev pub invariant-loop : goal.invariant-loop
invariant-loop l = (l.number ≡ l.index) × (l.objects.items ≡ map (listed_object l.m) (range_with_len 1 l.index))
