use Rattle.std.proofs.Common.{◌≡◌, map, drop, false}
use Rattle.std.specs.List.{AllByRecursion}
use Rattle.dump_read.specs.Taken.{is_front}
use Rattle.dump_read.proofs.bytes.place_of.Given as goal

abbrev pub invariant-loop-text : goal.invariant-loop-text
invariant-loop-text l = record {
  count : l.k ≡ l.text-index;
  others : AllByRecursion (λ p. is_front p l.bytes ≡ false) (map (λ p. p.now) (drop l.text-index l.choices))
      → AllByRecursion (λ p. is_front p l.bytes ≡ false) (map (λ p. p.now) l.choices);
}
