use Rattle.std.proofs.Common.{◌≡◌, map, drop}
use Rattle.dump_read.specs.Taken.{is_begun}
use Rattle.dump_read.proofs.bytes.any_begins_with.Given as goal

abbrev pub invariant-loop-text : goal.invariant-loop-text
invariant-loop-text l = is_begun (map (λ p. p.now) (drop l.text-index l.choices)) l.bytes ≡ is_begun (map (λ p. p.now) l.choices) l.bytes
