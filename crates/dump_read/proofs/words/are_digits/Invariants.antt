use Rattle.std.proofs.Common.{drop}
use Rattle.std.specs.List.{AllByRecursion}
use Rattle.dump_model.specs.Words.{IsHex}
use Rattle.dump_read.proofs.words.are_digits.Given as goal

abbrev pub invariant-loop-byte : goal.invariant-loop-byte
invariant-loop-byte l = record {
  to : AllByRecursion IsHex (drop l.byte-index l.word) → AllByRecursion IsHex l.word;
  from : AllByRecursion IsHex l.word → AllByRecursion IsHex (drop l.byte-index l.word);
}
