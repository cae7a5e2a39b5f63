use Rattle.std.proofs.Common.{subst, sym, ◌∙◌, arith}
use Rattle.dump_model.specs.Bounds.{IsListing}
use Rattle.dump_model.specs.Dumps.{Dump}
use Rattle.dump_read.specs.Taken.{Reads, shut}
use Rattle.dump_read.proofs.Refusals.{dump-read, one-dump}
use Rattle.dump_read.proofs.reading.read_dump.Goals as goal

pub returns-clause-one : goal.returns-clause-one
returns-clause-one c l dump =
    one-dump c.args.bytes.now l c.in_ok-listing.listing dump
    (dump-read c.args.bytes.now c.whole.new.reader c.in_ok-listing.listing
    (subst (λ s. Reads Dump IsListing shut c.in_ok-listing.listing s c.whole.new.reader) c.of-reader.ensures c.in_ok-listing.ensures)
    (sym c.has_stopped.ensures ∙ c.if-has_stopped.false) (omega (arith, c.left.ensures, c.if-left-gt0.false)))
