use Rattle.transcript_read.proofs.Chain.{none_told}
use Rattle.transcript_read.proofs.Tellings.{no_deed_with_bytes}
use Rattle.transcript_read.proofs.deeds.with_bytes.Goals as goal

pub returns-in_default-3 : goal.returns-in_default-3
returns-in_default-3 c =
    no_deed_with_bytes c.args.names.now _ (none_told c.in_ok-at.ensures c.in_default.is) (none_told c.in_ok-at-2.ensures c.in_default-2.is)
    (none_told c.in_ok-at-3.ensures c.in_default-3.is)
