use Rattle.std.proofs.Common.{refl}
use Rattle.load_model.specs.declared.deeds.Deed.TheVariants as deeds
use Rattle.session_model.specs.Transcript.{deed_words}
use Rattle.transcript_read.specs.Ranges.{IsBareDeed}
use Rattle.transcript_read.proofs.Chain.{none_told}
use Rattle.transcript_read.proofs.Tellings.{as_whole, bytes_whole, free_bare, others_unmade}
use Rattle.transcript_read.proofs.deeds.deed.Goals as goal

pub returns-in-Some-freed : goal.returns-in-Some-freed
returns-in-Some-freed c =
    as_whole c.freed.ensures c.in-Some-freed.module c.in-Some-freed.is (deed_words c.args.names.now) (IsBareDeed c.args.names.now)
    (deeds.Free c.in-Some-freed.module c.new-calls-in-Some-freed.result c.new-gone.result)
    (λ h. free_bare c.args.names.now c.in-Some-freed.module c.new-calls-in-Some-freed.result c.new-gone.result h c.new-calls-in-Some-freed.ensures c.new-gone.ensures) refl

pub returns-in-Some-2 : goal.returns-in-Some-2
returns-in-Some-2 c = bytes_whole c.args.names.now c.in-Some-2.deed c.in_ok-deed.field-0 _ c.in_ok-deed.ensures c.in-Some-2.is

pub returns : goal.returns
returns c =
    others_unmade c.args.names.now c.unmade.result _ c.in_default.ensures c.in_default-entering.ensures c.in_default-freed.ensures c.in_default-exit.ensures
    (none_told c.in_ok-deed.ensures c.in_default-2.is) c.unmade.ensures
