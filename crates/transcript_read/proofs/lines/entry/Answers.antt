use Rattle.std.proofs.Common.{sym, ◌∙◌}
use Rattle.std.specs.Prelude.{[]}
use Rattle.load_model.specs.declared.deeds.Deed.TheVariants as deeds
use Rattle.transcript_read.specs.declared.lines.BareEntry.{BareEntry}
use Rattle.session_model.specs.Transcript.{deed_words}
use Rattle.transcript_read.specs.Ranges.{IsBareDeed, IsBareEntry}
use Rattle.transcript_read.proofs.Chain.{none_told, one_more, stopped_tells, tells, told_none, told_some}
use Rattle.transcript_read.proofs.lines.entry.Goals as goal

pub returns-then-has_stopped : goal.returns-then-has_stopped
returns-then-has_stopped c =
    let v : BareEntry = record { number = c.count-number.result; process = c.process-process.result; deed = deeds.Exit [] [] } in
    tells (one_more v (λ x. x.number) c.count-number.ensures
    (one_more v (λ x. x.process) c.process-process.ensures
    (told_none v (λ x. x.deed) (stopped_tells (deed_words c.args.names.now) (IsBareDeed c.args.names.now) _ (sym c.has_stopped.ensures ∙ c.if-has_stopped.true)))))
    (IsBareEntry c.args.names.now) (λ x h. (h.0, h.1.0, h.1.1)) (λ x h. (h.0, (h.1, h.2)))

pub returns-in_default : goal.returns-in_default
returns-in_default c =
    let v : BareEntry = record { number = c.count-number.result; process = c.process-process.result; deed = deeds.Exit [] [] } in
    tells (one_more v (λ x. x.number) c.count-number.ensures
    (one_more v (λ x. x.process) c.process-process.ensures
    (told_none v (λ x. x.deed) (none_told c.in_ok-deed.ensures c.in_default.is))))
    (IsBareEntry c.args.names.now) (λ x h. (h.0, h.1.0, h.1.1)) (λ x h. (h.0, (h.1, h.2)))

pub returns : goal.returns
returns c =
    let v : BareEntry = record { number = c.count-number.result; process = c.process-process.result; deed = c.in-Some.deed } in
    tells (one_more v (λ x. x.number) c.count-number.ensures
    (one_more v (λ x. x.process) c.process-process.ensures
    (told_some v (λ x. x.deed) c.in_ok-deed.ensures c.in-Some.is)))
    (IsBareEntry c.args.names.now) (λ x h. (h.0, h.1.0, h.1.1)) (λ x h. (h.0, (h.1, h.2)))
