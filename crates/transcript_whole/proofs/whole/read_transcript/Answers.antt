use Rattle.std.proofs.Common.{length, ap, subst, sym, ◌∙◌, arith}
use Rattle.load_model.specs.Modules.{Library}
use Rattle.check_model.specs.Told.{Told}
use Rattle.transcript_laws.specs.TellsOne.{HasNames}
use Rattle.transcript_whole.specs.Whole.{told_of, CanBeJudged, Tells}
use Rattle.transcript_whole.proofs.Apart.{lines_apart}
use Rattle.transcript_whole.proofs.Closings.{as_many}
use Rattle.transcript_whole.proofs.WholeRuns.{whole_read}
use Rattle.transcript_whole.proofs.whole.read_transcript.Goals as goal

pub read_lines-requires : goal.read_lines-requires
read_lines-requires c = subst HasNames (sym c.in_ok-names.ensures) c.has_names.ensures

pub told-requires : goal.told-requires
told-requires c =
    let lib = c.in_ok-names.names in
    let w = whole_read lib (lines_apart lib (subst HasNames (sym c.in_ok-names.ensures) c.has_names.ensures)) c.args.bytes.now c.in_ok-reading.reading c.in_ok-reading.ensures in
    omega (arith, w.judged.few, ap (λ t. length t.run.steady) w.is, as_many c.in_ok-reading.reading.draft.steady c.in_ok-reading.reading.draft.lines)

pub returns-clause-read : goal.returns-clause-read
returns-clause-read c =
    let lib = c.in_ok-names.names in
    let w = whole_read lib (lines_apart lib (subst HasNames (sym c.in_ok-names.ensures) c.has_names.ensures)) c.args.bytes.now c.in_ok-reading.reading c.in_ok-reading.ensures in
    subst (λ (l : Library). Tells l c.args.bytes.now (told_of c.in_ok-told.field-0)) c.in_ok-names.ensures
    (subst (λ (t : Told). Tells lib c.args.bytes.now t) (sym (c.in_ok-told.ensures ∙ w.is)) w.tells)

pub returns-clause-judged : goal.returns-clause-judged
returns-clause-judged c =
    let lib = c.in_ok-names.names in
    let w = whole_read lib (lines_apart lib (subst HasNames (sym c.in_ok-names.ensures) c.has_names.ensures)) c.args.bytes.now c.in_ok-reading.reading c.in_ok-reading.ensures in
    subst CanBeJudged (sym (c.in_ok-told.ensures ∙ w.is)) w.judged
