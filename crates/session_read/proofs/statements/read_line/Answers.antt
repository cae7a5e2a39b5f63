use Rattle.std.proofs.Common.{◌∷◌, [], ap, ◌∙◌}
use Rattle.session_model.specs.Lines.{words_in}
use Rattle.session_model.specs.Statements.{by_count, word_count}
use Rattle.session_read.proofs.ReadingLaws.{reading-bytes, reading-words, reading-comment, reading-counted, err-along}
use Rattle.session_read.proofs.statements.read_line.Goals as goal

pub returns-then-not-is_allowed : goal.returns-then-not-is_allowed
returns-then-not-is_allowed c = reading-bytes c.args.line.now c.if-not-is_allowed.ensures

pub returns-in_default : goal.returns-in_default
returns-in_default c = reading-words c.args.line.now [] c.if-not-is_allowed.ensures c.in_default.ensures.words

pub returns-then-first-eq35 : goal.returns-then-first-eq35
returns-then-first-eq35 c =
    reading-comment c.args.line.now c.in-Some.first.word.now (words_in c.in-Some.first.after.now) c.if-not-is_allowed.ensures c.in-Some.ensures.words
    c.in-Some.ensures.some c.if-first-eq35.true

pub returns-in_default-keyword_of : goal.returns-in_default-keyword_of
returns-in_default-keyword_of c =
    reading-counted c.args.line.now c.in-Some.first.word.now (words_in c.in-Some.first.after.now) c.if-not-is_allowed.ensures c.in-Some.ensures.words
    c.in-Some.ensures.some c.if-first-eq35.false
    ∙ ap (λ counts. by_count counts (c.in-Some.first.word.now ∷ words_in c.in-Some.first.after.now)) c.in_default-keyword_of.ensures

pub returns-in-Ok : goal.returns-in-Ok
returns-in-Ok c =
    reading-counted c.args.line.now c.in-Some.first.word.now (words_in c.in-Some.first.after.now) c.if-not-is_allowed.ensures c.in-Some.ensures.words
    c.in-Some.ensures.some c.if-first-eq35.false
    ∙ ap (λ w. by_count (word_count w) (w ∷ words_in c.in-Some.first.after.now)) c.in-Some-keyword_of.ensures
    ∙ c.in-Ok.ensures

pub returns-in-Err : goal.returns-in-Err
returns-in-Err c =
    err-along c.in-Err.fail _ _ _ _
    (reading-counted c.args.line.now c.in-Some.first.word.now (words_in c.in-Some.first.after.now) c.if-not-is_allowed.ensures c.in-Some.ensures.words
    c.in-Some.ensures.some c.if-first-eq35.false
    ∙ ap (λ w. by_count (word_count w) (w ∷ words_in c.in-Some.first.after.now)) c.in-Some-keyword_of.ensures)
    c.in-Err.ensures
