use Rattle.std.proofs.Common.{sym, ◌∙◌, ap}
use Rattle.std.proofs.lemmas.List.{take_rest}
use Rattle.session_read.proofs.WordLaws.{word_len, word-none_at, word-first_at}
use Rattle.session_read.proofs.lines.first_word.Goals as goal

pub returns-then-len-eq0-clause-words : goal.returns-then-len-eq0-clause-words
returns-then-len-eq0-clause-words c =
    word-none_at c.args.bytes.now c.blank_len.result c.word_len-len.result c.blank_len.ensures.value
    (c.word_len-len.ensures.value ∙ ap word_len (take_rest c.args.bytes.now c.blank_len.result)) c.if-len-eq0.true

pub returns-clause-words : goal.returns-clause-words
returns-clause-words c =
    let text = take_rest c.args.bytes.now c.blank_len.result in
    word-first_at c.args.bytes.now c.blank_len.result c.word_len-len.result _ c.blank_len.ensures.value
    (c.word_len-len.ensures.value ∙ ap word_len text) (sym text) c.if-len-eq0.false
