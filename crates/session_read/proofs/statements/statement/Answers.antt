use Rattle.std.proofs.Common.{◌∷◌, sym, ap, ◌∙◌}
use Rattle.session_model.specs.Lines.{words_in}
use Rattle.session_model.specs.Statements.{by_count, word_count}
use Rattle.session_read.specs.Seen.{two_seen, four_seen}
use Rattle.session_read.specs.Keywords.{spelled}
use Rattle.session_read.proofs.ArgumentLaws.{two-read, place-read, bytes-read}
use Rattle.session_read.proofs.ReadingLaws.{says-along}
use Rattle.session_read.proofs.statements.statement.Goals as goal

pub returns-in-Some-two_of : goal.returns-in-Some-two_of
returns-in-Some-two_of c =
    says-along _ _ _
    (ap (λ k. by_count (word_count (spelled k)) (spelled k ∷ words_in c.args.args.now)) c.in-Two.is
    ∙ two-read c.in-Two.word (words_in c.args.args.now) (two_seen c.in-Some-two_of.field-0) (sym c.in-Some-two_of.ensures.words))
    c.two_words.ensures

pub returns-in-Some-four_of : goal.returns-in-Some-four_of
returns-in-Some-four_of c =
    says-along _ _ _
    (ap (λ k. by_count (word_count (spelled k)) (spelled k ∷ words_in c.args.args.now)) c.in-Place.is
    ∙ place-read c.in-Place.word (words_in c.args.args.now) (four_seen c.in-Some-four_of.args) (sym c.in-Some-four_of.ensures.words))
    c.place.ensures

pub returns-in-Some-four_of-2 : goal.returns-in-Some-four_of-2
returns-in-Some-four_of-2 c =
    says-along _ _ _
    (ap (λ k. by_count (word_count (spelled k)) (spelled k ∷ words_in c.args.args.now)) c.in-Bytes.is
    ∙ bytes-read c.in-Bytes.word (words_in c.args.args.now) (four_seen c.in-Some-four_of-2.args) (sym c.in-Some-four_of-2.ensures.words))
    c.bytes.ensures
