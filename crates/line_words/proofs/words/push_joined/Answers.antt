use Rattle.std.proofs.lemmas.Result.{on_ok_weaker}
use Rattle.line_words.proofs.SpacedLaws.{joined-pushed}
use Rattle.line_words.proofs.words.push_joined.Goals as goal

pub returns-in_ok-push_word-in-len1-up : goal.returns-in_ok-push_word-in-len1-up
returns-in_ok-push_word-in-len1-up c =
    on_ok_weaker c.push_spaced.result
    (joined-pushed c.args.out.now.items c.push_word.new.out.items c.push_spaced.new.out.items c.args.all.now _ c.in-len1-up.len_at_least c.in_ok-push_word-in-len1-up.ensures)
    c.push_spaced.ensures
