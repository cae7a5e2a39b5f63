use Rattle.std.proofs.Common.{◌+◌, ◌∙◌, ap, rules, tests}
use Rattle.std.specs.Prelude.{◌==◌, not}
use Rattle.std.proofs.lemmas.Iterator.{YieldsList-from_slice}
use Rattle.std.proofs.lemmas.Iterator.Consumers.{count_from_yields_List}
use Rattle.std.proofs.lemmas.Iterator.Search.{YieldsList-from_take_while}
use Rattle.std.proofs.lemmas.List.Folds.{length-prefix_len}
use Rattle.session_model.specs.declared.sessions.ScriptLines.{ScriptLines}
use Rattle.transcript_whole.proofs.whole.place_among.Goals as goal

pub returns : goal.returns
returns c =
    let is_other = λ (x : ScriptLines). not (x.pid == c.args.pid) in
    ap (λ n. n + 1)
    (count_from_yields_List c.take_while.result c.count.result c.count.ensures.ran
    (YieldsList-from_take_while _ is_other (YieldsList-from_slice c.args.steady.now (ap (λ it. it.rest.now) c.take_while.ensures.source ∙ c.iter.ensures.rest)) c.take_while.ensures.closure c.take_while.ensures.done
    (λ x b q k. search (rules, tests)))
    ∙ length-prefix_len is_other c.args.steady.now)
