use Rattle.std.proofs.Common.{[], ◌∷◌, ◌++◌, ap, ◌∙◌}
use Rattle.std.specs.Prelude.{codes}
use Rattle.std.proofs.lemmas.Result.{on_ok_weaker}
use Rattle.dump_model.specs.Lines.{name_word}
use Rattle.line_words.specs.Words.{leading}
use Rattle.dump_write.proofs.LinesPushed.{module-pushed, some-start}
use Rattle.dump_write.proofs.printing.push_module.Goals as goal

pub returns : goal.returns
returns c =
    on_ok_weaker c.push_start.result
    (module-pushed c.args.out.now.items c.push_leading.new.out.items c.push_kind.new.out.items c.push_leading-2.new.out.items c.push_leading-3.new.out.items
    c.push_start.new.out.items c.args.l.now
    (c.in_ok-push_leading.ensures ∙ ap (λ n. c.args.out.now.items ++ leading (codes "module" ∷ name_word n ∷ [])) c.bytes.ensures.same)
    c.in_ok-push_kind.ensures c.in_ok-push_leading-2.ensures c.in_ok-push_leading-3.ensures (some-start c.args.l.now.start))
    c.push_start.ensures
