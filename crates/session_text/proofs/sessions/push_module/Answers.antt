use Rattle.std.proofs.Common.{[], ◌∷◌, ◌++◌, sym, ap, ◌∙◌}
use Rattle.std.specs.Prelude.{codes}
use Rattle.session_model.specs.Text.{words}
use Rattle.session_model.specs.Spelling.{module_line}
use Rattle.line_words.proofs.SpacedLaws.{tail-pushed}
use Rattle.session_text.proofs.sessions.push_module.Goals as goal

pub returns-in_ok-push-in-Build : goal.returns-in_ok-push-in-Build
returns-in_ok-push-in-Build c =
    tail-pushed c.args.out.now.items c.push_joined.new.out.items c.push_names.new.out.items c.push.new.self.items
    (codes "build") (c.in-Build.stem ∷ c.in-Build.def ∷ []) c.in-Build.files
    (c.in_ok-push_joined-in-Build.ensures
    ∙ ap (λ stem. c.args.out.now.items ++ words (codes "build" ∷ stem ∷ c.bytes-in-Build-2.result.now ∷ [])) c.bytes-in-Build.ensures.same
    ∙ ap (λ def. c.args.out.now.items ++ words (codes "build" ∷ c.in-Build.stem ∷ def ∷ [])) c.bytes-in-Build-2.ensures.same)
    c.in_ok-push_names-in-Build.ensures
    c.in_ok-push-in-Build.ensures.items
    ∙ ap (λ line. c.args.out.now.items ++ module_line line) (sym c.in-Build.is)
