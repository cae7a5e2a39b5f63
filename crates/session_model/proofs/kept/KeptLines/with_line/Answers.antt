use Rattle.std.proofs.Common.{◌++◌, ◌∙◌, ap}
use Rattle.std.specs.Option.{option_to_list}
use Rattle.session_model.proofs.KeptText.{line_kept}
use Rattle.session_model.proofs.kept.KeptLines.with_line.Goals as goal

pub returns : goal.returns
returns g c =
    line_kept g.T.LineKind.in_line c.self.inside.text.items c.args.line.now c.in_ok-with_text.field-0.items c.self.invariant c.requires c.in_ok-with_text.ensures
    ∙ ap (λ lines. lines ++ option_to_list (g.T.LineKind.in_line c.args.line.now)) c.self.view_is
