use Rattle.std.proofs.Common.{List, ℕ, [], ◌∷◌, ◌++◌, ap, ◌∙◌}
use Rattle.std.specs.Prelude.{codes}
use Rattle.std.specs.List.{flat_map, enumerate_from}
use Rattle.session_model.specs.Merging.{numbers_of}
use Rattle.session_model.specs.Text.{line_of}
use Rattle.session_model.specs.Transcript.{entry_text, script_text, summary_words, Transcript}
use Rattle.session_text.proofs.printing.print.Goals as goal

pub returns : goal.returns
unfolding Transcript
returns c =
    let entries : List ℕ = flat_map (entry_text c.args.lib.now (numbers_of c.args.steady.now)) (enumerate_from 1 c.args.history.now) in
    let scripts : List ℕ = flat_map script_text c.args.steady.now in
    let summary : List ℕ = line_of (summary_words c.args.history.now c.args.steady.now) in
    c.from_vec.ensures ∙ c.in_ok-push_summary.ensures
    ∙ ap (λ bytes. bytes ++ summary) (c.in_ok-push_scripts.ensures
    ∙ ap (λ bytes. bytes ++ scripts) (c.in_ok-push_entries.ensures
    ∙ ap (λ bytes. bytes ++ entries) (c.in_ok-push_line.ensures ∙ ap (λ bytes. bytes ++ line_of (codes "history" ∷ [])) c.new-out.ensures.items)))
