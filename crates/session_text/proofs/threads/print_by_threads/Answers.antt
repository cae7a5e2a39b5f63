use Rattle.std.proofs.Common.{◌≡◌, List, ℕ, [], ◌∷◌, ◌++◌, ap, ◌∙◌}
use Rattle.std.specs.Prelude.{codes}
use Rattle.std.specs.List.{flat_map}
use Rattle.session_model.specs.Text.{line_of}
use Rattle.session_model.specs.Transcript.{script_text, summary_words, Transcript}
use Rattle.session_text.specs.Parts.{entries_text}
use Rattle.session_text.proofs.threads.print_by_threads.Goals as goal

pub returns : goal.returns
unfolding Transcript
returns g c =
    let entries : List ℕ = entries_text c.args.lib.now c.args.steady.now 0 c.args.history.now in
    let scripts : List ℕ = flat_map script_text c.args.steady.now in
    let summary : List ℕ = line_of (summary_words c.args.history.now c.args.steady.now) in
    let head : _ ≡ line_of (codes "history" ∷ []) = c.in_ok-push_line.ensures ∙ ap (λ bytes. bytes ++ line_of (codes "history" ∷ [])) c.new-out.ensures.items in
    let told : _ ≡ line_of (codes "history" ∷ []) ++ entries = c.in_ok-append.ensures.items ∙ (λ i. head i ++ c.in_ok-entries_in_parts.ensures i) in
    let lines : _ ≡ (line_of (codes "history" ∷ []) ++ entries) ++ scripts = c.in_ok-append-2.ensures.items ∙ (λ i. told i ++ c.in_ok-scripts_in_parts.ensures i) in
    c.from_vec.ensures ∙ c.in_ok-push_summary.ensures ∙ ap (λ bytes. bytes ++ summary) lines
