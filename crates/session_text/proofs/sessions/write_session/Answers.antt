use Rattle.std.proofs.Common.{◌≡◌, List, ℕ, ◌++◌, sym, ap, subst, ◌∙◌, append_assoc}
use Rattle.std.specs.List.{flat_map}
use Rattle.session_model.specs.Sessions.{Ses}
use Rattle.session_model.specs.Spelling.{module_line, failing_line, script_lines, session_bytes}
use Rattle.session_text.proofs.SessionTexts.{written-read}
use Rattle.session_text.proofs.sessions.write_session.Goals.{After-from_vec}
use Rattle.session_text.proofs.sessions.write_session.Goals as goal

text-is : (c : After-from_vec) → c.from_vec.result ≡ session_bytes c.args.session.now
unfolding session_bytes
text-is c =
    let modules : List ℕ = flat_map module_line c.args.session.now.modules in
    let failing : List ℕ = flat_map failing_line c.args.session.now.failing in
    let scripts : List ℕ = flat_map script_lines c.args.session.now.scripts in
    c.from_vec.ensures ∙ c.in_ok-push_scripts.ensures ∙ ap (λ s. c.push_failing.new.out.items ++ flat_map script_lines s) c.as_slice.ensures
    ∙ ap (λ bytes. bytes ++ scripts)
    (c.in_ok-push_failing.ensures
    ∙ ap (λ bytes. bytes ++ failing)
    (c.in_ok-push_modules.ensures
    ∙ ap (λ bytes. bytes ++ modules) c.new-out.ensures.items))
    ∙ append_assoc modules failing scripts

pub returns-clause-text : goal.returns-clause-text
returns-clause-text c = text-is c

pub returns-clause-again : goal.returns-clause-again
returns-clause-again c = λ writable. subst (λ bytes. Ses bytes c.args.session.now) (sym (text-is c)) (written-read c.args.session.now writable)
