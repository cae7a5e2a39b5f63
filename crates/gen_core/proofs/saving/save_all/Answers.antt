use Rattle.std.proofs.Common.{◌≡◌, ℕ, List, ap, length, map, map-id, sym, subst, ◌∙◌, refl, rules, true, false}
use Rattle.std.specs.Prelude.{is_err}
use Rattle.std.proofs.lemmas.Iterator.Adapters.{YieldsList-from_vec}
use Rattle.std.proofs.lemmas.Iterator.Consumers.{YieldsList-end, YieldsList-turn}
use Rattle.answer_model.specs.declared.said.Said.{Said}
use Rattle.gen_core.specs.Generated.{HasLine, saved_of}
use Rattle.gen_core.proofs.Saved.{HasSaved, all_saved, failed_by, nothing_saved, saved_by}
use Rattle.gen_core.proofs.saving.save_all.Goals as goal

pub loop-output-init : goal.loop-output-init
loop-output-init g c = nothing_saved c.args.line (g.F.Files.state c.args.files.now)

pub loop-output-preserved : goal.loop-output-preserved
loop-output-preserved g c =
    let good : is_err c.save_one.result ≡ false = search rules in
    saved_by c.loop-output.yielded c.args.line (g.F.Files.state c.args.files.now) (g.F.Files.state c.loop-output.files) (g.F.Files.state c.save_one.new.files) c.in-Some.output c.save_one.result good c.loop-output.invariant c.save_one.ensures

pub returns-then-is_err-clause-saves : goal.returns-then-is_err-clause-saves
returns-then-is_err-clause-saves g c =
    let bad : is_err c.save_one.result ≡ true = search rules in
    let turn = YieldsList-turn (YieldsList-from_vec {s = c.into_iter-output-iterator.result} c.args.outputs.items c.into_iter-output-iterator.ensures.into_iter_gives.0 (c.into_iter-output-iterator.ensures.into_iter_gives.1 ∙ c.args.outputs.ok.0)) c.loop-output.yielded c.loop-output.output-iterator c.loop-output.yielded_by c.next.result c.next.new.self c.in-Some.output c.in-Some.is c.next.ensures.steps in
    let line : HasLine c.in-Some.output = subst HasLine (sym turn.1) (c.requires (length c.loop-output.yielded) c.in-Some.output turn.0) in
    failed_by c.args.outputs.items c.loop-output.yielded c.into_iter-output-iterator.result c.loop-output.output-iterator c.next.new.self c.args.line (g.F.Files.state c.args.files.now) (g.F.Files.state c.loop-output.files) (g.F.Files.state c.save_one.new.files) c.in-Some.output _ c.save_one.result bad c.loop-output.invariant
    c.into_iter-output-iterator.ensures.into_iter_gives.0 c.loop-output.yielded_by c.in-Some.ensures.steps.0 line c.save_one.ensures refl

pub returns-then-is_err-clause-unsaved : goal.returns-then-is_err-clause-unsaved
returns-then-is_err-clause-unsaved g c =
    let turn = YieldsList-turn (YieldsList-from_vec {s = c.into_iter-output-iterator.result} c.args.outputs.items c.into_iter-output-iterator.ensures.into_iter_gives.0 (c.into_iter-output-iterator.ensures.into_iter_gives.1 ∙ c.args.outputs.ok.0)) c.loop-output.yielded c.loop-output.output-iterator c.loop-output.yielded_by c.next.result c.next.new.self c.in-Some.output c.in-Some.is c.next.ensures.steps in
    let line : HasLine c.in-Some.output = subst HasLine (sym turn.1) (c.requires (length c.loop-output.yielded) c.in-Some.output turn.0) in
    let told : List ℕ → Said = λ t. record { status = 4; text = t } in
    ap told line

pub returns-clause-saves : goal.returns-clause-saves
returns-clause-saves g c =
    let end = YieldsList-end (YieldsList-from_vec {s = c.into_iter-output-iterator.result} c.args.outputs.items c.into_iter-output-iterator.ensures.into_iter_gives.0 (c.into_iter-output-iterator.ensures.into_iter_gives.1 ∙ c.args.outputs.ok.0)) c.loop-output.yielded c.loop-output.output-iterator c.loop-output.yielded_by c.next.result c.next.new.self c.in-None.is c.next.ensures.steps in
    let all : c.loop-output.yielded ≡ c.args.outputs.items = sym (map-id c.loop-output.yielded) ∙ end.0 in
    all_saved (map saved_of c.args.outputs.items) c.args.line (g.F.Files.state c.args.files.now) (g.F.Files.state c.loop-output.files) _ (subst (λ outputs. HasSaved (map saved_of outputs) c.args.line (g.F.Files.state c.args.files.now) (g.F.Files.state c.loop-output.files)) all c.loop-output.invariant) refl
