use Rattle.std.proofs.Common.{◌≡◌, ◌+◌, ◌++◌, ◌∷◌, ◌∙◌, [], ℕ, List, ap, rules, subst, sym}
use Rattle.answer_model.specs.GenAnswer.{GenWords}
use Rattle.gen_core.specs.declared.outputs.Output.{Output}
use Rattle.gen_core.specs.Generated.{AreOutputs}
use Rattle.gen_core.proofs.MadeFiles.{HasMade, all_made, made_more}
use Rattle.gen_core.proofs.outputs.outputs.Goals as goal

pub loop-before-preserved : goal.loop-before-preserved
loop-before-preserved c =
    let prefix = c.args.prefix.now in
    let before = c.loop-before.before in
    let items = c.loop-before.outputs.items in
    let object = c.in_ok-object_file.field-0 in
    let definition = c.in_ok-definition_file.field-0 in
    let made = c.in_ok-object_file.ensures in
    let first : c.push.new.self.items ≡ items ++ object ∷ [] = search rules in
    let both : c.push-in-loop-before.new.self.items ≡ c.push.new.self.items ++ definition ∷ [] = search rules in
    subst (HasMade prefix (before + 1)) (sym (both ∙ ap (λ (os : List Output). os ++ definition ∷ []) first))
    (made_more prefix before items object definition made.0 c.loop-before.invariant made.1 made.2 c.in_ok-definition_file.ensures)

pub returns : goal.returns
returns c =
    let words : GenWords = record { count = c.args.count; prefix = c.args.prefix.now } in
    let items = c.loop-before.outputs.items in
    let session = c.in_ok-session_file.field-0 in
    let last : c.loop-before.before ≡ c.args.count = search rules in
    let pushed : c.push-2.new.self.items ≡ items ++ session ∷ [] = search rules in
    subst (AreOutputs words) (sym pushed)
    (all_made words items session (subst (λ (n : ℕ). HasMade words.prefix n items) last c.loop-before.invariant) c.in_ok-session_file.ensures)
