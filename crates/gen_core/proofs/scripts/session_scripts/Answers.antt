use Rattle.std.proofs.Common.{◌≡◌, ◌+◌, ◌++◌, ◌∷◌, ◌∙◌, [], List, map, sym, ap, arith}
use Rattle.std.specs.List.{range_with_len}
use Rattle.std.proofs.lemmas.List.FromFn.{map-range_with_len_more}
use Rattle.load_model.specs.declared.commands.Command.{Command}
use Rattle.session_model.specs.declared.sessions.Script.{Script}
use Rattle.gen_model.specs.Sessions.{gen_script}
use Rattle.gen_core.proofs.scripts.session_scripts.Goals as goal

pub loop-before-preserved : goal.loop-before-preserved
loop-before-preserved c =
    let before = c.loop-before.before in
    let number : 1 + before ≡ before + 1 = omega arith in
    let made : List Command → Script = λ commands. record { pid = before + 1; commands = commands } in
    c.in_ok-push.ensures
    ∙ ap (λ (scripts : List Script). scripts ++ made c.in_ok-commands.field-0 ∷ []) c.loop-before.invariant
    ∙ ap (λ (own : List Command). map (gen_script c.args.count) (range_with_len 1 before) ++ made own ∷ []) c.in_ok-commands.ensures
    ∙ sym (map-range_with_len_more (gen_script c.args.count) 1 before (before + 1) number)
