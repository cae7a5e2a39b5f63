use Rattle.std.proofs.Common.{◌≡◌, Err, Result, ℕ, List, ap, sym, subst, map, take, drop, suc, ◌++◌, ◌∷◌, [], ◌∙◌, Vec}
use Rattle.std.specs.Prelude.{string_bytes}
use Rattle.std.specs.List.{All}
use Rattle.std.specs.Global.{Global}
use Rattle.std.proofs.lemmas.List.{map-append}
use Rattle.std.proofs.lemmas.List.Elements.{All-push}
use Rattle.lx_types.specs.declared.fail.Fail.{Fail}
use Rattle.lx_types.specs.declared.fail.Fail.TheVariants as fail
use Rattle.answer_model.specs.AskedFiles.{Asked, asked_modules}
use Rattle.answer_model.specs.Items.{Item, linked, module_file}
use Rattle.lx_model.specs.Module.{IsRead}
use Rattle.lx_types.specs.declared.parts.Parts.{Parts}
use Rattle.refusal_text.specs.declared.refused.Refused.{Refused}
use Rattle.tool_read.specs.Readings.{asked}
use Rattle.tool_read.specs.Steps.{ReadsInTurn}
use Rattle.tool_read.proofs.Names.{more_at, split_at}
use Rattle.tool_read.proofs.Walk.{ReadSoFar, err_is, one_more, stops_here}
use Rattle.tool_read.proofs.module_files.read_modules.Goals as goal

abbrev Gives : Vec Parts Global → List Item → Type 0
Gives v items = items ≡ map linked v.items

pub returns-in-Err-clause-read : goal.returns-in-Err-clause-read
returns-in-Err-clause-read g c =
    let e = c.in-Err.ensures.read in
    let k = c.loop-name.name-index in
    let P : List Asked → Type 0 = λ f. ReadsInTurn Gives f (g.F.Files.state c.args.files.now) (g.F.Files.state c.read_module.new.files) (Err c.in-Err.why) in
    let Q : List ℕ → Type 0 = λ n. ReadsInTurn Gives (asked_modules (map string_bytes (take k c.args.names.now)) ++ asked module_file n ∷ asked_modules (map string_bytes (drop (suc k) c.args.names.now))) (g.F.Files.state c.args.files.now) (g.F.Files.state c.read_module.new.files) (Err c.in-Err.why) in
    subst P (sym (split_at (λ n. asked module_file n) string_bytes c.args.names.now k c.name-item.result c.loop-name-test.true c.name-item.is))
    (subst Q c.deref.ensures (stops_here Gives Gives _ _ module_file c.deref.result.now e.0 _ _ _ _ c.in-Err.why c.loop-name.invariant.read e.1 e.2))

pub returns-in_err-push-in-Ok-clause-read : goal.returns-in_err-push-in-Ok-clause-read
returns-in_err-push-in-Ok-clause-read g c =
    let e = c.in-Ok.ensures.read in
    let k = c.loop-name.name-index in
    let R : Result (Vec Parts Global) (Fail Refused) → Type 0 = λ r. ReadsInTurn Gives (asked_modules (map string_bytes c.args.names.now)) (g.F.Files.state c.args.files.now) (g.F.Files.state c.read_module.new.files) r in
    let P : List Asked → Type 0 = λ f. ReadsInTurn Gives f (g.F.Files.state c.args.files.now) (g.F.Files.state c.read_module.new.files) (Err fail.NoMemory) in
    let Q : List ℕ → Type 0 = λ n. ReadsInTurn Gives (asked_modules (map string_bytes (take k c.args.names.now)) ++ asked module_file n ∷ asked_modules (map string_bytes (drop (suc k) c.args.names.now))) (g.F.Files.state c.args.files.now) (g.F.Files.state c.read_module.new.files) (Err fail.NoMemory) in
    subst R (sym (err_is c.from_residual.result c.from_residual.ensures.1))
    (subst P (sym (split_at (λ n. asked module_file n) string_bytes c.args.names.now k c.name-item.result c.loop-name-test.true c.name-item.is))
    (subst Q c.deref.ensures (stops_here Gives Gives _ _ module_file c.deref.result.now e.0 _ _ _ _ fail.NoMemory c.loop-name.invariant.read e.1 tt)))

pub loop-name-preserved : goal.loop-name-preserved
loop-name-preserved g c =
    let e = c.in-Ok.ensures.read in
    let k = c.loop-name.name-index in
    let items = c.in_ok-push-in-Ok.ensures.items in
    let P : List Asked → Type 0 = λ f. ReadSoFar Gives f (g.F.Files.state c.args.files.now) (g.F.Files.state c.read_module.new.files) c.push.new.self in
    let Q : List ℕ → Type 0 = λ n. ReadSoFar Gives (asked_modules (map string_bytes (take k c.args.names.now)) ++ asked module_file n ∷ []) (g.F.Files.state c.args.files.now) (g.F.Files.state c.read_module.new.files) c.push.new.self in
    let W : List Parts → Type 0 = λ xs. All IsRead xs in
    record {
      read = subst P (more_at (λ n. asked module_file n) string_bytes c.args.names.now k c.name-item.result c.loop-name-test.true c.name-item.is)
          (subst Q c.deref.ensures (one_more Gives _ module_file c.deref.result.now e.0 (linked c.in-Ok.next) _ _ _ c.loop-name.read c.push.new.self c.loop-name.invariant.read e.1 e.2
          (λ js are. ap (λ t. t ++ linked c.in-Ok.next ∷ []) are ∙ sym (map-append linked c.loop-name.read.items (c.in-Ok.next ∷ [])) ∙ ap (λ t. map linked t) (sym items))));
      whole = subst W (sym items) (All-push IsRead _ c.in-Ok.next c.loop-name.invariant.whole c.in-Ok.ensures.whole);
    }
