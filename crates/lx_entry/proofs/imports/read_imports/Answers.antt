use Rattle.std.proofs.Common.{◌≡◌, ◌+◌, ◌-◌, List, ℕ, [], ◌∷◌, ◌++◌, arith, sym, subst}
use Rattle.lx_model.specs.NameTables.{import_entry, imports_in}
use Rattle.lx_model.specs.Reading.{cursor, many, front}
use Rattle.lx_types.specs.declared.refusal.LxKind.TheVariants as kinds
use Rattle.lx_types.specs.declared.fail.Fail.TheVariants.{Said}
use Rattle.lx_entry.specs.Refusals.{refusal}
use Rattle.lx_entry.proofs.ImportLoop.{one_more, wrong, all_read}
use Rattle.lx_entry.proofs.Refusals.{gives_failed}
use Rattle.lx_entry.proofs.imports.read_imports.Goals as goal

pub returns-in_err-name : goal.returns-in_err-name
returns-in_err-name c =
    let whole = many import_entry c.args.count (cursor 0 c.args.bytes.now) in
    let r = c.in_err-name.field-0.0 in
    gives_failed kinds.ImportTable (λ (names : List (List ℕ)). names) c.from_residual.result (imports_in c.args.count c.args.bytes.now) (Said r) c.from_residual.ensures.1
    (wrong c.args.count c.loop.counter c.loop.fields c.loop.names whole (refusal kinds.ImportTable r) c.loop-test.true c.in_err-name.ensures.read c.loop.invariant)

pub loop-preserved : goal.loop-preserved
loop-preserved c =
    let whole = many import_entry c.args.count (cursor 0 c.args.bytes.now) in
    let more = one_more c.args.count c.loop.counter c.loop.fields c.import_name.new.fields c.loop.names c.in_ok-name.name.now whole c.loop-test.true c.in_ok-name.ensures.read c.loop.invariant in
    let text : c.in-Ok.name ≡ c.in_ok-name.name.now = c.in-Ok.ensures in
    let pushed : c.push.new.self ≡ c.loop.names ++ c.in-Ok.name ∷ [] = c.in_ok-push-in-Ok.ensures in
    subst (λ (xs : List (List ℕ)). front xs (many import_entry (c.args.count - (c.loop.counter + 1)) c.import_name.new.fields) ≡ whole) (sym pushed)
    (subst (λ (x : List ℕ). front (c.loop.names ++ x ∷ []) (many import_entry (c.args.count - (c.loop.counter + 1)) c.import_name.new.fields) ≡ whole) (sym text) more)

pub returns : goal.returns
returns c =
    let ended = c.loop-test.false in
    all_read c.args.count c.loop.counter c.loop.fields c.loop.names (many import_entry c.args.count (cursor 0 c.args.bytes.now)) (omega (arith, ended)) c.loop.invariant
