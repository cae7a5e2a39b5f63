use Rattle.std.proofs.Common.{◌≡◌, ◌+◌, ◌-◌, List, ℕ, [], ◌∷◌, ◌++◌, arith, sym, subst}
use Rattle.lx_types.specs.declared.refusal.LxKind.TheVariants.{EntryTable}
use Rattle.lx_types.specs.declared.fail.Fail.TheVariants.{Said}
use Rattle.lx_model.specs.EntryTable.{Numbered, bundle_entries}
use Rattle.lx_entry.specs.Bundles.{entry_at, onto}
use Rattle.lx_entry.specs.Refusals.{refusal}
use Rattle.lx_entry.proofs.EntryLoop.{one_more, wrong, all_read, onto_wrong}
use Rattle.lx_entry.proofs.Refusals.{adds_failed}
use Rattle.lx_entry.proofs.bundles.add_entries.Goals as goal

pub returns-in_err-head : goal.returns-in_err-head
returns-in_err-head c =
    let read = entry_at c.args.form c.args.imports in
    let all = bundle_entries c.args.count c.args.ordinal read c.args.fields.now in
    let is = wrong c.args.count c.loop-i.i c.args.ordinal read c.loop-i.fields (refusal EntryTable c.in_err-head.field-0.0) c.loop-i.into (onto c.args.into.now all) c.loop-i-test.true c.in_err-head.ensures c.loop-i.invariant in
    adds_failed c.from_residual.result all c.args.into.now c.loop-i.into c.entry.new.fields (Said c.in_err-head.field-0.0) c.from_residual.ensures.1 (onto_wrong c.args.into.now all (refusal EntryTable c.in_err-head.field-0.0) is)

pub loop-i-preserved : goal.loop-i-preserved
loop-i-preserved c =
    let read = entry_at c.args.form c.args.imports in
    let all = onto c.args.into.now (bundle_entries c.args.count c.args.ordinal read c.args.fields.now) in
    let more = one_more c.args.count c.loop-i.i c.args.ordinal read c.loop-i.fields c.entry.new.fields c.in_ok-head.head c.loop-i.into all c.loop-i-test.true c.in_ok-head.ensures c.loop-i.invariant in
    let same : c.from.result ≡ c.loop-i.i = c.from.ensures in
    let pushed : c.push.new.self ≡ c.loop-i.into ++ (c.args.ordinal + c.from.result, c.in_ok-head.head) ∷ [] = c.in_ok-push.ensures in
    let rest = bundle_entries (c.args.count - (c.loop-i.i + 1)) (c.args.ordinal + (c.loop-i.i + 1)) read c.entry.new.fields in
    subst (λ (es : List Numbered). onto es rest ≡ all) (sym pushed) (subst (λ (i : ℕ). onto (c.loop-i.into ++ (c.args.ordinal + i, c.in_ok-head.head) ∷ []) rest ≡ all) (sym same) more)

pub returns : goal.returns
returns c =
    let read = entry_at c.args.form c.args.imports in
    let ended = c.loop-i-test.false in
    all_read c.args.count c.loop-i.i c.args.ordinal read c.loop-i.fields c.loop-i.into (onto c.args.into.now (bundle_entries c.args.count c.args.ordinal read c.args.fields.now)) (omega (arith, ended)) c.loop-i.invariant
