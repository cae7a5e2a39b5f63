use Rattle.std.proofs.Common.{◌≡◌, ◌<◌, ◌≤◌, ◌+◌, ◌*◌, ◌∙◌, ℕ, false, None, Some, inl, inr, sym, ap, arith, length, below_more}
use Rattle.std.proofs.lemmas.Bool.{cases_lt}
use Rattle.lx_types.specs.declared.parts.Parts.{Parts}
use Rattle.lx_model.specs.declared.lengths.TheConstants.{RESOURCE_ENTRY_LEN}
use Rattle.lx_model.specs.Header.{table}
use Rattle.lx_model.specs.Resources.{resource_table, resource_count}
use Rattle.res_core.specs.Found.{found_at}
use Rattle.res_core.proofs.Searching.{no_resource, a_resource, not_found, past_end, entry_at, counts}
use Rattle.res_core.proofs.finding.find.Goals as goal

-- after an entry that passes the end all do
past : (m : Parts) (ty id table k n : ℕ) → length m.file < table + RESOURCE_ENTRY_LEN * k + 14 → ((j : ℕ) → j < k → counts m ty id (entry_at m table j) ≡ false) →
    (j : ℕ) → j < n → counts m ty id (entry_at m table j) ≡ false
past m ty id table k n u h j v =
    elim (cases_lt j k) as (λ _. counts m ty id (entry_at m table j) ≡ false) [ inl before ↦ h j before | inr after ↦ past_end m ty id (entry_at m table j) (omega arith) ]

pub returns-then-at-file : goal.returns-then-at-file
returns-then-at-file c =
    let m = c.args.m.now in
    let e : c.table_place-table.result ≡ resource_table m.file = c.table_place-table.ensures.place ∙ ap resource_table c.file-file.ensures in
    let f : c.header_field-k-end.result ≡ resource_count m.file = c.header_field-k-end.ensures ∙ ap resource_count c.file-file.ensures in
    let p : length m.file < c.table_place-table.result + RESOURCE_ENTRY_LEN * c.loop-k.k + 14 = omega (arith, ap length c.file-file.ensures) in
    no_resource m c.args.ty c.args.id c.table_place-table.result c.header_field-k-end.result e f
    (past m c.args.ty c.args.id c.table_place-table.result c.loop-k.k c.header_field-k-end.result p c.loop-k.invariant)

pub returns-in-Some : goal.returns-in-Some
returns-in-Some c =
    let m = c.args.m.now in
    let e : c.table_place-table.result ≡ resource_table m.file = c.table_place-table.ensures.place ∙ ap resource_table c.file-file.ensures in
    let f : c.header_field-k-end.result ≡ resource_count m.file = c.header_field-k-end.ensures ∙ ap resource_count c.file-file.ensures in
    let p : c.table_place-table.result + RESOURCE_ENTRY_LEN * c.loop-k.k + 14 ≤ length m.file = omega (arith, ap length c.file-file.ensures) in
    let here : found_at m c.args.ty c.args.id (entry_at m c.table_place-table.result c.loop-k.k) ≡ Some c.in-Some.spot =
    ap (λ (k : ℕ). found_at m c.args.ty c.args.id (entry_at m c.table_place-table.result k)) (sym c.from.ensures) ∙ sym c.spot_at.ensures ∙ c.in-Some.is
    in
    a_resource m c.args.ty c.args.id c.table_place-table.result c.header_field-k-end.result c.loop-k.k c.in-Some.spot e f c.loop-k-test.true p c.loop-k.invariant here

pub loop-k-preserved : goal.loop-k-preserved
loop-k-preserved c =
    let m = c.args.m.now in
    let here : found_at m c.args.ty c.args.id (entry_at m c.table_place-table.result c.loop-k.k) ≡ None =
    ap (λ (k : ℕ). found_at m c.args.ty c.args.id (entry_at m c.table_place-table.result k)) (sym c.from.ensures) ∙ sym c.spot_at.ensures ∙ c.in_default.is
    in
    below_more _ _ c.loop-k.invariant (not_found m c.args.ty c.args.id (entry_at m c.table_place-table.result c.loop-k.k) here)

pub returns : goal.returns
returns c =
    let m = c.args.m.now in
    let e : c.table_place-table.result ≡ resource_table m.file = c.table_place-table.ensures.place ∙ ap resource_table c.file-file.ensures in
    let f : c.header_field-k-end.result ≡ resource_count m.file = c.header_field-k-end.ensures ∙ ap resource_count c.file-file.ensures in
    no_resource m c.args.ty c.args.id c.table_place-table.result c.header_field-k-end.result e f (λ j u. c.loop-k.invariant j (omega arith))
