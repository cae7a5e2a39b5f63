use Rattle.std.proofs.Common.{◌≡◌, ℕ, ◌+◌, List, ◌++◌, Option, None, Some, Ok, sym, refl, subst}
use Rattle.lx_bytes.specs.Cursor.{Cursor}
use Rattle.lx_types.specs.declared.refusal.LxKind.TheVariants.{EntryTable}
use Rattle.lx_types.specs.declared.fail.Fail.TheVariants.{Said}
use Rattle.lx_model.specs.EntryTable.{Numbered, bundle_at}
use Rattle.lx_entry.specs.Bundles.{head_at}
use Rattle.lx_entry.specs.declared.bundles.Head.{Head}
use Rattle.lx_entry.specs.Refusals.{refusal}
use Rattle.lx_entry.proofs.BundleLoop.{head_wrong, head_ends, no_form, entries_added, pass_on}
use Rattle.lx_entry.proofs.Refusals.{bundle_failed}
use Rattle.lx_entry.proofs.bundles.add_bundle.Goals as goal

pub returns-in_err-head-clause-read : goal.returns-in_err-head-clause-read
returns-in_err-head-clause-read c =
    let r = c.in_err-head.field-0.0 in
    bundle_failed c.from_residual.result (bundle_at c.args.objects c.args.imports c.args.last c.args.fields.now) c.args.into.now c.args.into.now c.head_of.new.fields (Said r) c.from_residual.ensures.1
    (head_wrong c.args.objects c.args.imports c.args.last c.args.fields.now (refusal EntryTable r) c.in_err-head.ensures.read)

pub returns-in_default-clause-read : goal.returns-in_default-clause-read
returns-in_default-clause-read c =
    let none : c.in_ok-head.field-0 ≡ None = c.in_default.is in
    let end : head_at c.args.objects c.args.last c.args.fields.now ≡ Ok (None, c.head_of.new.fields) = subst (λ (h : Option Head). head_at c.args.objects c.args.last c.args.fields.now ≡ Ok (h, c.head_of.new.fields)) none c.in_ok-head.ensures.read in
    (head_ends c.args.objects c.args.imports c.args.last c.args.fields.now c.head_of.new.fields end, refl)

-- what a call is told and gives
record Parts : Type 0 where
  objects : ℕ
  imports : ℕ
  old : Cursor
  new : Cursor
  before : List Numbered
  after : List Numbered

abbrev Sum : ℕ → ℕ → Parts → Type 0
Sum last n p = (es : List Numbered) × (bundle_at p.objects p.imports last p.old ≡ Ok (Some (es, last + n), p.new)) × (p.after ≡ p.before ++ es)

pub returns-in_default-form-clause-read : goal.returns-in_default-form-clause-read
returns-in_default-form-clause-read c =
    let some : c.in_ok-head.field-0 ≡ Some c.in-Some.head = c.in-Some.is in
    let head : head_at c.args.objects c.args.last c.args.fields.now ≡ Ok (Some c.in-Some.head, c.head_of.new.fields) = subst (λ (h : Option Head). head_at c.args.objects c.args.last c.args.fields.now ≡ Ok (h, c.head_of.new.fields)) some c.in_ok-head.ensures.read in
    let count : c.from.result ≡ c.in-Some.head.count = c.from.ensures in
    let a = no_form c.args.objects c.args.imports c.args.last c.args.fields.now c.head_of.new.fields c.in-Some.head c.args.into.now head c.in_default-form.is in
    let p : Parts = record { objects = c.args.objects; imports = c.args.imports; old = c.args.fields.now; new = c.head_of.new.fields; before = c.args.into.now; after = c.args.into.now } in
    subst (λ (n : ℕ). Sum c.args.last n p) (sym count) (a.entries, a.read, a.beyond)

pub returns-in_err-add_entries-clause-read : goal.returns-in_err-add_entries-clause-read
returns-in_err-add_entries-clause-read c =
    let some : c.in_ok-head.field-0 ≡ Some c.in-Some.head = c.in-Some.is in
    let head : head_at c.args.objects c.args.last c.args.fields.now ≡ Ok (Some c.in-Some.head, c.head_of.new.fields) = subst (λ (h : Option Head). head_at c.args.objects c.args.last c.args.fields.now ≡ Ok (h, c.head_of.new.fields)) some c.in_ok-head.ensures.read in
    pass_on c.args.objects c.args.imports c.args.last c.args.fields.now c.head_of.new.fields c.in-Some.head c.in-Some-form.form c.args.into.now c.add_entries.new.into c.add_entries.new.fields c.in_err-add_entries.field-0.0
    c.from_residual-in_err-add_entries.result head c.in-Some-form.is c.in_err-add_entries.ensures c.from_residual-in_err-add_entries.ensures.1

pub returns-clause-read : goal.returns-clause-read
returns-clause-read c =
    let some : c.in_ok-head.field-0 ≡ Some c.in-Some.head = c.in-Some.is in
    let head : head_at c.args.objects c.args.last c.args.fields.now ≡ Ok (Some c.in-Some.head, c.head_of.new.fields) = subst (λ (h : Option Head). head_at c.args.objects c.args.last c.args.fields.now ≡ Ok (h, c.head_of.new.fields)) some c.in_ok-head.ensures.read in
    let count : c.from.result ≡ c.in-Some.head.count = c.from.ensures in
    let a = entries_added c.args.objects c.args.imports c.args.last c.args.fields.now c.head_of.new.fields c.add_entries.new.fields c.in-Some.head c.in-Some-form.form c.args.into.now c.add_entries.new.into head c.in-Some-form.is c.in_ok-add_entries.ensures in
    let p : Parts = record { objects = c.args.objects; imports = c.args.imports; old = c.args.fields.now; new = c.add_entries.new.fields; before = c.args.into.now; after = c.add_entries.new.into } in
    subst (λ (n : ℕ). Sum c.args.last n p) (sym count) (a.entries, a.read, a.beyond)
