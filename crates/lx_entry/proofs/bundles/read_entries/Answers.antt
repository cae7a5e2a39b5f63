use Rattle.std.proofs.Common.{◌≡◌, ◌≤◌, List, Some, None, Ok, sym, subst, ap, ◌∙◌, ℕ, Option}
use Rattle.std.specs.Prelude.{IfSome}
use Rattle.lx_model.specs.EntryTable.{Numbered, bundle_at, entries_in}
use Rattle.lx_model.specs.Reading.{many}
use Rattle.lx_entry.specs.Bundles.{AddsBundle, joined}
use Rattle.lx_entry.proofs.BundleLoop.{joined_none, joined_more, refuse, shorter}
use Rattle.lx_entry.proofs.bundles.read_entries.Goals as goal

pub returns-in_err-next : goal.returns-in_err-next
returns-in_err-next c =
    refuse c.args.objects c.args.imports c.loop-entries.last c.loop-entries.fields c.loop-entries.entries c.add_bundle.new.into c.add_bundle.new.fields (entries_in c.args.objects c.args.imports c.args.bytes.now) c.in_err-next.field-0.0
    c.from_residual.result c.in_err-next.ensures.read c.from_residual.ensures.1 c.loop-entries.invariant.kept

pub loop-entries-smaller : goal.loop-entries-smaller
loop-entries-smaller c =
    let some : c.in_ok-next.field-0 ≡ Some c.in-Some.next = c.in-Some.is in
    let added = subst (λ (o : Option ℕ). AddsBundle (Ok o) (bundle_at c.args.objects c.args.imports c.loop-entries.last c.loop-entries.fields) c.loop-entries.entries c.add_bundle.new.into c.add_bundle.new.fields) some c.in_ok-next.ensures.read in
    shorter c.args.objects c.args.imports c.loop-entries.last c.in-Some.next c.loop-entries.fields c.add_bundle.new.fields added.0 added.1

pub loop-entries-preserved : goal.loop-entries-preserved
loop-entries-preserved c =
    let some : c.in_ok-next.field-0 ≡ Some c.in-Some.next = c.in-Some.is in
    let added = subst (λ (o : Option ℕ). AddsBundle (Ok o) (bundle_at c.args.objects c.args.imports c.loop-entries.last c.loop-entries.fields) c.loop-entries.entries c.add_bundle.new.into c.add_bundle.new.fields) some c.in_ok-next.ensures.read in
    let room : c.in-Some.next ≤ 65535 = subst (λ (o : Option ℕ). IfSome o (λ n. n ≤ 65535)) some c.in_ok-next.ensures.room in
    let all = entries_in c.args.objects c.args.imports c.args.bytes.now in
    let more = joined_more c.args.objects c.args.imports c.loop-entries.last c.in-Some.next c.loop-entries.fields c.add_bundle.new.fields added.0 c.loop-entries.entries all added.1 c.loop-entries.invariant.kept in
    record {
      low = room;
      kept = subst (λ (es : List Numbered). joined es (many (bundle_at c.args.objects c.args.imports) c.in-Some.next c.add_bundle.new.fields) ≡ all) (sym added.2) more;
    }

pub returns : goal.returns
returns c =
    let none : c.in_ok-next.field-0 ≡ None = c.in_default.is in
    let end = subst (λ (o : Option ℕ). AddsBundle (Ok o) (bundle_at c.args.objects c.args.imports c.loop-entries.last c.loop-entries.fields) c.loop-entries.entries c.add_bundle.new.into c.add_bundle.new.fields) none c.in_ok-next.ensures.read in
    let all = entries_in c.args.objects c.args.imports c.args.bytes.now in
    joined_none c.args.objects c.args.imports c.loop-entries.last c.loop-entries.fields c.add_bundle.new.fields c.loop-entries.entries all end.0 c.loop-entries.invariant.kept ∙ ap (λ (es : List Numbered). Ok es) (sym end.1)
