use Rattle.std.proofs.Common.{◌≡◌, Some, true, sym, ap, ◌∙◌, ℕ}
use Rattle.lx_types.specs.declared.refusal.LxKind.TheVariants.{Signature}
use Rattle.lx_model.specs.Reading.{fault}
use Rattle.lx_model.specs.Header.{is_lx_at}
use Rattle.lx_head.proofs.Places.{place_first, place_told, no_signature, found}
use Rattle.lx_head.proofs.reading.find_header.Goals as goal

pub returns-then-is_lx-clause-place : goal.returns-then-is_lx-clause-place
returns-then-is_lx-clause-place c =
    let first : is_lx_at c.args.bytes.now 0 ≡ true = sym c.is_lx.ensures ∙ c.if-is_lx.true in
    sym (place_first c.args.bytes.now first)

pub returns-then-not-is_lx-clause-judged : goal.returns-then-not-is_lx-clause-judged
returns-then-not-is_lx-clause-judged c =
    let told = c.in-Some.ensures in
    no_signature c.args.bytes.now c.in-Some.place (sym c.is_lx.ensures ∙ c.if-is_lx.false) told.0 told.1 (sym c.is_lx-2.ensures ∙ c.if-not-is_lx.true) ∙ ap (λ (at : ℕ). Some (fault Signature at)) (sym c.from.ensures)

pub returns-clause-judged : goal.returns-clause-judged
returns-clause-judged c =
    let told = c.in-Some.ensures in
    found c.args.bytes.now c.in-Some.place (sym c.is_lx.ensures ∙ c.if-is_lx.false) told.0 told.1 (sym c.is_lx-2.ensures ∙ c.if-not-is_lx.false)

pub returns-clause-place : goal.returns-clause-place
returns-clause-place c =
    let told = c.in-Some.ensures in
    told.1 ∙ sym (place_told c.args.bytes.now (sym c.is_lx.ensures ∙ c.if-is_lx.false))
