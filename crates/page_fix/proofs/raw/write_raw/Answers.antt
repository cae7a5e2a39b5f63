use Rattle.std.proofs.Common.{rules, ◌≡◌, ◌∙◌, ◌⊎◌, inl, inr, ℕ, sym, ap}
use Rattle.std.specs.Prelude.{slice_index}
use Rattle.std.specs.Prelude.{[]}
use Rattle.lx_types.specs.Parts.{page_at}
use Rattle.lx_types.specs.declared.object.PageKind.{PageKind}
use Rattle.lx_types.specs.declared.object.PageKind.TheVariants.{Invalid, Zero}
use Rattle.lx_model.specs.Fixed.{Raw}
use Rattle.lx_model.specs.Reading.{value_or}
use Rattle.lx_model.specs.Iterated.{expansion}
use Rattle.page_fix.proofs.Raws.{raw_by_kind, filled_at, cut_at}
use Rattle.page_fix.proofs.raw.write_raw.Goals as goal

pub returns-in-Plain : goal.returns-in-Plain
returns-in-Plain c = λ i below.
    ap (λ bytes. slice_index bytes i) c.fill_from.ensures ∙ filled_at _ i ∙ cut_at c.page_bytes-data.result.now c.min.result i (search rules) below
    ∙ ap (λ bytes. slice_index bytes i) c.page_bytes-data.ensures ∙ raw_by_kind _ _ _ i (ap (λ h. h.kind) (sym c.page.ensures.head) ∙ c.in-Plain.is)

pub returns-in-Iterated : goal.returns-in-Iterated
returns-in-Iterated c = λ i below.
    ap (λ bytes. slice_index bytes i) c.fill_expanded.ensures ∙ filled_at _ i
    ∙ ap (λ bytes. slice_index (value_or [] (expansion bytes)) i) c.page_bytes-data.ensures
    ∙ raw_by_kind _ _ _ i (ap (λ h. h.kind) (sym c.page.ensures.head) ∙ c.in-Iterated.is)

pub returns-in-Invalid : goal.returns-in-Invalid
returns-in-Invalid c = λ i below.
    ap (λ bytes. slice_index bytes i) c.fill_from-in-Invalid.ensures ∙ filled_at [] i ∙ nothing i c.in-Invalid.is
  where
    kind_is : (kind : PageKind) → c.page.result.kind ≡ kind → (page_at c.args.module.now c.args.p).kind ≡ kind
    kind_is kind e = ap (λ h. h.kind) (sym c.page.ensures.head) ∙ e

    nothing : (i : ℕ) → (c.page.result.kind ≡ Invalid) ⊎ (c.page.result.kind ≡ Zero) → slice_index [] i ≡ Raw c.args.module.now c.args.p i
    nothing i (inl e) = raw_by_kind _ _ Invalid i (kind_is Invalid e)
    nothing i (inr e) = raw_by_kind _ _ Zero i (kind_is Zero e)
