use Rattle.std.proofs.Common.{rules, ◌≡◌, ◌+◌, ◌∙◌, ℕ, length, ap}
use Rattle.std.specs.Prelude.{slice_index}
use Rattle.lx_fixrec.specs.Left.{Left, left_in}
use Rattle.lx_model.specs.Fixed.{Raw}
use Rattle.lx_model.specs.Library.{module_of}
use Rattle.page_fix.specs.Laid.{laid, patches_left}
use Rattle.page_fix.proofs.Sources.{left_of_page, as_many, fixed_is, page_is}
use Rattle.page_fix.proofs.fixing.Site.fix_into.Goals as goal

pub returns-clause-bytes : goal.returns-clause-bytes
returns-clause-bytes g c =
    let lib = c.args.self.now.lib.now in
    let m = c.args.self.now.«module» in
    let bases = c.args.self.now.bases.bases.now in
    let p = c.args.self.now.page in
    let same : left_in c.fix_span-from.result.0 c.fix_bytes.result.now ≡ left_of_page (module_of lib m) p = search rules in
    page_is lib m bases p c.put_sources.new.page (search rules) (λ i below.
    c.put_sources.ensures.bytes i below
    ∙ ap (λ (left : Left). laid (patches_left lib m bases p left) i (slice_index c.write_raw.new.into i)) same
    ∙ ap (λ (raw : ℕ). laid (patches_left lib m bases p (left_of_page (module_of lib m) p)) i raw) (c.write_raw.ensures i below ∙ ap (λ owner. Raw owner p i) c.module-owner.ensures)
    ∙ fixed_is lib m bases p i)

pub returns-clause-steps : goal.returns-clause-steps
returns-clause-steps g c =
    let lib = c.args.self.now.lib.now in
    let m = c.args.self.now.«module» in
    let p = c.args.self.now.page in
    let same : left_in c.fix_span-from.result.0 c.fix_bytes.result.now ≡ left_of_page (module_of lib m) p = search rules in
    c.put_sources.ensures.steps
    ∙ ap (λ (left : Left). c.args.steps.now + length left.items) same
    ∙ ap (λ (n : ℕ). c.args.steps.now + n) (as_many (module_of lib m) p)
