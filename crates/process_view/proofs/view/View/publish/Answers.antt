use Rattle.std.proofs.Common.{◌∙◌, List, sym, ap, get_or}
use Rattle.page_fix.specs.Rights.{PageBytes}
use Rattle.process_view.proofs.Words.{fixed_page, is_fixable, module_of, nowhere, Parts, ResidenceFor}
use Rattle.process_view.proofs.view.View.publish.Goals as goal

pub publish-requires-clause-there : goal.publish-requires-clause-there
publish-requires-clause-there g c =
    let v = c.args.self.now in
    let r = get_or v.residences c.args.k nowhere in
    ap (λ (q : ResidenceFor). is_fixable (module_of q.library q.«module») c.args.p) (c.residence.ensures nowhere)
    ∙ ap (λ (lib : List Parts). is_fixable (module_of lib r.«module») c.args.p) (c.requires.page nowhere).library ∙ c.requires.shared nowhere

pub publish-requires-clause-own : goal.publish-requires-clause-own
publish-requires-clause-own g c = (
  ap (λ (x : PageBytes). x.serial) (c.requires.fixed nowhere) ∙ sym (ap (λ (q : ResidenceFor). q.serial) (c.residence.ensures nowhere)),
  ap (λ (x : PageBytes). x.page) (c.requires.fixed nowhere),
)

pub publish-requires-clause-bytes : goal.publish-requires-clause-bytes
publish-requires-clause-bytes g c =
    let v = c.args.self.now in
    let r = get_or v.residences c.args.k nowhere in
    ap (λ (x : PageBytes). x.bytes) (c.requires.fixed nowhere)
    ∙ sym (ap (λ (q : ResidenceFor). fixed_page q.library q.«module» q.bases c.args.p) (c.residence.ensures nowhere) ∙ ap (λ (lib : List Parts). fixed_page lib r.«module» r.bases c.args.p) (c.requires.page nowhere).library)
