use Rattle.std.specs.Arc.{arc_value}
use Rattle.process_view.proofs.Words.{ap, fixed_page, get_or, is_fixable, List, Mapped, module_of, length, nowhere, page_with, Parts, ResidenceFor, sym, with_page, ℕ, ◌∙◌}
use Rattle.process_view.proofs.Mapping.{page_long}
use Rattle.process_view.proofs.view.View.map_shared.Goals as goal

pub hold-bytes-requires : goal.hold-bytes-requires
hold-bytes-requires g c =
    let v = c.args.self.now in
    let r = get_or v.residences c.args.k nowhere in
    ap (λ (q : ResidenceFor). is_fixable (module_of q.library q.«module») c.args.p) (c.residence-residence.ensures nowhere)
    ∙ ap (λ (lib : List Parts). is_fixable (module_of lib r.«module») c.args.p) (c.requires.page nowhere).library ∙ c.requires.shared nowhere

pub shared-page-requires-clause-small : goal.shared-page-requires-clause-small
shared-page-requires-clause-small g c = (c.requires.page nowhere).small

pub shared-page-requires-clause-whole : goal.shared-page-requires-clause-whole
shared-page-requires-clause-whole g c =
    let q = c.residence-residence.result.now in page_long q.library q.«module» q.bases c.args.p (arc_value c.hold-bytes.result) c.hold-bytes.ensures

pub keep_page-requires-clause-own : goal.keep_page-requires-clause-own
keep_page-requires-clause-own g c = λ d.
    let serial = c.serial.ensures ∙ ap (λ (q : ResidenceFor). q.serial) (c.residence-residence.ensures d) in
    let r = get_or c.args.self.now.residences c.args.k d in
    let made : ℕ → List ℕ → Mapped = λ n bs. page_with (record r { serial = n }) c.args.p bs in
    c.shared-page.ensures ∙ ap (λ (n : ℕ). made n (arc_value c.hold-bytes.result)) serial ∙ ap (λ (x : Mapped). made r.serial x.bytes) (sym c.shared-page.ensures)

pub keep_page-requires-clause-whole : goal.keep_page-requires-clause-whole
keep_page-requires-clause-whole g c = ap (λ (x : Mapped). length x.bytes) c.shared-page.ensures ∙ (let q = c.residence-residence.result.now in page_long q.library q.«module» q.bases c.args.p (arc_value c.hold-bytes.result) c.hold-bytes.ensures)

pub returns : goal.returns
returns g c = λ d.
    let v = c.args.self.now in
    let r = get_or v.residences c.args.k d in
    c.keep_page.ensures d ∙ ap (λ (x : Mapped). with_page r c.args.p x.bytes v) c.shared-page.ensures
    ∙ ap (λ (bs : List ℕ). with_page r c.args.p bs v)
    (c.hold-bytes.ensures ∙ ap (λ (q : ResidenceFor). fixed_page q.library q.«module» q.bases c.args.p) (c.residence-residence.ensures d)
    ∙ ap (λ (lib : List Parts). fixed_page lib r.«module» r.bases c.args.p) (c.requires.page d).library)
