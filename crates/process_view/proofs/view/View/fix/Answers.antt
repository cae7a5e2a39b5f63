use Rattle.std.proofs.Common.{◌+◌, ◌≡◌, ◌∙◌, ℕ, List, ap, get_or, length, arith}
use Rattle.page_fix.specs.Rights.{PageBytes}
use Rattle.process_view.proofs.Words.{fixed_page, module_of, nowhere, PageId, Parts, ResidenceFor, source_count, sources_of}
use Rattle.process_view.proofs.Mapping.{fixed_in}
use Rattle.process_view.proofs.view.View.fix.Goals as goal

pub fix_page-requires-clause-module : goal.fix_page-requires-clause-module
fix_page-requires-clause-module g c =
    let own = ap (λ (r : ResidenceFor). length r.library) (c.residence-residence.ensures nowhere) ∙ ap (λ (lib : List Parts). length lib) (c.requires.page nowhere).library in
    omega (arith, c.module.ensures.within, own, ap (λ (lib : List Parts). length lib) c.library.ensures)

pub fix_page-requires-clause-object : goal.fix_page-requires-clause-object
fix_page-requires-clause-object g c =
    let m = c.module.ensures.number ∙ ap (λ (r : ResidenceFor). r.«module») (c.residence-residence.ensures nowhere) in
    rw (c.library.ensures, m) (c.requires.page nowhere).object

pub fix_page-requires-clause-page : goal.fix_page-requires-clause-page
fix_page-requires-clause-page g c =
    let m = c.module.ensures.number ∙ ap (λ (r : ResidenceFor). r.«module») (c.residence-residence.ensures nowhere) in
    rw (c.library.ensures, m) (c.requires.page nowhere).page

abbrev made : ℕ → PageId → List ℕ → PageBytes
made serial p bytes = record { serial = serial; page = p; bytes = bytes }

pub returns-clause-page : goal.returns-clause-page
returns-clause-page g c = λ d.
    let v = c.args.self.now in
    let r = get_or v.residences c.args.k d in
    let is = c.residence-residence.ensures d in
    let page = c.fix_page.result in
    let bytes : page.bytes ≡ fixed_page v.library r.«module» r.bases c.args.right.page =
    c.fix_page.ensures.bytes
    ∙ fixed_in v r c.library.result.now c.module.result c.bases.result.now c.args.right.page c.library.ensures (c.module.ensures.number ∙ ap (λ (q : ResidenceFor). q.«module») is) (c.bases.ensures ∙ ap (λ (q : ResidenceFor). q.bases) is)
    in
    ap (λ (n : ℕ). made n page.page page.bytes) (c.fix_page.ensures.named.0 ∙ c.requires.own d) ∙ ap (λ (p : PageId). made r.serial p page.bytes) c.fix_page.ensures.named.1
    ∙ ap (made r.serial c.args.right.page) bytes

pub returns-clause-steps : goal.returns-clause-steps
unfolding source_count
returns-clause-steps g c = λ d.
    let m = c.module.ensures.number ∙ ap (λ (r : ResidenceFor). r.«module») (c.residence-residence.ensures d) in
    c.fix_page.ensures.steps ∙ ap (λ (lib : List Parts). c.args.steps.now + length (sources_of (module_of lib c.module.result) c.args.right.page)) c.library.ensures
    ∙ ap (λ (k : ℕ). c.args.steps.now + length (sources_of (module_of c.args.self.now.library k) c.args.right.page)) m
