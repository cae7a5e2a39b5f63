use Rattle.process_view.proofs.Words.{ap, arith, box_value, Class, class_of, get_or, is_own, length, List, Mapped, module_of, nowhere, object_at, object_of, page_with, Parts}
use Rattle.process_view.proofs.Words.{refl, ResidenceFor, source_count, sources_of, sym, true, with_page, ℕ, ◌+◌, ◌∙◌, ◌≡◌}
use Rattle.process_view.proofs.Mapping.{fixed_in, page_long}
use Rattle.lx_types.specs.declared.object.Class.TheVariants as classes
use Rattle.process_view.proofs.view.View.map_private.Goals as goal

pub fix_private-bytes-requires-clause-module : goal.fix_private-bytes-requires-clause-module
fix_private-bytes-requires-clause-module g c =
    let own = ap (λ (r : ResidenceFor). length r.library) (c.residence-residence.ensures nowhere) ∙ ap (λ (lib : List Parts). length lib) (c.requires.page nowhere).library in
    omega (arith, c.module.ensures.within, own, ap (λ (lib : List Parts). length lib) c.library.ensures)

pub fix_private-bytes-requires-clause-object : goal.fix_private-bytes-requires-clause-object
fix_private-bytes-requires-clause-object g c =
    let m = c.module.ensures.number ∙ ap (λ (r : ResidenceFor). r.«module») (c.residence-residence.ensures nowhere) in
    rw (c.library.ensures, m) (c.requires.page nowhere).object

pub fix_private-bytes-requires-clause-page : goal.fix_private-bytes-requires-clause-page
fix_private-bytes-requires-clause-page g c =
    let m = c.module.ensures.number ∙ ap (λ (r : ResidenceFor). r.«module») (c.residence-residence.ensures nowhere) in
    rw (c.library.ensures, m) (c.requires.page nowhere).page

own_is_private : (c : Class) → is_own c ≡ true → c ≡ classes.Private
own_is_private classes.Private own = refl
own_is_private other own = cc

private_at : (lib : List Parts) (m object : ℕ) → is_own (class_of (object_at lib m object)) ≡ true → class_of (object_of (module_of lib m) object) ≡ classes.Private
unfolding object_at
private_at lib m object own = own_is_private (class_of (object_of (module_of lib m) object)) own

pub fix_private-bytes-requires-clause-own : goal.fix_private-bytes-requires-clause-own
fix_private-bytes-requires-clause-own g c =
    let m = c.module.ensures.number ∙ ap (λ (r : ResidenceFor). r.«module») (c.residence-residence.ensures nowhere) in
    rw (c.library.ensures, m) (private_at c.args.self.now.library (get_or c.args.self.now.residences c.args.k nowhere).«module» c.args.p.object (c.requires.own nowhere))

pub own-page-requires-clause-small : goal.own-page-requires-clause-small
own-page-requires-clause-small g c = (c.requires.page nowhere).small

pub own-page-requires-clause-whole : goal.own-page-requires-clause-whole
own-page-requires-clause-whole g c = page_long c.library.result.now c.module.result c.bases.result.now c.args.p (box_value c.fix_private-bytes.result) c.fix_private-bytes.ensures.bytes

pub keep_page-requires-clause-own : goal.keep_page-requires-clause-own
keep_page-requires-clause-own g c = λ d.
    let serial = c.serial.ensures ∙ ap (λ (q : ResidenceFor). q.serial) (c.residence-residence.ensures d) in
    let r = get_or c.args.self.now.residences c.args.k d in
    let made : ℕ → List ℕ → Mapped = λ n bs. page_with (record r { serial = n }) c.args.p bs in
    c.own-page.ensures ∙ ap (λ (n : ℕ). made n (box_value c.fix_private-bytes.result)) serial ∙ ap (λ (x : Mapped). made r.serial x.bytes) (sym c.own-page.ensures)

pub keep_page-requires-clause-whole : goal.keep_page-requires-clause-whole
keep_page-requires-clause-whole g c = ap (λ (x : Mapped). length x.bytes) c.own-page.ensures ∙ page_long c.library.result.now c.module.result c.bases.result.now c.args.p (box_value c.fix_private-bytes.result) c.fix_private-bytes.ensures.bytes

pub returns-clause-mapped : goal.returns-clause-mapped
returns-clause-mapped g c = λ d.
    let v = c.args.self.now in
    let r = get_or v.residences c.args.k d in
    let is = c.residence-residence.ensures d in
    c.keep_page.ensures d
    ∙ ap (λ (x : Mapped). with_page r c.args.p x.bytes v) c.own-page.ensures
    ∙ ap (λ (bs : List ℕ). with_page r c.args.p bs v)
    (c.fix_private-bytes.ensures.bytes
    ∙ fixed_in v r c.library.result.now c.module.result c.bases.result.now c.args.p c.library.ensures (c.module.ensures.number ∙ ap (λ (q : ResidenceFor). q.«module») is) (c.bases.ensures ∙ ap (λ (q : ResidenceFor). q.bases) is))

pub returns-clause-steps : goal.returns-clause-steps
unfolding source_count
returns-clause-steps g c = λ d.
    let m = c.module.ensures.number ∙ ap (λ (r : ResidenceFor). r.«module») (c.residence-residence.ensures d) in
    c.fix_private-bytes.ensures.steps ∙ ap (λ (lib : List Parts). c.args.steps.now + length (sources_of (module_of lib c.module.result) c.args.p)) c.library.ensures
    ∙ ap (λ (k : ℕ). c.args.steps.now + length (sources_of (module_of c.args.self.now.library k) c.args.p)) m
