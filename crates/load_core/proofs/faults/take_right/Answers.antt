-- The right of a page is taken at its place.
use Rattle.std.proofs.Common.{◌≡◌, List, Option, slice_get, IfSome, ◌∙◌, ap, subst}
use Rattle.std.specs.List.{list_any}
use Rattle.std.specs.Prelude.{slice_set}
use Rattle.page_fix.specs.Rights.{PageRight, PageRights}
use Rattle.page_fix.specs.Fixable.{is_page}
use Rattle.load_model.specs.State.{Residence}
use Rattle.residence_table.specs.TableLending.{beside_set}
use Rattle.load_core.specs.Taken.{without_right}
use Rattle.load_core.specs.declared.residence_parts.ResidenceParts.{ResidenceParts}
use Rattle.load_core.proofs.Using.{own_beside}
use Rattle.load_core.proofs.faults.take_right.Goals as goal

pub returns-clause-given : goal.returns-clause-given
returns-clause-given c s is =
    c.take.ensures.given ∙ ap (λ (b : ResidenceParts). list_any (is_page c.args.p) b.rights.left) (own_beside c.beside_mut.result.now (slice_get c.args.table.now c.args.place) s c.beside_mut.ensures.value is)

pub returns-clause-right : goal.returns-clause-right
returns-clause-right c s is =
    let R : ResidenceParts → Type 0 = λ b. IfSome c.take.result (λ (f : PageRight). (f.serial ≡ b.rights.serial) × (f.page ≡ c.args.p)) in
    subst R (own_beside c.beside_mut.result.now (slice_get c.args.table.now c.args.place) s c.beside_mut.ensures.value is) c.take.ensures.right

pub returns-clause-left : goal.returns-clause-left
returns-clause-left c s is =
    let own = own_beside c.beside_mut.result.now (slice_get c.args.table.now c.args.place) s c.beside_mut.ensures.value is in
    let B : PageRights → ResidenceParts = λ rights. record { rights = rights; shared = c.beside_mut.result.now.shared; layers = c.beside_mut.result.now.layers } in
    let S : ResidenceParts → List (Residence × ResidenceParts) = λ w. slice_set c.args.table.now c.args.place (s.0, w) in
    let written : B c.take.new.self ≡ without_right c.args.p s.1 = ap B c.take.ensures.left ∙ ap (without_right c.args.p) own in
    let O : Option (Residence × ResidenceParts) → List (Residence × ResidenceParts) = λ o. beside_set o (B c.take.new.self) c.args.table.now c.args.place in
    ap O is ∙ ap S written
