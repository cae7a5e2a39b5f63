use Rattle.std.proofs.Common.{arith, ◌≡◌, ◌∙◌, ◌+◌, ap, sym, refl, length, ℕ, Some}
use Rattle.std.proofs.lemmas.Bool.{ltb-true}
use Rattle.std.proofs.lemmas.Option.{slice_get_read}
use Rattle.std.specs.Prelude.{Option, slice_get}
use Rattle.std.specs.Option.{option_map, option_and_then}
use Rattle.lx_types.specs.declared.fix.FixTarget.{FixTarget}
use Rattle.obj_types.specs.declared.symbol.Imp.{Imp}
use Rattle.link_model.specs.Words.{wrapped}
use Rattle.link_model.specs.ImportTables.{import_target}
use Rattle.link_fix.proofs.paging.entry_target.Goals as goal

pub returns-in-Some-2 : goal.returns-in-Some-2
returns-in-Some-2 c = λ pairs are.
    let imports = c.args.imports.now in
    let slot : ℕ = c.args.slot in
    let pair : Imp = c.in-Some.pair.now in
    let added : ℕ = c.args.added in
    let with_added : ℕ → Option FixTarget → Option (FixTarget × ℕ) = λ n o. option_map (λ (target : FixTarget). (target, n)) o in
    let there : slice_get imports slot ≡ Some pair =
    slice_get_read imports (length imports) slot pair refl (ltb-true slot (length imports) (sym c.in-Some.ensures.lookup.0)) c.in-Some.ensures.lookup.1 in
    let found : Some c.in-Some-2.target ≡ import_target pairs pair = sym c.in-Some-2.is ∙ c.in_ok-target_of-in-Some.ensures pairs are in
    let whole : added ≡ wrapped (added + 0) = omega (arith, c.ranges.added.fits) in
    ap (with_added added) found
    ∙ ap (λ (o : Option Imp). with_added added (option_and_then (import_target pairs) o)) (sym there)
    ∙ ap (λ (n : ℕ). with_added n (option_and_then (import_target pairs) (slice_get imports slot))) whole
