use Rattle.std.proofs.Common.{ap, List, None, refl, Some, sym, ◌==◌, ◌∙◌, ◌≡◌}
use Rattle.process_view.proofs.Words.{module_named, number_of, Parts, position, position_map, ReachedResidence, residence_in, ResidenceFor, view_of}
use Rattle.process_view.proofs.Lookups.{named_by_place, no_name}
use Rattle.process_view.proofs.view.View.reached_named.Goals as goal

pub returns-in_err-m : goal.returns-in_err-m
unfolding number_of
returns-in_err-m c =
    let w = view_of c.self.inside in
    let name = c.args.name.now in
    let e : number_of w.library name ≡ None = ap (λ (lib : List Parts). module_named lib name) (sym c.deref.ensures) ∙ sym c.find.ensures.number ∙ c.in_err-m.was in
    rw (c.from_residual.ensures, ← c.self.view_is) (no_name w name e)

pub returns : goal.returns
unfolding number_of
returns c =
    let w = view_of c.self.inside in
    let name = c.args.name.now in
    let e : number_of w.library name ≡ Some c.in_ok-m.m = ap (λ (lib : List Parts). module_named lib name) (sym c.deref.ensures) ∙ sym c.find.ensures.number ∙ c.in_ok-m.was in
    let p : c.find-2.result ≡ position (λ (r : ResidenceFor). r.«module» == c.in_ok-m.m) w.residences =
    c.find-2.ensures ∙ ap (λ (ss : List ReachedResidence). position (λ (s : ReachedResidence). (residence_in s).«module» == c.in_ok-m.m) ss) c.deref-2.ensures.value
    ∙ sym (position_map (λ (r : ResidenceFor). r.«module» == c.in_ok-m.m) residence_in c.self.inside.residences.items)
    in
    rw (← c.self.view_is) (named_by_place w name c.in_ok-m.m c.find-2.result (record { residences = refl }) e p)
