-- A run is put into the page that was found.
use Rattle.std.proofs.Common.{◌≡◌, ℕ, List, Option, Some, ◌/◌, ap, sym, ◌∙◌, subst}
use Rattle.std.specs.Map.{lookup, set_value}
use Rattle.write_overlay.specs.Layered.{Pages, IsMade, is_page_at, byte_laid, run_under}
use Rattle.write_overlay.proofs.Layering.{HaveAt, one_set, made_still, run_put}
use Rattle.write_overlay.proofs.layers.Layers.put_run.Goals as goal

-- the page with the run in it stands in the place of the one that was found
have_in : (pages grown : Pages) (object n : ℕ) (old new : List (Option ℕ)) → lookup (is_page_at (object, n)) pages ≡ Some old → grown ≡ set_value (is_page_at (object, n)) pages new →
    HaveAt pages grown object n new
have_in pages grown object n old new stood is = λ q p. ap (lookup (is_page_at (q, p))) is ∙ one_set pages object n old new stood q p

pub returns-clause-stay : goal.returns-clause-stay
returns-clause-stay c = λ q p made.
    let Made : Pages → Type 0 = λ pages. IsMade pages q p in
    let pages = c.self.inside.pages.entries in
    let grown = (c.get_mut.follows.lender c.put.new.self).entries in
    let have = have_in pages grown c.args.object (c.args.at / 4096) c.in-Some.layer.now c.put.new.self (sym c.in-Some.ensures.value) (c.get_mut.follows.holds c.put.new.self).0 in
    made_still pages grown c.args.object (c.args.at / 4096) c.put.new.self have q p (subst Made (sym c.self.view_is) made)

pub returns-clause-laid : goal.returns-clause-laid
returns-clause-laid c = λ q x.
    let pages = c.self.inside.pages.entries in
    let grown = (c.get_mut.follows.lender c.put.new.self).entries in
    let stood = sym c.in-Some.ensures.value in
    let have = have_in pages grown c.args.object (c.args.at / 4096) c.in-Some.layer.now c.put.new.self stood (c.get_mut.follows.holds c.put.new.self).0 in
    run_put pages grown c.args.object c.args.at c.args.run.now c.in-Some.layer.now c.put.new.self c.requires.fits stood have c.put.ensures q x
    ∙ ap (λ (laid : Pages). run_under c.args.object c.args.at c.args.run.now q x (byte_laid laid q x)) c.self.view_is
