use Rattle.std.proofs.Common.{◌∙◌, ap, sym, None, Some}
use Rattle.std.specs.Option.{option_map}
use Rattle.link_fix.specs.Shown.{target_shown}
use Rattle.link_place.proofs.Starts.{place-is}
use Rattle.link_place.proofs.start.place_of.Goals as goal

pub returns-in-None : goal.returns-in-None
returns-in-None c = λ l of are means.
    place-is l c.args.places.now c.args.syms.now c.args.«module» c.args.start.now None are means (sym (ap (option_map target_shown) c.in-None.is) ∙ c.target_of.ensures)

pub returns-in-Some : goal.returns-in-Some
returns-in-Some c = λ l of are means.
    c.start_place.ensures l of
    ∙ place-is l c.args.places.now c.args.syms.now c.args.«module» c.args.start.now (Some (target_shown c.in-Some.target)) are means (sym (ap (option_map target_shown) c.in-Some.is) ∙ c.target_of.ensures)
