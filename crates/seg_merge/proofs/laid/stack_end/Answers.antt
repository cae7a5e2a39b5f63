use Rattle.std.proofs.Common.{◌≡◌, ◌∙◌, ap, sym, map, slice_get, ℕ, Option, Some, None}
use Rattle.std.specs.Option.{option_map, option_and_then}
use Rattle.std.proofs.lemmas.Option.{slice_get-map}
use Rattle.link_model.specs.Rows.{Row}
use Rattle.seg_parts.specs.Placing.{placed_shown}
use Rattle.seg_merge.proofs.StackSearch.{stack-position}
use Rattle.seg_merge.proofs.laid.stack_end.Goals as goal

pub returns-in-None : goal.returns-in-None
returns-in-None c =
    ap (λ (o : Option ℕ). option_map (λ (r : Row). (r.object, r.end)) (option_and_then (slice_get (map placed_shown c.args.rows.now)) o)) (c.in-None.ensures ∙ stack-position c.args.ordered.now)

pub returns-in-None-row_at : goal.returns-in-None-row_at
returns-in-None-row_at c =
    let found : None ≡ slice_get (map placed_shown c.args.rows.now) c.in-Some.place = ap (option_map placed_shown) c.in-None-row_at.ensures ∙ sym (slice_get-map placed_shown c.args.rows.now c.in-Some.place) in
    ap (option_map (λ (r : Row). (r.object, r.end))) found
    ∙ ap (λ (o : Option ℕ). option_map (λ (r : Row). (r.object, r.end)) (option_and_then (slice_get (map placed_shown c.args.rows.now)) o)) (c.in-Some.ensures ∙ stack-position c.args.ordered.now)

pub returns-in-Some-row_at : goal.returns-in-Some-row_at
returns-in-Some-row_at c =
    let found : Some (placed_shown c.in-Some-row_at.row.now) ≡ slice_get (map placed_shown c.args.rows.now) c.in-Some.place =
    ap (option_map placed_shown) c.in-Some-row_at.ensures ∙ sym (slice_get-map placed_shown c.args.rows.now c.in-Some.place) in
    ap (option_map (λ (r : Row). (r.object, r.end))) found
    ∙ ap (λ (o : Option ℕ). option_map (λ (r : Row). (r.object, r.end)) (option_and_then (slice_get (map placed_shown c.args.rows.now)) o)) (c.in-Some.ensures ∙ stack-position c.args.ordered.now)
