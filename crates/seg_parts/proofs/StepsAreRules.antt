-- The steps of a layout are those of the rules.
use Rattle.std.specs.Prelude.{◌≡◌, List, [], ◌∷◌, ◌++◌, map, refl}
use Rattle.std.proofs.Common.{sym, ◌∙◌, append_assoc}
use Rattle.std.proofs.lemmas.List.{append-nil}
use Rattle.link_model.specs.Link.{Link}
use Rattle.link_model.specs.Parts.{Part}
use Rattle.link_model.specs.Order.{ordered}
use Rattle.link_model.specs.Rows.{Row, rows, rows_after, row_after}
use Rattle.seg_parts.specs.Rows.{rows_later}
use Rattle.seg_parts.specs.Steps.{unplaced_in, StepsOfLinks}

rows_from : (l : Link) (earlier : List Row) (ss : List Part) → rows_after l earlier ss ≡ earlier ++ rows_later earlier (map (unplaced_in l) ss)
rows_from l earlier [] = sym (append-nil earlier)
rows_from l earlier (s ∷ ss) =
    let r : Row = row_after l earlier s in
    rows_from l (earlier ++ r ∷ []) ss ∙ append_assoc earlier (r ∷ []) (rows_later (earlier ++ r ∷ []) (map (unplaced_in l) ss))

pub rows-are : (l : Link) → rows l ≡ rows_later [] (map (unplaced_in l) (ordered l))
unfolding rows
rows-are l = rows_from l [] (ordered l)

pub steps_of_links : StepsOfLinks
steps_of_links l =
    record {
      communals_are = refl;
      segments_are = refl;
      by_class_is = refl;
      flags_are = λ p. refl;
      rows_are = rows-are l;
      absolute_is = refl;
      too_large_is = refl;
    }
