-- The places of a link from those of its parts and of its logical segments.
use Rattle.std.specs.Prelude.{◌≡◌, ℕ, ◌+◌, List, ◌++◌, Option, Some, map, filter, length, slice_get}
use Rattle.std.specs.Borrow.{Bor}
use Rattle.std.specs.List.{enumerate_from, flat_map}
use Rattle.std.specs.Option.{option_map, option_and_then}
use Rattle.std.proofs.Common.{ap, sym, ◌∙◌, subst, append_assoc}
use Rattle.obj_types.specs.declared.object.ObjModule.{ObjModule}
use Rattle.obj_types.specs.Items.{item}
use Rattle.link_model.specs.Link.{Link}
use Rattle.link_model.specs.Parts.{Part, contributions_in, contributions}
use Rattle.link_model.specs.Communals.{communals, parts}
use Rattle.link_model.specs.Order.{own_stacks}
use Rattle.link_model.specs.Layout.{place_of_part, spot, common_spot}
use Rattle.link_model.specs.Goals.{object_of_group, group_name}
use Rattle.seg_parts.specs.declared.rows.Placed.{Placed}
use Rattle.seg_merge.specs.Placing.{ArePlacesOf, AreSpotsOf, comes_of_communal, object_named}
use Rattle.seg_merge.specs.Splits.{with_flags, HaveFlags}
use Rattle.seg_merge.specs.Standing.{StandsSo}
use Rattle.seg_merge.proofs.PlacedGroups.{mapped_twice, object-is, groups-are}
use Rattle.seg_merge.proofs.SpotsFound.{communals-kept, spots-are, commons-are}

module _ (l : Link) (ms : List ObjModule) (ps : List Part) (rows : List Placed) (names groups : List (List ℕ)) (stand : StandsSo l ms ps rows names groups) where
  split : parts l ++ own_stacks l ≡ flat_map (λ (q : ℕ × ObjModule). contributions_in q.0 q.1) (enumerate_from 1 l.modules) ++ (communals l ++ own_stacks l)
  unfolding parts
  split = append_assoc (contributions l) (communals l) (own_stacks l)

  -- The places of parts begin with those of contributions.
  pub spots-found : {V : Type 0} (items : V → List (Option (ℕ × ℕ))) (vs : List V) (places taken : List (ℕ × ℕ)) → taken ≡ places → ArePlacesOf (place_of_part l) ps places → AreSpotsOf ms taken (map items vs) → (n i : ℕ) →
      option_and_then (λ row. option_and_then (λ place. place) (item (items row) i)) (item vs n) ≡ spot l n i
  spots-found {V} items vs places taken same are found =
      let these : AreSpotsOf l.modules taken (map items vs) = subst (λ (t : List ObjModule). AreSpotsOf t taken (map items vs)) stand.modules_are found in
      spots-are items l vs
      (these (place_of_part l) (communals l ++ own_stacks l) (ap (map (λ (q : ℕ × ℕ). Some q)) same ∙ are ∙ ap (map (place_of_part l)) (stand.rows_stand.parts_are ∙ split)))

  pub commons-found : (qs : List Part) (commons places taken : List (ℕ × ℕ)) → qs ≡ ps → taken ≡ places → ArePlacesOf (place_of_part l) ps places →
      (ArePlacesOf (place_of_part l) qs taken → ArePlacesOf (place_of_part l) (filter (λ p. comes_of_communal p.origin) qs) commons) → (slot : ℕ) → slice_get commons slot ≡ common_spot l slot
  commons-found qs commons places taken same_parts same are found =
      commons-are l commons
      (found (ap (map (λ (q : ℕ × ℕ). Some q)) same ∙ are ∙ ap (map (place_of_part l)) (sym same_parts))
      ∙ ap (map (place_of_part l)) (ap (filter (λ (p : Part). comes_of_communal p.origin)) (same_parts ∙ stand.rows_stand.parts_are) ∙ communals-kept l))

  pub groups-found : {V : Type 0} (items : V → List (Option ℕ)) (vs : List V) (lents : List (Bor ObjModule)) (numbers flags : List ℕ) (objects taken : List (Option ℕ)) (count : ℕ) → map (λ m. m.now) lents ≡ ms → numbers ≡ map (λ r. r.object + 1) rows → flags ≡ numbers →
      count ≡ length names → HaveFlags count (with_flags groups flags) objects → taken ≡ objects → map items vs ≡ map (λ m. map (λ g. object_named names taken g.name) m.now.groups) lents → (n i : ℕ) →
      option_and_then (λ row. item (items row) i) (item vs n) ≡ option_map (object_of_group l) (group_name l n i)
  groups-found {V} items vs lents numbers flags objects taken count same_modules numbered same_flags long known same found =
      let name : List ℕ → Option ℕ = object_named names objects in
      let row : ObjModule → List (Option ℕ) = λ m. map (λ g. name g.name) m.groups in
      let known_here : HaveFlags (length names) (with_flags groups numbers) objects = subst (λ (n : ℕ). HaveFlags n (with_flags groups numbers) objects) long (subst (λ (t : List ℕ). HaveFlags count (with_flags groups t) objects) same_flags known) in
      groups-are items l name vs
      (object-is l ps rows stand.rows_stand names groups numbers objects stand.names_are stand.groups_are numbered known_here)
      (found ∙ ap (λ (t : List (Option ℕ)). map (λ (m : Bor ObjModule). map (λ g. object_named names t g.name) m.now.groups) lents) same
      ∙ sym (mapped_twice row (λ (m : Bor ObjModule). m.now) lents) ∙ ap (map row) (same_modules ∙ stand.modules_are))
