-- Each contribution, each communal and each public of a link of whole modules stands for something.
use Rattle.std.specs.Prelude.{◌≡◌, ℕ, suc, true, false, not, List, [], ◌∷◌, ◌++◌, Option, Some, None, IsSome, map, filter, slice_get, IsPermutation, refl}
use Rattle.std.specs.List.{filter_map, cons_option, enumerate_from}
use Rattle.std.specs.Option.{option_map, option_and_then}
use Rattle.std.proofs.Common.{ap, sym, ◌∙◌, arith, subst}
use Rattle.std.proofs.lemmas.Bool.{not-true}
use Rattle.std.proofs.lemmas.List.Elements.{filter_passes}
use Rattle.std.proofs.lemmas.List.Sorted.{IsPermutation-refl, IsPermutation-sym, IsPermutation-trans, IsPermutation-cons, IsPermutation-middle}
use Rattle.lx_types.proofs.Options.{mapped_some, some_and}
use Rattle.obj_types.specs.declared.object.Seg.{Seg}
use Rattle.obj_types.specs.declared.object.ObjModule.{ObjModule}
use Rattle.obj_types.specs.declared.symbol.Pub.{Pub}
use Rattle.obj_types.specs.declared.symbol.PubPlace.{PubPlace}
use Rattle.obj_types.specs.declared.symbol.PubPlace.TheVariants as places
use Rattle.obj_types.specs.declared.symbol.Common.{Common}
use Rattle.obj_types.specs.Items.{item}
use Rattle.obj_types.specs.Whole.{WholePlace}
use Rattle.link_model.specs.Link.{Link, chosen_module}
use Rattle.link_model.specs.Layout.{objects, spot, common_spot}
use Rattle.link_model.specs.Symbols.{commons}
use Rattle.link_model.specs.Goals.{Target, Internal, Constant, shifted, internal}
use Rattle.link_model.specs.NothingDropped.{WholeLink, LiesInObject, SegmentsStand, CommunalsStand}
use Rattle.link_model.proofs.Members.{In, here, there, all_in, from_map, from_filter, from_flat_map, from_numbered, value_of}
use Rattle.link_model.proofs.FixupsStay.{module_whole, numbered_module}
use Rattle.map_model.specs.Listed.{Contribution, contribution, contributions_in, contributions, publics, Listed, placed, valued, meaning}
use Rattle.map_model.specs.Maps.{line_of_contribution, line_of_common}

-- ---- what is found of each item

pub all_found : {X Y : Type 0} (f : X → Option Y) (xs : List X) → ((x : X) → In x xs → IsSome (f x)) → map Some (filter_map f xs) ≡ map f xs
all_found f [] each = refl
all_found {X} {Y} f (x ∷ xs) each = by (f x) (each x here) (all_found f xs (λ y i. each y (there i)))
  where
    by : (o : Option Y) → IsSome o → map Some (filter_map f xs) ≡ map f xs → map Some (cons_option o (filter_map f xs)) ≡ o ∷ map f xs
    by None h r = absurd (nothing h)
      where
        nothing : false ≡ true → ⊥
        nothing e = grind (arith, e)
    by (Some y) h r = ap (λ (os : List (Option Y)). Some y ∷ os) r

-- ---- contributions and communals

-- A contribution is a segment of its module that is not debug.
record IsPlain (l : Link) (c : Contribution) : Type 0 where
  owner : ObjModule
  chosen : chosen_module l c.by ≡ Some owner
  is : item owner.segs c.index ≡ Some c.seg
  plain : c.seg.debug ≡ false

plain_by : (l : Link) (n : ℕ) (m : ObjModule) (q : ℕ × Seg) → chosen_module l n ≡ Some m → In q (filter (λ q. not q.1.debug) (enumerate_from 1 m.segs))
    → IsPlain l (contribution n q)
plain_by l n m q em i =
    let r = from_numbered 1 m.segs (from_filter (λ q. not q.1.debug) (enumerate_from 1 m.segs) i) in
    let at = r.number in
    let same : suc r.place ≡ q.0 = omega (arith, at) in
    record {
      owner = m;
      chosen = em;
      is = subst (λ (k : ℕ). item m.segs k ≡ Some q.1) same r.is;
      plain = not-true q.1.debug (all_in (λ q. not q.1.debug ≡ true) (filter (λ q. not q.1.debug) (enumerate_from 1 m.segs)) (filter_passes (λ q. not q.1.debug) (enumerate_from 1 m.segs)) i);
    }

contribution_plain : (l : Link) (c : Contribution) → In c (contributions l) → IsPlain l c
contribution_plain l c i =
    let r = from_flat_map (λ (q : ℕ × ObjModule). contributions_in q.0 q.1) (enumerate_from 1 l.modules) i in
    let s = from_map (contribution r.item.0) (filter (λ q. not q.1.debug) (enumerate_from 1 r.item.1.segs)) r.gives in
    subst (IsPlain l) s.is (plain_by l r.item.0 r.item.1 s.item (numbered_module l r.item r.inside) s.inside)

pub contribution_found : (l : Link) → SegmentsStand → (c : Contribution) → In c (contributions l) → IsSome (line_of_contribution l c)
contribution_found l stand c i =
    let p = contribution_plain l c i in
    mapped_some _ (spot l c.by c.index) (some_and (spot l c.by c.index) (LiesInObject l c.seg.len) (stand l c.by c.index p.owner c.seg p.chosen p.is p.plain))

pub common_found : (l : Link) → CommunalsStand → (q : ℕ × (List ℕ × Common)) → In q (enumerate_from 0 (commons l)) → IsSome (line_of_common l q)
common_found l stand q i =
    let r = from_numbered 0 (commons l) i in
    let at = r.number in
    let same : r.place ≡ q.0 = omega (arith, at) in
    let is : slice_get (commons l) q.0 ≡ Some q.1 = subst (λ (k : ℕ). slice_get (commons l) k ≡ Some q.1) same r.is in
    mapped_some _ (common_spot l q.0) (some_and (common_spot l q.0) (LiesInObject l q.1.1.len) (stand l q.0 q.1 is))

-- ---- publics

-- A public stands for a place or for a number.
pub data Stands (l : Link) (q : ℕ × Pub) : Type 0 where
  At : (object offset : ℕ) → meaning l q ≡ Some (Internal object offset) → Stands l q
  Is : (value : ℕ) → meaning l q ≡ Some (Constant value) → Stands l q

place_stands : (l : Link) → SegmentsStand → (n : ℕ) (m : ObjModule) (p : Pub) (place : PubPlace) → chosen_module l n ≡ Some m → p.place ≡ place → WholePlace m place
    → Stands l (n, p)
place_stands l stand n m p (places.In seg offset) em is whole =
    let s = value_of (item m.segs seg) (λ s. s.debug ≡ false) whole in
    let v = value_of (spot l n seg) (LiesInObject l s.item.len) (stand l n seg m s.item em s.is s.holds) in
    let q = shifted offset v.item in
    At q.0 q.1 (ap (λ (t : PubPlace). meaning l (n, record p { place = t })) is ∙ ap (λ (o : Option (ℕ × ℕ)). internal (option_map (shifted offset) o)) v.is)
place_stands l stand n m p (places.Const value) em is whole = Is value (ap (λ (t : PubPlace). meaning l (n, record p { place = t })) is)

pub public_stands : (l : Link) → WholeLink l → SegmentsStand → (q : ℕ × Pub) → In q (publics l) → Stands l q
public_stands l whole stand q i =
    let r = from_flat_map (λ (t : ℕ × ObjModule). map (λ p. (t.0, p)) (filter (λ p. not p.local) t.1.pubs)) (enumerate_from 1 l.modules) i in
    let s = from_map (λ p. (r.item.0, p)) (filter (λ p. not p.local) r.item.1.pubs) r.gives in
    let em = numbered_module l r.item r.inside in
    let w = module_whole l r.item.0 r.item.1 whole em in
    let inside = from_filter (λ (p : Pub). not p.local) r.item.1.pubs s.inside in
    let holds = all_in (λ (p : Pub). WholePlace r.item.1 p.place) r.item.1.pubs w.pubs inside in
    subst (Stands l) s.is (place_stands l stand r.item.0 r.item.1 s.item s.item.place em refl holds)

-- ---- each public is among those with a place or among the others

abbrev pub placed_of : Link → ℕ × Pub → Option Listed
placed_of l q = option_and_then (placed (objects l) q.1.name) (meaning l q)

abbrev pub valued_of : Link → ℕ × Pub → Option Listed
valued_of l q = option_and_then (valued q.1.name) (meaning l q)

abbrev name_of : Listed → List ℕ
name_of p = p.name

pub publics_split : (l : Link) (qs : List (ℕ × Pub)) → ((q : ℕ × Pub) → In q qs → Stands l q)
    → IsPermutation (map (λ q. q.1.name) qs) (map name_of (filter_map (placed_of l) qs) ++ map name_of (filter_map (valued_of l) qs))
publics_split l [] each = IsPermutation-refl []
publics_split l (q ∷ qs) each =
    by (each q here) (publics_split l qs (λ y i. each y (there i)))
  where
    by : Stands l q → IsPermutation (map (λ q. q.1.name) qs) (map name_of (filter_map (placed_of l) qs) ++ map name_of (filter_map (valued_of l) qs))
        → IsPermutation (q.1.name ∷ map (λ q. q.1.name) qs)
        (map name_of (cons_option (placed_of l q) (filter_map (placed_of l) qs)) ++ map name_of (cons_option (valued_of l q) (filter_map (valued_of l) qs)))
    by (At object offset is) rest =
        subst (λ (t : Option Target). IsPermutation (q.1.name ∷ map (λ q. q.1.name) qs)
        (map name_of (cons_option (option_and_then (placed (objects l) q.1.name) t) (filter_map (placed_of l) qs))
        ++ map name_of (cons_option (option_and_then (valued q.1.name) t) (filter_map (valued_of l) qs))))
        (sym is) (IsPermutation-cons q.1.name (map (λ q. q.1.name) qs) (map name_of (filter_map (placed_of l) qs) ++ map name_of (filter_map (valued_of l) qs)) rest)
    by (Is value is) rest =
        let ps = map name_of (filter_map (placed_of l) qs) in
        let vs = map name_of (filter_map (valued_of l) qs) in
        let all = map (λ q. q.1.name) qs in
        subst (λ (t : Option Target). IsPermutation (q.1.name ∷ map (λ q. q.1.name) qs)
        (map name_of (cons_option (option_and_then (placed (objects l) q.1.name) t) (filter_map (placed_of l) qs))
        ++ map name_of (cons_option (option_and_then (valued q.1.name) t) (filter_map (valued_of l) qs))))
        (sym is)
        (IsPermutation-trans (q.1.name ∷ all) (q.1.name ∷ (ps ++ vs)) (ps ++ q.1.name ∷ vs)
        (IsPermutation-cons q.1.name all (ps ++ vs) rest) (IsPermutation-sym (ps ++ q.1.name ∷ vs) (q.1.name ∷ (ps ++ vs)) (IsPermutation-middle ps q.1.name vs)))
