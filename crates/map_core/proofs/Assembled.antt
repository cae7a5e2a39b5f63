-- What places and objects of a layout tell is what the link's do.
use Rattle.std.proofs.Common.{◌≡◌, ◌∙◌, ℕ, Bool, true, false, List, [], ◌∷◌, ◌++◌, Option, Some, None, length, map, ap, sym, refl, append_assoc, subst}
use Rattle.std.specs.Prelude.{filter, not, if◌then◌else◌, cond}
use Rattle.std.specs.List.{flat_map, filter_map, cons_option, enumerate_from}
use Rattle.std.specs.Option.{option_map, option_and_then}
use Rattle.std.proofs.lemmas.List.Elements.{filter_map-append}
use Rattle.link_place.proofs.Located.{symbol_is}
use Rattle.lx_types.specs.Names.{uppercase}
use Rattle.obj_types.specs.declared.object.Seg.{Seg}
use Rattle.obj_types.specs.declared.object.ObjModule.{ObjModule}
use Rattle.obj_types.specs.declared.symbol.Pub.{Pub}
use Rattle.obj_types.specs.declared.symbol.Common.{Common}
use Rattle.link_model.specs.declared.symbols.LaidObject.{LaidObject}
use Rattle.link_model.specs.Link.{Link}
use Rattle.link_model.specs.Layout.{objects, spot, common_spot}
use Rattle.link_model.specs.Symbols.{commons, imports, at_place}
use Rattle.link_model.specs.Goals.{Target}
use Rattle.link_types.specs.Symbols.{SymbolTable}
use Rattle.link_types.specs.Binding.{AreSymbolsOf}
use Rattle.link_types.specs.declared.layout.Layout.{Layout}
use Rattle.link_types.specs.Places.{ArePlaces}
use Rattle.link_types.specs.Layout.{IsLaidOut}
use Rattle.link_place.specs.Fixed.{symbol_at}
use Rattle.map_model.specs.Listed.{address_among, Contribution, contribution, contributions_in, contributions, Listed, placed, valued, meaning, publics, placed_publics, constants}
use Rattle.map_model.specs.Lines.{map_line, object_line, segment_line, common_line, public_line, constant_line, import_line}
use Rattle.map_model.specs.Maps.{line_of_contribution, line_of_common, AreInOrder, by_number, by_name, map_text, IsMap}
use Rattle.map_core.specs.Places.{text_of, segment_in, segment_text, module_text, common_of, common_text, meaning_in, placed_in_module, valued_in_module}

-- ---- lines

abbrev itself : List ℕ → List ℕ
itself line = line

joined : (o : Option (List ℕ)) (lines : List (List ℕ)) → flat_map itself (cons_option o lines) ≡ text_of o ++ flat_map itself lines
joined None lines = refl
joined (Some line) lines = refl

joined-append : (xs ys : List (List ℕ)) → flat_map itself (xs ++ ys) ≡ flat_map itself xs ++ flat_map itself ys
joined-append [] ys = refl
joined-append (x ∷ xs) ys = ap (λ (t : List ℕ). x ++ t) (joined-append xs ys) ∙ sym (append_assoc x (flat_map itself xs) (flat_map itself ys))

contribution-is : (l : Link) (lay : Layout) → IsLaidOut l lay → (c : Contribution) → segment_in lay c ≡ line_of_contribution l c
contribution-is l lay h c =
    ap (λ (o : Option (ℕ × ℕ)). option_map (λ place. segment_line c (address_among lay.objects place)) o) (h.places.spots c.by c.index)
    ∙ ap (λ (os : List LaidObject). option_map (λ place. segment_line c (address_among os place)) (spot l c.by c.index)) h.objects

segs-are : (l : Link) (lay : Layout) → IsLaidOut l lay → (n : ℕ) (qs : List (ℕ × Seg))
    → flat_map (segment_text lay n) qs ≡ flat_map itself (filter_map (line_of_contribution l) (map (contribution n) (filter (λ q. not q.1.debug) qs)))
segs-are l lay h n [] = refl
segs-are l lay h n (q ∷ qs) = by q.1.debug (segs-are l lay h n qs)
  where
    rest : List (List ℕ)
    rest = filter_map (line_of_contribution l) (map (contribution n) (filter (λ q. not q.1.debug) qs))

    by : (b : Bool) → flat_map (segment_text lay n) qs ≡ flat_map itself (filter_map (line_of_contribution l) (map (contribution n) (filter (λ q. not q.1.debug) qs)))
        → (if b then [] else text_of (segment_in lay (contribution n q))) ++ flat_map (segment_text lay n) qs
        ≡ flat_map itself (filter_map (line_of_contribution l) (map (contribution n) (cond (not b) (q ∷ filter (λ q. not q.1.debug) qs) (filter (λ q. not q.1.debug) qs))))
    by true r = r
    by false r =
        ap (λ (t : List ℕ). text_of (segment_in lay (contribution n q)) ++ t) r
        ∙ ap (λ (o : Option (List ℕ)). text_of o ++ flat_map itself (filter_map (line_of_contribution l) (map (contribution n) (filter (λ q. not q.1.debug) qs)))) (contribution-is l lay h (contribution n q))
        ∙ sym (joined (line_of_contribution l (contribution n q)) (filter_map (line_of_contribution l) (map (contribution n) (filter (λ q. not q.1.debug) qs))))

modules-are : (l : Link) (lay : Layout) → IsLaidOut l lay → (ms : List (ℕ × ObjModule))
    → flat_map (module_text lay) ms ≡ flat_map itself (filter_map (line_of_contribution l) (flat_map (λ q. contributions_in q.0 q.1) ms))
modules-are l lay h [] = refl
modules-are l lay h (q ∷ ms) =
    let here = contributions_in q.0 q.1 in
    let later = flat_map (λ (q : ℕ × ObjModule). contributions_in q.0 q.1) ms in
    ap (λ (t : List ℕ). module_text lay q ++ t) (modules-are l lay h ms)
    ∙ ap (λ (t : List ℕ). t ++ flat_map itself (filter_map (line_of_contribution l) later)) (segs-are l lay h q.0 (enumerate_from 1 q.1.segs))
    ∙ sym (joined-append (filter_map (line_of_contribution l) here) (filter_map (line_of_contribution l) later))
    ∙ ap (flat_map itself) (sym (filter_map-append (line_of_contribution l) here later))

common-is : (l : Link) (lay : Layout) → IsLaidOut l lay → (q : ℕ × (List ℕ × Common)) → common_of lay q ≡ line_of_common l q
common-is l lay h q =
    ap (λ (o : Option (ℕ × ℕ)). option_map (λ place. common_line q.1 (address_among lay.objects place)) o) (h.places.commons q.0)
    ∙ ap (λ (os : List LaidObject). option_map (λ place. common_line q.1 (address_among os place)) (common_spot l q.0)) h.objects

commons-are : (l : Link) (lay : Layout) → IsLaidOut l lay → (qs : List (ℕ × (List ℕ × Common)))
    → flat_map (common_text lay) qs ≡ flat_map itself (filter_map (line_of_common l) qs)
commons-are l lay h [] = refl
commons-are l lay h (q ∷ qs) =
    ap (λ (t : List ℕ). common_text lay q ++ t) (commons-are l lay h qs)
    ∙ ap (λ (o : Option (List ℕ)). text_of o ++ flat_map itself (filter_map (line_of_common l) qs)) (common-is l lay h q)
    ∙ sym (joined (line_of_common l q) (filter_map (line_of_common l) qs))

-- ---- publics

-- What is picked of publics by what they stand for.
abbrev picked_in : (List ℕ → Target → Option Listed) → Layout → ℕ → Pub → Option Listed
picked_in pick lay n p = option_and_then (pick p.name) (meaning_in lay n p)

abbrev picked_of : (List ℕ → Target → Option Listed) → Link → ℕ × Pub → Option Listed
picked_of pick l q = option_and_then (pick q.1.name) (meaning l q)

abbrev paired : ℕ → List Pub → List (ℕ × Pub)
paired n ps = map (λ p. (n, p)) (filter (λ p. not p.local) ps)

pubs-are : (pick : List ℕ → Target → Option Listed) (l : Link) (lay : Layout) → ArePlaces l lay.places → (n : ℕ) (ps : List Pub)
    → filter_map (picked_in pick lay n) ps ≡ filter_map (picked_of pick l) (paired n ps)
pubs-are pick l lay h n [] = refl
pubs-are pick l lay h n (p ∷ ps) = by p.local (pubs-are pick l lay h n ps)
  where
    by : (b : Bool) → filter_map (picked_in pick lay n) ps ≡ filter_map (picked_of pick l) (paired n ps)
        → cons_option (option_and_then (pick p.name) (if b then None else symbol_at lay.places (at_place n p.place))) (filter_map (picked_in pick lay n) ps)
        ≡ filter_map (picked_of pick l) (map (λ p. (n, p)) (cond (not b) (p ∷ filter (λ p. not p.local) ps) (filter (λ p. not p.local) ps)))
    by true r = r
    by false r =
        ap (λ (xs : List Listed). cons_option (option_and_then (pick p.name) (symbol_at lay.places (at_place n p.place))) xs) r
        ∙ ap (λ (o : Option Target). cons_option (option_and_then (pick p.name) o) (filter_map (picked_of pick l) (paired n ps))) (symbol_is l lay.places (at_place n p.place) h)

publics-are : (pick : List ℕ → Target → Option Listed) (l : Link) (lay : Layout) → ArePlaces l lay.places → (ms : List (ℕ × ObjModule))
    → flat_map (λ q. filter_map (picked_in pick lay q.0) q.1.pubs) ms ≡ filter_map (picked_of pick l) (flat_map (λ q. paired q.0 q.1.pubs) ms)
publics-are pick l lay h [] = refl
publics-are pick l lay h (q ∷ ms) =
    ap (λ (t : List Listed). filter_map (picked_in pick lay q.0) q.1.pubs ++ t) (publics-are pick l lay h ms)
    ∙ ap (λ (t : List Listed). t ++ filter_map (picked_of pick l) (flat_map (λ q. paired q.0 q.1.pubs) ms)) (pubs-are pick l lay h q.0 q.1.pubs)
    ∙ sym (filter_map-append (picked_of pick l) (paired q.0 q.1.pubs) (flat_map (λ (q : ℕ × ObjModule). paired q.0 q.1.pubs) ms))

placed-are : (l : Link) (lay : Layout) → IsLaidOut l lay → flat_map (placed_in_module lay) (enumerate_from 1 l.modules) ≡ placed_publics l
placed-are l lay h =
    publics-are (placed lay.objects) l lay h.places (enumerate_from 1 l.modules)
    ∙ ap (λ (os : List LaidObject). filter_map (picked_of (placed os) l) (publics l)) h.objects

valued-are : (l : Link) (lay : Layout) → IsLaidOut l lay → flat_map (valued_in_module lay) (enumerate_from 1 l.modules) ≡ constants l
valued-are l lay h = publics-are valued l lay h.places (enumerate_from 1 l.modules)

-- ---- the whole

-- The text whose parts are these.
pub map-assembled : (name upper : List ℕ) (ms : List ObjModule) (s : SymbolTable) (lay : Layout) (places values : List Listed) (a b c d e f g : List ℕ)
    → upper ≡ uppercase name
    → AreInOrder by_number (flat_map (placed_in_module lay) (enumerate_from 1 ms)) places
    → AreInOrder by_name (flat_map (valued_in_module lay) (enumerate_from 1 ms)) values
    → a ≡ map_line upper (length lay.objects)
    → b ≡ a ++ flat_map object_line (enumerate_from 1 lay.objects)
    → c ≡ b ++ flat_map (module_text lay) (enumerate_from 1 ms)
    → d ≡ c ++ flat_map (common_text lay) (enumerate_from 0 s.commons)
    → e ≡ d ++ flat_map public_line places
    → f ≡ e ++ flat_map constant_line values
    → g ≡ f ++ flat_map import_line s.imports
    → (l : Link) → l.modules ≡ ms → AreSymbolsOf l s → IsLaidOut l lay → IsMap name l g
unfolding map_text
map-assembled name upper ms s lay places values a b c d e f g hu hp hv ha hb hc hd he hf hg l modules syms laid =
    let head = map_line (uppercase name) (length (objects l)) in
    let os = flat_map object_line (enumerate_from 1 (objects l)) in
    let ss = flat_map (λ (line : List ℕ). line) (filter_map (line_of_contribution l) (contributions l)) in
    let cs = flat_map (λ (line : List ℕ). line) (filter_map (line_of_common l) (enumerate_from 0 (commons l))) in
    let ps = flat_map public_line places in
    let vs = flat_map constant_line values in
    let is = flat_map import_line (imports l) in
    let ea : a ≡ head = ha ∙ ap (λ (n : List ℕ). map_line n (length lay.objects)) hu ∙ ap (λ (xs : List LaidObject). map_line (uppercase name) (length xs)) laid.objects in
    let eb : b ≡ a ++ os = hb ∙ ap (λ (xs : List LaidObject). a ++ flat_map object_line (enumerate_from 1 xs)) laid.objects in
    let ec : c ≡ b ++ ss = hc ∙ ap (λ (xs : List ObjModule). b ++ flat_map (module_text lay) (enumerate_from 1 xs)) (sym modules) ∙ ap (λ (t : List ℕ). b ++ t) (modules-are l lay laid (enumerate_from 1 l.modules)) in
    let ed : d ≡ c ++ cs = hd ∙ ap (λ (xs : List (List ℕ × Common)). c ++ flat_map (common_text lay) (enumerate_from 0 xs)) syms.commons ∙ ap (λ (t : List ℕ). c ++ t) (commons-are l lay laid (enumerate_from 0 (commons l))) in
    let eg : g ≡ f ++ is = hg ∙ ap (λ xs. f ++ flat_map import_line xs) syms.imports in
    record {
      places = places;
      by_address = subst (λ (xs : List Listed). AreInOrder by_number xs places) (ap (λ (xs : List ObjModule). flat_map (placed_in_module lay) (enumerate_from 1 xs)) (sym modules) ∙ placed-are l lay laid) hp;
      values = values;
      by_name = subst (λ (xs : List Listed). AreInOrder by_name xs values) (ap (λ (xs : List ObjModule). flat_map (valued_in_module lay) (enumerate_from 1 xs)) (sym modules) ∙ valued-are l lay laid) hv;
      is = regroup head os ss cs ps vs is a b c d e f g ea eb ec ed he hf eg;
    }
  where
    regroup : (t u v w x y z a b c d e f g : List ℕ) → a ≡ t → b ≡ a ++ u → c ≡ b ++ v → d ≡ c ++ w → e ≡ d ++ x → f ≡ e ++ y → g ≡ f ++ z
        → g ≡ t ++ (u ++ (v ++ (w ++ (x ++ (y ++ z)))))
    regroup t u v w x y z a b c d e f g ha hb hc hd he hf hg = rw (hg, hf, he, hd, hc, hb, ha) (simp append_assoc)
