-- The object of each group, from those of its logical segments.
use Rattle.std.specs.Prelude.{◌≡◌, ℕ, ◌+◌, ◌<◌, Bool, true, false, cond, not, ◌&&◌, ◌||◌, List, [], ◌∷◌, Option, Some, None, map, filter, find, position, length, get_or, is_some, bytes_eq, AllPairs, refl}
use Rattle.std.specs.List.{enumerate_from, flat_map, filter_map, cons_option, list_any, position_or_len, range_with_len}
use Rattle.std.specs.Option.{option_map, option_and_then, option_map_or, option_or}
use Rattle.std.specs.Cmp.Lexicographic.{nat_list_eq_equiv}
use Rattle.std.proofs.Common.{ap, sym, ◌∙◌, arith, subst}
use Rattle.std.proofs.lemmas.Bool.{eq-eqb}
use Rattle.std.proofs.lemmas.List.{get_or-map}
use Rattle.std.proofs.lemmas.List.Folds.{list_any-append, find-append}
use Rattle.std.proofs.lemmas.Slice.Eq.{bytes_eq-Decides}
use Rattle.lx_types.proofs.Options.{or_none}
use Rattle.lx_types.proofs.Lists.{any_filter}
use Rattle.obj_types.specs.declared.object.Group.{Group}
use Rattle.obj_types.specs.declared.object.ObjModule.{ObjModule}
use Rattle.obj_types.specs.Items.{item}
use Rattle.link_model.specs.declared.keys.Origin.TheVariants.{Segment, OwnStack}
use Rattle.link_model.specs.declared.keys.SegmentKey.TheVariants.{Private, Public, Common}
use Rattle.link_model.specs.Link.{Link}
use Rattle.link_model.specs.Parts.{Part, same_origin, same_segment, joins, is_private, is_common, is_stack, contributions_in}
use Rattle.link_model.specs.Communals.{parts}
use Rattle.link_model.specs.Groups.{FLAT, DGROUP, group_names, members_in, in_group, has_near}
use Rattle.link_model.specs.Order.{own_stack, own_stacks, is_program}
use Rattle.link_model.specs.Rows.{Row, row_of}
use Rattle.link_model.specs.Layout.{object_of}
use Rattle.link_model.specs.Goals.{object_of_group, group_name}
use Rattle.link_model.proofs.KeyTests.{origin_equal}
use Rattle.link_model.proofs.Members.{In, here, there, in_map, in_filter, in_flat_map, any_in, found_as, in_item, placed, position_is}
use Rattle.link_model.proofs.Tables.{any-firsts, firsts-apart}
use Rattle.name_table.proofs.Shown.{any-place}
use Rattle.seg_parts.specs.declared.rows.Placed.{Placed}
use Rattle.seg_parts.specs.LogicalSegments.{heads_of}
use Rattle.seg_parts.specs.Placing.{placed_shown}
use Rattle.seg_parts.proofs.ClassOrder.{place-is}
use Rattle.seg_parts.proofs.Lists.{find_mapped}
use Rattle.seg_merge.specs.Membership.{AreGroupsOf}
use Rattle.seg_merge.specs.Placing.{object_named}
use Rattle.seg_merge.specs.Splits.{has, with_flags, HaveFlags}
use Rattle.seg_merge.specs.Standing.{RowsStand}
use Rattle.seg_merge.proofs.HeadsStand.{find-heads, find-range}
use Rattle.seg_merge.proofs.UseWalk.{in_group-alike}
use Rattle.link_types.proofs.Numbered.{item-mapped}
use Rattle.seg_merge.proofs.SpotsFound.{then-mapped}

-- ---- the linker's own stack is in no group

none_all : {X : Type 0} (p : X → Bool) → ((x : X) → p x ≡ false) → (xs : List X) → list_any p xs ≡ false
none_all p h [] = refl
none_all p h (x ∷ xs) = ap (λ (b : Bool). b || list_any p xs) (h x) ∙ none_all p h xs

none_flat : {X Y : Type 0} (p : Y → Bool) (f : X → List Y) → ((x : X) → list_any p (f x) ≡ false) → (xs : List X) → list_any p (flat_map f xs) ≡ false
none_flat p f h [] = refl
none_flat p f h (x ∷ xs) =
    list_any-append p (f x) (flat_map f xs) ∙ ap (λ (b : Bool). b || list_any p (flat_map f xs)) (h x) ∙ none_flat p f h xs

none_kept : {X Y : Type 0} (p : Y → Bool) (h : X → Option Y) → ((x : X) (y : Y) → h x ≡ Some y → p y ≡ false) → (xs : List X) → list_any p (filter_map h xs) ≡ false
none_kept p h none [] = refl
none_kept {X} {Y} p h none (x ∷ xs) = by (h x) refl (none_kept p h none xs)
  where
    by : (o : Option Y) → h x ≡ o → list_any p (filter_map h xs) ≡ false → list_any p (cons_option o (filter_map h xs)) ≡ false
    by None e rest = rest
    by (Some y) e rest = ap (λ (b : Bool). b || list_any p (filter_map h xs)) (none x y e) ∙ rest

stack_apart : (q : Part) (n i : ℕ) → q.origin ≡ Segment n i → joins own_stack q ≡ false
stack_apart q n i e = by (is_private q) (is_common q)
  where
    by : (b c : Bool) → same_segment (Private OwnStack) (cond b (Private q.origin) (cond c (Common q.name q.class) (Public q.name q.class))) ≡ false
    by true c = ap (same_origin OwnStack) e
    by false true = refl
    by false false = refl

-- No group lists it.
unlisted : (n : ℕ) (m : ObjModule) (h : Group) → list_any (λ q. joins own_stack q) (members_in n m h) ≡ false
unlisted n m h =
    none_kept (λ q. joins own_stack q) (λ index. find (λ p. same_origin (Segment n index) p.origin) (contributions_in n m))
    (λ index q e. let hit = found_as (λ p. same_origin (Segment n index) p.origin) (contributions_in n m) q e in
    stack_apart q n index (sym (origin_equal (Segment n index) q.origin hit.passes))) h.members

near_none : (a b c : Bool) → ((a && b) && (false && c)) ≡ false
near_none true true c = refl
near_none true false c = refl
near_none false b c = refl

pub stack-in-none : (l : Link) (g : List ℕ) → in_group l g own_stack ≡ false
stack-in-none l g =
    ap (λ (b : Bool). b || ((bytes_eq g DGROUP && list_any (bytes_eq DGROUP) (group_names l)) && (false && has_near l)))
    (none_flat (λ q. joins own_stack q) (λ (q : ℕ × ObjModule). flat_map (members_in q.0 q.1) (filter (λ h. bytes_eq h.name g) q.1.groups))
    (λ q. none_flat (λ p. joins own_stack p) (members_in q.0 q.1) (unlisted q.0 q.1) (filter (λ h. bytes_eq h.name g) q.1.groups)) (enumerate_from 1 l.modules))
    ∙ near_none (bytes_eq g DGROUP) (list_any (bytes_eq DGROUP) (group_names l)) (has_near l)

-- ---- FLAT has no place

flat_by : (g x : List ℕ) (b c : Bool) → bytes_eq g FLAT ≡ true → bytes_eq x FLAT ≡ b → bytes_eq g x ≡ c → (not b && c) ≡ false
flat_by g x true c flat is same = refl
flat_by g x false false flat is same = refl
flat_by g x false true flat is same = absurd (no (sym flat ∙ (nat_list_eq_equiv.congr g x FLAT same ∙ is)))
  where
    no : true ≡ false → ⊥
    no e = cc

flat-nowhere : (l : Link) (g : List ℕ) → bytes_eq g FLAT ≡ true → position (bytes_eq g) (group_names l) ≡ None
flat-nowhere l g flat =
    let names : List (List ℕ) = flat_map (λ m. map (λ h. h.name) m.groups) l.modules in
    let none : list_any (bytes_eq g) (group_names l) ≡ false =
    any-firsts nat_list_eq_equiv g (filter (λ h. not (bytes_eq h FLAT)) names)
    ∙ any_filter (bytes_eq g) (λ h. not (bytes_eq h FLAT)) names
    ∙ none_all (λ x. not (bytes_eq x FLAT) && bytes_eq g x) (λ x. flat_by g x (bytes_eq x FLAT) (bytes_eq g x) flat refl refl) names in
    ap (λ (b : Bool). cond b (Some (position_or_len (bytes_eq g) (group_names l))) None) (sym (any-place (bytes_eq g) (group_names l)) ∙ none)

-- ---- the object of the first logical segment

pub mapped_twice : {X Y Z : Type 0} (f : Y → Z) (g : X → Y) (xs : List X) → map f (map g xs) ≡ map (λ x. f (g x)) xs
mapped_twice f g [] = refl
mapped_twice {X} {Y} {Z} f g (x ∷ xs) = ap (λ (t : List Z). f (g x) ∷ t) (mapped_twice f g xs)

some_in : {X Y : Type 0} (f : X → Y) (o : Option Y) (xs : List X) → In o (map (λ x. Some (f x)) xs) → is_some o ≡ true
some_in f o [] i = elim i [ ]
some_in f o (x ∷ xs) here = refl
some_in f o (x ∷ xs) (there i) = some_in f o xs i

abbrev object_or : Link → Part → ℕ
object_or l h = option_map_or (λ r. r.object) (row_of l h) 0

has_object : (l : Link) (h : Part) (o : Option Row) → is_some o ≡ true → Some (option_map_or (λ (r : Row). r.object) o 0) ≡ option_map (λ (r : Row). r.object) o
has_object l h None e = cc
has_object l h (Some r) e = refl

none_own : (l : Link) (g : List ℕ) (b : Bool) → find (in_group l g) (cond b (own_stack ∷ []) []) ≡ None
none_own l g true = ap (λ (t : Bool). cond t (Some own_stack) None) (stack-in-none l g)
none_own l g false = refl

module _ (l : Link) (ps : List Part) (rows : List Placed) (stand : RowsStand l ps rows) where
  -- The first logical segment of a group is that of its first part.
  first-part : (g : List ℕ) → find (in_group l g) (heads_of ps) ≡ find (in_group l g) (parts l)
  first-part g =
      find-heads joins (in_group l g) ps (λ i j d lt below same. in_group-alike l g (get_or ps i d) (get_or ps j d) same)
      ∙ ap (find (in_group l g)) stand.parts_are
      ∙ find-append (in_group l g) (parts l) (own_stacks l)
      ∙ ap (option_or (find (in_group l g) (parts l))) (none_own l g (is_program l.def.kind && not (list_any is_stack (parts l))))
      ∙ or_none (find (in_group l g) (parts l))

  head-object : (g : List ℕ) (o : Option Part) → find (in_group l g) (heads_of ps) ≡ o → option_map (object_or l) o ≡ option_and_then (object_of l) o
  head-object g None e = refl
  head-object g (Some h) e =
      let hit = found_as (in_group l g) (heads_of ps) h e in
      let row : In (row_of l h) (map (λ (r : Placed). Some (placed_shown r)) rows) = subst (λ (t : List (Option Row)). In (row_of l h) t) stand.rows_are (in_map (row_of l) hit.inside) in
      has_object l h (row_of l h) (some_in placed_shown (row_of l h) rows row)

  numbers-are : (numbers : List ℕ) → numbers ≡ map (λ (r : Placed). r.object + 1) rows → numbers ≡ map (object_or l) (heads_of ps)
  numbers-are numbers e =
      let value : Option Row → ℕ = λ o. option_map_or (λ (r : Row). r.object) o 0 in
      e ∙ sym (mapped_twice value (λ (r : Placed). Some (placed_shown r)) rows) ∙ sym (ap (map value) stand.rows_are) ∙ mapped_twice value (row_of l) (heads_of ps)

  module _ (names lists : List (List ℕ)) (numbers : List ℕ) (objects : List (Option ℕ)) (named : names ≡ group_names l) (are : AreGroupsOf (in_group l) names (heads_of ps) lists) (numbered : numbers ≡ map (λ (r : Placed). r.object + 1) rows)
      (known : HaveFlags (length names) (with_flags lists numbers) objects) where
    -- The object of the group with a place.
    object-at : (k : ℕ) (d : List ℕ) → k < length names → get_or objects k None ≡ option_and_then (object_of l) (find (in_group l (get_or names k d)) (parts l))
    object-at k d lt =
        let g : List ℕ = get_or names k d in
        let row : ℕ → List ℕ × ℕ = λ j. (get_or lists j [], get_or numbers j 0) in
        let same : numbers ≡ map (object_or l) (heads_of ps) = numbers-are numbers numbered in
        known.each k lt
        ∙ ap (λ (o : Option (List ℕ × ℕ)). option_map (λ q. q.1) o) (sym (find_mapped (λ (q : List ℕ × ℕ). has k q.0) row (range_with_len 0 (length lists))))
        ∙ twice_mapped (λ (q : List ℕ × ℕ). q.1) row (find (λ j. has k (get_or lists j [])) (range_with_len 0 (length lists)))
        ∙ ap (λ (m : ℕ). option_map (λ j. get_or numbers j 0) (find (λ j. has k (get_or lists j [])) (range_with_len 0 m))) are.one_each
        ∙ find-range (λ j. has k (get_or lists j [])) (λ j. get_or numbers j 0) (in_group l g) (object_or l) 0 (heads_of ps)
        (λ j h below. ap (λ (m : ℕ). has k (get_or lists m [])) (none_more j) ∙ are.members j k [] d h below lt)
        (λ j h below. ap (λ (m : ℕ). get_or numbers m 0) (none_more j) ∙ ap (λ (t : List ℕ). get_or t j 0) same ∙ get_or-map (object_or l) (heads_of ps) j h 0 below)
        ∙ head-object g (find (in_group l g) (heads_of ps)) refl
        ∙ ap (option_and_then (object_of l)) (first-part g)
      where
        none_more : (n : ℕ) → 0 + n ≡ n
        none_more n = omega arith

        twice_mapped : {X Y Z : Type 0} (f : Y → Z) (h : X → Y) (o : Option X) → option_map f (option_map h o) ≡ option_map (λ x. f (h x)) o
        twice_mapped f h None = refl
        twice_mapped f h (Some x) = refl

    -- The object of a group that has a place, or is FLAT.
    pub object-is : (g : List ℕ) → (bytes_eq g FLAT ≡ false → list_any (bytes_eq g) (group_names l) ≡ true) → object_named names objects g ≡ object_of_group l g
    object-is g listed = by (bytes_eq g FLAT) refl
      where
        by : (b : Bool) → bytes_eq g FLAT ≡ b → object_named names objects g ≡ cond b None (option_and_then (object_of l) (find (in_group l g) (parts l)))
        by true flat =
            ap (λ (t : List (List ℕ)). option_and_then (λ k. get_or objects k None) (position (bytes_eq g) t)) named
            ∙ ap (option_and_then (λ k. get_or objects k None)) (flat-nowhere l g flat)
        by false other =
            let any : list_any (bytes_eq g) names ≡ true = ap (list_any (bytes_eq g)) named ∙ listed other in
            let k : ℕ = position_or_len (bytes_eq g) names in
            let lt : k < length names = placed (bytes_eq g) names any in
            let apart : AllPairs (λ a b. bytes_eq a b ≡ false) names = subst (λ (t : List (List ℕ)). AllPairs (λ a b. bytes_eq a b ≡ false) t) (sym named) (firsts-apart bytes_eq (filter (λ h. not (bytes_eq h FLAT)) (flat_map (λ m. map (λ h. h.name) m.groups) l.modules))) in
            let found : bytes_eq g (get_or names k g) ≡ true = sym (place-is bytes_eq nat_list_eq_equiv g names k g apart lt) ∙ eq-eqb k k refl in
            let same : get_or names k g ≡ g = sym ((bytes_eq-Decides g (get_or names k g)).0 found) in
            ap (option_and_then (λ j. get_or objects j None)) (position_is (bytes_eq g) names any)
            ∙ object-at k g lt
            ∙ ap (λ (h : List ℕ). option_and_then (object_of l) (find (in_group l h) (parts l))) same

-- ---- the groups of modules

-- A group of a chosen module is FLAT, or has a place.
group-named : (l : Link) (m : ObjModule) (h : Group) → In m l.modules → In h m.groups → bytes_eq h.name FLAT ≡ false → list_any (bytes_eq h.name) (group_names l) ≡ true
group-named l m h i j other =
    let names : List (List ℕ) = flat_map (λ m. map (λ g. g.name) m.groups) l.modules in
    any-firsts nat_list_eq_equiv h.name (filter (λ g. not (bytes_eq g FLAT)) names)
    ∙ any_in (bytes_eq h.name) (in_filter (λ g. not (bytes_eq g FLAT)) (in_flat_map (λ (t : ObjModule). map (λ g. g.name) t.groups) i (in_map (λ (g : Group). g.name) j)) (ap not other)) (nat_list_eq_equiv.refl h.name)

pub groups-are : {V : Type 0} (items : V → List (Option ℕ)) (l : Link) (name : List ℕ → Option ℕ) (vs : List V) → ((g : List ℕ) → (bytes_eq g FLAT ≡ false → list_any (bytes_eq g) (group_names l) ≡ true) → name g ≡ object_of_group l g) →
    map items vs ≡ map (λ m. map (λ g. name g.name) m.groups) l.modules → (n i : ℕ) → option_and_then (λ row. item (items row) i) (item vs n) ≡ option_map (object_of_group l) (group_name l n i)
groups-are {V} items l name vs each are n i =
    sym (then-mapped (λ (row : List (Option ℕ)). item row i) items (item vs n))
    ∙ ap (option_and_then (λ (row : List (Option ℕ)). item row i)) (sym (item-mapped items vs n) ∙ ap (λ (t : List (List (Option ℕ))). item t n) are ∙ item-mapped (λ (m : ObjModule). map (λ g. name g.name) m.groups) l.modules n)
    ∙ then-mapped (λ (row : List (Option ℕ)). item row i) (λ (m : ObjModule). map (λ g. name g.name) m.groups) (item l.modules n)
    ∙ by (item l.modules n) refl
  where
    of_group : (m : ObjModule) → In m l.modules → (o : Option Group) → item m.groups i ≡ o → option_map (λ (g : Group). name g.name) o ≡ option_map (object_of_group l) (option_map (λ (g : Group). g.name) o)
    of_group m inside None e = refl
    of_group m inside (Some g) e = ap (λ (k : Option ℕ). Some k) (each g.name (group-named l m g inside (in_item m.groups i g e)))

    by : (o : Option ObjModule) → item l.modules n ≡ o → option_and_then (λ m. item (map (λ (g : Group). name g.name) m.groups) i) o ≡ option_map (object_of_group l) (option_and_then (λ m. option_map (λ (g : Group). g.name) (item m.groups i)) o)
    by None e = refl
    by (Some m) e =
        item-mapped (λ (g : Group). name g.name) m.groups i ∙ of_group m (in_item l.modules n m e) (item m.groups i) refl
