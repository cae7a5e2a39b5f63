-- Each part of a link has a row, and lies in what its row has.
use Rattle.std.specs.Prelude.{◌≡◌, ℕ, zero, suc, ◌+◌, ◌≤◌, ◌<◌, Bool, true, false, cond, ◌==◌, List, [], ◌∷◌, ◌++◌, Option, Some, None, map, max, length, filter, slice_get, is_some, unwrap_or, bytes_eq, refl}
use Rattle.std.specs.List.{find, fold, list_any, enumerate_from, position_or_len}
use Rattle.std.specs.Option.{option_map, option_and_then, option_or, option_map_or, IsSomeAnd}
use Rattle.std.specs.Cmp.Lexicographic.{nat_list_eq_equiv}
use Rattle.std.proofs.Common.{ap, sym, ◌∙◌, arith, true≢false, subst, inl, inr, ◌⊎◌}
use Rattle.std.proofs.Math.Nat.{le-max_left, le-max_right, add-zero}
use Rattle.std.proofs.Math.Numerals.{add-one}
use Rattle.std.proofs.lemmas.Bool.{eq-eqb}
use Rattle.std.proofs.lemmas.List.{append-nil}
use Rattle.std.proofs.lemmas.List.Folds.{find-append}
use Rattle.lx_types.proofs.Lists.{any_map}
use Rattle.obj_types.specs.Items.{item}
use Rattle.link_model.specs.declared.symbols.LaidObject.{LaidObject}
use Rattle.link_model.specs.Link.{Link}
use Rattle.link_model.specs.Parts.{Origin, same_origin, Part, is_common, joins}
use Rattle.link_model.specs.Communals.{parts}
use Rattle.link_model.specs.Flags.{flags_of}
use Rattle.link_model.specs.Order.{segments, classes, by_class, own_stacks, ordered, parts_of, object_key, same_object, object_heads, object_number}
use Rattle.link_model.specs.Rows.{aligned, end_of_parts, longest, least_len, parts_end, segment_end, Row, end_in, row_after, rows_after, rows, row_of, before, offset_in}
use Rattle.link_model.specs.Layout.{room, placed_from, first_base, objects, place_of_part, place_of_origin}
use Rattle.link_model.specs.NothingDropped.{LiesInObject}
use Rattle.link_model.proofs.Rules.{rules}
use Rattle.link_model.proofs.Tables.{any-firsts}
use Rattle.link_model.proofs.Members.{In, here, there, in_left, in_map, in_filter, in_flat_map, any_in, Found, found, found_as, finds, placed, position_is, item_at}
use Rattle.link_model.proofs.KeyTests.{origin_equal, joining, in_one_object}

-- ---- each part has a row

-- A part's logical segment is in the order.
in_class : (l : Link) (s : Part) → In s (segments l) → In s (by_class l)
in_class l s i =
    let known = any-firsts nat_list_eq_equiv s.class (map (λ t. t.class) (segments l)) ∙ any_in (bytes_eq s.class) (in_map (λ (t : Part). t.class) i) (nat_list_eq_equiv.refl s.class) in
    let c = found (bytes_eq s.class) (classes l) known in
    in_flat_map (λ c. filter (λ t. bytes_eq t.class c) (segments l)) c.inside (in_filter (λ (t : Part). bytes_eq t.class c.item) i c.passes)

has_segment : (l : Link) (p : Part) → In p (parts l) → Found (joins p) (ordered l)
unfolding rules
has_segment l p i =
    let s = found (joins p) (segments l) (any-firsts joining p (parts l) ∙ any_in (joins p) i (joining.refl p)) in
    record { item = s.item; inside = in_left (own_stacks l) (in_class l s.item s.inside); passes = s.passes }

pub map_append : {X Y : Type 0} (f : X → Y) (xs : List X) (y : X) (ss : List Y) → map f (xs ++ y ∷ []) ++ ss ≡ map f xs ++ f y ∷ ss
map_append f [] y ss = refl
map_append f (x ∷ xs) y ss = ap (λ t. f x ∷ t) (map_append f xs y ss)

-- The rows have the logical segments in order.
pub segments_of_rows : (l : Link) (earlier : List Row) (ss : List Part) → map (λ r. r.segment) (rows_after l earlier ss) ≡ map (λ r. r.segment) earlier ++ ss
segments_of_rows l earlier [] = sym (append-nil (map (λ r. r.segment) earlier))
segments_of_rows l earlier (s ∷ ss) =
    segments_of_rows l (earlier ++ row_after l earlier s ∷ []) ss ∙ map_append (λ (r : Row). r.segment) earlier (row_after l earlier s) ss

-- ---- what a row says

pub record Stands (l : Link) (r : Row) : Type 0 where
  pub object : r.object ≡ object_number l r.segment
  pub end : r.end ≡ segment_end l r.start r.segment
  pub inside : In r.segment (ordered l)

in_push : {X : Type 0} (x : X) (xs : List X) (y : X) → In x (xs ++ y ∷ []) → In x xs ⊎ (y ≡ x)
in_push x [] y here = inr refl
in_push x [] y (there i) = elim i [ ]
in_push x (z ∷ xs) y here = inl here
in_push x (z ∷ xs) y (there i) = elim (in_push x xs y i) as (λ s. In x (z ∷ xs) ⊎ (y ≡ x)) [ inl j ↦ inl (there j) | inr e ↦ inr e ]

pub rows_stand : (l : Link) (earlier : List Row) (ss : List Part) → ((r : Row) → In r earlier → Stands l r) → ((s : Part) → In s ss → In s (ordered l)) → (r : Row) → In r (rows_after l earlier ss) → Stands l r
unfolding rules
rows_stand l earlier [] all sub r i = all r i
rows_stand l earlier (s ∷ ss) all sub r i =
    let new : Row = row_after l earlier s in
    let stands : Stands l new = record { object = refl; end = refl; inside = sub s here } in
    rows_stand l (earlier ++ new ∷ []) ss (λ q j. elim (in_push q earlier new j) as (λ t. Stands l q) [ inl k ↦ all q k | inr e ↦ subst (λ t. Stands l t) e stands ]) (λ t j. sub t (there j)) r i

pub none_yet : (l : Link) (r : Row) → In r [] → Stands l r
none_yet l r i = elim i [ ]

-- The row of a part.
pub record HasRow (l : Link) (p : Part) : Type 0 where
  pub row : Row
  pub is : row_of l p ≡ Some row
  pub inside : In row (rows l)
  pub joins : joins row.segment p ≡ true
  pub stands : Stands l row

pub has_row : (l : Link) (p : Part) → In p (parts l) → HasRow l p
unfolding rules
has_row l p i =
    let s = has_segment l p i in
    let same = segments_of_rows l [] (ordered l) in
    let listed : In s.item (map (λ r. r.segment) (rows l)) = subst (λ (t : List Part). In s.item t) (sym same) s.inside in
    let any = sym (any_map (λ t. joins t p) (λ (r : Row). r.segment) (rows l)) ∙ any_in (λ t. joins t p) listed (joining.symm s.item p ∙ s.passes) in
    let f = finds (λ r. joins r.segment p) (rows l) any in
    let r = found_as (λ r. joins r.segment p) (rows l) f.item f.is in
    record { row = f.item; is = f.is; inside = r.inside; joins = r.passes; stands = rows_stand l [] (ordered l) (none_yet l) (λ t j. j) f.item r.inside }

-- ---- a row lies in its object

pub max_from : (n : ℕ) (rs : List Row) → n ≤ fold (λ end r. max end r.end) n rs
max_from n [] = omega arith
max_from n (r ∷ rs) =
    let here = le-max_left n r.end in let rest = max_from (max n r.end) rs in omega (arith, here, rest)

pub max_in : {r : Row} (n : ℕ) {rs : List Row} → In r rs → r.end ≤ fold (λ end r. max end r.end) n rs
max_in {r = r} n {rs = []} i = elim i [ ]
max_in {r = r} n {rs = q ∷ rs} here =
    let this = le-max_right n r.end in let rest = max_from (max n r.end) rs in omega (arith, this, rest)
max_in {r = r} n {rs = q ∷ rs} (there i) = max_in (max n q.end) i

row_within : (l : Link) (r : Row) → In r (rows l) → r.end ≤ end_in r.object (rows l)
unfolding rules
row_within l r i = max_in 0 (in_filter (λ (q : Row). q.object == r.object) i (eq-eqb r.object r.object refl))

-- ---- the object of a row

placed_at : (base : ℕ) (qs : List (ℕ × ℕ)) (k : ℕ) (q : ℕ × ℕ) → slice_get qs k ≡ Some q → IsSomeAnd (slice_get (placed_from base qs) k) (λ o. o.size ≡ q.0)
placed_at base [] k q e = absurd (true≢false (sym (ap is_some e)))
placed_at base (p ∷ qs) zero q e = ap (λ (o : Option (ℕ × ℕ)). (unwrap_or o q).0) e
placed_at base (p ∷ qs) (suc k) q e = placed_at (base + room p.0) qs k q e

numbered : {X Y : Type 0} (f : ℕ × X → Y) (n : ℕ) (xs : List X) (k : ℕ) (x : X) → slice_get xs k ≡ Some x → slice_get (map f (enumerate_from n xs)) k ≡ Some (f (n + k, x))
numbered f n [] k x e = absurd (true≢false (sym (ap is_some e)))
numbered {X} f n (y ∷ xs) zero x e =
    ap (λ (o : Option X). Some (f (n, unwrap_or o x))) e ∙ ap (λ (m : ℕ). Some (f (m, x))) (sym (add-zero n))
numbered f n (y ∷ xs) (suc k) x e =
    let same : n + 1 + k ≡ n + suc k = omega arith in
    numbered f (n + 1) xs k x e ∙ ap (λ (m : ℕ). Some (f (m, x))) same

-- The number of a logical segment's object is that of an object, as large as the rows of that number.
abbrev IsObject : Link → ℕ → Type 0
IsObject l n = IsSomeAnd (item (objects l) n) (λ o. o.size ≡ end_in n (rows l))

object_there : (l : Link) (k : ℕ) → k < length (object_heads l) → IsObject l (suc k)
unfolding rules
object_there l k h =
    let head = item_at (object_heads l) k h in
    let f : ℕ × Part → ℕ × ℕ = λ q. (end_in q.0 (rows l), flags_of l q.1) in
    let at = placed_at (first_base l) (map f (enumerate_from 1 (object_heads l))) k (f (1 + k, head.item)) (numbered f 1 (object_heads l) k head.item head.is) in
    let same : 1 + k ≡ suc k = omega arith in
    subst (λ (n : ℕ). IsSomeAnd (slice_get (objects l) k) (λ o. o.size ≡ end_in n (rows l))) same at

numbered_object : (l : Link) (s : Part) → In s (ordered l) → IsObject l (object_number l s)
unfolding rules
numbered_object l s i =
    let test : Part → Bool = λ h. same_object (object_key l s) (object_key l h) in
    let any : list_any test (object_heads l) ≡ true = any-firsts (in_one_object l) s (ordered l) ∙ any_in test i ((in_one_object l).refl s) in
    let k : ℕ = position_or_len test (object_heads l) in
    let number : object_number l s ≡ suc k = ap (λ (o : Option ℕ). option_map_or (λ n. n + 1) o 0) (position_is test (object_heads l) any) ∙ add-one k in
    subst (λ (n : ℕ). IsObject l n) (sym number) (object_there l k (placed test (object_heads l) any))

-- ---- a part lies in its row

end_from : (at : ℕ) (ps : List Part) → at ≤ end_of_parts at ps
end_from at [] = omega arith
end_from at (p ∷ ps) = let rest = end_from (aligned at p + p.len) ps in omega (arith, rest)

part_fits_by : (o : Origin) (p q : Part) (qs : List Part) (at : ℕ) (b : Bool) → same_origin q.origin o ≡ b → cond b (Some q) (find (λ t. same_origin t.origin o) qs)
    ≡ Some p → ((n : ℕ) → find (λ t. same_origin t.origin o) qs ≡ Some p → aligned (end_of_parts n (before o qs)) p + p.len ≤ end_of_parts n qs) →
    aligned (end_of_parts at (cond b [] (q ∷ before o qs))) p + p.len ≤ end_of_parts (aligned at q + q.len) qs
part_fits_by o p q qs at true is e rest =
    let same : q ≡ p = ap (λ (t : Option Part). unwrap_or t p) e in
    subst (λ (t : Part). aligned at p + p.len ≤ end_of_parts (aligned at t + t.len) qs) (sym same) (end_from (aligned at p + p.len) qs)
part_fits_by o p q qs at false is e rest = rest (aligned at q + q.len) e

part_fits : (o : Origin) (p : Part) (qs : List Part) (at : ℕ) → find (λ t. same_origin t.origin o) qs ≡ Some p → aligned (end_of_parts at (before o qs)) p + p.len ≤ end_of_parts at qs
part_fits o p [] at e = absurd (true≢false (sym (ap is_some e)))
part_fits o p (q ∷ qs) at e =
    part_fits_by o p q qs at (same_origin q.origin o) refl e (λ n f. part_fits o p qs n f)

longest_from : (n : ℕ) (ps : List Part) → n ≤ fold (λ n p. max n p.len) n ps
longest_from n [] = omega arith
longest_from n (p ∷ ps) =
    let here = le-max_left n p.len in let rest = longest_from (max n p.len) ps in omega (arith, here, rest)

longest_in : {p : Part} (n : ℕ) {ps : List Part} → In p ps → p.len ≤ fold (λ n p. max n p.len) n ps
longest_in {p = p} n {ps = []} i = elim i [ ]
longest_in {p = p} n {ps = q ∷ ps} here =
    let this = le-max_right n p.len in let rest = longest_from (max n p.len) ps in omega (arith, this, rest)
longest_in {p = p} n {ps = q ∷ ps} (there i) = longest_in (max n q.len) i

find_kept_by : (test keep : Part → Bool) (q : Part) (qs : List Part) (p : Part) (b c : Bool) → test q ≡ b → keep q ≡ c → keep p ≡ true → cond b (Some q) (find test qs)
    ≡ Some p → (find test qs ≡ Some p → find test (filter keep qs) ≡ Some p) → find test (cond c (q ∷ filter keep qs) (filter keep qs)) ≡ Some p
find_kept_by test keep q qs p true true is kept ok e rest = ap (λ (t : Bool). cond t (Some q) (find test (filter keep qs))) is ∙ e
find_kept_by test keep q qs p false true is kept ok e rest = ap (λ (t : Bool). cond t (Some q) (find test (filter keep qs))) is ∙ rest e
find_kept_by test keep q qs p false false is kept ok e rest = rest e
find_kept_by test keep q qs p true false is kept ok e rest =
    let same : q ≡ p = ap (λ (t : Option Part). unwrap_or t p) e in
    absurd (true≢false (sym ok ∙ (sym (ap keep same) ∙ kept)))

find_kept : (test keep : Part → Bool) (qs : List Part) (p : Part) → keep p ≡ true → find test qs ≡ Some p → find test (filter keep qs) ≡ Some p
find_kept test keep [] p ok e = e
find_kept test keep (q ∷ qs) p ok e =
    find_kept_by test keep q qs p (test q) (keep q) refl refl ok e (find_kept test keep qs p ok)

row_fits_by : (b : Bool) (start far near len long : ℕ) → start + len ≤ start + long → near + len ≤ far → cond b start near + len ≤ cond b (start + long) far
row_fits_by true start far near len long h g = h
row_fits_by false start far near len long h g = g

part_in_row : (l : Link) (r : Row) (o : Origin) (p : Part) → find (λ t. same_origin t.origin o) (parts l) ≡ Some p → joins r.segment p ≡ true → p.origin ≡ o → offset_in l r p + p.len ≤ segment_end l r.start r.segment
unfolding rules
part_in_row l r o p e joined same =
    let ps : List Part = parts_of l r.segment in
    let found : find (λ t. same_origin t.origin o) ps ≡ Some p = find_kept (λ t. same_origin t.origin o) (joins r.segment) (parts l ++ own_stacks l) p joined
    (find-append (λ t. same_origin t.origin o) (parts l) (own_stacks l) ∙ ap (λ (t : Option Part). option_or t (find (λ t. same_origin t.origin o) (own_stacks l))) e) in
    let inside = found_as (λ t. same_origin t.origin o) ps p found in
    let long = longest_in 0 inside.inside in
    let near = part_fits o p ps r.start found in
    let fits : cond (is_common r.segment) r.start (aligned (end_of_parts r.start (before o ps)) p) + p.len ≤ parts_end l r.start r.segment =
    row_fits_by (is_common r.segment) r.start (end_of_parts r.start ps) (aligned (end_of_parts r.start (before o ps)) p) p.len (longest ps) (omega (arith, long)) near in
    let stated : offset_in l r p + p.len ≤ parts_end l r.start r.segment =
    subst (λ (t : Origin). cond (is_common r.segment) r.start (aligned (end_of_parts r.start (before t ps)) p) + p.len ≤ parts_end l r.start r.segment) (sym same) fits in
    let more = le-max_left (parts_end l r.start r.segment) (r.start + least_len l r.segment) in
    omega (arith, stated, more)

-- ---- a part lies in its object

size_by : (o : Option LaidObject) (n m : ℕ) → IsSomeAnd o (λ x. x.size ≡ m) → n ≤ m → IsSomeAnd o (λ x. n ≤ x.size)
size_by None n m h le = h
size_by (Some x) n m h le = omega (arith, h, le)

pub part_stands : (l : Link) (o : Origin) (p : Part) → find (λ t. same_origin t.origin o) (parts l) ≡ Some p → IsSomeAnd (place_of_origin l o) (LiesInObject l p.len)
unfolding rules
part_stands l o p e =
    let is = found_as (λ t. same_origin t.origin o) (parts l) p e in
    let r = has_row l p is.inside in
    let place : place_of_origin l o ≡ Some (r.row.object, offset_in l r.row p) = ap (option_and_then (place_of_part l)) e ∙ ap (option_map (λ (q : Row). (q.object, offset_in l q p))) r.is in
    let object : IsObject l r.row.object = subst (λ (n : ℕ). IsObject l n) (sym r.stands.object) (numbered_object l r.row.segment r.stands.inside) in
    let fits = part_in_row l r.row o p e r.joins (origin_equal p.origin o is.passes) in
    let end : r.row.end ≡ segment_end l r.row.start r.row.segment = r.stands.end in
    let within = row_within l r.row r.inside in
    let lies : LiesInObject l p.len (r.row.object, offset_in l r.row p) = size_by (item (objects l) r.row.object) (offset_in l r.row p + p.len) (end_in r.row.object (rows l)) object (omega (arith, fits, end, within)) in
    subst (λ t. IsSomeAnd t (LiesInObject l p.len)) (sym place) lies
