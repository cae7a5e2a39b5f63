-- The linker's own stack is the last logical segment, and no other part is of it.
use Rattle.std.specs.Prelude.{◌≡◌, ℕ, ◌+◌, Bool, true, false, cond, not, ◌&&◌, ◌||◌, List, [], ◌∷◌, ◌++◌, Option, Some, map, filter, length, slice_get, refl}
use Rattle.std.specs.List.{list_any, flat_map, enumerate_from, range_with_len}
use Rattle.std.proofs.Common.{ap, sym, ◌∙◌}
use Rattle.std.proofs.lemmas.List.{map-append, append-nil}
use Rattle.std.proofs.lemmas.List.Folds.{list_any-append}
use Rattle.obj_types.specs.declared.object.Seg.{Seg}
use Rattle.obj_types.specs.declared.object.ObjModule.{ObjModule}
use Rattle.obj_types.specs.declared.symbol.Common.{Common}
use Rattle.link_model.specs.declared.keys.Origin.TheVariants.{OwnStack}
use Rattle.link_model.specs.declared.keys.SegmentKey.TheVariants as keys
use Rattle.link_model.specs.Link.{Link}
use Rattle.link_model.specs.Symbols.{commons}
use Rattle.link_model.specs.Parts.{Part, is_private, is_common, is_stack, joins, of_seg, same_origin, same_segment, contributions_in, contributions}
use Rattle.link_model.specs.Communals.{of_common, communals, parts}
use Rattle.link_model.specs.Order.{own_stack, own_stacks, is_program, segments, by_class, ordered}
use Rattle.link_model.proofs.KeyTests.{joining}
use Rattle.link_model.proofs.Tables.{firsts-push, any-firsts}
use Rattle.seg_parts.specs.LogicalSegments.{heads_of}
use Rattle.seg_merge.proofs.Gets.{get-after}
use Rattle.link_model.proofs.Members.{at_left}

other_by : (p : Part) (b c : Bool) → same_origin OwnStack p.origin ≡ false →
    same_segment (keys.Private OwnStack) (cond b (keys.Private p.origin) (cond c (keys.Common p.name p.class) (keys.Public p.name p.class))) ≡ false
other_by p true c e = e
other_by p false true e = refl
other_by p false false e = refl

other : (p : Part) → same_origin OwnStack p.origin ≡ false → joins own_stack p ≡ false
other p e = other_by p (is_private p) (is_common p) e

none_in : (n : ℕ) (qs : List (ℕ × Seg)) → list_any (joins own_stack) (map (λ q. of_seg n q.0 q.1) qs) ≡ false
none_in n [] = refl
none_in n (q ∷ qs) = ap (λ (b : Bool). b || list_any (joins own_stack) (map (λ r. of_seg n r.0 r.1) qs)) (other (of_seg n q.0 q.1) refl) ∙ none_in n qs

none_among : (b : ℕ) (ms : List ObjModule) → list_any (joins own_stack) (flat_map (λ q. contributions_in q.0 q.1) (enumerate_from b ms)) ≡ false
none_among b [] = refl
none_among b (m ∷ ms) =
    let rest : List Part = flat_map (λ q. contributions_in q.0 q.1) (enumerate_from (b + 1) ms) in
    list_any-append (joins own_stack) (contributions_in b m) rest
    ∙ ap (λ (t : Bool). t || list_any (joins own_stack) rest) (none_in b (filter (λ q. not q.1.debug) (enumerate_from 1 m.segs)))
    ∙ none_among (b + 1) ms

module _ (l : Link) where
  no_communal : (s : ℕ) (cs : List (List ℕ × Common)) → list_any (joins own_stack) (map (λ q. of_common l q.0 q.1.1) (enumerate_from s cs)) ≡ false
  no_communal s [] = refl
  no_communal s (c ∷ cs) = ap (λ (b : Bool). b || list_any (joins own_stack) (map (λ q. of_common l q.0 q.1.1) (enumerate_from (s + 1) cs))) (other (of_common l s c.1) refl) ∙ no_communal (s + 1) cs

  pub none-joins : list_any (joins own_stack) (parts l) ≡ false
  unfolding parts
  none-joins =
      list_any-append (joins own_stack) (contributions l) (communals l)
      ∙ ap (λ (b : Bool). b || list_any (joins own_stack) (communals l)) (none_among 1 l.modules) ∙ no_communal 0 (commons l)

heads-with : (ps : List Part) (b : Bool) → list_any (joins own_stack) ps ≡ false → heads_of (ps ++ cond b (own_stack ∷ []) []) ≡ heads_of ps ++ cond b (own_stack ∷ []) []
heads-with ps true e = firsts-push joining ps own_stack ∙ ap (λ (b : Bool). cond b (heads_of ps) (heads_of ps ++ own_stack ∷ [])) (any-firsts joining own_stack ps ∙ e)
heads-with ps false e = ap heads_of (append-nil ps) ∙ sym (append-nil (heads_of ps))

abbrev wants : Link → Bool
wants l = is_program l.def.kind && not (list_any is_stack (parts l))

pub heads-are : (l : Link) → heads_of (parts l ++ own_stacks l) ≡ segments l ++ own_stacks l
heads-are l = heads-with (parts l) (wants l) (none-joins l)

-- ---- in order

kept : (ss ys : List Part) (order : List ℕ) (qs : List Part) → map (slice_get ss) order ≡ map (λ q. Some q) qs → map (slice_get (ss ++ ys)) order ≡ map (λ q. Some q) qs
kept ss ys [] [] e = refl
kept ss ys [] (q ∷ qs) e = absurd (cc)
kept ss ys (k ∷ order) [] e = absurd (cc)
kept ss ys (k ∷ order) (q ∷ qs) e =
    let first : slice_get ss k ≡ Some q = cc in
    let rest : map (slice_get ss) order ≡ map (λ (p : Part). Some p) qs = cc in
    ap (λ (o : Option Part). o ∷ map (slice_get (ss ++ ys)) order) (at_left ss ys k q first) ∙ ap (λ (t : List (Option Part)). Some q ∷ t) (kept ss ys order qs rest)

after : (ss : List Part) (b : Bool) → map (slice_get (ss ++ cond b (own_stack ∷ []) [])) (range_with_len (length ss) (length (cond b (own_stack ∷ []) []))) ≡ map (λ (q : Part). Some q) (cond b (own_stack ∷ []) [])
after ss true = ap (λ (o : Option Part). o ∷ []) (get-after ss [] own_stack)
after ss false = refl

pub order-is : (l : Link) (order : List ℕ) → map (slice_get (segments l)) order ≡ map (λ s. Some s) (by_class l) →
    map (slice_get (segments l ++ own_stacks l)) (order ++ range_with_len (length (segments l)) (length (own_stacks l))) ≡ map (λ s. Some s) (ordered l)
unfolding ordered
order-is l order e =
    map-append (slice_get (segments l ++ own_stacks l)) order (range_with_len (length (segments l)) (length (own_stacks l)))
    ∙ ap (λ (t : List (Option Part)). t ++ map (slice_get (segments l ++ own_stacks l)) (range_with_len (length (segments l)) (length (own_stacks l)))) (kept (segments l) (own_stacks l) order (by_class l) e)
    ∙ ap (λ (t : List (Option Part)). map (λ (s : Part). Some s) (by_class l) ++ t) (after (segments l) (wants l))
    ∙ sym (map-append (λ (s : Part). Some s) (by_class l) (own_stacks l))
