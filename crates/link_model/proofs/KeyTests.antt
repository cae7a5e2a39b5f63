-- Keys of logical segments, of objects and of imports are equal where their tests say so.
use Rattle.std.specs.Prelude.{◌≡◌, ℕ, Bool, true, false, ◌&&◌, ◌==◌, List, bytes_eq, refl}
use Rattle.std.specs.Cmp.{IsEquivalence}
use Rattle.std.proofs.Common.{ap, sym, ◌∙◌, true≢false, subst}
use Rattle.std.proofs.lemmas.Bool.{eqb-true, eq-eqb, and_parts, and_from}
use Rattle.std.proofs.lemmas.Slice.Eq.{bytes_eq-Decides}
use Rattle.lx_types.proofs.Bools.{same_test}
use Rattle.lx_types.specs.declared.entry.EntryKey.{EntryKey}
use Rattle.lx_types.specs.declared.entry.EntryKey.TheVariants.{Ordinal, Named}
use Rattle.obj_types.specs.declared.symbol.Imp.{Imp}
use Rattle.link_model.specs.Parts.{Origin, Segment, Communal, OwnStack, same_origin, SegmentKey, Private, Public, Common, segment_key, same_segment, joins}
use Rattle.link_model.specs.Order.{ObjectKey, Group, Wide, Narrow, same_object, object_key}
use Rattle.link_model.specs.Symbols.{ImportKey, import_key, same_import, same_entry}
use Rattle.link_model.specs.Link.{Link}

-- ---- a test that says no more and no less than equality

pub record Decided {K : Type 0} (same : K → K → Bool) : Type 0 where
  pub itself : (k : K) → same k k ≡ true
  pub equal : (a b : K) → same a b ≡ true → a ≡ b

turned : {K : Type 0} {same : K → K → Bool} (d : Decided same) → (a b : K) → same a b ≡ true → same b a ≡ true
turned {K} {same} d a b e = subst (λ k. same k a ≡ true) (d.equal a b e) (d.itself a)

pub equivalence : {K X : Type 0} {same : K → K → Bool} (d : Decided same) → (key : X → K) → IsEquivalence (λ a b. same (key a) (key b))
equivalence {K} {X} {same} d key =
    record {
      refl = λ x. d.itself (key x);
      symm = λ x y. same_test (same (key x) (key y)) (same (key y) (key x)) (turned d (key x) (key y)) (turned d (key y) (key x));
      congr = λ x y z e. ap (λ k. same k (key z)) (d.equal (key x) (key y) e);
    }

-- ---- the keys

pub name_itself : (name : List ℕ) → bytes_eq name name ≡ true
name_itself name = (bytes_eq-Decides name name).1 refl

pub name_equal : (a b : List ℕ) → bytes_eq a b ≡ true → a ≡ b
name_equal a b e = (bytes_eq-Decides a b).0 e

pub origin_itself : (o : Origin) → same_origin o o ≡ true
origin_itself (Segment n i) = and_from (n == n) (i == i) (eq-eqb n n refl) (eq-eqb i i refl)
origin_itself (Communal slot) = eq-eqb slot slot refl
origin_itself OwnStack = refl

never : {P : Type 0} → false ≡ true → P
never e = absurd (true≢false (sym e))

pub origin_equal : (a b : Origin) → same_origin a b ≡ true → a ≡ b
origin_equal (Segment n i) (Segment m j) e =
    let both = and_parts (n == m) (i == j) e in
    ap (λ (k : ℕ). Segment k i) (eqb-true n m both.0) ∙ ap (λ (k : ℕ). Segment m k) (eqb-true i j both.1)
origin_equal (Communal a) (Communal b) e = ap Communal (eqb-true a b e)
origin_equal OwnStack OwnStack e = refl
origin_equal (Segment n i) (Communal b) e = never e
origin_equal (Segment n i) OwnStack e = never e
origin_equal (Communal a) (Segment m j) e = never e
origin_equal (Communal a) OwnStack e = never e
origin_equal OwnStack (Segment m j) e = never e
origin_equal OwnStack (Communal b) e = never e

segment_itself : (k : SegmentKey) → same_segment k k ≡ true
segment_itself (Private o) = origin_itself o
segment_itself (Public name class) = and_from (bytes_eq name name) (bytes_eq class class) (name_itself name) (name_itself class)
segment_itself (Common name class) = and_from (bytes_eq name name) (bytes_eq class class) (name_itself name) (name_itself class)

segment_equal : (a b : SegmentKey) → same_segment a b ≡ true → a ≡ b
segment_equal (Private a) (Private b) e = ap Private (origin_equal a b e)
segment_equal (Public name class) (Public other in_class) e =
    let both = and_parts (bytes_eq name other) (bytes_eq class in_class) e in
    ap (λ (n : List ℕ). Public n class) (name_equal name other both.0) ∙ ap (λ (c : List ℕ). Public other c) (name_equal class in_class both.1)
segment_equal (Common name class) (Common other in_class) e =
    let both = and_parts (bytes_eq name other) (bytes_eq class in_class) e in
    ap (λ (n : List ℕ). Common n class) (name_equal name other both.0) ∙ ap (λ (c : List ℕ). Common other c) (name_equal class in_class both.1)
segment_equal (Private a) (Public name class) e = never e
segment_equal (Private a) (Common name class) e = never e
segment_equal (Public name class) (Private b) e = never e
segment_equal (Public name class) (Common other in_class) e = never e
segment_equal (Common name class) (Private b) e = never e
segment_equal (Common name class) (Public other in_class) e = never e

pub segment_keys : Decided same_segment
segment_keys = record { itself = segment_itself; equal = segment_equal }

object_itself : (k : ObjectKey) → same_object k k ≡ true
object_itself (Group name) = name_itself name
object_itself (Wide flags) = eq-eqb flags flags refl
object_itself (Narrow key) = segment_itself key

object_equal : (a b : ObjectKey) → same_object a b ≡ true → a ≡ b
object_equal (Group a) (Group b) e = ap Group (name_equal a b e)
object_equal (Wide a) (Wide b) e = ap Wide (eqb-true a b e)
object_equal (Narrow a) (Narrow b) e = ap Narrow (segment_equal a b e)
object_equal (Group a) (Wide b) e = never e
object_equal (Group a) (Narrow b) e = never e
object_equal (Wide a) (Group b) e = never e
object_equal (Wide a) (Narrow b) e = never e
object_equal (Narrow a) (Group b) e = never e
object_equal (Narrow a) (Wide b) e = never e

pub object_keys : Decided same_object
object_keys = record { itself = object_itself; equal = object_equal }

-- ---- parts

pub joining : IsEquivalence joins
joining = equivalence segment_keys segment_key

pub in_one_object : (l : Link) → IsEquivalence (λ a b. same_object (object_key l a) (object_key l b))
in_one_object l = equivalence object_keys (object_key l)

-- ---- imports

entry_itself : (e : EntryKey) → same_entry e e ≡ true
entry_itself (Ordinal n) = eq-eqb n n refl
entry_itself (Named name) = name_itself name

entry_equal : (a b : EntryKey) → same_entry a b ≡ true → a ≡ b
entry_equal (Ordinal n) (Ordinal m) e = ap Ordinal (eqb-true n m e)
entry_equal (Named n) (Named m) e = ap Named (name_equal n m e)
entry_equal (Ordinal n) (Named m) e = never e
entry_equal (Named n) (Ordinal m) e = never e

import_itself : (k : ImportKey) → same_import k k ≡ true
import_itself k =
    and_from (bytes_eq k.name k.name && bytes_eq k.from k.from) (same_entry k.entry k.entry)
    (and_from (bytes_eq k.name k.name) (bytes_eq k.from k.from) (name_itself k.name) (name_itself k.from)) (entry_itself k.entry)

import_equal : (a b : ImportKey) → same_import a b ≡ true → a ≡ b
import_equal a b e =
    let outer = and_parts (bytes_eq a.name b.name && bytes_eq a.from b.from) (same_entry a.entry b.entry) e in
    let inner = and_parts (bytes_eq a.name b.name) (bytes_eq a.from b.from) outer.0 in
    let names : a.name ≡ b.name = (bytes_eq-Decides a.name b.name).0 inner.0 in
    let froms : a.from ≡ b.from = (bytes_eq-Decides a.from b.from).0 inner.1 in
    let entries : a.entry ≡ b.entry = entry_equal a.entry b.entry outer.1 in
    ap (λ (n : List ℕ). let k : ImportKey = record { name = n; from = a.from; entry = a.entry } in k) names
    ∙ ap (λ (f : List ℕ). let k : ImportKey = record { name = b.name; from = f; entry = a.entry } in k) froms
    ∙ ap (λ (x : EntryKey). let k : ImportKey = record { name = b.name; from = b.from; entry = x } in k) entries

import_keys : Decided same_import
import_keys = record { itself = import_itself; equal = import_equal }

pub import_tests : IsEquivalence (λ (a b : Imp). same_import (import_key a) (import_key b))
import_tests = equivalence import_keys import_key
