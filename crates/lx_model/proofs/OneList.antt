-- There is one list of bundles for what stands at the ordinals.
use Rattle.std.proofs.Common.{◌≡◌, ℕ, zero, suc, ◌<◌, ◌≤◌, true, List, [], ◌∷◌, ◌++◌, map, length, refl, sym, subst, ap, ◌∙◌, inl, inr, lit<, eq-eqb, arith, length-append}
use Rattle.std.specs.Prelude.{replicate}
use Rattle.std.proofs.lemmas.List.{length-replicate}
use Rattle.std.proofs.lemmas.Bool.{cases_lt}
use Rattle.std.specs.List.{flat_map, AllByRecursion}
use Rattle.lx_model.specs.Bundles.{Bundle, unused, narrow, gates, wide, forwarders, ordinal_count}
use Rattle.lx_model.specs.ExportTables.{Slot, empty, narrow_at, gate_at, wide_at, forwarder, slots_of, same_kind, AreJoined}
use Rattle.lx_model.specs.declared.limits.TheConstants.{MAX_ENTRIES}
use Rattle.lx_model.specs.ExportLaws.{BundlesAreOne}
use Rattle.lx_model.proofs.ExportsRead.{length-slots_of}

-- ---- kinds

-- a type and an object
abbrev Kind : Type 0
Kind = ℕ × ℕ

abbrev kind_at : Slot → Kind
kind_at empty = (0, 0)
kind_at (narrow_at object e) = (1, object)
kind_at (gate_at object e) = (2, object)
kind_at (wide_at object e) = (3, object)
kind_at (forwarder reserved e) = (4, 0)

abbrev kind_of : Bundle → Kind
kind_of (unused n) = (0, 0)
kind_of (narrow object es) = (1, object)
kind_of (gates object es) = (2, object)
kind_of (wide object es) = (3, object)
kind_of (forwarders reserved es) = (4, 0)

mapped_kind : {E : Type 0} (slot : E → Slot) (kind : Kind) → ((e : E) → kind_at (slot e) ≡ kind) → (es : List E) → AllByRecursion (λ s. kind_at s ≡ kind) (map slot es)
mapped_kind slot kind same [] = tt
mapped_kind slot kind same (e ∷ es) = (same e, mapped_kind slot kind same es)

empty_kind : (n : ℕ) → AllByRecursion (λ s. kind_at s ≡ (0, 0)) (replicate n empty)
empty_kind zero = tt
empty_kind (suc n) = (refl, empty_kind n)

each_kind : (b : Bundle) → AllByRecursion (λ s. kind_at s ≡ kind_of b) (slots_of b)
each_kind (unused n) = empty_kind n
each_kind (narrow object es) = mapped_kind (narrow_at object) (1, object) (λ e. refl) es
each_kind (gates object es) = mapped_kind (gate_at object) (2, object) (λ e. refl) es
each_kind (wide object es) = mapped_kind (wide_at object) (3, object) (λ e. refl) es
each_kind (forwarders reserved es) = mapped_kind (forwarder reserved) (4, 0) (λ e. refl) es

one_kind : (b c : Bundle) → kind_of b ≡ kind_of c → same_kind b c ≡ true
one_kind (unused n) (unused m) k = refl
one_kind (unused n) (narrow p fs) k = absurd (let type : 0 ≡ 1 = ap (λ (p : Kind). p.0) k in omega arith)
one_kind (unused n) (gates p fs) k = absurd (let type : 0 ≡ 2 = ap (λ (p : Kind). p.0) k in omega arith)
one_kind (unused n) (wide p fs) k = absurd (let type : 0 ≡ 3 = ap (λ (p : Kind). p.0) k in omega arith)
one_kind (unused n) (forwarders q fs) k = absurd (let type : 0 ≡ 4 = ap (λ (p : Kind). p.0) k in omega arith)
one_kind (narrow o es) (unused m) k = absurd (let type : 1 ≡ 0 = ap (λ (p : Kind). p.0) k in omega arith)
one_kind (narrow o es) (narrow p fs) k = eq-eqb o p (ap (λ (p : Kind). p.1) k)
one_kind (narrow o es) (gates p fs) k = absurd (let type : 1 ≡ 2 = ap (λ (p : Kind). p.0) k in omega arith)
one_kind (narrow o es) (wide p fs) k = absurd (let type : 1 ≡ 3 = ap (λ (p : Kind). p.0) k in omega arith)
one_kind (narrow o es) (forwarders q fs) k = absurd (let type : 1 ≡ 4 = ap (λ (p : Kind). p.0) k in omega arith)
one_kind (gates o es) (unused m) k = absurd (let type : 2 ≡ 0 = ap (λ (p : Kind). p.0) k in omega arith)
one_kind (gates o es) (narrow p fs) k = absurd (let type : 2 ≡ 1 = ap (λ (p : Kind). p.0) k in omega arith)
one_kind (gates o es) (gates p fs) k = eq-eqb o p (ap (λ (p : Kind). p.1) k)
one_kind (gates o es) (wide p fs) k = absurd (let type : 2 ≡ 3 = ap (λ (p : Kind). p.0) k in omega arith)
one_kind (gates o es) (forwarders q fs) k = absurd (let type : 2 ≡ 4 = ap (λ (p : Kind). p.0) k in omega arith)
one_kind (wide o es) (unused m) k = absurd (let type : 3 ≡ 0 = ap (λ (p : Kind). p.0) k in omega arith)
one_kind (wide o es) (narrow p fs) k = absurd (let type : 3 ≡ 1 = ap (λ (p : Kind). p.0) k in omega arith)
one_kind (wide o es) (gates p fs) k = absurd (let type : 3 ≡ 2 = ap (λ (p : Kind). p.0) k in omega arith)
one_kind (wide o es) (wide p fs) k = eq-eqb o p (ap (λ (p : Kind). p.1) k)
one_kind (wide o es) (forwarders q fs) k = absurd (let type : 3 ≡ 4 = ap (λ (p : Kind). p.0) k in omega arith)
one_kind (forwarders r es) (unused m) k = absurd (let type : 4 ≡ 0 = ap (λ (p : Kind). p.0) k in omega arith)
one_kind (forwarders r es) (narrow p fs) k = absurd (let type : 4 ≡ 1 = ap (λ (p : Kind). p.0) k in omega arith)
one_kind (forwarders r es) (gates p fs) k = absurd (let type : 4 ≡ 2 = ap (λ (p : Kind). p.0) k in omega arith)
one_kind (forwarders r es) (wide p fs) k = absurd (let type : 4 ≡ 3 = ap (λ (p : Kind). p.0) k in omega arith)
one_kind (forwarders r es) (forwarders q fs) k = refl

-- ---- a bundle is told by its slots

unmapped : {E : Type 0} (slot : E → Slot) → ((e f : E) → slot e ≡ slot f → e ≡ f) → (es fs : List E) → map slot es ≡ map slot fs → es ≡ fs
unmapped slot told [] [] same = refl
unmapped slot told [] (f ∷ fs) same = absurd cc
unmapped slot told (e ∷ es) [] same = absurd cc
unmapped {E} slot told (e ∷ es) (f ∷ fs) same =
    let first : slot e ≡ slot f = cc in
    let rest : map slot es ≡ map slot fs = cc in
    let here = told e f first in
    let others = unmapped slot told es fs rest in
    cc

same_first : (s t : Slot) (ss ts : List Slot) → s ∷ ss ≡ t ∷ ts → s ≡ t
same_first s t ss ts e = cc

rebuilt : (b c : Bundle) → kind_of b ≡ kind_of c → 0 < length (slots_of b) → slots_of b ≡ slots_of c → b ≡ c
rebuilt (unused n) (unused m) k some same = ap unused (sym (length-replicate n empty) ∙ ap length same ∙ length-replicate m empty)
rebuilt (unused n) (narrow p fs) k some same = absurd (let type : 0 ≡ 1 = ap (λ (p : Kind). p.0) k in omega arith)
rebuilt (unused n) (gates p fs) k some same = absurd (let type : 0 ≡ 2 = ap (λ (p : Kind). p.0) k in omega arith)
rebuilt (unused n) (wide p fs) k some same = absurd (let type : 0 ≡ 3 = ap (λ (p : Kind). p.0) k in omega arith)
rebuilt (unused n) (forwarders q fs) k some same = absurd (let type : 0 ≡ 4 = ap (λ (p : Kind). p.0) k in omega arith)
rebuilt (narrow o es) (unused m) k some same = absurd (let type : 1 ≡ 0 = ap (λ (p : Kind). p.0) k in omega arith)
rebuilt (narrow o es) (narrow p fs) k some same =
    let object : o ≡ p = ap (λ (p : Kind). p.1) k in
    let moved : map (narrow_at o) es ≡ map (narrow_at o) fs = same ∙ ap (λ (n : ℕ). map (narrow_at n) fs) (sym object) in
    ap (λ (n : ℕ). narrow n es) object ∙ ap (narrow p) (unmapped (narrow_at o) (λ e f h. cc) es fs moved)
rebuilt (narrow o es) (gates p fs) k some same = absurd (let type : 1 ≡ 2 = ap (λ (p : Kind). p.0) k in omega arith)
rebuilt (narrow o es) (wide p fs) k some same = absurd (let type : 1 ≡ 3 = ap (λ (p : Kind). p.0) k in omega arith)
rebuilt (narrow o es) (forwarders q fs) k some same = absurd (let type : 1 ≡ 4 = ap (λ (p : Kind). p.0) k in omega arith)
rebuilt (gates o es) (unused m) k some same = absurd (let type : 2 ≡ 0 = ap (λ (p : Kind). p.0) k in omega arith)
rebuilt (gates o es) (narrow p fs) k some same = absurd (let type : 2 ≡ 1 = ap (λ (p : Kind). p.0) k in omega arith)
rebuilt (gates o es) (gates p fs) k some same =
    let object : o ≡ p = ap (λ (p : Kind). p.1) k in
    let moved : map (gate_at o) es ≡ map (gate_at o) fs = same ∙ ap (λ (n : ℕ). map (gate_at n) fs) (sym object) in
    ap (λ (n : ℕ). gates n es) object ∙ ap (gates p) (unmapped (gate_at o) (λ e f h. cc) es fs moved)
rebuilt (gates o es) (wide p fs) k some same = absurd (let type : 2 ≡ 3 = ap (λ (p : Kind). p.0) k in omega arith)
rebuilt (gates o es) (forwarders q fs) k some same = absurd (let type : 2 ≡ 4 = ap (λ (p : Kind). p.0) k in omega arith)
rebuilt (wide o es) (unused m) k some same = absurd (let type : 3 ≡ 0 = ap (λ (p : Kind). p.0) k in omega arith)
rebuilt (wide o es) (narrow p fs) k some same = absurd (let type : 3 ≡ 1 = ap (λ (p : Kind). p.0) k in omega arith)
rebuilt (wide o es) (gates p fs) k some same = absurd (let type : 3 ≡ 2 = ap (λ (p : Kind). p.0) k in omega arith)
rebuilt (wide o es) (wide p fs) k some same =
    let object : o ≡ p = ap (λ (p : Kind). p.1) k in
    let moved : map (wide_at o) es ≡ map (wide_at o) fs = same ∙ ap (λ (n : ℕ). map (wide_at n) fs) (sym object) in
    ap (λ (n : ℕ). wide n es) object ∙ ap (wide p) (unmapped (wide_at o) (λ e f h. cc) es fs moved)
rebuilt (wide o es) (forwarders q fs) k some same = absurd (let type : 3 ≡ 4 = ap (λ (p : Kind). p.0) k in omega arith)
rebuilt (forwarders r es) (unused m) k some same = absurd (let type : 4 ≡ 0 = ap (λ (p : Kind). p.0) k in omega arith)
rebuilt (forwarders r es) (narrow p fs) k some same = absurd (let type : 4 ≡ 1 = ap (λ (p : Kind). p.0) k in omega arith)
rebuilt (forwarders r es) (gates p fs) k some same = absurd (let type : 4 ≡ 2 = ap (λ (p : Kind). p.0) k in omega arith)
rebuilt (forwarders r es) (wide p fs) k some same = absurd (let type : 4 ≡ 3 = ap (λ (p : Kind). p.0) k in omega arith)
rebuilt (forwarders r []) (forwarders q fs) k some same = absurd (omega (arith, some))
rebuilt (forwarders r (e ∷ es)) (forwarders q []) k some same = absurd cc
rebuilt (forwarders r (e ∷ es)) (forwarders q (f ∷ fs)) k some same =
    let first = same_first (forwarder r e) (forwarder q f) (map (forwarder r) es) (map (forwarder q) fs) same in
    let reserved : r ≡ q = cc in
    let moved : map (forwarder r) (e ∷ es) ≡ map (forwarder r) (f ∷ fs) = same ∙ ap (λ (n : ℕ). map (forwarder n) (f ∷ fs)) (sym reserved) in
    ap (λ (n : ℕ). forwarders n (e ∷ es)) reserved ∙ ap (forwarders q) (unmapped (forwarder r) (λ e f h. cc) (e ∷ es) (f ∷ fs) moved)

-- ---- two lists that are one

same_length : (xs ys us vs : List Slot) → length xs ≡ length us → xs ++ ys ≡ us ++ vs → (xs ≡ us) × (ys ≡ vs)
same_length [] ys [] vs len same = (refl, same)
same_length [] ys (u ∷ us) vs len same = absurd (omega (arith, len))
same_length (x ∷ xs) ys [] vs len same = absurd (omega (arith, len))
same_length (x ∷ xs) ys (u ∷ us) vs len same =
    let rest = same_length xs ys us vs (omega (arith, len)) (let tail : xs ++ ys ≡ us ++ vs = cc in tail) in
    let front = rest.0 in
    (let all : x ∷ xs ≡ u ∷ us = cc in all, rest.1)

-- what is longer goes on with the first of what stands after the shorter one
record Longer (xs ys us : List Slot) : Type 0 where
  next : Slot
  others : List Slot
  after : List Slot
  goes_on : us ≡ xs ++ next ∷ others
  first : ys ≡ next ∷ after

longer : (xs ys us vs : List Slot) → length xs < length us → xs ++ ys ≡ us ++ vs → Longer xs ys us
longer [] ys [] vs lt same = absurd (omega (arith, lt))
longer [] ys (u ∷ us) vs lt same = record { next = u; others = us; after = us ++ vs; goes_on = refl; first = same }
longer (x ∷ xs) ys [] vs lt same = absurd (omega (arith, lt))
longer (x ∷ xs) ys (u ∷ us) vs lt same =
    let more = longer xs ys us vs (omega (arith, lt)) (let tail : xs ++ ys ≡ us ++ vs = cc in tail) in
    let on = more.goes_on in
    record { next = more.next; others = more.others; after = more.after; goes_on = (let all : u ∷ us ≡ x ∷ (xs ++ more.next ∷ more.others) = cc in all); first = more.first }

kind_after : (kind : Kind) (xs : List Slot) (y : Slot) (ys : List Slot) → AllByRecursion (λ s. kind_at s ≡ kind) (xs ++ y ∷ ys) → kind_at y ≡ kind
kind_after kind [] y ys all = all.0
kind_after kind (x ∷ xs) y ys all = kind_after kind xs y ys all.1

first_kind : (kind other : Kind) (xs us ys vs : List Slot) → xs ++ ys ≡ us ++ vs → 0 < length xs → 0 < length us → AllByRecursion (λ s. kind_at s ≡ kind) xs → AllByRecursion (λ s. kind_at s ≡ other) us → kind ≡ other
first_kind kind other [] us ys vs same some more k o = absurd (omega (arith, some))
first_kind kind other (x ∷ xs) [] ys vs same some more k o = absurd (omega (arith, more))
first_kind kind other (x ∷ xs) (u ∷ us) ys vs same some more k o =
    let s = same_first x u (xs ++ ys) (us ++ vs) same in
    sym k.0 ∙ ap kind_at s ∙ o.0

-- A bundle that is shorter than the one of other bundles is full.
full : (b c : Bundle) (bs : List Bundle) (vs : List Slot) → AllByRecursion (λ b. 0 < ordinal_count b) (b ∷ bs) → 0 < ordinal_count c →
    AreJoined (b ∷ bs) → slots_of b ++ flat_map slots_of bs ≡ slots_of c ++ vs → ordinal_count b < ordinal_count c → ordinal_count b ≡ MAX_ENTRIES
full b c [] vs some more joined same lt =
    let on = longer (slots_of b) [] (slots_of c) vs (omega (arith, lt, length-slots_of b, length-slots_of c)) same in
    let none = on.first in
    absurd cc
full b c (d ∷ bs) vs some more joined same lt =
    let on = longer (slots_of b) (slots_of d ++ flat_map slots_of bs) (slots_of c) vs (omega (arith, lt, length-slots_of b, length-slots_of c)) same in
    let bk : kind_of b ≡ kind_of c = first_kind (kind_of b) (kind_of c) (slots_of b) (slots_of c) (slots_of d ++ flat_map slots_of bs) vs same
    (omega (arith, some.0, length-slots_of b)) (omega (arith, more, length-slots_of c)) (each_kind b) (each_kind c) in
    let nk : kind_at on.next ≡ kind_of c = kind_after (kind_of c) (slots_of b) on.next on.others (subst (λ (ss : List Slot). AllByRecursion (λ s. kind_at s ≡ kind_of c) ss) on.goes_on (each_kind c)) in
    let dk : kind_of d ≡ kind_of c = first_kind (kind_of d) (kind_of c)
    (slots_of d) (on.next ∷ []) (flat_map slots_of bs) on.after on.first (omega (arith, some.1.0, length-slots_of d)) (lit< tt) (each_kind d) (nk, tt) in
    joined.0 (one_kind b d (bk ∙ sym dk))

after_joined : (b : Bundle) (bs : List Bundle) → AreJoined (b ∷ bs) → AreJoined bs
after_joined b [] joined = tt
after_joined b (c ∷ bs) joined = joined.1

none_left : (c : Bundle) (cs : List Bundle) → 0 < ordinal_count c → [] ≡ slots_of c ++ flat_map slots_of cs → ⊥
none_left c cs some same =
    let len : 0 ≡ length (slots_of c ++ flat_map slots_of cs) = ap length same in
    omega (arith, len, some, length-slots_of c, length-append (slots_of c) (flat_map slots_of cs))

pub one_list : (bs cs : List Bundle) →
    flat_map slots_of bs ≡ flat_map slots_of cs → AllByRecursion (λ b. 0 < ordinal_count b) bs → AllByRecursion (λ b. ordinal_count b ≤ MAX_ENTRIES) bs →
    AreJoined bs → AllByRecursion (λ b. 0 < ordinal_count b) cs → AllByRecursion (λ b. ordinal_count b ≤ MAX_ENTRIES) cs → AreJoined cs → bs ≡ cs
one_list [] [] same sb mb jb sc mc jc = refl
one_list [] (c ∷ cs) same sb mb jb sc mc jc = absurd (none_left c cs sc.0 same)
one_list (b ∷ bs) [] same sb mb jb sc mc jc = absurd (none_left b bs sb.0 (sym same))
one_list (b ∷ bs) (c ∷ cs) same sb mb jb sc mc jc =
    let counts : ordinal_count b ≡ ordinal_count c = elim (cases_lt (ordinal_count b) (ordinal_count c)) [
      | inl lt ↦ absurd (let most = full b c bs (flat_map slots_of cs) sb sc.0 jb same lt in omega (arith, most, lt, mc.0))
      | inr ge ↦ elim (cases_lt (ordinal_count c) (ordinal_count b)) [
        | inl lt ↦ absurd (let most = full c b cs (flat_map slots_of bs) sc sb.0 jc (sym same) lt in omega (arith, most, lt, mb.0))
        | inr le ↦ omega (arith, ge, le)
      ]
    ] in
    let parts = same_length (slots_of b) (flat_map slots_of bs) (slots_of c) (flat_map slots_of cs) (length-slots_of b ∙ counts ∙ sym (length-slots_of c)) same in
    let kinds = first_kind (kind_of b) (kind_of c) (slots_of b) (slots_of c) (flat_map slots_of bs)
    (flat_map slots_of cs) same (omega (arith, sb.0, length-slots_of b)) (omega (arith, sc.0, length-slots_of c)) (each_kind b) (each_kind c) in
    let first = rebuilt b c kinds (omega (arith, sb.0, length-slots_of b)) parts.0 in
    let others = one_list bs cs parts.1 sb.1 mb.1 (after_joined b bs jb) sc.1 mc.1 (after_joined c cs jc) in
    ap (λ (x : Bundle). x ∷ bs) first ∙ ap (λ (xs : List Bundle). c ∷ xs) others

pub bundles_one : BundlesAreOne
bundles_one xs bs cs are other = one_list bs cs (are.each ∙ sym other.each) are.some are.most are.joined other.some other.most other.joined
