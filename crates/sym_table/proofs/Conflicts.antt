-- Second definitions: where there is none so far, one more is judged by the first definition of its name alone.
use Rattle.std.specs.Prelude.{◌≡◌, ℕ, Bool, true, false, cond, not, ◌&&◌, ◌||◌, List, [], ◌∷◌, ◌++◌, Option, Some, None, bytes_eq, find, refl}
use Rattle.std.specs.List.{list_any, AllByRecursion}
use Rattle.std.specs.Option.{option_or}
use Rattle.std.proofs.Common.{ap, sym, ◌∙◌, true≢false}
use Rattle.std.proofs.lemmas.Bool.{and_parts, and_from, eqb-true, eq-eqb, or_parts}
use Rattle.std.proofs.lemmas.List.{append_assoc, append-nil}
use Rattle.std.proofs.lemmas.List.Folds.{list_any-append}
use Rattle.std.proofs.lemmas.Slice.Eq.{bytes_eq-Decides}
use Rattle.link_model.proofs.ExternalsMean.{not_first_by}
use Rattle.lx_types.specs.declared.entry.EntryKey.{EntryKey}
use Rattle.lx_types.specs.declared.entry.EntryKey.TheVariants.{Ordinal, Named}
use Rattle.obj_types.specs.declared.symbol.Imp.{Imp}
use Rattle.lx_types.specs.Names.{uppercase}
use Rattle.link_model.specs.Words.{first_conflict}
use Rattle.link_model.specs.Symbols.{Meaning, Public, Imported, Definition, same_entry, same_module, same_pair}
use Rattle.link_model.specs.SymbolRefusals.{counts_once, conflicts}

-- ---- equal pairs

bytes_both : (a b c : List ℕ) → bytes_eq a b ≡ true → bytes_eq a c ≡ true → bytes_eq b c ≡ true
bytes_both a b c e f = (bytes_eq-Decides b c).1 (sym ((bytes_eq-Decides a b).0 e) ∙ (bytes_eq-Decides a c).0 f)

pub never : {P : Type 0} → false ≡ true → P
never e = absurd (true≢false (sym e))

entries_both : (a b c : EntryKey) → same_entry a b ≡ true → same_entry a c ≡ true → same_entry b c ≡ true
entries_both (Ordinal x) (Ordinal y) (Ordinal z) e f = eq-eqb y z (sym (eqb-true x y e) ∙ eqb-true x z f)
entries_both (Named x) (Named y) (Named z) e f = bytes_both x y z e f
entries_both (Ordinal x) (Named y) c e f = never e
entries_both (Named x) (Ordinal y) c e f = never e
entries_both (Ordinal x) (Ordinal y) (Named z) e f = never f
entries_both (Named x) (Named y) (Ordinal z) e f = never f

pairs_both : (a b c : Imp) → same_pair a b ≡ true → same_pair a c ≡ true → same_pair b c ≡ true
pairs_both a b c e f =
    let p = and_parts (same_module a.module b.module) (same_entry a.entry b.entry) e in
    let q = and_parts (same_module a.module c.module) (same_entry a.entry c.entry) f in
    and_from (same_module b.module c.module) (same_entry b.entry c.entry) (bytes_both (uppercase a.module) (uppercase b.module) (uppercase c.module) p.0 q.0) (entries_both a.entry b.entry c.entry p.1 q.1)

once_both : (a b c : Meaning) → counts_once a b ≡ true → counts_once a c ≡ true → counts_once b c ≡ true
once_both (Imported p) (Imported q) (Imported r) e f = pairs_both p q r e f
once_both (Imported p) (Imported q) (Public r) e f = never f
once_both (Imported p) (Public q) c e f = never e
once_both (Public p) b c e f = never e

-- ---- a conflict at one more item

pub or_none : {X : Type 0} (o : Option X) → o ≡ option_or o None
or_none None = refl
or_none (Some x) = refl

conflict_by : {X : Type 0} (b : Bool) (x : X) (front back : Option X) → cond b (Some x) (option_or front back) ≡ option_or (cond b (Some x) front) back
conflict_by true x front back = refl
conflict_by false x front back = refl

pub conflict-append : {X : Type 0} (c : X → X → Bool) (earlier xs ys : List X) →
    first_conflict c earlier (xs ++ ys) ≡ option_or (first_conflict c earlier xs) (first_conflict c (earlier ++ xs) ys)
conflict-append c earlier [] ys = rw (append-nil earlier) refl
conflict-append {X} c earlier (x ∷ xs) ys =
    ap (λ (o : Option X). cond (list_any (λ y. c y x) earlier) (Some x) o) (conflict-append c (earlier ++ x ∷ []) xs ys)
    ∙ ap (λ (e : List X). cond (list_any (λ y. c y x) earlier) (Some x) (option_or (first_conflict c (earlier ++ x ∷ []) xs) (first_conflict c e ys))) (append_assoc earlier (x ∷ []) xs)
    ∙ conflict_by (list_any (λ y. c y x) earlier) x (first_conflict c (earlier ++ x ∷ []) xs) (first_conflict c (earlier ++ x ∷ xs) ys)

-- Where there is no conflict in xs after these, none of these is in conflict with one of xs.
fronts : {X : Type 0} (c : X → X → Bool) (x : X) (earlier ys : List X) → AllByRecursion (λ y. list_any (λ z. c z y) (earlier ++ x ∷ []) ≡ false) ys → AllByRecursion (λ y. list_any (λ z. c z y) earlier ≡ false) ys
fronts c x earlier [] h = tt
fronts c x earlier (y ∷ ys) h =
    ((or_parts (list_any (λ z. c z y) earlier) (list_any (λ z. c z y) (x ∷ [])) (sym (list_any-append (λ z. c z y) earlier (x ∷ [])) ∙ h.0)).0, fronts c x earlier ys h.1)

apart : {X : Type 0} (c : X → X → Bool) (earlier xs : List X) → first_conflict c earlier xs ≡ None → AllByRecursion (λ y. list_any (λ z. c z y) earlier ≡ false) xs
apart c earlier [] e = tt
apart c earlier (x ∷ xs) e =
    let both = not_first_by x (first_conflict c (earlier ++ x ∷ []) xs) (list_any (λ y. c y x) earlier) e in
    (both.0, fronts c x earlier xs (apart c (earlier ++ x ∷ []) xs both.1))

last_apart : {X : Type 0} (c : X → X → Bool) (x : X) (earlier ys : List X) → AllByRecursion (λ y. list_any (λ z. c z y) (earlier ++ x ∷ []) ≡ false) ys → AllByRecursion (λ y. c x y ≡ false) ys
last_apart c x earlier [] h = tt
last_apart c x earlier (y ∷ ys) h =
    ((or_parts (c x y) false (or_parts (list_any (λ z. c z y) earlier) (list_any (λ z. c z y) (x ∷ [])) (sym (list_any-append (λ z. c z y) earlier (x ∷ [])) ∙ h.0)).1).0, last_apart c x earlier ys h.1)

-- ---- by the first definition of the name

abbrev pub late : Definition → Option Definition → Bool
late d None = false
late d (Some first) = not (counts_once first.meaning d.meaning)

-- Of one name with y, which counts once with d: z does too where it counts once with y.
agrees_by : (y z d : Definition) (b : Bool) → bytes_eq z.name d.name ≡ b → bytes_eq y.name d.name ≡ true → counts_once y.meaning d.meaning ≡ true → conflicts y z ≡ false → (b && not (counts_once z.meaning d.meaning)) ≡ false
agrees_by y z d false of_z of_y once h = refl
agrees_by y z d true of_z of_y once h =
    let of_yz : bytes_eq y.name z.name ≡ true = (bytes_eq-Decides y.name z.name).1 ((bytes_eq-Decides y.name d.name).0 of_y ∙ sym ((bytes_eq-Decides z.name d.name).0 of_z)) in
    let once_yz : counts_once y.meaning z.meaning ≡ true = counted (counts_once y.meaning z.meaning) (ap (λ (t : Bool). t && not (counts_once y.meaning z.meaning)) (sym of_yz) ∙ h) in
    ap not (once_both y.meaning z.meaning d.meaning once_yz once)
  where
    counted : (t : Bool) → (true && not t) ≡ false → t ≡ true
    counted true e = refl
    counted false e = absurd (true≢false e)

none_late : (y d : Definition) (ys : List Definition) → bytes_eq y.name d.name ≡ true → counts_once y.meaning d.meaning ≡ true → AllByRecursion (λ z. conflicts y z ≡ false) ys → list_any (λ z. conflicts z d) ys ≡ false
none_late y d [] of_y once h = refl
none_late y d (z ∷ ys) of_y once h =
    ap (λ (t : Bool). t || list_any (λ z. conflicts z d) ys) (agrees_by y z d (bytes_eq z.name d.name) refl of_y once h.0) ∙ none_late y d ys of_y once h.1

late_by : (y d : Definition) (ys : List Definition) (b c : Bool) → bytes_eq y.name d.name ≡ b → counts_once y.meaning d.meaning ≡ c → AllByRecursion (λ z. conflicts y z ≡ false) ys → list_any (λ z. conflicts z d) ys ≡ late d (find (λ z. bytes_eq z.name d.name) ys) →
    ((b && not c) || list_any (λ z. conflicts z d) ys) ≡ late d (cond b (Some y) (find (λ z. bytes_eq z.name d.name) ys))
late_by y d ys true true of_y once h rest = none_late y d ys of_y once h ∙ ap not (sym once)
late_by y d ys true false of_y once h rest = ap not (sym once)
late_by y d ys false c of_y once h rest = rest

pub late-first : (earlier ds : List Definition) (d : Definition) → first_conflict conflicts earlier ds ≡ None → list_any (λ y. conflicts y d) ds ≡ late d (find (λ y. bytes_eq y.name d.name) ds)
late-first earlier [] d e = refl
late-first earlier (y ∷ ys) d e =
    let rest : first_conflict conflicts (earlier ++ y ∷ []) ys ≡ None = (not_first_by y (first_conflict conflicts (earlier ++ y ∷ []) ys) (list_any (λ z. conflicts z y) earlier) e).1 in
    late_by y d ys (bytes_eq y.name d.name) (counts_once y.meaning d.meaning) refl refl
    (last_apart conflicts y earlier ys (apart conflicts (earlier ++ y ∷ []) ys rest))
    (late-first (earlier ++ y ∷ []) ys d rest)

-- One more definition where there is no second one before it.
pub conflict-push : (ds : List Definition) (d : Definition) → first_conflict conflicts [] ds ≡ None →
    first_conflict conflicts [] (ds ++ d ∷ []) ≡ cond (late d (find (λ y. bytes_eq y.name d.name) ds)) (Some d) None
conflict-push ds d e =
    conflict-append conflicts [] ds (d ∷ [])
    ∙ ap (λ (o : Option Definition). option_or o (first_conflict conflicts ds (d ∷ []))) e
    ∙ ap (λ (b : Bool). cond b (Some d) None) (late-first [] ds d e)

-- The first conflict of a front is that of the whole.
pub conflict-front : (xs ys : List Definition) (d : Definition) → first_conflict conflicts [] xs ≡ Some d → first_conflict conflicts [] (xs ++ ys) ≡ Some d
conflict-front xs ys d e =
    conflict-append conflicts [] xs ys ∙ ap (λ (o : Option Definition). option_or o (first_conflict conflicts xs ys)) e
