-- How the COMDATs of a module are seen one after another.
use Rattle.std.specs.Prelude.{◌≡◌, ℕ, ◌+◌, ◌<◌, ◌≤◌, Bool, true, false, cond, not, List, [], ◌∷◌, ◌++◌, Option, Some, None, map, filter, length, take, drop, is_some, refl}
use Rattle.std.specs.List.{list_any, flat_map, enumerate_from, AllByRecursion}
use Rattle.std.specs.Option.{option_map, option_or}
use Rattle.std.proofs.Common.{ap, sym, ◌∙◌, arith, append_assoc, subst}
use Rattle.std.proofs.Math.ListN.{get_or}
use Rattle.std.proofs.lemmas.List.{append-nil, take_more, drop_more, take_all, drop_all, map-append}
use Rattle.std.proofs.lemmas.List.Elements.{filter-append}
use Rattle.std.proofs.lemmas.List.Folds.{find-append}
use Rattle.obj_types.specs.declared.object.Comdat.{Comdat}
use Rattle.obj_types.specs.declared.object.ObjModule.{ObjModule}
use Rattle.link_model.specs.Kept.{is_local, is_called, shared, repeated}
use Rattle.link_model.specs.Clash.{Owned, owned_by}
use Rattle.name_table.specs.Entries.{value_named}
use Rattle.link_types.proofs.Lists.{numbered-push}
use Rattle.comdat_core.specs.declared.taking.Placed.{Placed}
use Rattle.comdat_core.specs.declared.taking.Taken.{Taken}
use Rattle.comdat_core.specs.Taking.{placed, comdat_of, owned_in, first_called, AreFirsts, table_with, taken_with, HasFirst, IsSeen}
use Rattle.comdat_core.proofs.FirstsMore.{firsts_more, comdat_in, is_there}

-- ---- the COMDATs so far

abbrev pub owned_at : ℕ → ObjModule → Comdat → ℕ × Owned
owned_at place m c = (place, record { owner = m; comdat = c })

abbrev pub is_shared : ObjModule → Comdat → Bool
is_shared m c = not (is_local m c)

-- Those of other modules, and of this one among its first i.
abbrev pub so_far : List (ℕ × Owned) → ℕ → ObjModule → ℕ → List (ℕ × Owned)
so_far all place m i = all ++ map (owned_at place m) (filter (is_shared m) (take i m.comdats))

front_more : (m : ObjModule) (i : ℕ) (c : Comdat) → i < length m.comdats → c ≡ get_or m.comdats i c → filter (is_shared m) (take (i + 1) m.comdats) ≡ filter (is_shared m) (take i m.comdats) ++ cond (is_shared m c) (c ∷ []) []
front_more m i c below is =
    ap (filter (is_shared m)) (take_more m.comdats i c below ∙ ap (λ (d : Comdat). take i m.comdats ++ d ∷ []) (sym is)) ∙ filter-append (is_shared m) (take i m.comdats) (c ∷ [])

far_more : (all : List (ℕ × Owned)) (place : ℕ) (m : ObjModule) (i : ℕ) (c : Comdat) → i < length m.comdats → c ≡ get_or m.comdats i c → is_shared m c ≡ true → so_far all place m (i + 1) ≡ so_far all place m i ++ owned_at place m c ∷ []
far_more all place m i c below is e =
    let front = filter (is_shared m) (take i m.comdats) in
    ap (λ (cs : List Comdat). all ++ map (owned_at place m) cs) (front_more m i c below is ∙ ap (λ (b : Bool). front ++ cond b (c ∷ []) []) e)
    ∙ ap (λ (xs : List (ℕ × Owned)). all ++ xs) (map-append (owned_at place m) front (c ∷ []))
    ∙ sym (append_assoc all (map (owned_at place m) front) (owned_at place m c ∷ []))

far_same : (all : List (ℕ × Owned)) (place : ℕ) (m : ObjModule) (i : ℕ) (c : Comdat) → i < length m.comdats → c ≡ get_or m.comdats i c → is_shared m c ≡ false → so_far all place m (i + 1) ≡ so_far all place m i
far_same all place m i c below is e =
    let front = filter (is_shared m) (take i m.comdats) in
    ap (λ (cs : List Comdat). all ++ map (owned_at place m) cs) (front_more m i c below is ∙ ap (λ (b : Bool). front ++ cond b (c ∷ []) []) e ∙ append-nil front)

rest_more : (m : ObjModule) (i : ℕ) (c : Comdat) → i < length m.comdats → c ≡ get_or m.comdats i c → drop i m.comdats ≡ c ∷ drop (i + 1) m.comdats
rest_more m i c below is = drop_more m.comdats i c below ∙ ap (λ (d : Comdat). d ∷ drop (i + 1) m.comdats) (sym is)

-- ---- what holds after the first i COMDATs of a module

pub record Progress (all : List (ℕ × Owned)) (place : ℕ) (m : ObjModule) (i : ℕ) (table : List (List ℕ × Placed)) (out : List Taken) : Type 0 where
  pub firsts : AreFirsts (so_far all place m i) table
  pub comdats : map comdat_of out ++ repeated (map comdat_in (so_far all place m i)) (filter (is_shared m) (drop i m.comdats)) ≡ repeated (map comdat_in all) (shared m)
  pub owners : AllByRecursion (λ t. t.own.owner.now ≡ m) out
  pub stays : AllByRecursion (HasFirst (so_far all place m i)) out

pub begun : (all : List (ℕ × Owned)) (place : ℕ) (m : ObjModule) (table : List (List ℕ × Placed)) → AreFirsts all table → Progress all place m 0 table []
begun all place m table are =
    let none : all ≡ so_far all place m 0 = sym (append-nil all) in
    record {
      firsts = subst (λ (xs : List (ℕ × Owned)). AreFirsts xs table) none are;
      comdats = ap (λ (xs : List (ℕ × Owned)). repeated (map comdat_in xs) (shared m)) (sym none);
      owners = tt;
      stays = tt;
    }

pub skipped : (all : List (ℕ × Owned)) (place : ℕ) (m : ObjModule) (i : ℕ) (c : Comdat) (table : List (List ℕ × Placed)) (out : List Taken) → i < length m.comdats → c ≡ get_or m.comdats i c → is_local m c ≡ true → Progress all place m i table out → Progress all place m (i + 1) table out
skipped all place m i c table out below is local p =
    let e : is_shared m c ≡ false = ap not local in
    let same = far_same all place m i c below is e in
    record {
      firsts = subst (λ (xs : List (ℕ × Owned)). AreFirsts xs table) (sym same) p.firsts;
      comdats = ap (λ (xs : List (ℕ × Owned)). map comdat_of out ++ repeated (map comdat_in xs) (filter (is_shared m) (drop (i + 1) m.comdats))) same
          ∙ ap (λ (b : Bool). map comdat_of out ++ repeated (map comdat_in (so_far all place m i)) (cond b (c ∷ filter (is_shared m) (drop (i + 1) m.comdats)) (filter (is_shared m) (drop (i + 1) m.comdats)))) (sym e)
          ∙ ap (λ (cs : List Comdat). map comdat_of out ++ repeated (map comdat_in (so_far all place m i)) (filter (is_shared m) cs)) (sym (rest_more m i c below is))
          ∙ p.comdats;
      owners = p.owners;
      stays = subst (λ (xs : List (ℕ × Owned)). AllByRecursion (HasFirst xs) out) (sym same) p.stays;
    }

-- ---- one more that is shared

first_stays : (o : Option (ℕ × Owned)) (x : ℕ × Owned) (p : Option (ℕ × Owned)) → o ≡ Some x → option_or o p ≡ Some x
first_stays o x p e = ap (λ (q : Option (ℕ × Owned)). option_or q p) e

pub stays_after : (all more : List (ℕ × Owned)) (out : List Taken) → AllByRecursion (HasFirst all) out → AllByRecursion (HasFirst (all ++ more)) out
stays_after all more [] h = tt
stays_after all more (t ∷ ts) h =
    (find-append (λ x. is_called (comdat_of t).name x.1.comdat) all more ∙ first_stays (first_called (comdat_of t).name all) (placed t.first) (first_called (comdat_of t).name more) h.0, stays_after all more ts h.1)

all_last : (P : Taken → Type 0) (out : List Taken) (t : Taken) → AllByRecursion P out → P t → AllByRecursion P (out ++ t ∷ [])
all_last P [] t h p = (p, tt)
all_last P (x ∷ xs) t h p = (h.0, all_last P xs t h.1 p)

comdats_by : (earlier rest : List Comdat) (out : List Taken) (next : Placed) (o : Option Placed) → list_any (is_called next.own.comdat.now.name) earlier ≡ is_some o → map comdat_of (taken_with o out next) ++ repeated (earlier ++ next.own.comdat.now ∷ []) rest ≡ map comdat_of out ++ repeated earlier (next.own.comdat.now ∷ rest)
comdats_by earlier rest out next None e =
    let later = repeated (earlier ++ next.own.comdat.now ∷ []) rest in
    ap (λ (b : Bool). map comdat_of out ++ cond b (next.own.comdat.now ∷ later) later) (sym e)
comdats_by earlier rest out next (Some first) e =
    let later = repeated (earlier ++ next.own.comdat.now ∷ []) rest in
    ap (λ (cs : List Comdat). cs ++ later) (map-append comdat_of out (record { own = next.own; first = first } ∷ []))
    ∙ append_assoc (map comdat_of out) (next.own.comdat.now ∷ []) later
    ∙ ap (λ (b : Bool). map comdat_of out ++ cond b (next.own.comdat.now ∷ later) later) (sym e)

owners_by : (m : ObjModule) (out : List Taken) (next : Placed) (o : Option Placed) → next.own.owner.now ≡ m → AllByRecursion (λ (t : Taken). t.own.owner.now ≡ m) out → AllByRecursion (λ (t : Taken). t.own.owner.now ≡ m) (taken_with o out next)
owners_by m out next None e h = h
owners_by m out next (Some first) e h = all_last (λ (t : Taken). t.own.owner.now ≡ m) out (record { own = next.own; first = first }) h e

stays_by : (all : List (ℕ × Owned)) (table : List (List ℕ × Placed)) (out : List Taken) (next : Placed) (o : Option Placed) → AreFirsts all table → value_named next.own.comdat.now.name table ≡ o → AllByRecursion (HasFirst all) out → AllByRecursion (HasFirst all) (taken_with o out next)
stays_by all table out next None are is h = h
stays_by all table out next (Some first) are is h =
    all_last (HasFirst all) out (record { own = next.own; first = first }) h (sym (are next.own.comdat.now.name) ∙ ap (option_map placed) is)

pub seen : (all : List (ℕ × Owned)) (i : ℕ) (next : Placed) (table : List (List ℕ × Placed)) (out : List Taken) → i < length next.own.owner.now.comdats → next.own.comdat.now ≡ get_or next.own.owner.now.comdats i next.own.comdat.now
    → is_local next.own.owner.now next.own.comdat.now ≡ false → Progress all next.place next.own.owner.now i table out
    → Progress all next.place next.own.owner.now (i + 1) (table_with (value_named next.own.comdat.now.name table) table next) (taken_with (value_named next.own.comdat.now.name table) out next)
seen all i next table out below is local p =
    let m = next.own.owner.now in
    let c = next.own.comdat.now in
    let old = so_far all next.place m i in
    let rest = filter (is_shared m) (drop (i + 1) m.comdats) in
    let there = value_named c.name table in
    let e : is_shared m c ≡ true = ap not local in
    let more : so_far all next.place m (i + 1) ≡ old ++ placed next ∷ [] = far_more all next.place m i c below is e in
    record {
      firsts = subst (λ (xs : List (ℕ × Owned)). AreFirsts xs (table_with there table next)) (sym more) (firsts_more old table next p.firsts);
      comdats = ap (λ (xs : List (ℕ × Owned)). map comdat_of (taken_with there out next) ++ repeated (map comdat_in xs) rest) more
          ∙ ap (λ (cs : List Comdat). map comdat_of (taken_with there out next) ++ repeated cs rest) (map-append comdat_in old (placed next ∷ []))
          ∙ comdats_by (map comdat_in old) rest out next there (is_there old table c.name p.firsts)
          ∙ ap (λ (b : Bool). map comdat_of out ++ repeated (map comdat_in old) (cond b (c ∷ rest) rest)) (sym e)
          ∙ ap (λ (cs : List Comdat). map comdat_of out ++ repeated (map comdat_in old) (filter (is_shared m) cs)) (sym (rest_more m i c below is))
          ∙ p.comdats;
      owners = owners_by m out next there refl p.owners;
      stays = subst (λ (xs : List (ℕ × Owned)). AllByRecursion (HasFirst xs) (taken_with there out next)) (sym more)
          (stays_after old (placed next ∷ []) (taken_with there out next) (stays_by old table out next there p.firsts refl p.stays));
    }

-- The same, by what the table and the list are then.
pub seen_as : (all : List (ℕ × Owned)) (i : ℕ) (next : Placed) (table now : List (List ℕ × Placed)) (out outs : List Taken) → i < length next.own.owner.now.comdats → next.own.comdat.now ≡ get_or next.own.owner.now.comdats i next.own.comdat.now
    → is_local next.own.owner.now next.own.comdat.now ≡ false → Progress all next.place next.own.owner.now i table out
    → now ≡ table_with (value_named next.own.comdat.now.name table) table next → outs ≡ taken_with (value_named next.own.comdat.now.name table) out next
    → Progress all next.place next.own.owner.now (i + 1) now outs
seen_as all i next table now out outs below is local p tables lists =
    subst (λ (t : List (List ℕ × Placed)). Progress all next.place next.own.owner.now (i + 1) t outs) (sym tables)
    (subst (λ (ts : List Taken). Progress all next.place next.own.owner.now (i + 1) (table_with (value_named next.own.comdat.now.name table) table next) ts) (sym lists)
    (seen all i next table out below is local p))

-- ---- the whole module

comdats_at : (place : ℕ) (m : ObjModule) (cs : List Comdat) → map comdat_in (map (owned_at place m) cs) ≡ cs
comdats_at place m [] = refl
comdats_at place m (c ∷ cs) = ap (λ (t : List Comdat). c ∷ t) (comdats_at place m cs)

comdats_from : (s : ℕ) (ms : List ObjModule) → map comdat_in (flat_map owned_by (enumerate_from s ms)) ≡ flat_map shared ms
comdats_from s [] = refl
comdats_from s (m ∷ ms) =
    map-append comdat_in (owned_by (s, m)) (flat_map owned_by (enumerate_from (s + 1) ms))
    ∙ ap (λ (t : List Comdat). t ++ map comdat_in (flat_map owned_by (enumerate_from (s + 1) ms))) (comdats_at s m (shared m))
    ∙ ap (λ (t : List Comdat). shared m ++ t) (comdats_from (s + 1) ms)

pub owned_last : (before : List ObjModule) (m : ObjModule) → owned_in (before ++ m ∷ []) ≡ owned_in before ++ owned_by (length before, m)
owned_last before m =
    numbered-push (λ n x. owned_by (n, x)) 0 before m ∙ ap (λ (n : ℕ). owned_in before ++ owned_by (n, m)) (let e : 0 + length before ≡ length before = omega arith in e)

pub whole : (before : List ObjModule) (m : ObjModule) (i : ℕ) (table : List (List ℕ × Placed)) (out : List Taken) → length m.comdats ≤ i → Progress (owned_in before) (length before) m i table out → IsSeen before m table out
whole before m i table out past p =
    let at_end : so_far (owned_in before) (length before) m i ≡ owned_in (before ++ m ∷ []) =
    ap (λ (cs : List Comdat). owned_in before ++ map (owned_at (length before) m) (filter (is_shared m) cs)) (take_all i m.comdats past) ∙ sym (owned_last before m) in
    record {
      firsts = subst (λ (xs : List (ℕ × Owned)). AreFirsts xs table) at_end p.firsts;
      list = record {
        comdats = sym (append-nil (map comdat_of out))
            ∙ ap (λ (cs : List Comdat). map comdat_of out ++ repeated (map comdat_in (so_far (owned_in before) (length before) m i)) (filter (is_shared m) cs)) (sym (drop_all i m.comdats past))
            ∙ p.comdats
            ∙ ap (λ (cs : List Comdat). repeated cs (shared m)) (comdats_from 0 before);
        owners = p.owners;
        firsts = subst (λ (xs : List (ℕ × Owned)). AllByRecursion (HasFirst xs) out) at_end p.stays;
      };
    }
