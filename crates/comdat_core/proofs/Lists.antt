-- What is taken out of several modules, one after the other.
use Rattle.std.specs.Prelude.{◌≡◌, ℕ, zero, suc, ◌+◌, ◌<◌, ◌≤◌, Bool, true, false, List, [], ◌∷◌, ◌++◌, Option, Some, None, length, take, slice_get, is_some, if◌then◌else◌, refl}
use Rattle.std.specs.Global.{Vec}
use Rattle.std.specs.List.{flat_map, enumerate_from}
use Rattle.std.proofs.Common.{ap, sym, ◌∙◌, arith, append_assoc, subst, inl, inr, true≢false}
use Rattle.std.proofs.Math.ListN.{get_or}
use Rattle.std.proofs.Math.Seq.{take-append-add}
use Rattle.std.proofs.lemmas.Bool.{cases_lt}
use Rattle.std.proofs.lemmas.List.{append-nil, take_more, take-append-le}
use Rattle.obj_types.specs.declared.object.ObjModule.{ObjModule}
use Rattle.obj_types.specs.declared.input.LinkInput.{LinkInput}
use Rattle.link_model.specs.declared.symbols.Pick.{Pick}
use Rattle.link_model.specs.Choosing.{module_of}
use Rattle.link_model.specs.Clash.{Owned, owned_by, all_modules, place_of}
use Rattle.comdat_core.specs.declared.taking.Placed.{Placed}
use Rattle.comdat_core.specs.declared.taking.Taken.{Taken}
use Rattle.comdat_core.specs.declared.taking.TakenOut.{TakenOut}
use Rattle.comdat_core.specs.Taking.{owned_in, AreFirsts, IsListOf, AreListsOf, IsSeen, AreSeen}
use Rattle.comdat_core.specs.TakenOut.{IsTakenOut}
use Rattle.comdat_core.proofs.TakingOut.{owned_last, stays_after}

-- ---- more COMDATs after those that were seen

list_after : (all more : List (ℕ × Owned)) (before : List ObjModule) (m : ObjModule) (out : List Taken) → IsListOf all before m out → IsListOf (all ++ more) before m out
list_after all more before m out h = record { comdats = h.comdats; owners = h.owners; firsts = stays_after all more out h.firsts }

pub lists_after : (all more : List (ℕ × Owned)) (before ms : List ObjModule) (outs : List (Vec Taken)) → AreListsOf all before ms outs → AreListsOf (all ++ more) before ms outs
lists_after all more before [] [] h = tt
lists_after all more before [] (out ∷ outs) h = h
lists_after all more before (m ∷ ms) [] h = h
lists_after all more before (m ∷ ms) (out ∷ outs) h = (list_after all more before m out.items h.0, lists_after all more (before ++ m ∷ []) ms outs h.1)

lists_last : (all : List (ℕ × Owned)) (before ms : List ObjModule) (m : ObjModule) (outs : List (Vec Taken)) (out : Vec Taken) → AreListsOf all before ms outs → IsListOf all (before ++ ms) m out.items → AreListsOf all before (ms ++ m ∷ []) (outs ++ out ∷ [])
lists_last all before [] m [] out h last = (subst (λ (b : List ObjModule). IsListOf all b m out.items) (append-nil before) last, tt)
lists_last all before [] m (o ∷ outs) out h last = absurd h
lists_last all before (n ∷ ms) m [] out h last = absurd h
lists_last all before (n ∷ ms) m (o ∷ outs) out h last =
    (h.0, lists_last all (before ++ n ∷ []) ms m outs out h.1 (subst (λ (b : List ObjModule). IsListOf all b m out.items) (sym (append_assoc before (n ∷ []) ms)) last))

pub none_seen : (before : List ObjModule) (table : List (List ℕ × Placed)) → AreFirsts (owned_in before) table → AreSeen before [] table []
none_seen before table are = record { firsts = subst (λ (ms : List ObjModule). AreFirsts (owned_in ms) table) (sym (append-nil before)) are; lists = tt }

-- One more module of a list.
pub seen_more : (before ms : List ObjModule) (i : ℕ) (m : ObjModule) (old new : List (List ℕ × Placed)) (outs : List (Vec Taken)) (out : Vec Taken) → i < length ms → m ≡ get_or ms i m → AreSeen before (take i ms) old outs → IsSeen (before ++ take i ms) m new out.items → AreSeen before (take (i + 1) ms) new (outs ++ out ∷ [])
seen_more before ms i m old new outs out below is seen h =
    let front = take i ms in
    let more : take (i + 1) ms ≡ front ++ m ∷ [] = take_more ms i m below ∙ ap (λ (n : ObjModule). front ++ n ∷ []) (sym is) in
    let joined : (before ++ front) ++ m ∷ [] ≡ before ++ (front ++ m ∷ []) = append_assoc before front (m ∷ []) in
    let all = owned_in (before ++ front) in
    let last = owned_by (length (before ++ front), m) in
    let lists : AreListsOf (owned_in ((before ++ front) ++ m ∷ [])) before front outs =
    subst (λ (xs : List (ℕ × Owned)). AreListsOf xs before front outs) (sym (owned_last (before ++ front) m)) (lists_after all last before front outs seen.lists) in
    subst (λ (ns : List ObjModule). AreSeen before ns new (outs ++ out ∷ [])) (sym more) (record {
      firsts = subst (λ (ns : List ObjModule). AreFirsts (owned_in ns) new) joined h.firsts;
      lists = subst (λ (ns : List ObjModule). AreListsOf (owned_in ns) before (front ++ m ∷ []) (outs ++ out ∷ [])) joined (lists_last (owned_in ((before ++ front) ++ m ∷ [])) before front m outs out lists h.list);
    })

-- Those of object files are still first where library modules are after them.
abbrev owned_from : ℕ → List ObjModule → List (ℕ × Owned)
owned_from s ms = flat_map owned_by (enumerate_from s ms)

flat_from : (s : ℕ) (ms ns : List ObjModule) → (rest : List (ℕ × Owned)) × (owned_from s (ms ++ ns) ≡ owned_from s ms ++ rest)
flat_from s [] ns = (owned_from s ns, refl)
flat_from s (m ∷ ms) ns =
    let r = flat_from (s + 1) ms ns in
    (r.0, ap (λ (xs : List (ℕ × Owned)). owned_by (s, m) ++ xs) r.1 ∙ sym (append_assoc (owned_by (s, m)) (owned_from (s + 1) ms) r.0))

pub objects_after : (ms ns : List ObjModule) (outs : List (Vec Taken)) → AreListsOf (owned_in ms) [] ms outs → AreListsOf (owned_in (ms ++ ns)) [] ms outs
objects_after ms ns outs h =
    let r = flat_from 0 ms ns in
    subst (λ (xs : List (ℕ × Owned)). AreListsOf xs [] ms outs) (sym r.1) (lists_after (owned_in ms) r.0 [] ms outs h)

-- ---- by places

-- A module that there is has its list, and none has none.
abbrev pub AtPlace : List (ℕ × Owned) → List ObjModule → Option ObjModule → Option (Vec Taken) → Type 0
AtPlace all before None None = Unit {0}
AtPlace all before None (Some out) = ⊥
AtPlace all before (Some m) None = ⊥
AtPlace all before (Some m) (Some out) = IsListOf all before m out.items

lists_at : (all : List (ℕ × Owned)) (before ms : List ObjModule) (outs : List (Vec Taken)) (k : ℕ) → AreListsOf all before ms outs → AtPlace all (before ++ take k ms) (slice_get ms k) (slice_get outs k)
lists_at all before [] [] k h = tt
lists_at all before [] (out ∷ outs) k h = absurd h
lists_at all before (m ∷ ms) [] k h = absurd h
lists_at all before (m ∷ ms) (out ∷ outs) zero h = subst (λ (b : List ObjModule). IsListOf all b m out.items) (sym (append-nil before)) h.0
lists_at all before (m ∷ ms) (out ∷ outs) (suc k) h =
    subst (λ (b : List ObjModule). AtPlace all b (slice_get ms k) (slice_get outs k)) (append_assoc before (m ∷ []) (take k ms)) (lists_at all (before ++ m ∷ []) ms outs k h.1)

past : (ms : List ObjModule) (k : ℕ) → length ms ≤ k → slice_get ms k ≡ None
past [] k h = refl
past (m ∷ ms) zero h = absurd (omega arith)
past (m ∷ ms) (suc k) h = past ms k (omega arith)

other_place : (all : List (ℕ × Owned)) (before other : List ObjModule) (o : Option ObjModule) (p : Option (Vec Taken)) → o ≡ None → AtPlace all before o p → AtPlace all other o p
other_place all before other None None e h = tt
other_place all before other None (Some out) e h = h
other_place all before other (Some m) p e h = absurd (true≢false (ap is_some e))

object_at : (input : LinkInput) (out : TakenOut) (k : ℕ) → IsTakenOut input out → AtPlace (owned_in (all_modules input)) (take k (all_modules input)) (slice_get input.objects k) (slice_get out.objects.items k)
object_at input out k h =
    let all = owned_in (all_modules input) in
    let at = lists_at all [] input.objects out.objects.items k h.objects in
    elim (cases_lt k (length input.objects)) [
      | inl below ↦ subst (λ (b : List ObjModule). AtPlace all b (slice_get input.objects k) (slice_get out.objects.items k)) (sym (take-append-le k input.objects input.libs (omega arith))) at
      | inr above ↦ other_place all (take k input.objects) (take k (all_modules input)) (slice_get input.objects k) (slice_get out.objects.items k) (past input.objects k above) at
    ]

library_at : (input : LinkInput) (out : TakenOut) (k : ℕ) → IsTakenOut input out → AtPlace (owned_in (all_modules input)) (take (length input.objects + k) (all_modules input)) (slice_get input.libs k) (slice_get out.libs.items k)
library_at input out k h =
    let all = owned_in (all_modules input) in
    subst (λ (b : List ObjModule). AtPlace all b (slice_get input.libs k) (slice_get out.libs.items k)) (sym (take-append-add input.objects input.libs k)) (lists_at all input.objects input.libs out.libs.items k h.libs)

pick_by : (input : LinkInput) (out : TakenOut) (lib : Bool) (index : ℕ) → IsTakenOut input out → AtPlace (owned_in (all_modules input)) (take (if lib then length input.objects + index else index) (all_modules input)) (slice_get (if lib then input.libs else input.objects) index) (slice_get (if lib then out.libs.items else out.objects.items) index)
pick_by input out true index h = library_at input out index h
pick_by input out false index h = object_at input out index h

-- What is taken out of the module of a pick.
pub list_of_pick : (input : LinkInput) (out : TakenOut) (pick : Pick) → IsTakenOut input out → AtPlace (owned_in (all_modules input)) (take (place_of input pick) (all_modules input)) (module_of input pick) (slice_get (if pick.lib then out.libs.items else out.objects.items) pick.index)
list_of_pick input out pick h = pick_by input out pick.lib pick.index h
