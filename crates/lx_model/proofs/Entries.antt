-- The parts of a faultless file fit each other: the entry table and the import modules.
use Rattle.std.proofs.Common.{◌≡◌, ℕ, zero, suc, ◌+◌, ◌<◌, ◌≤◌, Bool, true, false, cond, Option, Some, not, eqb, ltb, List, [], ◌∷◌, ◌++◌, length, get_or, Ok, Err, refl, subst, ap, ◌∙◌, arith}
use Rattle.std.specs.Prelude.{All, AllPairs}
use Rattle.std.specs.List.{flat_map, AllByRecursion as Each}
use Rattle.std.proofs.lemmas.Bool.Decides.{nat_tests}
use Rattle.std.proofs.lemmas.Bool.{ltb-false}
use Rattle.std.proofs.lemmas.List.Elements.{All-from_recursion}
use Rattle.lx_bytes.specs.Cursor.{Cursor}
use Rattle.lx_types.specs.declared.refusal.LxKind.TheVariants as kinds
use Rattle.lx_types.specs.declared.entry.EntryHead.{EntryHead}
use Rattle.lx_types.specs.declared.entry.EntryHead.TheVariants.{At, Gate286, Forward}
use Rattle.lx_types.specs.Sound.{HeadFits, IsNumberOf}
use Rattle.lx_model.specs.Reading.{fault, cursor, number, Read, ◌>>=◌, ends, Many, many}
use Rattle.lx_model.specs.EntryTable.{Numbered, names_one_of, at_entry, gate_entry, forward_key, forward_entry, bundle_entries, object_entries, bundle_of_type, bundle_at, entries_in}
use Rattle.lx_model.specs.declared.limits.TheConstants.{MAX_ORDINAL}
use Rattle.lx_model.proofs.Many.{whole_ends, Cases, many_holds}
use Rattle.lx_model.proofs.Shortening.{bundle_shortens}
use Rattle.lx_model.proofs.Steps.{bind_ok, guard_ok, done, never, at_item}

-- ---- entries

-- the ordinals rise, from one up to before another, and the heads name what is there
abbrev pub Run : ℕ → ℕ → ℕ → ℕ → List Numbered → Type 0
Run objects imports low high [] = Unit {0}
Run objects imports low high (e ∷ es) = (low ≤ e.0) × (e.0 < high) × HeadFits objects imports e.1 × Run objects imports (e.0 + 1) high es

Run-lower : (objects imports low lower high : ℕ) (es : List Numbered) → lower ≤ low → Run objects imports low high es → Run objects imports lower high es
Run-lower objects imports low lower high [] below run = tt
Run-lower objects imports low lower high (e ∷ es) below run = (omega arith, run.1, run.2, run.3)

Run-higher : (objects imports low high higher : ℕ) (es : List Numbered) → high ≤ higher → Run objects imports low high es → Run objects imports low higher es
Run-higher objects imports low high higher [] above run = tt
Run-higher objects imports low high higher (e ∷ es) above run = (run.0, omega arith, run.2, Run-higher objects imports (e.0 + 1) high higher es above run.3)

Run-append : (objects imports low middle high : ℕ) (xs ys : List Numbered) → low ≤ middle → middle ≤ high → Run objects imports low middle xs → Run objects imports middle high ys → Run objects imports low high (xs ++ ys)
Run-append objects imports low middle high [] ys a b first second = Run-lower objects imports middle low high ys a second
Run-append objects imports low middle high (x ∷ xs) ys a b first second =
    (first.0, omega arith, first.2, Run-append objects imports (x.0 + 1) middle high xs ys (omega arith) b first.3 second)

-- the entries of a bundle
run_of_bundle : (objects imports n ordinal : ℕ) (read : Cursor → Read EntryHead) (c : Cursor) (x : List Numbered × Cursor) →
    ((d : Cursor) (y : EntryHead × Cursor) → read d ≡ Ok y → HeadFits objects imports y.0) →
    bundle_entries n ordinal read c ≡ Ok x → Run objects imports ordinal (ordinal + n) x.0
unfolding bundle_entries
run_of_bundle objects imports zero ordinal read c x fits e = let same : ([], c) ≡ x = cc in subst (λ (y : List Numbered × Cursor). Run objects imports ordinal (ordinal + 0) y.0) same tt
run_of_bundle objects imports (suc n) ordinal read c x fits e =
    let first = bind_ok (read c) (λ head. bundle_entries n (ordinal + 1) read head.1 >>= λ others. done ((ordinal, head.0) ∷ others.0, others.1)) x e in
    let head = first.0 in
    let second = bind_ok (bundle_entries n (ordinal + 1) read head.1) (λ others. done ((ordinal, head.0) ∷ others.0, others.1)) x first.2 in
    let others = second.0 in
    let same : ((ordinal, head.0) ∷ others.0, others.1) ≡ x = cc in
    let rest = Run-higher objects imports (ordinal + 1) (ordinal + 1 + n) (ordinal + suc n) others.0 (omega arith) (run_of_bundle objects imports n (ordinal + 1) read head.1 others fits second.1) in
    subst (λ (y : List Numbered × Cursor). Run objects imports ordinal (ordinal + suc n) y.0) same (omega arith, omega arith, fits c head first.1, rest)

-- ---- heads

at_fits : (objects imports width object : ℕ) → IsNumberOf object objects → (c : Cursor) (y : EntryHead × Cursor) → at_entry width object c ≡ Ok y → HeadFits objects imports y.0
unfolding at_entry
at_fits objects imports width object there c y e =
    let first = bind_ok (number 1 c) (λ flags. number width flags.1 >>= λ offset. done (At object offset.0, offset.1)) y e in
    let second = bind_ok (number width first.0.1) (λ offset. done (At object offset.0, offset.1)) y first.2 in
    let same : (At object second.0.0, second.0.1) ≡ y = cc in
    subst (λ (z : EntryHead × Cursor). HeadFits objects imports z.0) same there

gate_fits : (objects imports object : ℕ) → IsNumberOf object objects → (c : Cursor) (y : EntryHead × Cursor) → gate_entry object c ≡ Ok y → HeadFits objects imports y.0
unfolding gate_entry
gate_fits objects imports object there c y e =
    let first = bind_ok (number 1 c) (λ flags. number 2 flags.1 >>= λ offset. number 2 offset.1 >>= λ gate. done (Gate286 object offset.0, gate.1)) y e in
    let second = bind_ok (number 2 first.0.1) (λ offset. number 2 offset.1 >>= λ gate. done (Gate286 object offset.0, gate.1)) y first.2 in
    let third = bind_ok (number 2 second.0.1) (λ gate. done (Gate286 object second.0.0, gate.1)) y second.2 in
    let same : (Gate286 object second.0.0, third.0.1) ≡ y = cc in
    subst (λ (z : EntryHead × Cursor). HeadFits objects imports z.0) same there

pub numbered : (count number : ℕ) → not (names_one_of count number) ≡ false → IsNumberOf number count
numbered count number e = (grind (arith, nat_tests), grind (arith, nat_tests))

forward_fits : (objects imports : ℕ) (c : Cursor) (y : EntryHead × Cursor) → forward_entry imports c ≡ Ok y → HeadFits objects imports y.0
unfolding forward_entry
forward_fits objects imports c y e =
    let wrong = fault kinds.EntryTable c.at in
    let first = bind_ok (number 1 c) (λ flags. number 2 flags.1 >>= λ import.
    cond (not (names_one_of imports import.0)) (Err wrong) (number 4 import.1 >>= λ key. done (Forward import.0 (forward_key flags.0 key.0), key.1))) y e in
    let flags = first.0 in
    let second = bind_ok (number 2 flags.1) (λ import. cond (not (names_one_of imports import.0)) (Err wrong) (number 4 import.1 >>= λ key. done (Forward import.0 (forward_key flags.0 key.0), key.1))) y first.2 in
    let import = second.0 in
    let third = guard_ok (not (names_one_of imports import.0)) wrong (number 4 import.1 >>= λ key. done (Forward import.0 (forward_key flags.0 key.0), key.1)) y second.2 in
    let fourth = bind_ok (number 4 import.1) (λ key. done (Forward import.0 (forward_key flags.0 key.0), key.1)) y third.1 in
    let same : (Forward import.0 (forward_key flags.0 fourth.0.0), fourth.0.1) ≡ y = cc in
    subst (λ (z : EntryHead × Cursor). HeadFits objects imports z.0) same (numbered imports import.0 third.0)

-- ---- bundles

run_of_objects : (objects imports bundle n ordinal : ℕ) (read : ℕ → Cursor → Read EntryHead) (c : Cursor) (x : List Numbered × Cursor) →
    ((object : ℕ) → IsNumberOf object objects → (d : Cursor) (y : EntryHead × Cursor) → read object d ≡ Ok y → HeadFits objects imports y.0) →
    object_entries objects bundle n ordinal read c ≡ Ok x → Run objects imports ordinal (ordinal + n) x.0
unfolding object_entries
run_of_objects objects imports bundle n ordinal read c x fits e =
    let first = bind_ok (number 2 c) (λ object. cond (not (names_one_of objects object.0)) (Err (fault kinds.EntryTable bundle)) (bundle_entries n ordinal (read object.0) object.1)) x e in
    let object = first.0 in
    let second = guard_ok (not (names_one_of objects object.0)) (fault kinds.EntryTable bundle) (bundle_entries n ordinal (read object.0) object.1) x first.2 in
    run_of_bundle objects imports n ordinal (read object.0) object.1 x (fits object.0 (numbered objects object.0 second.0)) second.1

run_of_type : (kind objects imports bundle n ordinal : ℕ) (c : Cursor) (x : List Numbered × Cursor) → bundle_of_type kind objects imports bundle n ordinal c ≡ Ok x → Run objects imports ordinal (ordinal + n) x.0
unfolding bundle_of_type
run_of_type zero objects imports bundle n ordinal c x e = let same : ([], c) ≡ x = cc in subst (λ (y : List Numbered × Cursor). Run objects imports ordinal (ordinal + n) y.0) same tt
run_of_type (suc zero) objects imports bundle n ordinal c x e = run_of_objects objects imports bundle n ordinal (at_entry 2) c x (at_fits objects imports 2) e
run_of_type (suc (suc zero)) objects imports bundle n ordinal c x e = run_of_objects objects imports bundle n ordinal gate_entry c x (gate_fits objects imports) e
run_of_type (suc (suc (suc zero))) objects imports bundle n ordinal c x e = run_of_objects objects imports bundle n ordinal (at_entry 4) c x (at_fits objects imports 4) e
run_of_type (suc (suc (suc (suc zero)))) objects imports bundle n ordinal c x e =
    let first = bind_ok (number 2 c) (λ reserved. bundle_entries n ordinal (forward_entry imports) reserved.1) x e in
    run_of_bundle objects imports n ordinal (forward_entry imports) first.0.1 x (forward_fits objects imports) first.2
run_of_type (suc (suc (suc (suc (suc k))))) objects imports bundle n ordinal c x e = absurd cc

-- ---- the table

-- what stands after the count of a bundle
abbrev pub further : ℕ → ℕ → ℕ → ℕ → ℕ × Cursor → Read (Option (List Numbered × ℕ))
further objects imports last at count = number 1 count.1 >>= λ kind. bundle_of_type kind.0 objects imports at count.0 (last + 1) kind.1 >>= λ entries. done (Some (entries.0, last + count.0), entries.1)

abbrev pub after_count : ℕ → ℕ → ℕ → ℕ → ℕ × Cursor → Read (Option (List Numbered × ℕ))
after_count objects imports last at count = cond (eqb count.0 0) (ends count.1) (cond (ltb MAX_ORDINAL (last + count.0)) (Err (fault kinds.EntryTable at)) (further objects imports last at count))

-- the entries of a bundle, and the last ordinal up to its end
record BundleRun (objects imports last : ℕ) (x : List Numbered × ℕ) : Type 0 where
  higher : last ≤ x.1
  low : x.1 ≤ MAX_ORDINAL
  run : Run objects imports (last + 1) (x.1 + 1) x.0

run_of_count : (objects imports last at : ℕ) (none : Bool) (count : ℕ × Cursor) (x : List Numbered × ℕ) (d : Cursor) →
    cond none (ends count.1) (cond (ltb MAX_ORDINAL (last + count.0)) (Err (fault kinds.EntryTable at)) (further objects imports last at count)) ≡ Ok (Some x, d) → BundleRun objects imports last x
run_of_count objects imports last at true count x d e = absurd (never count.1 d x (ends count.1) refl e)
run_of_count objects imports last at false count x d e =
    let guard = guard_ok (ltb MAX_ORDINAL (last + count.0)) (fault kinds.EntryTable at) (further objects imports last at count) (Some x, d) e in
    let below : last + count.0 ≤ MAX_ORDINAL = ltb-false MAX_ORDINAL (last + count.0) guard.0 in
    let first = bind_ok (number 1 count.1) (λ kind. bundle_of_type kind.0 objects imports at count.0 (last + 1) kind.1 >>= λ entries. done (Some (entries.0, last + count.0), entries.1)) (Some x, d) guard.1 in
    let kind = first.0 in
    let second = bind_ok (bundle_of_type kind.0 objects imports at count.0 (last + 1) kind.1) (λ entries. done (Some (entries.0, last + count.0), entries.1)) (Some x, d) first.2 in
    let entries = second.0 in
    let run = Run-higher objects imports (last + 1) (last + 1 + count.0) (last + count.0 + 1) entries.0 (omega arith) (run_of_type kind.0 objects imports at count.0 (last + 1) kind.1 entries second.1) in
    let here : BundleRun objects imports last (entries.0, last + count.0) = record { higher = omega arith; low = below; run = run } in
    at_item (λ y _. BundleRun objects imports last y) (entries.0, last + count.0) x entries.1 d second.2 here

run_of_step : (objects imports last : ℕ) (c d : Cursor) (x : List Numbered × ℕ) → bundle_at objects imports last c ≡ Ok (Some x, d) → BundleRun objects imports last x
unfolding bundle_at
run_of_step objects imports last c d x e =
    let first = bind_ok (number 1 c) (after_count objects imports last c.at) (Some x, d) e in
    run_of_count objects imports last c.at (eqb first.0.0 0) first.0 x d first.2

abbrev Runs : ℕ → ℕ → ℕ → Cursor → Many (List Numbered) → Type 0
Runs objects imports last c m = last ≤ MAX_ORDINAL → (d : Cursor) → m.end ≡ Ok d → Run objects imports (last + 1) (MAX_ORDINAL + 1) (flat_map (λ es. es) m.items)

runs : (objects imports : ℕ) → Cases (bundle_at objects imports) (Runs objects imports)
runs objects imports = record {
  none = λ last c d e low end is. tt;
  wrong = λ last c e is low end ok. absurd cc;
  more = λ last c d x m e again low end is.
      let b = run_of_step objects imports last c d x e in
      let higher = b.higher in
      let below = b.low in
      Run-append objects imports (last + 1) (x.1 + 1) (MAX_ORDINAL + 1) x.0 (flat_map (λ es. es) m.items) (omega (arith, higher)) (omega (arith, below)) b.run (again below end is);
}

pub run_of_table : (objects imports : ℕ) (bytes : List ℕ) (es : List Numbered) → entries_in objects imports bytes ≡ Ok es → Run objects imports 1 (MAX_ORDINAL + 1) es
run_of_table objects imports bytes es e =
    let m = many (bundle_at objects imports) 0 (cursor 0 bytes) in
    let first = bind_ok (m.end >>= λ _. Ok m.items) (λ bundles. done (flat_map (λ es. es) bundles)) es e in
    let ok = whole_ends m first.0 first.1 in
    let joined : flat_map (λ es. es) m.items ≡ es = (let a = ap (λ (bs : List (List Numbered)). flat_map (λ es. es) bs) ok.2 in let b = first.2 in let c : flat_map (λ es. es) first.0 ≡ es = cc in a ∙ c) in
    subst (λ (xs : List Numbered). Run objects imports 1 (MAX_ORDINAL + 1) xs) joined
    (many_holds (bundle_at objects imports) (Runs objects imports) (bundle_shortens objects imports) (runs objects imports) 0 (cursor 0 bytes) (omega arith) ok.0 ok.1)

-- ---- what the sound parts say of them

rises : (objects imports low high : ℕ) (es : List Numbered) → Run objects imports low high es → (k : ℕ) (d : Numbered) → k < length es → low ≤ (get_or es k d).0
rises objects imports low high [] run k d lt = absurd (omega arith)
rises objects imports low high (e ∷ es) run zero d lt = run.0
rises objects imports low high (e ∷ es) run (suc k) d lt = let more = rises objects imports (e.0 + 1) high es run.3 k d (omega arith) in omega arith

pub Run-pairs : (objects imports low high : ℕ) (es : List Numbered) → Run objects imports low high es → AllPairs (λ a b. a.0 < b.0) es
Run-pairs objects imports low high [] run i j d lt below = absurd (omega arith)
Run-pairs objects imports low high (e ∷ es) run i zero d lt below = absurd (omega arith)
Run-pairs objects imports low high (e ∷ es) run zero (suc j) d lt below = let more = rises objects imports (e.0 + 1) high es run.3 j d (omega arith) in omega arith
Run-pairs objects imports low high (e ∷ es) run (suc i) (suc j) d lt below = Run-pairs objects imports (e.0 + 1) high es run.3 i j d (omega arith) (omega arith)

each_head : (objects imports low high : ℕ) (es : List Numbered) → Run objects imports low high es → Each (λ e. HeadFits objects imports e.1) es
each_head objects imports low high [] run = tt
each_head objects imports low high (e ∷ es) run = (run.2, each_head objects imports (e.0 + 1) high es run.3)

pub Run-heads : (objects imports low high : ℕ) (es : List Numbered) → Run objects imports low high es → All (λ e. HeadFits objects imports e.1) es
Run-heads objects imports low high es run = All-from_recursion (λ e. HeadFits objects imports e.1) es (each_head objects imports low high es run)
