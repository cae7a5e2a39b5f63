-- One entry of a bundle after another.
use Rattle.std.proofs.Common.{◌≡◌, ℕ, suc, ◌+◌, ◌-◌, ◌<◌, List, [], ◌∷◌, ◌++◌, Ok, Err, refl, sym, subst, ap, ◌∙◌, append_assoc, append-nil, arith}
use Rattle.lx_bytes.specs.Cursor.{Cursor}
use Rattle.lx_types.specs.declared.refusal.LxRefusal.{LxRefusal}
use Rattle.lx_types.specs.declared.entry.EntryHead.{EntryHead}
use Rattle.lx_model.specs.EntryTable.{Numbered, bundle_entries}
use Rattle.lx_model.specs.Reading.{Read, ◌>>=◌}
use Rattle.lx_entry.specs.Bundles.{onto}

onto_more : (before : List Numbered) (x : Numbered) (rest : Read (List Numbered)) → onto (before ++ x ∷ []) rest ≡ onto before (rest >>= λ others. Ok (x ∷ others.0, others.1))
onto_more before x (Ok others) = ap (λ (es : List Numbered). Ok (es, others.1)) (append_assoc before (x ∷ []) others.0)
onto_more before x (Err e) = refl

pub onto_wrong : (before : List Numbered) (read : Read (List Numbered)) (e : LxRefusal) → onto before read ≡ Err e → read ≡ Err e
onto_wrong before (Ok x) e is = absurd cc
onto_wrong before (Err f) e is = cc

step : (n ordinal : ℕ) (read : Cursor → Read EntryHead) (c d : Cursor) (head : EntryHead) → read c ≡ Ok (head, d) →
    bundle_entries (suc n) ordinal read c ≡ (bundle_entries n (ordinal + 1) read d >>= λ others. Ok ((ordinal, head) ∷ others.0, others.1))
unfolding bundle_entries
step n ordinal read c d head e = rw e refl

step_wrong : (n ordinal : ℕ) (read : Cursor → Read EntryHead) (c : Cursor) (e : LxRefusal) → read c ≡ Err e → bundle_entries (suc n) ordinal read c ≡ Err e
unfolding bundle_entries
step_wrong n ordinal read c e is = rw is refl

step_none : (ordinal : ℕ) (read : Cursor → Read EntryHead) (c : Cursor) → bundle_entries 0 ordinal read c ≡ Ok ([], c)
unfolding bundle_entries
step_none ordinal read c = refl

pub left_more : (count i : ℕ) → i < count → count - i ≡ suc (count - (i + 1))
left_more count i lt = omega arith

pub one_more : (count i ordinal : ℕ) (read : Cursor → Read EntryHead) (c d : Cursor) (head : EntryHead) (before : List Numbered) (all : Read (List Numbered)) → i < count → read c ≡ Ok (head, d) →
    onto before (bundle_entries (count - i) (ordinal + i) read c) ≡ all → onto (before ++ (ordinal + i, head) ∷ []) (bundle_entries (count - (i + 1)) (ordinal + (i + 1)) read d) ≡ all
one_more count i ordinal read c d head before all lt e kept =
    let n = count - (i + 1) in
    let next : ordinal + i + 1 ≡ ordinal + (i + 1) = omega arith in
    let rest = bundle_entries n (ordinal + (i + 1)) read d in
    let here : onto before (bundle_entries (suc n) (ordinal + i) read c) ≡ all = subst (λ (k : ℕ). onto before (bundle_entries k (ordinal + i) read c) ≡ all) (left_more count i lt) kept in
    let split : bundle_entries (suc n) (ordinal + i) read c ≡ (rest >>= λ others. Ok ((ordinal + i, head) ∷ others.0, others.1))
    = subst (λ (k : ℕ). bundle_entries (suc n) (ordinal + i) read c ≡ (bundle_entries n k read d >>= λ others. Ok ((ordinal + i, head) ∷ others.0, others.1))) next (step n (ordinal + i) read c d head e) in
    onto_more before (ordinal + i, head) rest ∙ ap (onto before) (sym split) ∙ here

pub wrong : (count i ordinal : ℕ) (read : Cursor → Read EntryHead) (c : Cursor) (e : LxRefusal) (before : List Numbered) (all : Read (List Numbered)) → i < count → read c ≡ Err e →
    onto before (bundle_entries (count - i) (ordinal + i) read c) ≡ all → all ≡ Err e
wrong count i ordinal read c e before all lt is kept =
    let n = count - (i + 1) in
    let here : onto before (bundle_entries (suc n) (ordinal + i) read c) ≡ all = subst (λ (k : ℕ). onto before (bundle_entries k (ordinal + i) read c) ≡ all) (left_more count i lt) kept in
    sym here ∙ ap (onto before) (step_wrong n (ordinal + i) read c e is)

pub all_read : (count i ordinal : ℕ) (read : Cursor → Read EntryHead) (c : Cursor) (before : List Numbered) (all : Read (List Numbered)) → count - i ≡ 0 →
    onto before (bundle_entries (count - i) (ordinal + i) read c) ≡ all → all ≡ Ok (before, c)
all_read count i ordinal read c before all none kept =
    let here : onto before (bundle_entries 0 (ordinal + i) read c) ≡ all = subst (λ (k : ℕ). onto before (bundle_entries k (ordinal + i) read c) ≡ all) none kept in
    sym here ∙ ap (onto before) (step_none (ordinal + i) read c) ∙ ap (λ (es : List Numbered). Ok (es, c)) (append-nil before)
