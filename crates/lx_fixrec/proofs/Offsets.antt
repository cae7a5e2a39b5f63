-- One offset after another.
use Rattle.std.proofs.Common.{◌≡◌, ℕ, suc, ◌+◌, ◌-◌, ◌<◌, List, [], ◌∷◌, Some, None, Result, Ok, Err, refl, sym, ap, subst, ◌∙◌, arith}
use Rattle.std.specs.Prelude.{ℤ, IsErrAnd}
use Rattle.lx_bytes.specs.Cursor.{Cursor}
use Rattle.lx_types.specs.declared.refusal.LxRefusal.{LxRefusal}
use Rattle.lx_types.specs.declared.fix.Source.{Source}
use Rattle.lx_model.specs.Reading.{Read, ◌>>=◌, value_or, fault_of}
use Rattle.lx_model.specs.RecordFields.{offset_at, offsets_at, target_at, additive_at}
use Rattle.lx_model.specs.Sources.{SourceKind}
use Rattle.lx_model.specs.Records.{single_at, fixes_at_offsets}
use Rattle.lx_types.specs.declared.fix.FixTarget.{FixTarget}
use Rattle.lx_fixrec.specs.Sources.{offsets_left, Skips}
use Rattle.lx_fixrec.specs.Reads.{refusal}
use Rattle.lx_fixrec.specs.declared.refusal.RecRefusal.{RecRefusal}

-- what is left of offsets: where it ends, all end, and its fault is that of all
abbrev pub Follows : Read (List ℤ) → Read (List ℤ) → Type 0
Follows (Ok rest) all = (offsets : List ℤ) × (all ≡ Ok (offsets, rest.1))
Follows (Err e) all = all ≡ Err e

pub follows_itself : (all : Read (List ℤ)) → Follows all all
follows_itself (Ok rest) = (rest.0, refl)
follows_itself (Err e) = refl

abbrev put : ℤ → List ℤ × Cursor → Read (List ℤ)
put o rest = Ok (o ∷ rest.0, rest.1)

pub one_more : (n : ℕ) (source : Source) (c d : Cursor) (o : ℤ) → offset_at source c ≡ Ok (o, d) → offsets_at (suc n) source c ≡ (offsets_at n source d >>= put o)
unfolding offsets_at
one_more n source c d o e = ap (λ (r : Read ℤ). r >>= λ offset. offsets_at n source offset.1 >>= put offset.0) e

one_wrong : (n : ℕ) (source : Source) (c : Cursor) (e : LxRefusal) → offset_at source c ≡ Err e → offsets_at (suc n) source c ≡ Err e
unfolding offsets_at
one_wrong n source c e is = ap (λ (r : Read ℤ). r >>= λ offset. offsets_at n source offset.1 >>= put offset.0) is

pub none_left : (source : Source) (c : Cursor) → offsets_at 0 source c ≡ Ok ([], c)
unfolding offsets_at
none_left source c = refl

pub one_left : (source : Source) (c d : Cursor) (o : ℤ) → offset_at source c ≡ Ok (o, d) → offsets_at 1 source c ≡ Ok (o ∷ [], d)
one_left source c d o e = one_more 0 source c d o e ∙ ap (λ (r : Read (List ℤ)). r >>= put o) (none_left source d)

after : (o : ℤ) (rest all : Read (List ℤ)) → Follows (rest >>= put o) all → Follows rest all
after o (Ok rest) all f = f
after o (Err e) all f = f

left_more : (count i : ℕ) → i < count → count - i ≡ suc (count - (i + 1))
left_more count i lt = omega arith

pub follows_more : (count i : ℕ) (source : Source) (c d : Cursor) (o : ℤ) (all : Read (List ℤ)) → i < count → offset_at source c ≡ Ok (o, d) → Follows (offsets_at (count - i) source c) all → Follows (offsets_at (count - (i + 1)) source d) all
follows_more count i source c d o all lt e f =
    let n = count - (i + 1) in
    after o (offsets_at n source d) all (subst (λ (r : Read (List ℤ)). Follows r all) (ap (λ (k : ℕ). offsets_at k source c) (left_more count i lt) ∙ one_more n source c d o e) f)

pub follows_wrong : (count i : ℕ) (source : Source) (c : Cursor) (e : LxRefusal) (all : Read (List ℤ)) → i < count → offset_at source c ≡ Err e → Follows (offsets_at (count - i) source c) all → all ≡ Err e
follows_wrong count i source c e all lt is f =
    subst (λ (r : Read (List ℤ)). Follows r all) (ap (λ (k : ℕ). offsets_at k source c) (left_more count i lt) ∙ one_wrong (count - (i + 1)) source c e is) f

pub follows_none : (count i : ℕ) (source : Source) (c : Cursor) (all : Read (List ℤ)) → count - i ≡ 0 → Follows (offsets_at (count - i) source c) all → (offsets : List ℤ) × (all ≡ Ok (offsets, c))
follows_none count i source c all none f =
    subst (λ (r : Read (List ℤ)). Follows r all) (ap (λ (k : ℕ). offsets_at k source c) none ∙ none_left source c) f

pub follows_start : (count : ℕ) (source : Source) (c : Cursor) → Follows (offsets_at (count - 0) source c) (offsets_at count source c)
follows_start count source c = let same : count ≡ count - 0 = omega arith in subst (λ (n : ℕ). Follows (offsets_at n source c) (offsets_at count source c)) same (follows_itself (offsets_at count source c))

pub skip_said : (answer : Result (Unit {0}) RecRefusal) (read : Cursor → Read (List ℤ)) (old new : Cursor) (r : RecRefusal) → IsErrAnd answer (λ e. e ≡ r) → read old ≡ Err (refusal r) → Skips answer read old new
skip_said (Ok x) read old new r is e = absurd is
skip_said (Err g) read old new r is e = subst (λ (h : RecRefusal). Skips (Err h) read old new) (sym is) e

-- ---- the offsets that are left, one by one

counted : (n : ℕ) → (n ≡ 0 → ⊥) → n ≡ suc (n - 1)
counted n some = omega (arith, some)

some_left : (n : ℕ) (source : Source) (c d : Cursor) (o : ℤ) → (n ≡ 0 → ⊥) → offset_at source c ≡ Ok (o, d) → offsets_at n source c ≡ (offsets_at (n - 1) source d >>= put o)
some_left n source c d o some e = ap (λ (k : ℕ). offsets_at k source c) (counted n some) ∙ one_more (n - 1) source c d o e

record Next (all rest : Read (List ℤ)) (o : ℤ) (c d : Cursor) : Type 0 where
  first : (value_or ([], c) all).0 ≡ o ∷ (value_or ([], d) rest).0
  good : fault_of rest ≡ None

next_of : (rest : Read (List ℤ)) (o : ℤ) (c d : Cursor) → fault_of (rest >>= put o) ≡ None → Next (rest >>= put o) rest o c d
next_of (Ok x) o c d good = record { first = refl; good = refl }
next_of (Err e) o c d good = absurd cc

pub left_next : (n : ℕ) (source : Source) (c d : Cursor) (o : ℤ) → (n ≡ 0 → ⊥) → offset_at source c ≡ Ok (o, d) → fault_of (offsets_at n source c) ≡ None →
    (offsets_left n source c ≡ o ∷ offsets_left (n - 1) source d) × (fault_of (offsets_at (n - 1) source d) ≡ None)
left_next n source c d o some e good =
    let is = some_left n source c d o some e in
    let next = next_of (offsets_at (n - 1) source d) o c d (subst (λ (r : Read (List ℤ)). fault_of r ≡ None) is good) in
    (ap (λ (r : Read (List ℤ)). (value_or ([], c) r).0) is ∙ next.first, next.good)

pub left_wrong : (n : ℕ) (source : Source) (c : Cursor) (e : LxRefusal) → (n ≡ 0 → ⊥) → offset_at source c ≡ Err e → fault_of (offsets_at n source c) ≡ None → ⊥
left_wrong n source c e some is good =
    let wrong : offsets_at n source c ≡ Err e = ap (λ (k : ℕ). offsets_at k source c) (counted n some) ∙ one_wrong (n - 1) source c e is in
    let both : Some e ≡ None = sym (ap fault_of wrong) ∙ good in
    absurd cc

pub nothing_left : (n : ℕ) (source : Source) (c : Cursor) → n ≡ 0 → offsets_left n source c ≡ []
nothing_left n source c none = ap (λ (k : ℕ). offsets_left k source c) none ∙ ap (λ (r : Read (List ℤ)). (value_or ([], c) r).0) (none_left source c)

-- a record of one source has one offset left
pub single_read : (kind : SourceKind) (flags : ℕ) (c d e end start : Cursor) (o : ℤ) (t : FixTarget) (a : ℕ) → start ≡ c → offset_at kind.source c ≡ Ok (o, d) → target_at kind.source flags d ≡ Ok (t, e) → additive_at flags e ≡ Ok (a, end) →
    single_at kind flags c ≡ Ok (fixes_at_offsets kind t a (offsets_left 1 kind.source start), end)
unfolding single_at
single_read kind flags c d e end start o t a at first second third =
    let left : offsets_left 1 kind.source start ≡ o ∷ [] = ap (offsets_left 1 kind.source) at ∙ ap (λ (r : Read (List ℤ)). (value_or ([], c) r).0) (one_left kind.source c d o first) in
    rw (first, second, third, left) refl

pub single_good : (source : Source) (c d start : Cursor) (o : ℤ) → start ≡ c → offset_at source c ≡ Ok (o, d) → fault_of (offsets_at 1 source start) ≡ None
single_good source c d start o at first = ap (λ (x : Cursor). fault_of (offsets_at 1 source x)) at ∙ ap fault_of (one_left source c d o first)
