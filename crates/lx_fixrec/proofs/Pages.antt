-- The records of a page, one source after another.
use Rattle.std.proofs.Common.{◌≡◌, ℕ, ◌+◌, ◌<◌, false, pos, List, [], ◌∷◌, ◌++◌, length, take, drop, get_or, sym, subst, ap, ◌∙◌, append_assoc}
use Rattle.std.specs.Prelude.{All}
use Rattle.std.specs.List.{flat_map}
use Rattle.std.proofs.lemmas.List.{drop_more, take_more}
use Rattle.std.proofs.lemmas.List.Elements.{All-from_recursion}
use Rattle.lx_types.specs.declared.fix.Fix.{Fix}
use Rattle.lx_types.specs.declared.fix.Source.TheVariants.{Byte}
use Rattle.lx_types.specs.declared.fix.FixTarget.TheVariants.{Internal}
use Rattle.lx_model.specs.RecordSpelling.{record_spelling}
use Rattle.lx_model.specs.JoinedRecords.{by_offset, listed_after, records_for}
use Rattle.lx_fixrec.specs.Writable.{IsWritable}
use Rattle.lx_fixrec.specs.Writes.{spelled, begun_by}
use Rattle.lx_fixrec.proofs.Grouping.{spelled_more}
use Rattle.lx_fixrec.proofs.Sorting.{each_ordered, to_each}

abbrev pub no_fix : Fix
no_fix = record { source = Byte; alias = false; offset = pos 0; target = Internal 0 0; additive = 0 }

-- the records of the sources that are left are the one that the first of them begins, and those of the others
one_source : (s : List Fix) (i : ℕ) → i < length s → spelled (listed_after (take i s) (drop i s)) ≡ begun_by (take i s) (drop i s) ++ spelled (listed_after (take (i + 1) s) (drop (i + 1) s))
one_source s i lt =
    let f = get_or s i no_fix in
    let front : drop i s ≡ f ∷ drop (i + 1) s = drop_more s i no_fix lt in
    ap (λ (fs : List Fix). spelled (listed_after (take i s) fs)) front
    ∙ spelled_more (take i s) f (drop (i + 1) s)
    ∙ ap (λ (fs : List Fix). begun_by (take i s) fs ++ spelled (listed_after (take i s ++ f ∷ []) (drop (i + 1) s))) (sym front)
    ∙ ap (λ (fs : List Fix). begun_by (take i s) (drop i s) ++ spelled (listed_after fs (drop (i + 1) s))) (sym (take_more s i no_fix lt))

pub source_more : (s : List Fix) (i : ℕ) (out pushed whole : List ℕ) → i < length s → out ++ spelled (listed_after (take i s) (drop i s)) ≡ whole →
    pushed ≡ out ++ begun_by (take i s) (drop i s) → pushed ++ spelled (listed_after (take (i + 1) s) (drop (i + 1) s)) ≡ whole
source_more s i out pushed whole lt before add =
    let rest = spelled (listed_after (take (i + 1) s) (drop (i + 1) s)) in
    ap (λ (bytes : List ℕ). bytes ++ rest) add
    ∙ append_assoc out (begun_by (take i s) (drop i s)) rest
    ∙ ap (λ (bytes : List ℕ). out ++ bytes) (sym (one_source s i lt))
    ∙ before

pub ordered_writable : (fs s : List Fix) → s ≡ by_offset fs → All IsWritable fs → All IsWritable s
ordered_writable fs s is all = subst (All IsWritable) (sym is) (All-from_recursion IsWritable (by_offset fs) (each_ordered IsWritable fs (to_each IsWritable fs all)))

pub page_is : (fs s : List Fix) (bytes : List ℕ) → s ≡ by_offset fs → bytes ≡ spelled (listed_after [] s) → bytes ≡ flat_map record_spelling (records_for fs)
unfolding records_for
page_is fs s bytes is written = written ∙ ap (λ (gs : List Fix). spelled (listed_after [] gs)) is
