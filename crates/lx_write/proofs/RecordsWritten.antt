-- The records of an image have spellings.
use Rattle.std.proofs.Common.{◌≡◌, ℕ, ◌+◌, ◌^◌, ◌<◌, List, [], ◌∷◌, length, map, refl, sym, subst, ap, ◌∙◌, length-append, arith}
use Rattle.std.specs.Prelude.{All, sum_by, slice_index_or}
use Rattle.std.specs.List.{flat_map, AllByRecursion}
use Rattle.std.proofs.lemmas.List.Elements.{All-map, All-nil, All-append, All-tail, All-head}
use Rattle.std.proofs.lemmas.List.Concat.{flat_map-cons}
use Rattle.std.proofs.lemmas.List.Sums.{sum_by-cons, sum_by-take-le}
use Rattle.lx_types.specs.declared.fix.Fix.{Fix}
use Rattle.lx_types.specs.declared.fix.FixTarget.{FixTarget}
use Rattle.lx_types.specs.declared.fix.FixTarget.TheVariants.{Internal, Ordinal, Named, Own}
use Rattle.lx_types.specs.declared.fix.Source.{Source}
use Rattle.link_model.specs.ImportTables.{name_bytes, name_table, name_offset, with_offset}
use Rattle.lx_model.specs.RecordSpelling.{RecordFits}
use Rattle.lx_model.specs.JoinedRecords.{records_for}
use Rattle.lx_fixrec.specs.Writable.{IsWritable, NumbersFit, MayBeWritten}
use Rattle.lx_fixrec.proofs.RecordsFit.{records_fit}
use Rattle.lx_write.specs.declared.image.Image.{Image}
use Rattle.lx_write.specs.Value.{fix_in_file, page_fixes, image_value}
use Rattle.lx_write.specs.WrittenLaws.{WrittenRecordsFit}

-- ---- offsets of names

abbrev len : List ℕ → ℕ
len name = 1 + length name

names_long : (names : List (List ℕ)) → length (flat_map name_bytes names) ≡ sum_by len names
names_long [] = refl
names_long (n ∷ names) =
    let first : length (name_bytes n) ≡ 1 + length n = omega arith in
    let rest = names_long names in
    ap length (flat_map-cons name_bytes n names) ∙ length-append (name_bytes n) (flat_map name_bytes names) ∙ (omega (arith, first, rest)) ∙ sym (sum_by-cons len n names)

offset_small : (names : List (List ℕ)) (k : ℕ) → length (name_table names) < 2 ^ 32 → name_offset names k < 2 ^ 32
offset_small names k short =
    let long = names_long names in
    let part = sum_by-take-le len names k in
    omega (arith, long, part, short)

-- ---- fixups

numbers_fit : (names : List (List ℕ)) (source : Source) (t : FixTarget) → length (name_table names) < 2 ^ 32 → NumbersFit source t → NumbersFit source (with_offset names t)
numbers_fit names source (Internal object offset) short fit = fit
numbers_fit names source (Ordinal import ordinal) short fit = fit
numbers_fit names source (Named import k) short fit = (fit.0, offset_small names k short)
numbers_fit names source (Own ordinal) short fit = fit

writable : (m : Image) (f : Fix) → length (name_table m.procs) < 2 ^ 32 → IsWritable f → IsWritable (fix_in_file m f)
writable m f short w = record {
  source = w.source;
  alias = w.alias;
  target = numbers_fit m.procs f.source f.target short w.target;
  additive = w.additive;
}

-- ---- pages

page_fits : (m : Image) (page : List Fix) → length (name_table m.procs) < 2 ^ 32 → MayBeWritten page → AllByRecursion RecordFits (records_for (map (fix_in_file m) page))
page_fits m page short may =
    records_fit (map (fix_in_file m) page)
    (All-map IsWritable (fix_in_file m) page (λ k d there. writable m (slice_index_or page k d) short (may.each k d there)))

pages_fit : (m : Image) (pages : List (List Fix)) → length (name_table m.procs) < 2 ^ 32 → All MayBeWritten pages → AllByRecursion (AllByRecursion RecordFits) (map records_for (map (map (fix_in_file m)) pages))
pages_fit m [] short may = tt
pages_fit m (page ∷ pages) short may =
    (page_fits m page short (All-head MayBeWritten page pages may), pages_fit m pages short (All-tail MayBeWritten page pages may))

all_joined : {A : Type 0} (P : A → Type 0) (xs : List (List A)) → All (All P) xs → All P (flat_map (λ ys. ys) xs)
all_joined P [] each = All-nil P
all_joined P (x ∷ xs) each =
    subst (All P) (sym (flat_map-cons (λ ys. ys) x xs)) (All-append P x (flat_map (λ ys. ys) xs) (All-head (All P) x xs each) (all_joined P xs (All-tail (All P) x xs each)))

pub written_records_fit : WrittenRecordsFit
unfolding image_value page_fixes
written_records_fit m can short = pages_fit m (flat_map (λ pages. pages) m.fixes) short (all_joined MayBeWritten m.fixes can.fixes)
