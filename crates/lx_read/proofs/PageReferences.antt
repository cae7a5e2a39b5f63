-- The records of all pages, page by page.
use Rattle.std.proofs.Common.{◌≡◌, ℕ, suc, ◌+◌, ◌-◌, ◌<◌, ◌≤◌, Bool, true, false, cond, List, [], ◌∷◌, ◌++◌, length, map, get_or, Option, Some, None, Result, Ok, Err, refl, sym, subst, ap, ◌∙◌, append_assoc, append-nil, arith}
use Rattle.std.specs.Prelude.{All, filter}
use Rattle.std.specs.List.{flat_map, range_with_len}
use Rattle.std.proofs.lemmas.List.FromFn.{length-map-range_with_len, get_or-map-range_with_len}
use Rattle.lx_types.specs.declared.fail.Fail.{Fail}
use Rattle.lx_types.specs.declared.fail.Fail.TheVariants.{Said, NoMemory}
use Rattle.lx_types.specs.declared.fix.Fix.{Fix}
use Rattle.lx_types.specs.declared.fix.FixTarget.{FixTarget}
use Rattle.lx_types.specs.declared.refusal.LxRefusal.{LxRefusal}
use Rattle.lx_types.specs.declared.refusal.LxKind.TheVariants.{BadTarget}
use Rattle.lx_types.specs.Parts.{span}
use Rattle.lx_model.specs.Reading.{fault, first, first_of, ◌then◌, fault_of}
use Rattle.lx_model.specs.Header.{page_count}
use Rattle.lx_model.specs.FixupPages.{records_span, spans_of, spans_fault}
use Rattle.lx_model.specs.Records.{Record, records_at, fixes_of}
use Rattle.lx_model.specs.Module.{Targets, targets_in, is_target, target_fault, records_fault, page_records, page_records_fault, targets_of, is_reference, once, refs_of}
use Rattle.lx_model.proofs.Once.{among, once_more}
use Rattle.lx_model.proofs.Soundness.{spans_fit}
use Rattle.lx_fixrec.specs.Left.{Placed, sources_of, left_in}
use Rattle.lx_types.specs.Answers.{if_said}
use Rattle.lx_model.specs.Judging.{Judges}
use Rattle.lx_read.specs.References.{with_target, with_targets, source_fault, left_fault, left_targets, AddsPage}

-- ---- a page's sources are those of its records

then_first : (x : Option LxRefusal) (xs : List (Option LxRefusal)) → first (x ∷ xs) ≡ (x then first xs)
then_first (Some e) xs = refl
then_first None xs = refl

abbrev fix_fault : Targets → ℕ → Fix → Option LxRefusal
fix_fault within at f = cond (is_target within f.target) None (Some (fault BadTarget at))

sources_judged : (within : Targets) (at : ℕ) (fs : List Fix) (rest : List Placed) → first (map (source_fault within) (map (λ f. (at, f)) fs ++ rest)) ≡ (first (map (fix_fault within at) fs) then first (map (source_fault within) rest))
sources_judged within at [] rest = refl
sources_judged within at (f ∷ fs) rest = by_test (is_target within f.target) (sources_judged within at fs rest)
  where
    by_test : (good : Bool) → first (map (source_fault within) (map (λ g. (at, g)) fs ++ rest)) ≡ (first (map (fix_fault within at) fs) then first (map (source_fault within) rest)) →
        first (cond good None (Some (fault BadTarget at)) ∷ map (source_fault within) (map (λ g. (at, g)) fs ++ rest)) ≡ (first (cond good None (Some (fault BadTarget at)) ∷ map (fix_fault within at) fs) then first (map (source_fault within) rest))
    by_test true e = e
    by_test false e = refl

records_judged : (within : Targets) (rs : List Record) → first (map (source_fault within) (flat_map sources_of rs)) ≡ first (map (target_fault within) rs)
records_judged within [] = refl
records_judged within (r ∷ rs) =
    sources_judged within r.at r.fixes (flat_map sources_of rs)
    ∙ ap (λ (x : Option LxRefusal). target_fault within r then x) (records_judged within rs)
    ∙ sym (then_first (target_fault within r) (map (target_fault within) rs))

pub left_judged : (within : Targets) (at : ℕ) (bytes : List ℕ) → left_fault within (left_in at bytes) ≡ records_fault within (records_at at bytes)
left_judged within at bytes = ap (λ (x : Option LxRefusal). x then fault_of (records_at at bytes).end) (records_judged within (records_at at bytes).items)

sources_named : (at : ℕ) (fs : List Fix) (rest : List Placed) → map (λ s. s.1.target) (map (λ f. (at, f)) fs ++ rest) ≡ map (λ f. f.target) fs ++ map (λ s. s.1.target) rest
sources_named at [] rest = refl
sources_named at (f ∷ fs) rest = ap (λ (ts : List FixTarget). f.target ∷ ts) (sources_named at fs rest)

named_apart : (fs gs : List Fix) → map (λ f. f.target) (fs ++ gs) ≡ map (λ f. f.target) fs ++ map (λ f. f.target) gs
named_apart [] gs = refl
named_apart (f ∷ fs) gs = ap (λ (ts : List FixTarget). f.target ∷ ts) (named_apart fs gs)

records_named : (rs : List Record) → map (λ s. s.1.target) (flat_map sources_of rs) ≡ map (λ f. f.target) (flat_map (λ r. r.fixes) rs)
records_named [] = refl
records_named (r ∷ rs) =
    sources_named r.at r.fixes (flat_map sources_of rs)
    ∙ ap (λ (ts : List FixTarget). map (λ f. f.target) r.fixes ++ ts) (records_named rs)
    ∙ sym (named_apart r.fixes (flat_map (λ x. x.fixes) rs))

pub left_named : (at : ℕ) (bytes : List ℕ) → left_targets (left_in at bytes) ≡ map (λ f. f.target) (fixes_of (records_at at bytes))
left_named at bytes = records_named (records_at at bytes).items

-- ---- references are listed as they first appear

with_one : (ts : List FixTarget) (t : FixTarget) (is : Bool) → is_reference t ≡ is → with_target (once (filter is_reference ts)) t ≡ once (filter is_reference (ts ++ t ∷ []))
with_one ts t true is = listed (among t (once (filter is_reference ts))) refl
  where
    kept : (us : List FixTarget) → filter is_reference (us ++ t ∷ []) ≡ filter is_reference us ++ t ∷ []
    kept [] = rw is refl
    kept (u ∷ us) = by_test (is_reference u) (kept us)
      where
        by_test : (b : Bool) → filter is_reference (us ++ t ∷ []) ≡ filter is_reference us ++ t ∷ [] → cond b (u ∷ filter is_reference (us ++ t ∷ [])) (filter is_reference (us ++ t ∷ [])) ≡ cond b (u ∷ filter is_reference us) (filter is_reference us) ++ t ∷ []
        by_test true e = ap (λ (xs : List FixTarget). u ∷ xs) e
        by_test false e = e

    listed : (there : Bool) → among t (once (filter is_reference ts)) ≡ there → with_target (once (filter is_reference ts)) t ≡ once (filter is_reference (ts ++ t ∷ []))
    listed true there = rw (is, there) (sym (ap once (kept ts) ∙ once_more (filter is_reference ts) t ∙ rw there refl))
    listed false there = rw (is, there) (sym (ap once (kept ts) ∙ once_more (filter is_reference ts) t ∙ rw there refl))
with_one ts t false is = rw is (ap once (sym (dropped ts)))
  where
    dropped : (us : List FixTarget) → filter is_reference (us ++ t ∷ []) ≡ filter is_reference us
    dropped [] = rw is refl
    dropped (u ∷ us) = by_test (is_reference u) (dropped us)
      where
        by_test : (b : Bool) → filter is_reference (us ++ t ∷ []) ≡ filter is_reference us → cond b (u ∷ filter is_reference (us ++ t ∷ [])) (filter is_reference (us ++ t ∷ [])) ≡ cond b (u ∷ filter is_reference us) (filter is_reference us)
        by_test true e = ap (λ (xs : List FixTarget). u ∷ xs) e
        by_test false e = e

with_all : (ts us : List FixTarget) → with_targets (once (filter is_reference ts)) us ≡ once (filter is_reference (ts ++ us))
with_all ts [] = ap (λ (xs : List FixTarget). once (filter is_reference xs)) (sym (append-nil ts))
with_all ts (u ∷ us) =
    ap (λ (xs : List FixTarget). with_targets xs us) (with_one ts u (is_reference u) refl)
    ∙ with_all (ts ++ u ∷ []) us
    ∙ ap (λ (xs : List FixTarget). once (filter is_reference xs)) (append_assoc ts (u ∷ []) us)

pub references_are : (file : List ℕ) → with_targets [] (targets_of file) ≡ refs_of file
unfolding refs_of
references_are file = with_all [] (targets_of file)

added_apart : (xs ts us : List FixTarget) → with_targets xs (ts ++ us) ≡ with_targets (with_targets xs ts) us
added_apart xs [] us = refl
added_apart xs (t ∷ ts) us = added_apart (with_target xs t) ts us

-- ---- page by page

abbrev pub page_targets : List ℕ → ℕ → List FixTarget
page_targets file k = map (λ f. f.target) (fixes_of (page_records file k))

-- the pages that are left say what is wrong with all, and their targets with those so far are all of them
pub record PagesKept (file : List ℕ) (k : ℕ) (now : List FixTarget) : Type 0 where
  pub faults : first (map (page_records_fault file) (range_with_len k (page_count file - k))) ≡ first_of (page_count file) (page_records_fault file)
  pub listed : with_targets now (flat_map (page_targets file) (range_with_len k (page_count file - k))) ≡ with_targets [] (targets_of file)

pub page_added : (file : List ℕ) (k : ℕ) (now after : List FixTarget) → k < page_count file → page_records_fault file k ≡ None → after ≡ with_targets now (page_targets file k) → PagesKept file k now → PagesKept file (k + 1) after
page_added file k now after lt none added kept =
    let m = page_count file - (k + 1) in
    let left : page_count file - k ≡ suc m = omega arith in
    let rest = flat_map (page_targets file) (range_with_len (k + 1) m) in
    record {
      faults = sym (ap (λ (i : ℕ). first (map (page_records_fault file) (range_with_len k i))) left ∙ ap (λ (x : Option LxRefusal). first (x ∷ map (page_records_fault file) (range_with_len (k + 1) m))) none) ∙ kept.faults;
      listed = ap (λ (xs : List FixTarget). with_targets xs rest) added ∙ sym (added_apart now (page_targets file k) rest) ∙ sym (ap (λ (i : ℕ). with_targets now (flat_map (page_targets file) (range_with_len k i))) left) ∙ kept.listed;
    }

pub page_wrong : (file : List ℕ) (k : ℕ) (now : List FixTarget) (e : LxRefusal) → k < page_count file → page_records_fault file k ≡ Some e → PagesKept file k now → first_of (page_count file) (page_records_fault file) ≡ Some e
page_wrong file k now e lt wrong kept =
    let m = page_count file - (k + 1) in
    let left : page_count file - k ≡ suc m = omega arith in
    sym kept.faults ∙ ap (λ (i : ℕ). first (map (page_records_fault file) (range_with_len k i))) left ∙ ap (λ (x : Option LxRefusal). first (x ∷ map (page_records_fault file) (range_with_len (k + 1) m))) wrong

pub pages_end : (file : List ℕ) (k : ℕ) (now : List FixTarget) → page_count file ≤ k → PagesKept file k now → (first_of (page_count file) (page_records_fault file) ≡ None) × (now ≡ refs_of file)
pages_end file k now ended kept =
    let none : page_count file - k ≡ 0 = omega arith in (
      sym kept.faults ∙ ap (λ (i : ℕ). first (map (page_records_fault file) (range_with_len k i))) none,
      sym (ap (λ (i : ℕ). with_targets now (flat_map (page_targets file) (range_with_len k i))) none) ∙ kept.listed ∙ references_are file,
    )

-- ---- the spans

pub span_count : (file : List ℕ) (spans : List (ℕ × ℕ)) → spans ≡ spans_of file → length spans ≡ page_count file
unfolding spans_of
span_count file spans are = ap (λ (xs : List (ℕ × ℕ)). length xs) are ∙ length-map-range_with_len (records_span file) 0 (page_count file)

pub span_is : (file : List ℕ) (spans : List (ℕ × ℕ)) (k : ℕ) (d : ℕ × ℕ) → spans ≡ spans_of file → k < page_count file → get_or spans k d ≡ records_span file k
unfolding spans_of
span_is file spans k d are lt = ap (λ (xs : List (ℕ × ℕ)). get_or xs k d) are ∙ get_or-map-range_with_len (records_span file) 0 (page_count file) k k d lt (omega arith)

pub span_fits : (file : List ℕ) (spans : List (ℕ × ℕ)) (k : ℕ) (d : ℕ × ℕ) → spans ≡ spans_of file → spans_fault file ≡ None → k < length spans → ((get_or spans k d).0 ≤ (get_or spans k d).1) × ((get_or spans k d).1 ≤ length file)
span_fits file spans k d are good lt = subst (λ (xs : List (ℕ × ℕ)). All (λ s. (s.0 ≤ s.1) × (s.1 ≤ length file)) xs) (sym are) (spans_fit file good) k d lt

-- ---- what adding a page says

page_adds : (file : List ℕ) (k : ℕ) (within : Targets) (place : ℕ × ℕ) (old new : List FixTarget) (answer : Result (Unit {0}) (Fail LxRefusal)) → within ≡ targets_in file → place ≡ records_span file k →
    AddsPage answer within (left_in place.0 (span file place.0 place.1)) old new → let s = records_span file k in AddsPage answer (targets_in file) (left_in s.0 (span file s.0 s.1)) old new
page_adds file k within place old new answer targets is adds =
    let s = records_span file k in
    subst (λ (w : Targets). AddsPage answer w (left_in s.0 (span file s.0 s.1)) old new) targets (subst (λ (p : ℕ × ℕ). AddsPage answer within (left_in p.0 (span file p.0 p.1)) old new) is adds)

pub page_good : (file : List ℕ) (k : ℕ) (within : Targets) (place : ℕ × ℕ) (old new : List FixTarget) (done : Unit {0}) → within ≡ targets_in file → place ≡ records_span file k → k < page_count file →
    AddsPage (Ok done) within (left_in place.0 (span file place.0 place.1)) old new → PagesKept file k old → PagesKept file (k + 1) new
page_good file k within place old new done targets is lt adds kept =
    let s = records_span file k in
    let added = page_adds file k within place old new (Ok done) targets is adds in
    page_added file k old new lt
    (sym (left_judged (targets_in file) s.0 (span file s.0 s.1)) ∙ added.0)
    (added.1 ∙ ap (λ (ts : List FixTarget). with_targets old ts) (left_named s.0 (span file s.0 s.1))) kept

pub page_bad : (file : List ℕ) (k : ℕ) (within : Targets) (place : ℕ × ℕ) (old new : List FixTarget) (f : Fail LxRefusal) (value : List FixTarget) → within ≡ targets_in file → place ≡ records_span file k → k < page_count file →
    AddsPage (Err f) within (left_in place.0 (span file place.0 place.1)) old new → PagesKept file k old → Judges if_said (Err f) value (first_of (page_count file) (page_records_fault file))
page_bad file k within place old new NoMemory value targets is lt adds kept = tt
page_bad file k within place old new (Said e) value targets is lt adds kept =
    let s = records_span file k in
    let added = page_adds file k within place old new (Err (Said e)) targets is adds in
    page_wrong file k old e lt (sym (left_judged (targets_in file) s.0 (span file s.0 s.1)) ∙ added) kept
