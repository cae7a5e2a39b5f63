-- Records that are added, page by page.
use Rattle.std.proofs.Common.{◌≡◌, ℕ, suc, ◌+◌, ◌<◌, ◌≤◌, List, [], ◌∷◌, ◌++◌, length, map, drop, refl, sym, ap, ◌∙◌, append-nil, append_assoc, length-append, get_or, drop-cons, arith}
use Rattle.std.specs.List.{flat_map}
use Rattle.std.proofs.lemmas.List.{drop_all, map-append}
use Rattle.std.proofs.lemmas.List.Concat.{flat_map-cons}
use Rattle.lx_bytes.specs.LittleEndian.{little_bytes}
use Rattle.lx_types.specs.declared.fix.Fix.{Fix}
use Rattle.lx_model.specs.RecordSpelling.{Written}
use Rattle.lx_model.specs.JoinedRecords.{records_for}
use Rattle.lx_model.specs.TableSpelling.{doublewords}
use Rattle.image_model.specs.PageTables.{page_records, record_offsets_from}
use Rattle.lx_write.specs.Offsets.{fix_at}
use Rattle.lx_write.specs.Growing.{with_records}
use Rattle.lx_write.specs.declared.records.Records.{Records}

pub page_added : (p q : Records) (page : List Written) (others : List (List Written)) →
    (q.spans.items ≡ p.spans.items ++ little_bytes 4 (length p.records.items)) × (q.records.items ≡ p.records.items ++ page_records page) →
    with_records q others ≡ with_records p (page ∷ others)
page_added p q page others is =
    let at = length p.records.items in
    let spans : q.spans.items ++ doublewords (record_offsets_from (length q.records.items) others) ≡ p.spans.items ++ doublewords (record_offsets_from at (page ∷ others)) =
    ap (λ ss. ss ++ doublewords (record_offsets_from (length q.records.items) others)) is.0
    ∙ append_assoc p.spans.items (little_bytes 4 at) (doublewords (record_offsets_from (length q.records.items) others))
    ∙ ap (λ (n : ℕ). p.spans.items ++ (little_bytes 4 at ++ doublewords (record_offsets_from n others))) (ap length is.1 ∙ length-append p.records.items (page_records page))
    ∙ ap (λ ss. p.spans.items ++ ss) (sym (flat_map-cons (little_bytes 4) at (record_offsets_from (at + length (page_records page)) others))) in
    let records : q.records.items ++ flat_map page_records others ≡ p.records.items ++ flat_map page_records (page ∷ others) =
    ap (λ bs. bs ++ flat_map page_records others) is.1 ∙ append_assoc p.records.items (page_records page) (flat_map page_records others)
    ∙ ap (λ bs. p.records.items ++ bs) (sym (flat_map-cons page_records page others)) in
    rw (spans, records) refl

-- ---- the pages of an object

-- the records of pages with these fixups
abbrev pub records_with : List ℕ → List (List Fix) → List (List Written)
records_with offsets pages = map records_for (map (map (fix_at offsets)) pages)

-- what is left of an object's pages
abbrev pub Left : Records → Records → List ℕ → List (List Fix) → List (List Fix) → Type 0
Left first now offsets left whole = (others : List (List Written)) → with_records now (records_with offsets left ++ others) ≡ with_records first (records_with offsets whole ++ others)

one_after : {A : Type 0} (xs : List A) (i : ℕ) (x d : A) → i < length xs → x ≡ get_or xs i d → drop i xs ≡ x ∷ drop (i + 1) xs
one_after xs i x d there is = drop-cons xs i d there ∙ ap (λ y. y ∷ drop (suc i) xs) (sym is) ∙ ap (λ (k : ℕ). x ∷ drop k xs) (let e : suc i ≡ i + 1 = omega arith in e)

pub pages_step : (first p q : Records) (offsets : List ℕ) (pages : List (List Fix)) (i : ℕ) (page d : List Fix) → i < length pages → page ≡ get_or pages i d →
    (q.spans.items ≡ p.spans.items ++ little_bytes 4 (length p.records.items)) × (q.records.items ≡ p.records.items ++ page_records (records_for (map (fix_at offsets) page))) →
    Left first p offsets (drop i pages) pages → Left first q offsets (drop (i + 1) pages) pages
pages_step first p q offsets pages i page d there is added left others =
    page_added p q (records_for (map (fix_at offsets) page)) (records_with offsets (drop (i + 1) pages) ++ others) added
    ∙ ap (λ ps. with_records p (records_with offsets ps ++ others)) (sym (one_after pages i page d there is))
    ∙ left others

pub pages_ended : (first p : Records) (offsets : List ℕ) (pages : List (List Fix)) (i : ℕ) → length pages ≤ i → Left first p offsets (drop i pages) pages →
    (others : List (List Written)) → with_records p others ≡ with_records first (records_with offsets pages ++ others)
pages_ended first p offsets pages i end left others = ap (λ ps. with_records p (records_with offsets ps ++ others)) (sym (drop_all i pages end)) ∙ left others

-- ---- the pages of objects

abbrev pub all_records : List ℕ → List (List (List Fix)) → List (List Written)
all_records offsets objects = records_with offsets (flat_map (λ pages. pages) objects)

pub objects_step : (p q : Records) (offsets : List ℕ) (objects : List (List (List Fix))) (i : ℕ) (pages d : List (List Fix)) (whole : List ℕ × List ℕ) → i < length objects → pages ≡ get_or objects i d →
    ((others : List (List Written)) → with_records q others ≡ with_records p (records_with offsets pages ++ others)) → with_records p (all_records offsets (drop i objects)) ≡ whole →
    with_records q (all_records offsets (drop (i + 1) objects)) ≡ whole
objects_step p q offsets objects i pages d whole there is added left =
    let rest = drop (i + 1) objects in
    let each = map (fix_at offsets) in
    let joined : all_records offsets (pages ∷ rest) ≡ records_with offsets pages ++ all_records offsets rest =
    ap (records_with offsets) (flat_map-cons (λ (ps : List (List Fix)). ps) pages rest)
    ∙ ap (map records_for) (map-append each pages (flat_map (λ ps. ps) rest))
    ∙ map-append records_for (map each pages) (map each (flat_map (λ ps. ps) rest)) in
    added (all_records offsets rest) ∙ ap (with_records p) (sym (ap (all_records offsets) (one_after objects i pages d there is) ∙ joined)) ∙ left

-- Nothing is left of the objects: what is marked is where the last records end.
pub objects_ended : (p q first : Records) (offsets : List ℕ) (objects : List (List (List Fix))) (i : ℕ) → length objects ≤ i → first.spans.items ≡ [] → first.records.items ≡ [] →
    (q.spans.items ≡ p.spans.items ++ little_bytes 4 (length p.records.items)) × (q.records ≡ p.records) →
    with_records p (all_records offsets (drop i objects)) ≡ with_records first (all_records offsets objects) →
    (q.spans.items ≡ doublewords (record_offsets_from 0 (all_records offsets objects))) × (q.records.items ≡ flat_map page_records (all_records offsets objects))
objects_ended p q first offsets objects i end no_spans no_records marked left =
    let all = all_records offsets objects in
    let whole : with_records p [] ≡ with_records first all = ap (λ os. with_records p (all_records offsets os)) (sym (drop_all i objects end)) ∙ left in
    let last : doublewords (length p.records.items ∷ []) ≡ little_bytes 4 (length p.records.items) = flat_map-cons (little_bytes 4) (length p.records.items) [] ∙ append-nil (little_bytes 4 (length p.records.items)) in (
      marked.0 ∙ ap (λ bs. p.spans.items ++ bs) (sym last) ∙ ap (λ t. t.0) whole ∙ ap (λ ss. ss ++ doublewords (record_offsets_from (length first.records.items) all)) no_spans ∙ ap (λ (bs : List ℕ). doublewords (record_offsets_from (length bs) all)) no_records,
      ap (λ v. v.items) marked.1 ∙ sym (append-nil p.records.items) ∙ ap (λ t. t.1) whole ∙ ap (λ bs. bs ++ flat_map page_records all) no_records,
    )
