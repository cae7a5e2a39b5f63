-- Pages that are added: their entries and their data.
use Rattle.std.proofs.Common.{◌≡◌, ℕ, zero, suc, ◌+◌, ◌-◌, ◌*◌, ◌<◌, ◌≤◌, List, [], ◌∷◌, ◌++◌, length, map, take, drop, refl, sym, ap, ◌∙◌, Some, None, append-nil, append_assoc, length-append, length-drop, get_or, drop-cons, min, arith}
use Rattle.std.specs.Prelude.{Result, Ok, Err, IfOk}
use Rattle.std.specs.List.{flat_map, range_with_len}
use Rattle.std.proofs.lemmas.List.{drop_all, drop-drop, take_all, take_min, drop_min, map-append}
use Rattle.std.proofs.Math.Nat.{min_comm}
use Rattle.std.proofs.lemmas.List.Concat.{flat_map-cons}
use Rattle.lx_types.specs.Object.{zero_page}
use Rattle.lx_types.specs.declared.object.PageHead.{PageHead}
use Rattle.lx_types.specs.declared.object.PageKind.TheVariants.{Plain, Iterated}
use Rattle.lx_model.specs.Packed.{data_of, filled, packed, groups_of}
use Rattle.image_model.specs.Image.{PageForm, plain, iterated, zeros}
use Rattle.image_model.specs.PageForms.{form_of_page, pages_in, page_in}
use Rattle.link_model.specs.Records.{page_count}
use Rattle.image_model.specs.PageTables.{page_head, form_data, page_heads_from}
use Rattle.lx_write.specs.Growing.{with_pages}
use Rattle.lx_write.specs.declared.pages.Pages.{Pages}
use Rattle.lx_write.proofs.Forms.{empty_page, iterated_page, plain_page}

pub if_ok : {A E : Type 0} {P Q : Type 0} (r : Result A E) → (P → Q) → IfOk r (λ _. P) → IfOk r (λ _. Q)
if_ok (Ok a) f h = f h
if_ok (Err e) f h = tt

-- ---- one page

-- A page is added to entries and data.
abbrev pub IsAdded : List PageHead → List ℕ → List PageHead → List ℕ → List ℕ → Type 0
IsAdded heads bytes_before heads_after bytes_after page =
    (heads_after ≡ heads ++ page_head (length bytes_before) (form_of_page page) ∷ []) × (bytes_after ≡ bytes_before ++ form_data (form_of_page page))

with_form : (heads heads_after : List PageHead) (bytes_before bytes_after page : List ℕ) (form : PageForm) → form_of_page page ≡ form →
    heads_after ≡ heads ++ page_head (length bytes_before) form ∷ [] → bytes_after ≡ bytes_before ++ form_data form → IsAdded heads bytes_before heads_after bytes_after page
with_form heads heads_after bytes_before bytes_after page form is hs ds =
    (hs ∙ ap (λ f. heads ++ page_head (length bytes_before) f ∷ []) (sym is), ds ∙ ap (λ f. bytes_before ++ form_data f) (sym is))

pub zeros_added : (heads heads_after : List PageHead) (bytes_before page : List ℕ) → length (data_of page) ≡ 0 → heads_after ≡ heads ++ zero_page ∷ [] → IsAdded heads bytes_before heads_after bytes_before page
zeros_added heads heads_after bytes_before page none hs = with_form heads heads_after bytes_before bytes_before page zeros (empty_page page none) hs (sym (append-nil bytes_before))

pub iterated_added : (heads heads_after : List PageHead) (bytes_before bytes_after page groups : List ℕ) → packed (filled page) ≡ Some groups →
    (heads_after ≡ heads ++ record { kind = Iterated; at = length bytes_before; len = length groups } ∷ []) × (bytes_after ≡ bytes_before ++ groups) → IsAdded heads bytes_before heads_after bytes_after page
iterated_added heads heads_after bytes_before bytes_after page groups is put =
    let form = iterated_page page groups is in
    with_form heads heads_after bytes_before bytes_after page (iterated (groups_of (data_of page))) form.0
    (put.0 ∙ ap (λ (gs : List ℕ). heads ++ record { kind = Iterated; at = length bytes_before; len = length gs } ∷ []) (sym form.1))
    (put.1 ∙ ap (λ gs. bytes_before ++ gs) (sym form.1))

pub plain_added : (heads heads_after : List PageHead) (bytes_before bytes_after page bytes : List ℕ) → 0 < length (data_of page) → bytes ≡ data_of page → packed (filled page) ≡ None →
    (heads_after ≡ heads ++ record { kind = Plain; at = length bytes_before; len = length bytes } ∷ []) × (bytes_after ≡ bytes_before ++ bytes) → IsAdded heads bytes_before heads_after bytes_after page
plain_added heads heads_after bytes_before bytes_after page bytes some same is put =
    with_form heads heads_after bytes_before bytes_after page (plain (data_of page)) (plain_page page some is)
    (put.0 ∙ ap (λ (bs : List ℕ). heads ++ record { kind = Plain; at = length bytes_before; len = length bs } ∷ []) same)
    (put.1 ∙ ap (λ bs. bytes_before ++ bs) same)

pub page_added : (p q : Pages) (page : List ℕ) (others : List PageForm) → IsAdded p.heads.items p.contents.items q.heads.items q.contents.items page → with_pages q others ≡ with_pages p (form_of_page page ∷ others)
page_added p q page others is =
    let form = form_of_page page in
    let heads : q.heads.items ++ page_heads_from (length q.contents.items) others ≡ p.heads.items ++ page_heads_from (length p.contents.items) (form ∷ others) =
    ap (λ hs. hs ++ page_heads_from (length q.contents.items) others) is.0
    ∙ append_assoc p.heads.items (page_head (length p.contents.items) form ∷ []) (page_heads_from (length q.contents.items) others)
    ∙ ap (λ (n : ℕ). p.heads.items ++ page_head (length p.contents.items) form ∷ page_heads_from n others) (ap length is.1 ∙ length-append p.contents.items (form_data form)) in
    let bytes : q.contents.items ++ flat_map form_data others ≡ p.contents.items ++ flat_map form_data (form ∷ others) =
    ap (λ bs. bs ++ flat_map form_data others) is.1 ∙ append_assoc p.contents.items (form_data form) (flat_map form_data others)
    ∙ ap (λ bs. p.contents.items ++ bs) (sym (flat_map-cons form_data form others)) in
    rw (heads, bytes) refl

-- ---- the pages of an object

shifted : {A : Type 0} (f g : ℕ → A) (k j n : ℕ) → ((i : ℕ) → f (k + i) ≡ g (j + i)) → map f (range_with_len k n) ≡ map g (range_with_len j n)
shifted f g k j zero is = refl
shifted f g k j (suc n) is =
    let here : f k ≡ g j = ap f (let e : k ≡ k + 0 = omega arith in e) ∙ is 0 ∙ ap g (let e : j + 0 ≡ j = omega arith in e) in
    let after = shifted f g (k + 1) (j + 1) n (λ i. ap f (let e : k + 1 + i ≡ k + suc i = omega arith in e) ∙ is (suc i) ∙ ap g (let e : j + suc i ≡ j + 1 + i = omega arith in e)) in
    rw (here, after) refl

one_page_more : (n : ℕ) → 0 < n → page_count n ≡ suc (page_count (n - 4096))
one_page_more n some = omega (arith, some)

pub more_pages : (bytes : List ℕ) → 0 < length bytes → pages_in bytes ≡ take 4096 bytes ∷ pages_in (drop 4096 bytes)
more_pages bytes some =
    let count : page_count (length bytes) ≡ suc (page_count (length (drop 4096 bytes))) = one_page_more (length bytes) some ∙ ap (λ (n : ℕ). suc (page_count n)) (sym (length-drop 4096 bytes)) in
    ap (λ (n : ℕ). map (page_in bytes) (range_with_len 0 n)) count
    ∙ ap (λ pages. take 4096 bytes ∷ pages)
    (shifted (page_in bytes) (page_in (drop 4096 bytes)) 1 0 (page_count (length (drop 4096 bytes)))
    (λ i. ap (take 4096) (sym (drop-drop ((0 + i) * 4096) 4096 bytes ∙ ap (λ (k : ℕ). drop k bytes) (let e : 4096 + (0 + i) * 4096 ≡ (1 + i) * 4096 = omega arith in e)))))

-- what is left of an object's pages
abbrev pub Left : Pages → Pages → List ℕ → List ℕ → Type 0
Left first now left whole = (others : List PageForm) → with_pages now (map form_of_page (pages_in left) ++ others) ≡ with_pages first (map form_of_page (pages_in whole) ++ others)

pub whole_rest : (bytes : List ℕ) (at : ℕ) → take (length bytes - at) (drop at bytes) ≡ drop at bytes
whole_rest bytes at = take_all (length bytes - at) (drop at bytes) (omega (arith, length-drop at bytes))

pub object_step : (first p q : Pages) (bytes left_bytes : List ℕ) (at len : ℕ) → at < length bytes → left_bytes ≡ drop at bytes → len ≡ min (length left_bytes) 4096 →
    IsAdded p.heads.items p.contents.items q.heads.items q.contents.items (take len left_bytes) → Left first p (drop at bytes) bytes → Left first q (drop (at + len) bytes) bytes
object_step first p q bytes left_bytes at len there rest_is is added left others =
    let rest = drop at bytes in
    let some : 0 < length rest = omega (arith, length-drop at bytes, there) in
    let least : len ≡ min 4096 (length rest) = is ∙ ap (λ bs. min (length bs) 4096) rest_is ∙ min_comm (length rest) 4096 in
    let page : take len left_bytes ≡ take 4096 rest = ap (take len) rest_is ∙ ap (λ (n : ℕ). take n rest) least ∙ take_min 4096 rest in
    let after : drop (at + len) bytes ≡ drop 4096 rest = sym (drop-drop len at bytes) ∙ ap (λ (n : ℕ). drop n rest) least ∙ drop_min 4096 rest in
    ap (λ bs. with_pages q (map form_of_page (pages_in bs) ++ others)) after
    ∙ page_added p q (take len left_bytes) (map form_of_page (pages_in (drop 4096 rest)) ++ others) added
    ∙ ap (λ bs. with_pages p (form_of_page bs ∷ map form_of_page (pages_in (drop 4096 rest)) ++ others)) page
    ∙ ap (λ pages. with_pages p (map form_of_page pages ++ others)) (sym (more_pages rest some))
    ∙ left others

pub object_ended : (first p : Pages) (bytes : List ℕ) (at : ℕ) → length bytes ≤ at → Left first p (drop at bytes) bytes → (others : List PageForm) → with_pages p others ≡ with_pages first (map form_of_page (pages_in bytes) ++ others)
object_ended first p bytes at end left others = ap (λ bs. with_pages p (map form_of_page (pages_in bs) ++ others)) (sym (drop_all at bytes end)) ∙ left others

-- ---- the pages of objects

abbrev pub forms_in : List (List ℕ) → List PageForm
forms_in objects = map form_of_page (flat_map pages_in objects)

pub objects_step : (p q : Pages) (objects : List (List ℕ)) (i : ℕ) (bytes d : List ℕ) (whole : List PageHead × List ℕ) → i < length objects → bytes ≡ get_or objects i d →
    ((others : List PageForm) → with_pages q others ≡ with_pages p (map form_of_page (pages_in bytes) ++ others)) → with_pages p (forms_in (drop i objects)) ≡ whole → with_pages q (forms_in (drop (i + 1) objects)) ≡ whole
objects_step p q objects i bytes d whole there is added left =
    let rest = drop (i + 1) objects in
    let cons : drop i objects ≡ bytes ∷ rest = drop-cons objects i d there ∙ ap (λ bs. bs ∷ drop (suc i) objects) (sym is) ∙ ap (λ (k : ℕ). bytes ∷ drop k objects) (let e : suc i ≡ i + 1 = omega arith in e) in
    let forms : forms_in (bytes ∷ rest) ≡ map form_of_page (pages_in bytes) ++ forms_in rest =
    ap (map form_of_page) (flat_map-cons pages_in bytes rest) ∙ map-append form_of_page (pages_in bytes) (flat_map pages_in rest) in
    added (forms_in rest) ∙ ap (with_pages p) (sym (ap forms_in cons ∙ forms)) ∙ left

-- Nothing is left of the objects.
pub objects_ended : (p first : Pages) (objects : List (List ℕ)) (i : ℕ) → length objects ≤ i → first.heads.items ≡ [] → first.contents.items ≡ [] →
    with_pages p (forms_in (drop i objects)) ≡ with_pages first (forms_in objects) →
    (p.heads.items ≡ page_heads_from 0 (forms_in objects)) × (p.contents.items ≡ flat_map form_data (forms_in objects))
objects_ended p first objects i end no_heads no_bytes left =
    let whole : with_pages p [] ≡ with_pages first (forms_in objects) = ap (λ os. with_pages p (forms_in os)) (sym (drop_all i objects end)) ∙ left in (
      sym (append-nil p.heads.items) ∙ ap (λ t. t.0) whole ∙ ap (λ hs. hs ++ page_heads_from (length first.contents.items) (forms_in objects)) no_heads ∙ ap (λ (bs : List ℕ). page_heads_from (length bs) (forms_in objects)) no_bytes,
      sym (append-nil p.contents.items) ∙ ap (λ t. t.1) whole ∙ ap (λ bs. bs ++ flat_map form_data (forms_in objects)) no_bytes,
    )
