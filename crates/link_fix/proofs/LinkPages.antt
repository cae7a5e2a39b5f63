-- From fixups and pieces at their places to the pages of a link.
use Rattle.std.specs.Prelude.{◌≡◌, ℕ, ◌<◌, Bool, true, false, cond, not, List, [], ◌∷◌, Option, None, map, filter, refl}
use Rattle.std.specs.List.{filter_map, cons_option, range_with_len, enumerate_from, list_any, All}
use Rattle.std.specs.Option.{option_map}
use Rattle.std.proofs.Common.{ap, sym, ◌∙◌, subst}
use Rattle.std.proofs.lemmas.List.Elements.{All-nil, All-cons, All-head, All-tail, All-map, All-weaker}
use Rattle.lx_types.specs.declared.fix.Fix.{Fix}
use Rattle.obj_types.specs.Location.{location_len}
use Rattle.obj_types.specs.declared.symbol.Imp.{Imp}
use Rattle.link_model.specs.declared.symbols.LaidObject.{LaidObject}
use Rattle.link_model.specs.Link.{Link}
use Rattle.link_model.specs.Symbols.{imports}
use Rattle.link_model.specs.Layout.{objects}
use Rattle.link_model.specs.Goals.{Target, Internal, Constant, Entry}
use Rattle.link_model.specs.Fixups as rules
use Rattle.link_model.specs.Mean.{PlacedPiece, pieces, live, live_fixups, overlap, data_at}
use Rattle.link_model.specs.Patches.{is_patched, recorded, page_byte, object_bytes}
use Rattle.link_model.specs.ImportTables.{used_pairs, pair_used}
use Rattle.link_model.specs.Records.{target_and_additive, record_on, page_records, object_records, page_count, stands_on}
use Rattle.link_fix.specs.declared.fixup.Fixup.{Fixup}
use Rattle.link_fix.specs.declared.images.Images.{Images}
use Rattle.link_fix.specs.declared.paging.PageFixes.{PageFixes}
use Rattle.link_fix.specs.Shown.{shown}
use Rattle.link_fix.specs.Images.{byte_of}
use Rattle.link_fix.specs.Marks.{HasBytes}
use Rattle.link_fix.specs.Values.{IsAccepted, with_fields}
use Rattle.link_fix.specs.Pieces.{of_placed}
use Rattle.link_fix.specs.Tables.{pair_among, pairs_among}
use Rattle.link_fix.specs.Paging.{target_among, record_with, record_among, records_among, fixes_of}
use Rattle.link_fix.specs.Placed.{bytes_with}

-- ---- lists by functions that agree

pub map-same : {X Y : Type 0} (f g : X → Y) (xs : List X) → ((x : X) → f x ≡ g x) → map f xs ≡ map g xs
map-same f g [] same = refl
map-same {X} {Y} f g (x ∷ xs) same = ap (λ (y : Y). y ∷ map f xs) (same x) ∙ ap (λ (ys : List Y). g x ∷ ys) (map-same f g xs same)

pub filter_map-same : {X Y : Type 0} (f g : X → Option Y) (xs : List X) → ((x : X) → f x ≡ g x) → filter_map f xs ≡ filter_map g xs
filter_map-same f g [] same = refl
filter_map-same {X} {Y} f g (x ∷ xs) same =
    ap (λ (o : Option Y). cons_option o (filter_map f xs)) (same x) ∙ ap (λ (ys : List Y). cons_option (g x) ys) (filter_map-same f g xs same)

-- ---- what holds of all fixups holds of the live ones

abbrev pub Accepts : rules.Fixup → Type 0
Accepts r = (rules.fix_refusal r ≡ None) × (0 < location_len r.fix.loc)

pub all-unmapped : {X Y : Type 0} (f : X → Y) (P : Y → Type 0) (xs : List X) → All P (map f xs) → All (λ x. P (f x)) xs
all-unmapped f P [] all = All-nil (λ x. P (f x))
all-unmapped f P (x ∷ xs) all =
    All-cons (λ x. P (f x)) x xs (All-head P (f x) (map f xs) all) (all-unmapped f P xs (All-tail P (f x) (map f xs) all))

pub all-live : (P : rules.Fixup → Type 0) (qs : List rules.Fixup) → All P qs → All P (live qs)
all-live P [] all = All-nil P
all-live P (q ∷ qs) all = all_live_by P q qs (list_any (overlap q) qs) (All-head P q qs all) (all-live P qs (All-tail P q qs all))
  where
    all_live_by : (P : rules.Fixup → Type 0) (q : rules.Fixup) (qs : List rules.Fixup) (b : Bool) → P q → All P (live qs) → All P (cond b (live qs) (q ∷ live qs))
    all_live_by P q qs true here rest = rest
    all_live_by P q qs false here rest = All-cons P q (live qs) here rest

pub accepts : (qs : List Fixup) → All IsAccepted qs → All Accepts (map shown qs)
accepts qs all = All-map Accepts shown qs (All-weaker IsAccepted (λ q. Accepts (shown q)) (λ q a. (a.accepted, a.location)) qs all)

pub accepted : (qs : List Fixup) → All Accepts (map shown qs) → All IsAccepted qs
accepted qs all = All-weaker (λ q. Accepts (shown q)) IsAccepted (λ q a. record { accepted = a.0; location = a.1 }) qs (all-unmapped shown Accepts qs all)

pub live-accepted : (qs kept : List Fixup) → All IsAccepted qs → map shown kept ≡ live (map shown qs) → All IsAccepted kept
live-accepted qs kept all is =
    accepted kept (subst (λ (rs : List rules.Fixup). All Accepts rs) (sym is) (all-live Accepts (map shown qs) (accepts qs all)))

pub accepted-bytes : (qs : List Fixup) → All IsAccepted qs → All HasBytes qs
accepted-bytes qs all = All-weaker IsAccepted HasBytes (λ q a. a.location) qs all

-- ---- bytes

pub rows-with :
    (l : Link) (rows below : Images) (qs : List rules.Fixup) (ps : List PlacedPiece) (os : List LaidObject) (all : List (List ℕ)) → ((n : ℕ) (x : ℕ) → byte_of below n x ≡ of_placed ps n x)
    → ((k : Link) (n : ℕ) (x : ℕ) → byte_of rows n x ≡ with_fields k qs (byte_of below) n x) → all ≡ map (λ q. map (byte_of rows q.0) (range_with_len 0 q.1.size)) (enumerate_from 1 os) → all ≡ bytes_with l qs ps os
rows-with l rows below qs ps os all held painted is =
    let byte : (n : ℕ) (x : ℕ) → byte_of rows n x ≡ with_fields l qs (of_placed ps) n x = λ n x. painted l n x ∙ ap (λ (v : ℕ). with_fields l qs (λ n x. v) n x) (held n x) in
    is
    ∙ map-same (λ (q : ℕ × LaidObject). map (byte_of rows q.0) (range_with_len 0 q.1.size)) (λ (q : ℕ × LaidObject). map (with_fields l qs (of_placed ps) q.0) (range_with_len 0 q.1.size)) (enumerate_from 1 os)
    (λ q. map-same (byte_of rows q.0) (with_fields l qs (of_placed ps) q.0) (range_with_len 0 q.1.size) (byte q.0))

pub bytes-are : (l : Link) → bytes_with l (live (rules.fixups l)) (pieces l) (objects l) ≡ object_bytes l
unfolding object_bytes page_byte data_at live_fixups
bytes-are l = refl

-- ---- records

same_target : (l : Link) (pairs : List Imp) (q : rules.Fixup) (t : Target) → used_pairs l ≡ pairs → target_and_additive l q t ≡ target_among (imports l) pairs q t
same_target l pairs q (Internal o x) e = refl
same_target l pairs q (Constant v) e = refl
same_target l pairs q (Entry slot) e = ap (λ (ps : List Imp). target_among (imports l) ps q (Entry slot)) e

same_record : (l : Link) (pairs : List Imp) (k : ℕ) (q : rules.Fixup) → used_pairs l ≡ pairs → record_on l k q ≡ record_among (imports l) pairs k q
same_record l pairs k q e = ap (λ o. option_map (record_with k q) o) (same_target l pairs q q.target e)

same_pair : (l : Link) (t : Target) → pair_used l t ≡ pair_among (imports l) t
same_pair l (Internal o x) = refl
same_pair l (Constant v) = refl
same_pair l (Entry slot) = refl

pub pairs-are : (l : Link) → used_pairs l ≡ pairs_among (imports l) (recorded l)
unfolding used_pairs
pairs-are l = filter_map-same (λ q. pair_used l q.target) (λ q. pair_among (imports l) q.target) (recorded l) (λ q. same_pair l q.target)

page-are : (l : Link) (pairs : List Imp) (n k : ℕ) → used_pairs l ≡ pairs → page_records l n k ≡ records_among (imports l) pairs (recorded l) n k
unfolding page_records
page-are l pairs n k e = filter_map-same (record_on l k) (record_among (imports l) pairs k) (filter (stands_on n k) (recorded l)) (λ q. same_record l pairs k q e)

pub records-are : (l : Link) (pages : PageFixes) (all : List (List (List Fix))) → ((n : ℕ) (k : ℕ) → fixes_of pages n k ≡ records_among (imports l) (pairs_among (imports l) (recorded l)) (recorded l) n k)
    → all ≡ map (λ q. map (fixes_of pages q.0) (range_with_len 0 (page_count q.1.size))) (enumerate_from 1 (objects l)) → all ≡ object_records l
unfolding object_records
records-are l pages all fixes is =
    let page : (n : ℕ) (k : ℕ) → fixes_of pages n k ≡ page_records l n k = λ n k. fixes n k ∙ sym (page-are l (pairs_among (imports l) (recorded l)) n k (pairs-are l)) in
    is
    ∙ map-same (λ (q : ℕ × LaidObject). map (fixes_of pages q.0) (range_with_len 0 (page_count q.1.size))) (λ (q : ℕ × LaidObject). map (page_records l q.0) (range_with_len 0 (page_count q.1.size))) (enumerate_from 1 (objects l))
    (λ q. map-same (fixes_of pages q.0) (page_records l q.0) (range_with_len 0 (page_count q.1.size)) (page q.0))

pub recorded-are : (l : Link) → recorded l ≡ filter (λ q. not (is_patched q)) (live (rules.fixups l))
unfolding recorded live_fixups
recorded-are l = refl
