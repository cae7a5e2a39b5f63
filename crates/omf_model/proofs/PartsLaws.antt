-- What the records say together, one record after another.
use Rattle.std.proofs.Common.{◌≡◌, ℕ, Bool, true, false, cond, List, [], ◌∷◌, ◌++◌, map, length, get_or, Option, Some, None, refl, sym, ap, ◌∙◌, append_assoc, arith}
use Rattle.std.specs.List.{flat_map, filter_map, cons_option}
use Rattle.std.proofs.lemmas.List.{append-nil}
use Rattle.obj_types.specs.declared.object.Piece.{Piece}
use Rattle.obj_types.specs.declared.object.FixAt.{FixAt}
use Rattle.obj_types.specs.declared.object.StartAt.{StartAt}
use Rattle.obj_types.specs.declared.parts.LastData.{LastData}
use Rattle.obj_types.specs.declared.parts.LastData.TheVariants as datas
use Rattle.obj_types.specs.declared.parts.Threads.{Threads}
use Rattle.obj_types.specs.declared.parts.ObjParts.{ObjParts}
use Rattle.obj_types.specs.Fresh.{fresh_parts}
use Rattle.omf_model.specs.Lists.{collect_after, collect, latest}
use Rattle.omf_model.specs.Blocks.{block_bytes, expanded}
use Rattle.omf_model.specs.Comdat.{ComDat, begun_with, number_of, public_with, piece_with, data_with, if_first}
use Rattle.omf_model.specs.Record.{Record, header, passed, comment, default_library, impdef, expdef, lnames, segdef, grpdef, pubdef, extdef, comdef, ledata, lidata, comdat, fixupp, modend, FixField}
use Rattle.omf_model.specs.Fixups.{some, frame_set, goal_set, of_each_number, set_threads, unset, threads_of, fixes_by}
use Rattle.omf_model.specs.Items.{names_in, segs_in, groups_in, pubs_in, exts_in, imports_in, exports_in, deflibs_in, pieces_in, datas_in, begun_in, begun_names, fields_in, header_in, starts_in, name_with, seg_of, group_of, pub_of, ext_of, com_of, import_of, export_of, is_debug_seg, start_of}
use Rattle.omf_model.specs.Parts.{names_of, segs_of, groups_of, comdats_of, begun_names_of, pubs_of, pieces_of, last_of, fields_of, fixes_in, fixes_of, starts_of, module_of, parts_of}
use Rattle.omf_model.specs.Add.{add, add_data, add_comdat, add_field, add_fields}
use Rattle.omf_model.specs.AddLists.{module_with, parts_with, HasFour}

-- ---- lists

flat_map-append : {A B : Type 0} (f : A → List B) (xs ys : List A) → flat_map f (xs ++ ys) ≡ flat_map f xs ++ flat_map f ys
flat_map-append f [] ys = refl
flat_map-append {B = B} f (x ∷ xs) ys = ap (λ (zs : List B). f x ++ zs) (flat_map-append f xs ys) ∙ sym (append_assoc (f x) (flat_map f xs) (flat_map f ys))

pub flat_map-snoc : {A B : Type 0} (f : A → List B) (xs : List A) (x : A) → flat_map f (xs ++ x ∷ []) ≡ flat_map f xs ++ f x
flat_map-snoc {B = B} f xs x = flat_map-append f xs (x ∷ []) ∙ ap (λ (zs : List B). flat_map f xs ++ zs) (append-nil (f x))

collect_after-snoc : {A B : Type 0} (f : List A → A → List B) (before xs : List A) (x : A) → collect_after f before (xs ++ x ∷ []) ≡ collect_after f before xs ++ f (before ++ xs) x
collect_after-snoc {A = A} f before [] x = append-nil (f before x) ∙ ap (λ (b : List A). f b x) (sym (append-nil before))
collect_after-snoc {A = A} {B = B} f before (y ∷ ys) x =
    ap (λ (zs : List B). f before y ++ zs) (collect_after-snoc f (before ++ y ∷ []) ys x)
    ∙ sym (append_assoc (f before y) (collect_after f (before ++ y ∷ []) ys) (f (before ++ y ∷ [] ++ ys) x))
    ∙ ap (λ (b : List A). f before y ++ collect_after f (before ++ y ∷ []) ys ++ f b x) (append_assoc before (y ∷ []) ys)

pub collect-snoc : {A B : Type 0} (f : List A → A → List B) (xs : List A) (x : A) → collect f (xs ++ x ∷ []) ≡ collect f xs ++ f xs x
collect-snoc f xs x = collect_after-snoc f [] xs x

collect_after-same : {A B : Type 0} (f g : List A → A → List B) → ((before : List A) (x : A) → f before x ≡ g before x) → (before xs : List A) → collect_after f before xs ≡ collect_after g before xs
collect_after-same f g same before [] = refl
collect_after-same f g same before (x ∷ xs) = λ i. same before x i ++ collect_after-same f g same (before ++ x ∷ []) xs i

pub latest-append : {A : Type 0} (x : A) (xs ys : List A) → latest x (xs ++ ys) ≡ latest (latest x xs) ys
latest-append x [] ys = refl
latest-append x (y ∷ xs) ys = latest-append y xs ys

-- ---- threads

set-append : {A : Type 0} (g : FixField → Option A) (o : Option A) (a b : List FixField) → latest o (map some (filter_map g (a ++ b))) ≡ latest (latest o (map some (filter_map g a))) (map some (filter_map g b))
set-append g o [] b = refl
set-append {A = A} g o (f ∷ a) b = by (g f) (λ p. set-append g p a b)
  where
    by : (x : Option A) → ((p : Option A) → latest p (map some (filter_map g (a ++ b))) ≡ latest (latest p (map some (filter_map g a))) (map some (filter_map g b))) →
        latest o (map some (cons_option x (filter_map g (a ++ b)))) ≡ latest (latest o (map some (cons_option x (filter_map g a)))) (map some (filter_map g b))
    by None rest = rest o
    by (Some y) rest = rest (Some y)

pub set_threads-append : (ts : Threads) (a b : List FixField) → set_threads ts (a ++ b) ≡ set_threads (set_threads ts a) b
unfolding set_threads
set_threads-append ts a b = λ i. record {
  frame = frame_at 0 i ∷ frame_at 1 i ∷ frame_at 2 i ∷ frame_at 3 i ∷ [];
  goal = goal_at 0 i ∷ goal_at 1 i ∷ goal_at 2 i ∷ goal_at 3 i ∷ [];
}
  where
    frame_at : (n : ℕ) → latest (get_or ts.frame n None) (map some (filter_map (frame_set n) (a ++ b)))
        ≡ latest (latest (get_or ts.frame n None) (map some (filter_map (frame_set n) a))) (map some (filter_map (frame_set n) b))
    frame_at n = set-append (frame_set n) (get_or ts.frame n None) a b

    goal_at : (n : ℕ) → latest (get_or ts.goal n None) (map some (filter_map (goal_set n) (a ++ b))) ≡ latest (latest (get_or ts.goal n None) (map some (filter_map (goal_set n) a))) (map some (filter_map (goal_set n) b))
    goal_at n = set-append (goal_set n) (get_or ts.goal n None) a b

threads_of-append : (a b : List FixField) → threads_of (a ++ b) ≡ set_threads (threads_of a) b
unfolding threads_of
threads_of-append a b = set_threads-append unset a b

-- ---- one more record

fields_of-snoc : (rs : List Record) (r : Record) → fields_of (rs ++ r ∷ []) ≡ fields_of rs ++ fields_in r
unfolding fields_of
fields_of-snoc rs r = flat_map-snoc fields_in rs r

fixes_in-is : (last : LastData) (earlier : List FixField) (r : Record) → fixes_in last earlier r ≡ collect (λ fields f. fixes_by last (set_threads (threads_of earlier) fields) f) (fields_in r)
unfolding fixes_in
fixes_in-is last earlier r =
    collect_after-same (λ fields f. fixes_by last (threads_of (earlier ++ fields)) f) (λ fields f. fixes_by last (set_threads (threads_of earlier) fields) f)
    (λ fields f. ap (λ (ts : Threads). fixes_by last ts f) (threads_of-append earlier fields)) [] (fields_in r)

fixes_of-snoc : (rs : List Record) (r : Record) → fixes_of (rs ++ r ∷ []) ≡ fixes_of rs ++ collect (λ fields f. fixes_by (last_of rs) (set_threads (threads_of (fields_of rs)) fields) f) (fields_in r)
unfolding fixes_of
fixes_of-snoc rs r =
    collect-snoc (λ before r. fixes_in (last_of before) (fields_of before) r) rs r
    ∙ ap (λ (fs : List FixAt). collect (λ before r. fixes_in (last_of before) (fields_of before) r) rs ++ fs) (fixes_in-is (last_of rs) (fields_of rs) r)

module_of-snoc : (rs : List Record) (r : Record) → module_of (rs ++ r ∷ []) ≡ module_with (parts_of rs) r
unfolding module_of module_with parts_of names_of segs_of groups_of comdats_of pubs_of pieces_of starts_of
module_of-snoc rs r = λ i. record {
  name = (ap (λ (ns : List (List ℕ)). latest [] ns) (flat_map-snoc header_in rs r) ∙ latest-append [] (flat_map header_in rs) (header_in r)) i;
  segs = collect-snoc (λ before r. segs_in (names_of before) r) rs r i;
  groups = collect-snoc (λ before r. groups_in (names_of before) r) rs r i;
  pubs = collect-snoc (λ before r. pubs_in (names_of before) (begun_names_of before) r) rs r i;
  exts = flat_map-snoc exts_in rs r i;
  pieces = collect-snoc (λ before r. pieces_in (names_of before) (segs_of before) (begun_names_of before) r) rs r i;
  fixes = fixes_of-snoc rs r i;
  imports = flat_map-snoc imports_in rs r i;
  exports = flat_map-snoc exports_in rs r i;
  deflibs = flat_map-snoc deflibs_in rs r i;
  start = (ap (λ (ss : List (Option StartAt)). latest None ss) (collect-snoc (λ before r. starts_in (threads_of (fields_of before)) r) rs r)
      ∙ latest-append None (collect (λ before r. starts_in (threads_of (fields_of before)) r) rs) (starts_in (threads_of (fields_of rs)) r)) i;
  comdats = [];
}

last_of-snoc : (rs : List Record) (r : Record) → last_of (rs ++ r ∷ []) ≡ latest (last_of rs) (datas_in (names_of rs) (segs_of rs) (begun_names_of rs) r)
unfolding last_of
last_of-snoc rs r =
    let given : List Record → Record → List LastData = λ before r. datas_in (names_of before) (segs_of before) (begun_names_of before) r in
    ap (λ (ds : List LastData). latest datas.None ds) (collect-snoc given rs r) ∙ latest-append datas.None (collect given rs) (given rs r)

-- What the records say with one more is what they said and what it adds.
pub parts_of-lists : (rs : List Record) (r : Record) → parts_of (rs ++ r ∷ []) ≡ parts_with (parts_of rs) r
unfolding parts_of parts_with names_of last_of segs_of comdats_of module_of
parts_of-lists rs r = λ i. record {
  names = flat_map-snoc names_in rs r i;
  «module» = module_of-snoc rs r i;
  last = last_of-snoc rs r i;
  threads = (ap (λ (fs : List FixField). threads_of fs) (fields_of-snoc rs r) ∙ threads_of-append (fields_of rs) (fields_in r)) i;
  comdats = collect-snoc (λ before r. begun_in (names_of before) (segs_of before) r) rs r i;
}

pub parts_of-none : parts_of [] ≡ fresh_parts
unfolding parts_of module_of names_of segs_of groups_of comdats_of pubs_of pieces_of last_of fields_of fixes_of starts_of threads_of set_threads
parts_of-none = refl

-- ---- one more field

collect_after-shift : {A B : Type 0} (f g : List A → A → List B) (y : A) → ((before : List A) (x : A) → f (y ∷ before) x ≡ g before x) → (before xs : List A) → collect_after f (y ∷ before) xs ≡ collect_after g before xs
collect_after-shift f g y same before [] = refl
collect_after-shift f g y same before (x ∷ xs) = λ i. same before x i ++ collect_after-shift f g y same (before ++ x ∷ []) xs i

add_field-fixes : (last : LastData) (ts : Threads) (old : List FixAt) (f : FixField) (fs : List FixField) →
    old ++ collect (λ fields g. fixes_by last (set_threads ts fields) g) (f ∷ fs)
    ≡ old ++ collect (λ fields g. fixes_by last (set_threads ts fields) g) (f ∷ []) ++ collect (λ fields g. fixes_by last (set_threads (set_threads ts (f ∷ [])) fields) g) fs
add_field-fixes last ts old f fs =
    let first : List FixAt = fixes_by last (set_threads ts []) f in
    let rest = collect_after-shift (λ fields g. fixes_by last (set_threads ts fields) g) (λ fields g. fixes_by last (set_threads (set_threads ts (f ∷ [])) fields) g) f
    (λ before x. ap (λ (us : Threads). fixes_by last us x) (set_threads-append ts (f ∷ []) before)) [] fs in
    (λ i. old ++ (first ++ rest i))
    ∙ (λ i. old ++ (sym (append-nil first) i ++ collect (λ fields g. fixes_by last (set_threads (set_threads ts (f ∷ [])) fields) g) fs))
    ∙ sym (append_assoc old (first ++ []) (collect (λ fields g. fixes_by last (set_threads (set_threads ts (f ∷ [])) fields) g) fs))

-- A FIXUPP record's items are those of its first field, and then those of the others.
lists-fields : (p : ObjParts) (f : FixField) (fs : List FixField) → parts_with p (fixupp (f ∷ fs)) ≡ parts_with (parts_with p (fixupp (f ∷ []))) (fixupp fs)
unfolding parts_with module_with
lists-fields p f fs = λ i. record {
  names = sym (append-nil (p.names ++ [])) i;
  «module» = record {
    name = p.module.name;
    segs = sym (append-nil (p.module.segs ++ [])) i;
    groups = sym (append-nil (p.module.groups ++ [])) i;
    pubs = sym (append-nil (p.module.pubs ++ [])) i;
    exts = sym (append-nil (p.module.exts ++ [])) i;
    pieces = sym (append-nil (p.module.pieces ++ [])) i;
    fixes = add_field-fixes p.last p.threads p.module.fixes f fs i;
    imports = sym (append-nil (p.module.imports ++ [])) i;
    exports = sym (append-nil (p.module.exports ++ [])) i;
    deflibs = sym (append-nil (p.module.deflibs ++ [])) i;
    start = p.module.start;
    comdats = p.module.comdats;
  };
  last = p.last;
  threads = set_threads-append p.threads (f ∷ []) fs i;
  comdats = sym (append-nil (p.comdats ++ [])) i;
}

pub four-items : {A : Type 0} (xs : List (Option A)) → length xs ≡ 4 → of_each_number (λ n. get_or xs n None) ≡ xs
four-items [] e = absurd (omega (arith, e))
four-items (a ∷ []) e = absurd (omega (arith, e))
four-items (a ∷ b ∷ []) e = absurd (omega (arith, e))
four-items (a ∷ b ∷ c ∷ []) e = absurd (omega (arith, e))
four-items (a ∷ b ∷ c ∷ d ∷ []) e = refl
four-items (a ∷ b ∷ c ∷ d ∷ x ∷ xs) e = absurd (omega (arith, e))

pub no_threads : (ts : Threads) → HasFour ts → set_threads ts [] ≡ ts
unfolding set_threads
no_threads ts four = λ i. record { frame = four-items ts.frame four.frames i; goal = four-items ts.goal four.goals i }

-- what a record adds that has nothing
module _ (p : ObjParts) (four : HasFour p.threads) where
  abbrev padded : ObjParts
  padded = record {
    names = p.names ++ [];
    «module» = record {
      name = p.module.name;
      segs = p.module.segs ++ [];
      groups = p.module.groups ++ [];
      pubs = p.module.pubs ++ [];
      exts = p.module.exts ++ [];
      pieces = p.module.pieces ++ [];
      fixes = p.module.fixes ++ [];
      imports = p.module.imports ++ [];
      exports = p.module.exports ++ [];
      deflibs = p.module.deflibs ++ [];
      start = p.module.start;
      comdats = p.module.comdats;
    };
    last = p.last;
    threads = set_threads p.threads [];
    comdats = p.comdats ++ [];
  }

  unpadded : p ≡ padded
  unpadded = λ i. record {
    names = sym (append-nil p.names) i;
    «module» = record {
      name = p.module.name;
      segs = sym (append-nil p.module.segs) i;
      groups = sym (append-nil p.module.groups) i;
      pubs = sym (append-nil p.module.pubs) i;
      exts = sym (append-nil p.module.exts) i;
      pieces = sym (append-nil p.module.pieces) i;
      fixes = sym (append-nil p.module.fixes) i;
      imports = sym (append-nil p.module.imports) i;
      exports = sym (append-nil p.module.exports) i;
      deflibs = sym (append-nil p.module.deflibs) i;
      start = p.module.start;
      comdats = p.module.comdats;
    };
    last = p.last;
    threads = sym (no_threads p.threads four) i;
    comdats = sym (append-nil p.comdats) i;
  }

  data-lists : (piece : Piece) (last : LastData) (b : Bool) → is_debug_seg p.module.segs piece.seg ≡ b
      → add_data p piece last ≡ record padded { «module» = record padded.module { pieces = p.module.pieces ++ cond b [] (piece ∷ []) }; last = cond b datas.Dropped last }
  data-lists piece last true e = rw e (ap (λ (q : ObjParts). record q { last = datas.Dropped }) unpadded)
  data-lists piece last false e = rw e (ap (λ (q : ObjParts). record q { «module» = record q.module { pieces = p.module.pieces ++ piece ∷ [] }; last = last }) unpadded)

  one-field : (f : FixField) → parts_with p (fixupp (f ∷ [])) ≡ add_field p f
  unfolding parts_with module_with add_field
  one-field f = λ i. record {
    names = append-nil p.names i;
    «module» = record {
      name = p.module.name;
      segs = append-nil p.module.segs i;
      groups = append-nil p.module.groups i;
      pubs = append-nil p.module.pubs i;
      exts = append-nil p.module.exts i;
      pieces = append-nil p.module.pieces i;
      fixes = p.module.fixes ++ (append-nil (fixes_by p.last (set_threads p.threads []) f) ∙ ap (λ (ts : Threads). fixes_by p.last ts f) (no_threads p.threads four)) i;
      imports = append-nil p.module.imports i;
      exports = append-nil p.module.exports i;
      deflibs = append-nil p.module.deflibs i;
      start = p.module.start;
      comdats = p.module.comdats;
    };
    last = p.last;
    threads = set_threads p.threads (f ∷ []);
    comdats = append-nil p.comdats i;
  }

pub four-field : (p : ObjParts) (f : FixField) → HasFour (add_field p f).threads
unfolding add_field set_threads
four-field p f = record { frames = refl; goals = refl }

fields-lists : (fs : List FixField) (p : ObjParts) → HasFour p.threads → add_fields p fs ≡ parts_with p (fixupp fs)
unfolding add_fields
fields-lists [] p four = no_fields p four
  where
    no_fields : (p : ObjParts) → HasFour p.threads → p ≡ parts_with p (fixupp [])
    no_fields p four = unfold parts_with module_with in unpadded p four
fields-lists (f ∷ fs) p four =
    fields-lists fs (add_field p f) (four-field p f)
    ∙ ap (λ (q : ObjParts). parts_with q (fixupp fs)) (sym (one-field p four f))
    ∙ sym (lists-fields p f fs)

comdat-lists : (p : ObjParts) (d : ComDat) → HasFour p.threads → add_comdat p d ≡ parts_with p (comdat d)
unfolding add_comdat parts_with module_with
comdat-lists p d four =
    let name : List ℕ = name_with p.names d.name in
    let number : ℕ = number_of (begun_names p.comdats) name in
    ap (λ (q : ObjParts). record q {
      «module» = record q.module { pubs = p.module.pubs ++ if_first d (public_with number name d); pieces = p.module.pieces ++ piece_with number d ∷ [] };
      last = data_with number d;
      comdats = p.comdats ++ if_first d (begun_with p.module.segs name d);
    }) (unpadded p four)

-- A record adds its items to each list.
pub add-lists : (p : ObjParts) (r : Record) → HasFour p.threads → add p r ≡ parts_with p r
unfolding add parts_with module_with
add-lists p (header name) four = ap (λ (q : ObjParts). record q { «module» = record q.module { name = name } }) (unpadded p four)
add-lists p passed four = unpadded p four
add-lists p comment four = unpadded p four
add-lists p (default_library name) four = ap (λ (q : ObjParts). record q { «module» = record q.module { deflibs = p.module.deflibs ++ name ∷ [] } }) (unpadded p four)
add-lists p (impdef d) four = ap (λ (q : ObjParts). record q { «module» = record q.module { imports = p.module.imports ++ import_of d ∷ [] } }) (unpadded p four)
add-lists p (expdef d) four = ap (λ (q : ObjParts). record q { «module» = record q.module { exports = p.module.exports ++ export_of d ∷ [] } }) (unpadded p four)
add-lists p (lnames names) four = ap (λ (q : ObjParts). record q { names = p.names ++ names }) (unpadded p four)
add-lists p (segdef d) four = ap (λ (q : ObjParts). record q { «module» = record q.module { segs = p.module.segs ++ seg_of p.names d ∷ [] } }) (unpadded p four)
add-lists p (grpdef name members) four = ap (λ (q : ObjParts). record q { «module» = record q.module { groups = p.module.groups ++ group_of (name_with p.names name) members ∷ [] } }) (unpadded p four)
add-lists p (pubdef local group segment frame defs) four = ap (λ (q : ObjParts). record q { «module» = record q.module { pubs = p.module.pubs ++ map (pub_of local segment) defs } }) (unpadded p four)
add-lists p (extdef local defs) four = ap (λ (q : ObjParts). record q { «module» = record q.module { exts = p.module.exts ++ map (ext_of local) defs } }) (unpadded p four)
add-lists p (comdef defs) four = ap (λ (q : ObjParts). record q { «module» = record q.module { exts = p.module.exts ++ map com_of defs } }) (unpadded p four)
add-lists p (ledata seg offset content) four = data-lists p four (record { seg = seg; offset = offset; bytes = content }) (datas.Straight seg offset (length content)) (is_debug_seg p.module.segs seg) refl
add-lists p (lidata wide seg offset blocks) four =
    data-lists p four (record { seg = seg; offset = offset; bytes = expanded blocks })
    (datas.Blocks seg offset wide (block_bytes wide blocks)) (is_debug_seg p.module.segs seg) refl
add-lists p (comdat d) four = comdat-lists p d four
add-lists p (fixupp fields) four = fields-lists fields p four
add-lists p (modend kind start) four = ap (λ (q : ObjParts). record q { «module» = record q.module { start = start_of p.threads start } }) (unpadded p four)

pub parts-four : (rs : List Record) → HasFour (parts_of rs).threads
unfolding parts_of threads_of set_threads
parts-four rs = record { frames = refl; goals = refl }

pub parts_of-snoc : (rs : List Record) (r : Record) → parts_of (rs ++ r ∷ []) ≡ add (parts_of rs) r
parts_of-snoc rs r = parts_of-lists rs r ∙ sym (add-lists (parts_of rs) r (parts-four rs))
