-- The values of a dump's lists, each with the lines after its own.
use Rattle.std.proofs.Common.{◌≡◌, ℕ, ◌+◌, Bool, true, false, List, [], ◌∷◌, ◌++◌, length, refl, sym, subst, ap, ◌∙◌, arith, append_assoc}
use Rattle.std.specs.Prelude.{codes, ◌||◌}
use Rattle.std.specs.List.{AllByRecursion, flat_map}
use Rattle.std.proofs.lemmas.Bool.{both_ways}
use Rattle.lx_types.specs.declared.fix.Fix.{Fix}
use Rattle.lx_types.specs.declared.object.PageHead.{PageHead}
use Rattle.dump_model.specs.declared.listing.ListedObject.{ListedObject}
use Rattle.dump_model.specs.declared.listing.ListedPage.{ListedPage}
use Rattle.dump_model.specs.Bounds.{Has32, IsFix, IsPage, IsObject, IsListedName, IsEntry, IsNamed}
use Rattle.dump_model.specs.Lines.{fix_line, page_line, object_line}
use Rattle.dump_model.specs.Dumps.{page_lines, object_lines, numbered_import_line}
use Rattle.dump_read.specs.declared.objects.ObjectHead.{ObjectHead}
use Rattle.dump_read.specs.Taken.{IsPiece, same_bytes, AllApart, State, Reads, shut}
use Rattle.dump_read.specs.Settled.{is_among}
use Rattle.dump_read.specs.Sequences.{list_text, list_opens, AllIn, CountIn}
use Rattle.dump_read.specs.Parts.{HasHeadData, page_head_line, IsObjectHead, object_head_line}
use Rattle.dump_read.specs.Lists.{numbered_fix, numbered_entry, numbered_name, fix_opens, page_opens, object_opens}
use Rattle.dump_read.proofs.After.{reads-after}
use Rattle.dump_read.proofs.Forms.{IsCode, code-form}
use Rattle.dump_read.proofs.Lists.{IsElement, star-form, count-form, so-many, map-all}
use Rattle.dump_read.proofs.Runs.{opens-among}
use Rattle.dump_read.proofs.Steps.{piece-test}
use Rattle.dump_read.proofs.FixForms.{code-fix, fix-front}
use Rattle.dump_read.proofs.ObjectForms.{code-page, page-front, code-object, object-front}
use Rattle.dump_read.proofs.EntryForms.{code-import, import-front, code-entry, entry-front, code-named, name-front}

-- ---- values of one line

code-element : {X : Type 0} (text : ℕ × X → List ℕ) (InRange : X → Type 0) (first : List ℕ) → IsPiece first → ((k : ℕ) → IsCode (λ x. text (k, x)) InRange)
    → ((k : ℕ) (x : X) → (rest : List ℕ) × (text (k, x) ≡ first ++ rest)) → IsElement text InRange shut first
code-element text InRange first piece codes front = record {
  piece = piece;
  some = (codes 0).some;
  inside = (codes 0).inside;
  front = λ k x _. front k x;
  one = λ k a b r s ha hb _ _ is. (codes k).one a b r s ha hb is;
  pieces = λ x _. tt;
  longer = λ k x _. tt;
  differ = λ x _. tt;
}

pub fix-element : (k i : ℕ) → IsElement (numbered_fix k i) IsFix shut (codes "fix ")
fix-element k i = code-element (numbered_fix k i) IsFix (codes "fix ") (piece-test (codes "fix ") refl) (λ _. code-fix k i) (λ _ f. fix-front k i f)

pub import-element : IsElement numbered_import_line IsListedName shut (codes "import ")
import-element = code-element numbered_import_line IsListedName (codes "import ") (piece-test (codes "import ") refl) code-import import-front

pub entry-element : IsElement numbered_entry IsEntry shut (codes "entry ")
entry-element = code-element numbered_entry IsEntry (codes "entry ") (piece-test (codes "entry ") refl) (λ _. code-entry) (λ _ e. entry-front e)

pub name-element : IsElement numbered_name IsNamed shut (codes "name ")
name-element = code-element numbered_name IsNamed (codes "name ") (piece-test (codes "name ") refl) (λ _. code-named) (λ _ n. name-front n)

-- ---- pages

pub flat-list : {X : Type 0} (text : X → List ℕ) (n : ℕ) (xs : List X) → flat_map text xs ≡ list_text (λ p. text p.1) n xs
flat-list text n [] = refl
flat-list text n (x ∷ xs) = ap (λ rest. text x ++ rest) (flat-list text (n + 1) xs)

abbrev head_of : ListedPage → PageHead
head_of p = record { kind = p.kind; at = p.at; len = p.len }

abbrev page_of : PageHead → List Fix → ListedPage
page_of h fixes = record { kind = h.kind; at = h.at; len = h.len; fixes = fixes }

page-lines : (k i : ℕ) (p : ListedPage) → page_lines k (i, p) ≡ page_head_line k i (head_of p) ++ list_text (numbered_fix k i) 0 p.fixes
unfolding page_lines page_line
page-lines k i p = ap (λ rest. page_head_line k i (head_of p) ++ rest) (flat-list (fix_line k i) 0 p.fixes)

fixes-known : (fixes : List Fix) → AllIn IsFix fixes → AllByRecursion (λ v. is_among v (codes "fix " ∷ []) ≡ true) (fix_opens fixes)
fixes-known fixes h = opens-among (codes "fix " ∷ []) (codes "fix " ∷ []) shut IsFix (λ _ _. tt) (refl, tt) fixes h

among-differ : (known : List (List ℕ)) (first : List ℕ) (pieces : List (List ℕ)) → is_among first known ≡ false → AllByRecursion (λ v. is_among v known ≡ true) pieces
    → AllByRecursion (λ v. v ≡ first → ⊥) pieces
among-differ known first [] other h = tt
among-differ known first (p ∷ pieces) other h =
    (λ is. both_ways (is_among first known) other (subst (λ v. is_among v known ≡ true) is h.0), among-differ known first pieces other h.1)

page-one : (k i : ℕ) (a b : ListedPage) (r s : List ℕ) → IsPage a → IsPage b → AllApart (page_opens a) r → AllApart (page_opens b) s
    → page_lines k (i, a) ++ r ≡ page_lines k (i, b) ++ s → (a ≡ b) × (r ≡ s)
page-one k i a b r s ha hb ra sb is =
    let fa = list_text (numbered_fix k i) 0 a.fixes in
    let fb = list_text (numbered_fix k i) 0 b.fixes in
    let heads = (code-page k i).one (head_of a) (head_of b) (fa ++ r) (fb ++ s) ha.place hb.place
    (sym (append_assoc (page_head_line k i (head_of a)) fa r) ∙ ap (λ x. x ++ r) (sym (page-lines k i a)) ∙ is ∙ ap (λ x. x ++ s) (page-lines k i b)
    ∙ append_assoc (page_head_line k i (head_of b)) fb s) in
    let others = (star-form (numbered_fix k i) IsFix shut (codes "fix ") (fix-element k i) 0).one a.fixes b.fixes r s ha.fixes hb.fixes ra sb heads.1 in
    (ap (λ h. page_of h a.fixes) heads.0 ∙ ap (page_of (head_of b)) others.0, others.1)

abbrev LongerPage : ℕ → ℕ → ListedPage → List ℕ → Type 0
LongerPage k i p v = (q : ListedPage) × (rest : List ℕ) × IsPage q × (page_lines k (i, q) ≡ page_lines k (i, p) ++ (v ++ rest))

page-longer : (k i : ℕ) (p : ListedPage) → IsPage p → AllByRecursion (LongerPage k i p) (page_opens p)
page-longer k i p h =
    map-all (numbered_fix k i) IsFix shut (codes "fix ") (fix-element k i)
    (λ v. (ys : List Fix) × (rest : List ℕ) × AllIn IsFix ys × (list_text (numbered_fix k i) 0 ys ≡ list_text (numbered_fix k i) 0 p.fixes ++ (v ++ rest)))
    (LongerPage k i p) (page_opens p)
    (λ v more. (
      page_of (head_of p) more.0,
      more.1,
      record { place = h.place; fixes = more.2 },
      page-lines k i (page_of (head_of p) more.0) ∙ ap (λ x. page_head_line k i (head_of p) ++ x) more.3
          ∙ sym (append_assoc (page_head_line k i (head_of p)) (list_text (numbered_fix k i) 0 p.fixes) (v ++ more.1))
          ∙ ap (λ x. x ++ (v ++ more.1)) (sym (page-lines k i p)),
    ))
    ((star-form (numbered_fix k i) IsFix shut (codes "fix ") (fix-element k i) 0).longer p.fixes h.fixes)

page-front-lines : (k i : ℕ) (p : ListedPage) → (rest : List ℕ) × (page_lines k (i, p) ≡ codes "page " ++ rest)
page-front-lines k i p =
    let front = page-front k i (head_of p) in (
      front.0 ++ list_text (numbered_fix k i) 0 p.fixes,
      page-lines k i p ∙ ap (λ x. x ++ list_text (numbered_fix k i) 0 p.fixes) front.1 ∙ append_assoc (codes "page ") front.0 (list_text (numbered_fix k i) 0 p.fixes),
    )

pub page-element : (k : ℕ) → IsElement (page_lines k) IsPage page_opens (codes "page ")
page-element k = record {
  piece = piece-test (codes "page ") refl;
  some = page_of (code-page k 0).some [];
  inside = record { place = (code-page k 0).inside; fixes = tt };
  front = λ i p _. page-front-lines k i p;
  one = page-one k;
  pieces = λ p h. (star-form (numbered_fix k 0) IsFix shut (codes "fix ") (fix-element k 0) 0).pieces p.fixes h.fixes;
  longer = λ i p h. page-longer k i p h;
  differ = λ p h. among-differ (codes "fix " ∷ []) (codes "page ") (page_opens p) refl (fixes-known p.fixes h.fixes);
}

-- a page's line, and its fixups
pub page-reads-whole : (k i : ℕ) (h : PageHead) (fixes : List Fix) (old mid new : State) → Reads (page_head_line k i) HasHeadData shut h old mid
    → Reads (list_text (numbered_fix k i) 0) (AllIn IsFix) fix_opens fixes mid new → Reads (λ p. page_lines k (i, p)) IsPage page_opens (page_of h fixes) old new
page-reads-whole k i h fixes old mid new first others =
    reads-after (page_head_line k i) HasHeadData shut (list_text (numbered_fix k i) 0) (AllIn IsFix) fix_opens (λ p. page_lines k (i, p)) IsPage page_opens
    h fixes (page_of h) old mid new (code-form (page_head_line k i) HasHeadData (code-page k i)) (star-form (numbered_fix k i) IsFix shut (codes "fix ") (fix-element k i) 0).broken
    (record {
      into = λ fs hh hf. record { place = hh; fixes = hf };
      text = λ fs _ _. page-lines k i (page_of h fs);
      opens = λ fs _ _. refl;
      back = λ p r s hh hp _ _ is.
          let fs = list_text (numbered_fix k i) 0 p.fixes in
          let same = (code-page k i).one h (head_of p) r (fs ++ s) hh hp.place
          (is ∙ ap (λ x. x ++ s) (page-lines k i p) ∙ append_assoc (page_head_line k i (head_of p)) fs s) in
          (p.fixes, hp.fixes, ap (λ x. page_of x p.fixes) (sym same.0));
      starts = λ x hx. (page_of x [], list_text (numbered_fix k i) 0 [], record { place = hx; fixes = tt }, page-lines k i (page_of x []));
      begins = λ p u x r s hp _ _ is.
          let fs = list_text (numbered_fix k i) 0 p.fixes in
          (head_of p, fs ++ s, hp.place, tt, ap (λ y. y ++ s) (page-lines k i p) ∙ append_assoc (page_head_line k i (head_of p)) fs s);
    })
    first others

-- ---- objects

abbrev object_head : ListedObject → ObjectHead
object_head o = record { size = o.size; base = o.base; flags = o.flags; count = length o.pages }

abbrev object_of : ObjectHead → List ListedPage → ListedObject
object_of h pages = record { size = h.size; base = h.base; flags = h.flags; pages = pages }

object-lines : (k : ℕ) (o : ListedObject) → object_lines (k, o) ≡ object_head_line k (object_head o) ++ list_text (page_lines k) 0 o.pages
unfolding object_lines object_line
object-lines k o = refl

head-range : (o : ListedObject) → IsObject o → IsObjectHead (object_head o)
head-range o h = record { size = h.size; base = h.base; flags = h.flags; count = h.count }

object-one : (k : ℕ) (a b : ListedObject) (r s : List ℕ) → IsObject a → IsObject b → AllApart (object_opens a) r → AllApart (object_opens b) s
    → object_lines (k, a) ++ r ≡ object_lines (k, b) ++ s → (a ≡ b) × (r ≡ s)
object-one k a b r s ha hb ra sb is =
    let pa = list_text (page_lines k) 0 a.pages in
    let pb = list_text (page_lines k) 0 b.pages in
    let heads = (code-object k).one (object_head a) (object_head b) (pa ++ r) (pb ++ s) (head-range a ha) (head-range b hb)
    (sym (append_assoc (object_head_line k (object_head a)) pa r) ∙ ap (λ x. x ++ r) (sym (object-lines k a)) ∙ is ∙ ap (λ x. x ++ s) (object-lines k b)
    ∙ append_assoc (object_head_line k (object_head b)) pb s) in
    let others = (count-form (page_lines k) IsPage page_opens (codes "page ") (page-element k) (length a.pages) 0).one a.pages b.pages r s (ha.pages, refl)
    (hb.pages, sym (ap (λ (h : ObjectHead). h.count) heads.0)) ra sb heads.1 in
    (ap (λ h. object_of h a.pages) heads.0 ∙ ap (object_of (object_head b)) others.0, others.1)

abbrev LongerObject : ℕ → ListedObject → List ℕ → Type 0
LongerObject k o v = (q : ListedObject) × (rest : List ℕ) × IsObject q × (object_lines (k, q) ≡ object_lines (k, o) ++ (v ++ rest))

abbrev with_count : ObjectHead → ℕ → ObjectHead
with_count h n = record { size = h.size; base = h.base; flags = h.flags; count = n }

object-longer : (k : ℕ) (o : ListedObject) → IsObject o → AllByRecursion (LongerObject k o) (object_opens o)
object-longer k o h =
    map-all (page_lines k) IsPage page_opens (codes "page ") (page-element k)
    (λ v. (ys : List ListedPage) × (rest : List ℕ) × CountIn IsPage (length o.pages) ys × (list_text (page_lines k) 0 ys ≡ list_text (page_lines k) 0 o.pages ++ (v ++ rest)))
    (LongerObject k o) (object_opens o)
    (λ v more.
    let q = object_of (object_head o) more.0 in
    let head = object_head_line k (object_head o) in (
      q,
      more.1,
      record { size = h.size; base = h.base; flags = h.flags; count = subst Has32 (sym more.2.1) h.count; pages = more.2.0 },
      object-lines k q ∙ ap (λ n. object_head_line k (with_count (object_head o) n) ++ list_text (page_lines k) 0 more.0) more.2.1
          ∙ ap (λ x. head ++ x) more.3 ∙ sym (append_assoc head (list_text (page_lines k) 0 o.pages) (v ++ more.1)) ∙ ap (λ x. x ++ (v ++ more.1)) (sym (object-lines k o)),
    ))
    ((count-form (page_lines k) IsPage page_opens (codes "page ") (page-element k) (length o.pages) 0).longer o.pages (h.pages, refl))

pages-known : (pages : List ListedPage) → AllIn IsPage pages → AllByRecursion (λ v. is_among v (codes "fix " ∷ []) ≡ true) (list_opens [] page_opens pages)
pages-known pages h = opens-among (codes "fix " ∷ []) [] page_opens IsPage (λ p hp. fixes-known p.fixes hp.fixes) tt pages h

pub object-element : IsElement object_lines IsObject object_opens (codes "object ")
object-element = record {
  piece = piece-test (codes "object ") refl;
  some = record { size = 0; base = 0; flags = 0; pages = [] };
  inside = record { size = omega arith; base = omega arith; flags = omega arith; count = omega arith; pages = tt };
  front = λ k o _.
      let front = object-front k (object_head o) in (
        front.0 ++ list_text (page_lines k) 0 o.pages,
        object-lines k o ∙ ap (λ x. x ++ list_text (page_lines k) 0 o.pages) front.1 ∙ append_assoc (codes "object ") front.0 (list_text (page_lines k) 0 o.pages),
      );
  one = object-one;
  pieces = λ o h. (count-form (page_lines 0) IsPage page_opens (codes "page ") (page-element 0) (length o.pages) 0).pieces o.pages (h.pages, refl);
  longer = λ k o h. object-longer k o h;
  differ = λ o h. among-differ (codes "fix " ∷ []) (codes "object ") (object_opens o) refl (pages-known o.pages h.pages);
}

pub objects-known : (o : ListedObject) → IsObject o → AllByRecursion (λ v. is_among v (codes "fix " ∷ codes "object " ∷ []) ≡ true) (object_opens o)
objects-known o h = wider (object_opens o) (pages-known o.pages h.pages)
  where
    wider : (ps : List (List ℕ)) → AllByRecursion (λ v. is_among v (codes "fix " ∷ []) ≡ true) ps → AllByRecursion (λ v. is_among v (codes "fix " ∷ codes "object " ∷ []) ≡ true) ps
    wider [] h = tt
    wider (p ∷ ps) h = (more p (same_bytes p (codes "fix ")) refl h.0, wider ps h.1)
      where
        more : (p : List ℕ) (t : Bool) → same_bytes p (codes "fix ") ≡ t → is_among p (codes "fix " ∷ []) ≡ true → is_among p (codes "fix " ∷ codes "object " ∷ []) ≡ true
        more p true e h = ap (λ t. t || is_among p (codes "object " ∷ [])) e
        more p false e h = absurd (both_ways (is_among p (codes "fix " ∷ [])) (ap (λ t. t || false) e) h)

-- an object's line, and as many pages as it says
pub object-reads-whole : (k : ℕ) (h : ObjectHead) (pages : List ListedPage) (old mid new : State) → Reads (object_head_line k) IsObjectHead shut h old mid
    → Reads (list_text (page_lines k) 0) (CountIn IsPage h.count) (list_opens [] page_opens) pages mid new
    → Reads (λ o. object_lines (k, o)) IsObject object_opens (object_of h pages) old new
object-reads-whole k h pages old mid new first others =
    reads-after (object_head_line k) IsObjectHead shut (list_text (page_lines k) 0) (CountIn IsPage h.count) (list_opens [] page_opens) (λ o. object_lines (k, o)) IsObject
    object_opens h pages (object_of h) old mid new (code-form (object_head_line k) IsObjectHead (code-object k))
    (count-form (page_lines k) IsPage page_opens (codes "page ") (page-element k) h.count 0).broken
    (record {
      into = λ ps hh hp. record { size = hh.size; base = hh.base; flags = hh.flags; count = subst Has32 (sym hp.1) hh.count; pages = hp.0 };
      text = λ ps _ hp.
          object-lines k (object_of h ps) ∙ ap (λ n. object_head_line k (with_count h n) ++ list_text (page_lines k) 0 ps) hp.1;
      opens = λ ps _ _. refl;
      back = λ o r s hh ho _ _ is.
          let ps = list_text (page_lines k) 0 o.pages in
          let same = (code-object k).one h (object_head o) r (ps ++ s) hh (head-range o ho)
          (is ∙ ap (λ x. x ++ s) (object-lines k o) ∙ append_assoc (object_head_line k (object_head o)) ps s) in
          (o.pages, (ho.pages, sym (ap (λ (x : ObjectHead). x.count) same.0)), ap (λ x. object_of x o.pages) (sym same.0));
      starts = λ x hx.
          let ps = so-many (page_lines k) IsPage page_opens (codes "page ") (page-element k) x.count in (
            object_of x ps.0,
            list_text (page_lines k) 0 ps.0,
            record { size = hx.size; base = hx.base; flags = hx.flags; count = subst Has32 (sym ps.1.1) hx.count; pages = ps.1.0 },
            object-lines k (object_of x ps.0) ∙ ap (λ n. object_head_line k (with_count x n) ++ list_text (page_lines k) 0 ps.0) ps.1.1,
          );
      begins = λ o u x r s ho _ _ is.
          let ps = list_text (page_lines k) 0 o.pages in
          (object_head o, ps ++ s, head-range o ho, tt, ap (λ y. y ++ s) (object-lines k o) ∙ append_assoc (object_head_line k (object_head o)) ps s);
    })
    first others
