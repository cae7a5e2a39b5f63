-- Where the pages of each object stand in the page table.
use Rattle.std.specs.Prelude.{◌≡◌, ℕ, zero, suc, ◌+◌, ◌-◌, ◌<◌, ◌≤◌, ◌==◌, Bool, true, false, if◌then◌else◌, List, [], ◌∷◌, ◌++◌, Some, length, get_or, slice_get, is_some, refl}
use Rattle.std.specs.List.{flat_map, enumerate_from}
use Rattle.std.proofs.Common.{ap, sym, ◌∙◌, arith, subst, true≢false, length-append}
use Rattle.std.proofs.Math.ListN.{get_or-append}
use Rattle.std.proofs.lemmas.Bool.Decides.{nat_tests}
use Rattle.std.proofs.lemmas.List.{get_or-append_right}
use Rattle.std.proofs.lemmas.Option.{get_or_from_slice_get, same_Some}
use Rattle.lx_types.specs.Parts.{no_object, object_of}
use Rattle.lx_types.specs.declared.object.ObjHead.{ObjHead}
use Rattle.link_model.specs.declared.symbols.LaidObject.{LaidObject}
use Rattle.link_model.specs.Link.{Link}
use Rattle.link_model.specs.Layout.{objects}
use Rattle.link_model.specs.Records.{page_count}
use Rattle.image_model.specs.Linked.{image_of}
use Rattle.image_model.specs.ObjectTable.{object_head, object_heads_from}
use Rattle.image_model.specs.ReadBack.{parts_of_image}

-- What `pages` gives of each object, one item a page, in the order of objects; they are numbered from b on.
abbrev pub all-of : {X : Type 0} → (ℕ × LaidObject → List X) → ℕ → List LaidObject → List X
all-of pages b os = flat_map pages (enumerate_from b os)

-- It has an item for each page.
abbrev pub Counts : {X : Type 0} → (ℕ × LaidObject → List X) → Type 0
Counts pages = (n : ℕ) (o : LaidObject) → length (pages (n, o)) ≡ page_count o.size

-- Page k of object i stands so many places after the first one of these.
pub record PageFound {X : Type 0} (pages : ℕ × LaidObject → List X) (d : X) (b first : ℕ) (os : List LaidObject) (i k : ℕ) (o : LaidObject) : Type 0 where
  pub head : ObjHead
  pub is : slice_get (object_heads_from first os) i ≡ Some head
  pub size : head.size ≡ o.size
  pub flags : head.flags ≡ o.flags
  pub count : head.count ≡ page_count o.size
  pub from : first ≤ head.first
  pub page : get_or (all-of pages b os) (head.first - first + k) d ≡ get_or (pages (b + i, o)) k d
  pub inside : head.first - first + k < length (all-of pages b os)

first_of : (b : Bool) (first : ℕ) → b ≡ false → (if b then 0 else first) ≡ first
first_of true first e = absurd (true≢false e)
first_of false first e = refl

not_zero : (n k : ℕ) → k < n → n == 0 ≡ false
not_zero n k h = grind (arith, nat_tests)

here_found : {X : Type 0} (pages : ℕ × LaidObject → List X) (d : X) (b first : ℕ) (p : LaidObject) (os : List LaidObject) (k : ℕ) → Counts pages → k < page_count p.size → PageFound pages d b first (p ∷ os) zero k p
here_found {X} pages d b first p os k counts small =
    let mine = pages (b, p) in
    let others = all-of pages (b + 1) os in
    let long = counts b p in
    let all = length-append mine others in
    let at : (object_head first p).first ≡ first = first_of (page_count p.size == 0) first (not_zero (page_count p.size) k small) in
    let place : (object_head first p).first - first + k ≡ k = omega (arith, at) in
    record {
      head = object_head first p;
      is = refl;
      size = refl;
      flags = refl;
      count = refl;
      from = omega (arith, at);
      page =
          ap (λ (n : ℕ). get_or (mine ++ others) n d) place
          ∙ get_or-append mine others d k (omega (arith, long, small))
          ∙ ap (λ (n : ℕ). get_or (pages (n, p)) k d) (let same : b ≡ b + 0 = omega arith in same);
      inside = omega (arith, place, all, long, small);
    }

page_found : {X : Type 0} (pages : ℕ × LaidObject → List X) (d : X) (b first : ℕ) (os : List LaidObject) (i k : ℕ) (o : LaidObject) → Counts pages → slice_get os i ≡ Some o → k < page_count o.size → PageFound pages d b first os i k o
page_found pages d b first [] i k o counts e below = absurd (true≢false (sym (ap is_some e)))
page_found pages d b first (p ∷ os) zero k o counts e below =
    let same = same_Some p o e in
    subst (PageFound pages d b first (p ∷ os) zero k) same (here_found pages d b first p os k counts (subst (λ (x : LaidObject). k < page_count x.size) (sym same) below))
page_found {X} pages d b first (p ∷ os) (suc i) k o counts e below =
    let mine = pages (b, p) in
    let others = all-of pages (b + 1) os in
    let long = counts b p in
    let all = length-append mine others in
    let r = page_found pages d (b + 1) (first + page_count p.size) os i k o counts e below in
    let from = r.from in
    let inside = r.inside in
    let place : r.head.first - first + k ≡ length mine + (r.head.first - (first + page_count p.size) + k) = omega (arith, long, from) in
    let next : r.head.first - first + k - length mine ≡ r.head.first - (first + page_count p.size) + k = omega (arith, place) in
    let number : b + 1 + i ≡ b + suc i = omega arith in
    record {
      head = r.head;
      is = r.is;
      size = r.size;
      flags = r.flags;
      count = r.count;
      from = omega (arith, from);
      page =
          get_or-append_right mine others (length mine) (r.head.first - first + k) d refl (omega (arith, place))
          ∙ ap (λ (n : ℕ). get_or others n d) next ∙ r.page ∙ ap (λ (n : ℕ). get_or (pages (n, o)) k d) number;
      inside = omega (arith, place, all, inside);
    }

-- ---- the object table of a link

-- Page k of object n of a link, in the page table of its file.
pub record ObjectFound {X : Type 0} (pages : ℕ × LaidObject → List X) (d : X) (l : Link) (n k : ℕ) (o : LaidObject) : Type 0 where
  pub head : ObjHead
  pub is : object_of (parts_of_image (image_of l)) n ≡ head
  pub flags : head.flags ≡ o.flags
  pub count : head.count ≡ page_count o.size
  pub page : get_or (all-of pages 1 (objects l)) (head.first - 1 + k) d ≡ get_or (pages (n, o)) k d
  pub inside : head.first - 1 + k < length (all-of pages 1 (objects l))

pub object-found : {X : Type 0} (pages : ℕ × LaidObject → List X) (d : X) (l : Link) (i k : ℕ) (o : LaidObject) → Counts pages → slice_get (objects l) i ≡ Some o → k < page_count o.size → ObjectFound pages d l (suc i) k o
unfolding parts_of_image image_of
object-found {X} pages d l i k o counts e below =
    let r = page_found pages d 1 1 (objects l) i k o counts e below in
    let number : 1 + i ≡ suc i = omega arith in
    let place : suc i - 1 ≡ i = omega arith in
    record {
      head = r.head;
      is = ap (λ (j : ℕ). get_or (object_heads_from 1 (objects l)) j no_object) place ∙ get_or_from_slice_get (object_heads_from 1 (objects l)) i r.head no_object r.is;
      flags = r.flags;
      count = r.count;
      page = r.page ∙ ap (λ (j : ℕ). get_or (pages (j, o)) k d) number;
      inside = r.inside;
    }
