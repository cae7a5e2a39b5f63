-- The parts of a faultless file fit each other: tables by places.
use Rattle.std.proofs.Common.{◌≡◌, ℕ, ◌+◌, ◌-◌, ◌*◌, ◌<◌, ◌≤◌, ◌&&◌, ◌||◌, Bool, true, false, cond, eqb, ltb, leb, List, length, Option, Some, None, refl, subst, le-leb, arith}
use Rattle.std.specs.Prelude.{All}
use Rattle.std.proofs.lemmas.Bool.Decides.{nat_tests}
use Rattle.lx_types.specs.declared.refusal.LxRefusal.{LxRefusal}
use Rattle.lx_types.specs.declared.object.ObjHead.{ObjHead}
use Rattle.lx_types.specs.declared.object.PageKind.{PageKind}
use Rattle.lx_types.specs.declared.object.PageKind.TheVariants.{Plain, Iterated, Invalid, Zero}
use Rattle.lx_types.specs.declared.refusal.LxKind.TheVariants.{FixTable, Field}
use Rattle.lx_types.specs.Sound.{HasPages, DataFits, IsNumberOf}
use Rattle.std.specs.Prelude.{IfSome}
use Rattle.lx_model.specs.declared.header_fields.TheConstants.{EIP_OBJECT, EIP}
use Rattle.lx_model.specs.Reading.{fault, number_at, ◌then◌, short_at, first_of}
use Rattle.lx_model.specs.Header.{header_place, page_count, object_count, start_of, start_fault, field}
use Rattle.lx_model.specs.Tables.{object_entry, object_place, object_fault, objects_fault, lacks_pages, objects_of, page_place, page_entry, page_fault, data_fault, page_data, page_of_kind, page_kind, page_or_zero, pages_fault, page_heads}
use Rattle.lx_model.specs.FixupPages.{records_place, records_span, span_fault, spans_fault, spans_of, has_records, is_out_of_order, offset_place}
use Rattle.lx_model.proofs.Firsts.{then_none, each_none, each_entry, first_none}

-- ---- objects

has_pages : (pages : ℕ) (o : ObjHead) → lacks_pages pages o ≡ false → HasPages pages o
has_pages pages o e = grind (arith, nat_tests)

pub not_short : (n : ℕ) (file : List ℕ) (at : ℕ) → short_at n file at ≡ None → at + n ≤ length file
not_short n file at e = grind (arith, nat_tests)

-- an answer of None is not that of a test which gives a fault
if_false : (b : Bool) (e : LxRefusal) (other : Option LxRefusal) → cond b (Some e) other ≡ None → (b ≡ false) × (other ≡ None)
if_false true e other h = absurd cc
if_false false e other h = (refl, h)

and_false : (a b : Bool) → a ≡ true → (a && b) ≡ false → b ≡ false
and_false true b h e = e
and_false false b h e = absurd cc

object_is_whole : (file : List ℕ) (k : ℕ) → object_fault file k ≡ None → lacks_pages (page_count file) (object_entry file (object_place file k)) ≡ false
object_is_whole file k e =
    let at = object_place file k in
    let bad = lacks_pages (page_count file) (object_entry file at) in
    let inner = if_false (leb (at + 20) (length file) && bad) _ _ e in
    let last = not_short 4 file (at + 20) (first_none (λ i. short_at 4 file (at + 4 * i)) 0 6 5 inner.1 (omega arith) (omega arith)) in
    and_false (leb (at + 20) (length file)) bad (le-leb _ _ (omega arith)) inner.0

pub objects_fit : (file : List ℕ) → objects_fault file ≡ None → All (HasPages (page_count file)) (objects_of file)
unfolding objects_fault objects_of
objects_fit file e = each_entry (HasPages (page_count file)) (λ k. object_entry file (object_place file k)) (object_count file)
    (λ k lt. has_pages (page_count file) (object_entry file (object_place file k)) (object_is_whole file k (each_none (object_count file) (object_fault file) k e lt)))

-- ---- pages

kind_fits : (file : List ℕ) (at : ℕ) (kind : PageKind) → data_fault file at (Some (page_data file at kind)) ≡ None → DataFits (length file) (page_data file at kind)
kind_fits file at Plain e = grind (arith, nat_tests)
kind_fits file at Iterated e = grind (arith, nat_tests)
kind_fits file at Invalid e = (omega arith, (refl, refl))
kind_fits file at Zero e = (omega arith, (refl, refl))

page_fits : (file : List ℕ) (at : ℕ) (kind : Option PageKind) → data_fault file at (page_of_kind file at kind) ≡ None → DataFits (length file) (page_or_zero (page_of_kind file at kind))
page_fits file at (Some kind) e = kind_fits file at kind e
page_fits file at None e = absurd cc

pub page_is_whole : (file : List ℕ) (k : ℕ) → page_fault file k ≡ None → data_fault file (page_place file k) (page_entry file (page_place file k)) ≡ None
page_is_whole file k e =
    let at = page_place file k in
    let judged = data_fault file at (page_entry file at) in
    let after_offset = then_none (short_at 4 file at) (short_at 2 file (at + 4) then short_at 2 file (at + 6) then judged) e in
    let after_size = then_none (short_at 2 file (at + 4)) (short_at 2 file (at + 6) then judged) after_offset.1 in
    (then_none (short_at 2 file (at + 6)) judged after_size.1).1

pub pages_fit : (file : List ℕ) → pages_fault file ≡ None → All (DataFits (length file)) (page_heads file)
unfolding pages_fault page_heads
pages_fit file e = each_entry (DataFits (length file)) (λ k. page_or_zero (page_entry file (page_place file k))) (page_count file)
    (λ k lt. page_fits file (page_place file k) (page_kind (number_at 2 file (page_place file k + 6))) (page_is_whole file k (each_none (page_count file) (page_fault file) k e lt)))

-- ---- spans

abbrev SpanFits : ℕ → ℕ × ℕ → Type 0
SpanFits file s = (s.0 ≤ s.1) × (s.1 ≤ file)

in_order_numbers : (k low before file : ℕ) → ((ltb 0 (k + 1) && ltb low before) || ltb file low) ≡ false → (before ≤ low) × (low ≤ file)
in_order_numbers k low before file e = (grind (arith, nat_tests), grind (arith, nat_tests))

in_order : (file : List ℕ) (k : ℕ) → span_fault file (k + 1) ≡ None → SpanFits (length file) (records_place file k, records_place file (k + 1))
in_order file k e =
    let wrong = is_out_of_order file (k + 1) || ltb (length file) (records_place file (k + 1)) in
    let at = offset_place file (k + 1) in
    let judged = then_none (short_at 4 file at) (cond wrong (Some (fault FixTable at)) None) e in
    let right = if_false wrong (fault FixTable at) None judged.1 in
    let same : k + 1 - 1 ≡ k = omega arith in
    subst (λ (j : ℕ). SpanFits (length file) (records_place file j, records_place file (k + 1))) same
    (in_order_numbers k (records_place file (k + 1)) (records_place file (k + 1 - 1)) (length file) right.0)

span_fits : (file : List ℕ) (has : Bool) → cond has (first_of (page_count file + 1) (span_fault file)) None ≡ None →
    (k : ℕ) → k < page_count file → SpanFits (length file) (cond has (records_place file k, records_place file (k + 1)) (0, 0))
span_fits file true e k lt = in_order file k (each_none (page_count file + 1) (span_fault file) (k + 1) e (omega arith))
span_fits file false e k lt = (omega arith, omega arith)

pub spans_fit : (file : List ℕ) → spans_fault file ≡ None → All (SpanFits (length file)) (spans_of file)
unfolding spans_fault spans_of
spans_fit file e = each_entry (SpanFits (length file)) (records_span file) (page_count file) (span_fits file (has_records file) e)

-- ---- the start

start_is : (count object offset : ℕ) (none : Bool) → eqb object 0 ≡ none → object ≤ count → IfSome {T = ℕ × ℕ} (cond none None (Some (object, offset))) (λ s. IsNumberOf s.0 count)
start_is count object offset true e below = tt
start_is count object offset false e below = (grind (arith, nat_tests), below)

in_range : (count object : ℕ) (e : LxRefusal) → cond (leb object count) None (Some e) ≡ None → object ≤ count
in_range count object e h = grind (arith, nat_tests)

pub start_fits : (file : List ℕ) → start_fault file ≡ None → IfSome (start_of file) (λ (s : ℕ × ℕ). IsNumberOf s.0 (object_count file))
start_fits file e =
    let object = field file EIP_OBJECT in
    start_is (object_count file) object (field file EIP) (eqb object 0) refl (in_range (object_count file) object (fault Field (header_place file + EIP_OBJECT)) e)
