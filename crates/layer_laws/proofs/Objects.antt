-- The object table of a link fits its fields, and its pages are few.
use Rattle.std.specs.Prelude.{◌≡◌, ℕ, ◌+◌, ◌-◌, ◌*◌, ◌<◌, ◌≤◌, ◌^◌, ◌==◌, if◌then◌else◌, Bool, true, false, List, [], ◌∷◌, None, map, max, length, sum_by}
use Rattle.std.specs.List.{AllByRecursion, enumerate_from, range_with_len}
use Rattle.std.proofs.Common.{◌∙◌, arith}
use Rattle.std.proofs.Math.Nat.{mul-div-le, div-mul-le_self, max-le}
use Rattle.std.proofs.lemmas.List.{length-map}
use Rattle.std.proofs.lemmas.List.FromFn.{length-range_with_len}
use Rattle.std.proofs.lemmas.List.Sums.{sum_by-cons}
use Rattle.lx_types.specs.Addresses.{room}
use Rattle.lx_types.specs.declared.limits.TheConstants.{BASE_UNIT}
use Rattle.lx_types.specs.declared.fix.Fix.{Fix}
use Rattle.lx_types.specs.declared.object.TheConstants.{PAGE_SIZE, OBJECT_READABLE, OBJECT_WRITABLE, OBJECT_EXECUTABLE, OBJECT_SHARED, OBJECT_PRELOAD, OBJECT_CONFORMING, OBJECT_IOPL}
use Rattle.obj_types.specs.Definition.{WholeDef}
use Rattle.obj_types.specs.declared.definition.Attrs.{Attrs}
use Rattle.link_model.specs.declared.symbols.LaidObject.{LaidObject}
use Rattle.link_model.specs.Link.{Link}
use Rattle.link_model.specs.Parts.{Part}
use Rattle.link_model.specs.Flags.{attrs_of, flag, flags_with, flags_of}
use Rattle.link_model.specs.Order.{object_heads}
use Rattle.link_model.specs.Rows.{end_in, rows}
use Rattle.link_model.specs.Layout.{placed_from, first_base, objects}
use Rattle.link_model.specs.LayoutRefusals.{lay_refusal}
use Rattle.link_model.specs.Records.{page_count, page_records, object_records}
use Rattle.lx_model.specs.TableSpelling.{ObjectHeadFits}
use Rattle.image_model.specs.Linked.{page_forms}
use Rattle.image_model.specs.ObjectTable.{object_heads_from}
use Rattle.image_model.proofs.PageCounts.{pages-are}
use Rattle.link_model.proofs.RowLimits.{base-within}
use Rattle.layer_laws.proofs.Sizes.{sizes-within, few-objects}

-- ---- sizes

abbrev together : List LaidObject → ℕ
together os = sum_by (λ o. o.size) os

small_max : (n : ℕ) → max 1 n ≤ n + 1
small_max n = max-le (omega arith) (omega arith)

-- The room of an object is at most 64 KiB more than it has.
room_small : (n : ℕ) → room n ≤ n + 65536
room_small n =
    let least = small_max n in
    let whole = div-mul-le_self (max 1 n + (BASE_UNIT - 1)) BASE_UNIT in
    omega (arith, least, whole)

pages_small : (n : ℕ) → 4096 * page_count n ≤ n + 4095
pages_small n = mul-div-le (n + (PAGE_SIZE - 1)) PAGE_SIZE

-- ---- flags

pub flag_small : (b : Bool) (n : ℕ) → flag b n ≤ n
flag_small true n = omega arith
flag_small false n = omega arith

wide_small : (wide : Bool) → (if wide then 0x2000 else 0x1000) ≤ 0x2000
wide_small true = omega arith
wide_small false = omega arith

flags_small : (a : Attrs) (wide : Bool) → flags_with a wide < 2 ^ 32
flags_small a wide =
    let read = flag_small a.read OBJECT_READABLE in
    let write = flag_small a.write OBJECT_WRITABLE in
    let exec = flag_small a.exec OBJECT_EXECUTABLE in
    let shared = flag_small a.shared OBJECT_SHARED in
    let preload = flag_small a.preload OBJECT_PRELOAD in
    let conforming = flag_small a.conforming OBJECT_CONFORMING in
    let iopl = flag_small a.iopl OBJECT_IOPL in
    let width = wide_small wide in
    omega (arith, read, write, exec, shared, preload, conforming, iopl, width)

each_flags : (size : ℕ → ℕ) (l : Link) (b : ℕ) (hs : List Part) → AllByRecursion (λ (q : ℕ × ℕ). q.1 < 2 ^ 32) (map (λ q. (size q.0, flags_of l q.1)) (enumerate_from b hs))
each_flags size l b [] = tt
each_flags size l b (h ∷ hs) = (flags_small (attrs_of l h) h.wide, each_flags size l (b + 1) hs)

-- ---- the object table

first_small : (b : Bool) (first : ℕ) → first < 2 ^ 32 → (if b then 0 else first) < 2 ^ 32
first_small true first small = omega arith
first_small false first small = small

heads_fit : (qs : List (ℕ × ℕ)) (base first : ℕ) → AllByRecursion (λ (q : ℕ × ℕ). q.1 < 2 ^ 32) qs → base + together (placed_from base qs) + 65536 * length (placed_from base qs) < 2 ^ 32
    → 4096 * first + together (placed_from base qs) + 4095 * length (placed_from base qs) < 2 ^ 32 → AllByRecursion ObjectHeadFits (object_heads_from first (placed_from base qs))
heads_fit [] base first flags bases pages = tt
heads_fit (q ∷ qs) base first flags bases pages =
    let o : LaidObject = record { size = q.0; base = base; flags = q.1 } in
    let more = sum_by-cons (λ (x : LaidObject). x.size) o (placed_from (base + room q.0) qs) in
    let wide = room_small q.0 in
    let few = pages_small q.0 in (
      record {
        size = omega (arith, more, bases);
        base = omega (arith, bases);
        flags = flags.0;
        first = first_small (page_count q.0 == 0) first (omega (arith, pages));
        count = omega (arith, few, more, pages);
      },
      heads_fit qs (base + room q.0) (first + page_count q.0) flags.1 (omega (arith, more, wide, bases)) (omega (arith, more, few, pages)),
    )

pub objects-fit : (l : Link) → lay_refusal l ≡ None → WholeDef l.def → AllByRecursion ObjectHeadFits (object_heads_from 1 (objects l))
unfolding objects
objects-fit l none def =
    let qs = map (λ q. (end_in q.0 (rows l), flags_of l q.1)) (enumerate_from 1 (object_heads l)) in
    let most = sizes-within l none in
    let few = few-objects l none in
    let base = base-within l.def.base l.def.kind def.base in
    heads_fit qs (first_base l) 1 (each_flags (λ o. end_in o (rows l)) l 1 (object_heads l)) (omega (arith, most, few, base)) (omega (arith, most, few))

-- ---- pages

pages_within : (G : ℕ → ℕ → List Fix) (b : ℕ) (os : List LaidObject) → 4096 * sum_by length (map (λ q. map (G q.0) (range_with_len 0 (page_count q.1.size))) (enumerate_from b os)) ≤ together os + 4095 * length os
pages_within G b [] = omega arith
pages_within G b (o ∷ os) =
    let pages : List (List Fix) = map (G b) (range_with_len 0 (page_count o.size)) in
    let long : length pages ≡ page_count o.size = length-map (range_with_len 0 (page_count o.size)) (G b) ∙ length-range_with_len 0 (page_count o.size) in
    let rest = pages_within G (b + 1) os in
    let here = pages_small o.size in
    let one = sum_by-cons (λ (ps : List (List Fix)). length ps) pages (map (λ q. map (G q.0) (range_with_len 0 (page_count q.1.size))) (enumerate_from (b + 1) os)) in
    let other = sum_by-cons (λ (x : LaidObject). x.size) o os in
    omega (arith, long, rest, here, one, other)

pub few-pages : (l : Link) → lay_refusal l ≡ None → length (page_forms l) ≤ 65536
unfolding object_records
few-pages l none =
    let most = sizes-within l none in
    let few = few-objects l none in
    let pages = pages_within (page_records l) 1 (objects l) in
    let counted = pages-are l in
    omega (arith, most, few, pages, counted)
