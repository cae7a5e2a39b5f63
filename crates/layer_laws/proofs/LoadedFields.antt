-- Where a fixup record covers a place, and puts there what the fixup means, the loaded byte is the one that the link means.
use Rattle.std.specs.Prelude.{◌≡◌, ℕ, suc, ◌+◌, ◌-◌, ◌*◌, ◌/◌, ◌%◌, ◌<◌, ◌==◌, ◌&&◌, nat_lt, nat_le, not, Bool, true, false, List, Some, length, slice_get, slice_index, refl}
use Rattle.std.specs.Option.{option_map}
use Rattle.std.proofs.Common.{ap, sym, ◌∙◌, arith, subst, inl, inr}
use Rattle.std.proofs.Math.Nat.{mod-lt}
use Rattle.std.proofs.lemmas.Bool.{leb-true, ltb-true, lt-ltb, and_parts, and_from}
use Rattle.std.proofs.lemmas.Option.{same_Some}
use Rattle.lx_types.specs.declared.bases.Bases.{Bases}
use Rattle.lx_types.specs.declared.fix.Fix.{Fix}
use Rattle.lx_types.specs.declared.fix.FixTarget.{FixTarget}
use Rattle.lx_types.specs.declared.object.TheConstants.{PAGE_SIZE}
use Rattle.lx_types.specs.declared.parts.Parts.{Parts}
use Rattle.obj_types.specs.Location.{location_len}
use Rattle.link_model.specs.declared.symbols.LaidObject.{LaidObject}
use Rattle.link_model.specs.Link.{Link}
use Rattle.link_model.specs.Fixups.{Fixup}
use Rattle.link_model.specs.Layout.{objects}
use Rattle.link_model.specs.Mean.{fixup_end, live_fixups, fixup_covers, Mean}
use Rattle.link_model.specs.Patches.{is_patched, recorded}
use Rattle.link_model.specs.Records.{target_and_additive, record_on, stands_on, page_records}
use Rattle.link_model.specs.Value.{World, value_bytes}
use Rattle.link_model.proofs.Members.{In, from_filter, in_filter, in_map}
use Rattle.link_model.proofs.ValueLengths.{values_fit}
use Rattle.lx_model.specs.ModuleBytes.{page_with, FixedByte}
use Rattle.image_model.specs.Linked.{fix_in_file}
use Rattle.image_model.proofs.FewImports.{in-filter_map}
use Rattle.layer_laws.proofs.Lists.{each-of}
use Rattle.layer_laws.proofs.MeanBytes.{found-there, value-is, mean-of}
use Rattle.layer_laws.proofs.FixedBytes.{Outcome, put, fixed-put, byte-inside}
use Rattle.layer_laws.proofs.RecordBytes.{record-with, of-fixup, bytes-of, put-is, put-outside}
use Rattle.layer_laws.proofs.LoadedPages.{Loaded, page-fixes, sources-moved, in-page, location-some, stands-there}

-- ---- a fixup that is left to the loader

pub recorded-live : (l : Link) (q : Fixup) → In q (recorded l) → In q (live_fixups l)
unfolding recorded
recorded-live l q i = from_filter (λ (t : Fixup). not (is_patched t)) (live_fixups l) i

-- What covers a place stands on its page.
pub stands-here : (n x : ℕ) (q : Fixup) → fixup_covers n x q ≡ true → stands_on n (x / PAGE_SIZE) q ≡ true
stands-here n x q covers =
    let k = x / PAGE_SIZE in
    let last = and_parts (q.object == n && nat_le q.offset x) (nat_lt x (fixup_end q)) covers in
    let first = and_parts (q.object == n) (nat_le q.offset x) last.0 in
    let from = leb-true q.offset x first.1 in
    let below = ltb-true x (fixup_end q) last.1 in
    let whole = in-page x in
    let rest : x % PAGE_SIZE < PAGE_SIZE = mod-lt x (omega arith) in
    and_from (q.object == n && nat_lt (k * PAGE_SIZE) (fixup_end q)) (nat_lt q.offset (k * PAGE_SIZE + PAGE_SIZE)) (and_from (q.object == n) (nat_lt (k * PAGE_SIZE) (fixup_end q)) first.0 (lt-ltb (k * PAGE_SIZE) (fixup_end q) (omega (arith, whole, below)))) (lt-ltb q.offset (k * PAGE_SIZE + PAGE_SIZE) (omega (arith, whole, rest, from)))

-- Its record is one of those of the page.
pub record-here : (l : Link) (n x : ℕ) (q : Fixup) (t : FixTarget × ℕ) → In q (recorded l) → fixup_covers n x q ≡ true → target_and_additive l q q.target ≡ Some t → In (fix_in_file l (record-with (x / PAGE_SIZE) q t)) (page-fixes l n (x / PAGE_SIZE))
unfolding page_records
record-here l n x q t i covers led =
    let k = x / PAGE_SIZE in
    let kept = in_filter (stands_on n k) i (stands-here n x q covers) in
    let gives : record_on l k q ≡ Some (record-with k q t) = ap (option_map (record-with k q)) led in
    in_map (fix_in_file l) (in-filter_map (record_on l k) kept gives)

-- ---- its byte

-- The byte of its value at a place.
abbrev byte_of : Link → World → ℕ → Fixup → ℕ
byte_of l w x q = slice_index (value_bytes l w q) (x - q.offset)

put_here : (l : Link) (lib : List Parts) (m : ℕ) → Loaded l lib m → (bases : Bases) (w : World) (n x : ℕ) (q : Fixup) (t : FixTarget × ℕ) → In q (recorded l) → fixup_covers n x q ≡ true
    → bytes-of lib m bases (page_with n x) (fix_in_file l (record-with (x / PAGE_SIZE) q t)) ≡ value_bytes l w q → put lib m bases (page_with n x) (x % PAGE_SIZE) (fix_in_file l (record-with (x / PAGE_SIZE) q t)) ≡ Some (byte_of l w x q)
put_here l lib m loaded bases w n x q t i covers same =
    let k = x / PAGE_SIZE in
    let r = x % PAGE_SIZE in
    let bytes = bytes-of lib m bases (page_with n x) (fix_in_file l (record-with k q t)) in
    let whole = in-page x in
    let last = and_parts (q.object == n && nat_le q.offset x) (nat_lt x (fixup_end q)) covers in
    let first = and_parts (q.object == n) (nat_le q.offset x) last.0 in
    let from = leb-true q.offset x first.1 in
    let below = ltb-true x (fixup_end q) last.1 in
    let some = location-some l q loaded.known i in
    let long : length bytes ≡ location_len q.fix.loc =
    ap length same ∙ values_fit l w q (value_bytes l w q) some (value-is l w q loaded.known.place_none (recorded-live l q i)) in
    put-is lib m bases (page_with n x) r l k q t
    ∙ byte-inside bytes q.offset (k * PAGE_SIZE) r (omega (arith, whole, from)) (omega (arith, whole, below, long))
    ∙ ap (λ (ys : List ℕ). Some (slice_index ys (k * PAGE_SIZE + r - q.offset))) same
    ∙ ap (λ (y : ℕ). Some (slice_index (value_bytes l w q) (y - q.offset))) whole

-- Every other record of the page puts nothing there, or it is the same.
other_put : (l : Link) (lib : List Parts) (m : ℕ) → Loaded l lib m → (bases : Bases) (w : World) (n x : ℕ) (q : Fixup) (t : FixTarget × ℕ) → In q (recorded l) → fixup_covers n x q ≡ true → target_and_additive l q q.target ≡ Some t
    → bytes-of lib m bases (page_with n x) (fix_in_file l (record-with (x / PAGE_SIZE) q t)) ≡ value_bytes l w q → (f : Fix) → In f (page-fixes l n (x / PAGE_SIZE)) → Outcome (byte_of l w x q) (put lib m bases (page_with n x) (x % PAGE_SIZE) f)
other_put l lib m loaded bases w n x q t i covers led same f inside =
    let r = of-fixup l n (x / PAGE_SIZE) f inside in
    subst (λ (g : Fix). Outcome (byte_of l w x q) (put lib m bases (page_with n x) (x % PAGE_SIZE) g)) (sym r.is) (by r.fixup r.target r.inside r.stands r.led (fixup_covers n x r.fixup) refl)
  where
    by : (p : Fixup) (u : FixTarget × ℕ) → In p (recorded l) → stands_on n (x / PAGE_SIZE) p ≡ true → target_and_additive l p p.target ≡ Some u → (b : Bool) → fixup_covers n x p ≡ b
        → Outcome (byte_of l w x q) (put lib m bases (page_with n x) (x % PAGE_SIZE) (fix_in_file l (record-with (x / PAGE_SIZE) p u)))
    by p u j stands to false is =
        inl (put-outside lib m bases (page_with n x) n x (x / PAGE_SIZE) (x % PAGE_SIZE) l p u (location-some l p loaded.known j) (in-page x) (stands-there n (x / PAGE_SIZE) p stands) is)
    by p u j stands to true is =
        let one : q ≡ p = same_Some q p (sym (found-there l n x q (recorded-live l q i) covers) ∙ found-there l n x p (recorded-live l p j) is) in
        let led_there : target_and_additive l q q.target ≡ Some u = subst (λ (a : Fixup). target_and_additive l a a.target ≡ Some u) (sym one) to in
        let target : t ≡ u = same_Some t u (sym led ∙ led_there) in
        let mine = put_here l lib m loaded bases w n x q t i covers same in
        inr (subst (λ (a : Fixup). put lib m bases (page_with n x) (x % PAGE_SIZE) (fix_in_file l (record-with (x / PAGE_SIZE) a u)) ≡ Some (byte_of l w x q)) one
        (subst (λ (v : FixTarget × ℕ). put lib m bases (page_with n x) (x % PAGE_SIZE) (fix_in_file l (record-with (x / PAGE_SIZE) q v)) ≡ Some (byte_of l w x q)) target mine))

pub covered-byte : (l : Link) (lib : List Parts) (m : ℕ) → Loaded l lib m → (bases : Bases) (w : World) (i x : ℕ) (o : LaidObject) → slice_get (objects l) i ≡ Some o → x < o.size → (q : Fixup) (t : FixTarget × ℕ) → In q (recorded l)
    → fixup_covers (suc i) x q ≡ true → target_and_additive l q q.target ≡ Some t → bytes-of lib m bases (page_with (suc i) x) (fix_in_file l (record-with (x / PAGE_SIZE) q t)) ≡ value_bytes l w q → FixedByte lib m bases (suc i) x ≡ Mean l w (suc i) x
covered-byte l lib m loaded bases w i x o e below q t inside covers led same =
    let p = page_with (suc i) x in
    let fs = page-fixes l (suc i) (x / PAGE_SIZE) in
    let live = recorded-live l q inside in
    let each = each-of (λ f. Outcome (byte_of l w x q) (put lib m bases p (x % PAGE_SIZE) f)) fs (other_put l lib m loaded bases w (suc i) x q t inside covers led same) in
    fixed-put lib m bases p (x % PAGE_SIZE) (byte_of l w x q) fs (fix_in_file l (record-with (x / PAGE_SIZE) q t)) (sources-moved l lib m loaded i x o e below) each (record-here l (suc i) x q t inside covers led) (put_here l lib m loaded bases w (suc i) x q t inside covers same)
    ∙ sym (mean-of l w (suc i) x q loaded.known.place_none live (found-there l (suc i) x q live covers))
