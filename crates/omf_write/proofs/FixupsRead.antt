-- Written fixups are read as what they were, after the data on which they lie.
use Rattle.std.proofs.Common.{◌≡◌, ℕ, zero, suc, ◌+◌, ◌-◌, ◌*◌, ◌/◌, ◌%◌, ◌<◌, ◌≤◌, Bool, true, false, List, [], ◌∷◌, ◌++◌, length, map, take, drop, refl, sym, ap, subst, ◌∙◌, append_assoc, arith, length-append}
use Rattle.std.proofs.lemmas.List.{append-nil, take-append-drop, length-take, length-drop}
use Rattle.std.proofs.lemmas.Bool.Decides.{nat_tests}
use Rattle.std.specs.Prelude.{◌==◌, ◌&&◌, not, nat_le, nat_lt, unwrap_or}
use Rattle.std.specs.List.{AllByRecursion, flat_map, list_any}
use Rattle.std.proofs.lemmas.Bool.{leb-true, eqb-true}
use Rattle.lx_types.proofs.Lists.{all_front, all_back}
use Rattle.obj_types.specs.declared.limits.TheConstants.{MAX_FIXES}
use Rattle.obj_types.specs.declared.object.Piece.{Piece}
use Rattle.obj_types.specs.declared.object.Frame.TheVariants as frames
use Rattle.obj_types.specs.declared.object.Goal.TheVariants as goals
use Rattle.obj_types.specs.declared.object.FixAt.{FixAt}
use Rattle.obj_types.specs.declared.object.ObjModule.{ObjModule}
use Rattle.obj_types.specs.declared.parts.LastData.{LastData}
use Rattle.obj_types.specs.declared.parts.LastData.TheVariants as datas
use Rattle.obj_types.specs.declared.parts.ObjParts.{ObjParts}
use Rattle.obj_types.specs.Location.{location_len, has_selector, end_of, meets}
use Rattle.obj_types.specs.Whole.{WholeFix}
use Rattle.omf_fields.specs.Forms.{◌then◌, byte, each}
use Rattle.omf_model.specs.Record.{FixData, FixField, fixup, fixupp, location_of, offset_of, is_self_relative}
use Rattle.omf_model.specs.Fixups.{unset, set_threads, fixes_by, has_data, is_location, are_apart}
use Rattle.omf_model.specs.Add.{add, add_field, add_fields}
use Rattle.omf_model.specs.Spelling.{field_form, fix_data_form}
use Rattle.omf_model.specs.Good.{GoodField, GoodFields}
use Rattle.omf_model.proofs.FixLaws.{and_true}
use Rattle.omf_model.proofs.PairLaws.{Pairs}
use Rattle.omf_write.specs.declared.fixups.TheConstants.{PER_RECORD}
use Rattle.omf_write.specs.ObjectBytes.{bit, location_high, fixup_bytes, fix_data_bytes, fixupp_record, fixupp_records, records_needed}
use Rattle.omf_write.specs.Writable.{LiesOn}
use Rattle.omf_write.proofs.FieldBytes.{spells_as}
use Rattle.omf_write.proofs.FixupBytes.{bytes_len}
use Rattle.omf_write.proofs.FixDataRead.{data_parts, data_of, frame_is, goal_is, Few, fix_data_spelled, good_data}
use Rattle.omf_write.proofs.Goes.{Goes, one, stays, goes_on}
use Rattle.omf_write.proofs.ImportRead.{both}

-- ---- one fixup

-- what is known of a fixup that is written
pub record ReadyFix (m : ObjModule) (f : FixAt) : Type 0 where
  pub whole : WholeFix m f
  pub disp : f.disp < 0x100000000

abbrev pub last_of : Piece → LastData
last_of p = datas.Straight p.seg p.offset (length p.bytes)

abbrev from_piece : Piece → FixAt → ℕ
from_piece p f = f.offset - p.offset

abbrev field_of : Piece → FixAt → FixField
field_of p f = fixup (location_high f (from_piece p f)) (from_piece p f % 256) (data_of f.frame f.goal f.disp)

loc_small : (loc : ℕ) → 0 < location_len loc → loc ≤ 13
loc_small loc some = grind (arith, nat_tests)

-- the first two bytes
record Place (b loc offset high low : ℕ) : Type 0 where
  high_small : high < 256
  high_least : 128 ≤ high
  low_small : low < 256
  location : location_of high ≡ loc
  relative : high / 64 % 2 ≡ b
  offset_is : offset_of high low ≡ offset

place : (b loc offset : ℕ) → b ≤ 1 → loc ≤ 13 → offset < 1024 → Place b loc offset (128 + b * 64 + loc % 16 * 4 + offset / 256 % 4) (offset % 256)
place b loc offset one_bit most short = record {
  high_small = omega (arith, one_bit, most, short);
  high_least = omega (arith, one_bit, most, short);
  low_small = omega arith;
  location = omega (arith, one_bit, most, short);
  relative = omega (arith, one_bit, most, short);
  offset_is = omega (arith, one_bit, most, short);
}

not_bit_most : (b : Bool) → bit (not b) ≤ 1
not_bit_most true = omega arith
not_bit_most false = omega arith

not_bit_is : (b : Bool) (n : ℕ) → n ≡ bit (not b) → (n == 0) ≡ b
not_bit_is true n e = ap (λ (k : ℕ). k == 0) e
not_bit_is false n e = ap (λ (k : ℕ). k == 0) e

-- a location within a piece
record OnPiece (p : Piece) (f : FixAt) : Type 0 where
  seg : f.seg ≡ p.seg
  low : p.offset ≤ f.offset
  high : f.offset + location_len f.loc ≤ p.offset + length p.bytes

on_piece_is : (p : Piece) (f : FixAt) → LiesOn p f → OnPiece p f
on_piece_is p f on =
    let first = and_true (f.seg == p.seg) (nat_le p.offset f.offset && nat_le (end_of f) (p.offset + length p.bytes)) on in
    let second = and_true (nat_le p.offset f.offset) (nat_le (end_of f) (p.offset + length p.bytes)) first.1 in
    record { seg = eqb-true f.seg p.seg first.0; low = leb-true p.offset f.offset second.0; high = leb-true (end_of f) (p.offset + length p.bytes) second.1 }

short_offset : (p : Piece) (f : FixAt) → length p.bytes ≤ 1024 → 0 < location_len f.loc → OnPiece p f → from_piece p f < 1024
short_offset p f short some on = let high = on.high in let low = on.low in omega (arith, high, low, short, some)

-- what a fixup of a piece is
record IsFix (m : ObjModule) (p : Piece) (f : FixAt) : Type 0 where
  ready : ReadyFix m f
  on : OnPiece p f
  at : Place (bit (not f.selfrel)) f.loc (from_piece p f) (location_high f (from_piece p f)) (from_piece p f % 256)

is_fix : (m : ObjModule) (p : Piece) (f : FixAt) → length p.bytes ≤ 1024 → ReadyFix m f → LiesOn p f → IsFix m p f
is_fix m p f short ready lies =
    let on = on_piece_is p f lies in
    let some = ready.whole.location in
    record { ready = ready; on = on; at = place (bit (not f.selfrel)) f.loc (from_piece p f) (not_bit_most f.selfrel) (loc_small f.loc some) (short_offset p f short some on) }

field_spelled : (m : ObjModule) → Few m → (p : Piece) (f : FixAt) → IsFix m p f → field_form true (field_of p f) (fixup_bytes p.offset f)
field_spelled m few p f is =
    let high : ℕ = location_high f (from_piece p f) in
    let low : ℕ = from_piece p f % 256 in
    let tail : List ℕ = fix_data_bytes f.frame f.goal f.disp in
    let d : FixData = data_of f.frame f.goal f.disp in
    let whole = is.ready.whole in
    let after : fix_data_form true d tail = fix_data_spelled m few f.frame f.goal f.disp whole.frame whole.goal is.ready.disp in
    let second : (byte low then fix_data_form true d) (low ∷ tail) = both (byte low) (fix_data_form true d) (low ∷ []) tail (is.at.low_small, refl) after in
    (is.at.high_least, both (byte high) (byte low then fix_data_form true d) (high ∷ []) (low ∷ tail) (is.at.high_small, refl) second)

selfrel_is : (m : ObjModule) (p : Piece) (f : FixAt) → IsFix m p f → is_self_relative (location_high f (from_piece p f)) ≡ f.selfrel
selfrel_is m p f is = not_bit_is f.selfrel (location_high f (from_piece p f) / 64 % 2) is.at.relative

fixes_are : (m : ObjModule) (p : Piece) (f : FixAt) → IsFix m p f → fixes_by (last_of p) unset (field_of p f) ≡ f ∷ []
unfolding fixes_by
fixes_are m p f is =
    let relative = selfrel_is m p f is in
    let low = is.on.low in
    let at_offset = is.at.offset_is in
    let offset : p.offset + offset_of (location_high f (from_piece p f)) (from_piece p f % 256) ≡ f.offset = omega (arith, low, at_offset) in
    let seg = is.on.seg in
    let loc = is.at.location in
    let frame = frame_is f.frame f.goal f.disp in
    let goal = goal_is f.frame f.goal f.disp in
    λ i. record {
      seg = sym seg i;
      offset = offset i;
      loc = loc i;
      selfrel = relative i;
      frame = unwrap_or (frame i) frames.Here;
      goal = unwrap_or (goal i) (goals.Seg 0);
      disp = f.disp;
    } ∷ []

-- ---- it is good

abbrev pub Apart : FixAt → FixAt → Type 0
Apart f g = meets f g ≡ false

located : (len : ℕ) (b : Bool) (s : Bool) → 0 < len → (s ≡ true → b ≡ false) → (nat_lt 0 len && not (b && s)) ≡ true
located len b s some rule = let lt : nat_lt 0 len ≡ true = grind (arith, nat_tests) in rw lt (neither b s rule)
  where
    neither : (b s : Bool) → (s ≡ true → b ≡ false) → not (b && s) ≡ true
    neither true true rule = absurd (true_false (rule refl))
      where
        true_false : true ≡ false → ⊥
        true_false e = cc
    neither true false rule = refl
    neither false s rule = refl

none_meets : (f : FixAt) (before : List FixAt) → AllByRecursion (λ g. Apart g f) before → list_any (λ g. meets g f) before ≡ false
none_meets f [] all = refl
none_meets f (g ∷ before) all = let first = all.0 in rw first (none_meets f before all.1)

alone : (before : List FixAt) (f : FixAt) → AllByRecursion (λ g. Apart g f) before → are_apart before (f ∷ []) ≡ true
alone before f all = let none = none_meets f before all in rw none refl

fits : (a b c : ℕ) → a + b ≤ c → nat_le (a + b) c ≡ true
fits a b c e = grind (arith, nat_tests)

-- no two of them share a byte, and they keep the limit
pub record Allowed (fixes : List FixAt) : Type 0 where
  pub apart : Pairs Apart fixes
  pub few : length fixes ≤ MAX_FIXES

each_before : (xs : List FixAt) (f : FixAt) (ys : List FixAt) → Pairs Apart (xs ++ f ∷ ys) → AllByRecursion (λ g. Apart g f) xs
each_before [] f ys pairs = tt
each_before (x ∷ xs) f ys pairs = (found xs pairs.0, each_before xs f ys pairs.1)
  where
    found : (zs : List FixAt) → AllByRecursion (Apart x) (zs ++ f ∷ ys) → Apart x f
    found [] all = all.0
    found (z ∷ zs) all = found zs all.1

pairs_front : (xs ys : List FixAt) → Pairs Apart (xs ++ ys) → Pairs Apart xs
pairs_front [] ys pairs = tt
pairs_front (x ∷ xs) ys pairs = (all_front (Apart x) xs ys pairs.0, pairs_front xs ys pairs.1)

pub allowed_front : (xs ys : List FixAt) → Allowed (xs ++ ys) → Allowed xs
allowed_front xs ys all = let few = all.few in let n = length-append xs ys in record { apart = pairs_front xs ys all.apart; few = omega (arith, few, n) }

pub allowed_on : (xs ys zs : List FixAt) → Allowed (xs ++ (ys ++ zs)) → Allowed ((xs ++ ys) ++ zs)
allowed_on xs ys zs all = subst (λ (fs : List FixAt). Allowed fs) (sym (append_assoc xs ys zs)) all

module _ (names : List (List ℕ)) (m : ObjModule) (pieces : List Piece) (p : Piece) where
  abbrev after : List FixAt → ObjParts
  after fixes = data_parts names m pieces fixes (last_of p)

  good_field : (before : List FixAt) (f : FixAt) → IsFix m p f → AllByRecursion (λ g. Apart g f) before → length before + 1 ≤ MAX_FIXES → GoodField (after before) (field_of p f)
  good_field before f is apart few =
      let whole = is.ready.whole in
      let high : ℕ = location_high f (from_piece p f) in
      let low : ℕ = from_piece p f % 256 in
      let relative = selfrel_is m p f is in
      let loc = is.at.location in
      let at_offset = is.at.offset_is in
      let end_high = is.on.high in
      let end_low = is.on.low in
      let is_fixes = fixes_are m p f is in
      let inside : from_piece p f + location_len f.loc ≤ length p.bytes = omega (arith, end_high, end_low) in
      let kinds : is_location high ≡ true = (λ i. (nat_lt 0 (location_len (loc i)) && not (relative i && has_selector (loc i)))) ∙ located (location_len f.loc) f.selfrel (has_selector f.loc) whole.location whole.relative in
      let data_there : has_data (last_of p) (offset_of high low) (location_len (location_of high)) ≡ true
      = (λ i. nat_le (at_offset i + location_len (loc i)) (length p.bytes)) ∙ fits (from_piece p f) (location_len f.loc) (length p.bytes) inside in
      record {
        location = kinds;
        what = good_data names m pieces before (last_of p) f.frame f.goal f.disp whole.frame whole.goal;
        on_data = data_there;
        apart = subst (λ (new : List FixAt). are_apart before new ≡ true) (sym is_fixes) (alone before f apart);
        limit = subst (λ (new : List FixAt). length before + length new ≤ MAX_FIXES) (sym is_fixes) few;
      }

  added_field : (before : List FixAt) (f : FixAt) → IsFix m p f → add_field (after before) (field_of p f) ≡ after (before ++ f ∷ [])
  unfolding add_field set_threads
  added_field before f is = ap (λ (new : List FixAt). after (before ++ new)) (fixes_are m p f is)

  -- ---- the fields of a record

  record FieldsGo (before fixes : List FixAt) : Type 0 where
    good : GoodFields (after before) (map (field_of p) fixes)
    added : add_fields (after before) (map (field_of p) fixes) ≡ after (before ++ fixes)
    spelled : each (field_form true) (map (field_of p) fixes) (flat_map (fixup_bytes p.offset) fixes)

  none_added : (before : List FixAt) → add_fields (after before) [] ≡ after (before ++ [])
  unfolding add_fields
  none_added before = ap after (sym (append-nil before))

  one_more : (before : List FixAt) (f : FixAt) (fixes : List FixAt) → IsFix m p f → add_fields (after (before ++ f ∷ [])) (map (field_of p) fixes) ≡ after ((before ++ f ∷ []) ++ fixes) → add_fields (after before) (map (field_of p) (f ∷ fixes)) ≡ after (before ++ f ∷ fixes)
  unfolding add_fields
  one_more before f fixes is rest =
      ap (λ (q : ObjParts). add_fields q (map (field_of p) fixes)) (added_field before f is) ∙ rest ∙ ap after (append_assoc before (f ∷ []) fixes)

  fields_go : Few m → (before fixes : List FixAt) → AllByRecursion (IsFix m p) fixes → Allowed (before ++ fixes) → FieldsGo before fixes
  fields_go counts before [] all fine = record { good = tt; added = none_added before; spelled = refl }
  fields_go counts before (f ∷ fixes) all fine =
      let few = fine.few in
      let n = length-append before (f ∷ fixes) in
      let rest = fields_go counts (before ++ f ∷ []) fixes all.1 (allowed_on before (f ∷ []) fixes fine) in
      record {
        good = (
          good_field before f all.0 (each_before before f fixes fine.apart) (omega (arith, few, n)),
          subst (λ (q : ObjParts). GoodFields q (map (field_of p) fixes)) (sym (added_field before f all.0)) rest.good,
        );
        added = one_more before f fixes all.0 rest.added;
        spelled = both (field_form true (field_of p f)) (each (field_form true) (map (field_of p) fixes)) (fixup_bytes p.offset f) (flat_map (fixup_bytes p.offset) fixes) (field_spelled m counts p f all.0) rest.spelled;
      }

  -- ---- records

  record_goes : Few m → (before fixes : List FixAt) → AllByRecursion (IsFix m p) fixes → Allowed (before ++ fixes) → length fixes ≤ 64 → Goes (after before) (fixupp_record p.offset fixes) (after (before ++ fixes))
  unfolding add
  record_goes counts before fixes all fine few =
      let go = fields_go counts before fixes all fine in
      let n = bytes_len p.offset fixes in
      one (after before) (after (before ++ fixes)) (fixupp (map (field_of p) fixes)) (fixupp_record p.offset fixes) go.good refl
      (spells_as (fixupp (map (field_of p) fixes)) 0x9D true (flat_map (fixup_bytes p.offset) fixes) (1, omega arith, refl) (omega (arith, n, few)) refl go.spelled)
      go.added

  records_go : Few m → (n : ℕ) (before fixes : List FixAt) → AllByRecursion (IsFix m p) fixes → Allowed (before ++ fixes) → length fixes ≤ 64 * n → Goes (after before) (fixupp_records n p.offset fixes) (after (before ++ fixes))
  records_go counts zero before [] all fine few = subst (λ (fs : List FixAt). Goes (after before) [] (after fs)) (sym (append-nil before)) (stays (after before))
  records_go counts zero before (f ∷ fixes) all fine few = absurd (omega (arith, few))
  records_go counts (suc n) before fixes all fine few =
      let first : List FixAt = take PER_RECORD fixes in
      let others : List FixAt = drop PER_RECORD fixes in
      let joined : first ++ others ≡ fixes = take-append-drop PER_RECORD fixes in
      let every : AllByRecursion (IsFix m p) (first ++ others) = subst (λ (fs : List FixAt). AllByRecursion (IsFix m p) fs) (sym joined) all in
      let whole : Allowed (before ++ (first ++ others)) = subst (λ (fs : List FixAt). Allowed (before ++ fs)) (sym joined) fine in
      let split : Allowed ((before ++ first) ++ others) = allowed_on before first others whole in
      let most = length-take PER_RECORD fixes in
      let left = length-drop PER_RECORD fixes in
      let one_record = record_goes counts before first (all_front (IsFix m p) first others every) (allowed_front (before ++ first) others split) (omega (arith, most)) in
      let rest = records_go counts n (before ++ first) others (all_back (IsFix m p) first others every) split (omega (arith, left, few)) in
      subst (λ (fs : List FixAt). Goes (after before) (fixupp_records (suc n) p.offset fixes) (after fs)) (append_assoc before first others ∙ ap (λ (fs : List FixAt). before ++ fs) joined)
      (goes_on (after before) (after (before ++ first)) (after ((before ++ first) ++ others)) (fixupp_record p.offset first) (fixupp_records n p.offset others) one_record rest)

  are_fixes : (fixes : List FixAt) → length p.bytes ≤ 1024 → AllByRecursion (ReadyFix m) fixes → AllByRecursion (LiesOn p) fixes → AllByRecursion (IsFix m p) fixes
  are_fixes [] short ready lie = tt
  are_fixes (f ∷ fixes) short ready lie = (is_fix m p f short ready.0 lie.0, are_fixes fixes short ready.1 lie.1)

  pub fixups_go : Few m → (before fixes : List FixAt) → length p.bytes ≤ 1024 → AllByRecursion (ReadyFix m) fixes → AllByRecursion (LiesOn p) fixes → Allowed (before ++ fixes) → Goes (after before) (fixupp_records (records_needed fixes) p.offset fixes) (after (before ++ fixes))
  fixups_go counts before fixes short ready lie fine = records_go counts (records_needed fixes) before fixes (are_fixes fixes short ready lie) fine (omega arith)
