-- What is read stays in its record: so do cursors, and so do the places of refusals.
use Rattle.std.proofs.Common.{◌≡◌, ℕ, zero, suc, ◌+◌, ◌*◌, ◌≤◌, Bool, true, false, cond, ltb, eqb, leb, List, [], ◌∷◌, length, take, drop, Option, Some, None, Result, Ok, Err, refl, arith, inl, inr, length-drop}
use Rattle.std.specs.Prelude.{not, ◌&&◌, ◌||◌, bytes_eq, codes}
use Rattle.std.specs.List.{list_any}
use Rattle.obj_types.specs.Location.{location_len}
use Rattle.std.proofs.lemmas.Bool.{ltb-false}
use Rattle.lx_bytes.specs.Cursor.{Cursor}
use Rattle.lx_bytes.specs.LittleEndian.{little}
use Rattle.obj_types.specs.declared.refusal.OmfRefusal.{OmfRefusal}
use Rattle.obj_types.specs.declared.refusal.OmfRefusal.TheVariants.{Short, BadField, BadIndex, DataRange, TooMany, DataOverFix, NoThread, BadLocation, NoData, FixOverlap}
use Rattle.omf_fields.specs.Within.{within}
use Rattle.lx_types.specs.Answers.{◌>>=◌}
use Rattle.omf_fields.specs.Fields.{Reading, check, width, bytes_at, number_at, byte_of, byte_at, rest_of, name_of, name_at, index_of, index_at, is_among, checked, index_below, index_or_zero, length_bytes, sized, length_of, length_at, where_so, items_at, list_within, list_at}
use Rattle.obj_types.specs.declared.limits.TheConstants.{MAX_DEPTH, MAX_DATA, MAX_FIXES}
use Rattle.obj_types.specs.declared.object.Frame.{Frame}
use Rattle.obj_types.specs.declared.object.Frame.TheVariants as frames
use Rattle.obj_types.specs.declared.object.Goal.{Goal}
use Rattle.obj_types.specs.declared.object.Goal.TheVariants as goals
use Rattle.obj_types.specs.declared.parts.ObjParts.{ObjParts}
use Rattle.omf_model.specs.Record.{Record, FixData, fixup, align_of, by_frame_thread, by_target_thread, has_displacement, has_start, offset_of, are_attributes, is_too_long, frame_bits, target_bits, thread_method, location_of}
use Rattle.omf_model.specs.Items.{name_with, is_debug_seg, data_so_far}
use Rattle.omf_model.specs.Fixups.{have_of, has_index, are_methods, is_thread_method, is_location, touches, are_apart, has_data, fixes_by}
use Rattle.omf_model.specs.Add.{add_field}
use Rattle.omf_model.specs.ReadBlocks.{Block, block_rest, block_at, blocks_at}
use Rattle.omf_model.specs.ReadNames.{lnames_at, segdef_at, checked_plain, plain_seg_at, plain_seg_or_zero, member_at, grpdef_at, pub_at, pubdef_at, ext_at, extdef_at, far_at, near_at, communal_at, com_at, comdef_at}
use Rattle.omf_model.specs.ReadComments.{given_name_at, entry_at, impdef_at, expdef_at, extension_at, coment_at}
use Rattle.omf_model.specs.ReadData.{seg_len, judge_data, ledata_at, counted_len, lidata_at}
use Rattle.omf_model.specs.Comdat.{ComDat, are_flags, is_selected, has_base, end_of}
use Rattle.omf_model.specs.ReadComdat.{base_segment_at, base_at, comdat_fields_at, is_in_turn, number_so_far, offset_place, judge_comdat, comdat_at}
use Rattle.omf_model.specs.ReadFixups.{has_threads, method_index_at, check_frame, check_goal, thread_frame, thread_goal, fix_data_at, FirstByte, thread_at, is_dropped, second_of, judge_fixup, fixup_at, field_at, fields_within, fixupp_at, modend_at}
use Rattle.omf_model.specs.ReadModule.{is_wide, reader_of}
use Rattle.omf_model.specs.Places.{IsFromTo}
use Rattle.omf_model.proofs.DataLaws.{bool_cases}

module _ (low high : ℕ) where
  -- a value with a property, or a refusal in its place
  abbrev pub Stays : {A : Type 0} → (A → Type 0) → Result A OmfRefusal → Type 0
  Stays Q (Ok x) = Q x
  Stays Q (Err f) = IsFromTo low high f

  abbrev pub IsIn : Cursor → Type 0
  IsIn c = (low ≤ c.at) × (c.at + length c.left ≡ high)

  abbrev pub Any : {A : Type 0} → A → Type 0
  Any x = Unit {0}

  abbrev pub After : {A : Type 0} → A × Cursor → Type 0
  After x = IsIn x.1

  abbrev pub Keeps : {A : Type 0} → (Cursor → Reading A) → Type 0
  Keeps read = (c : Cursor) → IsIn c → Stays After (read c)

  pub then-stays : {A B : Type 0} (Q : A → Type 0) (R : B → Type 0) (r : Result A OmfRefusal) (f : A → Result B OmfRefusal) → Stays Q r → ((x : A) → Q x → Stays R (f x)) → Stays R (r >>= f)
  then-stays Q R (Ok x) f h k = k x h
  then-stays Q R (Err e) f h k = h

  pub check-stays : (b : Bool) (f : OmfRefusal) → IsFromTo low high f → Stays Any (check b f)
  check-stays true f h = tt
  check-stays false f h = h

  pub cond-stays : {A : Type 0} (Q : A → Type 0) (b : Bool) (x y : Result A OmfRefusal) → Stays Q x → Stays Q y → Stays Q (cond b x y)
  cond-stays Q true x y h k = h
  cond-stays Q false x y h k = k

  short-here : (b : Bool) (at n : ℕ) (left : List ℕ) → low ≤ at → at + length left ≡ high → b ≡ ltb (length left) n → {A : Type 0} (x : A) → Stays {A = A × Cursor} After (cond b (Err (Short at)) (Ok (x, record { at = at + n; left = drop n left })))
  short-here true at n left lo hi e x = (lo, omega (arith, hi))
  short-here false at n left lo hi e x = let long : n ≤ length left = ltb-false _ _ (let z : ltb (length left) n ≡ false = cc in z) in (omega (arith, lo), omega (arith, hi, long, length-drop n left))

  pub byte-in : Keeps byte_at
  byte-in c h = of c.at c.left h.0 h.1
    where
      of : (at : ℕ) (left : List ℕ) → low ≤ at → at + length left ≡ high → Stays After (byte_of at left)
      of at [] lo hi = (lo, omega (arith, hi))
      of at (b ∷ rest) lo hi = (omega (arith, lo), omega (arith, hi))

  pub bytes-in : (n : ℕ) → Keeps (bytes_at n)
  bytes-in n c h = short-here (ltb (length c.left) n) c.at n c.left h.0 h.1 refl (take n c.left)

  pub number-in : (n : ℕ) → Keeps (number_at n)
  number-in n c h = short-here (ltb (length c.left) n) c.at n c.left h.0 h.1 refl (little (take n c.left))

  rest-in : (at n : ℕ) (rest : List ℕ) → low ≤ at → at + 1 + length rest ≡ high → Stays After (rest_of at n rest)
  rest-in at n rest lo hi =
      elim (bool_cases (ltb (length rest) n)) [
        | inl h ↦ rw h (lo, omega (arith, hi))
        | inr h ↦ let long : n ≤ length rest = ltb-false _ _ h in rw h (omega (arith, lo), omega (arith, hi, long, length-drop n rest))
      ]

  pub name-in : Keeps name_at
  name-in c h = of c.at c.left h.0 h.1
    where
      of : (at : ℕ) (left : List ℕ) → low ≤ at → at + length left ≡ high → Stays After (name_of at left)
      of at [] lo hi = (lo, omega (arith, hi))
      of at (n ∷ rest) lo hi = rest-in at n rest lo (omega (arith, hi))

  pub index-in : Keeps index_at
  index-in c h = of c.at c.left h.0 h.1
    where
      of : (at : ℕ) (left : List ℕ) → low ≤ at → at + length left ≡ high → Stays After (index_of at left)
      of at [] lo hi = (lo, omega (arith, hi))
      of at (b ∷ []) lo hi = cond-stays After (ltb b 128) _ _ (omega (arith, lo), omega (arith, hi)) (lo, omega (arith, hi))
      of at (b ∷ c ∷ rest) lo hi = cond-stays After (ltb b 128) _ _ (omega (arith, lo), omega (arith, hi)) (omega (arith, lo), omega (arith, hi))

  pub checked-in : (zero_too : Bool) (have at : ℕ) → low ≤ at → at ≤ high → (x : ℕ × Cursor) → IsIn x.1 → Stays After (checked zero_too have at x)
  checked-in zero_too have at lo hi x h = cond-stays After (is_among zero_too have x.0) _ _ h (lo, hi)

  end-of : (c : Cursor) → IsIn c → c.at ≤ high
  end-of c h = omega (arith, h.1)

  pub here : (c : Cursor) → IsIn c → (low ≤ c.at) × (c.at ≤ high)
  here c h = (h.0, omega (arith, h.1))

  pub below-in : (have : ℕ) → Keeps (index_below have)
  unfolding index_below
  below-in have c h = then-stays After After (index_at c) _ (index-in c h) (checked-in false have c.at h.0 (end-of c h))

  pub or_zero-in : (have : ℕ) → Keeps (index_or_zero have)
  unfolding index_or_zero
  or_zero-in have c h = then-stays After After (index_at c) _ (index-in c h) (checked-in true have c.at h.0 (end-of c h))

  pub length-in : Keeps length_at
  length-in c h = of c.at c.left h.0 h.1
    where
      by : (at b : ℕ) (rest : List ℕ) → low ≤ at → at + 1 + length rest ≡ high → (o : Option ℕ) → Stays After (sized at b o rest)
      by at b rest lo hi None = (lo, omega (arith, hi))
      by at b rest lo hi (Some n) = then-stays After After (rest_of at n rest) _ (rest-in at n rest lo hi) (λ x k. k)

      of : (at : ℕ) (left : List ℕ) → low ≤ at → at + length left ≡ high → Stays After (length_of at left)
      of at [] lo hi = (lo, omega (arith, hi))
      of at (b ∷ rest) lo hi = by at b rest lo (omega (arith, hi)) (length_bytes b)

  pub where-in : {A : Type 0} (b : Bool) (read : Cursor → Reading A) → Keeps read → Keeps (where_so b read)
  where-in true read keeps c h = then-stays After After (read c) _ (keeps c h) (λ x k. k)
  where-in false read keeps c h = h

  pub items-in : {A : Type 0} (read : Cursor → Reading A) → Keeps read → (n : ℕ) → Keeps (items_at read n)
  unfolding items_at
  items-in read keeps zero c h = h
  items-in read keeps (suc n) c h = then-stays After After (read c) _ (keeps c h) λ x k. then-stays After After (items_at read n x.1) _ (items-in read keeps n x.1 k) (λ y l. l)

  list-within-in : {A : Type 0} (read : Cursor → Reading A) → Keeps read → (most : ℕ) (c : Cursor) → IsIn c → Stays Any (list_within read most c)
  unfolding list_within within
  list-within-in read keeps zero c h = tt
  list-within-in read keeps (suc most) c h =
      cond-stays Any (eqb (length c.left) 0) _ _ tt (then-stays After Any (read c) _ (keeps c h) λ x k. then-stays Any Any (list_within read most x.1) _ (list-within-in read keeps most x.1 k) (λ y l. tt))

  pub list-in : {A : Type 0} (read : Cursor → Reading A) → Keeps read → (c : Cursor) → IsIn c → Stays Any (list_at read c)
  list-in read keeps c h = list-within-in read keeps (length c.left) c h

  -- ---- names, segments and symbols

  checked_plain-in : (zero_too : Bool) (p : ObjParts) (at : ℕ) → low ≤ at → at ≤ high → (x : ℕ × Cursor) → IsIn x.1 → Stays After (checked_plain zero_too p at x)
  checked_plain-in zero_too p at lo hi x h =
      then-stays After After (checked zero_too (length p.module.segs) at x) _ (checked-in zero_too (length p.module.segs) at lo hi x h) λ j k.
      then-stays Any After (check (not (is_debug_seg p.module.segs j.0)) (BadIndex at j.0 (length p.module.segs))) _ (check-stays (not (is_debug_seg p.module.segs j.0)) (BadIndex at j.0 (length p.module.segs)) (lo, hi)) λ u z. k

  plain-in : (p : ObjParts) → Keeps (plain_seg_at p)
  unfolding plain_seg_at
  plain-in p c h = then-stays After After (index_at c) _ (index-in c h) (checked_plain-in false p c.at h.0 (end-of c h))

  plain_or_zero-in : (p : ObjParts) → Keeps (plain_seg_or_zero p)
  unfolding plain_seg_or_zero
  plain_or_zero-in p c h = then-stays After After (index_at c) _ (index-in c h) (checked_plain-in true p c.at h.0 (end-of c h))

  lnames-in : (c : Cursor) → IsIn c → Stays Any (lnames_at c)
  unfolding lnames_at
  lnames-in c h = then-stays Any Any (list_at name_at c) _ (list-in name_at name-in c h) (λ x k. tt)

  segdef-in : (wide : Bool) (p : ObjParts) (c : Cursor) → IsIn c → Stays Any (segdef_at wide p c)
  unfolding segdef_at
  segdef-in wide p c h =
      then-stays After Any (byte_at c) _ (byte-in c h) λ a k1.
      then-stays Any Any (check (are_attributes a.0) (BadField c.at)) _ (check-stays (are_attributes a.0) (BadField c.at) (here c h)) λ u1 z1.
      then-stays After Any (where_so (eqb (align_of a.0) 0) (number_at 2) a.1) _ (where-in (eqb (align_of a.0) 0) (number_at 2) (number-in 2) a.1 k1) λ f k2.
      then-stays After Any (where_so (eqb (align_of a.0) 0) byte_at f.1) _ (where-in (eqb (align_of a.0) 0) byte_at byte-in f.1 k2) λ o k3.
      then-stays After Any (number_at (width wide) o.1) _ (number-in (width wide) o.1 k3) λ l k4.
      then-stays Any Any (check (not (is_too_long wide a.0 l.0)) (BadField c.at)) _ (check-stays (not (is_too_long wide a.0 l.0)) (BadField c.at) (here c h)) λ u2 z2.
      then-stays After Any (index_below (length p.names) l.1) _ (below-in (length p.names) l.1 k4) λ n k5.
      then-stays After Any (index_below (length p.names) n.1) _ (below-in (length p.names) n.1 k5) λ m k6.
      then-stays After Any (index_or_zero (length p.names) m.1) _ (or_zero-in (length p.names) m.1 k6) λ v k7. tt

  member-in : (flat : Bool) (p : ObjParts) → Keeps (member_at flat p)
  unfolding member_at
  member-in flat p c h =
      then-stays After After (byte_at c) _ (byte-in c h) λ m k.
      then-stays Any After (check (eqb m.0 255) (BadField c.at)) _ (check-stays (eqb m.0 255) (BadField c.at) (here c h)) λ u z.
      cond-stays After flat _ _ (below-in (length p.module.segs) m.1 k) (plain-in p m.1 k)

  grpdef-in : (p : ObjParts) (c : Cursor) → IsIn c → Stays Any (grpdef_at p c)
  unfolding grpdef_at
  grpdef-in p c h =
      then-stays After Any (index_below (length p.names) c) _ (below-in (length p.names) c h) λ n k.
      then-stays Any Any (list_at (member_at (bytes_eq (name_with p.names n.0) (codes "FLAT")) p) n.1) _ (list-in (member_at (bytes_eq (name_with p.names n.0) (codes "FLAT")) p) (member-in (bytes_eq (name_with p.names n.0) (codes "FLAT")) p) n.1 k) λ x z. tt

  pub-in : (wide : Bool) → Keeps (pub_at wide)
  unfolding pub_at
  pub-in wide c h =
      then-stays After After (name_at c) _ (name-in c h) λ n k1.
      then-stays After After (number_at (width wide) n.1) _ (number-in (width wide) n.1 k1) λ o k2.
      then-stays After After (index_or_zero 0 o.1) _ (or_zero-in 0 o.1 k2) λ t k3. k3

  pubdef-in : (local wide : Bool) (p : ObjParts) (c : Cursor) → IsIn c → Stays Any (pubdef_at local wide p c)
  unfolding pubdef_at
  pubdef-in local wide p c h =
      then-stays After Any (index_or_zero (length p.module.groups) c) _ (or_zero-in (length p.module.groups) c h) λ g k1.
      then-stays After Any (plain_seg_or_zero p g.1) _ (plain_or_zero-in p g.1 k1) λ s k2.
      then-stays After Any (where_so (eqb s.0 0) (number_at 2) s.1) _ (where-in (eqb s.0 0) (number_at 2) (number-in 2) s.1 k2) λ f k3.
      then-stays Any Any (list_at (pub_at wide) f.1) _ (list-in (pub_at wide) (pub-in wide) f.1 k3) λ x z. tt

  ext-in : Keeps ext_at
  unfolding ext_at
  ext-in c h =
      then-stays After After (name_at c) _ (name-in c h) λ n k1.
      then-stays After After (index_or_zero 0 n.1) _ (or_zero-in 0 n.1 k1) λ t k2. k2

  extdef-in : (local : Bool) (c : Cursor) → IsIn c → Stays Any (extdef_at local c)
  unfolding extdef_at
  extdef-in local c h = then-stays Any Any (list_at ext_at c) _ (list-in ext_at ext-in c h) (λ x k. tt)

  far-in : Keeps far_at
  unfolding far_at
  far-in c h =
      then-stays After After (length_at c) _ (length-in c h) λ n k1.
      then-stays After After (length_at n.1) _ (length-in n.1 k1) λ s k2.
      then-stays Any After (check (leb (n.0 * s.0) MAX_DATA) (BadField c.at)) _ (check-stays (leb (n.0 * s.0) MAX_DATA) (BadField c.at) (here c h)) λ u z. k2

  near-in : Keeps near_at
  unfolding near_at
  near-in c h =
      then-stays After After (length_at c) _ (length-in c h) λ s k.
      then-stays Any After (check (leb s.0 MAX_DATA) (BadField c.at)) _ (check-stays (leb s.0 MAX_DATA) (BadField c.at) (here c h)) λ u z. k

  communal-in : Keeps communal_at
  unfolding communal_at
  communal-in c h =
      then-stays After After (byte_at c) _ (byte-in c h) λ m k.
      cond-stays After (eqb m.0 0x61) _ _ (far-in m.1 k) (cond-stays After (eqb m.0 0x62) _ _ (near-in m.1 k) (here c h))

  com-in : Keeps com_at
  unfolding com_at
  com-in c h =
      then-stays After After (name_at c) _ (name-in c h) λ n k1.
      then-stays After After (index_or_zero 0 n.1) _ (or_zero-in 0 n.1 k1) λ t k2.
      then-stays After After (communal_at t.1) _ (communal-in t.1 k2) λ m k3. k3

  comdef-in : (c : Cursor) → IsIn c → Stays Any (comdef_at c)
  unfolding comdef_at
  comdef-in c h = then-stays Any Any (list_at com_at c) _ (list-in com_at com-in c h) (λ x k. tt)

  -- ---- comments

  given_name-in : Keeps given_name_at
  unfolding given_name_at
  given_name-in c h =
      then-stays After After (name_at c) _ (name-in c h) λ n k.
      then-stays Any After (check (not (eqb (length n.0) 0)) (BadField c.at)) _ (check-stays (not (eqb (length n.0) 0)) (BadField c.at) (here c h)) λ u z. k

  entry-in : (flag : ℕ) → Keeps (entry_at flag)
  unfolding entry_at
  entry-in flag c h =
      cond-stays After (eqb flag 0) _ _
      (then-stays After After (name_at c) _ (name-in c h) (λ x k. k))
      (then-stays After After (number_at 2 c) _ (number-in 2 c h) (λ x k. k))

  impdef-in : (c : Cursor) → IsIn c → Stays Any (impdef_at c)
  unfolding impdef_at
  impdef-in c h =
      then-stays After Any (byte_at c) _ (byte-in c h) λ f k1.
      then-stays After Any (name_at f.1) _ (name-in f.1 k1) λ i k2.
      then-stays After Any (given_name_at i.1) _ (given_name-in i.1 k2) λ m k3.
      then-stays After Any (entry_at f.0 m.1) _ (entry-in f.0 m.1 k3) λ e k4. tt

  expdef-in : (c : Cursor) → IsIn c → Stays Any (expdef_at c)
  unfolding expdef_at
  expdef-in c h =
      then-stays After Any (byte_at c) _ (byte-in c h) λ f k1.
      then-stays After Any (given_name_at f.1) _ (given_name-in f.1 k1) λ e k2.
      then-stays After Any (name_at e.1) _ (name-in e.1 k2) λ i k3.
      then-stays After Any (where_so (leb 128 f.0) (number_at 2) i.1) _ (where-in (leb 128 f.0) (number_at 2) (number-in 2) i.1 k3) λ o k4. tt

  extension-in : (c : Cursor) → IsIn c → Stays Any (extension_at c)
  unfolding extension_at
  extension-in c h =
      then-stays After Any (byte_at c) _ (byte-in c h) λ s k.
      cond-stays Any (eqb s.0 1) _ _ (impdef-in s.1 k) (cond-stays Any (eqb s.0 2) _ _ (expdef-in s.1 k) tt)

  coment-in : (c : Cursor) → IsIn c → Stays Any (coment_at c)
  unfolding coment_at
  coment-in c h =
      then-stays After Any (byte_at c) _ (byte-in c h) λ f k1.
      then-stays After Any (byte_at f.1) _ (byte-in f.1 k1) λ s k2.
      cond-stays Any (eqb s.0 0x9F) _ _ (cond-stays Any (ltb 255 (length s.1.left)) _ _ (here s.1 k2) tt) (cond-stays Any (eqb s.0 0xA0) _ _ (extension-in s.1 k2) tt)

  -- ---- data

  block_rest-in : (block : Cursor → Reading Block) → Keeps block → (times count : ℕ) → Keeps (block_rest block times count)
  block_rest-in block keeps times zero c h =
      then-stays After After (byte_at c) _ (byte-in c h) λ l k1.
      then-stays After After (bytes_at l.0 l.1) _ (bytes-in l.0 l.1 k1) λ x k2. k2
  block_rest-in block keeps times (suc more) c h = then-stays After After (items_at block (suc more) c) _ (items-in block keeps (suc more) c h) λ x k. k

  block-in : (left : ℕ) (wide : Bool) → Keeps (block_at left wide)
  unfolding block_at
  block-in zero wide c h = then-stays After After (number_at (width wide) c) _ (number-in (width wide) c h) λ t k. here c h
  block-in (suc left) wide c h =
      then-stays After After (number_at (width wide) c) _ (number-in (width wide) c h) λ t k1.
      then-stays After After (number_at 2 t.1) _ (number-in 2 t.1 k1) λ n k2.
      block_rest-in (block_at left wide) (block-in left wide) t.0 n.0 n.1 k2

  blocks-in : (wide : Bool) (c : Cursor) → IsIn c → Stays Any (blocks_at wide c)
  unfolding blocks_at
  blocks-in wide c h = then-stays Any Any (list_at (block_at MAX_DEPTH wide) c) _ (list-in (block_at MAX_DEPTH wide) (block-in MAX_DEPTH wide) c h) (λ x k. tt)

  judge_data-in : (p : ObjParts) (at offset_at seg offset len : ℕ) → (low ≤ at) × (at ≤ high) → (low ≤ offset_at) × (offset_at ≤ high) → Stays Any (judge_data p at offset_at seg offset len)
  unfolding judge_data
  judge_data-in p at offset_at seg offset len in_record in_field =
      cond-stays Any (is_debug_seg p.module.segs seg) _ _ tt
      (then-stays Any Any (check (leb (offset + len) (seg_len p.module.segs seg)) (DataRange offset_at)) _ (check-stays (leb (offset + len) (seg_len p.module.segs seg)) (DataRange offset_at) in_field) λ u1 z1.
      then-stays Any Any (check (leb (data_so_far p + len) MAX_DATA) (TooMany at)) _ (check-stays (leb (data_so_far p + len) MAX_DATA) (TooMany at) in_record) λ u2 z2.
      check-stays (not (list_any (touches seg offset len) p.module.fixes)) (DataOverFix offset_at) in_field)

  ledata-in : (wide : Bool) (p : ObjParts) (at : ℕ) → (low ≤ at) × (at ≤ high) → (c : Cursor) → IsIn c → Stays Any (ledata_at wide p at c)
  unfolding ledata_at
  ledata-in wide p at in_record c h =
      then-stays After Any (index_below (length p.module.segs) c) _ (below-in (length p.module.segs) c h) λ s k1.
      then-stays After Any (number_at (width wide) s.1) _ (number-in (width wide) s.1 k1) λ o k2.
      then-stays Any Any (judge_data p at s.1.at s.0 o.0 (length o.1.left)) _ (judge_data-in p at s.1.at s.0 o.0 (length o.1.left) in_record (here s.1 k1)) λ u z. tt

  lidata-in : (wide : Bool) (p : ObjParts) (at : ℕ) → (low ≤ at) × (at ≤ high) → (c : Cursor) → IsIn c → Stays Any (lidata_at wide p at c)
  unfolding lidata_at
  lidata-in wide p at in_record c h =
      then-stays After Any (index_below (length p.module.segs) c) _ (below-in (length p.module.segs) c h) λ s k1.
      then-stays After Any (number_at (width wide) s.1) _ (number-in (width wide) s.1 k1) λ o k2.
      then-stays Any Any (blocks_at wide o.1) _ (blocks-in wide o.1 k2) λ b z.
      then-stays Any Any (judge_data p at s.1.at s.0 o.0 (counted_len b)) _ (judge_data-in p at s.1.at s.0 o.0 (counted_len b) in_record (here s.1 k1)) λ u y. tt

  -- ---- COMDATs

  base_segment-in : (p : ObjParts) → Keeps (base_segment_at p)
  unfolding base_segment_at
  base_segment-in p c h =
      then-stays After After (index_at c) _ (index-in c h) λ i k.
      then-stays Any After (check (not (eqb i.0 0)) (BadField c.at)) _ (check-stays (not (eqb i.0 0)) (BadField c.at) (here c h)) λ u z.
      checked_plain-in false p c.at h.0 (end-of c h) i k

  base-in : (p : ObjParts) → Keeps (base_at p)
  unfolding base_at
  base-in p c h =
      then-stays After After (index_or_zero (length p.module.groups) c) _ (or_zero-in (length p.module.groups) c h) λ g k1.
      then-stays After After (base_segment_at p g.1) _ (base_segment-in p g.1 k1) λ s k2. k2

  -- the cursor after a byte
  abbrev Next : ℕ → {A : Type 0} → A × Cursor → Type 0
  Next at x = IsIn x.1 × (x.1.at ≡ at + 1)

  byte-next : (c : Cursor) → IsIn c → Stays (Next c.at) (byte_at c)
  byte-next c h = of c.at c.left h.0 h.1
    where
      of : (at : ℕ) (left : List ℕ) → low ≤ at → at + length left ≡ high → Stays (Next at) (byte_of at left)
      of at [] lo hi = (lo, omega (arith, hi))
      of at (b ∷ rest) lo hi = ((omega (arith, lo), omega (arith, hi)), refl)

  -- the offset stands after three bytes, which were read
  abbrev HasPlace : ℕ → ComDat → Type 0
  HasPlace at d = at + 3 ≤ high

  comdat_fields-in : (wide : Bool) (p : ObjParts) (c : Cursor) → IsIn c → Stays (HasPlace c.at) (comdat_fields_at wide p c)
  unfolding comdat_fields_at
  comdat_fields-in wide p c h =
      then-stays (Next c.at) (HasPlace c.at) (byte_at c) _ (byte-next c h) λ f k1.
      then-stays Any (HasPlace c.at) (check (are_flags f.0) (BadField c.at)) _ (check-stays (are_flags f.0) (BadField c.at) (here c h)) λ u1 z1.
      then-stays (Next f.1.at) (HasPlace c.at) (byte_at f.1) _ (byte-next f.1 k1.0) λ a k2.
      then-stays Any (HasPlace c.at) (check (is_selected a.0) (BadField f.1.at)) _ (check-stays (is_selected a.0) (BadField f.1.at) (here f.1 k1.0)) λ u2 z2.
      then-stays (Next a.1.at) (HasPlace c.at) (byte_at a.1) _ (byte-next a.1 k2.0) λ l k3.
      then-stays Any (HasPlace c.at) (check (leb l.0 5) (BadField a.1.at)) _ (check-stays (leb l.0 5) (BadField a.1.at) (here a.1 k2.0)) λ u3 z3.
      then-stays After (HasPlace c.at) (number_at (width wide) l.1) _ (number-in (width wide) l.1 k3.0) λ o k4.
      then-stays After (HasPlace c.at) (index_or_zero 0 o.1) _ (or_zero-in 0 o.1 k4) λ t k5.
      then-stays After (HasPlace c.at) (where_so (has_base a.0) (base_at p) t.1) _ (where-in (has_base a.0) (base_at p) (base-in p) t.1 k5) λ b k6.
      then-stays After (HasPlace c.at) (index_below (length p.names) b.1) _ (below-in (length p.names) b.1 k6) λ n k7.
      omega (arith, k1.1, k2.1, k3.1, k3.0.1)

  judge_comdat-in : (p : ObjParts) (at offset_at : ℕ) (d : ComDat) → (low ≤ at) × (at ≤ high) → (low ≤ offset_at) × (offset_at ≤ high) → Stays Any (judge_comdat p at offset_at d)
  unfolding judge_comdat
  judge_comdat-in p at offset_at d in_record in_field =
      then-stays Any Any (check (is_in_turn p d) (BadField at)) _ (check-stays (is_in_turn p d) (BadField at) in_record) λ u1 z1.
      then-stays Any Any (check (leb (end_of d) MAX_DATA) (DataRange offset_at)) _ (check-stays (leb (end_of d) MAX_DATA) (DataRange offset_at) in_field) λ u2 z2.
      then-stays Any Any (check (leb (data_so_far p + length d.content) MAX_DATA) (TooMany at)) _ (check-stays (leb (data_so_far p + length d.content) MAX_DATA) (TooMany at) in_record) λ u3 z3.
      check-stays (not (list_any (touches (number_so_far p d) d.offset (length d.content)) p.module.fixes)) (DataOverFix offset_at) in_field

  comdat-in : (wide : Bool) (p : ObjParts) (at : ℕ) → (low ≤ at) × (at ≤ high) → (c : Cursor) → IsIn c → Stays Any (comdat_at wide p at c)
  unfolding comdat_at
  comdat-in wide p at in_record c h =
      then-stays (HasPlace c.at) Any (comdat_fields_at wide p c) _ (comdat_fields-in wide p c h) λ d k.
      then-stays Any Any (judge_comdat p at (offset_place c) d) _ (judge_comdat-in p at (offset_place c) d in_record (omega (arith, h.0), k)) λ u z. tt

  -- ---- fixups

  method_index-in : (judged : Bool) (p : ObjParts) (m : ℕ) → Keeps (method_index_at judged p m)
  method_index-in judged p m c h = cond-stays After (not judged) _ _ (index-in c h) (cond-stays After (eqb m 0) _ _ (plain-in p c h) (below-in (have_of p m) c h))

  check_frame-in : (judged : Bool) (p : ObjParts) (at : ℕ) (o : Option Frame) → (low ≤ at) × (at ≤ high) → Stays Any (check_frame judged p at o)
  check_frame-in judged p at None h = tt
  check_frame-in judged p at (Some (frames.Seg i)) h = check-stays (not judged || not (is_debug_seg p.module.segs i)) (BadIndex at i (length p.module.segs)) h
  check_frame-in judged p at (Some (frames.Group i)) h = tt
  check_frame-in judged p at (Some (frames.Ext i)) h = tt
  check_frame-in judged p at (Some frames.Here) h = tt
  check_frame-in judged p at (Some frames.OfTarget) h = tt

  check_goal-in : (judged : Bool) (p : ObjParts) (at : ℕ) (o : Option Goal) → (low ≤ at) × (at ≤ high) → Stays Any (check_goal judged p at o)
  check_goal-in judged p at None h = tt
  check_goal-in judged p at (Some (goals.Seg i)) h = check-stays (not judged || not (is_debug_seg p.module.segs i)) (BadIndex at i (length p.module.segs)) h
  check_goal-in judged p at (Some (goals.Group i)) h = tt
  check_goal-in judged p at (Some (goals.Ext i)) h = tt

  fix_data-in : (judged wide : Bool) (p : ObjParts) → Keeps (fix_data_at judged wide p)
  unfolding fix_data_at
  fix_data-in judged wide p c h =
      then-stays After After (byte_at c) _ (byte-in c h) λ f k1.
      then-stays Any After (check (has_threads p f.0) (NoThread c.at)) _ (check-stays (has_threads p f.0) (NoThread c.at) (here c h)) λ u1 z1.
      then-stays Any After (check (are_methods f.0) (BadField c.at)) _ (check-stays (are_methods f.0) (BadField c.at) (here c h)) λ u2 z2.
      then-stays Any After (check_frame judged p c.at (thread_frame p f.0)) _ (check_frame-in judged p c.at (thread_frame p f.0) (here c h)) λ u3 z3.
      then-stays Any After (check_goal judged p c.at (thread_goal p f.0)) _ (check_goal-in judged p c.at (thread_goal p f.0) (here c h)) λ u4 z4.
      then-stays After After (where_so (not (by_frame_thread f.0) && has_index (frame_bits f.0)) (method_index_at judged p (frame_bits f.0)) f.1) _
      (where-in (not (by_frame_thread f.0) && has_index (frame_bits f.0)) (method_index_at judged p (frame_bits f.0)) (method_index-in judged p (frame_bits f.0)) f.1 k1) λ r k2.
      then-stays After After (where_so (not (by_target_thread f.0)) (method_index_at judged p (target_bits f.0)) r.1) _ (where-in (not (by_target_thread f.0)) (method_index_at judged p (target_bits f.0)) (method_index-in judged p (target_bits f.0)) r.1 k2) λ t k3.
      then-stays After After (where_so (has_displacement f.0) (number_at (width wide)) t.1) _ (where-in (has_displacement f.0) (number_at (width wide)) (number-in (width wide)) t.1 k3) λ d k4. k4

  thread-in : (p : ObjParts) (first : FirstByte) → (low ≤ first.at) × (first.at ≤ high) → Keeps (thread_at p first)
  unfolding thread_at
  thread-in p first in_field c h =
      then-stays Any After (check (is_thread_method first.byte) (BadField first.at)) _ (check-stays (is_thread_method first.byte) (BadField first.at) in_field) λ u z.
      then-stays After After (where_so (has_index (thread_method first.byte)) (index_below (have_of p (thread_method first.byte))) c) _
      (where-in (has_index (thread_method first.byte)) (index_below (have_of p (thread_method first.byte))) (below-in (have_of p (thread_method first.byte))) c h) λ i k. k

  judge_fixup-in : (p : ObjParts) (first : FirstByte) (second : ℕ) (d : FixData) → (low ≤ first.at) × (first.at ≤ high) → (low ≤ first.of_record) × (first.of_record ≤ high) → Stays Any (judge_fixup p first second d)
  unfolding judge_fixup
  judge_fixup-in p first second d in_field in_record =
      then-stays Any Any (check (has_data p.last (offset_of first.byte second) (location_len (location_of first.byte))) (NoData first.at)) _ (check-stays (has_data p.last (offset_of first.byte second) (location_len (location_of first.byte))) (NoData first.at) in_field) λ u1 z1.
      then-stays Any Any (check (are_apart p.module.fixes (fixes_by p.last p.threads (fixup first.byte second d))) (FixOverlap first.at)) _ (check-stays (are_apart p.module.fixes (fixes_by p.last p.threads (fixup first.byte second d))) (FixOverlap first.at) in_field) λ u2 z2.
      check-stays (leb (length p.module.fixes + length (fixes_by p.last p.threads (fixup first.byte second d))) MAX_FIXES) (TooMany first.of_record) in_record

  fixup-in : (wide : Bool) (p : ObjParts) (first : FirstByte) → (low ≤ first.at) × (first.at ≤ high) → (low ≤ first.of_record) × (first.of_record ≤ high) → Keeps (fixup_at wide p first)
  unfolding fixup_at
  fixup-in wide p first in_field in_record c h =
      then-stays Any After (check (is_dropped p.last || is_location first.byte) (BadLocation first.at (location_of first.byte))) _ (check-stays (is_dropped p.last || is_location first.byte) (BadLocation first.at (location_of first.byte)) in_field) λ u1 z1.
      then-stays After After (second_of first.at c) _ (cond-stays After (eqb (length c.left) 0) _ _ in_field (byte-in c h)) λ l k1.
      then-stays After After (fix_data_at (not (is_dropped p.last)) wide p l.1) _ (fix_data-in (not (is_dropped p.last)) wide p l.1 k1) λ w k2.
      then-stays Any After (cond (is_dropped p.last) (Ok tt) (judge_fixup p first l.0 w.0)) _ (cond-stays Any (is_dropped p.last) _ _ tt (judge_fixup-in p first l.0 w.0 in_field in_record)) λ u2 z2. k2

  field-in : (wide : Bool) (p : ObjParts) (of_record : ℕ) → (low ≤ of_record) × (of_record ≤ high) → Keeps (field_at wide p of_record)
  unfolding field_at
  field-in wide p of_record in_record c h =
      then-stays After After (byte_at c) _ (byte-in c h) λ b k.
      cond-stays After (ltb b.0 128) _ _ (thread-in p _ (here c h) b.1 k) (fixup-in wide p _ (here c h) in_record b.1 k)

  fields-in : (wide : Bool) (of_record : ℕ) → (low ≤ of_record) × (of_record ≤ high) → (most : ℕ) (p : ObjParts) (c : Cursor) → IsIn c → Stays Any (fields_within wide of_record most p c)
  unfolding fields_within within
  fields-in wide of_record in_record zero p c h = tt
  fields-in wide of_record in_record (suc most) p c h =
      cond-stays Any (eqb (length c.left) 0) _ _ tt
      (then-stays After Any (field_at wide p of_record c) _ (field-in wide p of_record in_record c h) λ f k.
      then-stays Any Any (fields_within wide of_record most (add_field p f.0) f.1) _ (fields-in wide of_record in_record most (add_field p f.0) f.1 k) (λ x z. tt))

  fixupp-in : (wide : Bool) (p : ObjParts) (at : ℕ) → (low ≤ at) × (at ≤ high) → (c : Cursor) → IsIn c → Stays Any (fixupp_at wide p at c)
  unfolding fixupp_at
  fixupp-in wide p at in_record c h = then-stays Any Any (fields_within wide at (length c.left) p c) _ (fields-in wide at in_record (length c.left) p c h) (λ x k. tt)

  modend-in : (wide : Bool) (p : ObjParts) (c : Cursor) → IsIn c → Stays Any (modend_at wide p c)
  unfolding modend_at
  modend-in wide p c h =
      then-stays After Any (byte_at c) _ (byte-in c h) λ k k1.
      then-stays After Any (where_so (has_start k.0) (fix_data_at true wide p) k.1) _ (where-in (has_start k.0) (fix_data_at true wide p) (fix_data-in true wide p) k.1 k1) λ s k2. tt

  -- ---- a record

  abbrev Reader : Type 0
  Reader = ObjParts → ℕ → Cursor → Result Record OmfRefusal

  one-stays : (b : Bool) (f g : Reader) (p : ObjParts) (at : ℕ) (c : Cursor) → Stays Any (f p at c) → Stays Any (g p at c) → Stays Any (cond b f g p at c)
  one-stays true f g p at c h k = h
  one-stays false f g p at c h k = k

  pub reader-in : (ty : ℕ) (p : ObjParts) (at : ℕ) → (low ≤ at) × (at ≤ high) → (c : Cursor) → IsIn c → Stays Any (reader_of ty p at c)
  reader-in ty p at r c h =
      one-stays (eqb ty 0x88) _ _ p at c (coment-in c h)
      (one-stays (eqb ty 0x8A || eqb ty 0x8B) _ _ p at c (modend-in (is_wide ty) p c h)
      (one-stays (eqb ty 0x8C) _ _ p at c (extdef-in false c h)
      (one-stays (eqb ty 0x90 || eqb ty 0x91) _ _ p at c (pubdef-in false (is_wide ty) p c h)
      (one-stays (eqb ty 0x96) _ _ p at c (lnames-in c h)
      (one-stays (eqb ty 0x98 || eqb ty 0x99) _ _ p at c (segdef-in (is_wide ty) p c h)
      (one-stays (eqb ty 0x9A) _ _ p at c (grpdef-in p c h)
      (one-stays (eqb ty 0x9C || eqb ty 0x9D) _ _ p at c (fixupp-in (is_wide ty) p at r c h)
      (one-stays (eqb ty 0xA0 || eqb ty 0xA1) _ _ p at c (ledata-in (is_wide ty) p at r c h)
      (one-stays (eqb ty 0xA2 || eqb ty 0xA3) _ _ p at c (lidata-in (is_wide ty) p at r c h)
      (one-stays (eqb ty 0xB0) _ _ p at c (comdef-in c h)
      (one-stays (eqb ty 0xB4 || eqb ty 0xB5) _ _ p at c (extdef-in true c h)
      (one-stays (eqb ty 0xB6 || eqb ty 0xB7) _ _ p at c (pubdef-in true (is_wide ty) p c h)
      (one-stays (eqb ty 0xC2 || eqb ty 0xC3) _ _ p at c (comdat-in (is_wide ty) p at r c h)
      (one-stays (eqb ty 0x80 || eqb ty 0x82 || eqb ty 0x94 || eqb ty 0x95) _ _ p at c tt r))))))))))))))
