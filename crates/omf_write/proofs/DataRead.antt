-- Written data is read as what it was, with the fixups on it.
use Rattle.std.proofs.Common.{◌≡◌, ℕ, ◌+◌, ◌<◌, ◌≤◌, Bool, true, false, cond, List, [], ◌∷◌, ◌++◌, length, Option, Some, None, refl, sym, ap, subst, ◌∙◌, append_assoc, arith, length-append}
use Rattle.std.proofs.lemmas.List.{append-nil, take_at, drop_at}
use Rattle.std.proofs.lemmas.List.Sums.{sum_by-append}
use Rattle.std.proofs.lemmas.Bool.Decides.{nat_tests}
use Rattle.std.specs.List.{AllByRecursion, list_any, sum_by, prefix_len}
use Rattle.lx_types.proofs.Lists.{all_joined, all_front, all_back}
use Rattle.lx_bytes.specs.LittleEndian.{little_bytes}
use Rattle.lx_bytes.proofs.Numbers.{length-little_bytes}
use Rattle.obj_types.specs.declared.limits.TheConstants.{MAX_DATA}
use Rattle.obj_types.specs.declared.object.Piece.{Piece}
use Rattle.obj_types.specs.declared.object.FixAt.{FixAt}
use Rattle.obj_types.specs.declared.object.ObjModule.{ObjModule}
use Rattle.obj_types.specs.declared.object.Seg.{Seg}
use Rattle.obj_types.specs.declared.parts.LastData.{LastData}
use Rattle.obj_types.specs.declared.parts.ObjParts.{ObjParts}
use Rattle.obj_types.specs.Location.{location_len}
use Rattle.obj_types.specs.Items.{item}
use Rattle.obj_types.specs.Whole.{IsPlainSeg, LiesIn}
use Rattle.std.specs.Prelude.{IsSomeAnd}
use Rattle.omf_fields.specs.Forms.{Form, ◌then◌, number, index}
use Rattle.omf_model.specs.Record.{Record, ledata}
use Rattle.omf_model.specs.Items.{is_debug_seg}
use Rattle.omf_model.specs.Fixups.{touches}
use Rattle.omf_model.specs.Add.{add}
use Rattle.omf_model.specs.Spelling.{contents_form}
use Rattle.omf_model.specs.Good.{GoodData}
use Rattle.omf_write.specs.ObjectBytes.{index_bytes, ledata_record, lies_on, on_piece, after_piece, piece_records, data_records, fixupp_records, records_needed}
use Rattle.omf_write.specs.Writable.{LiesOn, IsOff, FollowPieces}
use Rattle.omf_write.proofs.FieldBytes.{spells_as, index_spelled, index_len}
use Rattle.omf_write.proofs.FixDataRead.{data_parts, Few, no_debug, seg_least}
use Rattle.omf_write.proofs.FixupsRead.{ReadyFix, Allowed, allowed_front, allowed_on, last_of, fixups_go}
use Rattle.omf_write.proofs.Goes.{Goes, one, stays, goes_on}
use Rattle.omf_write.proofs.ImportRead.{both}

-- what is known of a piece that is written
pub record ReadyPiece (m : ObjModule) (p : Piece) : Type 0 where
  pub range : LiesIn m p.seg p.offset (length p.bytes)
  pub short : length p.bytes ≤ 1024
  pub offset : p.offset < 0x100000000

abbrev pub size : Piece → ℕ
size p = length p.bytes

-- ---- one piece

plain_at : (offset len : ℕ) (o : Option Seg) → IsSomeAnd o (λ s. (s.debug ≡ false) × (offset + len ≤ s.len)) → IsSomeAnd o (λ s. s.debug ≡ false)
plain_at offset len (Some s) is = is.0
plain_at offset len None is = absurd is

plain_seg : (m : ObjModule) (p : Piece) → ReadyPiece m p → IsPlainSeg m p.seg
plain_seg m p ready = plain_at p.offset (size p) (item m.segs p.seg) ready.range

abbrev Content : List ℕ → Form
Content content bytes = bytes ≡ content

abbrev data_record : Piece → Record
data_record p = ledata p.seg p.offset p.bytes

data_spelled : (m : ObjModule) → Few m → (p : Piece) → ReadyPiece m p → contents_form true (data_record p) (index_bytes p.seg ++ (little_bytes 4 p.offset ++ p.bytes))
data_spelled m few p ready =
    let most = (seg_least m p.seg (plain_seg m p ready)).1 in
    let counted = few.segs in
    let fits = ready.offset in
    both (index p.seg) (number 4 p.offset then Content p.bytes) (index_bytes p.seg) (little_bytes 4 p.offset ++ p.bytes) (index_spelled p.seg (omega (arith, most, counted)))
    (both (number 4 p.offset) (Content p.bytes) (little_bytes 4 p.offset) p.bytes (omega (arith, fits), refl) refl)

data_short : (m : ObjModule) (p : Piece) → ReadyPiece m p → length (index_bytes p.seg ++ (little_bytes 4 p.offset ++ p.bytes)) < 65535
data_short m p ready =
    let four = length-little_bytes 4 p.offset in
    let i = index_len p.seg in
    let short = ready.short in
    let l2 = length-append (index_bytes p.seg) (little_bytes 4 p.offset ++ p.bytes) in
    let l1 = length-append (little_bytes 4 p.offset) p.bytes in
    omega (arith, four, i, short, l1, l2)

off_all : (p : Piece) (fixes : List FixAt) → AllByRecursion (IsOff p) fixes → list_any (touches p.seg p.offset (size p)) fixes ≡ false
off_all p [] all = refl
off_all p (f ∷ fixes) all = let first = all.0 in rw first (off_all p fixes all.1)

module _ (names : List (List ℕ)) (m : ObjModule) where
  abbrev at : List Piece → List FixAt → LastData → ObjParts
  at pieces fixes last = data_parts names m pieces fixes last

  good_piece : Few m → (before : List Piece) (fixes : List FixAt) (last : LastData) (p : Piece) → ReadyPiece m p → sum_by size before + size p ≤ MAX_DATA → AllByRecursion (IsOff p) fixes → GoodData (at before fixes last) p.seg p.offset (size p)
  good_piece counts before fixes last p ready limit off = record {
    segment = seg_least m p.seg (plain_seg m p ready);
    index = (let most = (seg_least m p.seg (plain_seg m p ready)).1 in let counted = counts.segs in omega (arith, most, counted));
    place = λ e. record { range = ready.range; limit = limit; on_no_fix = off_all p fixes off };
  }

  added_piece : (b : Bool) (dropped kept : ObjParts) → b ≡ false → cond b dropped kept ≡ kept
  added_piece true dropped kept e = absurd cc
  added_piece false dropped kept e = refl

  piece_goes : Few m → (before : List Piece) (fixes : List FixAt) (last : LastData) (p : Piece) → ReadyPiece m p → sum_by size before + size p ≤ MAX_DATA → AllByRecursion (IsOff p) fixes → Goes (at before fixes last) (ledata_record p) (at (before ++ p ∷ []) fixes (last_of p))
  unfolding add
  piece_goes counts before fixes last p ready limit off =
      one (at before fixes last) (at (before ++ p ∷ []) fixes (last_of p)) (data_record p) (ledata_record p)
      (good_piece counts before fixes last p ready limit off) refl
      (spells_as (data_record p) 0xA1 true (index_bytes p.seg ++ (little_bytes 4 p.offset ++ p.bytes)) (1, omega arith, refl) (data_short m p ready) refl (data_spelled m counts p ready))
      (added_piece (is_debug_seg m.segs p.seg) _ (at (before ++ p ∷ []) fixes (last_of p)) (no_debug m p.seg (plain_seg m p ready)))

-- ---- the fixups of each piece

-- a fixup that shares no byte with a piece does not lie on it
not_on : (p : Piece) (f : FixAt) → 0 < location_len f.loc → IsOff p f → lies_on p f ≡ false
not_on p f some off = by (lies_on p f) refl
  where
    by : (b : Bool) → lies_on p f ≡ b → b ≡ false
    by false e = refl
    by true e = absurd (meets p f some off e)
      where
        meets : (p : Piece) (f : FixAt) → 0 < location_len f.loc → IsOff p f → lies_on p f ≡ true → ⊥
        meets p f some off e = grind (arith, nat_tests)

abbrev Located : FixAt → Type 0
Located f = 0 < location_len f.loc

own_prefix : (p : Piece) (own others : List FixAt) → AllByRecursion (LiesOn p) own → AllByRecursion (IsOff p) others → AllByRecursion Located others → prefix_len (lies_on p) (own ++ others) ≡ length own
own_prefix p [] [] on off some = refl
own_prefix p [] (f ∷ others) on off some = let no_more = not_on p f some.0 off.0 in rw no_more refl
own_prefix p (f ∷ own) others on off some =
    let first = on.0 in
    let rest = own_prefix p own others on.1 off some in
    rw first (omega (arith, rest))

-- ---- all pieces

pub record DataGo (names : List (List ℕ)) (m : ObjModule) (before pieces : List Piece) (done fixes : List FixAt) (last : LastData) : Type 0 where
  pub then_last : LastData
  pub goes : Goes (data_parts names m before done last) (data_records pieces fixes) (data_parts names m (before ++ pieces) (done ++ fixes) then_last)

located : (m : ObjModule) (fixes : List FixAt) → AllByRecursion (ReadyFix m) fixes → AllByRecursion Located fixes
located m [] all = tt
located m (f ∷ fixes) all = (all.0.whole.location, located m fixes all.1)

off_both : (done own : List FixAt) (ps : List Piece) → AllByRecursion (λ q. AllByRecursion (IsOff q) done) ps → AllByRecursion (λ q. AllByRecursion (IsOff q) own) ps → AllByRecursion (λ q. AllByRecursion (IsOff q) (done ++ own)) ps
off_both done own [] a b = tt
off_both done own (q ∷ ps) a b = (all_joined (IsOff q) done own a.0 b.0, off_both done own ps a.1 b.1)

pub data_go : (names : List (List ℕ)) (m : ObjModule) → Few m → (before pieces : List Piece) (done fixes : List FixAt) (last : LastData) → AllByRecursion (ReadyPiece m) pieces → sum_by size (before ++ pieces) ≤ MAX_DATA
    → AllByRecursion (ReadyFix m) fixes → AllByRecursion (λ q. AllByRecursion (IsOff q) done) pieces → FollowPieces pieces fixes → Allowed (done ++ fixes) → DataGo names m before pieces done fixes last
data_go names m counts before [] done fixes last ready limit ready_fixes off none fine =
    let same : done ≡ done ++ fixes = sym (append-nil done) ∙ ap (λ (fs : List FixAt). done ++ fs) (sym none) in
    let path : data_parts names m before done last ≡ data_parts names m (before ++ []) (done ++ fixes) last = λ i. data_parts names m (sym (append-nil before) i) (same i) last in
    record { then_last = last; goes = subst (λ (q : ObjParts). Goes (data_parts names m before done last) [] q) path (stays (data_parts names m before done last)) }
data_go names m counts before (p ∷ ps) done fixes last ready limit ready_fixes off follow fine =
    let own : List FixAt = follow.0 in
    let others : List FixAt = follow.1 in
    let same : fixes ≡ own ++ others = follow.2 in
    let joined : AllByRecursion (ReadyFix m) (own ++ others) = subst (λ (fs : List FixAt). AllByRecursion (ReadyFix m) fs) same ready_fixes in
    let ready_own = all_front (ReadyFix m) own others joined in
    let ready_others = all_back (ReadyFix m) own others joined in
    let count : length own ≡ prefix_len (lies_on p) (own ++ others) = sym (own_prefix p own others follow.3 follow.4 (located m others ready_others)) in
    let on_is : own ≡ on_piece p fixes = sym (ap (λ (fs : List FixAt). on_piece p fs) same ∙ take_at own others (prefix_len (lies_on p) (own ++ others)) count) in
    let after_is : others ≡ after_piece p fixes = sym (ap (λ (fs : List FixAt). after_piece p fs) same ∙ drop_at own others (prefix_len (lies_on p) (own ++ others)) count) in
    let whole : Allowed ((done ++ own) ++ others) = allowed_on done own others (subst (λ (fs : List FixAt). Allowed (done ++ fs)) same fine) in
    let sum = sum_by-append size before (p ∷ ps) in
    let one_on : sum_by size (p ∷ ps) ≡ (0 + size p) + sum_by size ps = sum_by-append size (p ∷ []) ps in
    let front : sum_by size before + size p ≤ MAX_DATA = omega (arith, limit, sum, one_on) in
    let limit_on : sum_by size ((before ++ p ∷ []) ++ ps) ≤ MAX_DATA = subst (λ (qs : List Piece). sum_by size qs ≤ MAX_DATA) (sym (append_assoc before (p ∷ []) ps)) limit in
    let first = piece_goes names m counts before done last p ready.0 front off.0 in
    let second = fixups_go names m (before ++ p ∷ []) p counts done own ready.0.short ready_own follow.3 (allowed_front (done ++ own) others whole) in
    let rest = data_go names m counts (before ++ p ∷ []) ps (done ++ own) others (last_of p) ready.1 limit_on ready_others (off_both done own ps off.1 follow.5) follow.6 whole in
    let s0 : ObjParts = data_parts names m before done last in
    let s1 : ObjParts = data_parts names m (before ++ p ∷ []) done (last_of p) in
    let s2 : ObjParts = data_parts names m (before ++ p ∷ []) (done ++ own) (last_of p) in
    let s3 : ObjParts = data_parts names m ((before ++ p ∷ []) ++ ps) ((done ++ own) ++ others) rest.then_last in
    let all = goes_on s0 s2 s3 (piece_records p own) (data_records ps others) (goes_on s0 s1 s2 (ledata_record p) (fixupp_records (records_needed own) p.offset own) first second) rest.goes in
    let fixes_joined : (done ++ own) ++ others ≡ done ++ fixes = append_assoc done own others ∙ ap (λ (fs : List FixAt). done ++ fs) (sym same) in
    let put : Goes s0 (data_records (p ∷ ps) fixes) s3 = subst (λ (bytes : List ℕ). Goes s0 bytes s3) (λ i. (piece_records p (on_is i) ++ data_records ps (after_is i))) all in
    let end : s3 ≡ data_parts names m (before ++ p ∷ ps) (done ++ fixes) rest.then_last = λ i. data_parts names m (append_assoc before (p ∷ []) ps i) (fixes_joined i) rest.then_last in
    record {
      then_last = rest.then_last;
      goes = subst (λ (q : ObjParts). Goes s0 (data_records (p ∷ ps) fixes) q) end put;
    }
