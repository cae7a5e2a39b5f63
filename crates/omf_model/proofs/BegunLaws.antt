-- An unfinished module goes on: what good records keep of it.
use Rattle.std.proofs.Common.{◌≡◌, ℕ, Bool, true, false, List, [], ◌∷◌, ◌++◌, length, map, Option, Ok, refl, sym, ap, subst, ◌∙◌, arith, inl, inr, append_assoc, length-append}
use Rattle.std.specs.Prelude.{◌&&◌}
use Rattle.std.specs.List.{AllByRecursion, Contains}
use Rattle.std.proofs.Math.Seq.{get_or-append_seam}
use Rattle.std.proofs.lemmas.List.{append-nil}
use Rattle.lx_types.proofs.Lists.{all_joined, all_weaker}
use Rattle.lx_bytes.specs.Cursor.{Cursor}
use Rattle.lx_bytes.specs.LittleEndian.{AreBytes}
use Rattle.obj_types.specs.declared.object.FixAt.{FixAt}
use Rattle.obj_types.specs.declared.parts.LastData.{LastData}
use Rattle.obj_types.specs.declared.parts.LastData.TheVariants as datas
use Rattle.obj_types.specs.declared.parts.ObjParts.{ObjParts}
use Rattle.obj_types.specs.Fresh.{fresh_parts}
use Rattle.obj_types.specs.Location.{location_len}
use Rattle.obj_types.specs.Whole.{WholeModule}
use Rattle.omf_model.specs.Blocks.{Blocks, block_bytes, expanded_len}
use Rattle.omf_model.specs.Record.{Record, header, ledata, lidata, comdat, fixupp, FixField, thread, fixup, FixData, location_of, offset_of, is_end}
use Rattle.omf_model.specs.Items.{is_debug_seg}
use Rattle.omf_model.specs.Fixups.{has_data, data_segment, copies_of, fixes_by, touches}
use Rattle.omf_model.specs.ReadModule.{reader_of}
use Rattle.omf_model.specs.Comdat.{ComDat, data_with}
use Rattle.omf_model.specs.ReadComdat.{number_so_far}
use Rattle.omf_model.specs.Add.{add, add_comdat, add_field, add_fields}
use Rattle.omf_model.specs.Finished.{finished}
use Rattle.omf_model.specs.Parts.{parts_of}
use Rattle.omf_model.specs.Good.{GoodAfter, GoodData, GoodComdat, GoodFixup, GoodAfterData, GoodField, GoodFields, EachGood}
use Rattle.omf_model.specs.Begun.{AreBegun, IsBegun, LiesAt, last_offset, last_len, IsOnLast, SplitsAtLast, IsWholeSoFar}
use Rattle.omf_model.proofs.DataLaws.{bool_cases}
use Rattle.omf_model.proofs.BlockLaws.{blocks_in-bytes}
use Rattle.omf_model.proofs.PairLaws.{all-at}
use Rattle.omf_model.proofs.PartsLaws.{parts_of-snoc}
use Rattle.omf_model.proofs.ModuleLaws.{parts_header}
use Rattle.omf_model.proofs.RecordLaws.{reader_sound}
use Rattle.omf_model.proofs.NumberLaws.{WholeFixAt}
use Rattle.omf_model.proofs.SaneLaws.{PieceIn}
use Rattle.omf_model.proofs.SaneStep.{PubIn, Sane, FrameSet, GoalSet, sane-four}
use Rattle.omf_model.proofs.FinishedLaws.{sane-whole}
use Rattle.omf_model.proofs.WholeLaws.{none-any, record-sane, begun_records-sane}

-- ---- records

each-good-snoc : (xs before : List Record) (r : Record) → EachGood before xs → GoodAfter (parts_of (before ++ xs)) r → EachGood before (xs ++ r ∷ [])
each-good-snoc [] before r g h = (subst (λ (qs : List Record). GoodAfter (parts_of qs) r) (append-nil before) h, tt)
each-good-snoc (x ∷ xs) before r g h = (g.0, each-good-snoc xs (before ++ x ∷ []) r g.1 (subst (λ (qs : List Record). GoodAfter (parts_of qs) r) (sym (append_assoc before (x ∷ []) xs)) h))

pub begun-first : (name : List ℕ) → IsBegun (add fresh_parts (header name))
begun-first name = record {
  records = header name ∷ [];
  begun = record { name = name; others = []; headed = refl; good = tt };
  still = (refl, tt);
  meant = sym (parts_header name);
}

more-begun : (rs : List Record) (r : Record) → AreBegun rs → GoodAfter (parts_of rs) r → AreBegun (rs ++ r ∷ [])
more-begun rs r b good = record {
  name = b.name;
  others = b.others ++ r ∷ [];
  headed = ap (λ (qs : List Record). qs ++ r ∷ []) b.headed;
  good = each-good-snoc b.others (header b.name ∷ []) r b.good (subst (λ (qs : List Record). GoodAfter (parts_of qs) r) b.headed good);
}

pub begun-kept : (p : ObjParts) (r : Record) → IsBegun p → GoodAfter p r → is_end r ≡ false → IsBegun (add p r)
begun-kept p r b good still =
    let here : GoodAfter (parts_of b.records) r = subst (λ (q : ObjParts). GoodAfter q r) b.meant good in
    record {
      records = b.records ++ r ∷ [];
      begun = more-begun b.records r b.begun here;
      still = all_joined (λ (q : Record). is_end q ≡ false) b.records (r ∷ []) b.still (still, tt);
      meant = ap (λ (q : ObjParts). add q r) b.meant ∙ sym (parts_of-snoc b.records r);
    }

pub read-good : (p : ObjParts) (ty at : ℕ) (c : Cursor) (r : Record) → AreBytes c.left → reader_of ty p at c ≡ Ok r → GoodAfter p r
read-good p ty at c r bytes e = (reader_sound ty at p c r bytes e).good

-- ---- the fixes on the last data record

abbrev Untouched : LastData → FixAt → Type 0
Untouched last f = touches (data_segment last) (last_offset last) (last_len last) f ≡ false

no-bytes : (a b c : Bool) → (a && false && b && c) ≡ false
no-bytes true b c = refl
no-bytes false b c = refl

no-place : (fs : List FixAt) → AllByRecursion (λ (f : FixAt). touches 0 0 0 f ≡ false) fs
no-place [] = tt
no-place (f ∷ fs) = (no-bytes _ _ _, no-place fs)

splits-first : (name : List ℕ) → SplitsAtLast (add fresh_parts (header name)).last (add fresh_parts (header name)).module.fixes
unfolding add
splits-first name = record { earlier = []; own = []; joined = refl; outside = tt; inside = tt }

all-in : (front xs : List ℕ) → AllByRecursion (Contains (front ++ xs)) xs
all-in front [] = tt
all-in front (x ∷ xs) = (
  (length front, omega (arith, length-append front (x ∷ xs)), get_or-append_seam front x xs x),
  subst (λ (ys : List ℕ). AllByRecursion (Contains ys) xs) (append_assoc front (x ∷ []) xs) (all-in (front ++ x ∷ []) xs),
)

all-made : {A B : Type 0} (P : A → Type 0) (Q : B → Type 0) (f : A → B) → ((x : A) → P x → Q (f x)) → (xs : List A) → AllByRecursion P xs → AllByRecursion Q (map f xs)
all-made P Q f h [] a = tt
all-made P Q f h (x ∷ xs) a = (h x a.0, all-made P Q f h xs a.1)

on-last : (last : LastData) (p : ObjParts) (high low : ℕ) (d : FixData) →
    has_data last (offset_of high low) (location_len (location_of high)) ≡ true → AllByRecursion (IsOnLast last) (fixes_by last p.threads (fixup high low d))
unfolding fixes_by
on-last last p high low d on =
    all-made (Contains (copies_of last (offset_of high low))) (IsOnLast last) _
    (λ x h. record { segment = refl; offset = offset_of high low; on_data = on; copy = h })
    (copies_of last (offset_of high low)) (all-in [] (copies_of last (offset_of high low)))

none-dropped : (p : ObjParts) (high low : ℕ) (d : FixData) → fixes_by datas.Dropped p.threads (fixup high low d) ≡ []
unfolding fixes_by
none-dropped p high low d = refl

none-set : (last : LastData) (p : ObjParts) (b : ℕ) (i : Option ℕ) → fixes_by last p.threads (thread b i) ≡ []
unfolding fixes_by
none-set last p b i = refl

new-on : (p : ObjParts) (f : FixField) (last : LastData) → p.last ≡ last → GoodField p f → AllByRecursion (IsOnLast last) (fixes_by last p.threads f)
new-on p (thread b i) last e g = subst (AllByRecursion (IsOnLast last)) (sym (none-set last p b i)) tt
new-on p (fixup high low d) last e g = by last e (subst (λ (l : LastData). GoodAfterData l p high low d) e g)
  where
    on : (l : LastData) → p.last ≡ l → GoodFixup p high low d → AllByRecursion (IsOnLast l) (fixes_by l p.threads (fixup high low d))
    on l same k = on-last l p high low d (subst (λ (m : LastData). has_data m (offset_of high low) (location_len (location_of high)) ≡ true) same k.on_data)

    by : (l : LastData) → p.last ≡ l → GoodAfterData l p high low d → AllByRecursion (IsOnLast l) (fixes_by l p.threads (fixup high low d))
    by datas.None same k = on datas.None same k
    by (datas.Straight seg offset len) same k = on (datas.Straight seg offset len) same k
    by (datas.Blocks seg offset wide body) same k = on (datas.Blocks seg offset wide body) same k
    by datas.Dropped same k = subst (AllByRecursion (IsOnLast datas.Dropped)) (sym (none-dropped p high low d)) tt

splits-field : (p : ObjParts) (f : FixField) → SplitsAtLast p.last p.module.fixes → GoodField p f → SplitsAtLast (add_field p f).last (add_field p f).module.fixes
unfolding add_field
splits-field p f s g = record {
  earlier = s.earlier;
  own = s.own ++ fixes_by p.last p.threads f;
  joined = ap (λ (fs : List FixAt). fs ++ fixes_by p.last p.threads f) s.joined ∙ append_assoc s.earlier s.own (fixes_by p.last p.threads f);
  outside = s.outside;
  inside = all_joined (IsOnLast p.last) s.own (fixes_by p.last p.threads f) s.inside (new-on p f p.last refl g);
}

splits-fields : (fs : List FixField) (p : ObjParts) → SplitsAtLast p.last p.module.fixes → GoodFields p fs → SplitsAtLast (add_fields p fs).last (add_fields p fs).module.fixes
unfolding add_fields
splits-fields [] p s g = s
splits-fields (f ∷ fs) p s g = splits-fields fs (add_field p f) (splits-field p f s g.0) g.1

-- a new data record: what came before is outside
fresh-data : (last : LastData) (fixes : List FixAt) → AllByRecursion (Untouched last) fixes → SplitsAtLast last fixes
fresh-data last fixes out = record { earlier = fixes; own = []; joined = sym (append-nil fixes); outside = out; inside = tt }

ledata-splits : (p : ObjParts) (segment offset : ℕ) (content : List ℕ) →
    GoodData p segment offset (length content) → SplitsAtLast (add p (ledata segment offset content)).last (add p (ledata segment offset content)).module.fixes
unfolding add
ledata-splits p segment offset content g =
    elim (bool_cases (is_debug_seg p.module.segs segment)) [
      | inl h ↦ rw h (fresh-data datas.Dropped p.module.fixes (no-place p.module.fixes))
      | inr h ↦ rw h (fresh-data (datas.Straight segment offset (length content)) p.module.fixes (none-any (touches segment offset (length content)) p.module.fixes (g.place h).on_no_fix))
    ]

lidata-splits : (p : ObjParts) (wide : Bool) (segment offset : ℕ) (blocks : Blocks) → GoodAfter p (lidata wide segment offset blocks) →
    SplitsAtLast (add p (lidata wide segment offset blocks)).last (add p (lidata wide segment offset blocks)).module.fixes
unfolding add
lidata-splits p wide segment offset blocks g =
    elim (bool_cases (is_debug_seg p.module.segs segment)) [
      | inl h ↦ rw h (fresh-data datas.Dropped p.module.fixes (no-place p.module.fixes))
      | inr h ↦
          let same = blocks_in-bytes wide blocks g.0 in
          let out : AllByRecursion (λ (f : FixAt). touches segment offset (expanded_len blocks) f ≡ false) p.module.fixes =
          none-any (touches segment offset (expanded_len blocks)) p.module.fixes (g.1.place h).on_no_fix in
          rw h (fresh-data (datas.Blocks segment offset wide (block_bytes wide blocks)) p.module.fixes
          (subst (λ (b : Blocks). AllByRecursion (λ (f : FixAt). touches segment offset (expanded_len b) f ≡ false) p.module.fixes) (sym same) out))
    ]

comdat-splits : (p : ObjParts) (d : ComDat) → GoodComdat p d → SplitsAtLast (add p (comdat d)).last (add p (comdat d)).module.fixes
unfolding add add_comdat
comdat-splits p d g = fresh-data (data_with (number_so_far p d) d) p.module.fixes (none-any (touches (number_so_far p d) d.offset (length d.content)) p.module.fixes g.on_no_fix)

pub splits-add : (p : ObjParts) (r : Record) → SplitsAtLast p.last p.module.fixes → GoodAfter p r → SplitsAtLast (add p r).last (add p r).module.fixes
unfolding add
splits-add p (ledata segment offset content) s g = ledata-splits p segment offset content g
splits-add p (lidata wide segment offset blocks) s g = lidata-splits p wide segment offset blocks g
splits-add p (comdat d) s g = comdat-splits p d g
splits-add p (fixupp fields) s g = splits-fields fields p s g
splits-add p r s g = s

splits-all : (rs before : List Record) → SplitsAtLast (parts_of before).last (parts_of before).module.fixes → EachGood before rs → SplitsAtLast (parts_of (before ++ rs)).last (parts_of (before ++ rs)).module.fixes
splits-all [] before s g = subst (λ (qs : List Record). SplitsAtLast (parts_of qs).last (parts_of qs).module.fixes) (sym (append-nil before)) s
splits-all (r ∷ rs) before s g =
    let next = subst (λ (q : ObjParts). SplitsAtLast q.last q.module.fixes) (sym (parts_of-snoc before r)) (splits-add (parts_of before) r s g.0) in
    subst (λ (qs : List Record). SplitsAtLast (parts_of qs).last (parts_of qs).module.fixes) (append_assoc before (r ∷ []) rs) (splits-all rs (before ++ r ∷ []) next g.1)

begun-splits : (rs : List Record) → AreBegun rs → SplitsAtLast (parts_of rs).last (parts_of rs).module.fixes
begun-splits rs b =
    let first = subst (λ (q : ObjParts). SplitsAtLast q.last q.module.fixes) (sym (parts_header b.name)) (splits-first b.name) in
    subst (λ (qs : List Record). SplitsAtLast (parts_of qs).last (parts_of qs).module.fixes) (sym b.headed) (splits-all b.others (header b.name ∷ []) first b.good)

-- ---- what an unfinished module gives

pub begun-sane : (p : ObjParts) → IsBegun p → Sane p
begun-sane p b = subst Sane (sym b.meant) (begun_records-sane b.records b.begun)

pub begun-whole : (p : ObjParts) → IsBegun p → IsWholeSoFar p
begun-whole p b =
    let s = begun-sane p b in
    record {
      whole = sane-whole p s;
      pubs = all-at (PubIn p) p.module.pubs s.pubs;
      pieces = all-at (PieceIn p) p.module.pieces s.pieces;
      fixes = all-at (λ (f : FixAt). LiesAt p f.seg f.offset (location_len f.loc)) p.module.fixes
          (all_weaker (WholeFixAt p) (λ (f : FixAt). LiesAt p f.seg f.offset (location_len f.loc)) (λ f w. w.place) p.module.fixes s.fixes);
      data_limit = s.data_limit;
      last = s.last;
      frames_set = all-at (FrameSet p.module) p.threads.frame s.frames;
      goals_set = all-at (GoalSet p.module) p.threads.goal s.goals;
      four = sane-four p s;
      split = subst (λ (q : ObjParts). SplitsAtLast q.last q.module.fixes) (sym b.meant) (begun-splits b.records b.begun);
    }

pub begun-ends : (p : ObjParts) (r : Record) → IsBegun p → GoodAfter p r → WholeModule (finished (add p r))
begun-ends p r b good = sane-whole (add p r) (record-sane p r (begun-sane p b) good)
