-- A record that stands at a cursor, and what it adds.
use Rattle.std.proofs.Common.{◌≡◌, ℕ, suc, ◌+◌, ◌<◌, ◌≤◌, Bool, true, false, List, [], ◌∷◌, ◌++◌, length, Option, Ok, Err, Result, refl, sym, ap, subst, ◌∙◌, arith, length-append}
use Rattle.std.specs.List.{AllByRecursion}
use Rattle.std.proofs.lemmas.List.Elements.{All-contains, All-weaker}
use Rattle.lx_types.specs.declared.fail.Fail.{Fail}
use Rattle.lx_types.specs.declared.fail.Fail.TheVariants.{Said, NoMemory}
use Rattle.lx_bytes.specs.Cursor.{Cursor}
use Rattle.lx_bytes.specs.LittleEndian.{AreBytes}
use Rattle.obj_types.specs.declared.object.ObjModule.{ObjModule}
use Rattle.obj_types.specs.declared.object.Piece.{Piece}
use Rattle.obj_types.specs.declared.object.FixAt.{FixAt}
use Rattle.obj_types.specs.declared.object.StartAt.{StartAt}
use Rattle.obj_types.specs.declared.parts.LastData.{LastData}
use Rattle.obj_types.specs.declared.parts.LastData.TheVariants as datas
use Rattle.obj_types.specs.Location.{location_len}
use Rattle.obj_types.specs.Whole.{WholeModule}
use Rattle.obj_types.specs.declared.refusal.OmfRefusal.{OmfRefusal}
use Rattle.obj_types.specs.declared.refusal.OmfRefusal.TheVariants.{Short}
use Rattle.obj_types.specs.declared.parts.ObjParts.{ObjParts}
use Rattle.lx_types.specs.Answers.{◌>>=◌, if_said, Gives}
use Rattle.omf_fields.specs.Fields.{Reading}
use Rattle.omf_fields.specs.Within.{within}
use Rattle.omf_fields.proofs.SpanLaws.{bind_ok, bytes_after, ok_is}
use Rattle.omf_frame.specs.Frame.{BeginsRecord, record_bytes}
use Rattle.omf_frame.specs.Refusal.{Refuses}
use Rattle.omf_frame.specs.declared.refusal.FrameRefusal.{FrameRefusal}
use Rattle.omf_frame.specs.declared.omf_record.Rec.{Rec}
use Rattle.obj_types.specs.Fresh.{fresh_parts}
use Rattle.std.specs.Prelude.{◌⊎◌}
use Rattle.std.proofs.Common.{inl, inr}
use Rattle.omf_model.specs.Add.{add}
use Rattle.omf_model.specs.Begun.{IsBegun, LiesAt, LastFits, IsWholeSoFar}
use Rattle.omf_model.specs.Items.{start_of}
use Rattle.omf_model.specs.Finished.{finished}
use Rattle.omf_model.specs.Good.{GoodAfter}
use Rattle.omf_model.specs.ReadAfter.{read_after, contents_at}
use Rattle.omf_model.specs.RawRecord.{RawRecord, as_omf, raw_at}
use Rattle.omf_model.specs.Record.{Record, header, passed, comment, default_library, impdef, expdef, lnames, segdef, grpdef, pubdef, extdef, comdef, ledata, lidata, comdat, fixupp, modend, is_end}
use Rattle.omf_model.specs.ReadModule.{reader_of, header_at, record_at, rest_within, rest_at, module_at}
use Rattle.omf_model.specs.Spelling.{types_of}
use Rattle.omf_model.proofs.BegunLaws.{begun-kept, begun-whole, begun-ends}
use Rattle.omf_model.proofs.PairLaws.{all-at}
use Rattle.omf_model.proofs.RawLaws.{raw_begun, raw_refused, raw_sound}
use Rattle.omf_model.proofs.RecordLaws.{header_sound, record_sound, reader_sound, AreBytes-front}
use Rattle.omf_model.proofs.TurnLaws.{rest-more, rest-next, rest-last, rest-refused}
use Rattle.omf_files.specs.Modules.{StandsAt, begun_at, ends_module, finished_at}

-- ---- it stands there

pub stands : (rec : Rec) (c new : Cursor) → rec.at ≡ c.at → BeginsRecord c.left rec.ty rec.body.now new.left → new.at ≡ c.at + 4 + length rec.body.now → StandsAt rec c new
stands rec c new place begins beyond = record {
  checksum = begins.checksum;
  raw = raw_begun c rec.ty rec.body.now new.left begins ∙ (λ i. Ok (record { at = sym place i; ty = rec.ty; contents = rec.body.now; checksum = begins.checksum; after = record { at = sym beyond i; left = new.left } }));
}

pub shorter : (rec : Rec) (c new : Cursor) → BeginsRecord c.left rec.ty rec.body.now new.left → length new.left < length c.left
shorter rec c new begins =
    let long : length c.left ≡ length (record_bytes rec.ty rec.body.now begins.checksum) + length new.left = ap (λ (xs : List ℕ). length xs) begins.whole.joined ∙ length-append (record_bytes rec.ty rec.body.now begins.checksum) new.left in
    omega (arith, long)

-- ---- its type tells whether it ends the module

abbrev Tells : Record → ℕ × Bool → Type 0
Tells r t = ends_module t.0 ≡ is_end r

types-tell : (r : Record) → AllByRecursion (Tells r) (types_of r)
types-tell (header text) = (refl, (refl, tt))
types-tell passed = (refl, (refl, (refl, (refl, tt))))
types-tell comment = (refl, tt)
types-tell (default_library text) = (refl, tt)
types-tell (impdef d) = (refl, tt)
types-tell (expdef d) = (refl, tt)
types-tell (lnames texts) = (refl, tt)
types-tell (segdef d) = (refl, (refl, tt))
types-tell (grpdef n members) = (refl, tt)
types-tell (pubdef true g s f defs) = (refl, (refl, tt))
types-tell (pubdef false g s f defs) = (refl, (refl, tt))
types-tell (extdef true defs) = (refl, (refl, tt))
types-tell (extdef false defs) = (refl, tt)
types-tell (comdef defs) = (refl, tt)
types-tell (ledata s o bs) = (refl, (refl, tt))
types-tell (lidata true s o b) = (refl, tt)
types-tell (lidata false s o b) = (refl, tt)
types-tell (comdat d) = (refl, (refl, tt))
types-tell (fixupp fields) = (refl, (refl, tt))
types-tell (modend kind start) = (refl, (refl, tt))

ends-so : (ty at : ℕ) (p : ObjParts) (c : Cursor) (r : Record) → AreBytes c.left → reader_of ty p at c ≡ Ok r → ends_module ty ≡ is_end r
ends-so ty at p c r bytes e =
    let f = reader_sound ty at p c r bytes e in
    All-contains (Tells r) (types_of r) (ty, f.wide) (all-at (Tells r) (types_of r) (types-tell r)) f.is_type

contents-bytes : (c : Cursor) (f : RawRecord) → AreBytes c.left → raw_at c ≡ Ok f → AreBytes f.contents
contents-bytes c f bytes e =
    let g = (raw_sound c f bytes e).is.whole in
    let all : AreBytes (record_bytes f.ty f.contents f.checksum ++ f.after.left) = subst AreBytes g.joined bytes in
    let record_is : AreBytes (record_bytes f.ty f.contents f.checksum) = AreBytes-front (record_bytes f.ty f.contents f.checksum) f.after.left all in
    AreBytes-front f.contents (f.checksum ∷ []) (λ i. record_is (suc (suc (suc i))))

abbrev given_parts : ObjParts → Cursor → Reading ObjParts
given_parts p c = Ok (p, c)

bind-err : {A B : Type 0} (r : Result A OmfRefusal) (f : A → B) (refusal : OmfRefusal) → (r >>= λ x. Ok (f x)) ≡ Err refusal → r ≡ Err refusal
bind-err (Ok x) f refusal e = absurd cc
bind-err {A} (Err d) f refusal e = ap (λ (r : OmfRefusal). Err r) cc

-- ---- a turn

-- The record that was read, as a value, and what it adds.
pub record Turn (p : ObjParts) (c : Cursor) (ty : ℕ) (q : ObjParts) (new : Cursor) : Type 0 where
  pub value : Record
  pub read : record_at p c ≡ Ok (value, new)
  pub adds : add p value ≡ q
  pub ends : ends_module ty ≡ is_end value

record-read : (p : ObjParts) (c : Cursor) (f : RawRecord) (r : Record) → raw_at c ≡ Ok f → reader_of f.ty p f.at (contents_at f.at f.contents) ≡ Ok r → record_at p c ≡ Ok (r, f.after)
unfolding record_at
record-read p c f r a b = rw (a, b) refl

record-refused : (p : ObjParts) (c : Cursor) (f : RawRecord) (refusal : OmfRefusal) → raw_at c ≡ Ok f → reader_of f.ty p f.at (contents_at f.at f.contents) ≡ Err refusal → record_at p c ≡ Err refusal
unfolding record_at
record-refused p c f refusal a b = rw (a, b) refl

pub turn : (p q : ObjParts) (rec : Rec) (c new : Cursor) → AreBytes c.left → StandsAt rec c new → read_after p rec ≡ Ok q → Turn p c rec.ty q new
turn p q rec c new bytes there e =
    let b = bind_ok (reader_of rec.ty p rec.at (contents_at rec.at rec.body.now)) (λ r. Ok (add p r)) q e in
    record {
      value = b.0;
      read = record-read p c _ b.0 there.raw b.1;
      adds = ok_is (add p b.0) q b.2;
      ends = ends-so rec.ty rec.at p (contents_at rec.at rec.body.now) b.0 (contents-bytes c _ bytes there.raw) b.1;
    }

pub begun-next : (p q : ObjParts) (c new : Cursor) (ty : ℕ) → AreBytes c.left → IsBegun p → Turn p c ty q new → ends_module ty ≡ false → IsBegun q
begun-next p q c new ty bytes begun t open_ended =
    let good = (record_sound p c t.value new bytes t.read).1 in
    subst IsBegun t.adds (begun-kept p t.value begun good (sym t.ends ∙ open_ended))

pub rest-so : (p q : ObjParts) (c new : Cursor) (ty : ℕ) → AreBytes c.left → Turn p c ty q new → ends_module ty ≡ false → rest_at p c ≡ rest_at q new
rest-so p q c new ty bytes t open_ended = rest-next p c t.value new bytes t.read (sym t.ends ∙ open_ended) ∙ ap (λ (x : ObjParts). rest_at x new) t.adds

pub rest-ends : (p q : ObjParts) (c new : Cursor) (ty : ℕ) → AreBytes c.left → Turn p c ty q new → ends_module ty ≡ true → rest_at p c ≡ Ok (q, new)
rest-ends p q c new ty bytes t ended = rest-last p c t.value new bytes t.read (sym t.ends ∙ ended) ∙ ap (λ (x : ObjParts). given_parts x new) t.adds

pub no-record : (p : ObjParts) (c : Cursor) (refusal : OmfRefusal) → AreBytes c.left → raw_at c ≡ Err refusal → rest_at p c ≡ Err refusal
unfolding record_at
no-record p c refusal bytes e = rest-refused p c refusal bytes (rw e refl)

pub refused : (p : ObjParts) (rec : Rec) (c new : Cursor) (refusal : OmfRefusal) → AreBytes c.left → StandsAt rec c new → read_after p rec ≡ Err refusal → rest_at p c ≡ Err refusal
refused p rec c new refusal bytes there e =
    rest-refused p c refusal bytes (record-refused p c _ refusal there.raw (bind-err (reader_of rec.ty p rec.at (contents_at rec.at rec.body.now)) (add p) refusal e))

pub none-left : (p : ObjParts) (c : Cursor) → c.left ≡ [] → rest_at p c ≡ Err (Short c.at)
unfolding rest_within within
none-left p c none = rw none refl

pub frame-refused : (c : Cursor) (refusal shape : FrameRefusal) → Refuses c refusal → refusal ≡ shape → raw_at c ≡ Err (as_omf shape)
frame-refused c refusal shape h e = raw_refused c refusal h ∙ ap (λ (r : FrameRefusal). Err (as_omf r)) e

-- ---- the record that ends the module

abbrev started_at : ObjParts → Option StartAt → ObjParts
started_at p start = record p { «module» = record p.module { start = start } }

-- It adds a start address and nothing else, so what was whole before it is so after it.
module _ (p : ObjParts) (start : Option StartAt) where
  lies-after : (number offset len : ℕ) → LiesAt p number offset len → LiesAt (started_at p start) number offset len
  lies-after number offset len (inl lies) = inl lies
  lies-after number offset len (inr lies) = inr (record { comdat = lies.comdat; within = lies.within; limit = lies.limit })

  last-after : (last : LastData) → LastFits p last → LastFits (started_at p start) last
  last-after datas.None fits = tt
  last-after (datas.Straight number offset len) fits = lies-after number offset len fits
  last-after (datas.Blocks seg offset wide body) fits = fits
  last-after datas.Dropped fits = tt

  whole-after : IsWholeSoFar p → WholeModule (finished (started_at p start)) → IsWholeSoFar (started_at p start)
  whole-after w whole = record {
    whole = whole;
    pubs = w.pubs;
    pieces = All-weaker _ (λ (q : Piece). LiesAt (started_at p start) q.seg q.offset (length q.bytes)) (λ q h. lies-after q.seg q.offset (length q.bytes) h) p.module.pieces w.pieces;
    fixes = All-weaker _ (λ (f : FixAt). LiesAt (started_at p start) f.seg f.offset (location_len f.loc)) (λ f h. lies-after f.seg f.offset (location_len f.loc) h) p.module.fixes w.fixes;
    data_limit = w.data_limit;
    last = last-after p.last w.last;
    frames_set = w.frames_set;
    goals_set = w.goals_set;
    four = w.four;
    split = w.split;
  }

record-after : (p : ObjParts) (r : Record) → IsBegun p → GoodAfter p r → is_end r ≡ true → IsWholeSoFar (add p r)
unfolding add
record-after p (modend kind start) begun good ends = whole-after p (start_of p.threads start) (begun-whole p begun) (begun-ends p (modend kind start) begun good)
record-after p (header text) begun good ends = absurd cc
record-after p passed begun good ends = absurd cc
record-after p comment begun good ends = absurd cc
record-after p (default_library text) begun good ends = absurd cc
record-after p (impdef d) begun good ends = absurd cc
record-after p (expdef d) begun good ends = absurd cc
record-after p (lnames texts) begun good ends = absurd cc
record-after p (segdef d) begun good ends = absurd cc
record-after p (grpdef n members) begun good ends = absurd cc
record-after p (pubdef local g s f defs) begun good ends = absurd cc
record-after p (extdef local defs) begun good ends = absurd cc
record-after p (comdef defs) begun good ends = absurd cc
record-after p (ledata s o bs) begun good ends = absurd cc
record-after p (lidata w s o b) begun good ends = absurd cc
record-after p (comdat d) begun good ends = absurd cc
record-after p (fixupp fields) begun good ends = absurd cc

pub whole-end : (p q : ObjParts) (c new : Cursor) (ty : ℕ) → AreBytes c.left → IsBegun p → Turn p c ty q new → ends_module ty ≡ true → IsWholeSoFar q
whole-end p q c new ty bytes begun t ended =
    let good = (record_sound p c t.value new bytes t.read).1 in
    subst IsWholeSoFar t.adds (record-after p t.value begun good (sym t.ends ∙ ended))

-- ---- records that are passed over

pub header-passed : (p : ObjParts) (rec : Rec) → (rec.ty ≡ 0x80) ⊎ (rec.ty ≡ 0x82) → read_after p rec ≡ Ok p
unfolding add
header-passed p rec (inl e) = rw e refl
header-passed p rec (inr e) = rw e refl

pub lines-passed : (p : ObjParts) (rec : Rec) → (rec.ty ≡ 0x94) ⊎ (rec.ty ≡ 0x95) → read_after p rec ≡ Ok p
unfolding add
lines-passed p rec (inl e) = rw e refl
lines-passed p rec (inr e) = rw e refl

-- ---- the module from its first record on

-- Records that are read after those before them shorten what is left.
header-shorter : (c : Cursor) (first : Record × Cursor) → AreBytes c.left → header_at c ≡ Ok first → (length first.1.left ≤ length c.left) × AreBytes first.1.left
header-shorter c first bytes e =
    let t = (header_sound c first.0 first.1 bytes e).0 in
    let long : length c.left ≡ length t.front + length first.1.left = ap (λ (xs : List ℕ). length xs) t.joined ∙ length-append t.front first.1.left in
    (omega (arith, long), bytes_after _ c first.1 t bytes)

abbrev finishing : Reading ObjParts → Reading ObjModule
finishing r = r >>= λ q. Ok (finished q.0, q.1)

abbrev begun : Reading Record → Reading ObjParts
begun r = r >>= λ first. Ok (add fresh_parts first.0, first.1)

abbrev ended : Reading ObjParts → Reading ObjModule
ended r = r >>= λ b. finished_at b.0 b.1

abbrev from_first : ℕ → Reading Record → Reading ObjModule
from_first most r = r >>= λ first. finishing (rest_within most (add fresh_parts first.0) first.1)

by_first : (c : Cursor) (r : Reading Record) → AreBytes c.left → header_at c ≡ r → from_first (length c.left) r ≡ ended (begun r)
unfolding finished_at
by_first c (Ok first) bytes e =
    let s = header-shorter c first bytes e in
    ap (λ (r : Reading ObjParts). finishing r) (rest-more (length c.left) (add fresh_parts first.0) first.1 s.1 s.0)
by_first c (Err refusal) bytes e = refl

pub module-split : (c : Cursor) → AreBytes c.left → module_at c ≡ ended (begun_at c)
unfolding module_at begun_at
module-split c bytes = by_first c (header_at c) bytes refl

-- ---- the records after the first one

finished-refused : (p : ObjParts) (c : Cursor) (refusal : OmfRefusal) → rest_at p c ≡ Err refusal → finished_at p c ≡ Err refusal
unfolding finished_at
finished-refused p c refusal e = ap (λ (r : Reading ObjParts). finishing r) e

abbrev pub read_module : ObjModule → Cursor → Reading ObjModule
read_module m c = Ok (m, c)

pub finished-so : (p q : ObjParts) (c d : Cursor) → rest_at p c ≡ Ok (q, d) → finished_at p c ≡ Ok (finished q, d)
unfolding finished_at
finished-so p q c d e = ap (λ (r : Reading ObjParts). finishing r) e

pub finished-fails : {A C : Type 0} (v : A → ObjParts × Cursor) (w : C → ObjModule × Cursor) (fail : Fail OmfRefusal) (p : ObjParts) (c : Cursor) → Gives v if_said (Err fail) (rest_at p c) → Gives w if_said (Err fail) (finished_at p c)
finished-fails v w (Said refusal) p c e = finished-refused p c refusal e
finished-fails v w NoMemory p c e = tt

-- ---- the records up to the last one

pub rest-fails : {A C : Type 0} (v : A → ObjParts) (w : C → ObjParts × Cursor) (fail : Fail OmfRefusal) (p0 p : ObjParts) (c0 c : Cursor) (rec : Rec) (new : Cursor) → rest_at p c ≡ rest_at p0 c0 → AreBytes c.left → StandsAt rec c new
    → Gives v if_said (Err fail) (read_after p rec) → Gives w if_said (Err fail) (rest_at p0 c0)
rest-fails v w (Said refusal) p0 p c0 c rec new so bytes there e = sym so ∙ refused p rec c new refusal bytes there e
rest-fails v w NoMemory p0 p c0 c rec new so bytes there e = tt
