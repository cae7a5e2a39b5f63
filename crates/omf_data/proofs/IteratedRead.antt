-- An LIDATA record is read by its fields.
use Rattle.std.proofs.Common.{◌≡◌, ℕ, Bool, true, false, List, [], ◌∷◌, ◌++◌, length, Ok, inl, inr, refl, sym, ap, subst, ◌∙◌}
use Rattle.std.specs.Prelude.{◌⊎◌}
use Rattle.lx_bytes.specs.Cursor.{Cursor}
use Rattle.lx_bytes.specs.LittleEndian.{AreBytes}
use Rattle.obj_types.specs.declared.object.Piece.{Piece}
use Rattle.obj_types.specs.declared.parts.LastData.TheVariants as datas
use Rattle.obj_types.specs.declared.parts.ObjParts.{ObjParts}
use Rattle.omf_frame.specs.declared.omf_record.Rec.{Rec}
use Rattle.omf_fields.specs.Fields.{width, number_at, index_below}
use Rattle.omf_fields.proofs.SpanLaws.{bind_ok, ok_is}
use Rattle.omf_model.specs.Blocks.{Blocks, block_bytes, expanded}
use Rattle.omf_model.specs.Good.{GoodBlocks}
use Rattle.omf_model.specs.Record.{lidata}
use Rattle.omf_model.specs.ReadBlocks.{blocks_at, blocks_in}
use Rattle.omf_model.specs.Items.{is_debug_seg}
use Rattle.omf_model.specs.ReadModule.{is_wide}
use Rattle.omf_model.specs.ReadData.{counted_len, judge_data, lidata_at}
use Rattle.omf_model.specs.Add.{add}
use Rattle.omf_model.specs.ReadAfter.{then_add, read_after, contents_at}
use Rattle.omf_model.proofs.BlockLaws.{blocks_sound, blocks_in-bytes}
use Rattle.omf_data.specs.Data.{lidata_record}
use Rattle.omf_data.specs.Expanding.{counted_at, SpellsBlocks}
use Rattle.omf_data.specs.declared.iterated.Iterated.{Iterated}
use Rattle.omf_data.proofs.Added.{added}

-- ---- the blocks that were measured

module _ (wide : Bool) (c : Cursor) (body : List ℕ) (len : ℕ) (bytes : AreBytes body) (there : body ≡ c.left) (read : counted_at wide c ≡ Ok len) where
  found : (b : Blocks) × (blocks_at wide c ≡ Ok b) × (counted_len b ≡ len)
  found = let b = bind_ok (blocks_at wide c) (λ blocks. Ok (counted_len blocks)) len read in (b.0, b.1, ok_is (counted_len b.0) len b.2)

  sound : (c.left ≡ block_bytes wide found.0) × GoodBlocks wide found.0
  sound = blocks_sound wide c found.0 (subst (λ (bs : List ℕ). AreBytes bs) there bytes) found.1

  same : blocks_in wide body ≡ found.0
  same = ap (λ (bs : List ℕ). blocks_in wide bs) (there ∙ sound.0) ∙ blocks_in-bytes wide found.0 sound.1

  pub spells : SpellsBlocks wide body
  spells = record {
    spelled = there ∙ sound.0 ∙ ap (λ (b : Blocks). block_bytes wide b) (sym same);
    good = subst (λ (b : Blocks). GoodBlocks wide b) (sym same) sound.1;
  }

  pub fields_read : (p : ObjParts) (at : ℕ) (start c1 : Cursor) (seg offset : ℕ) → index_below (length p.module.segs) start ≡ Ok (seg, c1) → number_at (width wide) c1 ≡ Ok (offset, c) → judge_data p at c1.at seg offset len ≡ Ok tt
      → lidata_at wide p at start ≡ Ok (lidata wide seg offset (blocks_in wide body))
  unfolding lidata_at
  fields_read p at start c1 seg offset first second judged =
      rw (first, second, found.1, found.2, judged) (λ i. Ok (lidata wide seg offset (sym same i)))

-- ---- what is added

after : (rec : Rec) → (rec.ty ≡ 0xA2) ⊎ (rec.ty ≡ 0xA3) → (p : ObjParts) → read_after p rec ≡ then_add p (lidata_at (is_wide rec.ty) p rec.at (contents_at rec.at rec.body.now))
after rec (inl e) p = rw e refl
after rec (inr e) p = rw e refl

dropped_so : (p : ObjParts) (d : Iterated) → is_debug_seg p.module.segs d.place.seg ≡ true → add p (lidata_record d) ≡ record p { last = datas.Dropped }
unfolding add
dropped_so p d debug = rw debug refl

kept_so : (p : ObjParts) (d : Iterated) (pieces : List Piece) (body : List ℕ) → is_debug_seg p.module.segs d.place.seg ≡ false
    → pieces ≡ p.module.pieces ++ record { seg = d.place.seg; offset = d.place.offset; bytes = expanded (blocks_in d.wide d.body.now) } ∷ []
    → body ≡ block_bytes d.wide (blocks_in d.wide d.body.now)
    → add p (lidata_record d) ≡ record p { «module» = record p.module { pieces = pieces }; last = datas.Blocks d.place.seg d.place.offset d.wide body }
unfolding add
kept_so p d pieces body plain more spelled =
    rw plain (λ i. record p { «module» = record p.module { pieces = sym more i }; last = datas.Blocks d.place.seg d.place.offset d.wide (sym spelled i) })

-- data of a debug segment
pub dropped : (rec : Rec) (p : ObjParts) (d : Iterated) → (rec.ty ≡ 0xA2) ⊎ (rec.ty ≡ 0xA3)
    → lidata_at (is_wide rec.ty) p rec.at (contents_at rec.at rec.body.now) ≡ Ok (lidata_record d)
    → is_debug_seg p.module.segs d.place.seg ≡ true
    → read_after p rec ≡ Ok (record p { last = datas.Dropped })
dropped rec p d kind found debug = after rec kind p ∙ added lidata_record p d (record p { last = datas.Dropped }) _ found (dropped_so p d debug)

-- other data
pub kept : (rec : Rec) (p : ObjParts) (d : Iterated) (pieces : List Piece) (body : List ℕ) → (rec.ty ≡ 0xA2) ⊎ (rec.ty ≡ 0xA3)
    → lidata_at (is_wide rec.ty) p rec.at (contents_at rec.at rec.body.now) ≡ Ok (lidata_record d)
    → is_debug_seg p.module.segs d.place.seg ≡ false
    → pieces ≡ p.module.pieces ++ record { seg = d.place.seg; offset = d.place.offset; bytes = expanded (blocks_in d.wide d.body.now) } ∷ []
    → body ≡ block_bytes d.wide (blocks_in d.wide d.body.now)
    → read_after p rec ≡ Ok (record p { «module» = record p.module { pieces = pieces }; last = datas.Blocks d.place.seg d.place.offset d.wide body })
kept rec p d pieces body kind found plain more spelled =
    after rec kind p ∙ added lidata_record p d (record p { «module» = record p.module { pieces = pieces }; last = datas.Blocks d.place.seg d.place.offset d.wide body }) _ found (kept_so p d pieces body plain more spelled)
