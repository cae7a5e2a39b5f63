-- The image of a link can be written.
use Rattle.std.specs.Prelude.{◌≡◌, ◌≢◌, ℕ, ◌+◌, ◌≤◌, ◌<◌, true, List, [], ◌∷◌, Option, Some, None, IfSome, map, length, unwrap_or, refl}
use Rattle.std.specs.List.{All, AllPairs, AllByRecursion, enumerate_from, range_with_len}
use Rattle.std.proofs.Common.{ap, sym, ◌∙◌, arith, subst, get_or}
use Rattle.std.proofs.lemmas.List.{length-map}
use Rattle.std.proofs.lemmas.List.Elements.{All-map}
use Rattle.std.proofs.lemmas.List.FromFn.{length-range_with_len}
use Rattle.lx_types.specs.Sound.{IsNumberOf}
use Rattle.lx_types.specs.declared.fix.Fix.{Fix}
use Rattle.lx_types.specs.declared.fix.Source.{Source}
use Rattle.lx_types.specs.declared.fix.Source.TheVariants.{Byte, Sel, Far16, Off16, Far32, Off32, Self32}
use Rattle.lx_types.specs.declared.fix.FixTarget.{FixTarget}
use Rattle.lx_types.specs.declared.fix.FixTarget.TheVariants as leads
use Rattle.obj_types.specs.Definition.{WholeDef}
use Rattle.link_model.specs.declared.limits.TheConstants.{MAX_NUMBER}
use Rattle.link_model.specs.declared.symbols.LaidObject.{LaidObject}
use Rattle.link_model.specs.Link.{Link}
use Rattle.link_model.specs.SymbolRefusals.{sym_refusal}
use Rattle.link_model.specs.Layout.{objects, stack_top}
use Rattle.link_model.specs.LayoutRefusals.{lay_refusal}
use Rattle.link_model.specs.Start.{Start}
use Rattle.link_model.specs.Patches.{page_byte, object_bytes}
use Rattle.link_model.specs.Records.{page_count, page_records, object_records}
use Rattle.link_model.specs.ImportTables.{link_pairs, modules_in}
use Rattle.link_model.specs.NothingDropped.{WholeLink}
use Rattle.link_model.proofs.Members.{not_empty}
use Rattle.lx_fixrec.specs.Writable.{SelectorFits, NumbersFit, IsWritable, MayBeWritten}
use Rattle.lx_exports.specs.Exports.{ExportFits}
use Rattle.lx_write.specs.declared.image.Image.{Image}
use Rattle.lx_write.specs.LinkImages.{IsImageOfLink}
use Rattle.lx_write.specs.Value.{TargetIsThere, CanBeWritten}
use Rattle.link_core.specs.Ranges.{TargetHasRange, HasRange}
use Rattle.image_model.proofs.ObjectsThere.{stack_there}
use Rattle.image_model.proofs.TargetsThere.{start_there}
use Rattle.image_model.proofs.FewImports.{few-modules}
use Rattle.image_model.proofs.RecordsFit.{is_sel, NamesThere, offset_in_target, RecordFits, Apart, page-fits, page-apart}

-- ---- one record

alone_fits : (s : Source) (x : ℕ) → (is_sel s ≡ true → x ≡ 0) → SelectorFits s x
alone_fits Byte x h = tt
alone_fits Sel x h = h refl
alone_fits Far16 x h = tt
alone_fits Off16 x h = tt
alone_fits Far32 x h = tt
alone_fits Off32 x h = tt
alone_fits Self32 x h = tt

numbers_fit : (l : Link) (s : Source) (t : FixTarget) → length (modules_in (link_pairs l)) ≤ MAX_NUMBER → NamesThere l t → TargetHasRange t → (is_sel s ≡ true → offset_in_target t ≡ 0) → NumbersFit s t
numbers_fit l s (leads.Internal o x) few names range alone =
    let small = names.small in (omega (arith, small), range.1, alone_fits s x alone)
numbers_fit l s (leads.Ordinal import n) few names range alone = (omega (arith, names.1, few), range.1)
numbers_fit l s (leads.Named import k) few names range alone = (omega (arith, names.0.1, few), range.1)
numbers_fit l s (leads.Own n) few names range alone = absurd names

writable : (l : Link) (f : Fix) → length (modules_in (link_pairs l)) ≤ MAX_NUMBER → RecordFits l f → HasRange f → IsWritable f
writable l f few fits range = record {
  source = fits.offset;
  alias = fits.alias;
  target = numbers_fit l f.source f.target few fits.names range.target fits.alone;
  additive = range.additive;
}

-- ---- all records

-- What holds of each page of each object.
rows_all : (P : List Fix → Type 0) (G : ℕ → ℕ → List Fix) (b : ℕ) (os : List LaidObject) → ((n : ℕ) (k : ℕ) → P (G n k)) → All (All P) (map (λ q. map (G q.0) (range_with_len 0 (page_count q.1.size))) (enumerate_from b os))
rows_all P G b os all =
    All-map (All P) (λ (q : ℕ × LaidObject). map (G q.0) (range_with_len 0 (page_count q.1.size))) (enumerate_from b os) (λ i d h. All-map P (G (get_or (enumerate_from b os) i d).0) (range_with_len 0 (page_count (get_or (enumerate_from b os) i d).1.size)) (λ j e g. all _ _))

all_records : (l : Link) (P : List Fix → Type 0) → ((n : ℕ) (k : ℕ) → P (page_records l n k)) → All (All P) (object_records l)
unfolding object_records
all_records l P all = rows_all P (page_records l) 1 (objects l) all

fits_all : (l : Link) (m : Image) → IsImageOfLink l m → WholeLink l → lay_refusal l ≡ None → All (All (All (RecordFits l))) m.fixes
fits_all l m is whole lay =
    subst (λ (x : List (List (List Fix))). All (All (All (RecordFits l))) x) (sym is.fixes) (all_records l (All (RecordFits l)) (λ n k. page-fits l n k lay whole))

apart_all : (l : Link) (m : Image) → IsImageOfLink l m → WholeLink l → All (All (AllPairs Apart)) m.fixes
apart_all l m is whole =
    subst (λ (x : List (List (List Fix))). All (All (AllPairs Apart)) x) (sym is.fixes) (all_records l (AllPairs Apart) (λ n k. page-apart l n k whole))

may_be_written : (l : Link) (m : Image) → IsImageOfLink l m → WholeLink l → lay_refusal l ≡ None → sym_refusal l ≡ None → All (All (All HasRange)) m.fixes → All (All MayBeWritten) m.fixes
may_be_written l m is whole lay e ranges = λ i d h j x g.
    let few = few-modules l e in record {
      each = λ k f b. writable l _ few (fits_all l m is whole lay i d h j x g k f b) (ranges i d h j x g k f b);
      apart = apart_all l m is whole i d h j x g;
    }

target_there : (l : Link) (m : Image) (t : FixTarget) → IsImageOfLink l m → NamesThere l t → TargetIsThere m t
target_there l m (leads.Internal o x) is h = subst (λ (os : List LaidObject). IsNumberOf o (length os)) (sym is.objects) h.number
target_there l m (leads.Ordinal import n) is h = subst (λ (ns : List (List ℕ)). IsNumberOf import (length ns)) (sym is.imports) h
target_there l m (leads.Named import k) is h =
    (subst (λ (ns : List (List ℕ)). IsNumberOf import (length ns)) (sym is.imports) h.0, subst (λ (ns : List (List ℕ)). k < length ns) (sym is.procs) h.1)
target_there l m (leads.Own n) is h = absurd h

targets_there : (l : Link) (m : Image) → IsImageOfLink l m → WholeLink l → lay_refusal l ≡ None → All (All (All (λ f. TargetIsThere m f.target))) m.fixes
targets_there l m is whole lay = λ i d h j x g k f b. target_there l m _ is (fits_all l m is whole lay i d h j x g k f b).names

-- ---- sizes

bytes_sized : (F : ℕ → ℕ → ℕ) (b : ℕ) (os : List LaidObject) → map length (map (λ q. map (F q.0) (range_with_len 0 q.1.size)) (enumerate_from b os)) ≡ map (λ o. o.size) os
bytes_sized F b [] = refl
bytes_sized F b (o ∷ os) =
    ap (λ (n : ℕ). n ∷ map length (map (λ q. map (F q.0) (range_with_len 0 q.1.size)) (enumerate_from (b + 1) os))) (length-map (range_with_len 0 o.size) (F b) ∙ length-range_with_len 0 o.size)
    ∙ ap (λ (ns : List ℕ). o.size ∷ ns) (bytes_sized F (b + 1) os)

pages_sized : (G : ℕ → ℕ → List Fix) (b : ℕ) (os : List LaidObject) → map length (map (λ q. map (G q.0) (range_with_len 0 (page_count q.1.size))) (enumerate_from b os)) ≡ map (λ o. page_count o.size) os
pages_sized G b [] = refl
pages_sized G b (o ∷ os) =
    ap (λ (n : ℕ). n ∷ map length (map (λ q. map (G q.0) (range_with_len 0 (page_count q.1.size))) (enumerate_from (b + 1) os))) (length-map (range_with_len 0 (page_count o.size)) (G b) ∙ length-range_with_len 0 (page_count o.size))
    ∙ ap (λ (ns : List ℕ). page_count o.size ∷ ns) (pages_sized G (b + 1) os)

object_sizes : (l : Link) → map length (object_bytes l) ≡ map (λ o. o.size) (objects l)
unfolding object_bytes
object_sizes l = bytes_sized (page_byte l) 1 (objects l)

object_pages : (l : Link) → map length (object_records l) ≡ map (λ o. page_count o.size) (objects l)
unfolding object_records
object_pages l = pages_sized (page_records l) 1 (objects l)

-- ---- places and the name

start_by : (l : Link) (o : Option (ℕ × ℕ)) → Start l ≡ o → IfSome o (λ place. IsNumberOf place.0 (length (objects l)))
start_by l None e = tt
start_by l (Some q) e = start_there l q e

stack_by : (l : Link) (o : Option (ℕ × ℕ)) → lay_refusal l ≡ None → stack_top l ≡ o → IfSome o (λ place. IsNumberOf place.0 (length (objects l)))
stack_by l None lay e = tt
stack_by l (Some q) lay e = (stack_there l q lay e).number

place_in : (o p : Option (ℕ × ℕ)) (os ps : List LaidObject) → o ≡ p → os ≡ ps → IfSome p (λ place. IsNumberOf place.0 (length ps)) → IfSome o (λ place. IsNumberOf place.0 (length os))
place_in o p os ps e f h =
    subst (λ (t : Option (ℕ × ℕ)). IfSome t (λ place. IsNumberOf place.0 (length os))) (sym e) (subst (λ (xs : List LaidObject). IfSome p (λ place. IsNumberOf place.0 (length xs))) (sym f) h)

name_there : (o : Option (List ℕ)) (stem : List ℕ) → IfSome o (λ n. n ≢ []) → stem ≢ [] → 0 < length (unwrap_or o stem)
name_there None stem h s = not_empty stem s
name_there (Some n) stem h s = not_empty n h

-- ---- the image

pub can-be-written : (l : Link) (m : Image) → IsImageOfLink l m → WholeLink l → WholeDef l.def → l.stem ≢ [] → sym_refusal l ≡ None → lay_refusal l ≡ None → All (All (All HasRange)) m.fixes → AllByRecursion ExportFits m.exports → CanBeWritten m
can-be-written l m is whole def stem names lay ranges exports = record {
  sizes = ap (map length) is.bytes ∙ object_sizes l ∙ ap (map (λ (o : LaidObject). o.size)) (sym is.objects);
  pages = ap (map length) is.fixes ∙ object_pages l ∙ ap (map (λ (o : LaidObject). page_count o.size)) (sym is.objects);
  fixes = may_be_written l m is whole lay names ranges;
  targets = targets_there l m is whole lay;
  start = place_in m.start (Start l) m.objects (objects l) is.start is.objects (start_by l (Start l) refl);
  stack = place_in m.stack (stack_top l) m.objects (objects l) is.stack is.objects (stack_by l (stack_top l) lay refl);
  named = subst (λ (n : List ℕ). 0 < length n) (sym is.name) (name_there l.def.name l.stem def.name stem);
  exports = exports;
}
