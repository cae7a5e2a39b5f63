-- The offsets of a list's sources have a byte in the page.
use Rattle.std.proofs.Common.{◌≡◌, Bool, true, false, cond, eqb, not, List, [], ◌∷◌, map, Some, refl, sym, subst, ap, ◌∙◌}
use Rattle.std.specs.Prelude.{filter, All}
use Rattle.std.proofs.lemmas.List.Elements.{All-nil, All-cons, All-head, All-tail}
use Rattle.std.proofs.lemmas.Bool.{eqb-true, and_parts}
use Rattle.lx_types.specs.declared.fix.Source.{Source}
use Rattle.lx_types.specs.declared.fix.Source.TheVariants.{Byte, Sel, Far16, Off16, Far32, Off32, Self32}
use Rattle.lx_types.specs.declared.fix.Fix.{Fix}
use Rattle.lx_model.specs.Sources.{code_of, source_of_code}
use Rattle.lx_model.specs.RecordSpelling.{OffsetFits}
use Rattle.lx_model.specs.JoinedRecords.{crosses}
use Rattle.lx_fixrec.specs.declared.lists.Shared.{Shared}
use Rattle.lx_fixrec.specs.Lists.{shared_of, same_shared, is_with, offsets_with}
use Rattle.lx_fixrec.specs.Writable.{IsWritable}

source_back : (s : Source) → source_of_code (code_of s) ≡ Some s
source_back Byte = refl
source_back Sel = refl
source_back Far16 = refl
source_back Off16 = refl
source_back Far32 = refl
source_back Off32 = refl
source_back Self32 = refl

pub source_is : (s t : Source) → code_of s ≡ code_of t → s ≡ t
source_is s t same = let e : Some s ≡ Some t = sym (source_back s) ∙ ap source_of_code same ∙ source_back t in cc

-- sources of one list are of one kind
same_source : (source : Source) (k : Shared) (g : Fix) → k.code ≡ code_of source → is_with k g ≡ true → g.source ≡ source
same_source source k g code is =
    let shares : same_shared k (shared_of g) ≡ true = (and_parts (same_shared k (shared_of g)) (not (crosses g)) is).0 in
    source_is g.source source (sym (eqb-true k.code (code_of g.source) (and_parts (eqb k.code (code_of g.source)) _ shares).0) ∙ code)

pub offsets_fit : (source : Source) (k : Shared) (gs : List Fix) → k.code ≡ code_of source → All IsWritable gs → All (OffsetFits source) (offsets_with k gs)
offsets_fit source k [] code all = All-nil (OffsetFits source)
offsets_fit source k (g ∷ gs) code all = by (is_with k g) refl (offsets_fit source k gs code (All-tail IsWritable g gs all))
  where
    by : (b : Bool) → is_with k g ≡ b → All (OffsetFits source) (offsets_with k gs) → All (OffsetFits source) (map (λ f. f.offset) (cond b (g ∷ filter (is_with k) gs) (filter (is_with k) gs)))
    by true is rest = All-cons (OffsetFits source) g.offset (offsets_with k gs) (subst (λ (s : Source). OffsetFits s g.offset) (same_source source k g code is) (All-head IsWritable g gs all).source) rest
    by false is rest = rest
