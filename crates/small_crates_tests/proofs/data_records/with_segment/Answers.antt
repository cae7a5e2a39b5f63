use Rattle.std.proofs.Common.{◌≡◌, ℕ, false, List, [], ◌∷◌, ◌++◌, None, refl, subst, sym, ◌∙◌, arith}
use Rattle.obj_types.specs.declared.object.Seg.{Seg}
use Rattle.obj_types.specs.declared.parts.ObjParts.{ObjParts}
use Rattle.obj_types.specs.Fresh.{fresh_parts}
use Rattle.omf_model.specs.Record.{SegDef, header, lnames, segdef}
use Rattle.omf_model.specs.Add.{add}
use Rattle.omf_model.specs.Begun.{IsBegun}
use Rattle.omf_model.specs.Good.{GoodAfter}
use Rattle.omf_model.proofs.BegunLaws.{begun-first, begun-kept}
use Rattle.small_crates_tests.proofs.data_records.with_segment.Goals as goal

def : SegDef
def = record { attributes = 0x28; frame = None; offset = None; len = 12; name = 1; class = 1; overlay = 0 }

first : IsBegun (add (add fresh_parts (header [])) (lnames ([] ∷ [])))
unfolding add
first = begun-kept (add fresh_parts (header [])) (lnames ([] ∷ [])) (begun-first []) tt refl

good : GoodAfter (add (add fresh_parts (header [])) (lnames ([] ∷ []))) (segdef def)
unfolding add def
good = record { attributes = refl; name = (omega arith, omega arith); class = (omega arith, omega arith); overlay = omega arith }

second : IsBegun (add (add (add fresh_parts (header [])) (lnames ([] ∷ []))) (segdef def))
unfolding add def
second = begun-kept (add (add fresh_parts (header [])) (lnames ([] ∷ []))) (segdef def) first good refl

seg_with : List ℕ → List ℕ → Seg
seg_with name class = record { name = name; class = class; align = 1; combine = 2; wide = false; len = 12; debug = false }

made : (p : ObjParts) (names : List (List ℕ)) (segs : List Seg) (a b d : List ℕ) → p ≡ fresh_parts → a ≡ [] → b ≡ [] → d ≡ [] → names ≡ p.names ++ a ∷ [] → segs ≡ p.module.segs ++ seg_with b d ∷ []
    → IsBegun (record p { names = names; «module» = record p.module { segs = segs } })
unfolding add def seg_with
made p names segs a b d fresh na nb nd more_names more_segs =
    let first_names : names ≡ [] ∷ [] = more_names ∙ (λ i. (fresh i).names ++ na i ∷ []) in
    let first_segs : segs ≡ seg_with [] [] ∷ [] = more_segs ∙ (λ i. (fresh i).module.segs ++ seg_with (nb i) (nd i) ∷ []) in
    let whole : (let q : ObjParts = record p { names = names; «module» = record p.module { segs = segs } } in q) ≡ add (add (add fresh_parts (header [])) (lnames ([] ∷ []))) (segdef def) =
    (λ i. record (fresh i) { names = first_names i; «module» = record (fresh i).module { segs = first_segs i } }) in
    subst IsBegun (sym whole) second

pub returns : goal.returns
unfolding seg_with
returns c = made c.fresh-parts.result c.push.new.self c.push-2.new.self c.empty.result c.empty-2.result c.empty-3.result c.fresh-parts.ensures c.empty.ensures c.empty-2.ensures c.empty-3.ensures c.in_ok-push.ensures c.in_ok-push-2.ensures
