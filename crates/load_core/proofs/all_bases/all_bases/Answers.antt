use Rattle.std.proofs.Common.{[], ◌∷◌, ◌++◌, List, map, arith, ap, sym, ◌∙◌}
use Rattle.std.specs.List.{range_with_len}
use Rattle.std.proofs.lemmas.List.FromFn.{map-range_with_len_more}
use Rattle.lx_types.specs.declared.bases.ModBases.{ModBases}
use Rattle.load_core.specs.Enters.{bases_with}
use Rattle.load_core.proofs.all_bases.all_bases.Goals as goal

pub loop-k-preserved : goal.loop-k-preserved
loop-k-preserved c =
    let of = bases_with c.args.table.now c.args.fresh.now in
    c.in_ok-push.ensures.items
    ∙ ap (λ (mods : List ModBases). mods ++ c.in_ok-bases_of.field-0 ∷ []) c.loop-k.invariant
    ∙ ap (λ (own : ModBases). map of (range_with_len 0 c.loop-k.k) ++ own ∷ []) c.in_ok-bases_of.ensures
    ∙ sym (map-range_with_len_more of 0 c.loop-k.k c.loop-k.k (omega arith))
