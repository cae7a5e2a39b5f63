-- The source that was given lies under those that are left.
use Rattle.std.proofs.Common.{rules, ◌≡◌, suc, List, length, sym, ◌∙◌, ap, subst, arith}
use Rattle.std.specs.Prelude.{slice_index, Some, Result}
use Rattle.lx_types.specs.declared.fix.Fix.{Fix}
use Rattle.lx_fixrec.specs.declared.refusal.RecRefusal.{RecRefusal}
use Rattle.lx_model.specs.Fixed.{patch_of}
use Rattle.lx_fixrec.specs.Left.{Placed, GivesNext}
use Rattle.page_fix.specs.Laid.{laid, patches_left}
use Rattle.page_fix.proofs.Covering.{laid_cons}
use Rattle.page_fix.proofs.fixing.Site.put_sources.Goals as goal

pub loop-source-preserved-in-Ok : goal.loop-source-preserved-in-Ok
loop-source-preserved-in-Ok g c =
    let Gives : Result Fix RecRefusal → Type 0 = λ r. GivesNext (Some r) c.loop-source.sources c.next.new.self in
    let gives = subst Gives c.in-Ok.is c.in-Some.ensures.steps in
    let lib = c.args.self.now.lib.now in
    let m = c.args.self.now.«module» in
    let bases = c.args.self.now.bases.bases.now in
    let p = c.args.self.now.page in
    record {
      same = λ i below.
          ap (laid (patches_left lib m bases p c.next.new.self) i) (c.put_source.ensures i below)
          ∙ sym (laid_cons (patch_of lib m bases p c.in-Ok.fix) (patches_left lib m bases p c.next.new.self) i (slice_index c.loop-source.page i))
          ∙ ap (λ (items : List Placed). laid (patches_left lib m bases p (record c.loop-source.sources { items = items })) i (slice_index c.loop-source.page i)) (sym gives.0)
          ∙ c.loop-source.invariant.same i below;
      long = search rules;
      counted = (let more : length c.loop-source.sources.items ≡ suc (length c.next.new.self.items) = ap length gives.0 in let so_far = c.loop-source.invariant.counted in let one = c.tick.ensures in omega arith);
    }
