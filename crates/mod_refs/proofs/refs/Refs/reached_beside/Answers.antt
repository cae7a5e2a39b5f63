-- One other process that reaches it is enough, and where none of the sixteen does, none does.
use Rattle.std.proofs.Common.{◌≡◌, inl, inr, sym, ◌∙◌, arith, subst, false}
use Rattle.std.proofs.lemmas.Bool.{cases_eq}
use Rattle.load_model.specs.State.{with_process, reaches}
use Rattle.mod_refs.proofs.CountsOfAll.{none_reaches, some_reaches, reaches_beside, reaches_instead}
use Rattle.mod_refs.proofs.refs.Refs.reached_beside.Goals as goal
use Rattle.mod_refs.proofs.refs.Refs.reached_beside.Goals.{else-other-pid-via-then-other-pid+else-reaches, else-other-pid-via-else-other-pid}

pub returns-then-reaches : goal.returns-then-reaches
returns-then-reaches c = λ lib e p are not.
    sym (some_reaches lib (with_process e c.args.pid p) c.args.m c.loop-other.other c.loop-other.invariant.least (omega (arith, c.loop-other-test.true))
    (reaches_beside lib e c.args.pid p c.loop-other.other c.args.m c.if-other-pid.true ∙ sym (c.if-reaches.ensures lib e are)))

pub loop-other-preserved : goal.loop-other-preserved
loop-other-preserved c = record {
  least = omega arith;
  none = λ lib e p are not q least below. elim (cases_eq q c.loop-other.other) [
    | inl here ↦
        subst (λ n. reaches lib ((with_process e c.args.pid p).processes n) c.args.m ≡ false) (sym here)
        (elim c.else-other-pid.branch [
          | else-other-pid-via-then-other-pid+else-reaches w ↦
              reaches_beside lib e c.args.pid p c.loop-other.other c.args.m w.if-other-pid.true ∙ sym (w.if-reaches.ensures lib e are)
          | else-other-pid-via-else-other-pid w ↦ reaches_instead lib e c.args.pid p c.loop-other.other c.args.m w.if-other-pid.false ∙ not
        ])
    | inr other ↦ c.loop-other.invariant.none lib e p are not q least (omega (arith, below, other))
  ];
}

pub returns : goal.returns
returns c = λ lib e p are not.
    sym (none_reaches lib (with_process e c.args.pid p) c.args.m (λ q least most. c.loop-other.invariant.none lib e p are not q least (omega (arith, c.loop-other-test.false, most))))
