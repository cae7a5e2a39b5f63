use Rattle.std.proofs.Common.{refl, sym, ap, ◌∙◌, length, List}
use Rattle.std.specs.Arc.{arc_value}
use Rattle.load_model.specs.Modules.{Library}
use Rattle.session_model.specs.declared.sessions.Script.{Script}
use Rattle.check_model.specs.Checks.{Judge}
use Rattle.check_play.specs.Playing.{StandsTogether}
use Rattle.session_model.specs.FailingPairs.{failing_pairs}
use Rattle.session_model.specs.Merging.{merge_of}
use Rattle.check_session.specs.Checked.{judge_of}
use Rattle.check_session.proofs.Judging.{judge_over, told_same, judged_read, told_with}
use Rattle.transcript_whole.specs.Whole.{told_of}
use Rattle.check_session.proofs.checking.judged.Goals as goal

pub judge-requires-clause-stands : goal.judge-requires-clause-stands
judge-requires-clause-stands g c =
    let j : Judge = judge_of (arc_value c.args.lib.now) c.args.session.now in (
      j,
      record { lib_is = sym c.deref-2.ensures; scripts_are = sym c.as_slice-scripts.ensures; most_is = refl },
      c.in_ok-player.ensures j (merge_of c.as_slice-history.result.now c.as_slice-2.result.now)
          (judge_over (arc_value c.args.lib.now) c.args.session.now c.as_slice.result.now (length c.as_slice-scripts.result.now) c.requires.session
          (c.as_slice.ensures.value ∙ (c.in_ok-failing.ensures ∙ ap (λ (l : Library). failing_pairs l c.args.session.now) c.deref.ensures))
          (ap (λ (s : List Script). length s) (sym c.as_slice-scripts.ensures))),
    )

pub returns : goal.returns
returns g c =
    let j : Judge = judge_of (arc_value c.args.lib.now) c.args.session.now in
    judged_read c.in_ok-fault.fault (λ j before after. StandsTogether j before after c.in_ok-player.player.standing c.in_ok-player.player.views.items) j
    (told_with c.as_slice-history.result.now c.as_slice-2.result.now c.args.read.now.counts) (told_of c.args.read.now) c.deref-2.result.now c.as_slice-scripts.result.now (length c.as_slice-history.result.now)
    (told_same c.args.read.now c.as_slice-history.result.now c.as_slice-2.result.now c.as_slice-history.ensures c.as_slice-2.ensures)
    (record { lib_is = sym c.deref-2.ensures; scripts_are = sym c.as_slice-scripts.ensures; most_is = refl })
    (c.in_ok-player.ensures j (merge_of c.as_slice-history.result.now c.as_slice-2.result.now)
    (judge_over (arc_value c.args.lib.now) c.args.session.now c.as_slice.result.now (length c.as_slice-scripts.result.now) c.requires.session
    (c.as_slice.ensures.value ∙ (c.in_ok-failing.ensures ∙ ap (λ (l : Library). failing_pairs l c.args.session.now) c.deref.ensures))
    (ap (λ (s : List Script). length s) (sym c.as_slice-scripts.ensures))))
    c.in_ok-fault.ensures
