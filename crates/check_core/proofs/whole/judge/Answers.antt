use Rattle.std.proofs.Common.{◌<◌, ◌∙◌, ℕ, List, [], ◌∷◌, length, flat_map, Some, None, ap, sym, subst, arith}
use Rattle.check_model.specs.Places.{headings, item_places, numbered_merge, numbered_scripts, lines_beyond, summary, after_entries, after_scripts}
use Rattle.session_model.specs.Merging.{merge_of}
use Rattle.check_core.specs.Judged.{IsJudged}
use Rattle.check_core.specs.NextCommands.{AreDone}
use Rattle.check_core.specs.ToldRun.{told_of}
use Rattle.check_core.proofs.Judged.{scripts_rise}
use Rattle.check_core.proofs.AllPlaces.{same_count, wrong_heading, wrong_item, wrong_beyond, at_last}
use Rattle.check_core.proofs.whole.judge.Goals as goal

pub line_after-first-requires : goal.line_after-first-requires
line_after-first-requires g c =
    let room : after_scripts (after_entries 2 c.args.told.history.now) c.args.told.steady.now < 18446744073709551616 = c.requires.room in
    let rise = scripts_rise (after_entries 2 c.args.told.history.now) c.args.told.steady.now in
    omega (arith, room, rise)

pub returns-in-Some : goal.returns-in-Some
returns-in-Some g c j judge stands =
    let t = told_of c.args.told in
    wrong_heading j t c.args.by.scripts.now judge.scripts_are c.in-Some.fault
    (subst (λ (n : ℕ). IsJudged j t (headings n c.args.told.steady.now c.args.by.scripts.now) (Some c.in-Some.fault)) c.line_after-first.ensures
    (subst (λ r. IsJudged j t (headings c.line_after-first.result c.args.told.steady.now c.args.by.scripts.now) r) c.in-Some.is (c.heading_fault.ensures j t)))

pub judge_merge-requires-clause-scripts : goal.judge_merge-requires-clause-scripts
judge_merge-requires-clause-scripts g c =
    let j = c.requires.stands.0 in
    let t = told_of c.args.told in
    same_count j t c.line_after-first.result c.args.told.steady.now c.args.by.scripts.now
    (subst (λ r. IsJudged j t (headings c.line_after-first.result c.args.told.steady.now c.args.by.scripts.now) r) c.in_default.is (c.heading_fault.ensures j t))

pub returns-in-Some-fault : goal.returns-in-Some-fault
returns-in-Some-fault g c j judge stands =
    let t = told_of c.args.told in
    let heads = subst (λ (n : ℕ). IsJudged j t (headings n c.args.told.steady.now c.args.by.scripts.now) None) c.line_after-first.ensures
    (subst (λ r. IsJudged j t (headings c.line_after-first.result c.args.told.steady.now c.args.by.scripts.now) r) c.in_default.is (c.heading_fault.ensures j t)) in
    let items = (c.in_ok-judged.ensures j judge stands).items in
    wrong_item j t c.args.by.scripts.now judge.scripts_are heads c.in-Some-fault.fault
    (subst (λ (n : ℕ). IsJudged j t (item_places [] (numbered_merge (numbered_scripts 1 n c.args.told.steady.now) c.args.told.history.now)) (Some c.in-Some-fault.fault)) c.line_after-first.ensures
    (subst (λ r. IsJudged j t (item_places [] (numbered_merge (numbered_scripts 1 c.line_after-first.result c.args.told.steady.now) c.args.told.history.now)) r) c.in-Some-fault.is items))

pub returns-in-Some-beyond_fault : goal.returns-in-Some-beyond_fault
returns-in-Some-beyond_fault g c j judge stands =
    let t = told_of c.args.told in
    let heads = subst (λ (n : ℕ). IsJudged j t (headings n c.args.told.steady.now c.args.by.scripts.now) None) c.line_after-first.ensures
    (subst (λ r. IsJudged j t (headings c.line_after-first.result c.args.told.steady.now c.args.by.scripts.now) r) c.in_default.is (c.heading_fault.ensures j t)) in
    let items = subst (λ (n : ℕ). IsJudged j t (item_places [] (numbered_merge (numbered_scripts 1 n c.args.told.steady.now) c.args.told.history.now)) None) c.line_after-first.ensures
    (subst (λ r. IsJudged j t (item_places [] (numbered_merge (numbered_scripts 1 c.line_after-first.result c.args.told.steady.now) c.args.told.history.now)) r) c.in_default-fault.is
    (c.in_ok-judged.ensures j judge stands).items) in
    let fault = c.in-Some-beyond_fault.fault in
    wrong_beyond j t c.args.by.scripts.now judge.scripts_are heads fault items
    (subst (λ (n : ℕ). IsJudged j t (flat_map (lines_beyond (length c.args.told.history.now)) (numbered_scripts 1 n c.args.told.steady.now)) (Some fault)) c.line_after-first.ensures
    (subst (λ (n : ℕ). IsJudged j t (flat_map (lines_beyond n) (numbered_scripts 1 c.line_after-first.result c.args.told.steady.now)) (Some fault)) (sym judge.most_is)
    (subst (λ r. IsJudged j t (flat_map (lines_beyond c.args.by.most) (numbered_scripts 1 c.line_after-first.result c.args.told.steady.now)) r) c.in-Some-beyond_fault.is
    (c.beyond_fault.ensures j t 1 judge.most_is))))

pub returns : goal.returns
returns g c j judge stands =
    let t = told_of c.args.told in
    let heads = subst (λ (n : ℕ). IsJudged j t (headings n c.args.told.steady.now c.args.by.scripts.now) None) c.line_after-first.ensures
    (subst (λ r. IsJudged j t (headings c.line_after-first.result c.args.told.steady.now c.args.by.scripts.now) r) c.in_default.is (c.heading_fault.ensures j t)) in
    let judged = c.in_ok-judged.ensures j judge stands in
    let items = subst (λ (n : ℕ). IsJudged j t (item_places [] (numbered_merge (numbered_scripts 1 n c.args.told.steady.now) c.args.told.history.now)) None) c.line_after-first.ensures
    (subst (λ r. IsJudged j t (item_places [] (numbered_merge (numbered_scripts 1 c.line_after-first.result c.args.told.steady.now) c.args.told.history.now)) r) c.in_default-fault.is judged.items) in
    let over = subst (λ (n : ℕ). IsJudged j t (flat_map (lines_beyond (length c.args.told.history.now)) (numbered_scripts 1 n c.args.told.steady.now)) None) c.line_after-first.ensures
    (subst (λ (n : ℕ). IsJudged j t (flat_map (lines_beyond n) (numbered_scripts 1 c.line_after-first.result c.args.told.steady.now)) None) (sym judge.most_is)
    (subst (λ r. IsJudged j t (flat_map (lines_beyond c.args.by.most) (numbered_scripts 1 c.line_after-first.result c.args.told.steady.now)) r) c.in_default-beyond_fault.is
    (c.beyond_fault.ensures j t 1 judge.most_is))) in
    let done = subst (λ (d : List ℕ). AreDone j (merge_of c.args.told.history.now c.args.told.steady.now) d) (sym c.as_slice.ensures.value) (judged.counted c.in_default-fault.is) in
    let line = c.line_after_scripts-line.ensures ∙ ap (λ (n : ℕ). after_scripts n c.args.told.steady.now) c.line_after-first.ensures in
    at_last j t c.args.by.scripts.now judge.scripts_are heads c.summary_fault.result items over
    (subst (λ (n : ℕ). IsJudged j t (record { number = n; what = summary } ∷ []) c.summary_fault.result) line (c.summary_fault.ensures j judge.scripts_are done))
