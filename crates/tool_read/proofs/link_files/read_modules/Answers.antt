use Rattle.std.proofs.Common.{Err, ℕ, List, sym, subst, map, take, drop, suc, ◌++◌, ◌∷◌, []}
use Rattle.std.specs.Prelude.{string_bytes}
use Rattle.answer_model.specs.AskedFiles.{Asked}
use Rattle.answer_model.specs.Items.{object_or_library}
use Rattle.answer_model.specs.AskedFiles.{asked_inputs}
use Rattle.tool_read.specs.Readings.{asked}
use Rattle.tool_read.specs.Steps.{AreModulesOf, ReadsInTurn}
use Rattle.tool_read.proofs.LinkInput.{gains_more}
use Rattle.tool_read.proofs.Names.{more_at, split_at}
use Rattle.tool_read.proofs.Walk.{ReadSoFar, one_more, stops_here}
use Rattle.tool_read.proofs.link_files.read_modules.Goals as goal

pub returns-in-Err-clause-read : goal.returns-in-Err-clause-read
returns-in-Err-clause-read g c =
    let e = c.in-Err.ensures.read in
    let k = c.loop-name.name-index in
    let P : List Asked → Type 0 = λ f. ReadsInTurn AreModulesOf f (g.F.Files.state c.args.files.now) (g.F.Files.state c.read_next.new.files) (Err c.in-Err.why) in
    let Q : List ℕ → Type 0 = λ n. ReadsInTurn AreModulesOf (asked_inputs (map string_bytes (take k c.args.names.now)) ++ asked object_or_library n ∷ asked_inputs (map string_bytes (drop (suc k) c.args.names.now))) (g.F.Files.state c.args.files.now) (g.F.Files.state c.read_next.new.files) (Err c.in-Err.why) in
    subst P (sym (split_at (λ n. asked object_or_library n) string_bytes c.args.names.now k c.name-item.result c.loop-name-test.true c.name-item.is))
    (subst Q c.deref.ensures (stops_here AreModulesOf AreModulesOf _ _ object_or_library c.deref.result.now e.0 _ _ _ _ c.in-Err.why c.loop-name.invariant.read e.1 e.2))

pub loop-name-preserved : goal.loop-name-preserved
loop-name-preserved g c =
    let step = c.in-Ok.ensures.read in
    let name : List ℕ = c.deref.result.now in
    let P : List Asked → Type 0 = λ f. ReadSoFar AreModulesOf f (g.F.Files.state c.args.files.now) (g.F.Files.state c.read_next.new.files) c.read_next.new.modules in
    let Q : List ℕ → Type 0 = λ n. ReadSoFar AreModulesOf (asked_inputs (map string_bytes (take c.loop-name.name-index c.args.names.now)) ++ asked object_or_library n ∷ []) (g.F.Files.state c.args.files.now) (g.F.Files.state c.read_next.new.files) c.read_next.new.modules in
    record {
      read = subst P (more_at (λ n. asked object_or_library n) string_bytes c.args.names.now c.loop-name.name-index c.name-item.result c.loop-name-test.true c.name-item.is)
          (subst Q c.deref.ensures (one_more AreModulesOf _ object_or_library name step.0 step.2.0 _ _ _ _ _ c.loop-name.invariant.read step.1 step.2.1 (λ js are. gains_more _ _ step.2.0 js step.2.2 are)));
      whole = c.in-Ok.ensures.whole;
    }
