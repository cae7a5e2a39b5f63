use Rattle.std.proofs.Common.{◌≡◌, ◌∷◌, ◌++◌, [], ℕ, List, Option, Some, None, Result, Ok, Err, Vec, refl, sym, subst}
use Rattle.std.specs.Prelude.{MatchOption}
use Rattle.std.specs.Global.{Global}
use Rattle.std.specs.List.{All}
use Rattle.std.proofs.lemmas.List.Elements.{All-nil, All-push, All-head, All-tail}
use Rattle.lx_types.specs.declared.fail.Fail.{Fail}
use Rattle.lx_types.specs.declared.fail.Fail.TheVariants as fail
use Rattle.lx_types.specs.declared.parts.Parts.{Parts}
use Rattle.lx_model.specs.Module.{IsRead}
use Rattle.lx_ports.specs.Files.{FilesState}
use Rattle.session_model.specs.declared.sessions.ModLine.{ModLine}
use Rattle.session_model.specs.Kept.{modules_in}
use Rattle.session_read.specs.declared.kept.KeptCut.{KeptCut}
use Rattle.session_text.specs.Writable.{IsPlainModule}
use Rattle.refusal_text.specs.declared.refused.Refused.{Refused}
use Rattle.tool_read.proofs.Walk.{err_is}
use Rattle.session_files.specs.ModuleLines.{DoesLine, DoesLines, listed}
use Rattle.session_files.proofs.Lines.{Reached, reached_none, reached_more, reached_stop, reached_end, reached_done, reached_count}
use Rattle.session_files.proofs.module_lines.modules_given.Goals as goal

-- the first line that is left
module _ (text : List ℕ) (first : Option (KeptCut ModLine)) (cut : KeptCut ModLine) (is : first ≡ Some cut)
    (found : MatchOption first (modules_in text ≡ []) (λ cut. modules_in text ≡ cut.line ∷ modules_in cut.after.now)) where
  next_is : modules_in text ≡ cut.line ∷ modules_in cut.after.now
  next_is = subst (λ o. MatchOption o (modules_in text ≡ []) (λ cut. modules_in text ≡ cut.line ∷ modules_in cut.after.now)) is found

  next_plain : All IsPlainModule (modules_in text) → IsPlainModule cut.line
  next_plain plain = All-head IsPlainModule cut.line (modules_in cut.after.now) (subst (All IsPlainModule) next_is plain)

  others_plain : All IsPlainModule (modules_in text) → All IsPlainModule (modules_in cut.after.now)
  others_plain plain = All-tail IsPlainModule cut.line (modules_in cut.after.now) (subst (All IsPlainModule) next_is plain)

  one_done : (lines : List ModLine) (before between now : FilesState) (modules more : List Parts) (parts : Parts) → Reached lines (modules_in text) before between modules
      → DoesLine cut.line between now (Ok parts) → more ≡ modules ++ parts ∷ [] → Reached lines (modules_in cut.after.now) before now more
  one_done lines before between now modules more parts so_far one are =
      reached_more lines (modules_in text) cut.line (modules_in cut.after.now) before between now modules so_far next_is parts more one are

  one_stops : (lines : List ModLine) (before between now : FilesState) (modules : List Parts) (why : Fail Refused) → Reached lines (modules_in text) before between modules
      → DoesLine cut.line between now (Err why) → DoesLines lines before now (Err why)
  one_stops lines before between now modules why so_far one =
      reached_stop lines (modules_in text) cut.line (modules_in cut.after.now) before between now modules so_far next_is why one

-- no memory is told as it is
no_memory : (lines after : List ModLine) (before now : FilesState) (modules : List Parts) (result : Result (Vec Parts Global) (Fail Refused)) → Reached lines after before now modules
    → result ≡ Err fail.NoMemory → DoesLines lines before now (listed result)
no_memory lines after before now modules result so_far is =
    subst (λ r. DoesLines lines before now (listed r)) (sym is) (reached_end lines after before now modules so_far)

none_left : (text : List ℕ) (first : Option (KeptCut ModLine)) → first ≡ None
    → MatchOption first (modules_in text ≡ []) (λ cut. modules_in text ≡ cut.line ∷ modules_in cut.after.now) → modules_in text ≡ []
none_left text first is found = subst (λ o. MatchOption o (modules_in text ≡ []) (λ cut. modules_in text ≡ cut.line ∷ modules_in cut.after.now)) is found

all_read : (modules more : List Parts) (parts : Parts) → All IsRead modules → IsRead parts → more ≡ modules ++ parts ∷ [] → All IsRead more
all_read modules more parts all one are = subst (All IsRead) (sym are) (All-push IsRead modules parts all one)

pub loop-modules-init : goal.loop-modules-init
loop-modules-init g c = record {
  done = reached_none c.args.lines.now _ _ c.new-modules.result.items (sym c.text-left.ensures) c.new-modules.ensures.items;
  plain = subst (All IsPlainModule) (sym c.text-left.ensures) c.requires;
  whole = subst (All IsRead) (sym c.new-modules.ensures.items) (All-nil IsRead);
}

pub module_given-requires : goal.module_given-requires
module_given-requires g c =
    next_plain c.loop-modules.left.now c.in_ok-cut.field-0 c.in-Some.cut c.in-Some.is c.in_ok-cut.ensures.lines c.loop-modules.invariant.plain

pub loop-modules-preserved : goal.loop-modules-preserved
loop-modules-preserved g c = record {
  done = one_done c.loop-modules.left.now c.in_ok-cut.field-0 c.in-Some.cut c.in-Some.is c.in_ok-cut.ensures.lines c.args.lines.now _ _ _ c.loop-modules.modules.items _
      c.in-Ok.«module» c.loop-modules.invariant.done c.in-Ok.ensures.done c.in_ok-push-in-Ok.ensures.items;
  plain = others_plain c.loop-modules.left.now c.in_ok-cut.field-0 c.in-Some.cut c.in-Some.is c.in_ok-cut.ensures.lines c.loop-modules.invariant.plain;
  whole = all_read c.loop-modules.modules.items _ c.in-Ok.«module» c.loop-modules.invariant.whole c.in-Ok.ensures.whole c.in_ok-push-in-Ok.ensures.items;
}

pub returns-in_err-cut-clause-done : goal.returns-in_err-cut-clause-done
returns-in_err-cut-clause-done g c =
    no_memory c.args.lines.now _ _ _ c.loop-modules.modules.items c.from_residual.result c.loop-modules.invariant.done
    (err_is c.from_residual.result c.from_residual.ensures.1)

pub returns-in_err-push-in-Ok-clause-done : goal.returns-in_err-push-in-Ok-clause-done
returns-in_err-push-in-Ok-clause-done g c =
    no_memory c.args.lines.now _ _ _ (c.loop-modules.modules.items ++ c.in-Ok.«module» ∷ []) c.from_residual-in_err-push-in-Ok.result
    (one_done c.loop-modules.left.now c.in_ok-cut.field-0 c.in-Some.cut c.in-Some.is c.in_ok-cut.ensures.lines c.args.lines.now _ _ _ c.loop-modules.modules.items _
    c.in-Ok.«module» c.loop-modules.invariant.done c.in-Ok.ensures.done refl)
    (err_is c.from_residual-in_err-push-in-Ok.result c.from_residual-in_err-push-in-Ok.ensures.1)

pub returns-in-Err-clause-done : goal.returns-in-Err-clause-done
returns-in-Err-clause-done g c =
    one_stops c.loop-modules.left.now c.in_ok-cut.field-0 c.in-Some.cut c.in-Some.is c.in_ok-cut.ensures.lines c.args.lines.now _ _ _ c.loop-modules.modules.items c.in-Err.why
    c.loop-modules.invariant.done c.in-Err.ensures.done

pub returns-clause-done : goal.returns-clause-done
returns-clause-done g c =
    reached_done c.args.lines.now (modules_in c.loop-modules.left.now) _ _ c.loop-modules.modules.items c.loop-modules.invariant.done
    (none_left c.loop-modules.left.now c.in_ok-cut.field-0 c.in_default.is c.in_ok-cut.ensures.lines)

pub returns-clause-count : goal.returns-clause-count
returns-clause-count g c =
    reached_count c.args.lines.now (modules_in c.loop-modules.left.now) _ _ c.loop-modules.modules.items c.loop-modules.invariant.done
    (none_left c.loop-modules.left.now c.in_ok-cut.field-0 c.in_default.is c.in_ok-cut.ensures.lines)
