-- What a save leaves, and what is said after it.
use Rattle.std.proofs.Common.{◌≡◌, ℕ, false, true, List, [], ◌∷◌, ◌++◌, Result, Ok, Err, refl}
use Rattle.std.specs.Prelude.{IsErr, OnOk}
use Rattle.lx_types.specs.declared.fail.NoMemory.{NoMemory}
use Rattle.obj_types.specs.declared.input.LinkInput.{LinkInput}
use Rattle.lx_ports.specs.Calls.{save}
use Rattle.lx_ports.specs.Files as files
use Rattle.lx_ports.specs.Files.{FilesState, KeepsOthers}
use Rattle.lx_ports.specs.declared.files.SaveFault.{SaveFault}
use Rattle.answer_model.specs.declared.said.Said.{Said}
use Rattle.answer_model.specs.Outcome.{Outcome, kept}
use Rattle.answer_model.specs.Says.{said_after}
use Rattle.file_commands.specs.Doing.{DoesLink, DoesOutcome}
use Rattle.file_commands.specs.Refusals.{said_in}
use Rattle.file_commands.specs.declared.told.Told.{Told}

pub kept_after : (before now : FilesState) (name bytes text : List ℕ) (r : Result (Unit {0}) SaveFault) (said : Said) → OnOk r (files.IsSaved before.contents now.contents name bytes)
    → KeepsOthers before.contents now.contents name → now.calls ≡ before.calls ++ save name bytes r ∷ [] → said ≡ said_after (kept name bytes text) name r
    → DoesOutcome (kept name bytes text) before now (Ok said)
kept_after before now name bytes text (Ok done) said saved others call is = record {
  saves = save name bytes (Ok done) ∷ [];
  finished = record { answer = Ok done; calls_are = refl; is_said = is };
  had = call;
  held = (now.contents, record { saved = λ _. saved; others = others }, refl);
}
kept_after before now name bytes text (Err why) said saved others call is = record {
  saves = save name bytes (Err why) ∷ [];
  finished = record { answer = Err why; calls_are = refl; is_said = is };
  had = call;
  held = (now.contents, record { saved = λ same. absurd (true_false same); others = others }, refl);
}
  where
    true_false : true ≡ false → ⊥
    true_false same = cc

-- Without memory nothing was done.
pub unkept : (outcome : Outcome) (state : FilesState) (r : Result Told NoMemory) → IsErr r → DoesOutcome outcome state state (said_in r)
unkept outcome state (Ok told) is = absurd cc
unkept outcome state (Err why) is = refl

pub unlinked : (out : List ℕ) (input : LinkInput) (state : FilesState) (r : Result Told NoMemory) → IsErr r → DoesLink out input state state (said_in r)
unlinked out input state (Ok told) is = absurd cc
unlinked out input state (Err why) is = refl
