-- What was saved so far.
use Rattle.std.specs.Prelude.{◌≡◌, ℕ, false, true, List, [], ◌∷◌, ◌++◌, codes, Option, Result, Ok, Err, is_err, map, refl}
use Rattle.std.proofs.Common.{ap, sym, ◌∙◌, subst, append_assoc}
use Rattle.std.proofs.lemmas.List.{append-nil, map-append}
use Rattle.std.specs.Iterator.{Yields}
use Rattle.std.specs.Vec.Iter.{into_iter_items, into_iter_steps}
use Rattle.std.specs.declared.vec.IntoIter.{IntoIter}
use Rattle.lx_ports.specs.Calls.{Call, save}
use Rattle.lx_ports.specs.Files.{Contents, FilesState}
use Rattle.lx_ports.specs.declared.files.SaveFault.{SaveFault}
use Rattle.answer_model.specs.declared.said.Said.{Said}
use Rattle.answer_model.specs.Ends.{Holds, IsAfterSave}
use Rattle.answer_model.specs.FileLine.{file_line}
use Rattle.answer_model.specs.GenAnswer.{SavesInTurn}
use Rattle.answer_model.specs.Outcome.{Saved}
use Rattle.gen_core.specs.declared.outputs.Output.{Output}
use Rattle.gen_core.specs.Doing.{AsksSave, Saves}
use Rattle.gen_core.specs.Generated.{HasLine, saved_of}

pub record HasSaved (done : List Saved) (text : List ℕ) (before now : FilesState) : Type 0 where
  pub saves : List Call
  pub goes_on : (rest : List Saved) (calls : List Call) (said : Said) → SavesInTurn rest text calls said → SavesInTurn (done ++ rest) text (saves ++ calls) said
  pub had : now.calls ≡ before.calls ++ saves
  pub held : (calls : List Call) (later : Option Contents) → Holds now.contents calls later → Holds before.contents (saves ++ calls) later

pub nothing_saved : (text : List ℕ) (before : FilesState) → HasSaved [] text before before
nothing_saved text before = record { saves = []; goes_on = λ rest calls said h. h; had = sym (append-nil before.calls); held = λ calls later h. h }

pub one_saved : (done : List Saved) (text : List ℕ) (before now next : FilesState) (file : Saved) → HasSaved done text before now
    → next.calls ≡ now.calls ++ save file.name file.bytes (Ok tt) ∷ [] → IsAfterSave now.contents file.name file.bytes false next.contents
    → HasSaved (done ++ file ∷ []) text before next
one_saved done text before now next file has call after =
    let this : Call = save file.name file.bytes (Ok tt) in
    record {
      saves = has.saves ++ this ∷ [];
      goes_on = λ rest calls said h.
          subst (λ (files : List Saved). SavesInTurn files text ((has.saves ++ this ∷ []) ++ calls) said) (sym (append_assoc done (file ∷ []) rest))
          (subst (λ (cs : List Call). SavesInTurn (done ++ file ∷ rest) text cs said) (sym (append_assoc has.saves (this ∷ []) calls)) (has.goes_on (file ∷ rest) (this ∷ calls) said (Ok tt, refl, h)));
      had = call ∙ ap (λ (cs : List Call). cs ++ this ∷ []) has.had ∙ append_assoc before.calls has.saves (this ∷ []);
      held = λ calls later h.
          subst (λ (cs : List Call). Holds before.contents cs later) (sym (append_assoc has.saves (this ∷ []) calls)) (has.held (this ∷ calls) later (next.contents, after, h));
    }

pub all_saved : (files : List Saved) (text : List ℕ) (before now : FilesState) (said : Said) → HasSaved files text before now → said ≡ record { status = 0; text = text } → Saves files text before now said
all_saved files text before now said has is = record {
  saves = has.saves;
  says = subst (λ (cs : List Call). SavesInTurn files text cs said) (append-nil has.saves) (subst (λ (fs : List Saved). SavesInTurn fs text (has.saves ++ []) said) (append-nil files) (has.goes_on [] [] said (refl, is)));
  had = has.had;
  held = subst (λ (cs : List Call). Holds before.contents cs now.contents) (append-nil has.saves) (has.held [] now.contents refl);
}

pub one_failed : (done rest files : List Saved) (text : List ℕ) (before now next : FilesState) (file : Saved) (fault : SaveFault) (said : Said) → HasSaved done text before now → files ≡ done ++ file ∷ rest
    → next.calls ≡ now.calls ++ save file.name file.bytes (Err fault) ∷ [] → IsAfterSave now.contents file.name file.bytes true next.contents
    → said ≡ record { status = 4; text = file_line file.name (codes "write failed") } → Saves files text before next said
one_failed done rest files text before now next file fault said has all call after is =
    let this : Call = save file.name file.bytes (Err fault) in
    record {
      saves = has.saves ++ this ∷ [];
      says = subst (λ (fs : List Saved). SavesInTurn fs text (has.saves ++ this ∷ []) said) (sym all) (has.goes_on (file ∷ rest) (this ∷ []) said (Err fault, refl, (refl, is)));
      had = call ∙ ap (λ (cs : List Call). cs ++ this ∷ []) has.had ∙ append_assoc before.calls has.saves (this ∷ []);
      held = has.held (this ∷ []) next.contents (next.contents, after, refl);
    }

-- ---- the outputs, as a loop takes them

-- What the iterator of a vector has given is a front of its items.
taken_front : {X A : Type 0} (s : IntoIter X A) (xs : List X) (t : IntoIter X A) → Yields into_iter_steps s xs t → into_iter_items s ≡ xs ++ into_iter_items t
taken_front s [] t y = ap into_iter_items y
taken_front {X} s (x ∷ xs) t y = y.1.0 ∙ ap (λ (ys : List X). x ∷ ys) (taken_front y.0 xs t y.2)

pub saved_by : (done : List Output) (text : List ℕ) (before now next : FilesState) (output : Output) (answer : Result (Unit {0}) SaveFault) → is_err answer ≡ false → HasSaved (map saved_of done) text before now → AsksSave now next (saved_of output) answer → HasSaved (map saved_of (done ++ output ∷ [])) text before next
saved_by done text before now next output (Ok _) good has a =
    subst (λ (files : List Saved). HasSaved files text before next) (sym (map-append saved_of done (output ∷ [])))
    (one_saved (map saved_of done) text before now next (saved_of output) has a.had (record { saved = λ e. a.saved; others = a.others }))
saved_by done text before now next output (Err fault) good has a = cc

pub failed_by : {A : Type 0} (outputs done : List Output) (s t u : IntoIter Output A) (text : List ℕ) (before now next : FilesState) (output : Output) (said : Said) (answer : Result (Unit {0}) SaveFault) → is_err answer ≡ true → HasSaved (map saved_of done) text before now
    → into_iter_items s ≡ outputs → Yields into_iter_steps s done t → into_iter_items t ≡ output ∷ into_iter_items u → HasLine output → AsksSave now next (saved_of output) answer → said ≡ record { status = 4; text = output.failed } → Saves (map saved_of outputs) text before next said
failed_by outputs done s t u text before now next output said (Ok _) bad has all yielded more line a is = cc
failed_by outputs done s t u text before now next output said (Err fault) bad has all yielded more line a is =
    let rest = into_iter_items u in
    let whole : outputs ≡ done ++ output ∷ rest = sym all ∙ taken_front s done t yielded ∙ ap (λ (os : List Output). done ++ os) more in
    one_failed (map saved_of done) (map saved_of rest) (map saved_of outputs) text before now next (saved_of output) fault said has (ap (map saved_of) whole ∙ map-append saved_of done (output ∷ rest)) a.had (record { saved = λ e. cc; others = a.others })
    (is ∙ ap (λ (t : List ℕ). record { status = 4; text = t }) line)
