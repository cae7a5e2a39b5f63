-- The last entry and the last script, closed.
use Rattle.std.proofs.Common.{◌≡◌, suc, List, [], ◌∷◌, ◌++◌, length, refl, sym, ◌∙◌, ap}
use Rattle.load_model.specs.declared.deeds.Call.{Call}
use Rattle.load_model.specs.declared.deeds.Deed.{Deed}
use Rattle.load_model.specs.declared.deeds.Entry.{Entry}
use Rattle.load_model.specs.declared.deeds.Fresh.{Fresh}
use Rattle.load_model.specs.declared.deeds.Gone.{Gone}
use Rattle.session_model.specs.declared.sessions.Line.{Line}
use Rattle.session_model.specs.declared.sessions.ScriptLines.{ScriptLines}
use Rattle.transcript_whole.specs.Drafts.{with_lines, with_below, with_steady}

pub closed_entry : (h : List Entry) (x : Entry) (fresh : List Fresh) (calls : List Call) (gone : List Gone)
    → with_below (h ++ x ∷ []) fresh calls gone ≡ h ++ record { pid = x.pid; deed = with_lines x.deed fresh calls gone } ∷ []
closed_entry [] x fresh calls gone = refl
closed_entry (y ∷ []) x fresh calls gone = refl
closed_entry (y ∷ z ∷ h) x fresh calls gone = ap (λ (l : List Entry). y ∷ l) (closed_entry (z ∷ h) x fresh calls gone)

pub closed_script : (s : List ScriptLines) (x : ScriptLines) (ls : List Line) → with_steady (s ++ x ∷ []) ls ≡ s ++ record { pid = x.pid; lines = ls } ∷ []
closed_script [] x ls = refl
closed_script (y ∷ []) x ls = refl
closed_script (y ∷ z ∷ s) x ls = ap (λ (l : List ScriptLines). y ∷ l) (closed_script (z ∷ s) x ls)

-- ---- as the code closes them: the last one is taken, and put back with what belongs to it

pub entry_put : (h init all : List Entry) (last : Entry) (deed : Deed) (fresh : List Fresh) (calls : List Call) (gone : List Gone) → h ≡ init ++ last ∷ []
    → deed ≡ with_lines last.deed fresh calls gone → all ≡ init ++ record { pid = last.pid; deed = deed } ∷ [] → all ≡ with_below h fresh calls gone
entry_put h init all last deed fresh calls gone was is put =
    put ∙ ap (λ (x : Deed). init ++ record { pid = last.pid; deed = x } ∷ []) is ∙ sym (closed_entry init last fresh calls gone)
    ∙ ap (λ (l : List Entry). with_below l fresh calls gone) (sym was)

pub script_put : (s init all : List ScriptLines) (last : ScriptLines) (ls : List Line) → s ≡ init ++ last ∷ [] → all ≡ init ++ record { pid = last.pid; lines = ls } ∷ []
    → all ≡ with_steady s ls
script_put s init all last ls was put = put ∙ sym (closed_script init last ls) ∙ ap (λ (l : List ScriptLines). with_steady l ls) (sym was)

pub as_many : (s : List ScriptLines) (ls : List Line) → length (with_steady s ls) ≡ length s
as_many [] ls = refl
as_many (x ∷ []) ls = refl
as_many (x ∷ y ∷ s) ls = ap suc (as_many (y ∷ s) ls)
