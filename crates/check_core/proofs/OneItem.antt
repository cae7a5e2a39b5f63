-- One item, judged of all kinds.
use Rattle.std.proofs.Common.{◌≡◌, ℕ, inl, inr, List, [], ◌∷◌, ◌++◌, length, Option, Some, None, refl, sym, ◌∙◌, ap, subst}
use Rattle.std.specs.Prelude.{OnSome}
use Rattle.load_model.specs.declared.commands.Command.{Command}
use Rattle.load_model.specs.Modules.{Library}
use Rattle.session_model.specs.declared.sessions.Script.{Script}
use Rattle.session_model.specs.Merging.{Item}
use Rattle.check_model.specs.declared.kinds.CheckKind.{CheckKind}
use Rattle.check_model.specs.declared.kinds.CheckKind.TheVariants as kinds
use Rattle.check_model.specs.Told.{Told}
use Rattle.check_model.specs.Checks.{Judge, CommandIsNext, FrontFits, process_of}
use Rattle.check_core.specs.NextCommands.{AreDone, IsForNext, done_of, next_command, done_after}
use Rattle.check_core.specs.PlayedItems.{IsPlayed, IsJudgedItem, CanPlay, StandsBefore, IsOfScript}
use Rattle.check_core.proofs.NextCommands.{next_is_by_count, one_more_done}

pub front_wrong : (j : Judge) (t : Told) (low : ℕ) (before : List Item) (item : Item) (after : List Item) → (FrontFits low (length t.run.history) item → ⊥) →
    IsJudgedItem j t low before item after (Some kinds.Front)
front_wrong j t low before item after not = inr (tt, inl (refl, not))

pub command_wrong : (j : Judge) (t : Told) (low : ℕ) (before : List Item) (item : Item) (after : List Item) → FrontFits low (length t.run.history) item → (CommandIsNext j before item → ⊥) →
    IsJudgedItem j t low before item after (Some kinds.Command)
command_wrong j t low before item after fits not = inr (tt, inr (fits, inl (refl, not)))

pub played_wrong : (j : Judge) (t : Told) (low : ℕ) (before : List Item) (item : Item) (after : List Item) (kind : CheckKind) → FrontFits low (length t.run.history) item → CommandIsNext j before item →
    IsPlayed j before item after (Some kind) → IsJudgedItem j t low before item after (Some kind)
played_wrong j t low before item after kind fits next (inl w) = inr (tt, inr (fits, inr (next, inl w)))
played_wrong j t low before item after kind fits next (inr (a, inl w)) = inr (tt, inr (fits, inr (next, inr (a, inl w))))
played_wrong j t low before item after kind fits next (inr (a, inr (b, inl w))) = inr (tt, inr (fits, inr (next, inr (a, inr (b, inl w)))))
played_wrong j t low before item after kind fits next (inr (a, inr (b, inr (c, inl w)))) = inr (tt, inr (fits, inr (next, inr (a, inr (b, inr (c, inl w))))))
played_wrong j t low before item after kind fits next (inr (a, inr (b, inr (c, inr (d, inl w))))) = inr (tt, inr (fits, inr (next, inr (a, inr (b, inr (c, inr (d, inl w)))))))
played_wrong j t low before item after kind fits next (inr (a, inr (b, inr (c, inr (d, inr w))))) = absurd w.1

pub played_right : (j : Judge) (t : Told) (low : ℕ) (before : List Item) (item : Item) (after : List Item) → FrontFits low (length t.run.history) item → CommandIsNext j before item →
    IsPlayed j before item after None → IsJudgedItem j t low before item after None
played_right j t low before item after fits next right =
    (tt, (fits, (next, (right.0, (right.1.0, (right.1.1.0, (right.1.1.1.0, (right.1.1.1.1.0, (tt, tt)))))))))

-- ---- what may be played

pub can_play : (j : Judge) (before : List Item) (item : Item) (after : List Item) (scripts : List Script) (done : List ℕ) (command : Option Command) (next : Option Item) → j.scripts ≡ scripts →
    AreDone j before done → IsOfScript j item after next → CommandIsNext j before item → command ≡ next_command scripts done (process_of item) → CanPlay j before item command
can_play j before item after scripts done command next same counted script is found =
    let here : command ≡ next_command j.scripts done (process_of item) = found ∙ ap (λ (s : List Script). next_command s done (process_of item)) (sym same) in
    record {
      least = script.least;
      most = script.most;
      next = is;
      command_is = λ own. subst (λ (c : Option Command). IsForNext j.lib c item) (sym here) ((next_is_by_count j before done item counted).0 is own);
      scripted = (done_of done (process_of item), here);
    }

-- it is for some command, if it is for one
pub has_command : (lib : Library) (item : Item) (command : Option Command) → IsForNext lib command item → (c : Command) × (command ≡ Some c)
has_command lib item None is = absurd is
has_command lib item (Some c) is = (c, refl)

pub counted_more : (Stands : Judge → List Item → List Item → Type 0) (j : Judge) (before after : List Item) (item : Item) (done more : List ℕ) → AreDone j before done → CommandIsNext j before item →
    more ≡ done_after done item → Stands j (before ++ item ∷ []) after → StandsBefore Stands j (before ++ item ∷ []) after more
counted_more Stands j before after item done more counted next is stands = record {
  counted = subst (λ (d : List ℕ). AreDone j (before ++ item ∷ []) d) (sym is) (one_more_done j before done item counted next);
  stands = stands;
}

pub some_few : {X : Type 0} (o : Option X) (P : Type 0) → (o ≡ None → ⊥) → OnSome o P → P
some_few None P some h = absurd (some refl)
some_few (Some x) P some h = h
