-- Views of processes that have done nothing.
use Rattle.std.proofs.Common.{◌≡◌, ℕ, ◌+◌, ◌<◌, ◌⊎◌, ◌≢◌, List, [], ◌∷◌, ◌++◌, length, get_or, inl, inr, refl, sym, ap, ◌∙◌, subst, arith}
use Rattle.std.proofs.lemmas.Bool.{cases_eq}
use Rattle.std.proofs.lemmas.List.{length_push, get_or_push, get_or_append_left}
use Rattle.load_model.specs.Modules.{Library, fixed_bytes}
use Rattle.load_model.specs.State.{Failing}
use Rattle.load_model.specs.Laws.{NothingIsLegal}
use Rattle.load_model.specs.ViewLaws.{NewStands}
use Rattle.session_model.specs.Merging.{Item}
use Rattle.load_core.specs.BoardState.{BoardState, IsLegal}
use Rattle.process_view.specs.ProcessViews.{ProcessView, new_view}
use Rattle.check_model.specs.Checks.{Judge}
use Rattle.play_laws.specs.MappedPages.{NothingMapped}
use Rattle.check_play.specs.declared.standing.Standing.{Standing}
use Rattle.check_play.specs.Standing.{IsStanding, StandsShown}
use Rattle.check_play.specs.AtPlaces.{IsViewAt}
use Rattle.check_play.specs.Playing.{StandsTogether, AreNewViews, IsJudgeOver}

pub no_views : (lib : Library) → AreNewViews lib 0 []
no_views lib = record { count = refl; each = λ k d within. absurd (omega (arith, within)) }

pub one_view_more : (lib : Library) (n : ℕ) (vs : List ProcessView) (v : ProcessView) → v ≡ new_view lib (n + 1) → AreNewViews lib n vs → AreNewViews lib (n + 1) (vs ++ v ∷ [])
one_view_more lib n vs v is are = record {
  count = length_push vs v ∙ ap (λ (k : ℕ). k + 1) are.count;
  each = λ k d within. at k d (let long = are.count in omega (arith, within, length_push vs v)) (cases_eq k n);
}
  where
    at : (k : ℕ) (d : ProcessView) → k < n + 1 → (k ≡ n) ⊎ (k ≢ n) → get_or (vs ++ v ∷ []) k d ≡ new_view lib (k + 1)
    at k d within (inl e) = get_or_push vs v d k (are.count ∙ sym e) ∙ (is ∙ ap (λ (i : ℕ). new_view lib (i + 1)) (sym e))
    at k d within (inr e) =
        let long = are.count in
        let inside : k < length vs = omega arith in
        get_or_append_left vs (v ∷ []) d k inside ∙ are.each k d inside

-- a view that has done nothing stands before all items
new_at : NothingIsLegal → NewStands → NothingMapped → (j : Judge) (after : List Item) (lib : Library) (failing : Failing) (b : BoardState) (pid : ℕ) →
    b ≡ record { library = lib; failing = failing; history = []; keeper = b.keeper } → IsViewAt j [] after b (new_view lib pid) pid
new_at legal stands mapped j after lib failing b pid is = record {
  number = refl;
  stands = subst (λ (c : BoardState). StandsShown c (new_view lib pid)) (sym is)
      (record { library = refl; residences = refl; stands = stands lib failing (fixed_bytes lib) pid; shown = tt });
  mapped = mapped j pid after;
}

pub new_together : NothingIsLegal → NewStands → NothingMapped → (lib : Library) (failing : Failing) (n : ℕ) (j : Judge) (after : List Item) (s : Standing) (vs : List ProcessView) → IsJudgeOver lib failing n j →
    s.board ≡ record { library = lib; failing = failing; history = []; keeper = s.board.keeper } → IsStanding s → AreNewViews lib n vs → StandsTogether j [] after s vs
new_together legal stands mapped lib failing n j after s vs over board kept views = record {
  board = record {
    is = board ∙ (ap (λ (l : Library). record { library = l; failing = failing; history = []; keeper = s.board.keeper }) (sym over.lib_is)
        ∙ ap (λ (f : Failing). record { library = j.lib; failing = f; history = []; keeper = s.board.keeper }) (sym over.failing_is));
    contents = over.contents ∙ ap fixed_bytes (sym over.lib_is);
    legal = subst IsLegal (sym board) (legal lib failing (fixed_bytes lib));
  };
  kept = kept;
  scripts = views.count ∙ sym over.scripts;
  few = over.few;
  fit = over.fit;
  views = λ k d within. subst (λ (v : ProcessView). IsViewAt j [] after s.board v (k + 1)) (sym (views.each k d within)) (new_at legal stands mapped j after lib failing s.board (k + 1) board);
}
