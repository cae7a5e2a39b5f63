-- Views of others stand while an item of one process is done.
use Rattle.std.proofs.Common.{◌≡◌, ℕ, ◌==◌, ◌+◌, ◌-◌, ◌<◌, ◌⊎◌, ◌≢◌, true, false, List, [], ◌∷◌, ◌++◌, length, get_or, set, take, inl, inr, refl, sym, ap, ◌∙◌, subst, arith, Option, None, Result, Ok, Err, ne_eqb, append-nil, length-set, get_or-set_same, get_or-set_other}
use Rattle.std.specs.Prelude.{IfOk}
use Rattle.std.proofs.lemmas.Bool.{cases_eq}
use Rattle.load_model.specs.declared.commands.Command.{Command}
use Rattle.load_model.specs.declared.deeds.Entry.{Entry}
use Rattle.load_model.specs.Modules.{Library, Held, fixed_bytes}
use Rattle.load_model.specs.State.{Eager, pids, is_among}
use Rattle.load_model.specs.Histories.{state_after, after_entry, Legal}
use Rattle.load_model.specs.Laws.{PrefixIsLegal, EachFollows, OneMoreIsAfter}
use Rattle.load_model.specs.Alike.{OthersLeaveAlike, BasesAreAlike}
use Rattle.load_model.specs.Views.{mapped_pages}
use Rattle.load_model.specs.ViewLaws.{StandsOn}
use Rattle.mod_refs.proofs.CountsOfAll.{is_pid}
use Rattle.session_model.specs.declared.sessions.Line.{Line}
use Rattle.session_model.specs.Merging.{Item, entry, line}
use Rattle.session_model.specs.MergeLaws.{entries_in}
use Rattle.session_model.proofs.MergeStates.{entries_append}
use Rattle.load_core.specs.BoardState.{BoardState, IsLegal, with_entry}
use Rattle.process_view.specs.ProcessViews.{ProcessView, AreShown, at_front}
use Rattle.check_model.specs.declared.kinds.CheckKind.{CheckKind}
use Rattle.check_model.specs.Checks.{Judge, process_of}
use Rattle.check_core.specs.PlayedItems.{CanPlay, next_after}
use Rattle.play_laws.specs.MappedPages.{FollowsHistory, MappedAfterOthers}
use Rattle.check_play.specs.declared.standing.Standing.{Standing}
use Rattle.check_play.specs.Standing.{StandsShown}
use Rattle.check_play.specs.AtPlaces.{IsBoardAt, IsViewAt}
use Rattle.check_play.specs.Playing.{StandsAlone, StandsTogether, PlaysItem, PlaysAmong}
use Rattle.process_view.proofs.Shown.{stands_under}
use Rattle.process_view.proofs.ShownAlike.{residences_reached, shown_alike_by}

-- the laws that this rests on
pub record OtherLaws : Type 0 where
  pub shrinks : PrefixIsLegal
  pub follows : EachFollows
  pub after : OneMoreIsAfter
  pub alike : OthersLeaveAlike
  pub bases : BasesAreAlike
  pub on : StandsOn
  pub others : MappedAfterOthers

-- ---- an entry more

stands_on : OtherLaws → (b : BoardState) (v : ProcessView) (x : Entry) → is_among pids v.holding.pid ≡ true → (v.holding.pid == x.pid) ≡ false → IsLegal (with_entry b x) → StandsShown b v → StandsShown (with_entry b x) v
stands_on laws b v x there other legal stands =
    let lib : Library = b.library in
    let h : List Entry = b.history in
    let e : Eager = state_after lib b.failing h in
    let before = laws.shrinks lib b.failing (fixed_bytes lib) h (x ∷ []) legal in
    let follows = laws.follows lib b.failing (fixed_bytes lib) h x [] legal in
    let shown = at_front (length h) v in
    record {
      library = stands.library;
      residences = stands.residences;
      stands = laws.on lib b.failing (fixed_bytes lib) shown.holding h (x ∷ []) there stands.stands legal (other, tt);
      shown = subst (λ (a : Eager). AreShown lib a v.residences) (sym (laws.after lib b.failing h x))
          (shown_alike_by laws.bases lib e (after_entry lib e x) v.holding.pid v.residences (laws.alike lib b.failing (fixed_bytes lib) h x v.holding.pid before follows there other)
          (residences_reached lib (fixed_bytes lib) shown.holding e v.residences stands.stands.view stands.residences) stands.shown);
    }

-- ---- another item

board_on : (j : Judge) (before : List Item) (x : Entry) (b c : BoardState) → IsBoardAt j before b → IsBoardAt j (before ++ entry x ∷ []) c → c ≡ record (with_entry b x) { keeper = c.keeper }
board_on j before x b c here there =
    there.is
    ∙ (ap (λ (h : List Entry). record { library = j.lib; failing = j.failing; history = h; keeper = c.keeper }) (entries_append before (entry x ∷ []))
    ∙ sym (ap (λ (l : BoardState). record (with_entry l x) { keeper = c.keeper }) here.is))

board_stays : (j : Judge) (before : List Item) (pid : ℕ) (l : Line) (b c : BoardState) → IsBoardAt j before b → IsBoardAt j (before ++ line pid l ∷ []) c → c ≡ record b { keeper = c.keeper }
board_stays j before pid l b c here there =
    there.is
    ∙ (ap (λ (h : List Entry). record { library = j.lib; failing = j.failing; history = h; keeper = c.keeper }) (entries_append before (line pid l ∷ []) ∙ append-nil (entries_in before))
    ∙ sym (ap (λ (l : BoardState). record l { keeper = c.keeper }) here.is))

follows_at : OtherLaws → (j : Judge) (before : List Item) (item : Item) (c : BoardState) → IsBoardAt j (before ++ item ∷ []) c → FollowsHistory j before item
follows_at laws j before (line pid l) c there = tt
follows_at laws j before (entry x) c there =
    let h : List Entry = entries_in before in
    let legal : Legal j.lib j.failing (fixed_bytes j.lib) (entries_in (before ++ entry x ∷ [])) = subst IsLegal there.is there.legal in
    let all : Legal j.lib j.failing j.contents (h ++ x ∷ []) =
    subst (λ (g : List Entry). Legal j.lib j.failing j.contents g) (entries_append before (entry x ∷ []))
    (subst (λ (held : Held). Legal j.lib j.failing held (entries_in (before ++ entry x ∷ []))) (sym there.contents) legal) in
    (laws.shrinks j.lib j.failing j.contents h (x ∷ []) all, laws.follows j.lib j.failing j.contents h x [] all)

other_stands : OtherLaws → (j : Judge) (before : List Item) (item : Item) (b c : BoardState) (v : ProcessView) → IsBoardAt j before b → IsBoardAt j (before ++ item ∷ []) c → is_among pids v.holding.pid ≡ true →
    (v.holding.pid == process_of item) ≡ false → StandsShown b v → StandsShown c v
other_stands laws j before (entry x) b c v here there among other stands =
    let is : c ≡ record (with_entry b x) { keeper = c.keeper } = board_on j before x b c here there in
    subst (λ (l : BoardState). StandsShown l v) (sym is) (stands_under (with_entry b x) c.keeper (at_front (length (with_entry b x).history) v) (stands_on laws b v x among other (subst IsLegal is there.legal) stands))
other_stands laws j before (line pid l) b c v here there among other stands =
    subst (λ (k : BoardState). StandsShown k v) (sym (board_stays j before pid l b c here there)) (stands_under b c.keeper (at_front (length b.history) v) stands)

-- the view of another process stands at the next place
pub other_on : OtherLaws → (j : Judge) (before after : List Item) (item : Item) (b c : BoardState) (v : ProcessView) (pid : ℕ) → IsBoardAt j before b → IsBoardAt j (before ++ item ∷ []) c → is_among pids pid ≡ true →
    (pid == process_of item) ≡ false → IsViewAt j before (item ∷ after) b v pid → IsViewAt j (before ++ item ∷ []) after c v pid
other_on laws j before after item b c v pid here there among other view = record {
  number = view.number;
  stands = other_stands laws j before item b c v here there (subst (λ (n : ℕ). is_among pids n ≡ true) (sym view.number) among)
      (subst (λ (n : ℕ). (n == process_of item) ≡ false) (sym view.number) other) view.stands;
  mapped = laws.others j before after item pid (mapped_pages v.holding) among other (follows_at laws j before item c there) view.mapped;
}

-- ---- all views

-- the view of the process whose item is next
pub alone_at : (j : Judge) (before after : List Item) (item : Item) (s : Standing) (vs : List ProcessView) (k : ℕ) (v : ProcessView) → StandsTogether j before (item ∷ after) s vs → process_of item ≡ k + 1 →
    k < length vs → v ≡ get_or vs k v → StandsAlone j before (item ∷ after) s v (process_of item)
alone_at j before after item s vs k v all own within at = record {
  board = all.board;
  kept = all.kept;
  view = subst (λ (n : ℕ). IsViewAt j before (item ∷ after) s.board v n) (sym own) (subst (λ (u : ProcessView). IsViewAt j before (item ∷ after) s.board u (k + 1)) (sym at) (all.views k v within));
}

pub together_on : OtherLaws → (j : Judge) (before after : List Item) (item : Item) (s t : Standing) (vs : List ProcessView) (k : ℕ) (w : ProcessView) → StandsTogether j before (item ∷ after) s vs → process_of item ≡ k + 1 →
    k < length vs → StandsAlone j (before ++ item ∷ []) after t w (process_of item) → StandsTogether j (before ++ item ∷ []) after t (set vs k w)
together_on laws j before after item s t vs k w all own within alone = record {
  board = alone.board;
  kept = alone.kept;
  scripts = length-set vs k w ∙ all.scripts;
  few = all.few;
  fit = all.fit;
  views = λ i d inside. view_at i d (omega (arith, inside, length-set vs k w)) (cases_eq i k);
}
  where
    view_at : (i : ℕ) (d : ProcessView) → i < length vs → (i ≡ k) ⊎ (i ≢ k) → IsViewAt j (before ++ item ∷ []) after t.board (get_or (set vs k w) i d) (i + 1)
    view_at i d inside (inl e) =
        let here : get_or (set vs k w) i d ≡ w = ap (λ (n : ℕ). get_or (set vs k w) n d) e ∙ get_or-set_same vs k w d within in
        let pid : process_of item ≡ i + 1 = own ∙ ap (λ (n : ℕ). n + 1) (sym e) in
        subst (λ (u : ProcessView). IsViewAt j (before ++ item ∷ []) after t.board u (i + 1)) (sym here)
        (subst (λ (n : ℕ). IsViewAt j (before ++ item ∷ []) after t.board w n) pid alone.view)
    view_at i d inside (inr e) =
        let few = all.few in
        let long = all.scripts in
        let there : is_among pids (i + 1) ≡ true = is_pid (i + 1) (omega arith) (omega (arith, inside, few, long)) in
        let apart : (i + 1 == process_of item) ≡ false = ne_eqb (i + 1) (process_of item) (λ same. e (let both : i + 1 ≡ k + 1 = same ∙ own in omega (arith, both))) in
        subst (λ (u : ProcessView). IsViewAt j (before ++ item ∷ []) after t.board u (i + 1)) (sym (get_or-set_other vs k i w d e))
        (other_on laws j before after item s.board t.board (get_or vs i d) (i + 1) all.board alone.board there apart (all.views i d inside))

-- what is told of an item by its own process is told among all
pub all_together : {E : Type 0} (r : Result (Option CheckKind) E) → OtherLaws → (item : Item) (command : Option Command) (next : Option Item) (s t : Standing) (vs : List ProcessView) (n : ℕ) (v w : ProcessView) →
    n ≡ process_of item → v ≡ get_or vs (n - 1) v → IfOk r (PlaysItem item command next s v t w) → IfOk r (PlaysAmong item command next s vs t (set vs (n - 1) w))
all_together (Ok answer) laws item command next s t vs n v w is at played = λ j before after can follows stands.
    let least = can.least in
    let most = can.most in
    let long = stands.scripts in
    let own : process_of item ≡ (n - 1) + 1 = omega arith in
    let within : n - 1 < length vs = omega arith in
    let alone = played j before after can follows (alone_at j before after item s vs (n - 1) v stands own within at) in
    record { judged = alone.judged; stands = λ right. together_on laws j before after item s t vs (n - 1) w stands own within (alone.stands right) }
all_together (Err e) laws item command next s t vs n v w is at played = tt

pub done_together : {E : Type 0} (r : Result (Option CheckKind) E) (item : Item) (command : Option Command) (next : Option Item) (s t : Standing) (vs ws : List ProcessView) → IfOk r (PlaysAmong item command next s vs t ws) → r ≡ Ok None →
    (j : Judge) (before after : List Item) → StandsTogether j before (item ∷ after) s vs → CanPlay j before item command → next ≡ next_after item after → StandsTogether j (before ++ item ∷ []) after t ws
done_together (Ok answer) item command next s t vs ws played is j before after stands can follows =
    let right : answer ≡ None = cc in
    (played j before after can follows stands).stands right
done_together (Err e) item command next s t vs ws played is j before after stands can follows = cc

-- views that were written back
pub refilled : (n : ℕ) (ws rest : List ProcessView) → length ws ≡ n → take n (ws ++ rest) ≡ ws
refilled n [] rest long = subst (λ (k : ℕ). take k rest ≡ []) long refl
refilled n (w ∷ ws) rest long = subst (λ (k : ℕ). take k (w ∷ ws ++ rest) ≡ w ∷ ws) long (ap (λ (vs : List ProcessView). w ∷ vs) (refilled (length ws) ws rest refl))
