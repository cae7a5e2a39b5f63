-- Accepted touches, judged by a board and a view.
use Rattle.std.proofs.Common.{◌≡◌, ℕ, Bool, true, false, List, [], ◌∷◌, ◌++◌, length, Option, Some, None, option_map, inl, inr, refl, sym, ◌∙◌, ap, true≢false, append-nil}
use Rattle.std.specs.List.{list_all}
use Rattle.page_frames.specs.Residences.{ResidenceFor}
use Rattle.load_model.specs.declared.commands.Command.{Command}
use Rattle.load_model.specs.declared.commands.Command.TheVariants as commands
use Rattle.load_model.specs.declared.commands.Place.{Place}
use Rattle.load_model.specs.declared.commands.Refusal.{Refusal}
use Rattle.load_model.specs.declared.commands.Refusal.TheVariants.{Ended}
use Rattle.load_model.specs.declared.commands.Reply.{Reply}
use Rattle.load_model.specs.declared.commands.Reply.TheVariants as replies
use Rattle.load_model.specs.declared.deeds.Entry.{Entry}
use Rattle.load_model.specs.Modules.{Library, Held, fixed_bytes}
use Rattle.load_model.specs.State.{PageOf, Residence, Process, Eager, serial_of}
use Rattle.load_model.specs.Memory.{page, pages_over}
use Rattle.load_model.specs.Entering.{residence_from}
use Rattle.load_model.specs.Refusals.{touch, when, ◌orelse◌, residence_refusal, residence_named, place_refusal, refusal_of}
use Rattle.load_model.specs.Step.{steady, serial_named, fine_answer, answer_of}
use Rattle.load_model.specs.Accepted.{retouched}
use Rattle.load_model.specs.Laws.{unwritten_of}
use Rattle.load_model.specs.Touched.{SamePages}
use Rattle.load_model.specs.TouchedPages.{has_page}
use Rattle.load_model.specs.Views.{Holding, mapped_pages, state_for}
use Rattle.load_model.specs.ViewAnswers.{view_refusal, reached_named}
use Rattle.load_model.specs.ViewLaws.{RefusedByView}
use Rattle.load_model.proofs.Answers.{answer_by, answer_is}
use Rattle.load_model.proofs.Touched.{named_apart}
use Rattle.load_model.proofs.Views.{named_by_view}
use Rattle.session_model.specs.declared.sessions.Line.{Line}
use Rattle.session_model.specs.Merging.{Item, line, touch_follows}
use Rattle.session_model.specs.MergeLaws.{entries_in, touched_in}
use Rattle.session_model.proofs.MergeStates.{entries_append, states_are_the_historys}
use Rattle.merge_laws.specs.OwnStates.{is_fixed, are_fixed}
use Rattle.merge_laws.specs.PageStates.{pages_at}
use Rattle.load_core.specs.BoardState.{BoardState, state_of}
use Rattle.process_view.specs.Answering.{IsReachedNamed}
use Rattle.process_view.specs.ProcessViews.{ProcessView, fresh_shown}
use Rattle.check_model.specs.declared.kinds.CheckKind.TheVariants as kinds
use Rattle.check_model.specs.Checks.{Judge, state_at}
use Rattle.check_core.specs.PlaceStates.{history_state, HasTouchedAt, PagesDecide}
use Rattle.check_core.specs.PlayedItems.{IsPlayed}
use Rattle.play_laws.specs.MappedPages.{accepted_in, MappedAfterTouch}
use Rattle.check_play.specs.declared.standing.Standing.{Standing}
use Rattle.check_play.specs.declared.standing.AttachedResidence.{AttachedResidence}
use Rattle.check_play.specs.Standing.{attached_of, are_fixed_in, StandsShown}
use Rattle.check_play.specs.AtPlaces.{IsBoardAt}
use Rattle.check_play.specs.Mapping.{residence_at, AreFixedOn, HasMore}
use Rattle.check_play.specs.Playing.{StandsAlone}
use Rattle.check_play.proofs.Fronts.{fronts_alike}

-- ---- the line

pub is_accepted : (c : Command) (r : Reply) (at : Place) → accepted_in c r ≡ Some at → (c ≡ commands.Touch at) × (r ≡ replies.Fine)
is_accepted (commands.Touch at) replies.Fine other is = (let same : at ≡ other = cc in (ap commands.Touch same, refl))
is_accepted c r at is = cc

-- ---- faults

-- by the residence that is found
pub fixed_none : (lib : Library) (h : List Entry) (at : Place) (o : Option Residence) → None ≡ option_map attached_of o → false ≡ are_fixed lib h at o
fixed_none lib h at None is = refl
fixed_none lib h at (Some r) is = cc

pub fixed_some : (lib : Library) (h : List Entry) (at : Place) (o : Option Residence) (residence : AttachedResidence) → Some residence ≡ option_map attached_of o → are_fixed_in lib h at residence ≡ are_fixed lib h at o
fixed_some lib h at None residence is = cc
fixed_some lib h at (Some r) residence is = (let same : residence ≡ attached_of r = cc in ap (are_fixed_in lib h at) same)

-- the process at a place has touched what it has
same_touched : (j : Judge) (before : List Item) (pid : ℕ) → HasTouchedAt j before pid (touched_in (state_at j before) pid)
same_touched j before pid serial q = refl

-- an accepted touch follows exactly where all was fixed on the board
pub follows_there : PagesDecide → (j : Judge) (before : List Item) (b : BoardState) (pid : ℕ) (at : Place) → IsBoardAt j before b →
    touch_follows j.lib j.failing before pid (commands.Touch at) replies.Fine ≡ are_fixed b.library b.history at (residence_named b.library (state_of b) pid at.«module»)
follows_there decide j before b pid at board =
    (decide j before pid (touched_in (state_at j before) pid) (same_touched j before pid)).follows at
    ∙ sym (ap (λ (x : BoardState). are_fixed x.library x.history at (residence_named x.library (state_of x) pid at.«module»)) board.is)

pub follows_as : PagesDecide → (j : Judge) (before : List Item) (b : BoardState) (number pid : ℕ) (at : Place) (found : Bool) → IsBoardAt j before b → number ≡ pid →
    found ≡ are_fixed b.library b.history at (residence_named b.library (state_of b) number at.«module») → touch_follows j.lib j.failing before pid (commands.Touch at) replies.Fine ≡ found
follows_as decide j before b number pid at found board same is =
    follows_there decide j before b pid at board
    ∙ sym (is ∙ ap (λ (n : ℕ). are_fixed b.library b.history at (residence_named b.library (state_of b) n at.«module»)) same)

-- ---- refusals of touches

touch_alike : (lib : Library) (p q : Process) (at : Place) (r : Option Residence) → residence_refusal lib p touch at r ≡ residence_refusal lib q touch at r
touch_alike lib p q at None = refl
touch_alike lib p q at (Some r) = refl

-- whatever was touched, a touch is refused alike
pub touch_apart : (lib : Library) (e : Eager) (x y : ℕ → List PageOf) (pid : ℕ) (at : Place) →
    refusal_of lib (retouched x e) pid (commands.Touch at) ≡ refusal_of lib (retouched y e) pid (commands.Touch at)
unfolding refusal_of place_refusal
touch_apart lib e x y pid at =
    ap (λ (r : Option Residence). when (e.processes pid).ended Ended orelse residence_refusal lib (record (e.processes pid) { touched = x pid }) touch at r)
    (named_apart lib e x pid at.«module» ∙ sym (named_apart lib e y pid at.«module»))
    ∙ ap (λ (r : Option Refusal). when (e.processes pid).ended Ended orelse r)
    (touch_alike lib (record (e.processes pid) { touched = x pid }) (record (e.processes pid) { touched = y pid }) at (residence_named lib (retouched y e) pid at.«module»))

-- the view refuses a touch as the loader does at the place
pub touch_refused : RefusedByView → (j : Judge) (before : List Item) (b : BoardState) (v : ProcessView) (pid : ℕ) (at : Place) → IsBoardAt j before b → StandsShown b v → v.holding.pid ≡ pid →
    refusal_of j.lib (state_at j before) pid (commands.Touch at) ≡ view_refusal v.library v.holding (commands.Touch at)
touch_refused law j before b v pid at board stands number =
    let h : Holding = record v.holding { front = length b.history } in
    let here : refusal_of b.library (state_for b.library b.failing h b.history) v.holding.pid (commands.Touch at) ≡ view_refusal b.library h (commands.Touch at) =
    law b.library b.failing (fixed_bytes b.library) h b.history (commands.Touch at) stands.stands in
    let there : refusal_of j.lib (retouched (λ q. mapped_pages h) (history_state j before)) pid (commands.Touch at) ≡ view_refusal b.library h (commands.Touch at) =
    sym (ap (λ (x : BoardState). refusal_of x.library (retouched (λ q. mapped_pages h) (state_of x)) pid (commands.Touch at)) board.is)
    ∙ (sym (ap (λ (n : ℕ). refusal_of b.library (retouched (λ q. mapped_pages h) (state_of b)) n (commands.Touch at)) number) ∙ here) in
    ap (λ (e : Eager). refusal_of j.lib e pid (commands.Touch at)) (states_are_the_historys j.lib j.failing before)
    ∙ (touch_apart j.lib (history_state j before) (touched_in (state_at j before)) (λ q. mapped_pages h) pid at
    ∙ (there ∙ (fronts_alike b.library v.holding (length b.history) (commands.Touch at) ∙ ap (λ (lib : Library). view_refusal lib v.holding (commands.Touch at)) (sym stands.library))))

-- ---- answers

fine_touch : (lib : Library) (contents : Held) (e : Eager) (pid : ℕ) (at : Place) → fine_answer lib contents e pid (commands.Touch at) ≡ steady replies.Fine
unfolding fine_answer
fine_touch lib contents e pid at = refl

pub answered_fine : (lib : Library) (contents : Held) (e : Eager) (pid : ℕ) (at : Place) → refusal_of lib e pid (commands.Touch at) ≡ None → answer_of lib contents e pid (commands.Touch at) ≡ steady replies.Fine
answered_fine lib contents e pid at none =
    answer_is lib contents e pid (commands.Touch at)
    ∙ (ap (answer_by (fine_answer lib contents e pid (commands.Touch at))) none ∙ fine_touch lib contents e pid at)

pub not_fine : (lib : Library) (contents : Held) (e : Eager) (pid : ℕ) (at : Place) (r : Refusal) → refusal_of lib e pid (commands.Touch at) ≡ Some r → answer_of lib contents e pid (commands.Touch at) ≡ steady replies.Fine → ⊥
not_fine lib contents e pid at r some is =
    let both : steady (replies.Refused r) ≡ steady replies.Fine =
    sym (answer_is lib contents e pid (commands.Touch at) ∙ ap (answer_by (fine_answer lib contents e pid (commands.Touch at))) some) ∙ is in
    cc

-- ---- what is wrong

module _ (j : Judge) (before after : List Item) (pid : ℕ) (l : Line) (at : Place) (accepted : accepted_in l.command l.reply ≡ Some at) where
  command_is : l.command ≡ commands.Touch at
  command_is = (is_accepted l.command l.reply at accepted).0

  reply_is : l.reply ≡ replies.Fine
  reply_is = (is_accepted l.command l.reply at accepted).1

  follows_is : touch_follows j.lib j.failing before pid l.command l.reply ≡ touch_follows j.lib j.failing before pid (commands.Touch at) replies.Fine
  follows_is =
      ap (λ (c : Command). touch_follows j.lib j.failing before pid c l.reply) command_is
      ∙ ap (λ (r : Reply). touch_follows j.lib j.failing before pid (commands.Touch at) r) reply_is

  pub wrong_touch : touch_follows j.lib j.failing before pid (commands.Touch at) replies.Fine ≡ false → IsPlayed j before (line pid l) after (Some kinds.Touch)
  wrong_touch not = inr (tt, inr (tt, inr ((tt, tt), inl (refl, λ is. true≢false (sym is.1 ∙ (follows_is ∙ not))))))

  pub wrong_reply : touch_follows j.lib j.failing before pid (commands.Touch at) replies.Fine ≡ true →
      (answer_of j.lib j.contents (state_at j before) pid (commands.Touch at) ≡ steady replies.Fine → ⊥) → IsPlayed j before (line pid l) after (Some kinds.Reply)
  wrong_reply follows not =
      inr (
        tt,
        inr (
          tt,
          inr (
            (tt, tt),
            inr (
              (tt, follows_is ∙ follows),
              inl (
                refl,
                λ is. not (sym (ap (λ (c : Command). answer_of j.lib j.contents (state_at j before) pid c) command_is) ∙ (is ∙ ap steady reply_is)),
              ),
            ),
          ),
        ),
      )

  pub nothing_wrong : touch_follows j.lib j.failing before pid (commands.Touch at) replies.Fine ≡ true →
      answer_of j.lib j.contents (state_at j before) pid (commands.Touch at) ≡ steady replies.Fine → IsPlayed j before (line pid l) after None
  nothing_wrong follows fine = (
    tt,
    (
      tt,
      (
        (tt, tt),
        (
          (tt, follows_is ∙ follows),
          (ap (λ (c : Command). answer_of j.lib j.contents (state_at j before) pid c) command_is ∙ (fine ∙ ap steady (sym reply_is)), tt),
        ),
      ),
    ),
  )

-- ---- the residence

-- the residence that a name means is the one that the view has
pub record IsNamedThere (b : BoardState) (v : ProcessView) (name : List ℕ) (r : ResidenceFor) : Type 0 where
  pub residence : Residence
  pub named : residence_named b.library (state_of b) v.holding.pid name ≡ Some residence
  pub serial : residence.serial ≡ r.serial
  pub «module» : residence.«module» ≡ r.«module»

of_unwritten : (b : BoardState) (v : ProcessView) (name : List ℕ) (r : ResidenceFor) (o : Option Residence) → residence_named b.library (state_of b) v.holding.pid name ≡ o →
    unwritten_of o ≡ Some (residence_from (fresh_shown r)) → IsNamedThere b v name r
of_unwritten b v name r None named is = cc
of_unwritten b v name r (Some a) named is =
    let same : record a { writes = [] } ≡ residence_from (fresh_shown r) = cc in
    record { residence = a; named = named; serial = ap (λ (x : Residence). x.serial) same; «module» = ap (λ (x : Residence). x.«module») same }

pub named_there : (b : BoardState) (v : ProcessView) (name : List ℕ) (k : ℕ) (d : ResidenceFor) → StandsShown b v → IsReachedNamed v name k → IsNamedThere b v name (residence_at v k d)
named_there b v name k d stands named =
    let h : Holding = record v.holding { front = length b.history } in
    of_unwritten b v name (residence_at v k d) (residence_named b.library (state_of b) v.holding.pid name) refl
    (named_by_view b.library (fixed_bytes b.library) h (state_of b) name stands.stands.view
    ∙ (ap (λ (lib : Library). reached_named lib v.holding name) (sym stands.library) ∙ named.residence d))

-- where all of a place is fixed, it is in that residence
pub fixed_there : (b : BoardState) (v : ProcessView) (at : Place) (r : ResidenceFor) → IsNamedThere b v at.«module» r →
    are_fixed b.library b.history at (residence_named b.library (state_of b) v.holding.pid at.«module») ≡ true → AreFixedOn b r at.object (pages_over at.offset at.len)
fixed_there b v at r there fixed =
    let here : list_all (λ n. is_fixed b.library b.history there.residence.serial there.residence.«module» (page at.object n)) (pages_over at.offset at.len) ≡ true =
    sym (ap (are_fixed b.library b.history at) there.named) ∙ fixed in
    ap (λ (s : ℕ). list_all (λ n. is_fixed b.library b.history s r.«module» (page at.object n)) (pages_over at.offset at.len)) (sym there.serial)
    ∙ (ap (λ (m : ℕ). list_all (λ n. is_fixed b.library b.history there.residence.serial m (page at.object n)) (pages_over at.offset at.len)) (sym there.«module») ∙ here)

-- ---- the next place

module _ (touched : MappedAfterTouch) (j : Judge) (before after : List Item) (s : Standing) (v w : ProcessView) (pid : ℕ) (l : Line) (at : Place) (accepted : accepted_in l.command l.reply ≡ Some at)
    (alone : StandsAlone j before (line pid l ∷ after) s v pid) (r : ResidenceFor) (there : IsNamedThere s.board v at.«module» r)
    (fixed : AreFixedOn s.board r at.object (pages_over at.offset at.len)) (more : HasMore v w r at.object (pages_over at.offset at.len)) where
  same_entries : entries_in (before ++ line pid l ∷ []) ≡ entries_in before
  same_entries = entries_append before (line pid l ∷ []) ∙ append-nil (entries_in before)

  board_then : IsBoardAt j (before ++ line pid l ∷ []) s.board
  board_then = record {
    is = alone.board.is ∙ ap (λ (h : List Entry). record { library = j.lib; failing = j.failing; history = h; keeper = s.board.keeper }) (sym same_entries);
    contents = alone.board.contents;
    legal = alone.board.legal;
  }

  serial_is : serial_named j.lib (history_state j before) pid at ≡ r.serial
  serial_is =
      sym (ap (λ (x : BoardState). serial_named x.library (state_of x) pid at) alone.board.is)
      ∙ (sym (ap (λ (n : ℕ). serial_named s.board.library (state_of s.board) n at) alone.view.number) ∙ (ap serial_of there.named ∙ there.serial))

  pages_are : SamePages (mapped_pages w.holding) (mapped_pages v.holding ++ pages_at (serial_named j.lib (history_state j before) pid at) at)
  pages_are serial q =
      more.mapped serial q ∙ ap (λ (n : ℕ). has_page (mapped_pages v.holding ++ pages_at n at) serial q) (sym serial_is)

  pub stands_then : StandsAlone j (before ++ line pid l ∷ []) after s w pid
  stands_then = record {
    board = board_then;
    kept = alone.kept;
    view = record {
      number = ap (λ (h : Holding). h.pid) more.holding ∙ alone.view.number;
      stands = more.stands s.board alone.board.legal fixed alone.view.stands;
      mapped = touched j before after pid l at (mapped_pages v.holding) (mapped_pages w.holding) accepted alone.view.mapped pages_are;
    };
  }
