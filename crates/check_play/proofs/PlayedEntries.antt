-- Entries of commands, judged by the view of their process.
use Rattle.std.proofs.Common.{◌≡◌, ◌↔◌, inl, inr, ℕ, ◌<◌, ◌&&◌, true, false, not, List, [], ◌∷◌, ◌++◌, length, Option, Some, None, is_none, refl, sym, ◌∙◌, ap, subst, eq-eqb, true≢false}
use Rattle.std.proofs.lemmas.List.Quantifiers.{position-Some}
use Rattle.lx_model.specs.Library.{no_module, has_name}
use Rattle.load_model.specs.declared.commands.Command.{Command}
use Rattle.load_model.specs.declared.commands.Command.TheVariants as commands
use Rattle.load_model.specs.declared.commands.Place.{Place}
use Rattle.load_model.specs.declared.commands.Ask.{Ask}
use Rattle.load_model.specs.declared.commands.Ask.TheVariants.{Write as put, Debug as patch, Shared as get}
use Rattle.load_model.specs.declared.deeds.Deed.{Deed}
use Rattle.load_model.specs.declared.deeds.Deed.TheVariants as deeds
use Rattle.load_model.specs.declared.deeds.Entry.{Entry}
use Rattle.load_model.specs.Modules.{Library, Held, fixed_bytes, number_of}
use Rattle.load_model.specs.State.{PageOf, Eager, pids, is_among, reaches, residence_of, attached_residence}
use Rattle.load_model.specs.Refusals.{refusal_of}
use Rattle.load_model.specs.Asks.{ask_in, deed_of, may_ask}
use Rattle.load_model.specs.Step.{ask_by, FitsPlace}
use Rattle.load_model.specs.Histories.{state_after, is_first_fault}
use Rattle.load_model.specs.Accepted.{retouched}
use Rattle.load_model.specs.TouchedPages.{touched_after}
use Rattle.load_model.specs.Views.{Holding, mapped_pages}
use Rattle.load_model.specs.ViewAnswers.{view_refusal}
use Rattle.load_model.proofs.Touched.{named_apart}
use Rattle.session_model.specs.Merging.{Item, entry, AsksFor, is_fault, is_command_of, fault_leads, uses_touched}
use Rattle.session_model.specs.MergeLaws.{entries_in, touched_in, StatesAreTheHistorys}
use Rattle.session_model.proofs.MergeStates.{entries_append}
use Rattle.load_core.specs.BoardState.{BoardState, state_of, with_entry, IsLegal}
use Rattle.process_view.specs.ProcessViews.{ProcessView, StandsAt, at_front}
use Rattle.check_model.specs.declared.kinds.CheckKind.TheVariants as kinds
use Rattle.check_model.specs.Checks.{Judge, state_at, MayAsk, EntryIsDone}
use Rattle.check_core.specs.PlaceStates.{history_state, EntriesByHistory, HasTouchedAt, ViewsAnswerAtPlaces}
use Rattle.check_core.specs.PlayedItems.{IsPlayed, CanPlay}
use Rattle.play_laws.specs.CommandAsks.{is_usable, names_its_residence, IsAskedBy, EntriesByRefusals}
use Rattle.play_laws.specs.MappedPages.{HasMapped, MappedIsTouched, MappedAfterEntry}
use Rattle.check_play.specs.declared.standing.Standing.{Standing}
use Rattle.standing_serials.specs.Standing.{AreSerialsOf}
use Rattle.check_play.specs.Standing.{IsStanding, StoodBefore, StandsShown, IsEntryDone, made_entry}
use Rattle.check_play.specs.AtPlaces.{IsBoardAt, IsViewAt}
use Rattle.check_play.specs.Playing.{StandsAlone}
use Rattle.check_play.specs.PlayedEntries.{IsPlayable}
use Rattle.check_play.specs.Untouched.{IsUntouched, IsSameState}
use Rattle.check_play.proofs.Fronts.{fronts_alike}
use Rattle.check_play.proofs.ViewsAtPlaces.{at_place}

-- ---- entries of commands

-- an entry of a command is no fault
pub no_fault : (lib : Library) (command : Command) (d : Deed) → AsksFor lib command (ask_in d) → is_fault d ≡ false
no_fault lib command (deeds.Enter how m fresh calls) asks = refl
no_fault lib command (deeds.Full how m of object size) asks = refl
no_fault lib command (deeds.Failed how m by fresh calls gone) asks = refl
no_fault lib command (deeds.Free m calls gone) asks = refl
no_fault lib command (deeds.Exit calls gone) asks = refl
no_fault lib command (deeds.Write serial m object offset bytes) asks = refl
no_fault lib command (deeds.Debug serial m object offset bytes) asks = refl
no_fault lib command (deeds.Shared serial m object offset bytes) asks = refl
no_fault lib (commands.Start name) (deeds.Fault serial m p) (k, is, ask) = cc
no_fault lib (commands.Load name) (deeds.Fault serial m p) (k, is, ask) = cc
no_fault lib (commands.Free name) (deeds.Fault serial m p) (k, is, ask) = cc
no_fault lib (commands.Shared at) (deeds.Fault serial m p) (k, other, is, ask) = cc
no_fault lib (commands.Write at bytes) (deeds.Fault serial m p) (k, other, is, ask) = cc
no_fault lib (commands.Debug at bytes) (deeds.Fault serial m p) (k, other, is, ask) = cc
no_fault lib commands.Exit (deeds.Fault serial m p) ask = cc
no_fault lib (commands.Touch at) (deeds.Fault serial m p) asks = absurd asks
no_fault lib (commands.Peek at) (deeds.Fault serial m p) asks = absurd asks
no_fault lib (commands.Query name key) (deeds.Fault serial m p) asks = absurd asks
no_fault lib (commands.GetRes name ty id) (deeds.Fault serial m p) asks = absurd asks

first_if : (h : List Entry) (d : Deed) → is_fault d ≡ false → is_first_fault h d ≡ true
first_if h (deeds.Fault serial m p) none = absurd (true≢false none)
first_if h (deeds.Enter how m fresh calls) none = refl
first_if h (deeds.Full how m of object size) none = refl
first_if h (deeds.Failed how m by fresh calls gone) none = refl
first_if h (deeds.Free m calls gone) none = refl
first_if h (deeds.Exit calls gone) none = refl
first_if h (deeds.Write serial m object offset bytes) none = refl
first_if h (deeds.Debug serial m object offset bytes) none = refl
first_if h (deeds.Shared serial m object offset bytes) none = refl

leads_if : (lib : Library) (e : Eager) (pid : ℕ) (d : Deed) (after : List Item) → is_fault d ≡ false → fault_leads lib e pid d after ≡ true
leads_if lib e pid (deeds.Fault serial m p) after none = absurd (true≢false none)
leads_if lib e pid (deeds.Enter how m fresh calls) after none = refl
leads_if lib e pid (deeds.Full how m of object size) after none = refl
leads_if lib e pid (deeds.Failed how m by fresh calls gone) after none = refl
leads_if lib e pid (deeds.Free m calls gone) after none = refl
leads_if lib e pid (deeds.Exit calls gone) after none = refl
leads_if lib e pid (deeds.Write serial m object offset bytes) after none = refl
leads_if lib e pid (deeds.Debug serial m object offset bytes) after none = refl
leads_if lib e pid (deeds.Shared serial m object offset bytes) after none = refl

-- ---- states that differ in touched pages alone

names_same : (lib : Library) (e : Eager) (touched : ℕ → List PageOf) (pid : ℕ) (d : Deed) → names_its_residence lib (retouched touched e) pid d ≡ names_its_residence lib e pid d
unfolding attached_residence residence_of reaches
names_same lib e touched pid (deeds.Write serial m object offset bytes) = refl
names_same lib e touched pid (deeds.Debug serial m object offset bytes) = refl
names_same lib e touched pid (deeds.Shared serial m object offset bytes) = refl
names_same lib e touched pid (deeds.Enter how m fresh calls) = refl
names_same lib e touched pid (deeds.Full how m of object size) = refl
names_same lib e touched pid (deeds.Failed how m by fresh calls gone) = refl
names_same lib e touched pid (deeds.Free m calls gone) = refl
names_same lib e touched pid (deeds.Exit calls gone) = refl
names_same lib e touched pid (deeds.Fault serial m p) = refl

ask_same : (lib : Library) (e : Eager) (touched : ℕ → List PageOf) (pid : ℕ) (c : Command) → ask_by lib (retouched touched e) pid c ≡ ask_by lib e pid c
ask_same lib e touched pid (commands.Start name) = refl
ask_same lib e touched pid (commands.Load name) = refl
ask_same lib e touched pid (commands.Free name) = refl
ask_same lib e touched pid (commands.Shared at) = rw named_apart
ask_same lib e touched pid (commands.Write at bytes) = rw named_apart
ask_same lib e touched pid (commands.Debug at bytes) = rw named_apart
ask_same lib e touched pid commands.Exit = refl
ask_same lib e touched pid (commands.Touch at) = refl
ask_same lib e touched pid (commands.Peek at) = refl
ask_same lib e touched pid (commands.Query name key) = refl
ask_same lib e touched pid (commands.GetRes name ty id) = refl

-- ---- the module of a residence that is named

abbrev pub module_in : Ask → Option ℕ
module_in (put serial m object offset bytes) = Some m
module_in (patch serial m object offset bytes) = Some m
module_in (get serial m object offset len) = Some m
module_in ask = None

number_within : (lib : Library) (name : List ℕ) (m : ℕ) → number_of lib name ≡ Some m → m < length lib
unfolding number_of
number_within lib name m is = (position-Some (has_name name) lib m no_module is).0

-- the library has it
pub module_within : (lib : Library) (command : Command) (ask : Ask) (m : ℕ) → AsksFor lib command ask → module_in ask ≡ Some m → m < length lib
module_within lib (commands.Start name) ask m (k, is, it) named = let no : module_in ask ≡ None = ap module_in it in cc
module_within lib (commands.Load name) ask m (k, is, it) named = let no : module_in ask ≡ None = ap module_in it in cc
module_within lib (commands.Free name) ask m (k, is, it) named = let no : module_in ask ≡ None = ap module_in it in cc
module_within lib (commands.Shared at) ask m (k, serial, is, it) named =
    let so : module_in ask ≡ Some k = ap module_in it in let same : k ≡ m = cc in number_within lib at.«module» m (is ∙ ap Some same)
module_within lib (commands.Write at bytes) ask m (k, serial, is, it) named =
    let so : module_in ask ≡ Some k = ap module_in it in let same : k ≡ m = cc in number_within lib at.«module» m (is ∙ ap Some same)
module_within lib (commands.Debug at bytes) ask m (k, serial, is, it) named =
    let so : module_in ask ≡ Some k = ap module_in it in let same : k ≡ m = cc in number_within lib at.«module» m (is ∙ ap Some same)
module_within lib commands.Exit ask m it named = let no : module_in ask ≡ None = ap module_in it in cc
module_within lib (commands.Touch at) ask m it named = absurd it
module_within lib (commands.Peek at) ask m it named = absurd it
module_within lib (commands.Query name key) ask m it named = absurd it
module_within lib (commands.GetRes name ty id) ask m it named = absurd it

-- ---- the view at the place of an entry

own_command : (x : Entry) → is_fault x.deed ≡ false → is_command_of x.pid (entry x) ≡ true
own_command x none = ap (λ b. b && not (is_fault x.deed)) (eq-eqb x.pid x.pid refl) ∙ ap not none

touched_at : MappedIsTouched → (j : Judge) (before after : List Item) (x : Entry) (pages : List PageOf) → is_fault x.deed ≡ false → HasMapped j before (entry x ∷ after) x.pid pages →
    HasTouchedAt j before x.pid pages
touched_at law j before after x pages none mapped = law j before after (entry x) x.pid pages (own_command x none) refl mapped

-- it refuses what the loader does
refusal_at : ViewsAnswerAtPlaces → MappedIsTouched → (j : Judge) (before after : List Item) (b : BoardState) (v : ProcessView) (x : Entry) (command : Command) → is_fault x.deed ≡ false →
    IsBoardAt j before b → IsViewAt j before (entry x ∷ after) b v x.pid → refusal_of j.lib (state_at j before) x.pid command ≡ view_refusal v.library v.holding command
refusal_at laws law j before after b v x command none board view =
    let h : Holding = record v.holding { front = length (entries_in before) } in
    let lib : v.library ≡ j.lib = view.stands.library ∙ ap (λ (y : BoardState). y.library) board.is in
    ap (λ (n : ℕ). refusal_of j.lib (state_at j before) n command) (sym view.number)
    ∙ laws.refusals j before h command (at_place law j before after b v (entry x) x.pid (own_command x none) refl board view)
    ∙ fronts_alike j.lib v.holding (length (entries_in before)) command
    ∙ ap (λ (l : Library). view_refusal l v.holding command) (sym lib)

-- ---- what may be asked at a place, and what is done then

-- The entry may be asked exactly where the view refuses the command for an untouched page alone, and the residence is the one that
-- the process reaches. Then it uses touched pages alone exactly where the view does not refuse it, and asks what the command asks.
pub record IsJudgedBy (j : Judge) (before : List Item) (b : BoardState) (v : ProcessView) (x : Entry) (command : Command) : Type 0 where
  pub may : may_ask j.lib (state_at j before) x.pid (ask_in x.deed) ≡ is_usable (view_refusal v.library v.holding command) && names_its_residence b.library (state_of b) v.holding.pid x.deed
  pub touched : may_ask j.lib (state_at j before) x.pid (ask_in x.deed) ≡ true → uses_touched (state_at j before) x.pid x.deed ≡ is_none (view_refusal v.library v.holding command)
  pub asked : may_ask j.lib (state_at j before) x.pid (ask_in x.deed) ≡ true → ask_by j.lib (history_state j before) x.pid command ≡ Some (ask_in x.deed)

pub state_is : (j : Judge) (before : List Item) (b : BoardState) → b ≡ record { library = j.lib; failing = j.failing; history = entries_in before; keeper = b.keeper } → state_of b ≡ history_state j before
state_is j before b is = ap state_of is

pub judged_by : EntriesByRefusals → StatesAreTheHistorys → ViewsAnswerAtPlaces → MappedIsTouched → (j : Judge) (before after : List Item) (b : BoardState) (v : ProcessView) (x : Entry) (command : Command) →
    AsksFor b.library command (ask_in x.deed) → FitsPlace command → IsBoardAt j before b → IsViewAt j before (entry x ∷ after) b v x.pid → IsJudgedBy j before b v x command
judged_by asks states laws law j before after b v x command for fits board view =
    let lib : b.library ≡ j.lib = ap (λ (y : BoardState). y.library) board.is in
    let e : Eager = state_at j before in
    let f : Eager = history_state j before in
    let touched : ℕ → List PageOf = touched_in e in
    let is : e ≡ retouched touched f = states j.lib j.failing before in
    let by : IsAskedBy j.lib e x.pid command x.deed = asks j.lib e x.pid command x.deed fits (subst (λ (l : Library). AsksFor l command (ask_in x.deed)) lib for) in
    let refusal : refusal_of j.lib e x.pid command ≡ view_refusal v.library v.holding command =
    refusal_at laws law j before after b v x command (no_fault b.library command x.deed for) board view in
    let named : names_its_residence j.lib e x.pid x.deed ≡ names_its_residence b.library (state_of b) v.holding.pid x.deed =
    ap (λ (s : Eager). names_its_residence j.lib s x.pid x.deed) is
    ∙ names_same j.lib f touched x.pid x.deed
    ∙ ap (λ (y : BoardState). names_its_residence y.library (state_of y) x.pid x.deed) (sym board.is)
    ∙ ap (λ (n : ℕ). names_its_residence b.library (state_of b) n x.deed) (sym view.number) in record {
      may = by.may ∙ ap (λ r. is_usable r && names_its_residence j.lib e x.pid x.deed) refusal
          ∙ ap (λ c. is_usable (view_refusal v.library v.holding command) && c) named;
      touched = λ may. by.touched may ∙ ap is_none refusal;
      asked = λ may. sym (ask_same j.lib f touched x.pid command) ∙ (ap (λ (s : Eager). ask_by j.lib s x.pid command) (sym is) ∙ by.asked may);
    }

-- What is made of the command on a board in the state of the place is the entry exactly where that is what is done there.
pub made_right : EntriesByHistory → (j : Judge) (before : List Item) (x : Entry) (command : Command) (b c : BoardState) (v w : ProcessView) (done : IsEntryDone b c v w command) → b.library ≡ j.lib →
    j.contents ≡ fixed_bytes j.lib → state_of b ≡ history_state j before → v.holding.pid ≡ x.pid → ask_by j.lib (history_state j before) x.pid command ≡ Some (ask_in x.deed) →
    (made_entry b v done ≡ x) ↔ (x.deed ≡ deed_of j.lib j.contents (state_at j before) x.pid (ask_in x.deed))
made_right law j before x command b c v w done lib contents state pid asked =
    let f : Eager = history_state j before in
    let touched : ℕ → List PageOf = λ (q : ℕ). mapped_pages v.holding in
    let ask : Ask = done.did.ask in
    let own : ask_by b.library (state_of b) v.holding.pid command ≡ Some ask = sym (ask_same b.library (state_of b) touched v.holding.pid command) ∙ done.did.asked in
    let moved : ask_by j.lib f x.pid command ≡ Some ask =
    sym (ap (λ (l : Library). ask_by l (state_of b) v.holding.pid command) lib
    ∙ (ap (λ (s : Eager). ask_by j.lib s v.holding.pid command) state ∙ ap (λ (n : ℕ). ask_by j.lib f n command) pid)) ∙ own in
    let same : ask ≡ ask_in x.deed = cc in
    let deed : deed_of b.library (fixed_bytes b.library) (state_of b) v.holding.pid ask ≡ deed_of j.lib j.contents (state_at j before) x.pid (ask_in x.deed) =
    ap (λ (l : Library). deed_of l (fixed_bytes l) (state_of b) v.holding.pid ask) lib
    ∙ (ap (λ (h : Held). deed_of j.lib h (state_of b) v.holding.pid ask) (sym contents)
    ∙ (ap (λ (s : Eager). deed_of j.lib j.contents s v.holding.pid ask) state
    ∙ (ap (λ (n : ℕ). deed_of j.lib j.contents f n ask) pid
    ∙ (ap (deed_of j.lib j.contents f x.pid) same ∙ sym (law.done j before x.pid (ask_in x.deed)))))) in (
      λ is. ap (λ (y : Entry). y.deed) (sym is) ∙ deed,
      λ is. ap (λ (d : Deed). record { pid = v.holding.pid; deed = d }) (deed ∙ sym is) ∙ ap (λ (n : ℕ). record { pid = n; deed = x.deed }) pid,
    )

-- ---- what is told

pub may_be_asked : (j : Judge) (before : List Item) (x : Entry) (command : Command) → CanPlay j before (entry x) (Some command) → is_among pids x.pid ≡ true →
    may_ask j.lib (state_at j before) x.pid (ask_in x.deed) ≡ true → MayAsk j (state_at j before) x
may_be_asked j before x command can process may = record { least = can.least; most = can.most; process = process; may = may }

pub refused : (j : Judge) (before after : List Item) (x : Entry) → may_ask j.lib (state_at j before) x.pid (ask_in x.deed) ≡ false → IsPlayed j before (entry x) after (Some kinds.Refused)
refused j before after x not = inl (refl, λ asked. true≢false (sym asked.may ∙ not))

pub entry_wrong : (j : Judge) (before after : List Item) (x : Entry) → MayAsk j (state_at j before) x → (EntryIsDone j before (entry x) → ⊥) → IsPlayed j before (entry x) after (Some kinds.Entry)
entry_wrong j before after x asked not = inr (asked, inl (refl, not))

pub touch_wrong : (j : Judge) (before after : List Item) (x : Entry) → MayAsk j (state_at j before) x → EntryIsDone j before (entry x) → is_fault x.deed ≡ false →
    uses_touched (state_at j before) x.pid x.deed ≡ false → IsPlayed j before (entry x) after (Some kinds.Touch)
touch_wrong j before after x asked done none uses =
    inr (asked, inr (done, inr ((first_if (entries_in before) x.deed none, leads_if j.lib (state_at j before) x.pid x.deed after none), inl (refl, λ right. true≢false (sym right.0 ∙ uses)))))

pub all_right : (j : Judge) (before after : List Item) (x : Entry) → MayAsk j (state_at j before) x → EntryIsDone j before (entry x) → is_fault x.deed ≡ false →
    uses_touched (state_at j before) x.pid x.deed ≡ true → IsPlayed j before (entry x) after None
all_right j before after x asked done none uses =
    (asked, (done, ((first_if (entries_in before) x.deed none, leads_if j.lib (state_at j before) x.pid x.deed after none), ((uses, tt), (tt, tt)))))

-- ---- the next place

-- what is kept beside a board that has one entry more
pub stood_before : (s : Standing) (c : BoardState) (x : Entry) → c ≡ with_entry s.board x → IsStanding s → StoodBefore (record { board = c; serials = s.serials; faulted = s.faulted }) s.board.history
stood_before s c x is kept = record {
  serials = subst (λ (b : BoardState). AreSerialsOf b.library (state_after b.library b.failing s.board.history) s.serials) (sym is) kept.serials;
  faulted = kept.faulted;
}

-- a view that stands for a board was shown all of it
pub shown_all : (c : BoardState) (w : ProcessView) → StandsAt c w → StandsShown c w
shown_all c w stands = subst (StandsAt c) (ap (λ (n : ℕ). at_front n w) stands.stands.front) stands

board_next : (j : Judge) (before : List Item) (x : Entry) (b c : BoardState) → IsBoardAt j before b → c ≡ with_entry b x → IsLegal c → IsBoardAt j (before ++ entry x ∷ []) c
board_next j before x b c board adds legal = record {
  is =
      adds ∙ ap (λ (y : BoardState). with_entry y x) board.is
      ∙ ap (λ (h : List Entry). record { library = j.lib; failing = j.failing; history = h; keeper = b.keeper }) (sym (entries_append before (entry x ∷ [])))
      ∙ ap (λ (n : ℕ). record { library = j.lib; failing = j.failing; history = entries_in (before ++ entry x ∷ []); keeper = n }) (sym (ap (λ (y : BoardState). y.keeper) adds));
  contents = board.contents;
  legal = legal;
}

view_next : MappedIsTouched → MappedAfterEntry → (j : Judge) (before after : List Item) (x : Entry) (command : Command) (b c : BoardState) (v w : ProcessView) → IsBoardAt j before b →
    IsViewAt j before (entry x ∷ after) b v x.pid → is_fault x.deed ≡ false → (done : IsEntryDone b c v w command) → made_entry b v done ≡ x → IsViewAt j (before ++ entry x ∷ []) after c w x.pid
view_next law goes j before after x command b c v w board view none done made =
    let pages : List PageOf = mapped_pages v.holding in
    let kept : mapped_pages w.holding ≡ touched_after j.lib (history_state j before) x.pid x.deed (λ q. pages) x.pid =
    done.did.mapped
    ∙ (ap (λ (y : Entry). touched_after b.library (state_of b) y.pid y.deed (λ q. pages) y.pid) made
    ∙ ap (λ (y : BoardState). touched_after y.library (state_of y) x.pid x.deed (λ q. pages) x.pid) board.is) in record {
      number = done.did.pid ∙ view.number;
      stands = shown_all c w done.did.stands;
      mapped = subst (HasMapped j (before ++ entry x ∷ []) after x.pid) (sym kept) (goes j before after x pages (touched_at law j before after x pages none view.mapped));
    }

-- all stand at the next place, once the entry is made
pub next_stands : MappedIsTouched → MappedAfterEntry → (j : Judge) (before after : List Item) (x : Entry) (command : Command) (s t : Standing) (c : BoardState) (v w : ProcessView) →
    StandsAlone j before (entry x ∷ after) s v x.pid → is_fault x.deed ≡ false → (done : IsEntryDone s.board c v w command) → made_entry s.board v done ≡ x → IsLegal c → t.board ≡ c → IsStanding t →
    StandsAlone j (before ++ entry x ∷ []) after t w x.pid
next_stands law goes j before after x command s t c v w stands none done made legal here kept =
    let adds : c ≡ with_entry s.board x = done.did.adds ∙ ap (with_entry s.board) made in record {
      board = subst (IsBoardAt j (before ++ entry x ∷ [])) (sym here) (board_next j before x s.board c stands.board adds legal);
      kept = kept;
      view = subst (λ (b : BoardState). IsViewAt j (before ++ entry x ∷ []) after b w x.pid) (sym here) (view_next law goes j before after x command s.board c v w stands.board stands.view none done made);
    }

-- ---- an entry that the view does not refuse

-- what the entry comes to where the command is done on the board of the place
pub touched_entry : (j : Judge) (before : List Item) (x : Entry) (command : Command) (b : BoardState) (v : ProcessView) → IsJudgedBy j before b v x command → view_refusal v.library v.holding command ≡ None →
    names_its_residence b.library (state_of b) v.holding.pid x.deed ≡ true → (may_ask j.lib (state_at j before) x.pid (ask_in x.deed) ≡ true) × (uses_touched (state_at j before) x.pid x.deed ≡ true)
touched_entry j before x command b v by fine named =
    let may : may_ask j.lib (state_at j before) x.pid (ask_in x.deed) ≡ true =
    by.may ∙ (ap (λ r. is_usable r && names_its_residence b.library (state_of b) v.holding.pid x.deed) fine ∙ named) in (may, by.touched may ∙ ap is_none fine)

module _ (asks : EntriesByRefusals) (states : StatesAreTheHistorys) (views : ViewsAnswerAtPlaces) (mapped : MappedIsTouched) (history : EntriesByHistory) (j : Judge) (before after : List Item) (b c : BoardState)
    (v w : ProcessView) (x : Entry) (command : Command) (playable : IsPlayable b v x command) (fine : view_refusal v.library v.holding command ≡ None) (process : is_among pids v.holding.pid ≡ true)
    (can : CanPlay j before (entry x) (Some command)) (board : IsBoardAt j before b) (view : IsViewAt j before (entry x ∷ after) b v x.pid) (done : IsEntryDone b c v w command) where
  facts : IsJudgedBy j before b v x command
  facts = judged_by asks states views mapped j before after b v x command playable.asks playable.fits board view

  both : (may_ask j.lib (state_at j before) x.pid (ask_in x.deed) ≡ true) × (uses_touched (state_at j before) x.pid x.deed ≡ true)
  both = touched_entry j before x command b v facts fine playable.reached

  asked : MayAsk j (state_at j before) x
  asked = may_be_asked j before x command can (ap (is_among pids) (sym view.number) ∙ process) both.0

  right : (made_entry b v done ≡ x) ↔ EntryIsDone j before (entry x)
  right =
      made_right history j before x command b c v w done (ap (λ (y : BoardState). y.library) board.is) board.contents (state_is j before b board.is) view.number (facts.asked both.0)

  pub played_wrongly : (made_entry b v done ≡ x → ⊥) → IsPlayed j before (entry x) after (Some kinds.Entry)
  played_wrongly other = entry_wrong j before after x asked (λ is. other (right.1 is))

  pub played_rightly : made_entry b v done ≡ x → IsPlayed j before (entry x) after None
  played_rightly made = all_right j before after x asked (right.0 made) (no_fault b.library command x.deed playable.asks) both.1

-- ---- an entry that the view refuses for an untouched page

untouched_asked : (j : Judge) (before : List Item) (x : Entry) (command : Command) (b : BoardState) (v : ProcessView) → IsJudgedBy j before b v x command → IsUntouched v command →
    names_its_residence b.library (state_of b) v.holding.pid x.deed ≡ true → (may_ask j.lib (state_at j before) x.pid (ask_in x.deed) ≡ true) × (uses_touched (state_at j before) x.pid x.deed ≡ false)
untouched_asked j before x command b v by (n, is) named =
    let may : may_ask j.lib (state_at j before) x.pid (ask_in x.deed) ≡ true =
    by.may ∙ (ap (λ r. is_usable r && names_its_residence b.library (state_of b) v.holding.pid x.deed) is ∙ named) in (may, by.touched may ∙ ap is_none is)

-- a write is done as it is told, and no entry but a write and a read of shared bytes uses touched pages
done_anyway : (lib : Library) (contents : Held) (e : Eager) (pid : ℕ) (command : Command) (d : Deed) → uses_touched e pid d ≡ false → AsksFor lib command (ask_in d) → ((at : Place) → command ≡ commands.Shared at → ⊥) →
    d ≡ deed_of lib contents e pid (ask_in d)
unfolding deed_of
done_anyway lib contents e pid command (deeds.Enter how m fresh calls) uses asks other = absurd (true≢false uses)
done_anyway lib contents e pid command (deeds.Full how m of object size) uses asks other = absurd (true≢false uses)
done_anyway lib contents e pid command (deeds.Failed how m by fresh calls gone) uses asks other = absurd (true≢false uses)
done_anyway lib contents e pid command (deeds.Free m calls gone) uses asks other = absurd (true≢false uses)
done_anyway lib contents e pid command (deeds.Exit calls gone) uses asks other = absurd (true≢false uses)
done_anyway lib contents e pid command (deeds.Fault serial m p) uses asks other = absurd (true≢false uses)
done_anyway lib contents e pid command (deeds.Write serial m object offset bytes) uses asks other = refl
done_anyway lib contents e pid command (deeds.Debug serial m object offset bytes) uses asks other = refl
done_anyway lib contents e pid (commands.Shared at) (deeds.Shared serial m object offset bytes) uses asks other = absurd (other at refl)
done_anyway lib contents e pid (commands.Start name) (deeds.Shared serial m object offset bytes) uses (k, is, ask) other = cc
done_anyway lib contents e pid (commands.Load name) (deeds.Shared serial m object offset bytes) uses (k, is, ask) other = cc
done_anyway lib contents e pid (commands.Free name) (deeds.Shared serial m object offset bytes) uses (k, is, ask) other = cc
done_anyway lib contents e pid (commands.Write at put_bytes) (deeds.Shared serial m object offset bytes) uses (k, own, is, ask) other = cc
done_anyway lib contents e pid (commands.Debug at put_bytes) (deeds.Shared serial m object offset bytes) uses (k, own, is, ask) other = cc
done_anyway lib contents e pid commands.Exit (deeds.Shared serial m object offset bytes) uses ask other = cc
done_anyway lib contents e pid (commands.Touch at) (deeds.Shared serial m object offset bytes) uses asks other = absurd asks
done_anyway lib contents e pid (commands.Peek at) (deeds.Shared serial m object offset bytes) uses asks other = absurd asks
done_anyway lib contents e pid (commands.Query name key) (deeds.Shared serial m object offset bytes) uses asks other = absurd asks
done_anyway lib contents e pid (commands.GetRes name ty id) (deeds.Shared serial m object offset bytes) uses asks other = absurd asks

module _ (asks : EntriesByRefusals) (states : StatesAreTheHistorys) (views : ViewsAnswerAtPlaces) (mapped : MappedIsTouched) (history : EntriesByHistory) (j : Judge) (before after : List Item) (b : BoardState) (v : ProcessView)
    (x : Entry) (command : Command) (playable : IsPlayable b v x command) (untouched : IsUntouched v command) (process : is_among pids v.holding.pid ≡ true) (can : CanPlay j before (entry x) (Some command))
    (board : IsBoardAt j before b) (view : IsViewAt j before (entry x ∷ after) b v x.pid) where
  by_view : IsJudgedBy j before b v x command
  by_view = judged_by asks states views mapped j before after b v x command playable.asks playable.fits board view

  may_but : (may_ask j.lib (state_at j before) x.pid (ask_in x.deed) ≡ true) × (uses_touched (state_at j before) x.pid x.deed ≡ false)
  may_but = untouched_asked j before x command b v by_view untouched playable.reached

  is_asked : MayAsk j (state_at j before) x
  is_asked = may_be_asked j before x command can (ap (is_among pids) (sym view.number) ∙ process) may_but.0

  none_faulted : is_fault x.deed ≡ false
  none_faulted = no_fault b.library command x.deed playable.asks

  pub untouched_other : ((at : Place) → command ≡ commands.Shared at → ⊥) → IsPlayed j before (entry x) after (Some kinds.Touch)
  untouched_other other =
      let lib : b.library ≡ j.lib = ap (λ (y : BoardState). y.library) board.is in
      touch_wrong j before after x is_asked
      (done_anyway j.lib j.contents (state_at j before) x.pid command x.deed may_but.1 (subst (λ (l : Library). AsksFor l command (ask_in x.deed)) lib playable.asks) other) none_faulted may_but.1

  -- once it is read on a board in the same state
  module _ (c d : BoardState) (w z : ProcessView) (same : IsSameState b c v w) (done : IsEntryDone c d w z command) where
    is_right : (made_entry c w done ≡ x) ↔ EntryIsDone j before (entry x)
    is_right =
        made_right history j before x command c d w z done (same.board ∙ ap (λ (y : BoardState). y.library) board.is) board.contents (same.state ∙ state_is j before b board.is)
        (ap (λ (h : Holding). h.pid) same.holding ∙ view.number) (by_view.asked may_but.0)

    pub read_rightly : made_entry c w done ≡ x → IsPlayed j before (entry x) after (Some kinds.Touch)
    read_rightly made = touch_wrong j before after x is_asked (is_right.0 made) none_faulted may_but.1

    pub read_wrongly : (made_entry c w done ≡ x → ⊥) → IsPlayed j before (entry x) after (Some kinds.Entry)
    read_wrongly not = entry_wrong j before after x is_asked (λ is. not (is_right.1 is))

-- ---- an entry that may not be asked

pub refused_by : EntriesByRefusals → StatesAreTheHistorys → ViewsAnswerAtPlaces → MappedIsTouched → (j : Judge) (before after : List Item) (b : BoardState) (v : ProcessView) (x : Entry) (command : Command) →
    AsksFor b.library command (ask_in x.deed) → FitsPlace command → IsBoardAt j before b → IsViewAt j before (entry x ∷ after) b v x.pid →
    (is_usable (view_refusal v.library v.holding command) && names_its_residence b.library (state_of b) v.holding.pid x.deed) ≡ false → IsPlayed j before (entry x) after (Some kinds.Refused)
refused_by asks states views mapped j before after b v x command for fits board view not =
    refused j before after x ((judged_by asks states views mapped j before after b v x command for fits board view).may ∙ not)
