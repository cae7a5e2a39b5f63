-- What is judged by some bytes that objects hold is judged so by others that agree with them after every legal history.
use Rattle.std.proofs.Common.{inl, inr, ℕ, ◌+◌, Some, None, List, [], ◌∷◌, ◌++◌, length, map, filter, flat_map, IsTrue, sym, ◌∙◌, subst, append_assoc, append-nil}
use Rattle.std.specs.Prelude.{nat_lt}
use Rattle.std.specs.List.{AllByRecursion}
use Rattle.load_model.specs.declared.deeds.Entry.{Entry}
use Rattle.load_model.specs.Modules.{Library, Held, fixed_bytes}
use Rattle.load_model.specs.State.{PageOf, Failing, Eager, reaches, is_reached, residence_of}
use Rattle.load_model.specs.Memory.{bases_seen}
use Rattle.load_model.specs.Asks.{ask_in}
use Rattle.load_model.specs.Histories.{state_after, Follows, Legal}
use Rattle.load_model.specs.Accepted.{retouched}
use Rattle.load_model.specs.Laws.{AgreeAt, OneMoreIsLegal, NothingIsLegal}
use Rattle.load_model.proofs.Holding.{deed_by, held_answers_alike}
use Rattle.session_model.specs.declared.sessions.Script.{Script}
use Rattle.session_model.specs.declared.sessions.ScriptLines.{ScriptLines}
use Rattle.session_model.specs.Merging.{Item, entry, line, state_after_items}
use Rattle.session_model.specs.MergeLaws.{entries_in, touched_in}
use Rattle.session_model.proofs.MergeStates.{entries_append, states_are_the_historys}
use Rattle.run_model.specs.Sources.{library_of, held}
use Rattle.run_laws.specs.Bridge.{HeldAsLinked}
use Rattle.check_model.specs.declared.kinds.CheckKind.{CheckKind}
use Rattle.check_model.specs.declared.kinds.CheckKind.TheVariants as kinds
use Rattle.check_model.specs.Told.{Told, IsTold}
use Rattle.check_model.specs.Places.{NumberedLine, Numbered, heading, at_item, beyond, summary, Place, first_number, later, headings, item_places, beyond_place, lines_beyond, numbered_merge, numbered_scripts, first_script, last_line, places}
use Rattle.check_model.specs.Checks.{Judge, IsRight, in_order, WrongFirst, IsFine, FirstWrongIn, IsAccepted, IsRefused, EntryIsAsked, EntryIsDone, TouchIsRight, ReplyIsRight}
use Rattle.check_model.proofs.Following.{may_alike, done_alike}
use Rattle.check_model.proofs.NumberedItems.{items_in}
use Rattle.check_laws.specs.ChecksByLinks.{ChecksByLinks}
use Rattle.check_laws.proofs.Processes.{OfPid, told_pids}

-- ---- kinds in their order: each is right by both where those before it are

abbrev Alike : (P Q : CheckKind → Type 0) → List CheckKind → Type 0
Alike P Q [] = Unit {0}
Alike P Q (k ∷ ks) = (P k → Q k) × (Q k → P k) × (P k → Alike P Q ks)

same_kinds : (P : CheckKind → Type 0) (ks : List CheckKind) → Alike P P ks
same_kinds P [] = tt
same_kinds P (k ∷ ks) = (λ p. p, λ p. p, λ _. same_kinds P ks)

wrong_by : (P Q : CheckKind → Type 0) (ks : List CheckKind) (kind : CheckKind) → Alike P Q ks → WrongFirst P ks kind → WrongFirst Q ks kind
wrong_by P Q [] kind alike wrong = wrong
wrong_by P Q (k ∷ ks) kind alike (inl here) = inl (here.0, λ q. here.1 (alike.1 q))
wrong_by P Q (k ∷ ks) kind alike (inr more) = inr (alike.0 more.0, wrong_by P Q ks kind (alike.2 more.0) more.1)

all_by : (P Q : CheckKind → Type 0) (ks : List CheckKind) → Alike P Q ks → AllByRecursion P ks → AllByRecursion Q ks
all_by P Q [] alike all = all
all_by P Q (k ∷ ks) alike all = (alike.0 all.0, all_by P Q ks (alike.2 all.0) all.1)

-- ---- states of items

agree_touched : (lib : Library) (a b : Held) (e : Eager) (touched : ℕ → List PageOf) → AgreeAt lib a b e → AgreeAt lib a b (retouched touched e)
unfolding is_reached reaches bases_seen residence_of
agree_touched lib a b e touched agree m object x reached there below = agree m object x reached there below

agree_later : (lib : Library) (failing : Failing) (a b : Held) (items : List Item) → AgreeAt lib a b (state_after lib failing (entries_in items)) → AgreeAt lib a b (state_after_items lib failing items)
agree_later lib failing a b items agree =
    subst (λ e. AgreeAt lib a b e) (sym (states_are_the_historys lib failing items)) (agree_touched lib a b (state_after lib failing (entries_in items)) (touched_in (state_after_items lib failing items)) agree)

-- ---- two judges

module _ (lib : Library) (failing : Failing) (scripts : List Script) (a b : Held) where
  abbrev judge_with : Held → Judge
  judge_with contents = record { lib = lib; failing = failing; contents = contents; scripts = scripts }

  asked_by : (c d : Held) (before : List Item) (item : Item) → EntryIsAsked (judge_with c) before item → EntryIsAsked (judge_with d) before item
  asked_by c d before (entry x) asked = record { least = asked.least; most = asked.most; process = asked.process; may = asked.may }
  asked_by c d before (line pid l) asked = asked

  touched_by : (c d : Held) (before : List Item) (item : Item) (after : List Item) → TouchIsRight (judge_with c) before item after → TouchIsRight (judge_with d) before item after
  touched_by c d before (entry x) after right = right
  touched_by c d before (line pid l) after right = right

  done_by : (before : List Item) (item : Item) → AgreeAt lib a b (state_after_items lib failing before) → EntryIsAsked (judge_with a) before item →
      EntryIsDone (judge_with a) before item → EntryIsDone (judge_with b) before item
  done_by before (entry x) agree asked done = done ∙ deed_by lib a b (state_after_items lib failing before) x.pid (ask_in x.deed) asked.process agree asked.may
  done_by before (line pid l) agree asked done = done

  done_back : (before : List Item) (item : Item) → AgreeAt lib a b (state_after_items lib failing before) → EntryIsAsked (judge_with a) before item →
      EntryIsDone (judge_with b) before item → EntryIsDone (judge_with a) before item
  done_back before (entry x) agree asked done = done ∙ sym (deed_by lib a b (state_after_items lib failing before) x.pid (ask_in x.deed) asked.process agree asked.may)
  done_back before (line pid l) agree asked done = done

  replied_by : (before : List Item) (item : Item) (after : List Item) → OfPid item → AgreeAt lib a b (state_after_items lib failing before) →
      ReplyIsRight (judge_with a) before item after → ReplyIsRight (judge_with b) before item after
  replied_by before (entry x) after pid agree right = right
  replied_by before (line p l) after pid agree right = sym (held_answers_alike lib a b (state_after_items lib failing before) p l.command pid agree) ∙ right

  replied_back : (before : List Item) (item : Item) (after : List Item) → OfPid item → AgreeAt lib a b (state_after_items lib failing before) →
      ReplyIsRight (judge_with b) before item after → ReplyIsRight (judge_with a) before item after
  replied_back before (entry x) after pid agree right = right
  replied_back before (line p l) after pid agree right = held_answers_alike lib a b (state_after_items lib failing before) p l.command pid agree ∙ right

  module _ (t : Told) where
    alike_at : (low : ℕ) (before : List Item) (item : Item) (after : List Item) → OfPid item → AgreeAt lib a b (state_after_items lib failing before) →
        Alike (IsRight (judge_with a) t (at_item low before item after)) (IsRight (judge_with b) t (at_item low before item after)) in_order
    alike_at low before item after pid agree =
        let P : CheckKind → Type 0 = IsRight (judge_with a) t (at_item low before item after) in
        let Q : CheckKind → Type 0 = IsRight (judge_with b) t (at_item low before item after) in
        let from_touch : Alike P Q (kinds.Touch ∷ kinds.Reply ∷ kinds.Count ∷ []) = (
          touched_by a b before item after,
          touched_by b a before item after,
          λ _. (
            replied_by before item after pid agree,
            replied_back before item after pid agree,
            λ _. (λ p. p, λ p. p, λ _. tt),
          ),
        ) in (
          λ p. p,
          λ p. p,
          λ _. (
            λ p. p,
            λ p. p,
            λ _. (
              λ p. p,
              λ p. p,
              λ _. (
                asked_by a b before item,
                asked_by b a before item,
                λ asked. (
                  done_by before item agree asked,
                  done_back before item agree asked,
                  λ _. (λ p. p, λ p. p, λ _. from_touch),
                ),
              ),
            ),
          ),
        )

    -- Of these places nothing is wrong by one judge where nothing is by the other, and the same is wrong first.
    record Carry (ps : List Place) : Type 0 where
      fine : AllByRecursion (IsFine (judge_with a) t) ps → AllByRecursion (IsFine (judge_with b) t) ps
      wrong : (number : ℕ) (kind : CheckKind) → FirstWrongIn (judge_with a) t ps number kind → FirstWrongIn (judge_with b) t ps number kind

    carry_more : (p : Place) (ps : List Place) → Alike (IsRight (judge_with a) t p.what) (IsRight (judge_with b) t p.what) in_order →
        (IsFine (judge_with a) t p → Carry ps) → Carry (p ∷ ps)
    carry_more p ps alike rest = record {
      fine = λ all. (all_by (IsRight (judge_with a) t p.what) (IsRight (judge_with b) t p.what) in_order alike all.0, (rest all.0).fine all.1);
      wrong = λ number kind is. elim is [
        | inl here ↦ inl (record {
          number_is = here.number_is;
          kind_is = wrong_by (IsRight (judge_with a) t p.what) (IsRight (judge_with b) t p.what) in_order kind alike here.kind_is;
        })
        | inr more ↦ inr (all_by (IsRight (judge_with a) t p.what) (IsRight (judge_with b) t p.what) in_order alike more.0, (rest more.0).wrong number kind more.1)
      ];
    }

    carry_headings : (n : ℕ) (s : List ScriptLines) (own : List Script) (qs : List Place) → Carry qs → Carry (headings n s own ++ qs)
    carry_headings n [] own qs rest = carry_more _ qs (same_kinds (IsRight (judge_with a) t (heading None (first_number own))) in_order) (λ _. rest)
    carry_headings n (x ∷ s) own qs rest =
        carry_more _ (headings (n + 1 + length x.lines) s (later own) ++ qs) (same_kinds (IsRight (judge_with a) t (heading (Some x.pid) (first_number own))) in_order)
        (λ _. carry_headings (n + 1 + length x.lines) s (later own) qs rest)

    carry_lines : (ls : List NumberedLine) (qs : List Place) → Carry qs → Carry (map beyond_place ls ++ qs)
    carry_lines [] qs rest = rest
    carry_lines (l ∷ ls) qs rest = carry_more _ (map beyond_place ls ++ qs) (same_kinds (IsRight (judge_with a) t (beyond l.line)) in_order) (λ _. carry_lines ls qs rest)

    carry_beyond : (most : ℕ) (s : List (ℕ × List NumberedLine)) (qs : List Place) → Carry qs → Carry (flat_map (lines_beyond most) s ++ qs)
    carry_beyond most [] qs rest = rest
    carry_beyond most (x ∷ s) qs rest =
        subst Carry (sym (append_assoc (lines_beyond most x) (flat_map (lines_beyond most) s) qs))
        (carry_lines (filter (λ l. nat_lt most l.line.front) x.1) (flat_map (lines_beyond most) s ++ qs) (carry_beyond most s qs rest))

    module _ (grows : OneMoreIsLegal) (agree : (h : List Entry) → Legal lib failing a h → AgreeAt lib a b (state_after lib failing h)) where
      -- One item of which nothing is wrong makes a legal history longer, or leaves it as it is.
      legal_after : (low : ℕ) (before : List Item) (item : Item) (after : List Item) → AllByRecursion (IsRight (judge_with a) t (at_item low before item after)) in_order →
          Legal lib failing a (entries_in before) → Legal lib failing a (entries_in (before ++ item ∷ []))
      legal_after low before (entry x) after f legal =
          let asked = f.1.1.1.0 in
          let follows : Follows lib failing a (entries_in before) x =
          record {
            process = asked.process;
            may = subst (λ q. IsTrue q) (may_alike lib failing a before x.pid (ask_in x.deed)) asked.may;
            done = f.1.1.1.1.0 ∙ done_alike lib failing a before x.pid (ask_in x.deed);
            first = f.1.1.1.1.1.0.0;
          } in
          subst (Legal lib failing a) (sym (entries_append before (entry x ∷ []))) (grows lib failing a (entries_in before) x legal follows)
      legal_after low before (line pid l) after f legal =
          subst (Legal lib failing a) (sym (entries_append before (line pid l ∷ []) ∙ append-nil (entries_in before))) legal

      carry_items : (before : List Item) (xs : List Numbered) (qs : List Place) → Legal lib failing a (entries_in before) → AllByRecursion OfPid (items_in xs) → Carry qs →
          Carry (item_places before xs ++ qs)
      carry_items before [] qs legal pids rest = rest
      carry_items before (x ∷ xs) qs legal pids rest =
          carry_more (record { number = x.number; what = at_item x.low before x.item (map (λ y. y.item) xs) }) (item_places (before ++ x.item ∷ []) xs ++ qs)
          (alike_at x.low before x.item (map (λ y. y.item) xs) pids.0 (agree_later lib failing a b before (agree (entries_in before) legal)))
          (λ f. carry_items (before ++ x.item ∷ []) xs qs (legal_after x.low before x.item (map (λ y. y.item) xs) f legal) pids.1 rest)

      carry_all : NothingIsLegal → IsTold lib t → Carry (places t.run scripts)
      carry_all nothing told =
          let ns = numbered_scripts 1 (first_script t.run) t.run.steady in
          let items = item_places [] (numbered_merge ns t.run.history) in
          let over = flat_map (lines_beyond (length t.run.history)) ns in
          let at_end : List Place = record { number = last_line t.run; what = summary } ∷ [] in
          let last : Carry at_end = carry_more _ [] (same_kinds (IsRight (judge_with a) t summary) in_order) (λ _. record { fine = λ all. all; wrong = λ number kind is. is }) in
          carry_headings (first_script t.run) t.run.steady scripts ((items ++ over) ++ at_end)
          (subst Carry (sym (append_assoc items over at_end))
          (carry_items [] (numbered_merge ns t.run.history) (over ++ at_end) (nothing lib failing a) (told_pids lib t told) (carry_beyond (length t.run.history) ns at_end last)))

  -- ---- the whole judgement

  module _ (nothing : NothingIsLegal) (grows : OneMoreIsLegal) (agree : (h : List Entry) → Legal lib failing a h → AgreeAt lib a b (state_after lib failing h)) where
    pub accepted_by : (bytes : List ℕ) (t : Told) → IsAccepted (judge_with a) bytes t → IsAccepted (judge_with b) bytes t
    accepted_by bytes t is = record { told = is.told; text = is.text; nothing = (carry_all t grows agree nothing is.told).fine is.nothing }

    pub refused_by : (bytes : List ℕ) (number : ℕ) (kind : CheckKind) → IsRefused (judge_with a) bytes number kind → IsRefused (judge_with b) bytes number kind
    refused_by bytes number kinds.Text is = is
    refused_by bytes number kind is =
        record { it = is.it; told = is.told; text = is.text; wrong = (carry_all is.it grows agree nothing is.told).wrong number kind is.wrong }

-- ---- by the files and by the links

turned : (lib : Library) (a b : Held) (e : Eager) → AgreeAt lib a b e → AgreeAt lib b a e
turned lib a b e agree m object x reached number inside = sym (agree m object x reached number inside)

pub checks_by_links : NothingIsLegal → OneMoreIsLegal → HeldAsLinked → ChecksByLinks
checks_by_links nothing grows linked sources failing scripts sound is_library =
    let lib = library_of sources in
    let by_files : Held = fixed_bytes lib in
    let by_links : Held = held sources in
    let there = λ (h : List Entry) (legal : Legal lib failing by_files h). linked sources failing by_files h sound is_library legal in
    let back = λ (h : List Entry) (legal : Legal lib failing by_links h). turned lib by_files by_links (state_after lib failing h) (linked sources failing by_links h sound is_library legal) in
    record {
      accepted = λ bytes t. (accepted_by lib failing scripts by_files by_links nothing grows there bytes t, accepted_by lib failing scripts by_links by_files nothing grows back bytes t);
      refused = λ bytes number kind. (refused_by lib failing scripts by_files by_links nothing grows there bytes number kind, refused_by lib failing scripts by_links by_files nothing grows back bytes number kind);
    }
