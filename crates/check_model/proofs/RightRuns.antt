-- Nothing is wrong with what is told exactly where it is a run of the scripts, with the run's own numbers.
use Rattle.std.proofs.Common.{◌≡◌, ℕ, ◌+◌, ◌≤◌, List, [], ◌∷◌, ◌++◌, length, map, flat_map, Option, Some, None, IsTrue, refl, sym, ◌∙◌, ap, subst, append_assoc}
use Rattle.std.specs.Prelude.{unwrap_or}
use Rattle.std.specs.List.{AllByRecursion}
use Rattle.std.proofs.lemmas.List.{length-map}
use Rattle.lx_types.proofs.Lists.{all_joined, all_front, all_back}
use Rattle.load_model.specs.declared.deeds.Entry.{Entry}
use Rattle.load_model.specs.Asks.{ask_in}
use Rattle.load_model.specs.Histories.{AllFollow, Legal}
use Rattle.session_model.specs.declared.sessions.Script.{Script}
use Rattle.session_model.specs.declared.sessions.ScriptLines.{ScriptLines}
use Rattle.session_model.specs.Merging.{Item, entry, line, merge_of, AllPlaces, FaultLeads, TouchFollows, Replies, numbers_of}
use Rattle.session_model.specs.MergeLaws.{entries_in}
use Rattle.session_model.specs.Runs.{IsRunOf}
use Rattle.session_model.proofs.MergeStates.{merge_has_history}
use Rattle.check_model.specs.Told.{Told, counts_of}
use Rattle.check_model.specs.Places.{NumberedLine, numbered_scripts, Numbered, numbered_merge, lines_beyond, summary, Place, headings, item_places, first_script, last_line}
use Rattle.check_model.specs.Checks.{Judge, CommandIsNext, EntryIsAsked, EntryIsDone, FaultIsRight, TouchIsRight, ReplyIsRight, IsFine, NothingWrong}
use Rattle.check_model.specs.Laws.{NothingWrongIsRun}
use Rattle.check_model.proofs.NumberedItems.{items_in, merge_items}
use Rattle.check_model.proofs.Fronts.{Fits, ScriptFits, scripts_fit, fronts_rise, merge_fits, all_beyond_fine, fits_back}
use Rattle.check_model.proofs.Following.{FollowsAt, all_follow, each_follows, may_alike, done_alike}
use Rattle.check_model.proofs.NextCommands.{command_is_next, OfScript, merge_of_script}

-- ---- the headings

module _ (j : Judge) (t : Told) where
  numbers_right : (n : ℕ) (s : List ScriptLines) (scripts : List Script) → AllByRecursion (IsFine j t) (headings n s scripts) → numbers_of s ≡ map (λ (script : Script). script.pid) scripts
  numbers_right n [] [] all = refl
  numbers_right n [] (c ∷ scripts) all = absurd (let is : None ≡ Some c.pid = all.0.0 in cc (is))
  numbers_right n (x ∷ s) [] all = absurd (let is : Some x.pid ≡ None = all.0.0 in cc (is))
  numbers_right n (x ∷ s) (c ∷ scripts) all =
      let is : Some x.pid ≡ Some c.pid = all.0.0 in
      let one : x.pid ≡ c.pid = ap (λ (o : Option ℕ). unwrap_or o 0) is in
      ap (λ (k : ℕ). k ∷ numbers_of s) one ∙ ap (λ (ks : List ℕ). c.pid ∷ ks) (numbers_right (n + 1 + length x.lines) s scripts all.1)

  headings_right : (n : ℕ) (s : List ScriptLines) (scripts : List Script) → numbers_of s ≡ map (λ (script : Script). script.pid) scripts → AllByRecursion (IsFine j t) (headings n s scripts)
  headings_right n [] [] is = ((refl, (tt, (tt, (tt, (tt, (tt, (tt, (tt, (tt, tt))))))))), tt)
  headings_right n [] (c ∷ scripts) is = absurd (cc (is))
  headings_right n (x ∷ s) [] is = absurd (cc (is))
  headings_right n (x ∷ s) (c ∷ scripts) is =
      let one : x.pid ≡ c.pid = cc (is) in
      let more : numbers_of s ≡ map (λ (script : Script). script.pid) scripts = cc (is) in
      ((ap (λ (k : ℕ). Some k) one, (tt, (tt, (tt, (tt, (tt, (tt, (tt, (tt, tt))))))))), headings_right (n + 1 + length x.lines) s scripts more)

  -- ---- an item, but for its front

  record ItemIsRight (before : List Item) (item : Item) (after : List Item) : Type 0 where
    next : CommandIsNext j before item
    asked : EntryIsAsked j before item
    done : EntryIsDone j before item
    fault : FaultIsRight j before item after
    touch : TouchIsRight j before item after
    reply : ReplyIsRight j before item after

  items_right : (before : List Item) (xs : List Numbered) → AllByRecursion (IsFine j t) (item_places before xs) → AllPlaces ItemIsRight before (items_in xs)
  items_right before [] all = tt
  items_right before (x ∷ xs) all =
      let f = all.0 in (
        record { next = f.1.1.0; asked = f.1.1.1.0; done = f.1.1.1.1.0; fault = f.1.1.1.1.1.0; touch = f.1.1.1.1.1.1.0; reply = f.1.1.1.1.1.1.1.0 },
        items_right (before ++ x.item ∷ []) xs all.1,
      )

  items_fit : (before : List Item) (xs : List Numbered) → AllByRecursion (IsFine j t) (item_places before xs) → AllByRecursion (Fits (length t.run.history)) xs
  items_fit before [] all = tt
  items_fit before (x ∷ xs) all = (all.0.1.0, items_fit (before ++ x.item ∷ []) xs all.1)

  items_fine : (before : List Item) (xs : List Numbered) → AllPlaces ItemIsRight before (items_in xs) → AllByRecursion (Fits (length t.run.history)) xs →
      AllByRecursion (IsFine j t) (item_places before xs)
  items_fine before [] a f = tt
  items_fine before (x ∷ xs) a f =
      ((tt, (f.0, (a.0.next, (a.0.asked, (a.0.done, (a.0.fault, (a.0.touch, (a.0.reply, (tt, tt))))))))), items_fine (before ++ x.item ∷ []) xs a.1 f.1)

  -- ---- what follows from it

  each_place : (P Q : List Item → Item → List Item → Type 0) → ((before : List Item) (item : Item) (after : List Item) → P before item after → Q before item after) →
      (before items : List Item) → AllPlaces P before items → AllPlaces Q before items
  each_place P Q f before [] a = tt
  each_place P Q f before (item ∷ items) a = (f before item items a.0, each_place P Q f (before ++ item ∷ []) items a.1)

  replied : (before : List Item) (item : Item) (after : List Item) → ItemIsRight before item after → Replies j.lib j.failing j.contents before item after
  replied before (entry x) after r = record { may = r.asked.may; done = r.done; touched = r.touch.0 }
  replied before (line pid l) after r = r.reply

  followed : (before : List Item) (item : Item) (after : List Item) → ItemIsRight before item after → FollowsAt j.lib j.failing j.contents before item after
  followed before (entry x) after r = record {
    process = r.asked.process;
    may = subst (λ b. IsTrue b) (may_alike j.lib j.failing j.contents before x.pid (ask_in x.deed)) r.asked.may;
    done = r.done ∙ done_alike j.lib j.failing j.contents before x.pid (ask_in x.deed);
    first = r.fault.0;
  }
  followed before (line pid l) after r = tt

  of_processes : (before items : List Item) → AllPlaces ItemIsRight before items → AllByRecursion (λ (x : Entry). (1 ≤ x.pid) × (x.pid ≤ length j.scripts)) (entries_in items)
  of_processes before [] a = tt
  of_processes before (entry x ∷ items) a = ((a.0.asked.least, a.0.asked.most), of_processes (before ++ entry x ∷ []) items a.1)
  of_processes before (line pid l ∷ items) a = of_processes (before ++ line pid l ∷ []) items a.1

  -- ---- a run from it

  abbrev numbered : List (ℕ × List NumberedLine)
  numbered = numbered_scripts 1 (first_script t.run) t.run.steady

  abbrev in_items : List Place
  in_items = item_places [] (numbered_merge numbered t.run.history)

  abbrev in_beyond : List Place
  in_beyond = flat_map (lines_beyond (length t.run.history)) numbered

  abbrev at_end : List Place
  at_end = record { number = last_line t.run; what = summary } ∷ []

  is_run : NothingWrong j t → IsRunOf j.lib j.failing j.contents j.scripts t.run × (t.counts ≡ counts_of t.run)
  unfolding Legal
  is_run all =
      let heads : AllByRecursion (IsFine j t) (headings (first_script t.run) t.run.steady j.scripts) =
      all_front (IsFine j t) (headings (first_script t.run) t.run.steady j.scripts) ((in_items ++ in_beyond) ++ at_end) all in
      let others : AllByRecursion (IsFine j t) ((in_items ++ in_beyond) ++ at_end) =
      all_back (IsFine j t) (headings (first_script t.run) t.run.steady j.scripts) ((in_items ++ in_beyond) ++ at_end) all in
      let most : AllByRecursion (IsFine j t) (in_items ++ in_beyond) = all_front (IsFine j t) (in_items ++ in_beyond) at_end others in
      let last : AllByRecursion (IsFine j t) at_end = all_back (IsFine j t) (in_items ++ in_beyond) at_end others in
      let items : AllByRecursion (IsFine j t) in_items = all_front (IsFine j t) in_items in_beyond most in
      let over : AllByRecursion (IsFine j t) in_beyond = all_back (IsFine j t) in_items in_beyond most in
      let right : AllPlaces ItemIsRight [] (merge_of t.run.history t.run.steady) =
      subst (AllPlaces ItemIsRight []) (merge_items t.run.history t.run.steady (first_script t.run)) (items_right [] (numbered_merge numbered t.run.history) items) in
      let fits : AllByRecursion (ScriptFits (length t.run.history)) numbered = fits_back j t numbered (items_fit [] (numbered_merge numbered t.run.history) items) over in (
        record {
          legal =
              subst (λ h. AllFollow j.lib j.failing j.contents [] h) (merge_has_history t.run.history t.run.steady)
              (all_follow j.lib j.failing j.contents [] (merge_of t.run.history t.run.steady)
              (each_place ItemIsRight (FollowsAt j.lib j.failing j.contents) followed [] (merge_of t.run.history t.run.steady) right));
          merge = record {
            processes = numbers_right (first_script t.run) t.run.steady j.scripts heads;
            entries =
                subst (λ h. AllByRecursion (λ (x : Entry). (1 ≤ x.pid) × (x.pid ≤ length j.scripts)) h) (merge_has_history t.run.history t.run.steady)
                (of_processes [] (merge_of t.run.history t.run.steady) right);
            fronts = fronts_rise (length t.run.history) 1 (first_script t.run) t.run.steady fits;
            commands = last.0.1.1.0;
            faults = each_place ItemIsRight (FaultLeads j.lib j.failing) (λ b i a r. r.fault.1) [] (merge_of t.run.history t.run.steady) right;
            touches = each_place ItemIsRight (TouchFollows j.lib j.failing) (λ b i a r. r.touch.1) [] (merge_of t.run.history t.run.steady) right;
            replies = each_place ItemIsRight (Replies j.lib j.failing j.contents) replied [] (merge_of t.run.history t.run.steady) right;
          };
        },
        last.0.1.1.1.1.1.1.1.1.0,
      )

  -- ---- and back

  module _ (run : IsRunOf j.lib j.failing j.contents j.scripts t.run) where
    one_right : (before : List Item) (item : Item) (after : List Item) → merge_of t.run.history t.run.steady ≡ before ++ item ∷ after →
        FaultLeads j.lib j.failing before item after → TouchFollows j.lib j.failing before item after → Replies j.lib j.failing j.contents before item after →
        FollowsAt j.lib j.failing j.contents before item after → OfScript (length j.scripts) item → ItemIsRight before item after
    one_right before (entry x) after is leads follows replies entry_follows of = record {
      next = λ _. command_is_next j.lib (merge_of t.run.history t.run.steady) (before ++ entry x ∷ []) after j.scripts x.pid (is ∙ sym (append_assoc before (entry x ∷ []) after)) run.merge.commands of.0 of.1;
      asked = record { least = of.0; most = of.1; process = entry_follows.process; may = replies.may };
      done = replies.done;
      fault = (entry_follows.first, leads);
      touch = (replies.touched, follows);
      reply = tt;
    }
    one_right before (line pid l) after is leads follows replies entry_follows of = record {
      next = λ _. command_is_next j.lib (merge_of t.run.history t.run.steady) (before ++ line pid l ∷ []) after j.scripts pid (is ∙ sym (append_assoc before (line pid l ∷ []) after)) run.merge.commands of.0 of.1;
      asked = tt;
      done = tt;
      fault = (tt, leads);
      touch = (tt, follows);
      reply = replies;
    }

    all_right : (before items : List Item) → merge_of t.run.history t.run.steady ≡ before ++ items → AllPlaces (FaultLeads j.lib j.failing) before items →
        AllPlaces (TouchFollows j.lib j.failing) before items → AllPlaces (Replies j.lib j.failing j.contents) before items → AllPlaces (FollowsAt j.lib j.failing j.contents) before items →
        AllByRecursion (OfScript (length j.scripts)) items → AllPlaces ItemIsRight before items
    all_right before [] is a b c d e = tt
    all_right before (item ∷ items) is a b c d e =
        (one_right before item items is a.0 b.0 c.0 d.0 e.0, all_right (before ++ item ∷ []) items (is ∙ sym (append_assoc before (item ∷ []) items)) a.1 b.1 c.1 d.1 e.1)

    same_count : length t.run.steady ≡ length j.scripts
    same_count =
        sym (length-map t.run.steady (λ (lines : ScriptLines). lines.pid)) ∙ (ap length run.merge.processes ∙ length-map j.scripts (λ (script : Script). script.pid))

    nothing_wrong : t.counts ≡ counts_of t.run → NothingWrong j t
    unfolding Legal
    nothing_wrong counts =
        let follow : AllFollow j.lib j.failing j.contents [] (entries_in (merge_of t.run.history t.run.steady)) =
        subst (λ h. AllFollow j.lib j.failing j.contents [] h) (sym (merge_has_history t.run.history t.run.steady)) run.legal in
        let right : AllPlaces ItemIsRight [] (merge_of t.run.history t.run.steady) =
        all_right [] (merge_of t.run.history t.run.steady) refl run.merge.faults run.merge.touches run.merge.replies
        (each_follows j.lib j.failing j.contents [] (merge_of t.run.history t.run.steady) follow)
        (merge_of_script (length j.scripts) t.run.history t.run.steady same_count run.merge.entries) in
        let fits : AllByRecursion (ScriptFits (length t.run.history)) numbered = scripts_fit (length t.run.history) 1 (first_script t.run) t.run.steady run.merge.fronts in
        let items : AllByRecursion (IsFine j t) in_items =
        items_fine [] (numbered_merge numbered t.run.history)
        (subst (AllPlaces ItemIsRight []) (sym (merge_items t.run.history t.run.steady (first_script t.run))) right) (merge_fits (length t.run.history) numbered t.run.history fits) in
        all_joined (IsFine j t) (headings (first_script t.run) t.run.steady j.scripts) ((in_items ++ in_beyond) ++ at_end)
        (headings_right (first_script t.run) t.run.steady j.scripts run.merge.processes)
        (all_joined (IsFine j t) (in_items ++ in_beyond) at_end (all_joined (IsFine j t) in_items in_beyond items (all_beyond_fine j t numbered fits))
        ((tt, (tt, (run.merge.commands, (tt, (tt, (tt, (tt, (tt, (counts, tt))))))))), tt))

pub nothing_wrong_is_run : NothingWrongIsRun
nothing_wrong_is_run j t = (is_run j t, λ both. nothing_wrong j t both.0 both.1)
