-- All places of what is told.
use Rattle.std.proofs.Common.{◌≡◌, ℕ, suc, ◌+◌, ◌≤◌, List, [], ◌∷◌, ◌++◌, length, map, flat_map, take, replicate, Option, Some, None, refl, sym, ◌∙◌, ap, subst, arith}
use Rattle.std.specs.List.{AllByRecursion}
use Rattle.std.proofs.Math.Seq.{take-append_seam}
use Rattle.lx_types.specs.declared.limits.TheConstants.{MAX_PROCESSES}
use Rattle.lx_types.proofs.Lists.{all_joined, all_weaker}
use Rattle.load_model.specs.declared.deeds.Entry.{Entry}
use Rattle.session_model.specs.declared.sessions.Script.{Script}
use Rattle.session_model.specs.declared.sessions.ScriptLines.{ScriptLines}
use Rattle.session_model.specs.Merging.{Item, merge_of}
use Rattle.check_model.specs.declared.kinds.CheckFault.{CheckFault}
use Rattle.check_model.specs.Told.{Told}
use Rattle.check_model.specs.Places.{NumberedLine, Numbered, numbered_scripts, numbered_merge, lines_beyond, summary, Place, headings, item_places, places, first_script, last_line}
use Rattle.check_model.specs.Checks.{Judge, IsFine, process_of}
use Rattle.check_model.proofs.NumberedItems.{merge_items}
use Rattle.check_model.proofs.NextCommands.{merge_of_script}
use Rattle.check_core.specs.declared.items.ToldItem.{ToldItem}
use Rattle.check_core.specs.Judged.{IsJudged}
use Rattle.check_core.specs.NextCommands.{AreDone}
use Rattle.check_core.specs.PlayedItems.{IsOneOf, StandsBefore}
use Rattle.check_core.specs.ToldItems.{item_of, item_shown}
use Rattle.check_core.proofs.Judged.{judged_in_turn}
use Rattle.check_core.proofs.ItemsInTurn.{items_shown}
use Rattle.check_core.proofs.NextCommands.{nothing_done}

-- ---- as many scripts as processes, where headings are right

pub same_count : (j : Judge) (t : Told) (n : ℕ) (s : List ScriptLines) (scripts : List Script) → AllByRecursion (IsFine j t) (headings n s scripts) → length s ≡ length scripts
same_count j t n [] [] all = refl
same_count j t n [] (c ∷ scripts) all = absurd (let is : None ≡ Some c.pid = all.0.0 in cc (is))
same_count j t n (x ∷ s) [] all = absurd (let is : Some x.pid ≡ None = all.0.0 in cc (is))
same_count j t n (x ∷ s) (c ∷ scripts) all = ap suc (same_count j t (n + 1 + length x.lines) s scripts all.1)

-- ---- the items

pub items_are : (items : List ToldItem) (n : ℕ) (s : List ScriptLines) (h : List Entry) → map item_shown items ≡ numbered_merge (numbered_scripts 1 n s) h → map item_of items ≡ merge_of h s
items_are items n s h is = sym (items_shown items) ∙ ap (map (λ (x : Numbered). x.item)) is ∙ merge_items h s n

unmapped : (P : Item → Type 0) (items : List ToldItem) → AllByRecursion P (map item_of items) → AllByRecursion (λ (x : ToldItem). P (item_of x)) items
unmapped P [] all = tt
unmapped P (x ∷ items) all = (all.0, unmapped P items all.1)

pub items_of_scripts : (items : List ToldItem) (n scripts : ℕ) (s : List ScriptLines) (h : List Entry) → map item_shown items ≡ numbered_merge (numbered_scripts 1 n s) h → length s ≡ scripts →
    AllByRecursion (λ (x : Entry). IsOneOf (length s) x.pid) h → AllByRecursion (λ (x : ToldItem). IsOneOf scripts (process_of (item_of x))) items
items_of_scripts items n scripts s h is same all =
    unmapped (λ (x : Item). IsOneOf scripts (process_of x)) items
    (subst (λ (xs : List Item). AllByRecursion (λ (x : Item). IsOneOf scripts (process_of x)) xs) (sym (items_are items n s h is))
    (merge_of_script scripts h s same (subst (λ (k : ℕ). AllByRecursion (λ (x : Entry). IsOneOf k x.pid) h) same all)))

pub few_processes : (items : List ToldItem) (scripts : ℕ) → scripts ≤ MAX_PROCESSES → AllByRecursion (λ (x : ToldItem). IsOneOf scripts (process_of (item_of x))) items →
    AllByRecursion (λ (x : ToldItem). process_of (item_of x) ≤ MAX_PROCESSES) items
few_processes items scripts few all =
    all_weaker (λ (x : ToldItem). IsOneOf scripts (process_of (item_of x))) (λ (x : ToldItem). process_of (item_of x) ≤ MAX_PROCESSES) (λ x one. let most = one.1 in omega (arith, most, few)) items all

zeros : (scripts : List Script) → map (λ (script : Script). let none : ℕ = 0 in none) scripts ≡ replicate (length scripts) 0
zeros [] = refl
zeros (x ∷ scripts) = ap (λ (t : List ℕ). 0 ∷ t) (zeros scripts)

pub none_done : (j : Judge) (scripts : List Script) (done : List ℕ) → j.scripts ≡ scripts → done ≡ replicate (length scripts) 0 → AreDone j [] done
none_done j scripts done same is =
    subst (λ (d : List ℕ). AreDone j [] d) (zeros j.scripts ∙ ap (λ (s : List Script). replicate (length s) 0) same ∙ sym is) (nothing_done j)

pub stands_first : (Stands : Judge → List Item → List Item → Type 0) (j : Judge) (scripts : List Script) (done : List ℕ) (items merge : List Item) → j.scripts ≡ scripts → done ≡ replicate (length scripts) 0 →
    items ≡ merge → Stands j [] merge → StandsBefore Stands j [] items done
stands_first Stands j scripts done items merge same zero is stands = record {
  counted = none_done j scripts done same zero;
  stands = subst (λ (xs : List Item). Stands j [] xs) (sym is) stands;
}

-- what is left in a vector after a call that wrote all its items
pub refilled : (n : ℕ) (xs ys : List ℕ) → length xs ≡ n → take n (xs ++ ys) ≡ xs
refilled n xs ys e = ap (λ (k : ℕ). take k (xs ++ ys)) (sym e) ∙ take-append_seam xs ys

-- ---- all places, part by part

module _ (j : Judge) (t : Told) (scripts : List Script) (same : j.scripts ≡ scripts) where
  abbrev heads : List Place
  heads = headings (first_script t.run) t.run.steady j.scripts

  abbrev numbered : List (ℕ × List NumberedLine)
  numbered = numbered_scripts 1 (first_script t.run) t.run.steady

  abbrev in_items : List Place
  in_items = item_places [] (numbered_merge numbered t.run.history)

  abbrev in_beyond : List Place
  in_beyond = flat_map (lines_beyond (length t.run.history)) numbered

  abbrev at_end : List Place
  at_end = record { number = last_line t.run; what = summary } ∷ []

  with_scripts : (answer : Option CheckFault) → IsJudged j t (headings (first_script t.run) t.run.steady scripts) answer → IsJudged j t heads answer
  with_scripts answer is = subst (λ (s : List Script). IsJudged j t (headings (first_script t.run) t.run.steady s) answer) (sym same) is

  pub wrong_heading : (fault : CheckFault) → IsJudged j t (headings (first_script t.run) t.run.steady scripts) (Some fault) → IsJudged j t (places t.run j.scripts) (Some fault)
  wrong_heading fault is = judged_in_turn.here j t heads ((in_items ++ in_beyond) ++ at_end) fault (with_scripts (Some fault) is)

  module _ (right : IsJudged j t (headings (first_script t.run) t.run.steady scripts) None) where
    after_heads : (answer : Option CheckFault) → IsJudged j t ((in_items ++ in_beyond) ++ at_end) answer → IsJudged j t (places t.run j.scripts) answer
    after_heads answer is = judged_in_turn.later j t heads ((in_items ++ in_beyond) ++ at_end) answer (with_scripts None right) is

    pub wrong_item : (fault : CheckFault) → IsJudged j t in_items (Some fault) → IsJudged j t (places t.run j.scripts) (Some fault)
    wrong_item fault is = after_heads (Some fault) (judged_in_turn.here j t (in_items ++ in_beyond) at_end fault (judged_in_turn.here j t in_items in_beyond fault is))

    pub wrong_beyond : (fault : CheckFault) → IsJudged j t in_items None → IsJudged j t in_beyond (Some fault) → IsJudged j t (places t.run j.scripts) (Some fault)
    wrong_beyond fault fine is = after_heads (Some fault) (judged_in_turn.here j t (in_items ++ in_beyond) at_end fault (judged_in_turn.later j t in_items in_beyond (Some fault) fine is))

    pub at_last : (answer : Option CheckFault) → IsJudged j t in_items None → IsJudged j t in_beyond None → IsJudged j t at_end answer → IsJudged j t (places t.run j.scripts) answer
    at_last answer fine over is = after_heads answer (judged_in_turn.later j t (in_items ++ in_beyond) at_end answer (all_joined (IsFine j t) in_items in_beyond fine over) is)
