-- Touched pages: answers read them page by page, and entries take all else along.
use Rattle.std.proofs.Common.{◌≡◌, ℕ, ◌==◌, Bool, true, false, if◌then◌else◌, not, List, filter, Option, Some, None, option_map, Result, Ok, Err, refl, sym, ◌∙◌, ap, eqb-true}
use Rattle.lx_types.specs.Object.{class_of}
use Rattle.lx_types.specs.declared.object.Class.{Class}
use Rattle.lx_types.specs.declared.object.Class.TheVariants as classes
use Rattle.lx_types.specs.declared.entry.EntryKey.{EntryKey}
use Rattle.base_pick.proofs.Placing.{find-same}
use Rattle.load_model.specs.declared.commands.Place.{Place}
use Rattle.load_model.specs.declared.commands.Command.{Command}
use Rattle.load_model.specs.declared.commands.Command.TheVariants as commands
use Rattle.load_model.specs.declared.commands.Refusal.TheVariants.{Ended, NotTouched}
use Rattle.load_model.specs.declared.commands.Reply.TheVariants as replies
use Rattle.load_model.specs.declared.deeds.How.{How}
use Rattle.load_model.specs.declared.deeds.How.TheVariants as ways
use Rattle.load_model.specs.declared.deeds.Fresh.{Fresh}
use Rattle.load_model.specs.declared.deeds.Deed.TheVariants as deeds
use Rattle.load_model.specs.Modules.{Spot, EntryFault, Library, Held, number_of, entry_spot, object_at}
use Rattle.load_model.specs.State.{PageOf, Written, Residence, Process, Eager, with_process, is_among, reaches, residence_of, serial_of, attached_residence}
use Rattle.load_model.specs.Entering.{joined, holding, attaching, with_fresh_residences, after_entering}
use Rattle.load_model.specs.Leaving.{freeing, exiting, left, keeping, after_leaving}
use Rattle.load_model.specs.Memory.{page, pages_over, first_untouched, writing}
use Rattle.load_model.specs.Refusals.{Purpose, touch, write, share, peek, debug, ◌orelse◌, when, module_refusal, enter_refusal, free_refusal, span_refusal, touch_refusal, residence_refusal, residence_if, residence_named, place_refusal, key_refusal, query_refusal, found_refusal, resource_refusal, refusal_of}
use Rattle.load_model.specs.declared.commands.Ask.TheVariants.{Enter as enter, Free as free, Exit as exit, Write as put, Debug as patch, Shared as get}
use Rattle.load_model.specs.Asks.{deed_of, after_write, after_deed}
use Rattle.load_model.specs.Step.{entry, steady, meant, spot_address, address_of, bytes_of, serial_named, fine_answer}
use Rattle.load_model.specs.Accepted.{retouched}
use Rattle.load_model.specs.Touched.{SamePages, AnsweredByPages, EntriesMoveTouched}
use Rattle.load_model.specs.TouchedPages.{has_page, pages_kept}
use Rattle.load_model.proofs.Answers.{answer_by, answer_is}
use Rattle.load_model.proofs.Retouched.{gone_same, bytes_same, touched_is_apart}

-- ---- refusals

pub untouched_by_pages : (p : Process) (a b : List PageOf) (serial object offset len : ℕ) → SamePages a b →
    first_untouched (record p { touched = a }) serial object offset len ≡ first_untouched (record p { touched = b }) serial object offset len
untouched_by_pages p a b serial object offset len same =
    find-same (λ n. not (has_page a serial (page object n))) (λ n. not (has_page b serial (page object n))) (λ n. ap not (same serial (page object n))) (pages_over offset len)

touch_by_pages : (how : Purpose) (p : Process) (a b : List PageOf) (serial object offset len : ℕ) → SamePages a b →
    touch_refusal how (record p { touched = a }) serial object offset len ≡ touch_refusal how (record p { touched = b }) serial object offset len
touch_by_pages touch p a b serial object offset len same = refl
touch_by_pages write p a b serial object offset len same = ap (option_map NotTouched) (untouched_by_pages p a b serial object offset len same)
touch_by_pages share p a b serial object offset len same = ap (option_map NotTouched) (untouched_by_pages p a b serial object offset len same)
touch_by_pages peek p a b serial object offset len same = ap (option_map NotTouched) (untouched_by_pages p a b serial object offset len same)
touch_by_pages debug p a b serial object offset len same = ap (option_map NotTouched) (untouched_by_pages p a b serial object offset len same)

residence_by_pages : (lib : Library) (p : Process) (a b : List PageOf) (how : Purpose) (place : Place) (r : Option Residence) → SamePages a b →
    residence_refusal lib (record p { touched = a }) how place r ≡ residence_refusal lib (record p { touched = b }) how place r
residence_by_pages lib p a b how place None same = refl
residence_by_pages lib p a b how place (Some r) same =
    ap (λ x. span_refusal lib how r.«module» place.object place.offset place.len orelse x) (touch_by_pages how p a b r.serial place.object place.offset place.len same)

-- residences are found by reach, whatever was touched
pub named_apart : (lib : Library) (e : Eager) (touched : ℕ → List PageOf) (pid : ℕ) (name : List ℕ) → residence_named lib (retouched touched e) pid name ≡ residence_named lib e pid name
unfolding residence_named attached_residence reaches residence_of
named_apart lib e touched pid name = step (number_of lib name)
  where
    step : (n : Option ℕ) → residence_if lib (retouched touched e) pid n ≡ residence_if lib e pid n
    step None = refl
    step (Some m) = refl

place_by_pages : (lib : Library) (e : Eager) (a b : ℕ → List PageOf) (pid : ℕ) (how : Purpose) (at : Place) → SamePages (a pid) (b pid) →
    place_refusal lib (retouched a e) pid how at ≡ place_refusal lib (retouched b e) pid how at
unfolding place_refusal
place_by_pages lib e a b pid how at same =
    ap (λ r. when (e.processes pid).ended Ended orelse residence_refusal lib (record (e.processes pid) { touched = a pid }) how at r)
    (named_apart lib e a pid at.«module» ∙ sym (named_apart lib e b pid at.«module»))
    ∙ ap (λ x. when (e.processes pid).ended Ended orelse x) (residence_by_pages lib (e.processes pid) (a pid) (b pid) how at (residence_named lib (retouched b e) pid at.«module») same)

enter_by_pages : (lib : Library) (p : Process) (a b : List PageOf) (how : How) (m : Option ℕ) → enter_refusal lib (record p { touched = a }) how m ≡ enter_refusal lib (record p { touched = b }) how m
unfolding enter_refusal module_refusal
enter_by_pages lib p a b ways.Start None = refl
enter_by_pages lib p a b ways.Start (Some m) = refl
enter_by_pages lib p a b ways.Load None = refl
enter_by_pages lib p a b ways.Load (Some m) = refl

query_by_pages : (lib : Library) (e : Eager) (a b : ℕ → List PageOf) (pid : ℕ) (name : List ℕ) (key : EntryKey) → query_refusal lib (retouched a e) pid name key ≡ query_refusal lib (retouched b e) pid name key
unfolding query_refusal
query_by_pages lib e a b pid name key =
    ap (λ r. when (e.processes pid).ended Ended orelse key_refusal lib key r) (named_apart lib e a pid name ∙ sym (named_apart lib e b pid name))

resource_by_pages : (lib : Library) (e : Eager) (a b : ℕ → List PageOf) (pid : ℕ) (name : List ℕ) (ty id : ℕ) → resource_refusal lib (retouched a e) pid name ty id ≡ resource_refusal lib (retouched b e) pid name ty id
unfolding resource_refusal
resource_by_pages lib e a b pid name ty id =
    ap (λ r. when (e.processes pid).ended Ended orelse found_refusal lib ty id r) (named_apart lib e a pid name ∙ sym (named_apart lib e b pid name))

pub refused_by_pages : (lib : Library) (e : Eager) (a b : ℕ → List PageOf) (pid : ℕ) (command : Command) → SamePages (a pid) (b pid) →
    refusal_of lib (retouched a e) pid command ≡ refusal_of lib (retouched b e) pid command
unfolding refusal_of
refused_by_pages lib e a b pid (commands.Start name) same = enter_by_pages lib (e.processes pid) (a pid) (b pid) ways.Start (number_of lib name)
refused_by_pages lib e a b pid (commands.Load name) same = enter_by_pages lib (e.processes pid) (a pid) (b pid) ways.Load (number_of lib name)
refused_by_pages lib e a b pid (commands.Free name) same = free_by_pages (number_of lib name)
  where
    free_by_pages : (m : Option ℕ) → free_refusal (record (e.processes pid) { touched = a pid }) m ≡ free_refusal (record (e.processes pid) { touched = b pid }) m
    free_by_pages None = refl
    free_by_pages (Some m) = refl
refused_by_pages lib e a b pid (commands.Touch at) same = place_by_pages lib e a b pid touch at same
refused_by_pages lib e a b pid (commands.Peek at) same = place_by_pages lib e a b pid peek at same
refused_by_pages lib e a b pid (commands.Shared at) same = place_by_pages lib e a b pid share at same
refused_by_pages lib e a b pid (commands.Write at bytes) same = place_by_pages lib e a b pid write at same
refused_by_pages lib e a b pid (commands.Debug at bytes) same = place_by_pages lib e a b pid debug at same
refused_by_pages lib e a b pid (commands.Query name key) same = query_by_pages lib e a b pid name key
refused_by_pages lib e a b pid (commands.GetRes name ty id) same = resource_by_pages lib e a b pid name ty id
refused_by_pages lib e a b pid commands.Exit same = refl

-- ---- what is answered without a refusal

peeked_apart : (lib : Library) (contents : Held) (e : Eager) (touched : ℕ → List PageOf) (pid : ℕ) (at : Place) (r : Option Residence) →
    bytes_of lib contents (retouched touched e) pid at r ≡ bytes_of lib contents e pid at r
peeked_apart lib contents e touched pid at None = refl
peeked_apart lib contents e touched pid at (Some r) = bytes_same lib contents e touched pid at.object at.offset at.len (Some r)

spot_apart : (e : Eager) (touched : ℕ → List PageOf) (r : Result Spot EntryFault) → spot_address (retouched touched e) r ≡ spot_address e r
unfolding residence_of
spot_apart e touched (Ok s) = refl
spot_apart e touched (Err fault) = refl

pub fine_apart : (lib : Library) (contents : Held) (e : Eager) (touched : ℕ → List PageOf) (pid : ℕ) (command : Command) →
    fine_answer lib contents (retouched touched e) pid command ≡ fine_answer lib contents e pid command
unfolding fine_answer address_of
fine_apart lib contents e touched pid (commands.Start name) = ap entry (touched_is_apart lib contents e touched pid (enter ways.Start (meant lib name))).1
fine_apart lib contents e touched pid (commands.Load name) = ap entry (touched_is_apart lib contents e touched pid (enter ways.Load (meant lib name))).1
fine_apart lib contents e touched pid (commands.Free name) = ap entry (touched_is_apart lib contents e touched pid (free (meant lib name))).1
fine_apart lib contents e touched pid (commands.Touch at) = refl
fine_apart lib contents e touched pid (commands.Peek at) =
    ap (λ r. steady (replies.Bytes (bytes_of lib contents (retouched touched e) pid at r))) (named_apart lib e touched pid at.«module»)
    ∙ ap (λ bytes. steady (replies.Bytes bytes)) (peeked_apart lib contents e touched pid at (residence_named lib e pid at.«module»))
fine_apart lib contents e touched pid (commands.Shared at) =
    ap (λ r. entry (deed_of lib contents (retouched touched e) pid (get (serial_of r) (meant lib at.«module») at.object at.offset at.len))) (named_apart lib e touched pid at.«module»)
    ∙ ap entry (touched_is_apart lib contents e touched pid (get (serial_named lib e pid at) (meant lib at.«module») at.object at.offset at.len)).1
fine_apart lib contents e touched pid (commands.Write at bytes) =
    ap (λ r. entry (deed_of lib contents (retouched touched e) pid (put (serial_of r) (meant lib at.«module») at.object at.offset bytes))) (named_apart lib e touched pid at.«module»)
    ∙ ap entry (touched_is_apart lib contents e touched pid (put (serial_named lib e pid at) (meant lib at.«module») at.object at.offset bytes)).1
fine_apart lib contents e touched pid (commands.Debug at bytes) =
    ap (λ r. entry (deed_of lib contents (retouched touched e) pid (patch (serial_of r) (meant lib at.«module») at.object at.offset bytes))) (named_apart lib e touched pid at.«module»)
    ∙ ap entry (touched_is_apart lib contents e touched pid (patch (serial_named lib e pid at) (meant lib at.«module») at.object at.offset bytes)).1
fine_apart lib contents e touched pid (commands.GetRes name ty id) = refl
fine_apart lib contents e touched pid (commands.Query name key) = ap (λ a. steady (replies.Address a)) (spot_apart e touched (entry_spot lib (meant lib name) key))
fine_apart lib contents e touched pid commands.Exit = ap entry (touched_is_apart lib contents e touched pid exit).1

pub answered_by_pages : AnsweredByPages
answered_by_pages lib contents e a b pid command same =
    let refused = refused_by_pages lib e a b pid command same in (
      refused,
      answer_is lib contents (retouched a e) pid command
          ∙ ap (λ x. answer_by x (refusal_of lib (retouched a e) pid command)) (fine_apart lib contents e a pid command ∙ sym (fine_apart lib contents e b pid command))
          ∙ ap (answer_by (fine_answer lib contents (retouched b e) pid command)) refused
          ∙ sym (answer_is lib contents (retouched b e) pid command),
    )

-- ---- entries

-- a process that does something is written back with what it touched
back : (e : Eager) (touched : ℕ → List PageOf) (f : List PageOf → List PageOf) (p : Process) (pid q : ℕ) (b : Bool) → (q == pid) ≡ b →
    (if b then record p { touched = f (touched pid) } else record (e.processes q) { touched = touched q }) ≡
    record (if b then p else e.processes q) { touched = if b then f (touched q) else touched q }
back e touched f p pid q true is = ap (λ k. record p { touched = f (touched k) }) (sym (eqb-true q pid is))
back e touched f p pid q false is = refl

back_as_is : (e : Eager) (touched : ℕ → List PageOf) (p : Process) (pid q : ℕ) (b : Bool) → (q == pid) ≡ b →
    (if b then record p { touched = touched pid } else record (e.processes q) { touched = touched q }) ≡ record (if b then p else e.processes q) { touched = touched q }
back_as_is e touched p pid q true is = ap (λ k. record p { touched = touched k }) (sym (eqb-true q pid is))
back_as_is e touched p pid q false is = refl

leaving_moves : (lib : Library) (e : Eager) (touched : ℕ → List PageOf) (pid : ℕ) (p : Process) →
    after_leaving lib (retouched touched e) pid (record p { touched = touched pid }) ≡
    retouched (λ q. if q == pid then pages_kept lib e p (touched q) else touched q) (after_leaving lib e pid p)
unfolding after_leaving with_process keeping left reaches residence_of
leaving_moves lib e touched pid p = λ i. record {
  residences = ap (λ ms. filter (λ r. not (is_among ms r.«module»)) e.residences) (gone_same lib e touched pid p (touched pid)) i;
  serials = e.serials;
  failing = e.failing;
  processes = λ q. back e touched (pages_kept lib e p) (keeping lib e p) pid q (q == pid) refl i;
}

entering_moves : (lib : Library) (e : Eager) (touched : ℕ → List PageOf) (pid : ℕ) (how : How) (m : ℕ) (fresh : List Fresh) →
    after_entering lib (retouched touched e) pid how m fresh ≡ retouched touched (after_entering lib e pid how m fresh)
unfolding after_entering with_process joined reaches
entering_moves lib e touched pid ways.Start m fresh = λ i. record {
  residences = (with_fresh_residences e fresh).residences;
  serials = (with_fresh_residences e fresh).serials;
  failing = e.failing;
  processes = λ q. back_as_is e touched (holding ways.Start m (attaching (joined lib e pid m) (e.processes pid))) pid q (q == pid) refl i;
}
entering_moves lib e touched pid ways.Load m fresh = λ i. record {
  residences = (with_fresh_residences e fresh).residences;
  serials = (with_fresh_residences e fresh).serials;
  failing = e.failing;
  processes = λ q. back_as_is e touched (holding ways.Load m (attaching (joined lib e pid m) (e.processes pid))) pid q (q == pid) refl i;
}

writing_moves : (e : Eager) (touched : ℕ → List PageOf) (pid serial : ℕ) (w : Written) (c : Class) →
    after_write (retouched touched e) pid serial w c ≡ retouched touched (after_write e pid serial w c)
unfolding with_process
writing_moves e touched pid serial w classes.Code = refl
writing_moves e touched pid serial w classes.Shared = refl
writing_moves e touched pid serial w classes.Private = λ i. record {
  residences = e.residences;
  serials = e.serials;
  failing = e.failing;
  processes = λ q. back_as_is e touched (writing serial w (e.processes pid)) pid q (q == pid) refl i;
}

pub entries_move_touched : EntriesMoveTouched
unfolding after_deed
entries_move_touched lib e touched pid (deeds.Enter how m fresh calls) = entering_moves lib e touched pid how m fresh
entries_move_touched lib e touched pid (deeds.Full how m of object size) = refl
entries_move_touched lib e touched pid (deeds.Failed how m by fresh calls gone) = refl
entries_move_touched lib e touched pid (deeds.Free m calls gone) = leaving_moves lib e touched pid (freeing m (e.processes pid))
entries_move_touched lib e touched pid (deeds.Exit calls gone) = leaving_moves lib e touched pid (exiting (e.processes pid))
entries_move_touched lib e touched pid (deeds.Fault serial m p) = refl
entries_move_touched lib e touched pid (deeds.Write serial m object offset bytes) = writing_moves e touched pid serial _ (class_of (object_at lib m object))
entries_move_touched lib e touched pid (deeds.Debug serial m object offset bytes) = writing_moves e touched pid serial _ classes.Private
entries_move_touched lib e touched pid (deeds.Shared serial m object offset bytes) = refl
