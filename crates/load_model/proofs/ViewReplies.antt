-- What a view answers without an entry is what the loader answers.
use Rattle.std.proofs.Common.{◌≡◌, ℕ, zero, suc, ◌+◌, ◌-◌, ◌/◌, ◌%◌, ◌<◌, ◌≤◌, ◌==◌, ◌||◌, Bool, true, false, cond, if◌then◌else◌, not, List, [], ◌∷◌, map, find, Option, Some, None, option_map, Result, Ok, Err, refl, sym, ◌∙◌, ap, subst, arith}
use Rattle.std.specs.Prelude.{slice_index, unwrap_or, length}
use Rattle.std.specs.List.{AllByRecursion, range_with_len}
use Rattle.std.proofs.lemmas.Bool.{eqb-true, eqb-false}
use Rattle.lx_types.specs.Object.{class_of}
use Rattle.lx_types.specs.declared.object.Class.{Class}
use Rattle.lx_types.specs.declared.object.Class.TheVariants as classes
use Rattle.lx_types.specs.declared.object.PageId.{PageId}
use Rattle.lx_types.specs.declared.object.TheConstants.{PAGE_SIZE}
use Rattle.lx_types.specs.declared.entry.EntryKey.{EntryKey}
use Rattle.load_model.specs.declared.commands.Place.{Place}
use Rattle.load_model.specs.declared.commands.Command.{Command}
use Rattle.load_model.specs.declared.commands.Command.TheVariants as commands
use Rattle.load_model.specs.declared.commands.Reply.{Reply}
use Rattle.load_model.specs.declared.commands.Reply.TheVariants as replies
use Rattle.load_model.specs.declared.commands.Refusal.TheVariants.{Ended, NotTouched}
use Rattle.load_model.specs.declared.deeds.Entry.{Entry}
use Rattle.load_model.specs.Modules.{Spot, EntryFault, Library, Held, number_of, entry_spot, object_at, address_in}
use Rattle.load_model.specs.State.{Residence, Failing, Eager, reaches, residence_of, bases_of, attached_residence}
use Rattle.load_model.specs.Entering.{residence_from}
use Rattle.load_model.specs.Memory.{page, pages_over, Byte, Bytes, first_untouched}
use Rattle.load_model.specs.Refusals.{peek, when, class_refusal, span_refusal, residence_refusal, residence_if, residence_named, key_refusal}
use Rattle.load_model.specs.Histories.{state_after, Legal}
use Rattle.load_model.specs.Step.{Answer, steady, meant, spot_address, address_of, bytes_of, fine_answer}
use Rattle.load_model.specs.Laws.{unwritten_of}
use Rattle.load_model.specs.Views.{Mapped, Holding, mapped_pages, lying_byte, IsMapped, IsViewOf, state_for}
use Rattle.load_model.specs.TouchedPages.{has_page}
use Rattle.load_model.specs.ViewAnswers.{seen_process, view_refusal, is_mapped_at, bytes_in, view_byte, view_bytes, view_address, view_reply}
use Rattle.load_model.specs.ViewLaws.{AnsweredByView}
use Rattle.load_model.proofs.Bools.{and_left, and_right}
use Rattle.load_model.proofs.Orders.{OrdersNest, reaches_closed}
use Rattle.load_model.proofs.EntryReach.{SpotsAreOrdered}
use Rattle.load_model.proofs.Answers.{answer_by, answer_is}
use Rattle.load_model.proofs.Bytes.{with_writes, named_is, left_none, right_none, bases_by_stay, peeked_class}
use Rattle.load_model.proofs.Holding.{Inside, span_inside, range_same}
use Rattle.load_model.proofs.Touched.{fine_apart}
use Rattle.load_model.proofs.SerialsOwn.{serials_are_own}
use Rattle.load_model.proofs.Views.{seen_stay, named_by_view, refusals_by_view}

-- ---- a page that is mapped

pub record Found (P : Mapped → Type 0) (serial : ℕ) (q : PageId) (ps : List Mapped) : Type 0 where
  pub it : Mapped
  pub found : find (is_mapped_at serial q) ps ≡ Some it
  pub holds : P it
  pub serial_is : it.of.serial ≡ serial
  pub object_is : it.of.page.object ≡ q.object
  pub page_is : it.of.page.page ≡ q.page

found_in : {P : Mapped → Type 0} (serial : ℕ) (q : PageId) (ps : List Mapped) → AllByRecursion P ps → has_page (map (λ p. p.of) ps) serial q ≡ true → Found P serial q ps
found_in serial q [] all h = absurd cc
found_in {P} serial q (p ∷ ps) all h = step (is_mapped_at serial q p) refl h (λ rest. found_in serial q ps all.1 rest)
  where
    step : (b : Bool) → is_mapped_at serial q p ≡ b → b || has_page (map (λ p. p.of) ps) serial q ≡ true → (has_page (map (λ p. p.of) ps) serial q ≡ true → Found P serial q ps) →
        Found P serial q (p ∷ ps)
    step true is h later = record {
      it = p;
      found = ap (λ b. cond b (Some p) (find (is_mapped_at serial q) ps)) is;
      holds = all.0;
      serial_is = eqb-true p.of.serial serial (and_left _ _ is);
      object_is = eqb-true p.of.page.object q.object (and_left _ _ (and_right (p.of.serial == serial) _ is));
      page_is = eqb-true p.of.page.page q.page (and_right (p.of.page.object == q.object) _ (and_right (p.of.serial == serial) _ is));
    }
    step false is h later =
        let r : Found P serial q ps = later h in
        record {
          it = r.it;
          found = ap (λ b. cond b (Some p) (find (is_mapped_at serial q) ps)) is ∙ r.found;
          holds = r.holds;
          serial_is = r.serial_is;
          object_is = r.object_is;
          page_is = r.page_is;
        }

-- ---- the pages of a place

none_of_range : (f : ℕ → Bool) (len from n : ℕ) → find (λ k. not (f k)) (range_with_len from len) ≡ None → from ≤ n → n < from + len → f n ≡ true
none_of_range f zero from n none low high = absurd (let no : ⊥ = omega arith in no)
none_of_range f (suc len) from n none low high = step (f from) refl none (from == n) refl (λ rest more below. none_of_range f len (from + 1) n rest more below)
  where
    step : (b : Bool) → f from ≡ b → cond (not b) (Some from) (find (λ k. not (f k)) (range_with_len (from + 1) len)) ≡ None → (c : Bool) → (from == n) ≡ c →
        (find (λ k. not (f k)) (range_with_len (from + 1) len) ≡ None → from + 1 ≤ n → n < (from + 1) + len → f n ≡ true) → f n ≡ true
    step false is none c same later = absurd cc
    step true is none true same later = ap f (sym (eqb-true from n same)) ∙ is
    step true is none false same later =
        let apart : from ≡ n → ⊥ = eqb-false from n same in
        later none (omega arith) (omega arith)

-- the page of each byte of a place is among its pages
page_in_place : (f : ℕ → Bool) (offset len x : ℕ) → find (λ k. not (f k)) (pages_over offset len) ≡ None → offset ≤ x → x < offset + len → f (x / PAGE_SIZE) ≡ true
page_in_place f offset len x none low high = step (len == 0) refl none
  where
    step : (b : Bool) → (len == 0) ≡ b →
        find (λ k. not (f k)) (if b then [] else range_with_len (offset / PAGE_SIZE) ((offset + len - 1) / PAGE_SIZE + 1 - offset / PAGE_SIZE)) ≡ None → f (x / PAGE_SIZE) ≡ true
    step true is none = (let nothing : len ≡ 0 = eqb-true len 0 is in absurd (let no : ⊥ = omega (arith, nothing, low, high) in no))
    step false is none =
        let some : len ≡ 0 → ⊥ = eqb-false len 0 is in
        none_of_range f ((offset + len - 1) / PAGE_SIZE + 1 - offset / PAGE_SIZE) (offset / PAGE_SIZE) (x / PAGE_SIZE) none (first offset x low) (last offset len x some low high)
      where
        first : (a b : ℕ) → a ≤ b → a / PAGE_SIZE ≤ b / PAGE_SIZE
        first a b h = omega arith

        last : (offset len x : ℕ) → (len ≡ 0 → ⊥) → offset ≤ x → x < offset + len → x / PAGE_SIZE < offset / PAGE_SIZE + ((offset + len - 1) / PAGE_SIZE + 1 - offset / PAGE_SIZE)
        last offset len x some low high = omega arith

-- ---- bytes

pub own_byte : (c : Class) (lib : Library) (contents : Held) (e : Eager) (q : ℕ) (r : Residence) (object x : ℕ) → class_refusal peek c ≡ None →
    lying_byte c lib contents e q r object x ≡ Byte lib contents e q r object x
own_byte classes.Code lib contents e q r object x h = refl
own_byte classes.Private lib contents e q r object x h = refl
own_byte classes.Shared lib contents e q r object x h = cc

pub residence_is : (lib : Library) (e : Eager) (q m : ℕ) (r : Residence) → attached_residence lib e q m ≡ Some r → residence_of e m ≡ Some r
unfolding attached_residence
residence_is lib e q m r is = step (reaches lib (e.processes q) m) is
  where
    step : (b : Bool) → (if b then residence_of e m else None) ≡ Some r → residence_of e m ≡ Some r
    step true is = is
    step false is = cc

pub attached_is_resident : (lib : Library) (e : Eager) (q m : ℕ) → reaches lib (e.processes q) m ≡ true → attached_residence lib e q m ≡ residence_of e m
unfolding attached_residence
attached_is_resident lib e q m reached = ap (λ b. if b then residence_of e m else None) reached

pub attached_named_is : (lib : Library) (e : Eager) (q : ℕ) (name : List ℕ) (r : Residence) → residence_named lib e q name ≡ Some r → attached_residence lib e q r.«module» ≡ Some r
unfolding residence_named
attached_named_is lib e q name r is = sym (ap (residence_if lib e q) (named_is lib e q name r is).1) ∙ is

some_is : (f : Reply → Answer) {a b : Reply} → Some a ≡ Some b → f a ≡ f b
some_is f {a} {b} e = (let same : a ≡ b = cc in ap f same)

byte_by_view : (lib : Library) (failing : Failing) (contents : Held) (v : Holding) (h : List Entry) (r : Residence) (object x : ℕ) → Legal lib failing contents h →
    IsViewOf lib contents v (state_after lib failing h) → attached_residence lib (state_after lib failing h) v.pid r.«module» ≡ Some r →
    has_page (mapped_pages v) r.serial (page object (x / PAGE_SIZE)) ≡ true → x < (object_at lib r.«module» object).size →
    class_refusal peek (class_of (object_at lib r.«module» object)) ≡ None →
    Byte lib contents (state_after lib failing h) v.pid r object x ≡ view_byte v r.serial object x
byte_by_view lib failing contents v h r object x legal view there touched below class =
    let e : Eager = state_after lib failing h in
    let at : Found (IsMapped lib contents e v.pid) r.serial (page object (x / PAGE_SIZE)) v.mapped = found_in r.serial (page object (x / PAGE_SIZE)) v.mapped view.mapped touched in
    let same : at.holds.residence ≡ r =
    serials_are_own lib failing contents h at.holds.residence.«module» r.«module» at.holds.residence r legal (residence_is lib e v.pid _ _ at.holds.there) (residence_is lib e v.pid _ _ there)
    (sym at.holds.serial ∙ at.serial_is)
    in
    let lies : slice_index at.it.bytes (x % PAGE_SIZE) ≡ lying_byte (class_of (object_at lib r.«module» object)) lib contents e v.pid r object x =
    bytes_at at.it object at.object_is at.holds.residence same
    (at.holds.bytes x (sym at.page_is) (subst (λ (s : Residence). x < (object_at lib s.«module» at.it.of.page.object).size) (sym same) (subst (λ o. x < (object_at lib r.«module» o).size) (sym at.object_is) below)))
    in
    sym (ap (λ o. slice_index (bytes_in o) (x % PAGE_SIZE)) at.found ∙ lies ∙ own_byte (class_of (object_at lib r.«module» object)) lib contents e v.pid r object x class)
  where
    bytes_at : (p : Mapped) (o : ℕ) → p.of.page.object ≡ o → (s : Residence) → s ≡ r →
        slice_index p.bytes (x % PAGE_SIZE) ≡
        lying_byte (class_of (object_at lib s.«module» p.of.page.object)) lib contents (state_after lib failing h) v.pid s p.of.page.object x →
        slice_index p.bytes (x % PAGE_SIZE) ≡ lying_byte (class_of (object_at lib r.«module» o)) lib contents (state_after lib failing h) v.pid r o x
    bytes_at p o at s same is =
        is ∙ ap (λ (k : ℕ). lying_byte (class_of (object_at lib s.«module» k)) lib contents (state_after lib failing h) v.pid s k x) at
        ∙ ap (λ (t : Residence). lying_byte (class_of (object_at lib t.«module» o)) lib contents (state_after lib failing h) v.pid t o x) same

not_touched : (o : Option ℕ) → option_map NotTouched o ≡ None → o ≡ None
not_touched None h = refl
not_touched (Some n) h = cc

bytes_by_view : (lib : Library) (failing : Failing) (contents : Held) (v : Holding) (h : List Entry) (at : Place) → Legal lib failing contents h →
    IsViewOf lib contents v (state_after lib failing h) → (o : Option Residence) → residence_named lib (state_after lib failing h) v.pid at.«module» ≡ o →
    residence_refusal lib (seen_process v) peek at (unwritten_of o) ≡ None →
    bytes_of lib contents (state_after lib failing h) v.pid at o ≡ view_bytes v at (unwritten_of o)
unfolding Bytes
bytes_by_view lib failing contents v h at legal view None is fine = refl
bytes_by_view lib failing contents v h at legal view (Some r) is fine =
    let e : Eager = state_after lib failing h in
    let inside : Inside lib r.«module» at.object at.offset at.len = span_inside lib peek r.«module» at.object at.offset at.len (left_none _ _ fine) in
    let end : at.offset + at.len ≤ (object_at lib r.«module» at.object).size = inside.end in
    let untouched : first_untouched (seen_process v) r.serial at.object at.offset at.len ≡ None = not_touched _ (right_none (span_refusal lib peek r.«module» at.object at.offset at.len) _ fine) in
    range_same _ _ at.len at.offset
    (λ x low high.
    let below : x < (object_at lib r.«module» at.object).size = omega (arith, end, high) in
    byte_by_view lib failing contents v h r at.object x legal view (attached_named_is lib e v.pid at.«module» r is)
    (page_in_place (λ n. has_page (mapped_pages v) r.serial (page at.object n)) at.offset at.len x untouched low high) below
    (peeked_class lib (seen_process v) at (with_writes r []) fine))

-- ---- addresses

address_by_view : OrdersNest → SpotsAreOrdered → (lib : Library) (contents : Held) (v : Holding) (e : Eager) (name : List ℕ) (key : EntryKey) → IsViewOf lib contents v e →
    (o : Option Residence) → residence_named lib e v.pid name ≡ o → key_refusal lib key (unwritten_of o) ≡ None →
    spot_address e (entry_spot lib (meant lib name) key) ≡ view_address v (entry_spot lib (meant lib name) key)
address_by_view nest spots lib contents v e name key view None is fine = cc
address_by_view nest spots lib contents v e name key view (Some a) is fine =
    let it : (reaches lib (e.processes v.pid) a.«module» ≡ true) × (number_of lib name ≡ Some a.«module») = named_is lib e v.pid name a is in
    let same : a.«module» ≡ meant lib name = sym (ap (λ n. unwrap_or n (length lib)) it.1) in
    by_spot (sym (ap (reaches lib (e.processes v.pid)) same) ∙ it.0) (entry_spot lib (meant lib name) key) refl
  where
    by_spot : reaches lib (e.processes v.pid) (meant lib name) ≡ true → (r : Result Spot EntryFault) → entry_spot lib (meant lib name) key ≡ r → spot_address e r ≡ view_address v r
    by_spot reached (Err fault) at = refl
    by_spot reached (Ok s) at =
        let reached_too : reaches lib (e.processes v.pid) s.«module» ≡ true = reaches_closed nest lib (e.processes v.pid) (meant lib name) s.«module» reached (spots lib (meant lib name) key s at) in
        ap (λ bases. address_in bases s.object s.offset)
        (ap bases_of (sym (attached_is_resident lib e v.pid s.«module» reached_too)) ∙ bases_by_stay (attached_residence lib e v.pid s.«module»)
        ∙ ap bases_of (sym (seen_stay (attached_residence lib e v.pid s.«module»)) ∙ ap (option_map residence_from) (sym (view.residences s.«module»))))

-- ---- replies

fine_by_view : OrdersNest → SpotsAreOrdered → (lib : Library) (failing : Failing) (contents : Held) (v : Holding) (h : List Entry) (command : Command) (reply : Reply) →
    Legal lib failing contents h → IsViewOf lib contents v (state_after lib failing h) → view_refusal lib v command ≡ None → view_reply lib v command ≡ Some reply →
    fine_answer lib contents (state_after lib failing h) v.pid command ≡ steady reply
unfolding fine_answer address_of view_refusal
fine_by_view nest spots lib failing contents v h (commands.Touch at) reply legal view fine is = some_is (λ r. steady r) is
fine_by_view nest spots lib failing contents v h (commands.Peek at) reply legal view fine is =
    let e : Eager = state_after lib failing h in
    let inner : residence_refusal lib (seen_process v) peek at (unwritten_of (residence_named lib e v.pid at.«module»)) ≡ None =
    ap (residence_refusal lib (seen_process v) peek at) (named_by_view lib contents v e at.«module» view) ∙ right_none (when v.ended Ended) _ fine
    in
    ap (λ bytes. steady (replies.Bytes bytes))
    (bytes_by_view lib failing contents v h at legal view (residence_named lib e v.pid at.«module») refl inner ∙ ap (view_bytes v at) (named_by_view lib contents v e at.«module» view))
    ∙ some_is (λ r. steady r) is
fine_by_view nest spots lib failing contents v h (commands.Query name key) reply legal view fine is =
    let e : Eager = state_after lib failing h in
    let inner : key_refusal lib key (unwritten_of (residence_named lib e v.pid name)) ≡ None =
    ap (key_refusal lib key) (named_by_view lib contents v e name view) ∙ right_none (when v.ended Ended) _ fine
    in
    ap (λ a. steady (replies.Address a)) (address_by_view nest spots lib contents v e name key view (residence_named lib e v.pid name) refl inner) ∙ some_is (λ r. steady r) is
fine_by_view nest spots lib failing contents v h (commands.GetRes name ty id) reply legal view fine is = some_is (λ r. steady r) is
fine_by_view nest spots lib failing contents v h (commands.Start name) reply legal view fine is = cc
fine_by_view nest spots lib failing contents v h (commands.Load name) reply legal view fine is = cc
fine_by_view nest spots lib failing contents v h (commands.Free name) reply legal view fine is = cc
fine_by_view nest spots lib failing contents v h (commands.Shared at) reply legal view fine is = cc
fine_by_view nest spots lib failing contents v h (commands.Write at bytes) reply legal view fine is = cc
fine_by_view nest spots lib failing contents v h (commands.Debug at bytes) reply legal view fine is = cc
fine_by_view nest spots lib failing contents v h commands.Exit reply legal view fine is = cc

pub answered_by_view : OrdersNest → SpotsAreOrdered → AnsweredByView
answered_by_view nest spots lib failing contents v h command reply legal stands fine is =
    let e : Eager = state_after lib failing h in
    answer_is lib contents (state_for lib failing v h) v.pid command
    ∙ ap (answer_by (fine_answer lib contents (state_for lib failing v h) v.pid command)) (refusals_by_view lib contents v e command stands.view ∙ fine)
    ∙ fine_apart lib contents e (λ q. mapped_pages v) v.pid command ∙ fine_by_view nest spots lib failing contents v h command reply legal stands.view fine is
