-- What each process can say of its own items holds of all.
use Rattle.std.proofs.Common.{◌≡◌, ℕ, ◌≤◌, ◌==◌, ◌&&◌, ◌||◌, Bool, true, false, not, if◌then◌else◌, List, [], ◌∷◌, ◌++◌, filter, find, Option, Some, None, refl, sym, ◌∙◌, ap, subst, eqb-true, true≢false, append-nil, IsTrue}
use Rattle.std.specs.List.{list_any, list_all}
use Rattle.std.proofs.lemmas.List.Elements.{filter-append}
use Rattle.lx_types.specs.declared.object.PageId.{PageId}
use Rattle.lx_types.specs.Object.{class_of}
use Rattle.load_model.specs.declared.commands.Place.{Place}
use Rattle.load_model.specs.declared.commands.Command.{Command}
use Rattle.load_model.specs.declared.commands.Command.TheVariants as commands
use Rattle.load_model.specs.declared.commands.Reply.{Reply}
use Rattle.load_model.specs.declared.commands.Reply.TheVariants as replies
use Rattle.load_model.specs.declared.deeds.Deed.{Deed}
use Rattle.load_model.specs.declared.deeds.Deed.TheVariants as deeds
use Rattle.load_model.specs.declared.deeds.Entry.{Entry}
use Rattle.load_model.specs.Modules.{Library, Held, object_at}
use Rattle.load_model.specs.State.{Failing, Eager, Residence, serial_of, is_among}
use Rattle.load_model.specs.Memory.{page, pages_over}
use Rattle.load_model.specs.Refusals.{residence_named}
use Rattle.load_model.specs.Asks.{ask_in, deed_of, may_ask, is_own}
use Rattle.load_model.specs.TouchedPages.{has_page}
use Rattle.load_model.proofs.Retouched.{touched_is_apart}
use Rattle.session_model.specs.declared.sessions.Line.{Line}
use Rattle.session_model.specs.Merging.{Item, entry, line, state_after_items, AllPlaces, is_command_of, FaultLeads, TouchFollows, Replies, EntryReplies, fault_leads, some_touches, touches, is_first_touch, touch_follows, had_faults, is_fault_item, uses_touched}
use Rattle.session_model.specs.MergeLaws.{touched_in}
use Rattle.session_model.proofs.UsedPages.{uses_by_pages}
use Rattle.merge_laws.specs.Accounts.{Claim, is_of, Only}
use Rattle.merge_laws.proofs.Alike.{SameFor, keeps, seen_by, states_alike, same_pages, answer_alike, named_alike}

-- ---- what a process can see of a list, one item longer

seen_kept : (pid : ℕ) (before : List Item) (item : Item) → keeps pid item ≡ true → seen_by pid (before ++ item ∷ []) ≡ seen_by pid before ++ item ∷ []
seen_kept pid before item is = filter-append (keeps pid) before (item ∷ []) ∙ ap (λ l. seen_by pid before ++ l) (rw is refl)

seen_dropped : (pid : ℕ) (before : List Item) (item : Item) → keeps pid item ≡ false → seen_by pid (before ++ item ∷ []) ≡ seen_by pid before
seen_dropped pid before item is = filter-append (keeps pid) before (item ∷ []) ∙ (ap (λ l. seen_by pid before ++ l) (rw is refl) ∙ append-nil (seen_by pid before))

-- ---- from the own merge to that of all

module _ (P : Claim) (pid : ℕ)
    (up : (before : List Item) (item : Item) (after : List Item) → is_of pid item ≡ true → P (seen_by pid before) item (seen_by pid after) → P before item after) where
  step : (before : List Item) (item : Item) (items : List Item) (b : Bool) → keeps pid item ≡ b →
      (AllPlaces (Only P pid) (seen_by pid (before ++ item ∷ [])) (seen_by pid items) → AllPlaces (Only P pid) (before ++ item ∷ []) items) →
      AllPlaces (Only P pid) (seen_by pid before) (if b then item ∷ seen_by pid items else seen_by pid items) → Only P pid before item items × AllPlaces (Only P pid) (before ++ item ∷ []) items
  step before item items true is rest h =
      ((λ mine. up before item items mine (h.0 mine)), rest (subst (λ b. AllPlaces (Only P pid) b (seen_by pid items)) (sym (seen_kept pid before item is)) h.1))
  step before item items false is rest h =
      ((λ mine. absurd (true≢false (sym (of_kept pid item mine) ∙ is))), rest (subst (λ b. AllPlaces (Only P pid) b (seen_by pid items)) (sym (seen_dropped pid before item is)) h))
    where
      of_kept : (pid : ℕ) (item : Item) → is_of pid item ≡ true → keeps pid item ≡ true
      of_kept pid (entry x) mine = refl
      of_kept pid (line q l) mine = mine

  pub transfers : (before items : List Item) → AllPlaces (Only P pid) (seen_by pid before) (seen_by pid items) → AllPlaces (Only P pid) before items
  transfers before [] h = tt
  transfers before (item ∷ items) h = step before item items (keeps pid item) refl (transfers (before ++ item ∷ []) items) h

-- ---- what is said of an item of the process

-- the state after what it can see, and after all
module _ (lib : Library) (failing : Failing) (contents : Held) (pid : ℕ) (before : List Item) where
  abbrev e : Eager
  e = state_after_items lib failing (seen_by pid before)

  abbrev f : Eager
  f = state_after_items lib failing before

  same : SameFor pid e f
  same = states_alike lib failing pid before

  line_up : (l : Line) (after : List Item) → Replies lib failing contents (seen_by pid before) (line pid l) after →
      Replies lib failing contents before (line pid l) after
  line_up l after h = answer_alike lib contents pid e f l.command same ∙ h

  uses_alike : (d : Deed) → uses_touched f pid d ≡ uses_touched e pid d
  uses_alike d =
      ap (λ g. uses_touched g pid d) same.is ∙ uses_by_pages e same.touched (touched_in e) pid d (same_pages (same.touched pid) (touched_in e pid) same.own)

  entry_up : (x : Entry) → x.pid ≡ pid → EntryReplies lib contents e x → EntryReplies lib contents f x
  entry_up x is h =
      let apart = touched_is_apart lib contents e same.touched x.pid (ask_in x.deed) in
      record {
        may = subst (λ g. IsTrue (may_ask lib g x.pid (ask_in x.deed))) (sym same.is) (subst IsTrue (sym apart.0) h.may);
        done = h.done ∙ (sym apart.1 ∙ ap (λ g. deed_of lib contents g x.pid (ask_in x.deed)) (sym same.is));
        touched = subst IsTrue (sym (ap (λ (k : ℕ). uses_touched f k x.deed) is ∙ (uses_alike x.deed ∙ ap (λ (k : ℕ). uses_touched e k x.deed) (sym is)))) h.touched;
      }

  first_touch_alike : (serial : ℕ) (p : PageId) (c : Command) (r : Reply) → is_first_touch lib e pid serial p c r ≡ is_first_touch lib f pid serial p c r
  first_touch_alike serial p (commands.Touch at) replies.Fine =
      ap (λ o. (serial_of o == serial) && (at.object == p.object) && is_among (pages_over at.offset at.len) p.page && not (has_page (touched_in e pid) serial p)) (sym (named_alike lib pid e f at.«module» same))
      ∙ ap (λ ts. (serial_of (residence_named lib f pid at.«module») == serial) && (at.object == p.object) && is_among (pages_over at.offset at.len) p.page && not (has_page ts serial p))
      (sym same.own ∙ ap (λ g. touched_in g pid) (sym same.is))
  first_touch_alike serial p c r = refl

  touches_alike : (serial : ℕ) (p : PageId) (item : Item) → is_command_of pid item ≡ true → touches lib e serial p item ≡ touches lib f serial p item
  touches_alike serial p (entry x) h = refl
  touches_alike serial p (line q l) h =
      subst (λ (k : ℕ). is_first_touch lib e k serial p l.command l.reply ≡ is_first_touch lib f k serial p l.command l.reply) (sym (eqb-true q pid h)) (first_touch_alike serial p l.command l.reply)

  some_alike : (serial : ℕ) (p : PageId) (o : Option Item) → ((item : Item) → o ≡ Some item → is_command_of pid item ≡ true) →
      some_touches lib e serial p o ≡ some_touches lib f serial p o
  some_alike serial p None h = refl
  some_alike serial p (Some item) h = touches_alike serial p item (h item refl)

  any_kept : (g : Item → Bool) → ((q : ℕ) (l : Line) → g (line q l) ≡ false) → (items : List Item) → list_any g (seen_by pid items) ≡ list_any g items
  any_kept g none [] = refl
  any_kept g none (entry x ∷ items) = ap (λ b. g (entry x) || b) (any_kept g none items)
  any_kept g none (line q l ∷ items) = line_any (q == pid) ∙ (any_kept g none items ∙ sym (ap (λ b. b || list_any g items) (none q l)))
    where
      line_any : (b : Bool) → list_any g (if b then line q l ∷ seen_by pid items else seen_by pid items) ≡ list_any g (seen_by pid items)
      line_any true = ap (λ b. b || list_any g (seen_by pid items)) (none q l)
      line_any false = refl

  had_alike : (at : Place) (o : Option Residence) → had_faults lib (seen_by pid before) at o ≡ had_faults lib before at o
  had_alike at None = refl
  had_alike at (Some r) = λ i. list_all (λ n. is_own (class_of (object_at lib r.«module» (page at.object n).object)) || any_kept (is_fault_item r.serial (page at.object n)) (λ q l. refl) before i) (pages_over at.offset at.len)

  follows_alike : (c : Command) (r : Reply) → touch_follows lib failing (seen_by pid before) pid c r ≡ touch_follows lib failing before pid c r
  follows_alike (commands.Touch at) replies.Fine =
      ap (had_faults lib (seen_by pid before) at) (sym (named_alike lib pid e f at.«module» same)) ∙ had_alike at (residence_named lib f pid at.«module»)
  follows_alike c r = refl

module _ (pid : ℕ) where
  find_kept : (items : List Item) → find (is_command_of pid) (seen_by pid items) ≡ find (is_command_of pid) items
  find_kept [] = refl
  find_kept (entry x ∷ items) = ap (λ o. if is_command_of pid (entry x) then Some (entry x) else o) (find_kept items)
  find_kept (line q l ∷ items) = line_find (q == pid) refl (find_kept items)
    where
      line_find : (b : Bool) → (q == pid) ≡ b → find (is_command_of pid) (seen_by pid items) ≡ find (is_command_of pid) items →
          find (is_command_of pid) (if b then line q l ∷ seen_by pid items else seen_by pid items) ≡ (if q == pid then Some (line q l) else find (is_command_of pid) items)
      line_find true is h = ap (λ o. if q == pid then Some (line q l) else o) h
      line_find false is h = h ∙ sym (ap (λ b. if b then Some (line q l) else find (is_command_of pid) items) is)

  find_is : (items : List Item) (item : Item) → find (is_command_of pid) items ≡ Some item → is_command_of pid item ≡ true
  find_is [] item h = absurd (cc (h))
  find_is (x ∷ items) item h = at_first (is_command_of pid x) refl h (find_is items item)
    where
      at_first : (b : Bool) → is_command_of pid x ≡ b → (if b then Some x else find (is_command_of pid) items) ≡ Some item →
          (find (is_command_of pid) items ≡ Some item → is_command_of pid item ≡ true) → is_command_of pid item ≡ true
      at_first true is h rest = let same : x ≡ item = cc (h) in subst (λ z. is_command_of pid z ≡ true) same is
      at_first false is h rest = rest h

  pub commands_kept : (items : List Item) → filter (is_command_of pid) (seen_by pid items) ≡ filter (is_command_of pid) items
  commands_kept [] = refl
  commands_kept (entry x ∷ items) = ap (λ xs. if is_command_of pid (entry x) then entry x ∷ xs else xs) (commands_kept items)
  commands_kept (line q l ∷ items) = line_filter (q == pid) refl (commands_kept items)
    where
      line_filter : (b : Bool) → (q == pid) ≡ b → filter (is_command_of pid) (seen_by pid items) ≡ filter (is_command_of pid) items →
          filter (is_command_of pid) (if b then line q l ∷ seen_by pid items else seen_by pid items) ≡ (if q == pid then line q l ∷ filter (is_command_of pid) items else filter (is_command_of pid) items)
      line_filter true is h = ap (λ xs. if q == pid then line q l ∷ xs else xs) h
      line_filter false is h = h ∙ sym (ap (λ b. if b then line q l ∷ filter (is_command_of pid) items else filter (is_command_of pid) items) is)

module _ (lib : Library) (failing : Failing) (contents : Held) (pid : ℕ) where
  pub replies_up : (before : List Item) (item : Item) (after : List Item) → is_of pid item ≡ true →
      Replies lib failing contents (seen_by pid before) item (seen_by pid after) → Replies lib failing contents before item after
  replies_up before (entry x) after mine h = entry_up lib failing contents pid before x (eqb-true x.pid pid mine) h
  replies_up before (line q l) after mine h =
      let is = eqb-true q pid mine in
      subst (λ (k : ℕ). Replies lib failing contents before (line k l) after) (sym is) (line_up lib failing contents pid before l after (subst (λ (k : ℕ). Replies lib failing contents (seen_by pid before) (line k l) (seen_by pid after)) is h))

  leads_up : (before : List Item) (d : Deed) (after : List Item) →
      fault_leads lib (state_after_items lib failing (seen_by pid before)) pid d (seen_by pid after) ≡ fault_leads lib (state_after_items lib failing before) pid d after
  leads_up before (deeds.Fault serial m p) after =
      some_alike lib failing contents pid before serial p (find (is_command_of pid) (seen_by pid after)) (find_is pid (seen_by pid after))
      ∙ ap (some_touches lib (state_after_items lib failing before) serial p) (find_kept pid after)
  leads_up before d after = refl

  pub faults_up : (before : List Item) (item : Item) (after : List Item) → is_of pid item ≡ true →
      FaultLeads lib failing (seen_by pid before) item (seen_by pid after) → FaultLeads lib failing before item after
  faults_up before (entry x) after mine h =
      let is = eqb-true x.pid pid mine in
      subst (λ (k : ℕ). IsTrue (fault_leads lib (state_after_items lib failing before) k x.deed after)) (sym is)
      (subst IsTrue (leads_up before x.deed after) (subst (λ (k : ℕ). IsTrue (fault_leads lib (state_after_items lib failing (seen_by pid before)) k x.deed (seen_by pid after))) is h))
  faults_up before (line q l) after mine h = tt

  pub touches_up : (before : List Item) (item : Item) (after : List Item) → is_of pid item ≡ true →
      TouchFollows lib failing (seen_by pid before) item (seen_by pid after) → TouchFollows lib failing before item after
  touches_up before (entry x) after mine h = tt
  touches_up before (line q l) after mine h =
      let is = eqb-true q pid mine in
      subst (λ (k : ℕ). IsTrue (touch_follows lib failing before k l.command l.reply)) (sym is)
      (subst IsTrue (follows_alike lib failing contents pid before l.command l.reply) (subst (λ (k : ℕ). IsTrue (touch_follows lib failing (seen_by pid before) k l.command l.reply)) is h))

-- ---- of all processes

-- each item is of one of them
abbrev pub AllOf : ℕ → List Item → Type 0
AllOf n [] = Unit {0}
AllOf n (item ∷ items) = ((pid : ℕ) × (1 ≤ pid) × (pid ≤ n) × (is_of pid item ≡ true)) × AllOf n items

pub gathers : (P : Claim) (n : ℕ) (before items : List Item) → AllOf n items →
    ((pid : ℕ) → 1 ≤ pid → pid ≤ n → AllPlaces (Only P pid) before items) → AllPlaces P before items
gathers P n before [] all each = tt
gathers P n before (item ∷ items) all each =
    let who = all.0 in
    ((each who.0 who.1 who.2).0 who.3, gathers P n (before ++ item ∷ []) items all.1 (λ pid a b. (each pid a b).1))
