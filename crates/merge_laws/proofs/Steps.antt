-- What a process can say of itself, one step further.
use Rattle.std.proofs.Common.{◌≡◌, ℕ, ◌≤◌, ◌==◌, ◌&&◌, Bool, true, false, not, if◌then◌else◌, List, [], ◌∷◌, ◌++◌, length, filter, inr, refl, sym, ◌∙◌, ap, subst, arith, append_assoc, append-nil, length-append, eq-eqb, true≢false}
use Rattle.std.proofs.lemmas.List.Elements.{filter-append}
use Rattle.load_model.specs.declared.commands.Command.{Command}
use Rattle.load_model.specs.declared.deeds.Entry.{Entry}
use Rattle.load_model.specs.Modules.{Library, Held}
use Rattle.load_model.specs.State.{Failing}
use Rattle.session_model.specs.declared.sessions.Line.{Line}
use Rattle.session_model.specs.Merging.{Item, entry, line, FrontsFrom, AllPlaces, AreFor, IsFor, is_command_of, is_fault, FaultLeads, TouchFollows, Replies}
use Rattle.merge_laws.specs.Accounts.{Claim, own_items, own_state, is_of, Only, AccountBy}
use Rattle.merge_laws.specs.MidTouch.{touch_line, IsFaultFor, LeadsOrWaits}
use Rattle.merge_laws.specs.AccountLaws.{AccountBegins, OthersEntryStays, OwnEntryAdds, OwnLineAdds, TouchBegins, TouchWaits, TouchFaults, TouchEnds, AccountGoesOn, TouchGoesOn}
use Rattle.merge_laws.proofs.Growing.{items_entry, items_line, places_end}
use Rattle.merge_laws.proofs.Leading.{no_fault, is_a_fault, still_leads, leads_or_waits, still_waits, now_leads}
use Rattle.merge_laws.proofs.Alike.{flip}

-- ---- fronts and commands

pub higher : (low high more : ℕ) (lines : List Line) → high ≤ more → FrontsFrom low high lines → FrontsFrom low more lines
higher low high more [] le rise = tt
higher low high more (l ∷ lines) le rise = let most : l.front ≤ high = rise.1 in (rise.0, omega arith, higher l.front high more lines le rise.2)

fronts_end : (low high : ℕ) (lines : List Line) (l : Line) → FrontsFrom low high lines → low ≤ high → l.front ≡ high → FrontsFrom low high (lines ++ l ∷ [])
fronts_end low high [] l rise le is = (omega arith, omega arith, tt)
fronts_end low high (x ∷ lines) l rise le is = (rise.0, rise.1, fronts_end x.front high lines l rise.2 rise.1 is)

are_for_end : (lib : Library) (items : List Item) (cs : List Command) (i : Item) (c : Command) → AreFor lib items cs → IsFor lib i c →
    AreFor lib (items ++ i ∷ []) (cs ++ c ∷ [])
are_for_end lib [] [] i c all is = (is, tt)
are_for_end lib (x ∷ items) (d ∷ cs) i c all is = (all.0, are_for_end lib items cs i c all.1 is)
are_for_end lib [] (d ∷ cs) i c all is = absurd all
are_for_end lib (x ∷ items) [] i c all is = absurd all

command_end : (k : ℕ) (items : List Item) (z : Item) → is_command_of k z ≡ true → filter (is_command_of k) (items ++ z ∷ []) ≡ filter (is_command_of k) items ++ z ∷ []
command_end k items z is = filter-append (is_command_of k) items (z ∷ []) ∙ ap (λ b. filter (is_command_of k) items ++ (if b then z ∷ [] else [])) is

no_command_end : (k : ℕ) (items : List Item) (z : Item) → is_command_of k z ≡ false → filter (is_command_of k) (items ++ z ∷ []) ≡ filter (is_command_of k) items
no_command_end k items z is =
    filter-append (is_command_of k) items (z ∷ []) ∙ (ap (λ b. filter (is_command_of k) items ++ (if b then z ∷ [] else [])) is ∙ append-nil (filter (is_command_of k) items))

-- ---- one item more

module _ (lib : Library) (failing : Failing) (contents : Held) (k : ℕ) (F G : Claim) (h : List Entry) (lines : List Line) (cs : List Command)
    (own : AccountBy F lib failing contents k h lines cs) where
  abbrev items : List Item
  items = own_items k h lines

  still_follows : (z : Item) (b : List Item) (i : Item) (bh : List Item) → Only (TouchFollows lib failing) k b i bh → Only (TouchFollows lib failing) k b i (bh ++ z ∷ [])
  still_follows z b (entry y) bh h mine = tt
  still_follows z b (line q l) bh h mine = h mine

  still_replies : (z : Item) (b : List Item) (i : Item) (bh : List Item) → Only (Replies lib failing contents) k b i bh →
      Only (Replies lib failing contents) k b i (bh ++ z ∷ [])
  still_replies z b (entry y) bh h mine = h mine
  still_replies z b (line q l) bh h mine = h mine

  entry_more : (x : Entry) (more : List Command) → ((b : List Item) (i : Item) (bh : List Item) → Only F k b i bh → Only G k b i (bh ++ entry x ∷ [])) →
      AreFor lib (filter (is_command_of k) (items ++ entry x ∷ [])) more → Only G k items (entry x) [] → Only (Replies lib failing contents) k items (entry x) [] →
      AccountBy G lib failing contents k (h ++ x ∷ []) lines more
  entry_more x more keep commands fault reply =
      let grown = items_entry k h x lines own.fronts in
      record {
        fronts = higher 0 (length h) (length (h ++ x ∷ [])) lines (omega (arith, length-append h (x ∷ []))) own.fronts;
        commands = subst (λ l. AreFor lib (filter (is_command_of k) l) more) (sym grown) commands;
        faults = subst (AllPlaces (Only G k) []) (sym grown) (places_end (Only F k) (Only G k) [] items (entry x) keep own.faults fault);
        touches = subst (AllPlaces (Only (TouchFollows lib failing) k) []) (sym grown)
            (places_end (Only (TouchFollows lib failing) k) (Only (TouchFollows lib failing) k) [] items (entry x) (still_follows (entry x)) own.touches (λ mine. tt));
        replies = subst (AllPlaces (Only (Replies lib failing contents) k) []) (sym grown)
            (places_end (Only (Replies lib failing contents) k) (Only (Replies lib failing contents) k) [] items (entry x) (still_replies (entry x)) own.replies reply);
      }

  -- an entry that is no command of the process
  entry_between : (x : Entry) → is_command_of k (entry x) ≡ false → ((b : List Item) (i : Item) (bh : List Item) → Only F k b i bh → Only G k b i (bh ++ entry x ∷ [])) →
      Only G k items (entry x) [] → Only (Replies lib failing contents) k items (entry x) [] → AccountBy G lib failing contents k (h ++ x ∷ []) lines cs
  entry_between x plain keep fault reply = entry_more x cs keep (subst (λ l. AreFor lib l cs) (sym (no_command_end k items (entry x) plain)) own.commands) fault reply

  line_more : (l : Line) → l.front ≡ length h → ((b : List Item) (i : Item) (bh : List Item) → Only F k b i bh → Only G k b i (bh ++ line k l ∷ [])) →
      Only G k items (line k l) [] →
      TouchFollows lib failing items (line k l) [] → Replies lib failing contents items (line k l) [] →
      AccountBy G lib failing contents k h (lines ++ l ∷ []) (cs ++ l.command ∷ [])
  line_more l front keep fault follows reply =
      let grown = items_line k h lines l front in
      record {
        fronts = fronts_end 0 (length h) lines l own.fronts (omega arith) front;
        commands = subst (λ xs. AreFor lib xs (cs ++ l.command ∷ [])) (sym (ap (filter (is_command_of k)) grown ∙ command_end k items (line k l) (eq-eqb k k refl)))
            (are_for_end lib (filter (is_command_of k) items) cs (line k l) l.command own.commands refl);
        faults = subst (AllPlaces (Only G k) []) (sym grown) (places_end (Only F k) (Only G k) [] items (line k l) keep own.faults fault);
        touches = subst (AllPlaces (Only (TouchFollows lib failing) k) []) (sym grown)
            (places_end (Only (TouchFollows lib failing) k) (Only (TouchFollows lib failing) k) [] items (line k l) (still_follows (line k l)) own.touches (λ mine. follows));
        replies = subst (AllPlaces (Only (Replies lib failing contents) k) []) (sym grown)
            (places_end (Only (Replies lib failing contents) k) (Only (Replies lib failing contents) k) [] items (line k l) (still_replies (line k l)) own.replies (λ mine. reply));
      }

-- ---- whose an entry is

not_own : (k : ℕ) (x : Entry) → (k == x.pid) ≡ false → is_of k (entry x) ≡ true → ⊥
not_own k x apart mine = true≢false (sym mine ∙ flip k x.pid apart)

not_its_command : (k : ℕ) (x : Entry) → (k == x.pid) ≡ false → is_command_of k (entry x) ≡ false
not_its_command k x apart = ap (λ b. b && not (is_fault x.deed)) (flip k x.pid apart)

-- ---- the laws

pub account_begins : AccountBegins
unfolding own_items
account_begins lib failing contents k = record { fronts = tt; commands = tt; faults = tt; touches = tt; replies = tt }

pub others_entry_stays : OthersEntryStays
others_entry_stays lib failing contents k h lines cs x apart own =
    entry_between lib failing contents k (FaultLeads lib failing) (FaultLeads lib failing) h lines cs own x (not_its_command k x apart) (still_leads lib failing k (entry x))
    (λ mine. absurd (not_own k x apart mine)) (λ mine. absurd (not_own k x apart mine))

pub own_entry_adds : OwnEntryAdds
own_entry_adds lib failing contents k h lines cs x c is plain asks replies own =
    let mine : is_command_of k (entry x) ≡ true = ap (λ b. b && not (is_fault x.deed)) (eq-eqb x.pid k is) ∙ ap not plain in
    entry_more lib failing contents k (FaultLeads lib failing) (FaultLeads lib failing) h lines cs own x (cs ++ c ∷ []) (still_leads lib failing k (entry x))
    (subst (λ l. AreFor lib l (cs ++ c ∷ [])) (sym (command_end k (own_items k h lines) (entry x) mine)) (are_for_end lib (filter (is_command_of k) (own_items k h lines)) cs (entry x) c own.commands asks))
    (λ mine. no_fault lib _ x.pid x.deed [] plain) (λ mine. replies)

pub own_line_adds : OwnLineAdds
own_line_adds lib failing contents k h lines cs l front follows answer own =
    line_more lib failing contents k (FaultLeads lib failing) (FaultLeads lib failing) h lines cs own l front (still_leads lib failing k (line k l)) (λ mine. tt) follows answer

pub touch_begins : TouchBegins
touch_begins lib failing contents k at h lines cs own = record {
  fronts = own.fronts;
  commands = own.commands;
  faults = each [] (own_items k h lines) own.faults;
  touches = own.touches;
  replies = own.replies;
}
  where
    each : (before items : List Item) → AllPlaces (Only (FaultLeads lib failing) k) before items → AllPlaces (Only (LeadsOrWaits lib failing at) k) before items
    each before [] all = tt
    each before (i ∷ items) all = (leads_or_waits lib failing k at before i items all.0, each (before ++ i ∷ []) items all.1)

pub touch_waits : TouchWaits
touch_waits lib failing contents k at h lines cs x apart own =
    entry_between lib failing contents k (LeadsOrWaits lib failing at) (LeadsOrWaits lib failing at) h lines cs own x (not_its_command k x apart)
    (still_waits lib failing k at (entry x) (not_its_command k x apart)) (λ mine. absurd (not_own k x apart mine)) (λ mine. absurd (not_own k x apart mine))

pub touch_faults : TouchFaults
touch_faults lib failing contents k at h lines cs x is fault replies own =
    let plain : is_command_of k (entry x) ≡ false = ap (λ b. (x.pid == k) && not b) (is_a_fault lib _ k at x.deed fault) ∙ never (x.pid == k) in
    entry_between lib failing contents k (LeadsOrWaits lib failing at) (LeadsOrWaits lib failing at) h lines cs own x plain (still_waits lib failing k at (entry x) plain)
    (λ mine. inr (refl, subst (λ (q : ℕ). IsFaultFor lib (own_state lib failing k h lines) q at x.deed) (sym is) fault)) (λ mine. replies)
  where
    never : (b : Bool) → b && false ≡ false
    never true = refl
    never false = refl

pub touch_ends : TouchEnds
touch_ends lib failing contents k at h lines cs follows answer own =
    line_more lib failing contents k (LeadsOrWaits lib failing at) (FaultLeads lib failing) h lines cs own (touch_line (length h) at) refl (now_leads lib failing k (length h) at) (λ mine. tt) follows answer

pub account_goes_on : AccountGoesOn
account_goes_on lib failing contents k h [] lines cs others own = subst (λ l. AccountBy (FaultLeads lib failing) lib failing contents k l lines cs) (sym (append-nil h)) own
account_goes_on lib failing contents k h (x ∷ more) lines cs others own =
    subst (λ l. AccountBy (FaultLeads lib failing) lib failing contents k l lines cs) (append_assoc h (x ∷ []) more)
    (account_goes_on lib failing contents k (h ++ x ∷ []) more lines cs others.1 (others_entry_stays lib failing contents k h lines cs x others.0 own))

pub touch_goes_on : TouchGoesOn
touch_goes_on lib failing contents k at h [] lines cs others own = subst (λ l. AccountBy (LeadsOrWaits lib failing at) lib failing contents k l lines cs) (sym (append-nil h)) own
touch_goes_on lib failing contents k at h (x ∷ more) lines cs others own =
    subst (λ l. AccountBy (LeadsOrWaits lib failing at) lib failing contents k l lines cs) (append_assoc h (x ∷ []) more)
    (touch_goes_on lib failing contents k at (h ++ x ∷ []) more lines cs others.1 (touch_waits lib failing contents k at h lines cs x others.0 own))
