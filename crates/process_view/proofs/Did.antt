-- Deeds of a view with a board: what it does not refuse may be asked, and its entry follows.
use Rattle.std.proofs.Common.{◌≡◌, ℕ, true, List, length, Option, Some, None, unwrap_or, get_or, refl, sym, ap, subst, ◌∙◌, ◌⊎◌, inl, inr, [], ◌∷◌, ◌++◌, map, Ok}
use Rattle.process_view.proofs.Words.{Adds, Ask, ask_by, asked_by, at_front, attached_residence, BasesSeenStay, BoardState, bytes_read, Class, class_of}
use Rattle.process_view.proofs.Words.{class_refusal, Command, deed_of, Did, done, Eager, enter, enter_command, Entry, entry_of, exit, FitsPlace, fixed_bytes, ForSome}
use Rattle.process_view.proofs.Words.{Follows, free, get, has_page, Holding, How, is_among, is_covered, is_done, IsDone, IsLegal, IsPlan, IsQuiet}
use Rattle.process_view.proofs.Words.{IsReachedNamed, IsTold, IsWriteTo, Leaving, Library, list_all, mapped_pages, MayAsk, meant, number_of, object_at, One, Outcome}
use Rattle.process_view.proofs.Words.{own_write, page, PageOf, pages_over, pages_stay, patch, pids, Place, ProcessView, put, reached_named, reaches}
use Rattle.process_view.proofs.Words.{residence_if, residence_named, residence_of, ResidenceFor, ResidenceStays, serial_named, serial_of, StandsAt, StandsQuiet}
use Rattle.process_view.proofs.Words.{state_for, state_of, touched_after, view_place_refusal, view_refusal, with_entry, with_own, with_write, write_ask}
use Rattle.process_view.proofs.Words.{WritesOwn, Written, written_over, written_to}
use Rattle.mod_refs.specs.declared.changes.Leaving.TheVariants.{All}
use Rattle.load_model.specs.Accepted.{retouched}
use Rattle.load_model.proofs.Accepted.{accepted_may_ask}
use Rattle.load_model.proofs.Retouched.{touched_is_apart}
use Rattle.load_model.proofs.ToldOutcomes.{accepted_follows}
use Rattle.load_model.proofs.Views.{refused_by_view, named_by_view}
use Rattle.process_view.proofs.Shown.{serial_stays, quiet_after, shown_after}
use Rattle.load_model.proofs.ViewWrites.{stands_written}
use Rattle.process_view.proofs.Lookups.{is_used, mapped_used}
use Rattle.lx_types.specs.declared.object.Class.TheVariants as classes
use Rattle.load_model.specs.declared.commands.Command.TheVariants as commands
use Rattle.load_model.specs.declared.deeds.How.TheVariants as ways
use Rattle.load_model.specs.Refusals as uses
use Rattle.process_view.specs.declared.plans.Plan.TheVariants as plans

-- ---- what a view does not refuse may be asked of a board, and its entry follows

-- What a command asks that the view does not refuse: it may be asked, and its entry follows.
pub record IsAsked (b : BoardState) (v : ProcessView) (command : Command) (ask : Ask) : Type 0 where
  pub process : is_among pids v.holding.pid ≡ true
  pub legal : IsLegal b
  pub stands : StandsAt b v
  pub asked : ask_by b.library (state_for b.library b.failing v.holding b.history) v.holding.pid command ≡ Some ask
  pub may : MayAsk b v.holding.pid ask
  pub follows : Follows b.library b.failing (fixed_bytes b.library) b.history (entry_of b v.holding.pid ask)

pub is_asked : (b : BoardState) (v : ProcessView) (command : Command) (ask : Ask) → is_among pids v.holding.pid ≡ true → IsLegal b → StandsAt b v → view_refusal v.library v.holding command ≡ None → FitsPlace command →
    ask_by b.library (state_for b.library b.failing v.holding b.history) v.holding.pid command ≡ Some ask → IsAsked b v command ask
is_asked b v command ask process legal at none fits asked =
    let lib = b.library in
    let e = state_for b.library b.failing v.holding b.history in
    let refused = refused_by_view lib b.failing (fixed_bytes lib) v.holding b.history command at.stands ∙ ap (λ (l : Library). view_refusal l v.holding command) (sym at.library) ∙ none in
    let may = accepted_may_ask lib (fixed_bytes lib) e v.holding.pid command ask fits refused asked in
    let apart = touched_is_apart lib (fixed_bytes lib) (state_of b) (λ q. mapped_pages v.holding) v.holding.pid ask in
    record {
      process = process;
      legal = legal;
      stands = at;
      asked = asked;
      may = sym apart.0 ∙ may.0;
      follows = accepted_follows lib b.failing (fixed_bytes lib) b.history (λ q. mapped_pages v.holding) v.holding.pid command ask process fits refused asked;
    }

-- the board with the entry of what the view's process asks
abbrev pub with_asked : BoardState → ProcessView → Ask → BoardState
with_asked b v ask = with_entry b (entry_of b v.holding.pid ask)

-- the same by other names for the process and for what it asks
pub may_by : (b : BoardState) (v : ProcessView) (command : Command) (ask other : Ask) (pid : ℕ) → IsAsked b v command ask → pid ≡ v.holding.pid → other ≡ ask → MayAsk b pid other
may_by b v command ask other pid is e f = rw (e, f) is.may

pub adds_by : (b c : BoardState) (v : ProcessView) (ask other : Ask) (pid : ℕ) → Adds b c pid other → pid ≡ v.holding.pid → other ≡ ask → c ≡ with_asked b v ask
adds_by b c v ask other pid adds e f = adds ∙ ap (λ (n : ℕ). with_entry b (entry_of b n other)) e ∙ ap (with_asked b v) f

-- ---- the residence of a place

retouched_named : (lib : Library) (touched : ℕ → List PageOf) (e : Eager) (pid : ℕ) (o : Option ℕ) → residence_if lib (retouched touched e) pid o ≡ residence_if lib e pid o
unfolding attached_residence reaches residence_of
retouched_named lib touched e pid None = refl
retouched_named lib touched e pid (Some m) = refl

-- a serial number and a module that a name means, as the definitions have them
pub record IsMeant (b : BoardState) (v : ProcessView) (at : Place) (r : ResidenceFor) : Type 0 where
  pub serial : serial_named b.library (state_for b.library b.failing v.holding b.history) v.holding.pid at ≡ r.serial
  pub «module» : meant b.library at.«module» ≡ r.«module»

pub place_meant : (b : BoardState) (v : ProcessView) (at : Place) (k : ℕ) (d : ResidenceFor) → StandsAt b v → IsReachedNamed v at.«module» k → IsMeant b v at (get_or v.residences k d)
unfolding residence_named
place_meant b v at k d stands is = record {
  serial =
      ap serial_of (retouched_named b.library (λ q. mapped_pages v.holding) (state_of b) v.holding.pid (number_of b.library at.«module»))
      ∙ sym (serial_stays (residence_named b.library (state_of b) v.holding.pid at.«module»))
      ∙ ap serial_of (named_by_view b.library (fixed_bytes b.library) v.holding (state_of b) at.«module» stands.stands.view)
      ∙ ap (λ (l : Library). serial_of (reached_named l v.holding at.«module»)) (sym stands.library) ∙ ap serial_of (is.residence d);
  «module» = ap (λ (l : Library). unwrap_or (number_of l at.«module») (length l)) (sym stands.library) ∙ ap (λ (o : Option ℕ). unwrap_or o (length v.library)) (is.named d);
}

-- ---- deeds of a view with a board

-- ---- an entry that changes nothing which the view has

pub did_quiet : ResidenceStays → BasesSeenStay → StandsQuiet → (b : BoardState) (v : ProcessView) (command : Command) (ask : Ask) (outcome : Outcome) → IsAsked b v command ask → IsQuiet b.library (entry_of b v.holding.pid ask).deed →
    IsTold (length (with_asked b v ask).history) (entry_of b v.holding.pid ask).deed outcome →
    mapped_pages v.holding ≡ touched_after b.library (state_of b) v.holding.pid (entry_of b v.holding.pid ask).deed (λ _. mapped_pages v.holding) v.holding.pid →
    Did b (with_asked b v ask) v (at_front (length (with_asked b v ask).history) v) command outcome
did_quiet still bases quiet b v command ask outcome is does told same = record {
  ask = ask;
  asked = is.asked;
  adds = refl;
  follows = is.follows;
  told = told;
  stands = quiet_after still bases quiet b (entry_of b v.holding.pid ask) v is.legal is.follows refl does is.stands;
  library = refl;
  pid = refl;
  mapped = same;
}

-- ---- a write

did_written : ResidenceStays → BasesSeenStay → (b : BoardState) (v : ProcessView) (command : Command) (ask : Ask) (serial m : ℕ) (w : Written) → IsAsked b v command ask → WritesOwn b.library (entry_of b v.holding.pid ask).deed serial m w →
    is_covered (mapped_pages v.holding) (record { serial = serial; write = w }) ≡ true →
    IsTold (length (with_asked b v ask).history) (entry_of b v.holding.pid ask).deed (done (length (with_asked b v ask).history)) →
    mapped_pages v.holding ≡ touched_after b.library (state_of b) v.holding.pid (entry_of b v.holding.pid ask).deed (λ _. mapped_pages v.holding) v.holding.pid →
    Did b (with_asked b v ask) v (at_front (length (with_asked b v ask).history) (with_write serial w v)) command (done (length (with_asked b v ask).history))
did_written still bases b v command ask serial m w is writes covered told same =
    let x = entry_of b v.holding.pid ask in
    let after : Holding = record v.holding { mapped = map (written_over serial w) v.holding.mapped; front = length (with_asked b v ask).history } in
    let stands = stands_written b.library b.failing (fixed_bytes b.library) v.holding b.history x serial m w is.legal is.follows refl writes covered is.stands.stands in
    record {
      ask = ask;
      asked = is.asked;
      adds = refl;
      follows = is.follows;
      told = told;
      stands = record {
        library = is.stands.library;
        residences = is.stands.residences;
        stands = stands;
        shown = shown_after still bases b x v after is.legal is.follows is.stands is.stands.residences stands;
      };
      library = refl;
      pid = refl;
      mapped = pages_stay serial w v.holding.mapped ∙ same;
    }

pub did_put : ResidenceStays → BasesSeenStay → StandsQuiet → (b : BoardState) (v : ProcessView) (command : Command) (class : Class) (serial m : ℕ) (at : Place) (bytes : List ℕ) → IsAsked b v command (write_ask class serial m at bytes) →
    class_of (object_at b.library m at.object) ≡ class → is_covered (mapped_pages v.holding) (record { serial = serial; write = written_to at bytes }) ≡ true →
    Did b (with_asked b v (write_ask class serial m at bytes)) v
    (at_front (length (with_asked b v (write_ask class serial m at bytes)).history) (with_own serial (own_write class (written_to at bytes)) v)) command
    (done (length (with_asked b v (write_ask class serial m at bytes)).history))
unfolding deed_of
did_put still bases quiet b v command classes.Code serial m at bytes is class covered =
    did_written still bases b v command (patch serial m at.object at.offset bytes) serial m (written_to at bytes) is (class, refl, refl, refl) covered (is_done tt) refl
did_put still bases quiet b v command classes.Private serial m at bytes is class covered =
    did_written still bases b v command (put serial m at.object at.offset bytes) serial m (written_to at bytes) is (class, refl, refl, refl) covered (is_done tt) refl
did_put still bases quiet b v command classes.Shared serial m at bytes is class covered =
    did_quiet still bases quiet b v command (put serial m at.object at.offset bytes) _ is class (is_done tt) refl

-- ---- what is done and told

-- one history, one last entry
abbrev last_of : Entry → List Entry → Entry
last_of d [] = d
last_of d (x ∷ xs) = last_of x xs

last_is : (d x : Entry) (xs : List Entry) → last_of d (xs ++ x ∷ []) ≡ x
last_is d x [] = refl
last_is d x (y ∷ ys) = last_is y x ys

same_last : (xs : List Entry) (x y : Entry) → (xs ++ x ∷ []) ≡ (xs ++ y ∷ []) → x ≡ y
same_last xs x y e = sym (last_is x x xs) ∙ ap (last_of x) e ∙ last_is x y xs

pub did_same : (b c after : BoardState) (v w next : ProcessView) (command : Command) (outcome other : Outcome) → Did b c v w command outcome → after ≡ c → next ≡ w → other ≡ outcome → Did b after v next command other
did_same b c after v w next command outcome other it e f g = rw (e, f, g) it

-- the deed with the bytes that its entry tells
pub done_by : (b c : BoardState) (v w next : ProcessView) (command : Command) (ask : Ask) (bytes : List ℕ) → Did b (with_asked b v ask) v w command (done (length (with_asked b v ask).history)) → c ≡ with_asked b v ask → next ≡ w →
    bytes ≡ bytes_read (entry_of b v.holding.pid ask).deed → IsDone b c v next command (Ok bytes)
done_by b c v w next command ask bytes it e f read = (
  did_same b (with_asked b v ask) c v w next command _ _ it e f (ap (λ (x : BoardState). done (length x.history)) e),
  λ y last. read ∙ ap (λ (z : Entry). bytes_read z.deed) (same_last b.history (entry_of b v.holding.pid ask) y (sym (ap (λ (x : BoardState). x.history) e) ∙ last)),
)

-- ---- what plans ask

asked_enter : (b : BoardState) (v : ProcessView) (how : How) (name : List ℕ) (m : ℕ) → number_of b.library name ≡ Some m →
    ask_by b.library (state_for b.library b.failing v.holding b.history) v.holding.pid (enter_command how name) ≡ Some (enter how m)
asked_enter b v ways.Start name m e = ap (λ (o : Option ℕ). Some (enter ways.Start (unwrap_or o (length b.library)))) e
asked_enter b v ways.Load name m e = ap (λ (o : Option ℕ). Some (enter ways.Load (unwrap_or o (length b.library)))) e

fits_enter : (how : How) (name : List ℕ) → FitsPlace (enter_command how name)
fits_enter ways.Start name = tt
fits_enter ways.Load name = tt

-- the board and the view at which a command is planned
pub record IsAt (b : BoardState) (v : ProcessView) : Type 0 where
  pub process : is_among pids v.holding.pid ≡ true
  pub legal : IsLegal b
  pub stands : StandsAt b v

named_at : (b : BoardState) (v : ProcessView) (name : List ℕ) (m : ℕ) → IsAt b v → number_of v.library name ≡ Some m → number_of b.library name ≡ Some m
named_at b v name m at e = ap (λ (l : Library). number_of l name) (sym at.stands.library) ∙ e

pub enter_asked : (b : BoardState) (v : ProcessView) (command : Command) (how : How) (m : ℕ) → IsAt b v → IsPlan v command (plans.Enter how m) → IsAsked b v command (enter how m)
enter_asked b v command how m at is =
    let name = is.means.0 in
    let none = rw is.means.1 at is.accepted in
    rw is.means.1 (is_asked b v (enter_command how name) (enter how m) at.process at.legal at.stands none (fits_enter how name) (asked_enter b v how name m (named_at b v name m at is.means.2.0)))

pub leave_asked : (b : BoardState) (v : ProcessView) (command : Command) (what : Leaving) → IsAt b v → IsPlan v command (plans.Leave what) → IsAsked b v command (asked_by what)
leave_asked b v command (One m) at is =
    let name = is.means.0 in
    let none = rw is.means.1 at is.accepted in
    rw is.means.1
    (is_asked b v (commands.Free name) (free m) at.process at.legal at.stands none tt (ap (λ (o : Option ℕ). Some (free (unwrap_or o (length b.library)))) (named_at b v name m at is.means.2.0)))
leave_asked b v command All at is = let none = rw is.means at is.accepted in rw is.means (is_asked b v commands.Exit exit at.process at.legal at.stands none tt refl)

pub read_asked : (b : BoardState) (v : ProcessView) (command : Command) (at : Place) (k : ℕ) (d : ResidenceFor) → IsAt b v → view_refusal v.library v.holding command ≡ None → command ≡ commands.Shared at → IsReachedNamed v at.«module» k →
    IsAsked b v command (get (get_or v.residences k d).serial (get_or v.residences k d).«module» at.object at.offset at.len)
read_asked b v command at k d here accepted e is =
    let r = get_or v.residences k d in
    let meaning = place_meant b v at k d here.stands is in
    let none = rw e at accepted in
    rw e
    (is_asked b v (commands.Shared at) _ here.process here.legal here.stands none tt
    (ap (λ (n : ℕ). Some (get n (meant b.library at.«module») at.object at.offset at.len)) meaning.serial ∙ ap (λ (m : ℕ). Some (get r.serial m at.object at.offset at.len)) meaning.«module»))

-- a write or a debug write
abbrev pub IsWrite : Command → Place → List ℕ → Type 0
IsWrite command at bytes = (command ≡ commands.Write at bytes) ⊎ (command ≡ commands.Debug at bytes)

pub write_used : (v : ProcessView) (command : Command) (at : Place) (bytes : List ℕ) → view_refusal v.library v.holding command ≡ None → IsWrite command at bytes →
    (purpose : uses.Purpose) × (view_place_refusal v.library v.holding purpose at ≡ None)
unfolding view_refusal
write_used v command at bytes none (inl e) = (uses.write, rw e at none)
write_used v command at bytes none (inr e) = (uses.debug, rw e at none)

-- the write of bytes to a place, where it is the process's own
pub own_is_to : (class : Class) (at : Place) (bytes : List ℕ) → length bytes ≡ at.len → ForSome (own_write class (written_to at bytes)) (IsWriteTo at)
own_is_to classes.Shared at bytes fits = λ w e. absurd cc
own_is_to classes.Code at bytes fits = λ w e. let same : written_to at bytes ≡ w = cc in subst (IsWriteTo at) same (record { object = refl; offset = refl; long = fits })
own_is_to classes.Private at bytes fits = λ w e. let same : written_to at bytes ≡ w = cc in subst (IsWriteTo at) same (record { object = refl; offset = refl; long = fits })

asks_put : (class : Class) (serial m : ℕ) (at : Place) (bytes : List ℕ) → class_refusal uses.write class ≡ None → write_ask class serial m at bytes ≡ put serial m at.object at.offset bytes
asks_put classes.Code serial m at bytes e = absurd cc
asks_put other serial m at bytes e = refl

asks_patch : (class : Class) (serial m : ℕ) (at : Place) (bytes : List ℕ) → class_refusal uses.debug class ≡ None → write_ask class serial m at bytes ≡ patch serial m at.object at.offset bytes
asks_patch classes.Code serial m at bytes e = refl
asks_patch other serial m at bytes e = absurd cc

-- what a write asks, and that its pages are mapped
abbrev pub IsPut : BoardState → ProcessView → Command → Class → ResidenceFor → Place → List ℕ → Type 0
IsPut b v command class r at bytes =
    IsAsked b v command (write_ask class r.serial r.«module» at bytes) × (is_covered (mapped_pages v.holding) (record { serial = r.serial; write = written_to at bytes }) ≡ true)

pub put_asked : (b : BoardState) (v : ProcessView) (command : Command) (at : Place) (bytes : List ℕ) (k : ℕ) (d : ResidenceFor) (class : Class) → IsAt b v → view_refusal v.library v.holding command ≡ None → IsWrite command at bytes →
    IsReachedNamed v at.«module» k → length bytes ≡ at.len → class_of (object_at v.library (get_or v.residences k d).«module» at.object) ≡ class → IsPut b v command class (get_or v.residences k d) at bytes
unfolding view_refusal
put_asked b v command at bytes k d class here accepted (inl e) is fits of_class =
    let r = get_or v.residences k d in
    let meaning = place_meant b v at k d here.stands is in
    let none = rw e at accepted in
    let used = is_used v uses.write at k d none is in
    let asks = asks_put class r.serial r.«module» at bytes (ap (class_refusal uses.write) (sym of_class) ∙ used.class) in (
      rw (asks, e)
          (is_asked b v (commands.Write at bytes) _ here.process here.legal here.stands none fits
          (ap (λ (n : ℕ). Some (put n (meant b.library at.«module») at.object at.offset bytes)) meaning.serial ∙ ap (λ (m : ℕ). Some (put r.serial m at.object at.offset bytes)) meaning.«module»)),
      ap (λ (n : ℕ). list_all (λ i. has_page (mapped_pages v.holding) r.serial (page at.object i)) (pages_over at.offset n)) fits ∙ mapped_used v uses.write at r (λ f. cc) used,
    )
put_asked b v command at bytes k d class here accepted (inr e) is fits of_class =
    let r = get_or v.residences k d in
    let meaning = place_meant b v at k d here.stands is in
    let none = rw e at accepted in
    let used = is_used v uses.debug at k d none is in
    let asks = asks_patch class r.serial r.«module» at bytes (ap (class_refusal uses.debug) (sym of_class) ∙ used.class) in (
      rw (asks, e)
          (is_asked b v (commands.Debug at bytes) _ here.process here.legal here.stands none fits
          (ap (λ (n : ℕ). Some (patch n (meant b.library at.«module») at.object at.offset bytes)) meaning.serial ∙ ap (λ (m : ℕ). Some (patch r.serial m at.object at.offset bytes)) meaning.«module»)),
      ap (λ (n : ℕ). list_all (λ i. has_page (mapped_pages v.holding) r.serial (page at.object i)) (pages_over at.offset n)) fits ∙ mapped_used v uses.debug at r (λ f. cc) used,
    )

pub read_put : (b : BoardState) (pid : ℕ) (class : Class) (serial m : ℕ) (at : Place) (bytes : List ℕ) → [] ≡ bytes_read (entry_of b pid (write_ask class serial m at bytes)).deed
unfolding deed_of
read_put b pid classes.Code serial m at bytes = refl
read_put b pid other serial m at bytes = refl
