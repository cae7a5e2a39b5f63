-- Bytes that are written and read, and their entries.
use Rattle.std.proofs.Common.{◌≡◌, ℕ, true, false, not, List, Option, Some, None, Result, Ok, Err, refl, sym, ◌∙◌, ap, [], ◌++◌, option_map, set, slice_get, subst, ◌∷◌, ◌-◌, length, map, position, slice_index, arith}
use Rattle.load_model.proofs.ToldOutcomes.{bytes_long}
use Rattle.load_model.specs.declared.deeds.How.{How}
use Rattle.load_model.specs.declared.deeds.Fresh.{Fresh}
use Rattle.load_model.specs.declared.deeds.Entry.{Entry}
use Rattle.load_model.specs.Modules.{Library, Held, fixed_bytes, object_at}
use Rattle.load_model.specs.State.{Failing, Eager, pids, is_among, attached_residence, Written, Residence, Process, with_process}
use Rattle.load_model.specs.Entering.{NoRoom, placing}
use Rattle.load_model.specs.Initialising.{failing_module, entered, enter_by, enter_deed}
use Rattle.load_model.specs.declared.commands.Ask.{Ask}
use Rattle.load_model.specs.declared.commands.Ask.TheVariants.{Enter as enter, Free as free, Exit as exit, Fault as fault, Write as put, Debug as patch, Shared as get}
use Rattle.load_model.specs.Asks.{ask_in, deed_of, may_ask, after_deed, bytes_at, is_attached}
use Rattle.load_model.specs.Histories.{state_after, is_first_fault, has_fault, Follows}
use Rattle.load_model.proofs.Bools.{and_left, and_right}
use Rattle.std.specs.Prelude.{slice_set, MatchResult, is_none}
use Rattle.std.proofs.lemmas.List.{append-nil, set-get_or}
use Rattle.std.proofs.lemmas.Option.{get_or_from_slice_get}
use Rattle.write_overlay.specs.Layered.{Pages, Lays}
use Rattle.residence_table.specs.TableLending.{beside_set, with_beside}
use Rattle.load_core.specs.Shared.{AreLaid, shared_writes}
use Rattle.load_core.specs.declared.residence_parts.ResidenceParts.{ResidenceParts}
use Rattle.std.specs.List.{range_with_len}
use Rattle.std.proofs.lemmas.List.FromFn.{get_or-map-range_with_len, length-map-range_with_len}
use Rattle.load_model.proofs.Holding.{range_same}
use Rattle.lx_types.specs.Object.{class_of}
use Rattle.lx_types.specs.declared.object.Class.{Class}
use Rattle.lx_types.specs.declared.object.Class.TheVariants as classes
use Rattle.load_model.specs.declared.commands.Refusal.{Refusal}
use Rattle.load_model.specs.declared.commands.Refusal.TheVariants.{Range, Invalid}
use Rattle.load_model.specs.declared.deeds.Deed.TheVariants as deeds
use Rattle.load_model.specs.Memory.{last_put, writes_seen, writes_of_class, bases_seen, Byte, Bytes}
use Rattle.load_model.specs.Refusals.{share, when, class_refusal, span_refusal, is_outside, covers_invalid}
use Rattle.load_model.specs.Alike.{BasesSeenStay}
use Rattle.load_model.specs.ProcessCounts.{ProcessCounts}
use Rattle.load_model.proofs.Bytes.{left_none, right_none}
use Rattle.write_overlay.specs.Laid.{writes_to, bytes_under}
use Rattle.residence_table.specs.Residences.{has_serial}
use Rattle.load_core.specs.BoardState.{BoardState, state_of, MayAsk, Adds, with_entry, IsLegal}
use Rattle.load_core.specs.Kept.{Keeps}
use Rattle.load_core.specs.Told.{IsRead, fixed_run, read_run}
use Rattle.load_core.proofs.FoundBySerial.{asked_at, module_there, serial_there, laid_there, one_module}
use Rattle.load_core.proofs.Keeping.{FollowsIn, keeps_still, keeps_written, rows_written, write_entry}
use Rattle.load_core.specs.Answered.{after_ask, IsReady, buffer_after}

-- ---- what a process may ask is followed by its entry

-- ---- an entry asks what it was asked

asks_to_enter : (lib : Library) (e : Eager) (pid : ℕ) (how : How) (m : ℕ) (r : Result (List Fresh) NoRoom) → ask_in (enter_by lib e pid how m r) ≡ enter how m
asks_to_enter lib e pid how m (Err none) = refl
asks_to_enter lib e pid how m (Ok fresh) = step (failing_module lib e pid how m fresh)
  where
    step : (o : Option ℕ) → ask_in (entered lib e pid how m fresh o) ≡ enter how m
    step None = refl
    step (Some by) = refl

asks_again : (lib : Library) (contents : Held) (e : Eager) (pid : ℕ) (ask : Ask) → may_ask lib e pid ask ≡ true → ask_in (deed_of lib contents e pid ask) ≡ ask
unfolding deed_of may_ask enter_deed
asks_again lib contents e pid (enter how m) may = asks_to_enter lib e pid how m (placing lib e pid m)
asks_again lib contents e pid (free m) may = refl
asks_again lib contents e pid exit may = refl
asks_again lib contents e pid (fault serial m p) may = refl
asks_again lib contents e pid (put serial m object offset bytes) may = refl
asks_again lib contents e pid (patch serial m object offset bytes) may = refl
asks_again lib contents e pid (get serial m object offset len) may =
    ap (get serial m object offset) (bytes_long lib contents e pid serial object offset len (attached_residence lib e pid m) (and_left _ _ (and_right _ _ may)))

-- ---- it is no second fault

-- the page whose fault is asked had none
abbrev pub IsNew : List Entry → Ask → Type 0
IsNew h (fault serial m p) = has_fault h serial p ≡ false
IsNew h (enter how m) = Unit {0}
IsNew h (free m) = Unit {0}
IsNew h exit = Unit {0}
IsNew h (put serial m object offset bytes) = Unit {0}
IsNew h (patch serial m object offset bytes) = Unit {0}
IsNew h (get serial m object offset len) = Unit {0}

enters_first : (h : List Entry) (lib : Library) (e : Eager) (pid : ℕ) (how : How) (m : ℕ) (r : Result (List Fresh) NoRoom) → is_first_fault h (enter_by lib e pid how m r) ≡ true
enters_first h lib e pid how m (Err none) = refl
enters_first h lib e pid how m (Ok fresh) = step (failing_module lib e pid how m fresh)
  where
    step : (o : Option ℕ) → is_first_fault h (entered lib e pid how m fresh o) ≡ true
    step None = refl
    step (Some by) = refl

first_of : (h : List Entry) (lib : Library) (contents : Held) (e : Eager) (pid : ℕ) (ask : Ask) → IsNew h ask → is_first_fault h (deed_of lib contents e pid ask) ≡ true
unfolding deed_of enter_deed
first_of h lib contents e pid (enter how m) new = enters_first h lib e pid how m (placing lib e pid m)
first_of h lib contents e pid (free m) new = refl
first_of h lib contents e pid exit new = refl
first_of h lib contents e pid (fault serial m p) new = ap not new
first_of h lib contents e pid (put serial m object offset bytes) new = refl
first_of h lib contents e pid (patch serial m object offset bytes) new = refl
first_of h lib contents e pid (get serial m object offset len) new = refl

-- ---- so it follows

pub asked_follows : (lib : Library) (failing : Failing) (contents : Held) (h : List Entry) (pid : ℕ) (ask : Ask) → is_among pids pid ≡ true →
    may_ask lib (state_after lib failing h) pid ask ≡ true → IsNew h ask →
    Follows lib failing contents h (record { pid = pid; deed = deed_of lib contents (state_after lib failing h) pid ask })
asked_follows lib failing contents h pid ask there may new =
    let e : Eager = state_after lib failing h in
    let again : ask_in (deed_of lib contents e pid ask) ≡ ask = asks_again lib contents e pid ask may in
    record {
      process = there;
      may = ap (may_ask lib e pid) again ∙ may;
      done = ap (deed_of lib contents e pid) (sym again);
      first = first_of h lib contents e pid ask new;
    }

-- ---- what is kept beside a residence, and is lent to be changed

pub own_beside : (now : ResidenceParts) (o : Option (Residence × ResidenceParts)) (s : Residence × ResidenceParts) → Some now ≡ option_map (λ t. t.1) o → o ≡ Some s → now ≡ s.1
own_beside now o s has is = (let e : Some now ≡ Some s.1 = has ∙ ap (option_map (λ (t : Residence × ResidenceParts). t.1)) is in cc)

pub match_more : {T E : Type 0} (r : Result T E) (P R : T → Type 0) (Q S : E → Type 0) → ((x : T) → P x → R x) → ((e : E) → Q e → S e) → MatchResult r P Q → MatchResult r R S
match_more (Ok x) P R Q S ok err h = ok x h
match_more (Err e) P R Q S ok err h = err e h

-- writes that are laid over those before them in what was lent
pub laid_at : (table : List (Residence × ResidenceParts)) (place : ℕ) (s : Residence × ResidenceParts) (lent : ResidenceParts) (layers : Pages) (more : List Written) →
    Some lent ≡ option_map (λ t. t.1) (slice_get table place) → slice_get table place ≡ Some s → ((writes : List Written) → Lays lent.layers writes → Lays layers (writes ++ more)) →
    AreLaid table (with_beside table place (record { rights = lent.rights; shared = lent.shared; layers = layers })) place s more
laid_at table place s lent layers more has is over =
    let own = own_beside lent (slice_get table place) s has is in
    let B : ResidenceParts → ResidenceParts = λ b. record { rights = b.rights; shared = b.shared; layers = layers } in
    record {
      layers = layers;
      over = subst (λ (b : ResidenceParts). (writes : List Written) → Lays b.layers writes → Lays layers (writes ++ more)) own over;
      stand = ap (λ o. beside_set o (B lent) table place) is ∙ ap (λ b. slice_set table place (s.0, B b)) own;
    }

pub none_more : (layers after : Pages) → ((writes : List Written) → Lays layers writes → Lays after writes) → (writes : List Written) → Lays layers writes → Lays after (writes ++ [])
none_more layers after same writes lays = subst (Lays after) (sym (append-nil writes)) (same writes lays)

-- where nothing is written all stands as it did
pub laid_nothing : (table : List (Residence × ResidenceParts)) (place : ℕ) (s : Residence × ResidenceParts) → slice_get table place ≡ Some s → AreLaid table table place s []
laid_nothing table place s is = record {
  layers = s.1.layers;
  over = none_more s.1.layers s.1.layers (λ writes lays. lays);
  stand = sym (ap (set table place) (sym (get_or_from_slice_get table place s s is)) ∙ set-get_or table place s);
}

-- ---- what is asked reaches its residence

pub put_attached : (b : BoardState) (pid serial m object offset : ℕ) (bytes : List ℕ) → MayAsk b pid (put serial m object offset bytes) → is_attached b.library (state_of b) pid serial m ≡ true
unfolding may_ask
put_attached b pid serial m object offset bytes may = and_left _ _ (and_right _ _ may)

pub patch_attached : (b : BoardState) (pid serial m object offset : ℕ) (bytes : List ℕ) → MayAsk b pid (patch serial m object offset bytes) → is_attached b.library (state_of b) pid serial m ≡ true
unfolding may_ask
patch_attached b pid serial m object offset bytes may = and_left _ _ (and_right _ _ may)

pub get_attached : (b : BoardState) (pid serial m object offset len : ℕ) → MayAsk b pid (get serial m object offset len) → is_attached b.library (state_of b) pid serial m ≡ true
unfolding may_ask
get_attached b pid serial m object offset len may = and_left _ _ (and_right _ _ may)

-- ---- a write

module _ (b : BoardState) (all_counts : List ProcessCounts) (table : List (Residence × ResidenceParts)) (serials pid serial m : ℕ) (kept : Keeps b all_counts table serials) (process : is_among pids pid ≡ true)
    (place : ℕ) (s : Residence × ResidenceParts) (at : position (has_serial serial) table ≡ Some place) (there : slice_get table place ≡ Some s) (is : m ≡ s.0.«module») where
  module _ (object offset : ℕ) (bytes : List ℕ) where
    of_put : (k : ℕ) → MayAsk b pid (put serial k object offset bytes) → m ≡ k
    of_put k may = is ∙ module_there b all_counts table serials pid serial k kept (put_attached b pid serial k object offset bytes may) place s at there

    pub written : Written
    written = record { object = object; offset = offset; bytes = bytes }

    put_follows : (k : ℕ) × MayAsk b pid (put serial k object offset bytes) → FollowsIn b (write_entry pid serial m (record { object = object; offset = offset; bytes = bytes }))
    unfolding deed_of
    put_follows may =
        asked_follows b.library b.failing (fixed_bytes b.library) b.history pid (put serial m object offset bytes) process
        (subst (λ k. MayAsk b pid (put serial k object offset bytes)) (sym (of_put may.0 may.1)) may.1) tt

    pub keeps_put : BasesSeenStay → (h : List Entry) (after : List (Residence × ResidenceParts)) → (k : ℕ) × MayAsk b pid (put serial k object offset bytes) →
        h ≡ b.history ++ write_entry pid serial m (record { object = object; offset = offset; bytes = bytes }) ∷ [] →
        AreLaid table after place s (shared_writes (class_of (object_at b.library m object)) (record { object = object; offset = offset; bytes = bytes })) →
        Keeps (record b { history = h }) all_counts after serials
    keeps_put stay h after may grown laid =
        let w : Written = record { object = object; offset = offset; bytes = bytes } in
        let H : List Entry → Type 0 = λ k. Keeps (record b { history = k }) all_counts after serials in
        let numbered = serial_there b all_counts table serials pid serial may.0 kept (put_attached b pid serial may.0 object offset bytes may.1) place s at there in
        subst H (sym grown) (keeps_written stay b pid serial m w all_counts table after serials place s kept (put_follows may) there numbered laid)

    pub adds_put : (h : List Entry) → h ≡ b.history ++ write_entry pid serial m (record { object = object; offset = offset; bytes = bytes }) ∷ [] →
        (k : ℕ) → MayAsk b pid (put serial k object offset bytes) → Adds b (record b { history = h }) pid (put serial k object offset bytes)
    unfolding deed_of
    adds_put h grown k may =
        let H : List Entry → BoardState = λ hs. record b { history = hs } in
        ap H grown ∙ ap (λ n. with_entry b (write_entry pid serial n (record { object = object; offset = offset; bytes = bytes }))) (of_put k may)

  -- ---- a debugger's write

  abbrev pub debug_entry : ℕ → ℕ → List ℕ → Entry
  debug_entry object offset bytes = record { pid = pid; deed = deeds.Debug serial m object offset bytes }

  module _ (object offset : ℕ) (bytes : List ℕ) where
    of_patch : (k : ℕ) → MayAsk b pid (patch serial k object offset bytes) → m ≡ k
    of_patch k may = is ∙ module_there b all_counts table serials pid serial k kept (patch_attached b pid serial k object offset bytes may) place s at there

    patch_follows : (k : ℕ) × MayAsk b pid (patch serial k object offset bytes) → FollowsIn b (debug_entry object offset bytes)
    unfolding deed_of
    patch_follows may =
        asked_follows b.library b.failing (fixed_bytes b.library) b.history pid (patch serial m object offset bytes) process
        (subst (λ k. MayAsk b pid (patch serial k object offset bytes)) (sym (of_patch may.0 may.1)) may.1) tt

    pub keeps_patch : BasesSeenStay → (h : List Entry) → (k : ℕ) × MayAsk b pid (patch serial k object offset bytes) → h ≡ b.history ++ debug_entry object offset bytes ∷ [] →
        Keeps (record b { history = h }) all_counts table serials
    unfolding after_deed with_process
    keeps_patch stay h may grown =
        let w : Written = record { object = object; offset = offset; bytes = bytes } in
        let H : List Entry → Type 0 = λ k. Keeps (record b { history = k }) all_counts table serials in
        subst H (sym grown)
        (keeps_still stay b (debug_entry object offset bytes) all_counts all_counts table serials serials kept (patch_follows may) (λ n p. refl)
        (rows_written b.library (state_of b) pid serial w all_counts kept.reached) refl kept.given)

    pub adds_patch : (h : List Entry) → h ≡ b.history ++ debug_entry object offset bytes ∷ [] →
        (k : ℕ) → MayAsk b pid (patch serial k object offset bytes) → Adds b (record b { history = h }) pid (patch serial k object offset bytes)
    unfolding deed_of
    adds_patch h grown k may =
        let H : List Entry → BoardState = λ hs. record b { history = hs } in
        let E : ℕ → Entry = λ n. record { pid = pid; deed = deeds.Debug serial n object offset bytes } in
        ap H grown ∙ ap (λ n. with_entry b (E n)) (of_patch k may)

-- ---- reading what is shared

pub none_is : (x : Option Refusal) → is_none x ≡ true → x ≡ None
none_is None h = refl
none_is (Some y) h = cc

shared_class : (c : Class) → class_refusal share c ≡ None → c ≡ classes.Shared
shared_class classes.Code h = cc
shared_class classes.Private h = cc
shared_class classes.Shared h = refl

get_shared : (b : BoardState) (pid serial m object offset len : ℕ) → MayAsk b pid (get serial m object offset len) → class_of (object_at b.library m object) ≡ classes.Shared
unfolding may_ask span_refusal
get_shared b pid serial m object offset len may =
    let span : span_refusal b.library share m object offset len ≡ None = none_is _ (and_right _ _ (and_right _ _ may)) in
    shared_class (class_of (object_at b.library m object))
    (left_none (class_refusal share (class_of (object_at b.library m object))) (when (covers_invalid b.library m object offset len) Invalid)
    (right_none (when (is_outside b.library m object offset len) Range) _ span))

seen_shared : (lib : Library) (p : Process) (r : Residence) (object : ℕ) → class_of (object_at lib r.«module» object) ≡ classes.Shared → writes_seen lib p r object ≡ writes_to object r.writes
unfolding writes_seen
seen_shared lib p r object is = ap (λ c. writes_to object (writes_of_class c p r)) is

laid_shared : (b : BoardState) (pid m object offset len : ℕ) (r : Residence) → r.«module» ≡ m → class_of (object_at b.library m object) ≡ classes.Shared →
    bytes_under r.writes object offset (fixed_run b m object offset len) ≡ bytes_at b.library (fixed_bytes b.library) (state_of b) pid object offset len (Some r)
unfolding Bytes Byte
laid_shared b pid m object offset len r same is =
    let fixed : ℕ → ℕ = λ x. fixed_bytes b.library m (bases_seen b.library (state_of b) m) object x in
    let own : ℕ → ℕ = λ x. fixed_bytes b.library r.«module» (bases_seen b.library (state_of b) r.«module») object x in
    let long : length (fixed_run b m object offset len) ≡ len = length-map-range_with_len fixed offset len in
    let seen = seen_shared b.library ((state_of b).processes pid) r object (ap (λ k. class_of (object_at b.library k object)) same ∙ is) in
    ap (λ n. map (λ x. last_put (writes_to object r.writes) x (slice_index (fixed_run b m object offset len) (x - offset))) (range_with_len offset n)) long
    ∙ range_same (λ x. last_put (writes_to object r.writes) x (slice_index (fixed_run b m object offset len) (x - offset)))
    (λ x. last_put (writes_seen b.library ((state_of b).processes pid) r object) x (own x)) len offset
    (λ x low high.
    ap (last_put (writes_to object r.writes) x)
    (get_or-map-range_with_len fixed offset len (x - offset) x 0 (omega arith) (omega arith) ∙ ap (λ k. fixed_bytes b.library k (bases_seen b.library (state_of b) k) object x) (sym same))
    ∙ ap (λ ws. last_put ws x (own x)) (sym seen))

module _ (b : BoardState) (all_counts : List ProcessCounts) (table : List (Residence × ResidenceParts)) (serials pid serial m : ℕ) (kept : Keeps b all_counts table serials) (process : is_among pids pid ≡ true)
    (place : ℕ) (s : Residence × ResidenceParts) (at : position (has_serial serial) table ≡ Some place) (there : slice_get table place ≡ Some s) (is : m ≡ s.0.«module»)
    (object offset : ℕ) (before read : List ℕ) (fixed : (k : ℕ) → MayAsk b pid (get serial k object offset (length before)) → before ≡ fixed_run b k object offset (length before))
    (over : (writes : List Written) → Lays s.1.layers writes → read ≡ bytes_under writes object offset before) where
  of_get : (k : ℕ) → MayAsk b pid (get serial k object offset (length before)) → m ≡ k
  of_get k may = is ∙ module_there b all_counts table serials pid serial k kept (get_attached b pid serial k object offset (length before) may) place s at there

  pub is_read : (k : ℕ) → MayAsk b pid (get serial k object offset (length before)) → read ≡ read_run b pid k object offset (length before)
  is_read k may =
      let attached = get_attached b pid serial k object offset (length before) may in
      let it = asked_at b all_counts table serials pid serial k kept attached in
      over it.residence.writes (laid_there b all_counts table serials pid serial k kept attached place s at there) ∙ ap (bytes_under it.residence.writes object offset) (fixed k may)
      ∙ laid_shared b pid k object offset (length before) it.residence it.of_module (get_shared b pid serial k object offset (length before) may)
      ∙ ap (bytes_at b.library (fixed_bytes b.library) (state_of b) pid object offset (length before)) (sym it.there)

  abbrev pub shared_entry : List ℕ → Entry
  shared_entry bytes = record { pid = pid; deed = deeds.Shared serial m object offset bytes }

  get_follows : (k : ℕ) × MayAsk b pid (get serial k object offset (length before)) → FollowsIn b (shared_entry read)
  unfolding deed_of
  get_follows may =
      let here : MayAsk b pid (get serial m object offset (length before)) = subst (λ k. MayAsk b pid (get serial k object offset (length before))) (sym (of_get may.0 may.1)) may.1 in
      subst (λ bytes. FollowsIn b (shared_entry bytes)) (sym (is_read m here))
      (asked_follows b.library b.failing (fixed_bytes b.library) b.history pid (get serial m object offset (length before)) process here tt)

  pub keeps_read : BasesSeenStay → (h : List Entry) → (k : ℕ) × MayAsk b pid (get serial k object offset (length before)) → h ≡ b.history ++ shared_entry read ∷ [] →
      Keeps (record b { history = h }) all_counts table serials
  unfolding after_deed
  keeps_read stay h may grown =
      let H : List Entry → Type 0 = λ k. Keeps (record b { history = k }) all_counts table serials in
      subst H (sym grown) (keeps_still stay b (shared_entry read) all_counts all_counts table serials serials kept (get_follows may) (λ n p. refl) kept.reached refl kept.given)

  pub reads : (h : List Entry) (now : List ℕ) → h ≡ b.history ++ shared_entry read ∷ [] → now ≡ read → (k : ℕ) → MayAsk b pid (get serial k object offset (length before)) →
      IsRead b (record b { history = h }) pid serial k object offset before now
  unfolding deed_of
  reads h now grown same k may =
      let H : List Entry → BoardState = λ hs. record b { history = hs } in
      let E : ℕ → List ℕ → Entry = λ n bytes. record { pid = pid; deed = deeds.Shared serial n object offset bytes } in
      record {
        adds = ap H grown ∙ ap (λ n. with_entry b (E n read)) (of_get k may) ∙ ap (λ bytes. with_entry b (E k bytes)) (is_read k may);
        bytes = same ∙ is_read k may;
      }

-- ---- a read of shared bytes that is asked with its module, of which the call by serial number knows nothing

module _ (b : BoardState) (pid : ℕ) (ask : Ask) (serial m object offset len : ℕ) (buffer : List ℕ) (same : ask ≡ get serial m object offset len) (may : MayAsk b pid ask) (ready : IsReady b ask buffer) where
  run_is_ready : buffer ≡ fixed_run b m object offset len
  run_is_ready = subst (λ a. IsReady b a buffer) same ready

  may_get : MayAsk b pid (get serial m object offset len)
  may_get = subst (MayAsk b pid) same may

  as_long : length buffer ≡ len
  as_long = ap (λ (bytes : List ℕ). length bytes) run_is_ready ∙ length-map-range_with_len (fixed_bytes b.library m (bases_seen b.library (state_of b) m) object) offset len

  pub may_read : MayAsk b pid (get serial m object offset (length buffer))
  may_read = subst (λ n. MayAsk b pid (get serial m object offset n)) (sym as_long) may_get

  -- whichever module is named
  pub ready_for : IsLegal b → (k : ℕ) → MayAsk b pid (get serial k object offset (length buffer)) → buffer ≡ fixed_run b k object offset (length buffer)
  ready_for legal k other =
      let one : m ≡ k = one_module b pid serial m k legal (get_attached b pid serial m object offset len may_get) (get_attached b pid serial k object offset (length buffer) other) in
      run_is_ready ∙ ap (fixed_run b m object offset) (sym as_long) ∙ ap (λ n. fixed_run b n object offset (length buffer)) one

  pub read_done : (c : BoardState) (after : List ℕ) → IsRead b c pid serial m object offset buffer after → c ≡ after_ask b pid ask
  read_done c after read =
      let adds : Adds b c pid (get serial m object offset len) = subst (λ n. Adds b c pid (get serial m object offset n)) as_long read.adds in
      adds ∙ ap (after_ask b pid) (sym same)

  pub read_left : (c : BoardState) (after : List ℕ) → IsRead b c pid serial m object offset buffer after → after ≡ buffer_after b pid ask buffer
  read_left c after read = read.bytes ∙ ap (read_run b pid m object offset) as_long ∙ ap (λ a. buffer_after b pid a buffer) (sym same)
