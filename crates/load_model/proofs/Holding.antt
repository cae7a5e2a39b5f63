-- Two ways to say what objects hold, which agree on what is asked.
use Rattle.std.proofs.Common.{◌≡◌, ℕ, zero, suc, ◌+◌, ◌<◌, ◌≤◌, ◌==◌, Bool, true, false, ◌||◌, List, [], ◌∷◌, ◌++◌, map, length, Option, Some, None, refl, sym, ◌∙◌, ap, subst, append_assoc, arith}
use Rattle.std.specs.Prelude.{unwrap_or, is_none, nat_lt}
use Rattle.std.specs.List.{range_with_len}
use Rattle.std.proofs.lemmas.Bool.{eqb-false, ltb-false, or_parts}
use Rattle.std.proofs.lemmas.List.{append-nil}
use Rattle.lx_types.specs.Sound.{IsNumberOf}
use Rattle.load_model.specs.declared.commands.Place.{Place}
use Rattle.load_model.specs.declared.commands.Command.{Command}
use Rattle.load_model.specs.declared.commands.Command.TheVariants as commands
use Rattle.load_model.specs.declared.commands.Refusal.{Refusal}
use Rattle.load_model.specs.declared.commands.Refusal.TheVariants.{Ended, NotAttached, Range}
use Rattle.load_model.specs.declared.commands.Reply.TheVariants as replies
use Rattle.load_model.specs.declared.deeds.Deed.TheVariants as deeds
use Rattle.load_model.specs.declared.deeds.Entry.{Entry}
use Rattle.load_model.specs.Modules.{Library, Held, number_of, objects_of, object_at}
use Rattle.load_model.specs.State.{Failing, Residence, Eager, is_among, pids, reaches, is_reached, attached_residence}
use Rattle.load_model.specs.Memory.{writes_seen, last_put, Byte, Bytes}
use Rattle.load_model.specs.Refusals.{Purpose, peek, share, when, is_outside, span_refusal, residence_refusal, residence_if, residence_named, place_refusal, refusal_of}
use Rattle.load_model.specs.declared.commands.Ask.{Ask}
use Rattle.load_model.specs.declared.commands.Ask.TheVariants.{Enter as enter, Free as free, Exit as exit, Fault as fault, Write as put, Debug as patch, Shared as get}
use Rattle.load_model.specs.Asks.{ask_in, bytes_at, deed_of, may_ask, may_use}
use Rattle.load_model.specs.Step.{Answer, entry, steady, meant, bytes_of, serial_named, fine_answer, answer_of}
use Rattle.load_model.specs.Histories.{state_after, Follows, AllFollow, Legal}
use Rattle.load_model.specs.Laws.{AgreeAt, HeldAnswersAlike, HeldHistoriesAlike}
use Rattle.load_model.proofs.Bools.{and_right}
use Rattle.load_model.proofs.Orders.{one_reaches}
use Rattle.load_model.proofs.Bytes.{attached_is, named_is, left_none, right_none}

-- ---- bytes in a row

pub range_same : (f g : ℕ → ℕ) (n from : ℕ) → ((x : ℕ) → from ≤ x → x < from + n → f x ≡ g x) → map f (range_with_len from n) ≡ map g (range_with_len from n)
range_same f g zero from h = refl
range_same f g (suc n) from h =
    let here : f from ≡ g from = h from (omega arith) (omega arith) in
    let later : map f (range_with_len (from + 1) n) ≡ map g (range_with_len (from + 1) n) =
    range_same f g n (from + 1) (λ x low high. h x (omega arith) (omega arith))
    in
    ap (λ y. y ∷ map f (range_with_len (from + 1) n)) here ∙ ap (λ ys. g from ∷ ys) later

-- ---- a span that is not refused lies in its object

pub when_none : (b : Bool) (r : Refusal) → when b r ≡ None → b ≡ false
when_none true r h = cc
when_none false r h = refl

pub record Inside (lib : Library) (m object offset len : ℕ) : Type 0 where
  pub there : IsNumberOf object (length (objects_of lib m))
  pub end : offset + len ≤ (object_at lib m object).size

pub span_inside : (lib : Library) (how : Purpose) (m object offset len : ℕ) → span_refusal lib how m object offset len ≡ None → Inside lib m object offset len
unfolding span_refusal
span_inside lib how m object offset len h =
    let out : is_outside lib m object offset len ≡ false = when_none _ Range (left_none _ _ h) in
    let first : (object == 0) || nat_lt (length (objects_of lib m)) object ≡ false = (or_parts _ _ out).0 in
    let nonzero : object ≡ 0 → ⊥ = eqb-false object 0 (or_parts _ _ first).0 in
    let below : object ≤ length (objects_of lib m) = ltb-false _ _ (or_parts _ _ first).1 in
    let one : 1 ≤ object = above_zero object nonzero in
    record { there = (one, below); end = ltb-false _ _ (or_parts _ _ out).1 }
  where
    above_zero : (n : ℕ) → (n ≡ 0 → ⊥) → 1 ≤ n
    above_zero zero h = absurd (h refl)
    above_zero (suc n) h = omega arith

bytes_by : (lib : Library) (a b : Held) (e : Eager) (pid : ℕ) (r : Residence) (object offset len : ℕ) → AgreeAt lib a b e → is_reached lib e r.«module» ≡ true →
    Inside lib r.«module» object offset len → Bytes lib a e pid r object offset len ≡ Bytes lib b e pid r object offset len
unfolding Bytes Byte
bytes_by lib a b e pid r object offset len agree reached inside =
    range_same _ _ len offset
    (λ x low high.
    let end : offset + len ≤ (object_at lib r.«module» object).size = inside.end in
    let below : x < (object_at lib r.«module» object).size = omega arith in
    ap (last_put (writes_seen lib (e.processes pid) r object) x) (agree r.«module» object x reached inside.there below))

-- ---- answers

-- the residence of a place, where the place is not refused
place_bytes : (lib : Library) (a b : Held) (e : Eager) (pid : ℕ) (how : Purpose) (place : Place) → is_among pids pid ≡ true → AgreeAt lib a b e →
    place_refusal lib e pid how place ≡ None → (r : Option Residence) → residence_named lib e pid place.«module» ≡ r →
    bytes_of lib a e pid place r ≡ bytes_of lib b e pid place r
unfolding place_refusal
place_bytes lib a b e pid how place there agree fine None is = refl
place_bytes lib a b e pid how place there agree fine (Some r) is =
    let inner : residence_refusal lib (e.processes pid) how place (Some r) ≡ None =
    ap (residence_refusal lib (e.processes pid) how place) (sym is) ∙ right_none (when (e.processes pid).ended Ended) _ fine
    in
    bytes_by lib a b e pid r place.object place.offset place.len agree (one_reaches lib e pid r.«module» there (named_is lib e pid place.«module» r is).0)
    (span_inside lib how r.«module» place.object place.offset place.len (left_none _ _ inner))

-- the bytes of a residence that a process has attached
attached_bytes : (lib : Library) (a b : Held) (e : Eager) (pid serial m object offset len : ℕ) → is_among pids pid ≡ true → AgreeAt lib a b e →
    may_use lib e pid share serial m object offset len ≡ true → (r : Option Residence) → attached_residence lib e pid m ≡ r →
    bytes_at lib a e pid object offset len r ≡ bytes_at lib b e pid object offset len r
attached_bytes lib a b e pid serial m object offset len there agree may None is = refl
attached_bytes lib a b e pid serial m object offset len there agree may (Some r) is =
    let it : (reaches lib (e.processes pid) m ≡ true) × (r.«module» ≡ m) = attached_is lib e pid m r is in
    let same : m ≡ r.«module» = sym it.1 in
    let fine : span_refusal lib share m object offset len ≡ None = none_is (span_refusal lib share m object offset len) (and_right _ _ may) in
    bytes_by lib a b e pid r object offset len agree (one_reaches lib e pid r.«module» there (ap (reaches lib (e.processes pid)) (sym same) ∙ it.0))
    (subst (λ k. Inside lib k object offset len) same (span_inside lib share m object offset len fine))
  where
    none_is : (x : Option Refusal) → is_none x ≡ true → x ≡ None
    none_is None h = refl
    none_is (Some y) h = cc

pub deed_by : (lib : Library) (a b : Held) (e : Eager) (pid : ℕ) (ask : Ask) → is_among pids pid ≡ true → AgreeAt lib a b e → may_ask lib e pid ask ≡ true →
    deed_of lib a e pid ask ≡ deed_of lib b e pid ask
unfolding deed_of may_ask
deed_by lib a b e pid (enter how m) there agree may = refl
deed_by lib a b e pid (free m) there agree may = refl
deed_by lib a b e pid exit there agree may = refl
deed_by lib a b e pid (fault serial m p) there agree may = refl
deed_by lib a b e pid (put serial m object offset bytes) there agree may = refl
deed_by lib a b e pid (patch serial m object offset bytes) there agree may = refl
deed_by lib a b e pid (get serial m object offset len) there agree may =
    ap (deeds.Shared serial m object offset)
    (attached_bytes lib a b e pid serial m object offset len there agree (and_right _ _ may) (attached_residence lib e pid m) refl)

-- ---- histories

follows_by : (lib : Library) (failing : Failing) (a b : Held) (h : List Entry) (x : Entry) → AgreeAt lib a b (state_after lib failing h) → Follows lib failing a h x → Follows lib failing b h x
follows_by lib failing a b h x agree f = record {
  process = f.process;
  may = f.may;
  done = f.done ∙ deed_by lib a b (state_after lib failing h) x.pid (ask_in x.deed) f.process agree f.may;
  first = f.first;
}

all_by : (lib : Library) (failing : Failing) (a b : Held) (before h : List Entry) → ((first rest : List Entry) → h ≡ first ++ rest → AgreeAt lib a b (state_after lib failing (before ++ first))) →
    AllFollow lib failing a before h → AllFollow lib failing b before h
all_by lib failing a b before [] agree all = tt
all_by lib failing a b before (x ∷ h) agree all = (
  follows_by lib failing a b before x (subst (λ z. AgreeAt lib a b (state_after lib failing z)) (append-nil before) (agree [] (x ∷ h) refl)) all.0,
  all_by lib failing a b (before ++ x ∷ []) h
      (λ first rest is. subst (λ z. AgreeAt lib a b (state_after lib failing z)) (sym (append_assoc before (x ∷ []) first)) (agree (x ∷ first) rest (ap (λ xs. x ∷ xs) is))) all.1,
)

pub held_histories_alike : HeldHistoriesAlike
unfolding Legal
held_histories_alike lib failing a b h agree all = all_by lib failing a b [] h agree all

-- ---- commands

pub no_name : (lib : Library) (e : Eager) (pid : ℕ) (how : Purpose) (place : Place) → place_refusal lib e pid how place ≡ None → number_of lib place.«module» ≡ None → ⊥
unfolding place_refusal residence_named
no_name lib e pid how place fine is =
    let wrong : Some NotAttached ≡ None =
    ap (λ n. residence_refusal lib (e.processes pid) how place (residence_if lib e pid n)) (sym is) ∙ right_none (when (e.processes pid).ended Ended) _ fine
    in
    some_none NotAttached wrong
  where
    some_none : (r : Refusal) → Some r ≡ None → ⊥
    some_none r h = cc

pub attached_named : (lib : Library) (e : Eager) (pid : ℕ) (name : List ℕ) (m : ℕ) → number_of lib name ≡ Some m →
    attached_residence lib e pid (meant lib name) ≡ residence_named lib e pid name
unfolding residence_named
attached_named lib e pid name m is = ap (λ n. attached_residence lib e pid (unwrap_or n (length lib))) is ∙ sym (ap (residence_if lib e pid) is)

shared_bytes : (lib : Library) (a b : Held) (e : Eager) (pid : ℕ) (place : Place) → is_among pids pid ≡ true → AgreeAt lib a b e →
    place_refusal lib e pid share place ≡ None → (n : Option ℕ) → number_of lib place.«module» ≡ n →
    bytes_at lib a e pid place.object place.offset place.len (attached_residence lib e pid (meant lib place.«module»))
    ≡ bytes_at lib b e pid place.object place.offset place.len (attached_residence lib e pid (meant lib place.«module»))
shared_bytes lib a b e pid place there agree fine None is = absurd (no_name lib e pid share place fine is)
shared_bytes lib a b e pid place there agree fine (Some m) is =
    subst (λ r. bytes_at lib a e pid place.object place.offset place.len r ≡ bytes_at lib b e pid place.object place.offset place.len r)
    (sym (attached_named lib e pid place.«module» m is)) (one (residence_named lib e pid place.«module») refl)
  where
    one : (r : Option Residence) → residence_named lib e pid place.«module» ≡ r →
        bytes_at lib a e pid place.object place.offset place.len r ≡ bytes_at lib b e pid place.object place.offset place.len r
    one None found_is = refl
    one (Some r) found_is = place_bytes lib a b e pid share place there agree fine (Some r) found_is

done_by : (lib : Library) (a b : Held) (e : Eager) (pid : ℕ) (command : Command) → is_among pids pid ≡ true → AgreeAt lib a b e → refusal_of lib e pid command ≡ None →
    fine_answer lib a e pid command ≡ fine_answer lib b e pid command
unfolding fine_answer refusal_of deed_of
done_by lib a b e pid (commands.Start name) there agree fine = refl
done_by lib a b e pid (commands.Load name) there agree fine = refl
done_by lib a b e pid (commands.Free name) there agree fine = refl
done_by lib a b e pid (commands.Touch place) there agree fine = refl
done_by lib a b e pid (commands.Peek place) there agree fine =
    ap (λ bytes. steady (replies.Bytes bytes)) (place_bytes lib a b e pid peek place there agree fine (residence_named lib e pid place.«module») refl)
done_by lib a b e pid (commands.Shared place) there agree fine =
    ap (λ bytes. entry (deeds.Shared (serial_named lib e pid place) (meant lib place.«module») place.object place.offset bytes)) (shared_bytes lib a b e pid place there agree fine (number_of lib place.«module») refl)
done_by lib a b e pid (commands.Write place bytes) there agree fine = refl
done_by lib a b e pid (commands.Debug place bytes) there agree fine = refl
done_by lib a b e pid (commands.Query name key) there agree fine = refl
done_by lib a b e pid (commands.GetRes name ty id) there agree fine = refl
done_by lib a b e pid commands.Exit there agree fine = refl

answer_by : (lib : Library) (a b : Held) (e : Eager) (pid : ℕ) (command : Command) → is_among pids pid ≡ true → AgreeAt lib a b e → (r : Option Refusal) → refusal_of lib e pid command ≡ r →
    elim r as (λ _. Answer) [ Some refusal ↦ steady (replies.Refused refusal) | None ↦ fine_answer lib a e pid command ]
    ≡ elim r as (λ _. Answer) [ Some refusal ↦ steady (replies.Refused refusal) | None ↦ fine_answer lib b e pid command ]
answer_by lib a b e pid command there agree (Some refusal) is = refl
answer_by lib a b e pid command there agree None is = done_by lib a b e pid command there agree is

pub held_answers_alike : HeldAnswersAlike
unfolding answer_of
held_answers_alike lib a b e pid command there agree = answer_by lib a b e pid command there agree (refusal_of lib e pid command) refl
