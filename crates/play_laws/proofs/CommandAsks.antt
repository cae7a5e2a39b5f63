-- What the entry of a command asks, by the refusal of the command.
use Rattle.std.proofs.Common.{◌≡◌, ℕ, ◌<◌, ◌==◌, ◌&&◌, not, Bool, true, false, List, length, Option, Some, None, option_map, is_some, is_none, refl, sym, ◌∙◌, ap, subst, eqb-true, true≢false}
use Rattle.std.specs.Prelude.{unwrap_or, nat_le}
use Rattle.std.proofs.lemmas.Bool.{lt-ltb}
use Rattle.lx_types.specs.Object.{class_of}
use Rattle.lx_types.specs.declared.object.Class.{Class}
use Rattle.lx_types.specs.declared.object.Class.TheVariants as classes
use Rattle.lx_types.specs.declared.limits.TheConstants.{MAX_LOADS}
use Rattle.lx_model.specs.declared.library.Health.{Health}
use Rattle.lx_model.specs.declared.library.Health.TheVariants as kinds
use Rattle.lx_model.specs.Reach.{HealthOf}
use Rattle.lx_model.specs.Library.{has_name, no_module}
use Rattle.std.proofs.lemmas.List.Quantifiers.{position-Some}
use Rattle.load_model.specs.declared.commands.Place.{Place}
use Rattle.load_model.specs.declared.commands.Command.{Command}
use Rattle.load_model.specs.declared.commands.Command.TheVariants as commands
use Rattle.load_model.specs.declared.commands.Refusal.{Refusal}
use Rattle.load_model.specs.declared.commands.Refusal.TheVariants.{Ended, Started, NotLibrary, NotProgram, CountFull, NotHeld, Range, Invalid, NotTouched}
use Rattle.load_model.specs.declared.commands.Ask.{Ask}
use Rattle.load_model.specs.declared.commands.Ask.TheVariants.{Enter as enter, Free as free, Exit as exit, Fault as fault, Write as put, Debug as patch, Shared as get}
use Rattle.load_model.specs.declared.deeds.How.{How}
use Rattle.load_model.specs.declared.deeds.How.TheVariants as ways
use Rattle.load_model.specs.declared.deeds.Deed.{Deed}
use Rattle.load_model.specs.declared.deeds.Deed.TheVariants as deeds
use Rattle.load_model.specs.Modules.{Library, number_of, is_library, unfit, refusal_of_health, object_at}
use Rattle.load_model.specs.State.{Residence, Process, Eager, count_of, attached_residence, serial_of}
use Rattle.load_model.specs.Memory.{first_untouched}
use Rattle.load_model.specs.Refusals.{Purpose, write, share, debug, touch, peek, when, ◌orelse◌, module_refusal, started_refusal, enter_refusal, is_held, free_refusal, class_refusal, is_outside, covers_invalid, span_refusal, touch_refusal, residence_refusal, residence_if, residence_named, place_refusal, refusal_of}
use Rattle.load_model.specs.Asks.{ask_in, may_ask, may_use, is_attached, is_serial}
use Rattle.load_model.specs.Step.{ask_by, meant, serial_named}
use Rattle.load_model.proofs.Bools.{and_left, and_right, and_false}
use Rattle.load_model.proofs.Bytes.{attached_is}
use Rattle.session_model.specs.Merging.{uses_touched}
use Rattle.play_laws.specs.CommandAsks.{is_usable, names_its_residence, IsAskedBy, EntriesByRefusals}

-- ---- refusals of which none is for a page that was not touched

abbrev IsPlain : Option Refusal → Type 0
IsPlain r = is_usable r ≡ is_none r

plain_when : (b : Bool) (r : Refusal) → is_usable (Some r) ≡ false → IsPlain (when b r)
plain_when true r e = e
plain_when false r e = refl

plain_both : (a b : Option Refusal) → IsPlain a → IsPlain b → IsPlain (a orelse b)
plain_both None b first second = second
plain_both (Some r) b first second = first

plain_health : (h : Health) → IsPlain (refusal_of_health h)
plain_health kinds.Fit = refl
plain_health (kinds.NoModule by name_no) = refl
plain_health (kinds.NoEntry by) = refl
plain_health (kinds.ForwardLoop by) = refl
plain_health (kinds.Gate286 by) = refl

plain_module : (lib : Library) (p : Process) (how : How) (m : ℕ) → IsPlain (module_refusal lib p how m)
unfolding module_refusal unfit
plain_module lib p ways.Start m = plain_both _ _ (plain_when (is_library lib m) NotProgram refl) (plain_health (HealthOf lib m))
plain_module lib p ways.Load m =
    plain_both _ _ (plain_when (not (is_library lib m)) NotLibrary refl)
    (plain_both _ _ (plain_health (HealthOf lib m)) (plain_when (nat_le MAX_LOADS (count_of p m)) CountFull refl))

plain_enter : (lib : Library) (p : Process) (how : How) (m : ℕ) → IsPlain (enter_refusal lib p how (Some m))
unfolding enter_refusal
plain_enter lib p how m = plain_both _ _ (plain_when p.ended Ended refl) (plain_both _ _ (started how) (plain_module lib p how m))
  where
    started : (way : How) → IsPlain (started_refusal p way)
    started ways.Start = plain_when (is_some p.started) Started refl
    started ways.Load = refl

plain_free : (p : Process) (m : ℕ) → IsPlain (free_refusal p (Some m))
plain_free p m = plain_both _ _ (plain_when p.ended Ended refl) (plain_when (not (is_held p (Some m))) NotHeld refl)

plain_class : (purpose : Purpose) (class : Class) → IsPlain (class_refusal purpose class)
plain_class touch class = refl
plain_class write classes.Code = refl
plain_class write classes.Private = refl
plain_class write classes.Shared = refl
plain_class share classes.Code = refl
plain_class share classes.Private = refl
plain_class share classes.Shared = refl
plain_class peek classes.Code = refl
plain_class peek classes.Private = refl
plain_class peek classes.Shared = refl
plain_class debug classes.Code = refl
plain_class debug classes.Private = refl
plain_class debug classes.Shared = refl

plain_span : (lib : Library) (purpose : Purpose) (m object offset len : ℕ) → IsPlain (span_refusal lib purpose m object offset len)
unfolding span_refusal
plain_span lib purpose m object offset len =
    plain_both _ _ (plain_when (is_outside lib m object offset len) Range refl)
    (plain_both _ _ (plain_class purpose (class_of (object_at lib m object))) (plain_when (covers_invalid lib m object offset len) Invalid refl))

-- ---- entries that name no residence

abbrev is_plain_ask : Ask → Bool
is_plain_ask (enter how m) = true
is_plain_ask (free m) = true
is_plain_ask exit = true
is_plain_ask (fault serial m p) = true
is_plain_ask (put serial m object offset bytes) = false
is_plain_ask (patch serial m object offset bytes) = false
is_plain_ask (get serial m object offset len) = false

no_residence : (lib : Library) (e : Eager) (pid : ℕ) (d : Deed) → is_plain_ask (ask_in d) ≡ true → (names_its_residence lib e pid d ≡ true) × (uses_touched e pid d ≡ true)
no_residence lib e pid (deeds.Enter how m fresh calls) is = (refl, refl)
no_residence lib e pid (deeds.Full how m of object size) is = (refl, refl)
no_residence lib e pid (deeds.Failed how m by fresh calls gone) is = (refl, refl)
no_residence lib e pid (deeds.Free m calls gone) is = (refl, refl)
no_residence lib e pid (deeds.Exit calls gone) is = (refl, refl)
no_residence lib e pid (deeds.Fault serial m p) is = (refl, refl)
no_residence lib e pid (deeds.Write serial m object offset bytes) is = absurd (true≢false (sym is))
no_residence lib e pid (deeds.Debug serial m object offset bytes) is = absurd (true≢false (sym is))
no_residence lib e pid (deeds.Shared serial m object offset bytes) is = absurd (true≢false (sym is))

and_one : (a : Bool) → a && true ≡ a
and_one true = refl
and_one false = refl

-- what such a command comes to, where its refusal is a plain one
plain_asked : (lib : Library) (e : Eager) (pid : ℕ) (c : Command) (d : Deed) (ask : Ask) → ask_in d ≡ ask → is_plain_ask ask ≡ true → IsPlain (refusal_of lib e pid c) →
    may_ask lib e pid ask ≡ is_none (refusal_of lib e pid c) → ask_by lib e pid c ≡ Some ask → IsAskedBy lib e pid c d
plain_asked lib e pid c d ask is plain_ask plain may by =
    let none = no_residence lib e pid d (ap is_plain_ask is ∙ plain_ask) in
    let fine : may_ask lib e pid (ask_in d) ≡ is_none (refusal_of lib e pid c) = ap (may_ask lib e pid) is ∙ may in
    record {
      may = fine ∙ (sym plain ∙ (sym (and_one (is_usable (refusal_of lib e pid c))) ∙ ap (λ b. is_usable (refusal_of lib e pid c) && b) (sym none.0)));
      touched = λ asked. none.1 ∙ (sym asked ∙ fine);
      asked = λ asked. by ∙ ap Some (sym is);
    }

meant_is : (lib : Library) (name : List ℕ) (m : ℕ) → number_of lib name ≡ Some m → meant lib name ≡ m
meant_is lib name m is = ap (λ (o : Option ℕ). unwrap_or o (length lib)) is

-- ---- entries of a place

place_plain : (b : Bool) (s t : Option Refusal) → IsPlain s → is_usable t ≡ true → is_usable (when b Ended orelse (s orelse t)) ≡ not b && is_none s
place_plain true s t plain usable = refl
place_plain false None t plain usable = usable
place_plain false (Some r) t plain usable = plain

untouched_usable : (o : Option ℕ) → is_usable (option_map NotTouched o) ≡ true
untouched_usable None = refl
untouched_usable (Some n) = refl

untouched_none : (o : Option ℕ) → is_none (option_map NotTouched o) ≡ is_none o
untouched_none None = refl
untouched_none (Some n) = refl

three_tests : (a b c : Bool) → a && (b && c) ≡ (a && c) && b
three_tests false b c = refl
three_tests true true true = refl
three_tests true true false = refl
three_tests true false true = refl
three_tests true false false = refl

none_is : (o : Option Refusal) → is_none o ≡ true → o ≡ None
none_is None e = refl
none_is (Some r) e = cc

not_false : (b : Bool) → not b ≡ true → b ≡ false
not_false true e = cc
not_false false e = refl

-- what a place may be used for by a process, in a residence by its number
abbrev may_place : Library → Eager → ℕ → Purpose → ℕ → ℕ → Place → Bool
may_place lib e pid purpose serial m at = not (e.processes pid).ended && may_use lib e pid purpose serial m at.object at.offset at.len

record PlaceAsked (lib : Library) (e : Eager) (pid : ℕ) (purpose : Purpose) (serial m : ℕ) (at : Place) : Type 0 where
  may : may_place lib e pid purpose serial m at ≡ is_usable (place_refusal lib e pid purpose at) && is_attached lib e pid serial m
  touched : may_place lib e pid purpose serial m at ≡ true →
      is_none (first_untouched (e.processes pid) serial at.object at.offset at.len) ≡ is_none (place_refusal lib e pid purpose at)
  named : may_place lib e pid purpose serial m at ≡ true → serial_named lib e pid at ≡ serial

place_asked : (lib : Library) (e : Eager) (pid : ℕ) (purpose : Purpose) (serial m : ℕ) (at : Place) → number_of lib at.«module» ≡ Some m →
    ((s : ℕ) → touch_refusal purpose (e.processes pid) s at.object at.offset at.len ≡ option_map NotTouched (first_untouched (e.processes pid) s at.object at.offset at.len)) →
    PlaceAsked lib e pid purpose serial m at
unfolding place_refusal residence_named
place_asked lib e pid purpose serial m at number untouched = by_residence (attached_residence lib e pid m) refl
  where
    ended : Bool
    ended = (e.processes pid).ended

    span : ℕ → Option Refusal
    span k = span_refusal lib purpose k at.object at.offset at.len

    refusal_is : (o : Option Residence) → attached_residence lib e pid m ≡ o → place_refusal lib e pid purpose at ≡ (when ended Ended orelse residence_refusal lib (e.processes pid) purpose at o)
    refusal_is o is = ap (λ r. when ended Ended orelse residence_refusal lib (e.processes pid) purpose at (residence_if lib e pid r)) number
        ∙ ap (λ r. when ended Ended orelse residence_refusal lib (e.processes pid) purpose at r) is

    named_is : (o : Option Residence) → attached_residence lib e pid m ≡ o → serial_named lib e pid at ≡ serial_of o
    named_is o is = ap (λ r. serial_of (residence_if lib e pid r)) number ∙ ap serial_of is

    not_there : (a b : Bool) → a && (false && b) ≡ false
    not_there true b = refl
    not_there false b = refl

    by_residence : (o : Option Residence) → attached_residence lib e pid m ≡ o → PlaceAsked lib e pid purpose serial m at
    by_residence None away =
        let nothing : may_place lib e pid purpose serial m at ≡ false = ap (λ r. not ended && (is_serial serial r && is_none (span m))) away ∙ not_there (not ended) (is_none (span m)) in
        record {
          may = nothing ∙ sym (ap (λ r. is_usable (place_refusal lib e pid purpose at) && is_serial serial r) away ∙ and_false (is_usable (place_refusal lib e pid purpose at)));
          touched = λ may. absurd (true≢false (sym may ∙ nothing));
          named = λ may. absurd (true≢false (sym may ∙ nothing));
        }
    by_residence (Some r) there =
        let of : r.«module» ≡ m = (attached_is lib e pid m r there).1 in
        let t : Option Refusal = option_map NotTouched (first_untouched (e.processes pid) r.serial at.object at.offset at.len) in
        let is : place_refusal lib e pid purpose at ≡ (when ended Ended orelse (span m orelse t)) =
        refusal_is (Some r) there ∙ (ap (λ o. when ended Ended orelse (span r.«module» orelse o)) (untouched r.serial) ∙ ap (λ (k : ℕ). when ended Ended orelse (span k orelse t)) of) in
        let may : may_place lib e pid purpose serial m at ≡ not ended && ((r.serial == serial) && is_none (span m)) =
        ap (λ o. not ended && (is_serial serial o && is_none (span m))) there in
        let usable : is_usable (place_refusal lib e pid purpose at) ≡ not ended && is_none (span m) =
        ap is_usable is ∙ place_plain ended (span m) t (plain_span lib purpose m at.object at.offset at.len) (untouched_usable _) in
        record {
          may = may ∙ (three_tests (not ended) (r.serial == serial) (is_none (span m)) ∙ (ap (λ b. b && (r.serial == serial)) (sym usable)
              ∙ ap (λ o. is_usable (place_refusal lib e pid purpose at) && is_serial serial o) (sym there)));
          touched = λ asked.
              let all = sym may ∙ asked in
              let inner = and_right (not ended) _ all in
              let own : r.serial ≡ serial = eqb-true r.serial serial (and_left (r.serial == serial) _ inner) in
              let clear : span m ≡ None = none_is (span m) (and_right (r.serial == serial) _ inner) in
              let going : ended ≡ false = not_false ended (and_left (not ended) _ all) in
              ap (λ (s : ℕ). is_none (first_untouched (e.processes pid) s at.object at.offset at.len)) (sym own)
              ∙ sym (ap is_none is ∙ (ap (λ b. is_none (when b Ended orelse (span m orelse t))) going ∙ (ap (λ o. is_none (o orelse t)) clear ∙ untouched_none _)));
          named = λ asked. named_is (Some r) there ∙ eqb-true r.serial serial (and_left (r.serial == serial) _ (and_right (not ended) _ (sym may ∙ asked)));
        }

-- ---- each command

put_deed : (d : Deed) (serial m object offset : ℕ) (bytes : List ℕ) → ask_in d ≡ put serial m object offset bytes → d ≡ deeds.Write serial m object offset bytes
put_deed (deeds.Enter how k fresh calls) serial m object offset bytes is = cc
put_deed (deeds.Full how k of o size) serial m object offset bytes is = cc
put_deed (deeds.Failed how k by fresh calls gone) serial m object offset bytes is = cc
put_deed (deeds.Free k calls gone) serial m object offset bytes is = cc
put_deed (deeds.Exit calls gone) serial m object offset bytes is = cc
put_deed (deeds.Fault s k p) serial m object offset bytes is = cc
put_deed (deeds.Write s k o x b) serial m object offset bytes is = cc
put_deed (deeds.Debug s k o x b) serial m object offset bytes is = cc
put_deed (deeds.Shared s k o x b) serial m object offset bytes is = cc

patch_deed : (d : Deed) (serial m object offset : ℕ) (bytes : List ℕ) → ask_in d ≡ patch serial m object offset bytes → d ≡ deeds.Debug serial m object offset bytes
patch_deed (deeds.Enter how k fresh calls) serial m object offset bytes is = cc
patch_deed (deeds.Full how k of o size) serial m object offset bytes is = cc
patch_deed (deeds.Failed how k by fresh calls gone) serial m object offset bytes is = cc
patch_deed (deeds.Free k calls gone) serial m object offset bytes is = cc
patch_deed (deeds.Exit calls gone) serial m object offset bytes is = cc
patch_deed (deeds.Fault s k p) serial m object offset bytes is = cc
patch_deed (deeds.Write s k o x b) serial m object offset bytes is = cc
patch_deed (deeds.Debug s k o x b) serial m object offset bytes is = cc
patch_deed (deeds.Shared s k o x b) serial m object offset bytes is = cc

get_deed : (d : Deed) (serial m object offset len : ℕ) → ask_in d ≡ get serial m object offset len → (bytes : List ℕ) × (length bytes ≡ len) × (d ≡ deeds.Shared serial m object offset bytes)
get_deed (deeds.Enter how k fresh calls) serial m object offset len is = cc
get_deed (deeds.Full how k of o size) serial m object offset len is = cc
get_deed (deeds.Failed how k by fresh calls gone) serial m object offset len is = cc
get_deed (deeds.Free k calls gone) serial m object offset len is = cc
get_deed (deeds.Exit calls gone) serial m object offset len is = cc
get_deed (deeds.Fault s k p) serial m object offset len is = cc
get_deed (deeds.Write s k o x b) serial m object offset len is = cc
get_deed (deeds.Debug s k o x b) serial m object offset len is = cc
get_deed (deeds.Shared s k o x b) serial m object offset len is =
    let one : s ≡ serial = cc in
    let two : k ≡ m = cc in
    let three : o ≡ object = cc in
    let four : x ≡ offset = cc in
    let five : length b ≡ len = cc in
    (b, five, λ i. deeds.Shared (one i) (two i) (three i) (four i) b)

-- the entry of a command of a place
by_place : (lib : Library) (e : Eager) (pid : ℕ) (c : Command) (d : Deed) (purpose : Purpose) (serial m : ℕ) (at : Place) → PlaceAsked lib e pid purpose serial m at →
    may_ask lib e pid (ask_in d) ≡ may_place lib e pid purpose serial m at → refusal_of lib e pid c ≡ place_refusal lib e pid purpose at →
    names_its_residence lib e pid d ≡ is_attached lib e pid serial m →
    uses_touched e pid d ≡ is_none (first_untouched (e.processes pid) serial at.object at.offset at.len) →
    (serial_named lib e pid at ≡ serial → ask_by lib e pid c ≡ Some (ask_in d)) → IsAskedBy lib e pid c d
by_place lib e pid c d purpose serial m at asked may refusal named uses by = record {
  may = may ∙ (asked.may ∙ (ap (λ o. is_usable o && is_attached lib e pid serial m) (sym refusal) ∙ ap (λ b. is_usable (refusal_of lib e pid c) && b) (sym named)));
  touched = λ is. uses ∙ (asked.touched (sym may ∙ is) ∙ ap is_none (sym refusal));
  asked = λ is. by (asked.named (sym may ∙ is));
}

number_within : (lib : Library) (name : List ℕ) (m : ℕ) → number_of lib name ≡ Some m → m < length lib
unfolding number_of
number_within lib name m is = (position-Some (has_name name) lib m no_module is).0

pub entries_by_refusals : EntriesByRefusals
unfolding refusal_of may_ask
entries_by_refusals lib e pid (commands.Start name) d fits (m, is, ask) =
    plain_asked lib e pid (commands.Start name) d (enter ways.Start m) ask refl
    (subst (λ (o : Option ℕ). IsPlain (enter_refusal lib (e.processes pid) ways.Start o)) (sym is) (plain_enter lib (e.processes pid) ways.Start m))
    (ap (λ b. b && is_none (enter_refusal lib (e.processes pid) ways.Start (Some m))) (lt-ltb m (length lib) (number_within lib name m is))
    ∙ ap (λ (o : Option ℕ). is_none (enter_refusal lib (e.processes pid) ways.Start o)) (sym is))
    (ap (λ (k : ℕ). Some (enter ways.Start k)) (meant_is lib name m is))
entries_by_refusals lib e pid (commands.Load name) d fits (m, is, ask) =
    plain_asked lib e pid (commands.Load name) d (enter ways.Load m) ask refl
    (subst (λ (o : Option ℕ). IsPlain (enter_refusal lib (e.processes pid) ways.Load o)) (sym is) (plain_enter lib (e.processes pid) ways.Load m))
    (ap (λ b. b && is_none (enter_refusal lib (e.processes pid) ways.Load (Some m))) (lt-ltb m (length lib) (number_within lib name m is))
    ∙ ap (λ (o : Option ℕ). is_none (enter_refusal lib (e.processes pid) ways.Load o)) (sym is))
    (ap (λ (k : ℕ). Some (enter ways.Load k)) (meant_is lib name m is))
entries_by_refusals lib e pid (commands.Free name) d fits (m, is, ask) =
    plain_asked lib e pid (commands.Free name) d (free m) ask refl
    (subst (λ (o : Option ℕ). IsPlain (free_refusal (e.processes pid) o)) (sym is) (plain_free (e.processes pid) m))
    (ap (λ (o : Option ℕ). is_none (free_refusal (e.processes pid) o)) (sym is))
    (ap (λ (k : ℕ). Some (free k)) (meant_is lib name m is))
entries_by_refusals lib e pid commands.Exit d fits ask =
    plain_asked lib e pid commands.Exit d exit ask refl (plain_when (e.processes pid).ended Ended refl) (ended (e.processes pid).ended) refl
  where
    ended : (b : Bool) → not b ≡ is_none (when b Ended)
    ended true = refl
    ended false = refl
entries_by_refusals lib e pid (commands.Write at bytes) d fits (m, serial, is, ask) =
    subst (IsAskedBy lib e pid (commands.Write at bytes)) (sym (put_deed d serial m at.object at.offset bytes ask))
    (by_place lib e pid (commands.Write at bytes) (deeds.Write serial m at.object at.offset bytes) write serial m at (place_asked lib e pid write serial m at is (λ s. refl))
    (ap (λ (n : ℕ). not (e.processes pid).ended && may_use lib e pid write serial m at.object at.offset n) fits) refl refl
    (ap (λ (n : ℕ). is_none (first_untouched (e.processes pid) serial at.object at.offset n)) fits)
    (λ named. λ i. Some (put (named i) (meant_is lib at.«module» m is i) at.object at.offset bytes)))
entries_by_refusals lib e pid (commands.Debug at bytes) d fits (m, serial, is, ask) =
    subst (IsAskedBy lib e pid (commands.Debug at bytes)) (sym (patch_deed d serial m at.object at.offset bytes ask))
    (by_place lib e pid (commands.Debug at bytes) (deeds.Debug serial m at.object at.offset bytes) debug serial m at (place_asked lib e pid debug serial m at is (λ s. refl))
    (ap (λ (n : ℕ). not (e.processes pid).ended && may_use lib e pid debug serial m at.object at.offset n) fits) refl refl
    (ap (λ (n : ℕ). is_none (first_untouched (e.processes pid) serial at.object at.offset n)) fits)
    (λ named. λ i. Some (patch (named i) (meant_is lib at.«module» m is i) at.object at.offset bytes)))
entries_by_refusals lib e pid (commands.Shared at) d fits (m, serial, is, ask) =
    let got = get_deed d serial m at.object at.offset at.len ask in
    subst (IsAskedBy lib e pid (commands.Shared at)) (sym got.2)
    (by_place lib e pid (commands.Shared at) (deeds.Shared serial m at.object at.offset got.0) share serial m at (place_asked lib e pid share serial m at is (λ s. refl))
    (ap (λ (n : ℕ). not (e.processes pid).ended && may_use lib e pid share serial m at.object at.offset n) got.1) refl refl
    (ap (λ (n : ℕ). is_none (first_untouched (e.processes pid) serial at.object at.offset n)) got.1)
    (λ named. λ i. Some (get (named i) (meant_is lib at.«module» m is i) at.object at.offset (sym got.1 i))))
entries_by_refusals lib e pid (commands.Touch at) d fits ask = absurd ask
entries_by_refusals lib e pid (commands.Peek at) d fits ask = absurd ask
entries_by_refusals lib e pid (commands.Query name key) d fits ask = absurd ask
entries_by_refusals lib e pid (commands.GetRes name ty id) d fits ask = absurd ask
