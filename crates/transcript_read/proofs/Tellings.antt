-- Parts of lines that are told, as the lines that they are.
use Rattle.std.proofs.Common.{◌≡◌, ℕ, List, [], Option, Some, None, refl, sym, ◌∙◌, ap, subst}
use Rattle.load_model.specs.declared.commands.Command.{Command}
use Rattle.load_model.specs.declared.commands.Command.TheVariants as commands
use Rattle.load_model.specs.declared.commands.Place.{Place}
use Rattle.load_model.specs.declared.commands.Refusal.{Refusal}
use Rattle.load_model.specs.declared.commands.Refusal.TheVariants as why
use Rattle.load_model.specs.declared.commands.Reply.{Reply}
use Rattle.load_model.specs.declared.commands.Reply.TheVariants as replies
use Rattle.load_model.specs.declared.deeds.Call.{Call}
use Rattle.load_model.specs.declared.deeds.Gone.{Gone}
use Rattle.load_model.specs.declared.deeds.Deed.{Deed}
use Rattle.load_model.specs.declared.deeds.Deed.TheVariants as deeds
use Rattle.load_model.specs.Modules.{Library}
use Rattle.std.specs.List.{AllByRecursion}
use Rattle.std.specs.Prelude.{codes}
use Rattle.session_model.specs.Transcript.{deed_words, refusal_words, reply_words}
use Rattle.check_model.specs.Told.{IsByte, Has32, IsModuleOf, IsCall, IsGone, IsRefusal, IsReplyTo}
use Rattle.transcript_read.specs.Refusals.{IsPlainRefusal, plain_words, IsFullBy, IsFailedAt, full_words, failed_words, touched_words}
use Rattle.transcript_read.specs.Ranges.{AreBytes, IsBareDeed, IsEntered, IsFailed, IsFaulted, IsFreed, IsFull, IsSpot, IsUnmade, HasBytes}
use Rattle.transcript_read.specs.Rows.{Any, address_row, bytes_row, entered_row, exit_row, failed_row, fault_row, fine_row, free_row, full_row, refused_row, shown_row, spot_row}
use Rattle.transcript_read.specs.Words.{Row}
use Rattle.transcript_read.specs.Taken.{Tells}

-- a part that is told makes a whole that is told
pub as_whole : {A C : Type 0} {part : A → Row} {Part : A → Type 0} {told : Option A} {s : Option Row} → Tells part Part told s → (a : A) → told ≡ Some a
    → (whole : C → Row) (Whole : C → Type 0) (c : C) → (Part a → Whole c) → whole c ≡ part a → Tells whole Whole (Some c) s
as_whole {A} {C} {part} {Part} {told} {s} it a is whole Whole c range row = record {
  some = λ d same.
      let one : c ≡ d = cc (same) in
      let found = it.some a is in
      (subst Whole one (range found.0), found.1 ∙ ap (λ r. Some r) (sym row ∙ ap whole one));
  none = λ is. absurd (cc (is));
}

-- and where no part is told, no whole is
pub none_whole : {C : Type 0} (whole : C → Row) (Whole : C → Type 0) (s : Option Row) → ((c : C) → Whole c → s ≡ Some (whole c) → ⊥) → Tells whole Whole None s
none_whole whole Whole s never = record { some = λ d same. absurd (cc (same)); none = λ _ c h there. never c h there }

-- ---- refusals

pub no_refusal : (s : Option Row) → Tells plain_words IsPlainRefusal None s → Tells touched_words Has32 None s → Tells failed_words IsFailedAt None s → Tells full_words IsFullBy None s
    → Tells refusal_words IsRefusal None s
no_refusal s plain touched failed full = none_whole refusal_words IsRefusal s by
  where
    by : (r : Refusal) → IsRefusal r → s ≡ Some (refusal_words r) → ⊥
    by (why.ArenaFull number m object size) h there = full.none refl (record { number = number; of = m; object = object; size = size }) h there
    by (why.InitFailed number b) h there = failed.none refl (record { number = number; by = b }) h there
    by (why.NotTouched p) h there = touched.none refl p h there
    by r h there = plain.none refl r tt there

-- a plain refusal is told by its name
pub plain_row : (r : Refusal) → IsPlainRefusal r → refusal_words r ≡ plain_words r
plain_row (why.ArenaFull number of object size) h = absurd h
plain_row (why.InitFailed number b) h = absurd h
plain_row (why.NotTouched p) h = absurd h
plain_row r h = refl

pub plain_range : (r : Refusal) → IsPlainRefusal r → IsRefusal r
plain_range (why.ArenaFull number of object size) h = absurd h
plain_range (why.InitFailed number b) h = absurd h
plain_range (why.NotTouched p) h = absurd h
plain_range r h = tt

pub plain_whole : (r : Refusal) (told : Option Refusal) (s : Option Row) → Tells plain_words IsPlainRefusal told s → told ≡ Some r → Tells refusal_words IsRefusal (Some r) s
plain_whole r told s it is = let h = (it.some r is).0 in as_whole it r is refusal_words IsRefusal r (plain_range r) (plain_row r h)

-- ---- replies

pub no_reply_to_touch : (p : Place) (s : Option Row) → Tells refused_row IsRefusal None s → Tells fine_row Any None s → Tells reply_words (IsReplyTo (commands.Touch p)) None s
no_reply_to_touch p s refused fine = none_whole reply_words (IsReplyTo (commands.Touch p)) s by
  where
    by : (r : Reply) → IsReplyTo (commands.Touch p) r → s ≡ Some (reply_words r) → ⊥
    by (replies.Refused x) h there = refused.none refl x h there
    by replies.Fine h there = fine.none refl tt tt there
    by r h there = absurd h

pub no_reply_to_peek : (p : Place) (s : Option Row) → Tells refused_row IsRefusal None s → Tells shown_row (AllByRecursion IsByte) None s
    → Tells reply_words (IsReplyTo (commands.Peek p)) None s
no_reply_to_peek p s refused shown = none_whole reply_words (IsReplyTo (commands.Peek p)) s by
  where
    by : (r : Reply) → IsReplyTo (commands.Peek p) r → s ≡ Some (reply_words r) → ⊥
    by (replies.Refused x) h there = refused.none refl x h there
    by (replies.Bytes bytes) h there = shown.none refl bytes h there
    by r h there = absurd h

pub no_reply_to_query : (name : List ℕ) (key : _) (s : Option Row) → Tells refused_row IsRefusal None s → Tells address_row Has32 None s
    → Tells reply_words (IsReplyTo (commands.Query name key)) None s
no_reply_to_query name key s refused address = none_whole reply_words (IsReplyTo (commands.Query name key)) s by
  where
    by : (r : Reply) → IsReplyTo (commands.Query name key) r → s ≡ Some (reply_words r) → ⊥
    by (replies.Refused x) h there = refused.none refl x h there
    by (replies.Address a) h there = address.none refl a h there
    by r h there = absurd h

pub no_reply_to_getres : (name : List ℕ) (ty id : ℕ) (s : Option Row) → Tells refused_row IsRefusal None s → Tells spot_row IsSpot None s
    → Tells reply_words (IsReplyTo (commands.GetRes name ty id)) None s
no_reply_to_getres name ty id s refused spot = none_whole reply_words (IsReplyTo (commands.GetRes name ty id)) s by
  where
    by : (r : Reply) → IsReplyTo (commands.GetRes name ty id) r → s ≡ Some (reply_words r) → ⊥
    by (replies.Refused x) h there = refused.none refl x h there
    by (replies.Spot x) h there = spot.none refl x h there
    by r h there = absurd h

-- a command that is answered by refusals alone
abbrev pub IsRefusedOnly : Command → Type 0
IsRefusedOnly (commands.Touch p) = ⊥
IsRefusedOnly (commands.Peek p) = ⊥
IsRefusedOnly (commands.Query name key) = ⊥
IsRefusedOnly (commands.GetRes name ty id) = ⊥
IsRefusedOnly c = Unit {0}

pub no_reply_to_others : (c : Command) (s : Option Row) → IsRefusedOnly c → Tells refused_row IsRefusal None s → Tells reply_words (IsReplyTo c) None s
no_reply_to_others c s only refused = none_whole reply_words (IsReplyTo c) s (λ r h there. by c r only h there)
  where
    by : (c : Command) (r : Reply) → IsRefusedOnly c → IsReplyTo c r → s ≡ Some (reply_words r) → ⊥
    by c (replies.Refused x) only h there = refused.none refl x h there
    by (commands.Touch p) r only h there = absurd only
    by (commands.Peek p) r only h there = absurd only
    by (commands.Query name key) r only h there = absurd only
    by (commands.GetRes name ty id) r only h there = absurd only
    by c r only h there = absurd h

-- ---- what was done

pub no_deed_with_bytes : (lib : Library) (s : Option Row) → Tells (bytes_row lib (codes "write")) (AreBytes lib) None s → Tells (bytes_row lib (codes "debug")) (AreBytes lib) None s
    → Tells (bytes_row lib (codes "shared")) (AreBytes lib) None s → Tells (deed_words lib) (HasBytes lib) None s
no_deed_with_bytes lib s write debug shared = none_whole (deed_words lib) (HasBytes lib) s by
  where
    by : (d : Deed) → HasBytes lib d → s ≡ Some (deed_words lib d) → ⊥
    by (deeds.Write serial m object offset bytes) h there =
        write.none refl (record { serial = serial; «module» = m; object = object; offset = offset; bytes = bytes }) h there
    by (deeds.Debug serial m object offset bytes) h there =
        debug.none refl (record { serial = serial; «module» = m; object = object; offset = offset; bytes = bytes }) h there
    by (deeds.Shared serial m object offset bytes) h there =
        shared.none refl (record { serial = serial; «module» = m; object = object; offset = offset; bytes = bytes }) h there
    by d h there = absurd h

pub none_unmade : (lib : Library) (s : Option Row) → Tells (full_row lib) (IsFull lib) None s → Tells (failed_row lib) (IsFailed lib) None s
    → Tells (deed_words lib) (IsUnmade lib) None s
none_unmade lib s full failed = none_whole (deed_words lib) (IsUnmade lib) s by
  where
    by : (d : Deed) → IsUnmade lib d → s ≡ Some (deed_words lib d) → ⊥
    by (deeds.Full how m of object size) h there =
        full.none refl (record { how = how; «module» = m; of = of; object = object; size = size }) h.0 there
    by (deeds.Failed how m b fresh calls gone) h there = failed.none refl (record { how = how; «module» = m; by = b }) (h.0.0, h.0.1) there
    by d h there = absurd h

bytes_bare : (lib : Library) (d : Deed) → HasBytes lib d → IsBareDeed lib d
bytes_bare lib (deeds.Write serial m object offset bytes) h = (h, tt)
bytes_bare lib (deeds.Debug serial m object offset bytes) h = (h, tt)
bytes_bare lib (deeds.Shared serial m object offset bytes) h = (h, tt)
bytes_bare lib d h = absurd h

unmade_bare : (lib : Library) (d : Deed) → IsUnmade lib d → IsBareDeed lib d
unmade_bare lib (deeds.Full how m of object size) h = h
unmade_bare lib (deeds.Failed how m b fresh calls gone) h = h
unmade_bare lib d h = absurd h

pub bytes_whole : (lib : Library) (d : Deed) (told : Option Deed) (s : Option Row) → Tells (deed_words lib) (HasBytes lib) told s → told ≡ Some d
    → Tells (deed_words lib) (IsBareDeed lib) (Some d) s
bytes_whole lib d told s it is = as_whole it d is (deed_words lib) (IsBareDeed lib) d (bytes_bare lib d) refl

-- what is left where all others are none
pub others_unmade : (lib : Library) (told : Option Deed) (s : Option Row) → Tells (fault_row lib) (IsFaulted lib) None s → Tells (entered_row lib) (IsEntered lib) None s
    → Tells (free_row lib) (IsFreed lib) None s → Tells exit_row Any None s → Tells (deed_words lib) (HasBytes lib) None s → Tells (deed_words lib) (IsUnmade lib) told s
    → Tells (deed_words lib) (IsBareDeed lib) told s
others_unmade lib told s fault entered free exit bytes unmade = record {
  some = λ d is. let it = unmade.some d is in (unmade_bare lib d it.0, it.1);
  none = λ is d h there. by is d h there;
}
  where
    by : told ≡ None → (d : Deed) → IsBareDeed lib d → s ≡ Some (deed_words lib d) → ⊥
    by is (deeds.Enter how m fresh calls) h there = entered.none refl (record { how = how; «module» = m }) h.0.0 there
    by is (deeds.Full how m of object size) h there = unmade.none is (deeds.Full how m of object size) h there
    by is (deeds.Failed how m b fresh calls gone) h there = unmade.none is (deeds.Failed how m b fresh calls gone) h there
    by is (deeds.Free m calls gone) h there = free.none refl m h.0.0 there
    by is (deeds.Exit calls gone) h there = exit.none refl tt tt there
    by is (deeds.Fault serial m p) h there = fault.none refl (record { serial = serial; «module» = m; page = p }) h.0 there
    by is (deeds.Write serial m object offset bs) h there = bytes.none refl (deeds.Write serial m object offset bs) h.0 there
    by is (deeds.Debug serial m object offset bs) h there = bytes.none refl (deeds.Debug serial m object offset bs) h.0 there
    by is (deeds.Shared serial m object offset bs) h there = bytes.none refl (deeds.Shared serial m object offset bs) h.0 there

pub free_bare : (lib : Library) (m : ℕ) (calls : List Call) (gone : List Gone) → IsModuleOf lib m → calls ≡ [] → gone ≡ [] → IsBareDeed lib (deeds.Free m calls gone)
free_bare lib m calls gone h c g = ((h, subst (AllByRecursion (IsCall lib)) (sym c) tt, subst (AllByRecursion (IsGone lib)) (sym g) tt), (c, g))
