-- A steady line tells its front, its command and its reply.
use Rattle.std.proofs.Common.{◌≡◌, ℕ, zero, suc, ◌==◌, ◌||◌, ◌<◌, ◌^◌, Bool, true, false, if◌then◌else◌, bytes_eq, List, [], ◌∷◌, ◌++◌, length, map, drop, get_or, slice_get, Option, Some, None, refl, sym, ◌∙◌, ap, subst, arith, eqb-true}
use Rattle.std.specs.Prelude.{codes, decimal}
use Rattle.std.specs.List.{AllByRecursion}
use Rattle.std.proofs.lemmas.Bool.{false≢true, and_from}
use Rattle.std.proofs.lemmas.Bool.Decides.{nat_tests}
use Rattle.lx_types.proofs.Lists.{all_joined}
use Rattle.lx_types.specs.Escaped.{hex_byte, hex_address}
use Rattle.lx_types.specs.declared.resource.ResSpot.{ResSpot}
use Rattle.load_model.specs.declared.commands.Command.{Command}
use Rattle.load_model.specs.declared.commands.Command.TheVariants as commands
use Rattle.load_model.specs.declared.commands.Refusal.{Refusal}
use Rattle.load_model.specs.declared.commands.Refusal.TheVariants as why
use Rattle.load_model.specs.declared.commands.Reply.{Reply}
use Rattle.load_model.specs.declared.commands.Reply.TheVariants as replies
use Rattle.session_model.specs.declared.sessions.Line.{Line}
use Rattle.session_model.specs.declared.sessions.Script.{Script}
use Rattle.session_model.specs.Bounds.{IsCommand, IsScript}
use Rattle.session_model.specs.Statements.{command, says, reading_of}
use Rattle.session_model.specs.Text.{words}
use Rattle.session_model.specs.Transcript.{command_words, refusal_words, reply_words}
use Rattle.session_model.proofs.Bounded.{sessions_are_bounded}
use Rattle.session_text.specs.Writable.{IsVisible, IsPlain, IsPlainCommand, IsPlainScript}
use Rattle.session_text.proofs.Readable.{session-writable}
use Rattle.session_text.proofs.StatementTexts.{IsSayable, statement_words, statement-plain, statement-read}
use Rattle.dump_model.specs.Words.{is_in_word, no_break, IsWord}
use Rattle.dump_model.proofs.NumberLaws.{count-word}
use Rattle.dump_model.proofs.FlagLaws.{address-one, address-word}
use Rattle.check_model.specs.Told.{IsByte, Has32, Has64, commands_at, IsSaid, IsRefusal, IsReplyTo, IsLine}
use Rattle.transcript_laws.proofs.TextRows.{Row, IsRow}
use Rattle.transcript_laws.proofs.RowKinds.{inner}
use Rattle.transcript_laws.proofs.ValueWords.{number_one, numbers_one, bytes_one, bytes_are_words, numbers_words}

wide : (n : ℕ) → Has32 n → Has64 n
wide n h = omega (arith, h)

-- ---- refusals

abbrev refusal_number : Refusal → ℕ
refusal_number why.Ended = 0
refusal_number why.Worn = 1
refusal_number why.Started = 2
refusal_number why.NoModule = 3
refusal_number why.NotLibrary = 4
refusal_number why.NotProgram = 5
refusal_number why.NoEntry = 6
refusal_number why.ForwardLoop = 7
refusal_number why.Gate286 = 8
refusal_number why.CountFull = 9
refusal_number (why.ArenaFull number of object size) = 10
refusal_number (why.InitFailed number by) = 11
refusal_number why.NotHeld = 12
refusal_number why.NotAttached = 13
refusal_number why.Range = 14
refusal_number why.ReadOnly = 15
refusal_number why.IsShared = 16
refusal_number why.NotShared = 17
refusal_number why.NotCode = 18
refusal_number why.Invalid = 19
refusal_number (why.NotTouched p) = 20
refusal_number why.NoResource = 21

abbrev refusal_fields : Refusal → List ℕ
refusal_fields (why.ArenaFull number of object size) = number ∷ of ∷ object ∷ size ∷ []
refusal_fields (why.InitFailed number by) = number ∷ by ∷ []
refusal_fields (why.NotTouched p) = p ∷ []
refusal_fields refusal = []

abbrev refusal_of : ℕ → List ℕ → Refusal
refusal_of k ns =
    if k == 0 then why.Ended
    else if k == 1 then why.Worn
    else if k == 2 then why.Started
    else if k == 3 then why.NoModule
    else if k == 4 then why.NotLibrary
    else if k == 5 then why.NotProgram
    else if k == 6 then why.NoEntry
    else if k == 7 then why.ForwardLoop
    else if k == 8 then why.Gate286
    else if k == 9 then why.CountFull
    else if k == 10 then why.ArenaFull (get_or ns 0 0) (get_or ns 1 0) (get_or ns 2 0) (get_or ns 3 0)
    else if k == 11 then why.InitFailed (get_or ns 0 0) (get_or ns 1 0)
    else if k == 12 then why.NotHeld
    else if k == 13 then why.NotAttached
    else if k == 14 then why.Range
    else if k == 15 then why.ReadOnly
    else if k == 16 then why.IsShared
    else if k == 17 then why.NotShared
    else if k == 18 then why.NotCode
    else if k == 19 then why.Invalid
    else if k == 20 then why.NotTouched (get_or ns 0 0)
    else why.NoResource

abbrev number_named : List ℕ → ℕ
number_named w =
    if bytes_eq w (codes "Ended") then 0
    else if bytes_eq w (codes "Worn") then 1
    else if bytes_eq w (codes "Started") then 2
    else if bytes_eq w (codes "NoModule") then 3
    else if bytes_eq w (codes "NotLibrary") then 4
    else if bytes_eq w (codes "NotProgram") then 5
    else if bytes_eq w (codes "NoEntry") then 6
    else if bytes_eq w (codes "ForwardLoop") then 7
    else if bytes_eq w (codes "Gate286") then 8
    else if bytes_eq w (codes "CountFull") then 9
    else if bytes_eq w (codes "ArenaFull") then 10
    else if bytes_eq w (codes "InitFailed") then 11
    else if bytes_eq w (codes "NotHeld") then 12
    else if bytes_eq w (codes "NotAttached") then 13
    else if bytes_eq w (codes "Range") then 14
    else if bytes_eq w (codes "ReadOnly") then 15
    else if bytes_eq w (codes "IsShared") then 16
    else if bytes_eq w (codes "NotShared") then 17
    else if bytes_eq w (codes "NotCode") then 18
    else if bytes_eq w (codes "Invalid") then 19
    else if bytes_eq w (codes "NotTouched") then 20
    else 21

abbrev first_word : Row → List ℕ
first_word ws = get_or ws 0 []

record RefusalIsTold (r : Refusal) : Type 0 where
  same : refusal_of (refusal_number r) (refusal_fields r) ≡ r
  number : number_named (first_word (refusal_words r)) ≡ refusal_number r
  fields : drop 1 (refusal_words r) ≡ map decimal (refusal_fields r)

refusal_told : (r : Refusal) → RefusalIsTold r
refusal_told why.Ended = record { same = refl; number = refl; fields = refl }
refusal_told why.Worn = record { same = refl; number = refl; fields = refl }
refusal_told why.Started = record { same = refl; number = refl; fields = refl }
refusal_told why.NoModule = record { same = refl; number = refl; fields = refl }
refusal_told why.NotLibrary = record { same = refl; number = refl; fields = refl }
refusal_told why.NotProgram = record { same = refl; number = refl; fields = refl }
refusal_told why.NoEntry = record { same = refl; number = refl; fields = refl }
refusal_told why.ForwardLoop = record { same = refl; number = refl; fields = refl }
refusal_told why.Gate286 = record { same = refl; number = refl; fields = refl }
refusal_told why.CountFull = record { same = refl; number = refl; fields = refl }
refusal_told (why.ArenaFull number of object size) = record { same = refl; number = refl; fields = refl }
refusal_told (why.InitFailed number by) = record { same = refl; number = refl; fields = refl }
refusal_told why.NotHeld = record { same = refl; number = refl; fields = refl }
refusal_told why.NotAttached = record { same = refl; number = refl; fields = refl }
refusal_told why.Range = record { same = refl; number = refl; fields = refl }
refusal_told why.ReadOnly = record { same = refl; number = refl; fields = refl }
refusal_told why.IsShared = record { same = refl; number = refl; fields = refl }
refusal_told why.NotShared = record { same = refl; number = refl; fields = refl }
refusal_told why.NotCode = record { same = refl; number = refl; fields = refl }
refusal_told why.Invalid = record { same = refl; number = refl; fields = refl }
refusal_told (why.NotTouched p) = record { same = refl; number = refl; fields = refl }
refusal_told why.NoResource = record { same = refl; number = refl; fields = refl }

refusal_small : (r : Refusal) → IsRefusal r → AllByRecursion Has64 (refusal_fields r)
refusal_small (why.ArenaFull number of object size) h = (h.0, (wide of h.1, (wide object h.2, (wide size h.3, tt))))
refusal_small (why.InitFailed number by) h = (h.0, (wide by h.1, tt))
refusal_small (why.NotTouched p) h = (wide p h, tt)
refusal_small refusal h = tt

refusal_one : (r s : Refusal) → IsRefusal r → IsRefusal s → refusal_words r ≡ refusal_words s → r ≡ s
refusal_one r s hr hs is =
    let t : RefusalIsTold r = refusal_told r in
    let u : RefusalIsTold s = refusal_told s in
    let number : refusal_number r ≡ refusal_number s = sym t.number ∙ ap (λ (ws : Row). number_named (first_word ws)) is ∙ u.number in
    let fields : refusal_fields r ≡ refusal_fields s =
    numbers_one (refusal_fields r) (refusal_fields s) (refusal_small r hr) (refusal_small s hs) (sym t.fields ∙ ap (λ (ws : Row). drop 1 ws) is ∙ u.fields) in
    sym t.same ∙ (λ i. refusal_of (number i) (fields i)) ∙ u.same

refusal_are_words : (r : Refusal) → IsRefusal r → AllByRecursion IsWord (refusal_words r)
refusal_are_words why.Ended h = (refl, numbers_words (refusal_fields why.Ended) (refusal_small why.Ended h))
refusal_are_words why.Worn h = (refl, numbers_words (refusal_fields why.Worn) (refusal_small why.Worn h))
refusal_are_words why.Started h = (refl, numbers_words (refusal_fields why.Started) (refusal_small why.Started h))
refusal_are_words why.NoModule h = (refl, numbers_words (refusal_fields why.NoModule) (refusal_small why.NoModule h))
refusal_are_words why.NotLibrary h = (refl, numbers_words (refusal_fields why.NotLibrary) (refusal_small why.NotLibrary h))
refusal_are_words why.NotProgram h = (refl, numbers_words (refusal_fields why.NotProgram) (refusal_small why.NotProgram h))
refusal_are_words why.NoEntry h = (refl, numbers_words (refusal_fields why.NoEntry) (refusal_small why.NoEntry h))
refusal_are_words why.ForwardLoop h = (refl, numbers_words (refusal_fields why.ForwardLoop) (refusal_small why.ForwardLoop h))
refusal_are_words why.Gate286 h = (refl, numbers_words (refusal_fields why.Gate286) (refusal_small why.Gate286 h))
refusal_are_words why.CountFull h = (refl, numbers_words (refusal_fields why.CountFull) (refusal_small why.CountFull h))
refusal_are_words (why.ArenaFull number of object size) h = (refl, numbers_words (refusal_fields (why.ArenaFull number of object size)) (refusal_small (why.ArenaFull number of object size) h))
refusal_are_words (why.InitFailed number by) h = (refl, numbers_words (refusal_fields (why.InitFailed number by)) (refusal_small (why.InitFailed number by) h))
refusal_are_words why.NotHeld h = (refl, numbers_words (refusal_fields why.NotHeld) (refusal_small why.NotHeld h))
refusal_are_words why.NotAttached h = (refl, numbers_words (refusal_fields why.NotAttached) (refusal_small why.NotAttached h))
refusal_are_words why.Range h = (refl, numbers_words (refusal_fields why.Range) (refusal_small why.Range h))
refusal_are_words why.ReadOnly h = (refl, numbers_words (refusal_fields why.ReadOnly) (refusal_small why.ReadOnly h))
refusal_are_words why.IsShared h = (refl, numbers_words (refusal_fields why.IsShared) (refusal_small why.IsShared h))
refusal_are_words why.NotShared h = (refl, numbers_words (refusal_fields why.NotShared) (refusal_small why.NotShared h))
refusal_are_words why.NotCode h = (refl, numbers_words (refusal_fields why.NotCode) (refusal_small why.NotCode h))
refusal_are_words why.Invalid h = (refl, numbers_words (refusal_fields why.Invalid) (refusal_small why.Invalid h))
refusal_are_words (why.NotTouched p) h = (refl, numbers_words (refusal_fields (why.NotTouched p)) (refusal_small (why.NotTouched p) h))
refusal_are_words why.NoResource h = (refl, numbers_words (refusal_fields why.NoResource) (refusal_small why.NoResource h))

-- ---- replies to a command

abbrev reply_number : Reply → ℕ
reply_number replies.Fine = 0
reply_number (replies.Bytes bytes) = 1
reply_number (replies.Address a) = 2
reply_number (replies.Spot spot) = 3
reply_number (replies.Refused refusal) = 4

-- the reply that a command has where it is not refused
abbrev number_for : Command → ℕ
number_for (commands.Touch at) = 0
number_for (commands.Peek at) = 1
number_for (commands.Query name key) = 2
number_for (commands.GetRes name ty id) = 3
number_for c = 4

abbrev reply_bytes : Reply → List ℕ
reply_bytes (replies.Bytes bytes) = bytes
reply_bytes reply = []

abbrev reply_address : Reply → ℕ
reply_address (replies.Address a) = a
reply_address reply = 0

abbrev reply_fields : Reply → List ℕ
reply_fields (replies.Spot spot) = spot.object ∷ spot.offset ∷ spot.len ∷ []
reply_fields reply = []

abbrev reply_refusal : Reply → Refusal
reply_refusal (replies.Refused refusal) = refusal
reply_refusal reply = why.Ended

abbrev reply_of : ℕ → List ℕ → ℕ → List ℕ → Refusal → Reply
reply_of k bytes a ns r =
    if k == 0 then replies.Fine
    else if k == 1 then replies.Bytes bytes
    else if k == 2 then replies.Address a
    else if k == 3 then replies.Spot (record { object = get_or ns 0 0; offset = get_or ns 1 0; len = get_or ns 2 0 })
    else replies.Refused r

abbrev is_refused : Row → Bool
is_refused ws = bytes_eq (first_word ws) (codes "refused")

-- what the words say, by the number of the reply
abbrev bytes_told : ℕ → Row → Row
bytes_told k ws = if k == 1 then drop 1 ws else []

abbrev address_told : ℕ → Row → List ℕ
address_told k ws = if k == 2 then get_or ws 1 [] else hex_address 0

abbrev fields_told : ℕ → Row → Row
fields_told k ws = if k == 3 then drop 1 ws else []

abbrev refusal_words_told : ℕ → Row → Row
refusal_words_told k ws = if k == 4 then drop 1 ws else refusal_words why.Ended

record ReplyIsTold (r : Reply) : Type 0 where
  same : reply_of (reply_number r) (reply_bytes r) (reply_address r) (reply_fields r) (reply_refusal r) ≡ r
  refused : is_refused (reply_words r) ≡ (reply_number r == 4)
  bytes : bytes_told (reply_number r) (reply_words r) ≡ map hex_byte (reply_bytes r)
  address : address_told (reply_number r) (reply_words r) ≡ hex_address (reply_address r)
  fields : fields_told (reply_number r) (reply_words r) ≡ map decimal (reply_fields r)
  refusal : refusal_words_told (reply_number r) (reply_words r) ≡ refusal_words (reply_refusal r)

reply_told : (r : Reply) → ReplyIsTold r
reply_told replies.Fine = record { same = refl; refused = refl; bytes = refl; address = refl; fields = refl; refusal = refl }
reply_told (replies.Bytes bytes) = record { same = refl; refused = refl; bytes = refl; address = refl; fields = refl; refusal = refl }
reply_told (replies.Address a) = record { same = refl; refused = refl; bytes = refl; address = refl; fields = refl; refusal = refl }
reply_told (replies.Spot spot) = record { same = refl; refused = refl; bytes = refl; address = refl; fields = refl; refusal = refl }
reply_told (replies.Refused refusal) = record { same = refl; refused = refl; bytes = refl; address = refl; fields = refl; refusal = refl }

-- which reply a command can have
record ReplyFits (c : Command) (r : Reply) : Type 0 where
  number : (reply_number r == 4) ≡ false → reply_number r ≡ number_for c
  bytes : AllByRecursion IsByte (reply_bytes r)
  address : Has32 (reply_address r)
  fields : AllByRecursion Has64 (reply_fields r)
  refusal : IsRefusal (reply_refusal r)

reply_fits : (c : Command) (r : Reply) → IsReplyTo c r → ReplyFits c r
reply_fits c (replies.Refused refusal) h = record { number = λ e. absurd (cc (e)); bytes = tt; address = omega arith; fields = tt; refusal = h }
reply_fits (commands.Touch at) replies.Fine h = record { number = λ e. refl; bytes = tt; address = omega arith; fields = tt; refusal = tt }
reply_fits (commands.Peek at) (replies.Bytes bytes) h = record { number = λ e. refl; bytes = h; address = omega arith; fields = tt; refusal = tt }
reply_fits (commands.Query name key) (replies.Address a) h = record { number = λ e. refl; bytes = tt; address = h; fields = tt; refusal = tt }
reply_fits (commands.GetRes name ty id) (replies.Spot spot) h =
    record { number = λ e. refl; bytes = tt; address = omega arith; fields = (wide spot.object h.0, (wide spot.offset h.1, (wide spot.len h.2, tt))); refusal = tt }
reply_fits c r h = absurd h

same_number : (c : Command) (r s : Reply) → ReplyFits c r → ReplyFits c s → (reply_number r == 4) ≡ (reply_number s == 4) → reply_number r ≡ reply_number s
same_number c r s fr fs is = step (reply_number r == 4) refl
  where
    step : (b : Bool) → (reply_number r == 4) ≡ b → reply_number r ≡ reply_number s
    step true e = eqb-true (reply_number r) 4 e ∙ sym (eqb-true (reply_number s) 4 (sym is ∙ e))
    step false e = fr.number e ∙ sym (fs.number (sym is ∙ e))

pub reply_one : (c : Command) (r s : Reply) → IsReplyTo c r → IsReplyTo c s → reply_words r ≡ reply_words s → r ≡ s
reply_one c r s hr hs is =
    let fr : ReplyFits c r = reply_fits c r hr in
    let fs : ReplyFits c s = reply_fits c s hs in
    let t : ReplyIsTold r = reply_told r in
    let u : ReplyIsTold s = reply_told s in
    let k : reply_number r ≡ reply_number s = same_number c r s fr fs (sym t.refused ∙ ap is_refused is ∙ u.refused) in
    let bytes : reply_bytes r ≡ reply_bytes s = bytes_one (reply_bytes r) (reply_bytes s) fr.bytes fs.bytes (sym t.bytes ∙ (λ i. bytes_told (k i) (is i)) ∙ u.bytes) in
    let address : reply_address r ≡ reply_address s = address-one (reply_address r) (reply_address s) fr.address fs.address (sym t.address ∙ (λ i. address_told (k i) (is i)) ∙ u.address) in
    let fields : reply_fields r ≡ reply_fields s = numbers_one (reply_fields r) (reply_fields s) fr.fields fs.fields (sym t.fields ∙ (λ i. fields_told (k i) (is i)) ∙ u.fields) in
    let refusal : reply_refusal r ≡ reply_refusal s =
    refusal_one (reply_refusal r) (reply_refusal s) fr.refusal fs.refusal (sym t.refusal ∙ (λ i. refusal_words_told (k i) (is i)) ∙ u.refusal) in
    sym t.same ∙ (λ i. reply_of (k i) (bytes i) (address i) (fields i) (refusal i)) ∙ u.same

reply_are_words : (c : Command) (r : Reply) → IsReplyTo c r → AllByRecursion IsWord (reply_words r)
reply_are_words c replies.Fine h = (refl, tt)
reply_are_words c (replies.Bytes bytes) h = (refl, bytes_are_words bytes)
reply_are_words c (replies.Address a) h = (refl, (address-word a, tt))
reply_are_words c (replies.Spot spot) h = (refl, numbers_words (reply_fields (replies.Spot spot)) (reply_fits c (replies.Spot spot) h).fields)
reply_are_words c (replies.Refused refusal) h = (refl, refusal_are_words refusal (reply_fits c (replies.Refused refusal) h).refusal)

-- ---- commands

in_commands : (P : Command → Type 0) (cs : List Command) (k : ℕ) (c : Command) → AllByRecursion P cs → slice_get cs k ≡ Some c → P c
in_commands P [] k c all is = absurd (cc (is))
in_commands P (x ∷ cs) zero c all is = let same : x ≡ c = cc (is) in subst P same all.0
in_commands P (x ∷ cs) (suc k) c all is = in_commands P cs k c all.1 is

in_scripts : (scripts : List Script) (i k : ℕ) (c : Command) → AllByRecursion IsScript scripts → AllByRecursion IsPlainScript scripts →
    slice_get (commands_at (slice_get scripts i)) k ≡ Some c → IsCommand c × IsPlainCommand c
in_scripts [] i k c bounds plain is = absurd (cc (is))
in_scripts (s ∷ scripts) zero k c bounds plain is = (in_commands IsCommand s.commands k c bounds.0.commands is, in_commands IsPlainCommand s.commands k c plain.0 is)
in_scripts (s ∷ scripts) (suc i) k c bounds plain is = in_scripts scripts i k c bounds.1 plain.1 is

said_sayable : (c : Command) → IsSaid c → IsSayable (command c)
said_sayable c h =
    let bounds = sessions_are_bounded h.bytes h.session h.says in
    in_scripts h.session.scripts h.script h.place c bounds.scripts (session-writable h.bytes h.session h.says bounds).scripts h.there

command_one : (c d : Command) → IsSayable (command c) → IsSayable (command d) → command_words c ≡ command_words d → c ≡ d
command_one c d hc hd is =
    let one : says (command c) ≡ says (command d) = sym (statement-read (command c) hc) ∙ ap (λ (ws : Row). reading_of (words ws)) is ∙ statement-read (command d) hd in
    cc (one)

visible_word : (w : List ℕ) → AllByRecursion IsVisible w → IsWord w
visible_word [] h = refl
visible_word (b ∷ w) h = and_from (is_in_word b) (no_break w) (in_word b h.0) (visible_word w h.1)
  where
    in_word : (b : ℕ) → IsVisible b → is_in_word b ≡ true
    in_word b h = grind (arith, nat_tests)

plain_words : (ws : Row) → AllByRecursion IsPlain ws → AllByRecursion IsWord ws
plain_words [] h = tt
plain_words (w ∷ ws) h = (visible_word w h.0.visible, plain_words ws h.1)

-- how many words a command has, by its first one
abbrev word_count : Row → ℕ
word_count ws =
    if bytes_eq (first_word ws) (codes "exit") then 1
    else if bytes_eq (first_word ws) (codes "start") || bytes_eq (first_word ws) (codes "load") || bytes_eq (first_word ws) (codes "free") then 2
    else if bytes_eq (first_word ws) (codes "query") then 3
    else if bytes_eq (first_word ws) (codes "getres") then 4
    else 5

words_counted : (c : Command) (r : Row) → word_count (command_words c ++ r) ≡ word_count (command_words c)
words_counted (commands.Start name) r = refl
words_counted (commands.Load name) r = refl
words_counted (commands.Free name) r = refl
words_counted (commands.Touch p) r = refl
words_counted (commands.Peek p) r = refl
words_counted (commands.Shared p) r = refl
words_counted (commands.Write p bytes) r = refl
words_counted (commands.Debug p bytes) r = refl
words_counted (commands.Query name key) r = refl
words_counted (commands.GetRes name ty id) r = refl
words_counted commands.Exit r = refl

length_counted : (c : Command) → word_count (command_words c) ≡ length (command_words c)
length_counted (commands.Start name) = refl
length_counted (commands.Load name) = refl
length_counted (commands.Free name) = refl
length_counted (commands.Touch p) = refl
length_counted (commands.Peek p) = refl
length_counted (commands.Shared p) = refl
length_counted (commands.Write p bytes) = refl
length_counted (commands.Debug p bytes) = refl
length_counted (commands.Query name key) = refl
length_counted (commands.GetRes name ty id) = refl
length_counted commands.Exit = refl

same_parts : (fs bs r q : Row) → length fs ≡ length bs → fs ++ r ≡ bs ++ q → (fs ≡ bs) × (r ≡ q)
same_parts [] [] r q len is = (refl, is)
same_parts [] (b ∷ bs) r q len is = absurd (let none : ⊥ = omega arith in none)
same_parts (a ∷ fs) [] r q len is = absurd (let none : ⊥ = omega arith in none)
same_parts (a ∷ fs) (b ∷ bs) r q len is =
    let one : a ≡ b = cc (is) in
    let more : fs ++ r ≡ bs ++ q = cc (is) in
    let rest = same_parts fs bs r q (omega arith) more in
    (ap (λ (x : List ℕ). x ∷ fs) one ∙ ap (λ (xs : Row). b ∷ xs) rest.0, rest.1)

-- ---- lines

abbrev pub at_row : Line → Row
at_row l = inner (codes "at" ∷ decimal l.front ∷ (command_words l.command ++ reply_words l.reply))

pub line_one : (a b : Line) → IsLine a → IsLine b → at_row a ≡ at_row b → a ≡ b
line_one a b ha hb is =
    let f : decimal a.front ≡ decimal b.front = ap (λ (ws : Row). get_or ws 3 []) is in
    let both : command_words a.command ++ reply_words a.reply ≡ command_words b.command ++ reply_words b.reply = ap (λ (ws : Row). drop 4 ws) is in
    let len : length (command_words a.command) ≡ length (command_words b.command) =
    sym (length_counted a.command) ∙ sym (words_counted a.command (reply_words a.reply)) ∙ ap word_count both ∙ words_counted b.command (reply_words b.reply) ∙ length_counted b.command in
    let parts = same_parts (command_words a.command) (command_words b.command) (reply_words a.reply) (reply_words b.reply) len both in
    let front = number_one a.front b.front ha.front hb.front f in
    let asked : a.command ≡ b.command = command_one a.command b.command (said_sayable a.command ha.said) (said_sayable b.command hb.said) parts.0 in
    let reply : a.reply ≡ b.reply = reply_one b.command a.reply b.reply (subst (λ (c : Command). IsReplyTo c a.reply) asked ha.reply) hb.reply parts.1 in
    λ i. record { front = front i; command = asked i; reply = reply i }

pub line_is_row : (l : Line) → IsLine l → IsRow (at_row l)
line_is_row l h = (
  omega arith,
  (
    refl,
    (
      refl,
      (
        refl,
        (
          count-word l.front h.front,
          all_joined IsWord (command_words l.command) (reply_words l.reply) (plain_words (command_words l.command) (statement-plain (command l.command) (said_sayable l.command h.said)))
              (reply_are_words l.command l.reply h.reply),
        ),
      ),
    ),
  ),
)
