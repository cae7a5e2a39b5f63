-- Commands and their words.
use Rattle.std.proofs.Common.{◌≡◌, ℕ, ◌*◌, ◌^◌, ◌<◌, ◌≤◌, Bool, true, false, List, [], ◌∷◌, ◌++◌, length, Result, Ok, Err, Option, Some, None, refl, sym, ◌∙◌, ap, subst, arith, append-nil}
use Rattle.std.specs.Prelude.{is_none, codes, decimal, nat_le, slice_get, IfOk, IfSome, if◌then◌else◌, ◌||◌}
use Rattle.std.specs.Fmt.{digits}
use Rattle.std.specs.List.{AllByRecursion, list_all}
use Rattle.std.proofs.lemmas.Bool.{and_parts, and_from, both_ways, leb-true, ltb-false}
use Rattle.std.proofs.lemmas.List.{length-append}
use Rattle.lx_types.specs.declared.entry.EntryKey.{EntryKey}
use Rattle.lx_types.specs.declared.entry.EntryKey.TheVariants.{Ordinal, Named}
use Rattle.load_model.specs.declared.commands.Place.{Place}
use Rattle.load_model.specs.declared.commands.Command.{Command}
use Rattle.load_model.specs.declared.commands.Command.TheVariants as commands
use Rattle.load_model.specs.declared.commands.Reply.{Reply}
use Rattle.load_model.specs.declared.commands.Reply.TheVariants as replies
use Rattle.session_model.specs.declared.limits.TheConstants.{MAX_WORD}
use Rattle.session_model.specs.declared.sessions.Line.{Line}
use Rattle.session_model.specs.declared.sessions.Script.{Script}
use Rattle.session_model.specs.declared.sessions.Session.{Session}
use Rattle.session_model.specs.declared.sessions.SessionRefusal.{SessionRefusal}
use Rattle.session_model.specs.Bounds.{IsCommand, IsKey, IsPlace, IsWritten}
use Rattle.session_model.specs.Bounds as bounds
use Rattle.session_model.specs.Sessions.{SesFault, Ses}
use Rattle.session_model.specs.Spelling.{session_bytes, command_line, process_words}
use Rattle.session_model.specs.Statements.{command}
use Rattle.session_model.specs.Text.{words, line_of, bytes_word}
use Rattle.session_model.specs.Transcript.{command_words, key_text, reply_words}
use Rattle.session_text.specs.Writable.{IsWritable}
use Rattle.session_text.proofs.NumberTexts.{number-short, ordinal-short}
use Rattle.session_text.proofs.SessionTexts.{written-read}
use Rattle.session_text.proofs.StatementTexts.{statement-plain}
use Rattle.dump_model.specs.Words.{is_in_word, no_break, IsWord}
use Rattle.check_model.specs.Told.{commands_at, IsSaid, IsReplyTo}
use Rattle.transcript_read.specs.Words.{Row, is_inside, HasNoBlank, split}
use Rattle.transcript_read.specs.Rows.{next_word}
use Rattle.transcript_read.specs.Taken.{TakesSome, TakesPart, Tells}
use Rattle.transcript_read.specs.Refusals.{is_word}
use Rattle.transcript_read.specs.Commands.{command_length, IsCommandText, IsLast, of_one, one_bytes}
use Rattle.transcript_read.proofs.Splits.{split_words, same_front}
use Rattle.transcript_read.proofs.Chain.{option_cases, Told}
use Rattle.transcript_read.proofs.Sayable.{said_sayable, command_one, plain_words, same_parts}

-- ---- words without breaks have no blanks

pub word_inside : (w : List ℕ) → IsWord w → HasNoBlank w
word_inside [] h = refl
word_inside (b ∷ w) h =
    let parts = and_parts (is_in_word b) (no_break w) h in
    and_from (is_inside b) (list_all is_inside w) (and_parts (is_inside b) _ parts.0).0 (word_inside w parts.1)

pub words_inside : (ws : Row) → AllByRecursion IsWord ws → AllByRecursion HasNoBlank ws
words_inside [] h = tt
words_inside (w ∷ ws) h = (word_inside w h.0, words_inside ws h.1)

command_inside : (c : Command) → IsSaid c → AllByRecursion HasNoBlank (command_words c)
command_inside c h = words_inside (command_words c) (plain_words (command_words c) (statement-plain (command c) (said_sayable c h)))

-- ---- a session of one command

pub one_writable : (c : Command) → IsSaid c → IsWritable (of_one c)
one_writable c h =
    let say = said_sayable c h in
    record {
      bounds = record {
        modules = tt;
        failing = tt;
        scripts = (record { few = omega arith; commands = (say.0, tt) }, tt);
        rising = (omega arith, omega arith);
        few = omega arith;
      };
      modules = tt;
      failing = tt;
      scripts = ((say.1, tt), tt);
    }

pub one_written : (c : Command) → session_bytes (of_one c) ≡ one_bytes (words (command_words c))
unfolding session_bytes digits
one_written c =
    append-nil (line_of (process_words 1) ++ (command_line c ++ []))
    ∙ ap (λ x. line_of (process_words 1) ++ x) (append-nil (command_line c))

-- bytes of one command are the session of it
pub one_session : (text : List ℕ) (c : Command) → IsSaid c → text ≡ words (command_words c) → Ses (one_bytes text) (of_one c)
one_session text c h is = subst (λ bytes. Ses bytes (of_one c)) (one_written c ∙ ap one_bytes (sym is)) (written-read (of_one c) (one_writable c h))

pub sessions_same : (bytes : List ℕ) (s t : Session) → Ses bytes s → Ses bytes t → s ≡ t
sessions_same bytes s t hs ht = hs.says ∙ sym ht.says

pub same_text : (text : List ℕ) (c : Command) → session_bytes (of_one c) ≡ one_bytes text → text ≡ words (command_words c)
same_text text c is =
    let whole : one_bytes text ≡ one_bytes (words (command_words c)) = sym is ∙ one_written c in
    same_front text (words (command_words c)) 0x0A (after_front (codes "process 1" ++ 0x0A ∷ []) (text ++ 0x0A ∷ []) (words (command_words c) ++ 0x0A ∷ []) whole)
  where
    after_front : (front a b : List ℕ) → front ++ a ≡ front ++ b → a ≡ b
    after_front [] a b is = is
    after_front (f ∷ front) a b is = let rest : front ++ a ≡ front ++ b = cc (is) in after_front front a b rest

pub last_said : (bytes : List ℕ) (s : Session) (c : Command) → Ses bytes s → IsLast s c → IsSaid c
last_said bytes s c says there = record { bytes = bytes; session = s; says = says; script = there.0; place = there.1; there = there.2 }

-- ---- the words of a command are short

abbrev IsShort : List ℕ → Type 0
IsShort w = length w ≤ 8192

short_literal : (w : List ℕ) → nat_le (length w) 8192 ≡ true → IsShort w
short_literal w h = leb-true (length w) 8192 h

short_name : (w : List ℕ) → bounds.IsWord w → IsShort w
short_name w h = omega (arith, h)

short_number : (n : ℕ) → n < 2 ^ 32 → IsShort (decimal n)
short_number n h = let few = ltb-false MAX_WORD (length (decimal n)) (number-short n h) in omega (arith, few)

short_bytes : (bs : List ℕ) → length (bytes_word bs) ≡ 2 * length bs
short_bytes [] = refl
short_bytes (b ∷ bs) = let rest = short_bytes bs in omega (arith, rest)

short_key : (key : EntryKey) → IsKey key → IsShort (key_text key)
short_key (Ordinal n) h = let few = ltb-false MAX_WORD (length (0x40 ∷ decimal n)) (ordinal-short n h) in omega (arith, few)
short_key (Named name) h = short_name name h

short_span : (p : Place) → IsPlace p → AllByRecursion IsShort (p.«module» ∷ decimal p.object ∷ decimal p.offset ∷ decimal p.len ∷ [])
short_span p h = (short_name p.«module» h.name, (short_number p.object h.object, (short_number p.offset h.offset, (short_number p.len h.length, tt))))

short_written : (p : Place) (bs : List ℕ) → IsWritten p bs → AllByRecursion IsShort (p.«module» ∷ decimal p.object ∷ decimal p.offset ∷ bytes_word bs ∷ [])
short_written p bs h = (
  short_name p.«module» h.place.place.name,
  (
    short_number p.object h.place.place.object,
    (
      short_number p.offset h.place.place.offset,
      (omega (arith, short_bytes bs, h.fit, h.place.few), tt),
    ),
  ),
)

-- five words at most, each short
short_words : (c : Command) → IsCommand c → (length (command_words c) ≤ 5) × AllByRecursion IsShort (command_words c)
short_words (commands.Start name) h = (omega arith, (short_literal (codes "start") refl, (short_name name h, tt)))
short_words (commands.Load name) h = (omega arith, (short_literal (codes "load") refl, (short_name name h, tt)))
short_words (commands.Free name) h = (omega arith, (short_literal (codes "free") refl, (short_name name h, tt)))
short_words (commands.Touch p) h = (omega arith, (short_literal (codes "touch") refl, short_span p h))
short_words (commands.Peek p) h = (omega arith, (short_literal (codes "peek") refl, short_span p h.place))
short_words (commands.Shared p) h = (omega arith, (short_literal (codes "shared") refl, short_span p h.place))
short_words (commands.Write p bytes) h = (omega arith, (short_literal (codes "write") refl, short_written p bytes h))
short_words (commands.Debug p bytes) h = (omega arith, (short_literal (codes "debug") refl, short_written p bytes h))
short_words (commands.Query name key) h = (omega arith, (short_literal (codes "query") refl, (short_name name h.0, (short_key key h.1, tt))))
short_words (commands.GetRes name ty id) h =
    (omega arith, (short_literal (codes "getres") refl, (short_name name h.0, (short_number ty (omega (arith, h.1)), (short_number id (omega (arith, h.2)), tt)))))
short_words commands.Exit h = (omega arith, (short_literal (codes "exit") refl, tt))

joined_short : (ws : Row) → AllByRecursion IsShort ws → length (words ws) ≤ length ws * 8193
joined_short [] h = omega arith
joined_short (w ∷ []) h = omega (arith, h.0)
joined_short (w ∷ v ∷ ws) h = let rest = joined_short (v ∷ ws) h.1 in omega (arith, rest, h.0, length-append w (0x20 ∷ words (v ∷ ws)))

pub command_short : (c : Command) → IsSaid c → length (words (command_words c)) < 0x1_0000
command_short c h =
    let say = said_sayable c h in
    let short = short_words c say.0 in
    omega (arith, joined_short (command_words c) short.1, short.0)

-- ---- how many words a command has

pub counted : (c : Command) (vs : Row) → command_length (next_word (Some (command_words c ++ vs))) ≡ length (command_words c)
counted (commands.Start name) vs = refl
counted (commands.Load name) vs = refl
counted (commands.Free name) vs = refl
counted (commands.Touch p) vs = refl
counted (commands.Peek p) vs = refl
counted (commands.Shared p) vs = refl
counted (commands.Write p bytes) vs = refl
counted (commands.Debug p bytes) vs = refl
counted (commands.Query name key) vs = refl
counted (commands.GetRes name ty id) vs = refl
counted commands.Exit vs = refl

pub some_counted : (w : List ℕ) → 1 ≤ command_length w
some_counted w =
    pick (is_word w (codes "exit")) (is_word w (codes "start") || is_word w (codes "load") || is_word w (codes "free")) (is_word w (codes "query")) (is_word w (codes "getres"))
  where
    pick : (a b c d : Bool) → 1 ≤ (if a then 1 else if b then 2 else if c then 3 else if d then 4 else 5)
    pick true b c d = omega arith
    pick false true c d = omega arith
    pick false false true d = omega arith
    pick false false false true = omega arith
    pick false false false false = omega arith

-- two commands in front of the same words are one
command_same : (c d : Command) (vs us : Row) → IsSaid c → IsSaid d → command_words c ++ vs ≡ command_words d ++ us → (c ≡ d) × (vs ≡ us)
command_same c d vs us hc hd is =
    let len : length (command_words c) ≡ length (command_words d) =
    sym (counted c vs) ∙ ap (λ ws. command_length (next_word (Some ws))) is ∙ counted d us in
    let parts = same_parts (command_words c) (command_words d) vs us len is in
    (command_one c d (said_sayable c hc) (said_sayable d hd) parts.0, parts.1)

-- ---- taken words are a command's

none_is : {A : Type 0} (s : Option A) → is_none s ≡ true → s ≡ None
none_is None h = refl
none_is (Some x) h = absurd (cc (h))

pub part_few : (count : ℕ) (taken : Row) (old new : Option Row) → count ≡ command_length (next_word old) → TakesSome count taken old new → is_none new ≡ true
    → TakesPart command_words IsSaid None old new
part_few count taken old new len t none = record {
  stopped = λ _. refl;
  took = λ ws a _ is. absurd (cc (is));
  other = λ ws is _ b vs hb row.
      let few = t.few ws is (none_is new none) in
      let same : count ≡ length (command_words b) = len ∙ ap (λ s. command_length (next_word s)) (is ∙ ap (λ r. Some r) row) ∙ counted b vs in
      omega (arith, few, same, ap length row, length-append (command_words b) vs);
}

joined_one : (ts ws : Row) → 1 ≤ length ts → 1 ≤ length ws → AllByRecursion HasNoBlank ts → AllByRecursion HasNoBlank ws → words ts ≡ words ws → ts ≡ ws
joined_one [] ws ht hw it iw is = absurd (let none : ⊥ = omega arith in none)
joined_one (t ∷ ts) [] ht hw it iw is = absurd (let none : ⊥ = omega arith in none)
joined_one (t ∷ ts) (w ∷ ws) ht hw it iw is = sym (split_words t ts it) ∙ ap split is ∙ split_words w ws iw

pub part_told : (count : ℕ) (taken : Row) (text : List ℕ) (told : Option Command) (old new : Option Row) → count ≡ command_length (next_word old) → TakesSome count taken old new
    → is_none new ≡ false → text ≡ words taken → IsCommandText told text → TakesPart command_words IsSaid told old new
part_told count taken text told old new len t some joined it = option_cases _ new
    (λ none. absurd (both_ways (is_none new) some (ap is_none none)))
    (λ vs after. by vs after told it)
  where
    many : 1 ≤ count
    many = let least = some_counted (next_word old) in omega (arith, least, len)

    by : (vs : Row) → new ≡ Some vs → (told : Option Command) → IsCommandText told text → TakesPart command_words IsSaid told old new
    by vs after (Some c) h = record {
      stopped = λ none. absurd (let gone = t.stopped none in cc (gone, after));
      took = λ ws a is same.
          let one : c ≡ a = cc (same) in
          let parts = t.took ws vs is after in
          let some : 1 ≤ length (command_words c) = words_some c in
          let row : taken ≡ command_words c =
          joined_one taken (command_words c) (omega (arith, many, parts.1)) some parts.2 (command_inside c h.0) (sym joined ∙ h.1) in
          (vs, subst IsSaid one h.0, after, parts.0 ∙ (λ i. (row ∙ ap command_words one) i ++ vs));
      other = λ ws is none. absurd (cc (none));
    }
      where
        words_some : (c : Command) → 1 ≤ length (command_words c)
        words_some c = let least = some_counted (next_word (Some (command_words c ++ []))) in omega (arith, least, counted c [])
    by vs after None h = record {
      stopped = λ _. refl;
      took = λ ws a is same. absurd (cc (same));
      other = λ ws is _ b us hb row.
          let parts = t.took ws vs is after in
          let same : count ≡ length (command_words b) = len ∙ ap (λ s. command_length (next_word s)) (is ∙ ap (λ r. Some r) row) ∙ counted b us in
          let rows = same_parts taken (command_words b) vs us (parts.1 ∙ same) (sym parts.0 ∙ row) in
          h b hb (joined ∙ ap words rows.0);
    }

-- ---- a command with its reply

abbrev pub asked_row : Line → Row
asked_row l = command_words l.command ++ reply_words l.reply

abbrev pub IsAsked : Line → Type 0
IsAsked l = IsSaid l.command × IsReplyTo l.command l.reply

abbrev pub line_with : ℕ → Command → Reply → Line
line_with front c r = record { front = front; command = c; reply = r }

pub no_command : (front : ℕ) (told : Option Command) (old new : Option Row) → TakesPart command_words IsSaid told old new → told ≡ None
    → Told asked_row IsAsked (line_with front commands.Exit replies.Fine) old None
no_command front told old new part none = record {
  some = λ b is. absurd (cc (is));
  none = λ _ b h there. part.other (asked_row b) there none b.command (reply_words b.reply) h.0 refl;
}

pub no_reply : (front : ℕ) (c : Command) (told : Option Command) (answer : Option Reply) (old new : Option Row) → TakesPart command_words IsSaid told old new → told ≡ Some c
    → Tells reply_words (IsReplyTo c) answer new → answer ≡ None → Told asked_row IsAsked (line_with front c replies.Fine) old None
no_reply front c told answer old new part some reply none = record {
  some = λ b is. absurd (cc (is));
  none = λ _ b h there.
      let it = part.took (asked_row b) c there some in
      let same = command_same b.command c (reply_words b.reply) it.0 h.0 it.1 it.3 in
      reply.none none b.reply (subst (λ x. IsReplyTo x b.reply) same.0 h.1) (it.2 ∙ ap (λ r. Some r) (sym same.1));
}

pub with_reply : (front : ℕ) (c : Command) (r : Reply) (told : Option Command) (answer : Option Reply) (old new : Option Row) → TakesPart command_words IsSaid told old new → told ≡ Some c
    → Tells reply_words (IsReplyTo c) answer new → answer ≡ Some r → Told asked_row IsAsked (line_with front c r) old (Some (line_with front c r))
with_reply front c r told answer old new part some reply answered = record {
  some = λ b is.
      let end = reply.some r answered in
      let same : b ≡ line_with front c r = cc (is) in
      option_cases _ old
      (λ none. absurd (let gone : told ≡ None = part.stopped none in cc (gone, some)))
      (λ ws there.
      let it = part.took ws c there some in
      let rest : it.0 ≡ reply_words r = cc (it.2, end.1) in
      (same, (it.1, end.0), there ∙ ap (λ x. Some x) (it.3 ∙ ap (λ vs. command_words c ++ vs) rest)));
  none = λ is. absurd (cc (is));
}

-- ---- the session that is read of a command's bytes

pub no_fault : (text : List ℕ) (bytes : List ℕ) (why : SessionRefusal) (c : Command) → bytes ≡ one_bytes text → SesFault bytes ≡ Some why → IsSaid c → text ≡ words (command_words c) → ⊥
no_fault text bytes why c same fault said is =
    let good = (one_session text c said is).good in
    let none : Some why ≡ None = sym fault ∙ ap SesFault same ∙ good in
    cc (none)

pub read_is_one : (text : List ℕ) (bytes : List ℕ) (s : Session) (c : Command) → bytes ≡ one_bytes text → Ses bytes s → IsSaid c → text ≡ words (command_words c) → s ≡ of_one c
read_is_one text bytes s c same says said is = sessions_same (one_bytes text) s (of_one c) (subst (λ b. Ses b s) same says) (one_session text c said is)

get_last : {A : Type 0} (xs : List A) (x : A) → slice_get (xs ++ x ∷ []) (length xs) ≡ Some x
get_last [] x = refl
get_last (y ∷ xs) x = get_last xs x

pub last_is : (session : Session) (scripts : List Script) (s : Script) (commands : List Command) (c : Command) → session.scripts ≡ scripts ++ s ∷ [] → s.commands ≡ commands ++ c ∷ []
    → IsLast session c
last_is session scripts s commands c is these =
    let script : slice_get session.scripts (length scripts) ≡ Some s = ap (λ xs. slice_get xs (length scripts)) is ∙ get_last scripts s in
    (length scripts, length commands, ap (λ o. slice_get (commands_at o) (length commands)) script ∙ ap (λ cs. slice_get cs (length commands)) these ∙ get_last commands c)

-- ---- what is answered

pub if_ok_map : {A E : Type 0} (r : Result A E) (P Q : A → Type 0) → IfOk r P → ((a : A) → P a → Q a) → IfOk r Q
if_ok_map (Ok a) P Q h more = more a h
if_ok_map (Err e) P Q h more = tt

pub if_some : {A : Type 0} (r : Option A) (P : A → Type 0) → ((a : A) → r ≡ Some a → P a) → IfSome r P
if_some None P h = tt
if_some (Some a) P h = h a refl
