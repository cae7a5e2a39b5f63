-- Commands that sessions have can be written, and each is told by its words.
use Rattle.std.proofs.Common.{◌≡◌, ℕ, zero, suc, true, List, [], ◌∷◌, ◌++◌, length, slice_get, Some, refl, sym, ◌∙◌, ap, subst, arith}
use Rattle.std.specs.List.{AllByRecursion}
use Rattle.std.proofs.lemmas.Bool.{and_from}
use Rattle.std.proofs.lemmas.Bool.Decides.{nat_tests}
use Rattle.load_model.specs.declared.commands.Command.{Command}
use Rattle.session_model.specs.declared.sessions.Script.{Script}
use Rattle.session_model.specs.Bounds.{IsCommand, IsScript}
use Rattle.session_model.specs.Statements.{command, says, reading_of}
use Rattle.session_model.specs.Text.{words}
use Rattle.session_model.specs.Transcript.{command_words}
use Rattle.session_model.proofs.Bounded.{sessions_are_bounded}
use Rattle.session_text.specs.Writable.{IsVisible, IsPlain, IsPlainCommand, IsPlainScript}
use Rattle.session_text.proofs.Readable.{session-writable}
use Rattle.session_text.proofs.StatementTexts.{IsSayable, statement-read}
use Rattle.dump_model.specs.Words.{is_in_word, no_break, IsWord}
use Rattle.check_model.specs.Told.{commands_at, IsSaid}
use Rattle.transcript_read.specs.Words.{Row}

in_commands : (P : Command → Type 0) (cs : List Command) (k : ℕ) (c : Command) → AllByRecursion P cs → slice_get cs k ≡ Some c → P c
in_commands P [] k c all is = absurd (cc (is))
in_commands P (x ∷ cs) zero c all is = let same : x ≡ c = cc (is) in subst P same all.0
in_commands P (x ∷ cs) (suc k) c all is = in_commands P cs k c all.1 is

in_scripts : (scripts : List Script) (i k : ℕ) (c : Command) → AllByRecursion IsScript scripts → AllByRecursion IsPlainScript scripts →
    slice_get (commands_at (slice_get scripts i)) k ≡ Some c → IsCommand c × IsPlainCommand c
in_scripts [] i k c bounds plain is = absurd (cc (is))
in_scripts (s ∷ scripts) zero k c bounds plain is = (in_commands IsCommand s.commands k c bounds.0.commands is, in_commands IsPlainCommand s.commands k c plain.0 is)
in_scripts (s ∷ scripts) (suc i) k c bounds plain is = in_scripts scripts i k c bounds.1 plain.1 is

pub said_sayable : (c : Command) → IsSaid c → IsSayable (command c)
said_sayable c h =
    let bounds = sessions_are_bounded h.bytes h.session h.says in
    in_scripts h.session.scripts h.script h.place c bounds.scripts (session-writable h.bytes h.session h.says bounds).scripts h.there

pub command_one : (c d : Command) → IsSayable (command c) → IsSayable (command d) → command_words c ≡ command_words d → c ≡ d
command_one c d hc hd is =
    let one : says (command c) ≡ says (command d) = sym (statement-read (command c) hc) ∙ ap (λ (ws : Row). reading_of (words ws)) is ∙ statement-read (command d) hd in
    cc (one)

visible_word : (w : List ℕ) → AllByRecursion IsVisible w → IsWord w
visible_word [] h = refl
visible_word (b ∷ w) h = and_from (is_in_word b) (no_break w) (in_word b h.0) (visible_word w h.1)
  where
    in_word : (b : ℕ) → IsVisible b → is_in_word b ≡ true
    in_word b h = grind (arith, nat_tests)

pub plain_words : (ws : Row) → AllByRecursion IsPlain ws → AllByRecursion IsWord ws
plain_words [] h = tt
plain_words (w ∷ ws) h = (visible_word w h.0.visible, plain_words ws h.1)

pub same_parts : (fs bs r q : Row) → length fs ≡ length bs → fs ++ r ≡ bs ++ q → (fs ≡ bs) × (r ≡ q)
same_parts [] [] r q len is = (refl, is)
same_parts [] (b ∷ bs) r q len is = absurd (let none : ⊥ = omega arith in none)
same_parts (a ∷ fs) [] r q len is = absurd (let none : ⊥ = omega arith in none)
same_parts (a ∷ fs) (b ∷ bs) r q len is =
    let one : a ≡ b = cc (is) in
    let more : fs ++ r ≡ bs ++ q = cc (is) in
    let rest = same_parts fs bs r q (omega arith) more in
    (ap (λ (x : List ℕ). x ∷ fs) one ∙ ap (λ (xs : Row). b ∷ xs) rest.0, rest.1)
