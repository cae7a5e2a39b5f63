-- The words of steady lines and of entries.
use Rattle.std.proofs.Common.{◌≡◌, ℕ, List, [], ◌∷◌, ◌++◌, refl, sym, ap, ◌∙◌, append_assoc}
use Rattle.load_model.specs.declared.commands.Command.{Command}
use Rattle.load_model.specs.declared.commands.Command.TheVariants as commands
use Rattle.std.specs.Prelude.{codes, decimal}
use Rattle.session_model.specs.declared.sessions.Line.{Line}
use Rattle.load_model.specs.declared.deeds.Entry.{Entry}
use Rattle.load_model.specs.Modules.{Library}
use Rattle.session_model.specs.declared.sessions.ScriptLines.{ScriptLines}
use Rattle.session_model.specs.Merging.{numbers_of}
use Rattle.session_model.specs.Transcript.{command_words, reply_words, line_text, process_text, deed_words, deed_lines, entry_text}
use Rattle.session_model.specs.Text.{words, line_of, inner_line}
use Rattle.line_words.specs.Words.{spaced}
use Rattle.line_words.proofs.SpacedLaws.{words-after, tail-pushed}

-- ---- steady lines

-- a command has a first word
record Begins (ws : List (List ℕ)) : Type 0 where
  verb : List ℕ
  args : List (List ℕ)
  is : ws ≡ verb ∷ args

command-begins : (c : Command) → Begins (command_words c)
command-begins (commands.Start name) = record { verb = _; args = _; is = refl }
command-begins (commands.Load name) = record { verb = _; args = _; is = refl }
command-begins (commands.Free name) = record { verb = _; args = _; is = refl }
command-begins (commands.Touch p) = record { verb = _; args = _; is = refl }
command-begins (commands.Peek p) = record { verb = _; args = _; is = refl }
command-begins (commands.Shared p) = record { verb = _; args = _; is = refl }
command-begins (commands.Write p bytes) = record { verb = _; args = _; is = refl }
command-begins (commands.Debug p bytes) = record { verb = _; args = _; is = refl }
command-begins (commands.Query name key) = record { verb = _; args = _; is = refl }
command-begins (commands.GetRes name ty id) = record { verb = _; args = _; is = refl }
command-begins commands.Exit = record { verb = _; args = _; is = refl }

-- what stands after two words
two-after : (a b : List ℕ) (ws : List (List ℕ)) → Begins ws → words (a ∷ b ∷ ws) ≡ words (a ∷ b ∷ []) ++ 0x20 ∷ words ws
two-after a b ws h =
    ap (λ ws. words (a ∷ b ∷ ws)) h.is ∙ sym (append_assoc a (0x20 ∷ b) (0x20 ∷ words (h.verb ∷ h.args)))
    ∙ ap (λ ws. words (a ∷ b ∷ []) ++ 0x20 ∷ words ws) (sym h.is)

steady-is : (l : Line) → line_text l ≡ 0x20 ∷ 0x20 ∷ (((words (codes "at" ∷ decimal l.front ∷ []) ++ 0x20 ∷ words (command_words l.command)) ++ spaced (reply_words l.reply)) ++ 0x0A ∷ [])
unfolding line_text
steady-is l =
    ap (λ bytes. 0x20 ∷ 0x20 ∷ (bytes ++ 0x0A ∷ []))
    (words-after (codes "at") (decimal l.front ∷ command_words l.command) (reply_words l.reply)
    ∙ ap (λ bytes. bytes ++ spaced (reply_words l.reply)) (two-after (codes "at") (decimal l.front) (command_words l.command) (command-begins l.command)))

pub steady-pushed : (out a b c d e f : List ℕ) (l : Line) → a ≡ out ++ 0x20 ∷ 0x20 ∷ [] → b ≡ a ++ words (codes "at" ∷ decimal l.front ∷ []) → c ≡ b ++ 0x20 ∷ []
    → d ≡ c ++ words (command_words l.command) → e ≡ d ++ spaced (reply_words l.reply) → f ≡ e ++ 0x0A ∷ [] → f ≡ out ++ line_text l
steady-pushed out a b c d e f l ha hb hc hd he hf =
    regroup out (words (codes "at" ∷ decimal l.front ∷ [])) (words (command_words l.command)) (spaced (reply_words l.reply)) a b c d e f ha hb hc hd he hf
    ∙ ap (λ bytes. out ++ bytes) (sym (steady-is l))
  where
    regroup : (out x y z a b c d e f : List ℕ) → a ≡ out ++ 0x20 ∷ 0x20 ∷ [] → b ≡ a ++ x → c ≡ b ++ 0x20 ∷ [] → d ≡ c ++ y → e ≡ d ++ z → f ≡ e ++ 0x0A ∷ []
        → f ≡ out ++ 0x20 ∷ 0x20 ∷ (((x ++ 0x20 ∷ y) ++ z) ++ 0x0A ∷ [])
    regroup out x y z a b c d e f ha hb hc hd he hf = rw (hf, he, hd, hc, hb, ha) (simp append_assoc)

-- ---- lines that end with a list

pub inner-pushed : (out a b c d : List ℕ) (w : List ℕ) (ws vs : List (List ℕ)) → a ≡ out ++ 0x20 ∷ 0x20 ∷ [] → b ≡ a ++ words (w ∷ ws) → c ≡ b ++ spaced vs
    → d ≡ c ++ 0x0A ∷ [] → d ≡ out ++ inner_line (w ∷ ws ++ vs)
inner-pushed out a b c d w ws vs ha hb hc hd =
    tail-pushed a b c d w ws vs hb hc hd ∙ ap (λ bytes. bytes ++ line_of (w ∷ ws ++ vs)) ha ∙ append_assoc out (0x20 ∷ 0x20 ∷ []) (line_of (w ∷ ws ++ vs))

-- ---- entries

pub entry-pushed : (out a b c d : List ℕ) (lib : Library) (steady : List ScriptLines) (number pid : ℕ) (e : Entry)
    → process_text (numbers_of steady) e.pid ≡ codes "P" ++ decimal pid
    → a ≡ out ++ words (decimal number ∷ (codes "P" ++ decimal pid) ∷ []) → b ≡ a ++ spaced (deed_words lib e.deed) → c ≡ b ++ 0x0A ∷ []
    → d ≡ c ++ deed_lines lib e.deed → d ≡ out ++ entry_text lib (numbers_of steady) (number, e)
unfolding entry_text
entry-pushed out a b c d lib steady number pid e script ha hb hc hd =
    hd
    ∙ ap (λ bytes. bytes ++ deed_lines lib e.deed) (tail-pushed out a b c (decimal number) ((codes "P" ++ decimal pid) ∷ []) (deed_words lib e.deed) ha hb hc)
    ∙ append_assoc out (line_of (decimal number ∷ (codes "P" ++ decimal pid) ∷ deed_words lib e.deed)) (deed_lines lib e.deed)
    ∙ ap (λ p. out ++ (line_of (decimal number ∷ p ∷ deed_words lib e.deed) ++ deed_lines lib e.deed)) (sym script)
