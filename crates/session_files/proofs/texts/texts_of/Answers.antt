use Rattle.std.proofs.Common.{◌≡◌, ◌∷◌, ◌++◌, [], List, ℕ, ◌∙◌, ap, sym, subst, map, string_bytes, append_assoc}
use Rattle.std.specs.List.{All}
use Rattle.std.proofs.lemmas.List.{map-append}
use Rattle.std.proofs.lemmas.List.Elements.{All-tail}
use Rattle.session_model.specs.Lines.{words_in}
use Rattle.session_text.specs.Writable.{IsPlain}
use Rattle.session_files.proofs.texts.texts_of.Goals as goal

-- a text more, and a word fewer
moved : (done left after all : List (List ℕ)) (word text : List ℕ) → done ++ left ≡ all → left ≡ word ∷ after → text ≡ word → (done ++ text ∷ []) ++ after ≡ all
moved done left after all word text are cut is =
    append_assoc done (text ∷ []) after ∙ ap (λ w. done ++ w ∷ after) is ∙ ap (λ ws. done ++ ws) (sym cut) ∙ are

pub loop-cut-preserved : goal.loop-cut-preserved
loop-cut-preserved c = (
  ap (λ texts. texts ++ words_in c.in-Some.cut.after.now)
      (ap (map string_bytes) c.in_ok-push.ensures.items ∙ map-append string_bytes c.loop-cut.texts.items (c.in_ok-from_str.field-0 ∷ []))
      ∙ moved (map string_bytes c.loop-cut.texts.items) (words_in c.loop-cut.left.now) (words_in c.in-Some.cut.after.now) c.args.words.now c.in-Some.cut.word.now
      (string_bytes c.in_ok-from_str.field-0) c.loop-cut.invariant.0 c.in-Some.ensures.words (c.in_ok-from_str.ensures.ok ∙ c.text_in.ensures),
  All-tail IsPlain c.in-Some.cut.word.now (words_in c.in-Some.cut.after.now) (subst (All IsPlain) c.in-Some.ensures.words c.loop-cut.invariant.1),
)
