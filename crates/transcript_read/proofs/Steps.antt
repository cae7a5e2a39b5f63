-- What a reader of words has after a step.
use Rattle.std.proofs.Common.{◌≡◌, ℕ, ◌+◌, ◌<◌, Bool, true, false, cond, List, [], ◌∷◌, ◌++◌, length, Option, Some, None, refl, sym, ◌∙◌, ap, subst, arith, append_assoc, append-nil}
use Rattle.std.specs.Prelude.{is_some, option_map}
use Rattle.std.proofs.lemmas.List.{length-append}
use Rattle.lx_types.proofs.Lists.{all_joined}
use Rattle.transcript_read.specs.Words.{Row, HasNoBlank, split, split_left}
use Rattle.std.proofs.lemmas.Bool.{both_ways}
use Rattle.std.proofs.lemmas.Slice.Eq.{bytes_eq-Decides}
use Rattle.dump_model.specs.Words.{Tells as TellsWord}
use Rattle.transcript_read.specs.Refusals.{is_word}
use Rattle.transcript_read.specs.Rows.{IsFront, TakesKnown, held, has_word}
use Rattle.transcript_read.specs.Taken.{Takes, TakesSome, Ends, size_of}
use Rattle.transcript_read.proofs.Splits.{some_words}
use Rattle.transcript_read.proofs.Chain.{word_takes}

-- ---- the word in front

pub front_none : (stopped : Bool) (w : List ℕ) → IsFront (cond stopped None (Some [])) w None
front_none true w = refl
front_none false w = refl

pub front_cut : (stopped : Bool) (ws vs : Row) (w : List ℕ) → ws ≡ w ∷ vs → IsFront (cond stopped None (Some ws)) w (cond stopped None (Some vs))
front_cut true ws vs w is = refl
front_cut false ws vs w is = subst (λ us. IsFront (Some us) w (Some vs)) (sym is) (refl, refl)

-- ---- so many words

pub some_none : (s : Option Row) → TakesSome 0 [] s s
some_none s = record {
  stopped = λ is. is;
  took = λ ws vs is then. let same : ws ≡ vs = cc (is, then) in (same, refl, tt);
  few = λ ws is then. absurd (cc (is, then));
}

pub some_more : (n : ℕ) (taken : Row) (w : List ℕ) (old here next : Option Row) → TakesSome n taken old here → IsFront here w next → HasNoBlank w
    → TakesSome (n + 1) (taken ++ w ∷ []) old next
some_more n taken w old here next so_far front inside = by here so_far front
  where
    by : (s : Option Row) → TakesSome n taken old s → IsFront s w next → TakesSome (n + 1) (taken ++ w ∷ []) old next
    by None t f = record {
      stopped = λ is. f;
      took = λ ws vs is then. absurd (cc (f, then));
      few = λ ws is _. omega (arith, t.few ws is refl);
    }
    by (Some []) t f = record {
      stopped = λ is. f;
      took = λ ws vs is then. absurd (cc (f, then));
      few = λ ws is _. let it = t.took ws [] is refl in omega (arith, it.1, ap length (it.0 ∙ append-nil taken));
    }
    by (Some (v ∷ vs)) t f = record {
      stopped = λ is. absurd (let gone : Some (v ∷ vs) ≡ None = t.stopped is in cc (gone));
      took = λ ws us is then.
          let it = t.took ws (v ∷ vs) is refl in
          let rest : vs ≡ us = cc (f.1, then) in (
            it.0 ∙ (λ i. taken ++ sym f.0 i ∷ rest i) ∙ sym (append_assoc taken (w ∷ []) us),
            omega (arith, it.1, length-append taken (w ∷ [])),
            all_joined HasNoBlank taken (w ∷ []) it.2 (inside, tt),
          );
      few = λ ws is then. absurd (cc (f.1, then));
    }

-- ---- a word that is known

pub known_takes : (text word : List ℕ) (flag : Bool) (old mid new : Option Row) → IsFront old word mid → flag ≡ is_word word text → new ≡ held flag mid → TakesKnown text old new
known_takes text word flag old mid new front same after =
    word_takes {A = Unit {0}} (λ _. text) (λ _. Unit {0}) (told (is_word word text)) flag tt word old mid new front (tells (is_word word text) refl) (same ∙ flags (is_word word text)) (λ x _. refl) after
  where
    told : Bool → Option (Unit {0})
    told true = Some tt
    told false = None

    flags : (b : Bool) → b ≡ is_some (told b)
    flags true = refl
    flags false = refl

    tells : (b : Bool) → is_word word text ≡ b → TellsWord {A = Unit {0}} (λ _. text) (λ _. Unit {0}) (told b) word
    tells true is = (tt, (bytes_eq-Decides word text).0 is)
    tells false is = λ _ _ other. both_ways (is_word word text) is ((bytes_eq-Decides word text).1 other)

-- ---- the text that is left

pub front_of : (stopped : Bool) (left : Option (List ℕ)) (text w : List ℕ) (vs : Row) → left ≡ Some text → split text ≡ w ∷ vs
    → IsFront (cond stopped None (Some (split_left left))) w (cond stopped None (Some vs))
front_of stopped left text w vs is row =
    subst (λ (o : Option (List ℕ)). IsFront (cond stopped None (Some (split_left o))) w (cond stopped None (Some vs))) (sym is) (front_cut stopped (split text) vs w row)

split_some : (text : List ℕ) → has_word (Some (split text)) ≡ true
split_some text = by (split text) (some_words text)
  where
    by : (ws : Row) → 0 < length ws → has_word (Some ws) ≡ true
    by [] h = absurd (let none : ⊥ = omega arith in none)
    by (w ∷ ws) h = refl

pub left_word : {B : Type 0} (bytes : B → List ℕ) (left : Option B) (stopped : Bool) → stopped ≡ false
    → is_some left ≡ has_word (cond stopped None (Some (split_left (option_map bytes left))))
left_word bytes left stopped is =
    subst (λ (b : Bool). is_some left ≡ has_word (cond b None (Some (split_left (option_map bytes left))))) (sym is) (by left)
  where
    by : (o : Option _) → is_some o ≡ has_word (Some (split_left (option_map bytes o)))
    by None = refl
    by (Some x) = sym (split_some (bytes x))

pub ends_not : {A : Type 0} (a : A) (s : Option Row) → (s ≡ Some [] → ⊥) → Ends a None s
ends_not a s h = record { some = λ b is. absurd (cc (is)); none = λ _ is. h is }

pub ends_stopped : {A : Type 0} (a : A) (stopped : Bool) (ws : Row) → stopped ≡ true → Ends a None (cond stopped None (Some ws))
ends_stopped a stopped ws is = subst (λ (b : Bool). Ends a None (cond b None (Some ws))) (sym is) (ends_not a None (λ h. absurd (cc (h))))

pub ends_more : {A B : Type 0} (a : A) (bytes : B → List ℕ) (left : Option B) (stopped : Bool) → is_some left ≡ true
    → Ends a None (cond stopped None (Some (split_left (option_map bytes left))))
ends_more {A} {B} a bytes left stopped some = by left some stopped
  where
    by : (o : Option B) → is_some o ≡ true → (t : Bool) → Ends a None (cond t None (Some (split_left (option_map bytes o))))
    by None some t = absurd (cc (some))
    by (Some x) some true = ends_not a None (λ h. absurd (cc (h)))
    by (Some x) some false = ends_not a (Some (split (bytes x))) (λ h. let none : false ≡ true = sym (ap has_word h) ∙ split_some (bytes x) in absurd (cc (none)))

pub ends_all : {A B : Type 0} (a : A) (bytes : B → List ℕ) (left : Option B) (stopped : Bool) → is_some left ≡ false → stopped ≡ false
    → Ends a (Some a) (cond stopped None (Some (split_left (option_map bytes left))))
ends_all {A} {B} a bytes left stopped none going = by left none stopped going
  where
    by : (o : Option B) → is_some o ≡ false → (t : Bool) → t ≡ false → Ends a (Some a) (cond t None (Some (split_left (option_map bytes o))))
    by (Some x) none t going = absurd (cc (none))
    by None none true going = absurd (cc (going))
    by None none false going = record { some = λ b is. (cc (is), refl); none = λ is. absurd (cc (is)) }

-- ---- how many words are left

pub smaller : {A : Type 0} (text : A → List ℕ) (InRange : A → Type 0) (a : A) (old new : Option Row) → has_word old ≡ true → Takes text InRange a old new → size_of new < size_of old
smaller text InRange a None new some t = absurd (cc (some))
smaller text InRange a (Some ws) None some t = omega arith
smaller text InRange a (Some ws) (Some vs) some t = let it = t.took ws vs refl refl in omega (arith, ap length it.1)
