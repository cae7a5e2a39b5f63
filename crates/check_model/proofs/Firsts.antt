-- What goes wrong first is one thing, and then something is wrong.
use Rattle.std.proofs.Common.{◌≡◌, ℕ, inl, inr, List, [], ◌∷◌, sym, ◌∙◌}
use Rattle.std.specs.List.{AllByRecursion}
use Rattle.check_model.specs.declared.kinds.CheckKind.{CheckKind}
use Rattle.check_model.specs.Told.{Told}
use Rattle.check_model.specs.Places.{Place, places}
use Rattle.check_model.specs.Checks.{Judge, IsRight, in_order, WrongFirst, IsFine, IsWrong, FirstWrongIn}
use Rattle.check_model.specs.Laws.{FirstWrongIsOne}

one_kind : (Right : CheckKind → Type 0) (ks : List CheckKind) (a b : CheckKind) → WrongFirst Right ks a → WrongFirst Right ks b → a ≡ b
one_kind Right [] a b h k = absurd h
one_kind Right (x ∷ ks) a b (inl h) (inl k) = h.0 ∙ sym k.0
one_kind Right (x ∷ ks) a b (inl h) (inr k) = absurd (h.1 k.0)
one_kind Right (x ∷ ks) a b (inr h) (inl k) = absurd (k.1 h.0)
one_kind Right (x ∷ ks) a b (inr h) (inr k) = one_kind Right ks a b h.1 k.1

not_all : (Right : CheckKind → Type 0) (ks : List CheckKind) (a : CheckKind) → WrongFirst Right ks a → AllByRecursion Right ks → ⊥
not_all Right [] a h all = h
not_all Right (x ∷ ks) a (inl h) all = h.1 all.0
not_all Right (x ∷ ks) a (inr h) all = not_all Right ks a h.1 all.1

not_fine : (j : Judge) (t : Told) (p : Place) (n : ℕ) (a : CheckKind) → IsWrong j t p n a → IsFine j t p → ⊥
not_fine j t p n a w all = not_all (IsRight j t p.what) in_order a w.kind_is all

one_line : (j : Judge) (t : Told) (ps : List Place) (m n : ℕ) (a b : CheckKind) → FirstWrongIn j t ps m a → FirstWrongIn j t ps n b → m ≡ n
one_line j t [] m n a b h k = absurd h
one_line j t (p ∷ ps) m n a b (inl h) (inl k) = h.number_is ∙ sym k.number_is
one_line j t (p ∷ ps) m n a b (inl h) (inr k) = absurd (not_fine j t p m a h k.0)
one_line j t (p ∷ ps) m n a b (inr h) (inl k) = absurd (not_fine j t p n b k h.0)
one_line j t (p ∷ ps) m n a b (inr h) (inr k) = one_line j t ps m n a b h.1 k.1

one_way : (j : Judge) (t : Told) (ps : List Place) (m n : ℕ) (a b : CheckKind) → FirstWrongIn j t ps m a → FirstWrongIn j t ps n b → a ≡ b
one_way j t [] m n a b h k = absurd h
one_way j t (p ∷ ps) m n a b (inl h) (inl k) = one_kind (IsRight j t p.what) in_order a b h.kind_is k.kind_is
one_way j t (p ∷ ps) m n a b (inl h) (inr k) = absurd (not_fine j t p m a h k.0)
one_way j t (p ∷ ps) m n a b (inr h) (inl k) = absurd (not_fine j t p n b k h.0)
one_way j t (p ∷ ps) m n a b (inr h) (inr k) = one_way j t ps m n a b h.1 k.1

some_wrong : (j : Judge) (t : Told) (ps : List Place) (m : ℕ) (a : CheckKind) → FirstWrongIn j t ps m a → AllByRecursion (IsFine j t) ps → ⊥
some_wrong j t [] m a h all = h
some_wrong j t (p ∷ ps) m a (inl h) all = not_fine j t p m a h all.0
some_wrong j t (p ∷ ps) m a (inr h) all = some_wrong j t ps m a h.1 all.1

pub first_wrong_is_one : FirstWrongIsOne
first_wrong_is_one = record {
  line = λ j t m n a b h k. one_line j t (places t.run j.scripts) m n a b h k;
  kind = λ j t m n a b h k. one_way j t (places t.run j.scripts) m n a b h k;
  some = λ j t m a h all. some_wrong j t (places t.run j.scripts) m a h all;
}
