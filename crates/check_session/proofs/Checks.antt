-- What a check comes to is one thing.
use Rattle.std.proofs.Common.{◌≡◌, ◌≢◌, ◌⊎◌, ℕ, List, [], ◌∷◌, inl, inr, refl, sym, ap, ◌∙◌, subst}
use Rattle.std.specs.List.{AllByRecursion}
use Rattle.check_model.specs.declared.kinds.CheckFault.{CheckFault}
use Rattle.check_model.specs.declared.kinds.CheckKind.{CheckKind}
use Rattle.check_model.specs.declared.kinds.CheckKind.TheVariants as kinds
use Rattle.check_model.specs.declared.kinds.Counts.{Counts}
use Rattle.check_model.specs.Told.{Told}
use Rattle.check_model.specs.Places.{Place, places}
use Rattle.check_model.specs.TextFault.{TextFault}
use Rattle.check_model.specs.Checks.{Judge, IsRight, in_order, WrongFirst, FirstWrongIn, FirstWrong, NothingWrong, IsToldWrong, IsRefused}
use Rattle.check_model.specs.Laws.{FirstWrongIsOne, TextFaultIsOne}
use Rattle.transcript_whole.specs.Whole.{Tells}
use Rattle.transcript_whole.specs.Readings.{IsTextFault}
use Rattle.check_session.specs.declared.checking.Checked.TheVariants.{Accepted, Refused}
use Rattle.check_session.specs.Checked.{IsChecked, IsOnlyCheck}

-- ---- texts are no kind of what is wrong at a place

not_among : (Right : CheckKind → Type 0) (ks : List CheckKind) (kind : CheckKind) → AllByRecursion (λ k. kind ≢ k) ks → WrongFirst Right ks kind → ⊥
not_among Right [] kind apart wrong = wrong
not_among Right (k ∷ ks) kind apart (inl w) = apart.0 w.0
not_among Right (k ∷ ks) kind apart (inr w) = not_among Right ks kind apart.1 w.1

no_text : (j : Judge) (t : Told) (ps : List Place) (number : ℕ) → FirstWrongIn j t ps number kinds.Text → ⊥
no_text j t [] number wrong = wrong
no_text j t (p ∷ ps) number (inl w) =
    not_among (IsRight j t p.what) in_order kinds.Text (λ e. cc, (λ e. cc, (λ e. cc, (λ e. cc, (λ e. cc, (λ e. cc, (λ e. cc, (λ e. cc, (λ e. cc, tt))))))))) w.kind_is
no_text j t (p ∷ ps) number (inr w) = no_text j t ps number w.1

-- ---- what is refused

told_wrong : (j : Judge) (bytes : List ℕ) (number : ℕ) (kind : CheckKind) (t : Told) → Tells j.lib bytes t → FirstWrong j t number kind → IsToldWrong j bytes number kind
told_wrong j bytes number kind t tells wrong = record { it = t; told = tells.told; text = tells.text; wrong = wrong }

pub refused_by : (j : Judge) (bytes : List ℕ) (number : ℕ) (kind : CheckKind) (t : Told) → Tells j.lib bytes t → FirstWrong j t number kind → IsRefused j bytes number kind
refused_by j bytes number kinds.Text t tells wrong = absurd (no_text j t (places t.run j.scripts) number wrong)
refused_by j bytes number kinds.Scripts t tells wrong = told_wrong j bytes number kinds.Scripts t tells wrong
refused_by j bytes number kinds.Front t tells wrong = told_wrong j bytes number kinds.Front t tells wrong
refused_by j bytes number kinds.Command t tells wrong = told_wrong j bytes number kinds.Command t tells wrong
refused_by j bytes number kinds.Refused t tells wrong = told_wrong j bytes number kinds.Refused t tells wrong
refused_by j bytes number kinds.Entry t tells wrong = told_wrong j bytes number kinds.Entry t tells wrong
refused_by j bytes number kinds.Fault t tells wrong = told_wrong j bytes number kinds.Fault t tells wrong
refused_by j bytes number kinds.Touch t tells wrong = told_wrong j bytes number kinds.Touch t tells wrong
refused_by j bytes number kinds.Reply t tells wrong = told_wrong j bytes number kinds.Reply t tells wrong
refused_by j bytes number kinds.Count t tells wrong = told_wrong j bytes number kinds.Count t tells wrong

refused_for : (j : Judge) (bytes : List ℕ) (number : ℕ) (kind : CheckKind) → IsRefused j bytes number kind → (TextFault j.lib bytes number × (kind ≡ kinds.Text)) ⊎ IsToldWrong j bytes number kind
refused_for j bytes number kinds.Text is = inl (is, refl)
refused_for j bytes number kinds.Scripts is = inr is
refused_for j bytes number kinds.Front is = inr is
refused_for j bytes number kinds.Command is = inr is
refused_for j bytes number kinds.Refused is = inr is
refused_for j bytes number kinds.Entry is = inr is
refused_for j bytes number kinds.Fault is = inr is
refused_for j bytes number kinds.Touch is = inr is
refused_for j bytes number kinds.Reply is = inr is
refused_for j bytes number kinds.Count is = inr is

same_fault : (f g : CheckFault) → f.line ≡ g.line → f.kind ≡ g.kind → f ≡ g
same_fault f g line kind =
    ap (λ (n : ℕ). record { line = n; kind = f.kind }) line ∙ ap (λ (k : CheckKind). record { line = g.line; kind = k }) kind

-- ---- of bytes that are no text

pub text_refused : (j : Judge) (bytes : List ℕ) (fault : CheckFault) → IsTextFault j.lib bytes fault → IsChecked j bytes (Refused fault)
text_refused j bytes fault is = subst (IsRefused j bytes fault.line) (sym is.kind) is.line

pub text_only : TextFaultIsOne → (j : Judge) (bytes : List ℕ) (fault : CheckFault) → IsTextFault j.lib bytes fault → IsOnlyCheck j bytes (Refused fault)
text_only one j bytes fault is (Accepted counts) other = absurd (is.line.none other.it other.accepted.told other.accepted.text)
text_only one j bytes fault is (Refused g) other = by_kind (refused_for j bytes g.line g.kind other)
  where
    by_kind : (TextFault j.lib bytes g.line × (g.kind ≡ kinds.Text)) ⊎ IsToldWrong j bytes g.line g.kind → Refused g ≡ Refused fault
    by_kind (inl text) = ap (λ (f : CheckFault). Refused f) (same_fault g fault (one j.lib bytes g.line fault.line text.0 is.line) (text.1 ∙ sym is.kind))
    by_kind (inr wrong) = absurd (is.line.none wrong.it wrong.told wrong.text)

-- ---- of bytes that tell something

wrong_in : (j : Judge) (bytes : List ℕ) (number : ℕ) (kind : CheckKind) (t : Told) → Tells j.lib bytes t → (wrong : IsToldWrong j bytes number kind) → FirstWrong j t number kind
wrong_in j bytes number kind t tells wrong = subst (λ (u : Told). FirstWrong j u number kind) (tells.only wrong.it wrong.told wrong.text) wrong.wrong

pub wrong_only : FirstWrongIsOne → (j : Judge) (bytes : List ℕ) (fault : CheckFault) (t : Told) → Tells j.lib bytes t → FirstWrong j t fault.line fault.kind → IsOnlyCheck j bytes (Refused fault)
wrong_only one j bytes fault t tells is (Accepted counts) other =
    absurd (one.some j t fault.line fault.kind is (subst (NothingWrong j) (tells.only other.it other.accepted.told other.accepted.text) other.accepted.nothing))
wrong_only one j bytes fault t tells is (Refused g) other = by_kind (refused_for j bytes g.line g.kind other)
  where
    by_kind : (TextFault j.lib bytes g.line × (g.kind ≡ kinds.Text)) ⊎ IsToldWrong j bytes g.line g.kind → Refused g ≡ Refused fault
    by_kind (inl text) = absurd (text.0.none t tells.told tells.text)
    by_kind (inr wrong) =
        let here : FirstWrong j t g.line g.kind = wrong_in j bytes g.line g.kind t tells wrong in
        ap (λ (f : CheckFault). Refused f)
        (same_fault g fault (one.line j t g.line fault.line g.kind fault.kind here is) (one.kind j t g.line fault.line g.kind fault.kind here is))

pub right_accepted : (j : Judge) (bytes : List ℕ) (t : Told) → Tells j.lib bytes t → NothingWrong j t → IsChecked j bytes (Accepted t.counts)
right_accepted j bytes t tells nothing = record { it = t; accepted = record { told = tells.told; text = tells.text; nothing = nothing }; counts_are = refl }

pub right_only : FirstWrongIsOne → (j : Judge) (bytes : List ℕ) (t : Told) → Tells j.lib bytes t → NothingWrong j t → IsOnlyCheck j bytes (Accepted t.counts)
right_only one j bytes t tells nothing (Accepted counts) other =
    ap (λ (c : Counts). Accepted c) (other.counts_are ∙ ap (λ (u : Told). u.counts) (tells.only other.it other.accepted.told other.accepted.text))
right_only one j bytes t tells nothing (Refused g) other = by_kind (refused_for j bytes g.line g.kind other)
  where
    by_kind : (TextFault j.lib bytes g.line × (g.kind ≡ kinds.Text)) ⊎ IsToldWrong j bytes g.line g.kind → Refused g ≡ Accepted t.counts
    by_kind (inl text) = absurd (text.0.none t tells.told tells.text)
    by_kind (inr wrong) = absurd (one.some j t g.line g.kind (wrong_in j bytes g.line g.kind t tells wrong) nothing)
