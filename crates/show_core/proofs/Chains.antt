-- One addition of parts after another.
use Rattle.std.specs.Prelude.{Result, OnOk, drop}
use Rattle.std.specs.List.{flat_map}
use Rattle.std.proofs.Common.{◌≡◌, ℕ, ◌+◌, ◌<◌, List, [], ◌∷◌, ◌++◌, ap, sym, ◌∙◌, append_assoc, length, get_or, drop-cons, add-one}
use Rattle.std.proofs.lemmas.Result.{on_ok_weaker}
use Rattle.obj_types.specs.declared.object.ObjModule.{ObjModule}
use Rattle.show_model.specs.Outlines.{Tally}

pub then : (t xs ys : List Tally) {s r : List Tally} → s ≡ t ++ xs → r ≡ s ++ ys → r ≡ t ++ (xs ++ ys)
then t xs ys {s} {r} e f = f ∙ ap (λ (l : List Tally). l ++ ys) e ∙ append_assoc t xs ys

-- The last of them is returned as it is.
pub last_then : {T E : Type 0} (o : Result T E) (r t xs ys : List Tally) {s : List Tally} → s ≡ t ++ xs → OnOk o (r ≡ s ++ ys) → OnOk o (r ≡ t ++ (xs ++ ys))
last_then o r t xs ys {s} e = on_ok_weaker o (λ (f : r ≡ s ++ ys). then t xs ys e f)

-- As many lines as are known to be as many as items.
pub last_count : {T E : Type 0} (o : Result T E) (t r : List Tally) (heading : List ℕ) (m n : ℕ) → m ≡ n → OnOk o (r ≡ t ++ (heading, m) ∷ []) → OnOk o (r ≡ t ++ (heading, n) ∷ [])
last_count o t r heading m n e = on_ok_weaker o (λ (f : r ≡ t ++ (heading, m) ∷ []). f ∙ ap (λ (k : ℕ). t ++ (heading, k) ∷ []) e)

-- The parts of one member more.
front : (f : ObjModule → List Tally) (ms : List ObjModule) (k : ℕ) (d : ObjModule) → k < length ms → flat_map f (drop k ms) ≡ f (get_or ms k d) ++ flat_map f (drop (k + 1) ms)
front f ms k d below = rw (add-one, drop-cons ms k d)

pub member_more : (f : ObjModule → List Tally) (ms : List ObjModule) (k : ℕ) (d : ObjModule) (s r x : List Tally) → k < length ms → d ≡ get_or ms k d → r ≡ s ++ f d → s ++ flat_map f (drop k ms) ≡ x → r ++ flat_map f (drop (k + 1) ms) ≡ x
member_more f ms k d s r x below is e inv =
    let rest = flat_map f (drop (k + 1) ms) in
    ap (λ (l : List Tally). l ++ rest) e ∙ append_assoc s (f d) rest ∙ ap (λ (o : ObjModule). s ++ (f o ++ rest)) is ∙ ap (λ (l : List Tally). s ++ l) (sym (front f ms k d below)) ∙ inv
