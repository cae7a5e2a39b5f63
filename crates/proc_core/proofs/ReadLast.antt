-- The bytes that a shared read gives are those of the process's last entry.
use Rattle.proc_core.proofs.Words.{◌++◌, [], ap, BoardState, bytes_read, Command, Did, Entry, entry_of, HasCome, Holds, IsLastRead, IsReadLast, List, Outcome, ProcessView, ProcState, sym, ℕ, ◌∙◌, ◌∷◌, ◌≡◌}
use Rattle.proc_core.proofs.Made.{turned}
use Rattle.proc_core.proofs.Others.{own_entries, own_one}

no_end : (ys : List Entry) (y : Entry) → [] ≡ ys ++ y ∷ [] → ⊥
no_end [] y is = cc
no_end (z ∷ ys) y is = cc

heads : (x y : Entry) (xs ys : List Entry) → x ∷ xs ≡ y ∷ ys → x ≡ y
heads x y xs ys is = cc

tails : (x y : Entry) (xs ys : List Entry) → x ∷ xs ≡ y ∷ ys → xs ≡ ys
tails x y xs ys is = cc

last_same : (xs ys : List Entry) (x y : Entry) → xs ++ x ∷ [] ≡ ys ++ y ∷ [] → x ≡ y
last_same [] [] x y is = heads x y [] [] is
last_same [] (b ∷ ys) x y is = absurd (no_end ys y (tails x b [] (ys ++ y ∷ []) is))
last_same (a ∷ xs) [] x y is = absurd (no_end xs x (sym (tails a y (xs ++ x ∷ []) [] is)))
last_same (a ∷ xs) (b ∷ ys) x y is = last_same xs ys x y (tails a b (xs ++ x ∷ []) (ys ++ y ∷ []) is)

pub read_last : (p : ProcState) (b c : BoardState) (v w : ProcessView) (command : Command) (outcome : Outcome) (bytes : List ℕ) → Holds p → HasCome p b v → Did b c v w command outcome → IsLastRead b c bytes →
    IsReadLast (turned p c.history w) bytes
read_last p b c v w command outcome bytes holds come did read =
    let x : Entry = entry_of b v.holding.pid did.ask in
    let history : c.history ≡ b.history ++ x ∷ [] = ap (λ (l : BoardState). l.history) did.adds in
    let number : x.pid ≡ p.known.pid = ap (λ (u : ProcessView). u.holding.pid) come.view ∙ holds.number in
    let mine : own_entries p.known.pid c.history ≡ own_entries p.known.pid b.history ++ x ∷ [] = ap (own_entries p.known.pid) history ∙ own_one p.known.pid b.history x number in
    λ first last is_last. read x history ∙ ap (λ (e : Entry). bytes_read e.deed) (sym (last_same first (own_entries p.known.pid b.history) last x (sym is_last ∙ mine)))
