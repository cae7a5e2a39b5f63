-- What a process reaches is closed: with a module it reaches all that the module reaches. What the order of
-- modules has to do with reach is asked of the definitions of libraries.
use Rattle.std.proofs.Common.{◌≡◌, ℕ, zero, suc, ◌<◌, ◌==◌, Bool, true, false, ◌||◌, List, [], ◌∷◌, length, refl, ◌∙◌, ap, arith}
use Rattle.std.specs.Prelude.{Contains}
use Rattle.std.specs.List.{list_any}
use Rattle.std.proofs.lemmas.Bool.{eqb-true, eq-eqb}
use Rattle.lx_types.proofs.Lists.{any_weaker}
use Rattle.lx_model.specs.Reach.{Reach, Order}
use Rattle.lx_model.specs.Reach.Reach.{itself, further}
use Rattle.lx_model.specs.Laws.{OrderIsReached, ReachedIsOrdered}
use Rattle.load_model.specs.Modules.{Library, order_of}
use Rattle.load_model.specs.State.{Process, Eager, is_among, roots, pids, reaches, is_reached}
use Rattle.load_model.proofs.Bools.{or_true}

-- orders nest: what a member of an order reaches is a member
abbrev pub OrdersNest : Type 0
OrdersNest = (lib : Library) (a b c : ℕ) → is_among (order_of lib a) b ≡ true → is_among (order_of lib b) c ≡ true → is_among (order_of lib a) c ≡ true

pub contains_among : (xs : List ℕ) (x : ℕ) → Contains xs x → is_among xs x ≡ true
contains_among [] x (k, below, is) = absurd (let none : ⊥ = omega arith in none)
contains_among (y ∷ xs) x (zero, below, is) = ap (λ b. b || is_among xs x) (eq-eqb y x is)
contains_among (y ∷ xs) x (suc k, below, is) =
    let less : k < length xs = omega arith in
    ap (λ b. (y == x) || b) (contains_among xs x (k, less, is)) ∙ or_true (y == x)

pub among_contains : (xs : List ℕ) (x : ℕ) → is_among xs x ≡ true → Contains xs x
among_contains [] x h = (let wrong : false ≡ true = h in cc)
among_contains (y ∷ xs) x h = step (y == x) refl (among_contains xs x) h
  where
    step : (b : Bool) → (y == x) ≡ b → (is_among xs x ≡ true → Contains xs x) → b || is_among xs x ≡ true → Contains (y ∷ xs) x
    step true e later h = (zero, omega arith, eqb-true y x e)
    step false e later h = (let r : Contains xs x = later h in (suc r.0, omega arith, r.2))

pub through : (lib : Library) (a b c : ℕ) → Reach lib a b → Reach lib b c → Reach lib a c
through lib a b c first itself = first
through lib a b c first (further to import) = further (through lib a b _ first to) import

pub orders_nest : OrderIsReached → ReachedIsOrdered → OrdersNest
unfolding order_of
orders_nest reached ordered lib a b c first second =
    contains_among (Order lib a) c
    (ordered lib a c (through lib a b c (reached lib a b (among_contains (Order lib a) b first)) (reached lib b c (among_contains (Order lib b) c second))))

-- ---- processes

pub reaches_closed : OrdersNest → (lib : Library) (p : Process) (m k : ℕ) → reaches lib p m ≡ true → is_among (order_of lib m) k ≡ true → reaches lib p k ≡ true
unfolding reaches
reaches_closed nest lib p m k h member =
    any_weaker (λ root. is_among (order_of lib root) m) (λ root. is_among (order_of lib root) k) (λ root first. nest lib root m k first member) (roots p) h

pub reached_closed : OrdersNest → (lib : Library) (e : Eager) (m k : ℕ) → is_reached lib e m ≡ true → is_among (order_of lib m) k ≡ true → is_reached lib e k ≡ true
unfolding is_reached
reached_closed nest lib e m k h member =
    any_weaker (λ pid. reaches lib (e.processes pid) m) (λ pid. reaches lib (e.processes pid) k) (λ pid first. reaches_closed nest lib (e.processes pid) m k first member) pids h

-- what one process reaches is reached
pub one_reaches : (lib : Library) (e : Eager) (pid m : ℕ) → is_among pids pid ≡ true → reaches lib (e.processes pid) m ≡ true → is_reached lib e m ≡ true
unfolding is_reached
one_reaches lib e pid m there h = some pids there
  where
    some : (xs : List ℕ) → is_among xs pid ≡ true → list_any (λ q. reaches lib (e.processes q) m) xs ≡ true
    some [] t = (let wrong : false ≡ true = t in cc)
    some (x ∷ xs) t = step (x == pid) refl (some xs) t
      where
        step : (b : Bool) → (x == pid) ≡ b → (is_among xs pid ≡ true → list_any (λ q. reaches lib (e.processes q) m) xs ≡ true) → b || is_among xs pid ≡ true →
            reaches lib (e.processes x) m || list_any (λ q. reaches lib (e.processes q) m) xs ≡ true
        step true e' later t = ap (λ q. reaches lib (e.processes q) m || list_any (λ z. reaches lib (e.processes z) m) xs) (eqb-true x pid e') ∙ ap (λ b. b || list_any (λ z. reaches lib (e.processes z) m) xs) h
        step false e' later t = ap (λ b. reaches lib (e.processes x) m || b) (later t) ∙ or_true (reaches lib (e.processes x) m)
