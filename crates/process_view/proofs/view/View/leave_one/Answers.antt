use Rattle.std.proofs.Common.{◌≡◌, ◌&&◌, ◌∙◌, ◌-◌, ◌++◌, take, drop, [], ℕ, List, Bool, filter, length, sym, ap, arith}
use Rattle.process_view.proofs.Words.{All-filter, AllPairs-filter, AreApart, freed_view, freeing, IsPlaced, keeping, kept_pages, kept_residences, Library}
use Rattle.process_view.proofs.Words.{Mapped, nat_lt, nothing_yet, order_of, pages_kept, pages_with, ProcessView, reach_kept, ReachedResidence, reaches}
use Rattle.process_view.proofs.Words.{recursion_from_All, residence_in, ResidenceFor, residences_in, take_at, vec_capacity, vec_len, view_of}
use Rattle.process_view.proofs.Left.{all_stay}
use Rattle.process_view.proofs.Mapping.{view_made}
use Rattle.process_view.proofs.view.View.leave_one.Goals as goal

pub free-requires-clause-counted : goal.free-requires-clause-counted
unfolding order_of
free-requires-clause-counted c =
    let lib = c.self.inside.lib in
    let order : c.order.result.now ≡ order_of lib c.args.m = c.order.ensures ∙ ap (λ (l : Library). order_of l c.args.m) c.deref.ensures in
    rw order (rw (← c.self.view_is) at c.requires.counted)

pub free-requires-clause-once : goal.free-requires-clause-once
unfolding order_of
free-requires-clause-once c =
    let lib = c.self.inside.lib in
    let order : c.order.result.now ≡ order_of lib c.args.m = c.order.ensures ∙ ap (λ (l : Library). order_of l c.args.m) c.deref.ensures in
    rw order (rw (← c.self.view_is) at c.requires.once)

pub keep_reached-requires : goal.keep_reached-requires
unfolding order_of
keep_reached-requires c =
    let lib = c.self.inside.lib in
    let order : c.order.result.now ≡ order_of lib c.args.m = c.order.ensures ∙ ap (λ (l : Library). order_of l c.args.m) c.deref.ensures in
    let p = c.requires.counts.0 in
    let next = c.free.ensures lib p (nothing_yet []) (rw (← c.self.view_is) at c.requires.counts.1) order in
    let long : c.len.result ≡ length lib = c.len.ensures.count ∙ ap (λ (l : Library). length l) c.deref-2.ensures in
    omega (arith, next.reached_are, long)

pub invariant_of-self-2 : goal.invariant_of-self-2
unfolding order_of
invariant_of-self-2 c =
    let lib = c.self.inside.lib in
    let residences = c.self.inside.residences.items in
    let pages = c.self.inside.pages.items in
    let order : c.order.result.now ≡ order_of lib c.args.m = c.order.ensures ∙ ap (λ (l : Library). order_of l c.args.m) c.deref.ensures in
    let p = c.requires.counts.0 in
    let next = c.free.ensures lib p (nothing_yet []) (rw (← c.self.view_is) at c.requires.counts.1) order in
    let test : ReachedResidence → Bool = λ s. nat_lt (residence_in s).«module» c.len.result && reaches lib (keeping lib (nothing_yet []) (freeing c.args.m p)) (residence_in s).«module» in
    let kept : c.as_mut_slice.result.now ≡ filter test residences = c.as_mut_slice.ensures.value ∙ c.keep_reached.ensures lib (keeping lib (nothing_yet []) (freeing c.args.m p)) next in
    let long : c.len.result ≡ length lib = c.len.ensures.count ∙ ap (λ (l : Library). length l) c.deref-2.ensures in
    let passes : ℕ → Bool = λ k. reaches lib (keeping lib (nothing_yet []) (freeing c.args.m p)) k in
    let same : residences_in (filter test residences) ≡ filter (λ (r : ResidenceFor). passes r.«module») (residences_in residences) =
    ap (λ (n : ℕ). residences_in (filter (λ (s : ReachedResidence). nat_lt (residence_in s).«module» n && passes (residence_in s).«module») residences)) long
    ∙ kept_residences lib pages passes residences (recursion_from_All (IsPlaced lib pages) residences c.self.invariant.placed)
    in
    let apart : AreApart (residences_in (filter test residences)) =
    rw same (AllPairs-filter (λ (a b : ResidenceFor). a.serial ≡ b.serial → ⊥) (λ (r : ResidenceFor). passes r.«module») (residences_in residences) c.self.invariant.apart)
    in
    let old : AreApart (residences_in c.as_mut_slice.result.now) = rw kept apart in
    let v = c.keep_reached.new.residences in
    let ws = c.keep_places.new.residences in
    let size : length ws ≡ v.len = c.keep_places.auto.residences ∙ ap (λ (ss : List ReachedResidence). length ss) c.as_mut_slice.ensures.value ∙ sym v.ok.0 in
    let whole : take v.len (ws ++ drop (length ws) v.items) ≡ ws = take_at ws (drop (length ws) v.items) v.len size in
    record {
      process = c.self.invariant.process;
      loads = next.loads_are;
      reached = next.reached_are;
      placed = rw whole (c.keep_places.ensures.placed lib old (rw kept (All-filter test (IsPlaced lib pages) residences c.self.invariant.placed)));
      apart = rw (whole, c.keep_places.ensures.residences) old;
      found = rw (← c.as_slice.ensures.value) c.of-self-inside.ensures;
      mapped = rw (whole, c.keep_places.ensures.residences, c.keep_places.ensures.pages ∙ kept_pages c.as_mut_slice.result.now pages) (pages_kept (residences_in residences) (residences_in c.as_mut_slice.result.now) pages c.self.invariant.mapped);
    }

-- where all residences stay
pub invariant_of-self : goal.invariant_of-self
unfolding order_of
invariant_of-self c =
    let lib = c.self.inside.lib in
    let order : c.order.result.now ≡ order_of lib c.args.m = c.order.ensures ∙ ap (λ (l : Library). order_of l c.args.m) c.deref.ensures in
    let p = c.requires.counts.0 in
    let next = c.free.ensures lib p (nothing_yet []) (rw (← c.self.view_is) at c.requires.counts.1) order in
    let after = keeping lib (nothing_yet []) (freeing c.args.m p) in
    let long = sym c.keep_reached.new.residences.ok.0 ∙ sym c.len-2.ensures ∙ c.if-len-before.true ∙ c.len-before.ensures ∙ c.self.inside.residences.ok.0 in
    let is =
    all_stay lib c.self.inside.pages.items (reaches lib after) c.len.result c.self.inside.residences.items c.keep_reached.new.residences.items c.self.invariant.placed c.self.invariant.mapped
    (c.len.ensures.count ∙ ap (λ (l : Library). length l) c.deref-2.ensures) (c.keep_reached.ensures lib after next) long
    in
    record {
      process = c.self.invariant.process;
      loads = next.loads_are;
      reached = next.reached_are;
      placed = rw is.0 c.self.invariant.placed;
      apart = rw is.0 c.self.invariant.apart;
      found = rw is.0 c.self.invariant.found;
      mapped = rw is.0 c.self.invariant.mapped;
    }

pub returns-then-len-before-clause-counts : goal.returns-then-len-before-clause-counts
unfolding order_of
returns-then-len-before-clause-counts c = λ p e counts.
    let lib = c.self.inside.lib in
    let order : c.order.result.now ≡ order_of lib c.args.m = c.order.ensures ∙ ap (λ (l : Library). order_of l c.args.m) c.deref.ensures in
    rw (← c.self.view_is) (c.free.ensures lib p e (rw (← c.self.view_is) at counts) order)

pub returns-then-len-before-clause-rest : goal.returns-then-len-before-clause-rest
unfolding order_of
returns-then-len-before-clause-rest c = λ p counts.
    let lib = c.self.inside.lib in
    let residences = c.self.inside.residences.items in
    let pages = c.self.inside.pages in
    let order : c.order.result.now ≡ order_of lib c.args.m = c.order.ensures ∙ ap (λ (l : Library). order_of l c.args.m) c.deref.ensures in
    let next = c.free.ensures lib p (nothing_yet []) (rw (← c.self.view_is) at counts) order in
    let after = keeping lib (nothing_yet []) (freeing c.args.m p) in
    let v = c.keep_reached.new.residences in
    let long = sym v.ok.0 ∙ sym c.len-2.ensures ∙ c.if-len-before.true ∙ c.len-before.ensures ∙ c.self.inside.residences.ok.0 in
    let is =
    all_stay lib pages.items (reaches lib after) c.len.result residences v.items c.self.invariant.placed c.self.invariant.mapped
    (c.len.ensures.count ∙ ap (λ (l : Library). length l) c.deref-2.ensures) (c.keep_reached.ensures lib after next) long
    in
    let rs = filter (λ (r : ResidenceFor). reaches lib after r.«module») (residences_in residences) in
    let room = vec_capacity pages - vec_len pages in
    let more = vec_capacity v - vec_len v in
    let made : List ResidenceFor → List Mapped → ProcessView = λ qs ms. view_made lib c.self.inside.pid c.self.inside.ended c.free.new.self qs ms c.self.inside.front room more in
    rw (← c.self.view_is)
    (ap (λ (ss : List ReachedResidence). made (residences_in ss) pages.items) is.0 ∙ ap (λ (qs : List ResidenceFor). made qs pages.items) is.1 ∙ ap (λ (ms : List Mapped). made rs ms) is.2
    ∙ ap (λ (g : ℕ → Bool). freed_view (view_of c.self.inside) g c.free.new.self room more) (reach_kept lib (nothing_yet []) (freeing c.args.m p)))

pub returns-clause-counts : goal.returns-clause-counts
unfolding order_of
returns-clause-counts c = λ p e counts.
    let lib = c.self.inside.lib in
    let order : c.order.result.now ≡ order_of lib c.args.m = c.order.ensures ∙ ap (λ (l : Library). order_of l c.args.m) c.deref.ensures in
    rw (← c.self.view_is) (c.free.ensures lib p e (rw (← c.self.view_is) at counts) order)

pub returns-clause-rest : goal.returns-clause-rest
unfolding order_of
returns-clause-rest c = λ p counts.
    let lib = c.self.inside.lib in
    let residences = c.self.inside.residences.items in
    let pages = c.self.inside.pages.items in
    let order : c.order.result.now ≡ order_of lib c.args.m = c.order.ensures ∙ ap (λ (l : Library). order_of l c.args.m) c.deref.ensures in
    let next = c.free.ensures lib p (nothing_yet []) (rw (← c.self.view_is) at counts) order in
    let after = keeping lib (nothing_yet []) (freeing c.args.m p) in
    let passes : ℕ → Bool = λ k. reaches lib after k in
    let kept = c.as_mut_slice.ensures.value ∙ c.keep_reached.ensures lib after next in
    let long : c.len.result ≡ length lib = c.len.ensures.count ∙ ap (λ (l : Library). length l) c.deref-2.ensures in
    let rs = filter (λ (r : ResidenceFor). passes r.«module») (residences_in residences) in
    let old : residences_in c.as_mut_slice.result.now ≡ rs =
    ap residences_in kept
    ∙ ap (λ (n : ℕ). residences_in (filter (λ (s : ReachedResidence). nat_lt (residence_in s).«module» n && passes (residence_in s).«module») residences)) long
    ∙ kept_residences lib pages passes residences (recursion_from_All (IsPlaced lib pages) residences c.self.invariant.placed)
    in
    let same : residences_in c.keep_places.new.residences ≡ rs = c.keep_places.ensures.residences ∙ old in
    let mapped : c.keep_places.new.pages.items ≡ pages_with rs pages = c.keep_places.ensures.pages ∙ kept_pages c.as_mut_slice.result.now pages ∙ ap (λ (qs : List ResidenceFor). pages_with qs pages) old in
    let v = c.keep_reached.new.residences in
    let ws = c.keep_places.new.residences in
    let size : length ws ≡ v.len = c.keep_places.auto.residences ∙ ap (λ (ss : List ReachedResidence). length ss) c.as_mut_slice.ensures.value ∙ sym v.ok.0 in
    let whole : take v.len (ws ++ drop (length ws) v.items) ≡ ws = take_at ws (drop (length ws) v.items) v.len size in
    let room = vec_capacity c.keep_places.new.pages - vec_len c.keep_places.new.pages in
    let more = vec_capacity v - vec_len v in
    let made : List ResidenceFor → List Mapped → ProcessView = λ qs ms. view_made lib c.self.inside.pid c.self.inside.ended c.free.new.self qs ms c.self.inside.front room more in
    rw (← c.self.view_is)
    (ap (λ (ss : List ReachedResidence). made (residences_in ss) c.keep_places.new.pages.items) whole ∙ ap (λ (qs : List ResidenceFor). made qs c.keep_places.new.pages.items) same ∙ ap (λ (ms : List Mapped). made rs ms) mapped
    ∙ ap (λ (g : ℕ → Bool). freed_view (view_of c.self.inside) g c.free.new.self room more) (reach_kept lib (nothing_yet []) (freeing c.args.m p)))
