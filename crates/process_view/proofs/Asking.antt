-- What a view answers by itself: to a query and to the search for a resource, and the bytes of its pages.
use Rattle.std.proofs.Common.{◌≡◌, ◌==◌, ℕ, ◌-◌, true, false, List, Option, Some, None, option_map, Result, Ok, unwrap_or, get_or, refl, sym, ap, ◌∙◌, length, zero, suc, ◌+◌, ◌*◌, ◌/◌, ◌%◌, ◌<◌, ◌≤◌, Bool, cond, [], ◌∷◌, map, inl, inr, arith, slice_index, ◌⊎◌}
use Rattle.process_view.proofs.Words.{address, address_in, ArePlaces, AreThere, at_place, base_if, byte_by, bytes_at, bytes_in, Ended, entry_spot, EntryFault}
use Rattle.process_view.proofs.Words.{find, found_at_place, found_refusal, Fresh, fresh_shown, Holding, is_mapped_at, is_none, IsReachedAt, IsReachedNamed}
use Rattle.process_view.proofs.Words.{key_refusal, Library, Mapped, module_of, no_spot, NoResource, NotAttached, number_of, page, PagePlaces, pages_over, Place}
use Rattle.process_view.proofs.Words.{place_in, position, position-Some, position_map, ProcessView, range_with_len, reached_named, ReachedResidence}
use Rattle.process_view.proofs.Words.{residence_from, residence_in, residence_with, ResidenceFor, residences_in, resource_of, slice_get-map, slice_get_read}
use Rattle.process_view.proofs.Words.{some_bytes, span_refusal, Spot, spot_refusal, view_address, view_byte, view_bytes, view_place_refusal, view_refusal}
use Rattle.process_view.proofs.Words.{view_reply, when, ◌orelse◌}
use Rattle.lx_types.specs.declared.entry.EntryKey.{EntryKey}
use Rattle.lx_types.specs.declared.resource.ResSpot.{ResSpot}
use Rattle.process_view.proofs.Lookups.{HasResidences, stay_by_place, nothing, no_page, still_going, place_refused, span_is_inside}
use Rattle.process_view.proofs.Insides.{none_found, IsInside, page_inside}
use Rattle.load_model.specs.declared.commands.Command.TheVariants as commands
use Rattle.load_model.specs.declared.commands.Reply.TheVariants as replies
use Rattle.load_model.specs.State as state
use Rattle.load_model.specs.Refusals as uses
use Rattle.process_view.specs.declared.purposes.Purpose.TheVariants as purposes

-- ---- what a view answers to a query and to the search for a resource, by the residence of the module

-- ---- queries

pub query_ended : (v : ProcessView) (name : List ℕ) (key : EntryKey) → v.holding.ended ≡ true → view_refusal v.library v.holding (commands.Query name key) ≡ Some Ended
unfolding view_refusal
query_ended v name key e = ap (λ b. when b Ended orelse key_refusal v.library key (reached_named v.library v.holding name)) e

query_by : (v : ProcessView) (name : List ℕ) (key : EntryKey) → v.holding.ended ≡ false → view_refusal v.library v.holding (commands.Query name key) ≡ key_refusal v.library key (reached_named v.library v.holding name)
unfolding view_refusal
query_by v name key e = ap (λ b. when b Ended orelse key_refusal v.library key (reached_named v.library v.holding name)) e

pub query_apart : (v : ProcessView) (name : List ℕ) (key : EntryKey) → v.holding.ended ≡ false → reached_named v.library v.holding name ≡ None →
    view_refusal v.library v.holding (commands.Query name key) ≡ Some NotAttached
query_apart v name key e none = query_by v name key e ∙ ap (key_refusal v.library key) none

pub query_spot : (v : ProcessView) (name : List ℕ) (key : EntryKey) (r : ResidenceFor) (spot : Result Spot EntryFault) → v.holding.ended ≡ false → reached_named v.library v.holding name ≡ Some (residence_from (fresh_shown r)) →
    entry_spot v.library r.«module» key ≡ spot → view_refusal v.library v.holding (commands.Query name key) ≡ spot_refusal spot
query_spot v name key r spot e residence is = query_by v name key e ∙ ap (key_refusal v.library key) residence ∙ ap spot_refusal is

pub query_reply : (v : ProcessView) (name : List ℕ) (key : EntryKey) (r : ResidenceFor) (spot : Spot) (x : ℕ) → number_of v.library name ≡ Some r.«module» → entry_spot v.library r.«module» key ≡ Ok spot →
    x ≡ view_address v.holding (Ok spot) → view_reply v.library v.holding (commands.Query name key) ≡ Some (replies.Address x)
query_reply v name key r spot x named is at =
    ap (λ (m : ℕ). Some (replies.Address (view_address v.holding (entry_spot v.library m key)))) (ap (λ (o : Option ℕ). unwrap_or o (length v.library)) named)
    ∙ ap (λ (s : Result Spot EntryFault). Some (replies.Address (view_address v.holding s))) is ∙ ap (λ (n : ℕ). Some (replies.Address n)) (sym at)

-- ---- resources

pub getres_ended : (v : ProcessView) (name : List ℕ) (ty id : ℕ) → v.holding.ended ≡ true → view_refusal v.library v.holding (commands.GetRes name ty id) ≡ Some Ended
unfolding view_refusal
getres_ended v name ty id e = ap (λ b. when b Ended orelse found_refusal v.library ty id (reached_named v.library v.holding name)) e

getres_by : (v : ProcessView) (name : List ℕ) (ty id : ℕ) → v.holding.ended ≡ false → view_refusal v.library v.holding (commands.GetRes name ty id) ≡ found_refusal v.library ty id (reached_named v.library v.holding name)
unfolding view_refusal
getres_by v name ty id e = ap (λ b. when b Ended orelse found_refusal v.library ty id (reached_named v.library v.holding name)) e

pub getres_apart : (v : ProcessView) (name : List ℕ) (ty id : ℕ) → v.holding.ended ≡ false → reached_named v.library v.holding name ≡ None →
    view_refusal v.library v.holding (commands.GetRes name ty id) ≡ Some NotAttached
getres_apart v name ty id e none = getres_by v name ty id e ∙ ap (found_refusal v.library ty id) none

pub getres_found : (v : ProcessView) (name : List ℕ) (ty id : ℕ) (r : ResidenceFor) (spot : Option ResSpot) → v.holding.ended ≡ false → reached_named v.library v.holding name ≡ Some (residence_from (fresh_shown r)) →
    resource_of v.library r.«module» ty id ≡ spot → view_refusal v.library v.holding (commands.GetRes name ty id) ≡ when (is_none spot) NoResource
getres_found v name ty id r spot e residence is = getres_by v name ty id e ∙ ap (found_refusal v.library ty id) residence ∙ ap (λ (o : Option ResSpot). when (is_none o) NoResource) is

pub getres_reply : (v : ProcessView) (name : List ℕ) (ty id : ℕ) (r : ResidenceFor) (spot : ResSpot) → number_of v.library name ≡ Some r.«module» → resource_of v.library r.«module» ty id ≡ Some spot →
    view_reply v.library v.holding (commands.GetRes name ty id) ≡ Some (replies.Spot spot)
getres_reply v name ty id r spot named is =
    ap (λ (m : ℕ). Some (replies.Spot (unwrap_or (resource_of v.library m ty id) no_spot))) (ap (λ (o : Option ℕ). unwrap_or o (length v.library)) named)
    ∙ ap (λ (o : Option ResSpot). Some (replies.Spot (unwrap_or o no_spot))) is

-- ---- addresses

-- the residence that is found by its place
pub residence_at : (residences : List ReachedResidence) (m k : ℕ) (s : ReachedResidence) → position (λ (s : ReachedResidence). (residence_in s).«module» == m) residences ≡ Some k → s ≡ get_or residences k s → residence_with (residences_in residences) m ≡ Some (residence_in s)
residence_at residences m k s e at =
    let within = (position-Some (λ (s : ReachedResidence). (residence_in s).«module» == m) residences k s e).0 in
    found_at_place (λ (r : ResidenceFor). r.«module» == m) (residences_in residences)
    ∙ ap (at_place (λ (r : ResidenceFor). r.«module» == m) (residences_in residences)) (position_map (λ (r : ResidenceFor). r.«module» == m) residence_in residences ∙ e)
    ∙ slice_get-map residence_in residences k ∙ ap (λ (o : Option ReachedResidence). option_map residence_in o) (slice_get_read residences (length residences) k s refl within at)

pub no_residence : (residences : List ReachedResidence) (m : ℕ) → position (λ (s : ReachedResidence). (residence_in s).«module» == m) residences ≡ None → residence_with (residences_in residences) m ≡ None
no_residence residences m e =
    found_at_place (λ (r : ResidenceFor). r.«module» == m) (residences_in residences)
    ∙ ap (at_place (λ (r : ResidenceFor). r.«module» == m) (residences_in residences)) (position_map (λ (r : ResidenceFor). r.«module» == m) residence_in residences ∙ e)

pub address_by_residence : (v : ProcessView) (spot : Spot) → HasResidences v → view_address v.holding (Ok spot) ≡ address (base_if spot (residence_with v.residences spot.«module»)) spot.offset
address_by_residence v spot has =
    ap (λ (ss : List Fresh). address_in (state.bases_of (option_map residence_from (find (λ (s : Fresh). s.«module» == spot.«module») ss))) spot.object spot.offset) has.residences
    ∙ ap (λ (o : Option Fresh). address_in (state.bases_of (option_map residence_from o)) spot.object spot.offset)
    (stay_by_place v.residences spot.«module» ∙ ap (λ (o : Option ResidenceFor). option_map fresh_shown o) (sym (found_at_place (λ (r : ResidenceFor). r.«module» == spot.«module») v.residences)))
    ∙ by_option (residence_with v.residences spot.«module»)
  where
    by_option : (o : Option ResidenceFor) → address_in (state.bases_of (option_map residence_from (option_map fresh_shown o))) spot.object spot.offset ≡ address (base_if spot o) spot.offset
    by_option None = refl
    by_option (Some r) = refl

-- ---- bytes that a view reads are those of its pages

-- ---- lists by their numbers

pub map_alike_from : {X : Type 0} (f g : ℕ → X) (a n : ℕ) → ((x : ℕ) → a ≤ x → x < a + n → f x ≡ g x) → map f (range_with_len a n) ≡ map g (range_with_len a n)
map_alike_from f g a zero h = refl
map_alike_from f g a (suc n) h =
    ap (λ y. y ∷ map f (range_with_len (a + 1) n)) (h a (omega arith) (omega arith)) ∙ ap (λ ys. g a ∷ ys) (map_alike_from f g (a + 1) n (λ x u v. h x (omega arith) (omega arith)))

-- ---- all that a view has mapped

none_is_none : (o : Option ℕ) → is_none o ≡ false → (k : ℕ) × (o ≡ Some k)
none_is_none None e = absurd cc
none_is_none (Some k) e = (k, refl)

not_none : (offset len : ℕ) (p : ℕ → Bool) (x : ℕ) → find p (pages_over offset len) ≡ None → offset ≤ x → x < offset + len → p (x / 4096) ≡ false
not_none offset zero p x e u v = absurd (omega arith)
not_none offset (suc l) p x e u v =
    none_found p (offset / 4096) ((offset + suc l - 1) / 4096 + 1 - offset / 4096) (x / 4096)
    (sym (ap (λ b. find p (cond b [] (range_with_len (offset / 4096) ((offset + suc l - 1) / 4096 + 1 - offset / 4096)))) (some_bytes l)) ∙ e) (omega arith) (omega arith)

pub all_there :
    (lib : Library) (m serial : ℕ) (rows : PagePlaces) (mapped : List Mapped) (object offset len : ℕ) → ArePlaces (module_of lib m) serial rows mapped → IsInside lib m object offset len →
    find (λ n. is_none (place_in rows (page object n))) (pages_over offset len) ≡ None → AreThere rows mapped object offset len
all_there lib m serial rows mapped object offset len are is none x u v =
    let there = none_is_none (place_in rows (page object (x / 4096))) (not_none offset len (λ n. is_none (place_in rows (page object n))) x none u v) in
    let before : x / 4096 * 4096 < offset + len = omega arith in
    let at : position (is_mapped_at serial (page object (x / 4096))) mapped ≡ Some there.0 = sym (are object (x / 4096) is.there (page_inside lib m object offset len (x / 4096) is before)) ∙ there.1 in
    (there.0, there.1, (position-Some (is_mapped_at serial (page object (x / 4096))) mapped there.0 (record { of = record { serial = 0; page = page 0 0 }; bytes = [] }) at).0)

-- a byte by its place is the view's
pub byte_of_view : (lib : Library) (m serial : ℕ) (rows : PagePlaces) (v : Holding) (object offset len x : ℕ) → ArePlaces (module_of lib m) serial rows v.mapped → IsInside lib m object offset len → offset ≤ x →
    x < offset + len → byte_by rows v.mapped object x ≡ view_byte v serial object x
byte_of_view lib m serial rows v object offset len x are is u w =
    let before : x / 4096 * 4096 < offset + len = omega arith in
    ap (λ (o : Option ℕ). slice_index (bytes_at v.mapped o) (x % 4096)) (are object (x / 4096) is.there (page_inside lib m object offset len (x / 4096) is before))
    ∙ ap (λ (bs : List ℕ). slice_index bs (x % 4096)) (by_place (position (is_mapped_at serial (page object (x / 4096))) v.mapped))
    ∙ ap (λ (o : Option Mapped). slice_index (bytes_in o) (x % 4096)) (sym (found_at_place (is_mapped_at serial (page object (x / 4096))) v.mapped))
  where
    by_place : (o : Option ℕ) → bytes_at v.mapped o ≡ bytes_in (at_place (is_mapped_at serial (page object (x / 4096))) v.mapped o)
    by_place None = refl
    by_place (Some k) = refl

-- what is not refused to a reader lies inside, and all of it is mapped
pub record IsReadable (w : ProcessView) (at : Place) (s : ReachedResidence) : Type 0 where
  pub inside : IsInside w.library (residence_in s).«module» at.object at.offset at.len
  pub mapped : find (λ n. is_none (place_in s.places (page at.object n))) (pages_over at.offset at.len) ≡ None

pub is_readable : (w : ProcessView) (at : Place) (k : ℕ) (s : ReachedResidence) → IsReachedNamed w at.«module» k → IsReachedAt w k s →
    (view_place_refusal w.library w.holding uses.peek at ≡ None) ⊎ (view_place_refusal w.library w.holding uses.share at ≡ None) → IsReadable w at s
is_readable w at k s named is (inl e) =
    let both = nothing _ _ (sym (place_refused w purposes.Peek at k s (still_going w.holding.ended _ e) named is) ∙ e) in
    record { inside = span_is_inside w.library uses.peek (residence_in s).«module» at.object at.offset at.len both.0; mapped = no_page _ both.1 }
is_readable w at k s named is (inr e) =
    let both = nothing _ _ (sym (place_refused w purposes.Share at k s (still_going w.holding.ended _ e) named is) ∙ e) in
    record { inside = span_is_inside w.library uses.share (residence_in s).«module» at.object at.offset at.len both.0; mapped = no_page _ both.1 }

pub readable_there : (w : ProcessView) (at : Place) (k : ℕ) (s : ReachedResidence) → IsReachedAt w k s → IsReadable w at s → AreThere s.places w.holding.mapped at.object at.offset at.len
readable_there w at k s is can =
    all_there w.library (residence_in s).«module» (residence_in s).serial s.places w.holding.mapped at.object at.offset at.len is.placed.places can.inside can.mapped

pub readable_bytes : (w : ProcessView) (at : Place) (k : ℕ) (s : ReachedResidence) → IsReachedNamed w at.«module» k → IsReachedAt w k s → IsReadable w at s →
    map (byte_by s.places w.holding.mapped at.object) (range_with_len at.offset at.len) ≡ view_bytes w.holding at (reached_named w.library w.holding at.«module»)
readable_bytes w at k s named is can =
    map_alike_from (byte_by s.places w.holding.mapped at.object) (view_byte w.holding (residence_in s).serial at.object) at.offset at.len
    (λ x u v. byte_of_view w.library (residence_in s).«module» (residence_in s).serial s.places w.holding at.object at.offset at.len x is.placed.places can.inside u v)
    ∙ sym (ap (view_bytes w.holding at) (named.residence (residence_in s) ∙ ap (λ (r : ResidenceFor). Some (residence_from (fresh_shown r))) (is.is (residence_in s))))

-- ---- a run in one page

pub run_allowed : (w : ProcessView) (at : Place) (k : ℕ) (s : ReachedResidence) → w.holding.ended ≡ false → IsReachedNamed w at.«module» k → IsReachedAt w k s →
    span_refusal w.library uses.peek (residence_in s).«module» at.object at.offset at.len ≡ None → find (λ n. is_none (place_in s.places (page at.object n))) (pages_over at.offset at.len) ≡ None →
    view_place_refusal w.library w.holding uses.peek at ≡ None
run_allowed w at k s going named is allowed mapped = place_refused w purposes.Peek at k s going named is ∙ rw (allowed, mapped) refl
