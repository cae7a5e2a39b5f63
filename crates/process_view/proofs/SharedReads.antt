-- Shared bytes that a process reads: what its own pages hold lies under the writes that all share.
use Rattle.std.proofs.Common.{◌≡◌, ℕ, ◌+◌, ◌/◌, ◌%◌, ◌<◌, ◌==◌, ◌&&◌, ◌||◌, Bool, true, false, cond, not, List, [], ◌∷◌, map, length, Option, Some, None, get_or, slice_index, refl, sym, ap, subst, ◌∙◌, arith}
use Rattle.process_view.proofs.Words.{AllByRecursion, and_left, and_right, any_map, at_front, attached_is, attached_residence, bases_seen, BasesSeenStay}
use Rattle.process_view.proofs.Words.{BoardState, bytes_in, bytes_read, Class, class_of, class_refusal, Command, deed_of, Did, done, entry_of, find}
use Rattle.process_view.proofs.Words.{fixed_bytes, fixed_run, get, get_or_default, has_page, is_attached, is_done, is_mapped_at, is_page, is_serial, IsLegal}
use Rattle.process_view.proofs.Words.{IsMapped, IsReachedNamed, Library, list_any, lying_byte, Mapped, mapped_pages, may_ask, MayAsk, module_of, object_at}
use Rattle.process_view.proofs.Words.{object_of, page, PageOf, Place, ProcessView, range_with_len, reached_named, read_run, Residence, residence_is}
use Rattle.process_view.proofs.Words.{ResidenceFor, ResidenceStays, same_number, same_page, serials_are_own, StandsAt, StandsQuiet, state_of, view_byte}
use Rattle.process_view.proofs.Words.{view_bytes, view_place_refusal, view_refusal}
use Rattle.process_view.proofs.Did.{IsAsked, with_asked, IsAt, did_quiet}
use Rattle.process_view.proofs.Asking.{map_alike_from}
use Rattle.process_view.proofs.Lookups.{is_used, mapped_used}
use Rattle.process_view.proofs.Claims.{over_at}
use Rattle.process_view.proofs.Shown.{IsAttached, attached}
use Rattle.lx_types.specs.declared.object.Class.TheVariants as classes
use Rattle.load_model.specs.declared.commands.Command.TheVariants as commands
use Rattle.load_model.specs.Refusals as uses

-- ---- a mapped page

some_finds : (p : Mapped → Bool) (xs : List Mapped) (P : Mapped → Type 0) → list_any p xs ≡ true → AllByRecursion P xs → (y : Mapped) × (find p xs ≡ Some y) × (p y ≡ true) × P y
some_finds p [] P e all = absurd cc
some_finds p (x ∷ xs) P e all = by_test (p x) refl (λ u. some_finds p xs P u all.1)
  where
    by_test : (b : Bool) → p x ≡ b → (list_any p xs ≡ true → (y : Mapped) × (find p xs ≡ Some y) × (p y ≡ true) × P y) → (y : Mapped) × (find p (x ∷ xs) ≡ Some y) × (p y ≡ true) × P y
    by_test true is later = (x, ap (λ b. cond b (Some x) (find p xs)) is, is, all.0)
    by_test false is later =
        let rest = later (sym (ap (λ b. b || list_any p xs) is) ∙ e) in
        (rest.0, ap (λ b. cond b (Some x) (find p xs)) is ∙ rest.1, rest.2, rest.3)

-- a byte of a shared page that is mapped
shared_byte : (b : BoardState) (v : ProcessView) (r : ResidenceFor) (a : Residence) (object x : ℕ) → IsLegal b → StandsAt b v → IsAttached b v r a → has_page (mapped_pages v.holding) r.serial (page object (x / 4096)) ≡ true →
    x < (object_at b.library r.«module» object).size → class_of (object_at b.library r.«module» object) ≡ classes.Shared →
    view_byte v.holding r.serial object x ≡ fixed_bytes b.library r.«module» (bases_seen b.library (state_of b) r.«module») object x
shared_byte b v r a object x legal at own there inside class =
    let lib = b.library in
    let e = state_of b in
    let q = page object (x / 4096) in
    let some : list_any (is_mapped_at r.serial q) v.holding.mapped ≡ true =
    sym (any_map (λ (t : PageOf). (t.serial == r.serial) && is_page t.page q) (λ (p : Mapped). p.of) v.holding.mapped) ∙ there
    in
    let it = some_finds (is_mapped_at r.serial q) v.holding.mapped (IsMapped lib (fixed_bytes lib) e v.holding.pid) some at.stands.view.mapped in
    let p = it.0 in
    let is = it.3 in
    let serial : p.of.serial ≡ r.serial = same_number p.of.serial r.serial (and_left (p.of.serial == r.serial) (is_page p.of.page q) it.2) in
    let pages = same_page p.of.page q (and_right (p.of.serial == r.serial) (is_page p.of.page q) it.2) in
    let same : is.residence ≡ a =
    serials_are_own lib b.failing (fixed_bytes lib) b.history is.residence.«module» r.«module» is.residence a legal (residence_is lib e v.holding.pid is.residence.«module» is.residence is.there)
    (residence_is lib e v.holding.pid r.«module» a own.there) (sym is.serial ∙ serial ∙ sym own.serial)
    in
    let number : is.residence.«module» ≡ r.«module» = ap (λ (z : Residence). z.«module») same ∙ own.«module» in
    let size : x < (object_at lib is.residence.«module» p.of.page.object).size = rw (number, pages.0) inside in
    let shared : class_of (object_at lib is.residence.«module» p.of.page.object) ≡ classes.Shared =
    ap (λ (m : ℕ). class_of (object_at lib m p.of.page.object)) number ∙ ap (λ (o : ℕ). class_of (object_at lib r.«module» o)) pages.0 ∙ class
    in
    ap (λ (o : Option Mapped). slice_index (bytes_in o) (x % 4096)) it.1 ∙ is.bytes x (sym pages.1) size
    ∙ ap (λ (c : Class). lying_byte c lib (fixed_bytes lib) e v.holding.pid is.residence p.of.page.object x) shared
    ∙ ap (λ (m : ℕ). fixed_bytes lib m (bases_seen lib e m) p.of.page.object x) number ∙ ap (λ (o : ℕ). fixed_bytes lib r.«module» (bases_seen lib e r.«module») o x) pages.0

-- ---- all of a place

pub refused_share : (v : ProcessView) (command : Command) (at : Place) → view_refusal v.library v.holding command ≡ None → command ≡ commands.Shared at → view_place_refusal v.library v.holding uses.share at ≡ None
unfolding view_refusal
refused_share v command at none e = rw e at none

only_shared : (c : Class) → class_refusal uses.share c ≡ None → c ≡ classes.Shared
only_shared classes.Shared e = refl
only_shared other e = absurd cc

module_asked : (b : BoardState) (v : ProcessView) (r : ResidenceFor) (a : Residence) (q s m object offset len : ℕ) → IsLegal b → IsAttached b v r a → q ≡ v.holding.pid → s ≡ r.serial → MayAsk b q (get s m object offset len) → m ≡ r.«module»
unfolding may_ask
module_asked b v r a q s m object offset len legal own pid serial may =
    let at : is_serial s (attached_residence b.library (state_of b) v.holding.pid m) ≡ true = rw pid at (and_left (is_attached b.library (state_of b) q s m) _ (and_right (not ((state_of b).processes q).ended) _ may)) in
    by_residence (attached_residence b.library (state_of b) v.holding.pid m) refl at
  where
    by_residence : (o : Option Residence) → attached_residence b.library (state_of b) v.holding.pid m ≡ o → is_serial s o ≡ true → m ≡ r.«module»
    by_residence None e h = absurd cc
    by_residence (Some z) e h =
        let same : z ≡ a =
        serials_are_own b.library b.failing (fixed_bytes b.library) b.history m r.«module» z a legal (residence_is b.library (state_of b) v.holding.pid m z e)
        (residence_is b.library (state_of b) v.holding.pid r.«module» a own.there) (same_number z.serial s h ∙ serial ∙ sym own.serial)
        in
        sym (attached_is b.library (state_of b) v.holding.pid m z e).1 ∙ ap (λ (y : Residence). y.«module») same ∙ own.«module»

inside_size : (lib : Library) (m object x : ℕ) → x < (object_of (module_of lib m) object).size → x < (object_at lib m object).size
unfolding object_at
inside_size lib m object x u = u

pub shared_fixed : (b : BoardState) (v : ProcessView) (at : Place) (k : ℕ) (d : ResidenceFor) (q s m n : ℕ) (into : List ℕ) → IsAt b v → view_place_refusal v.library v.holding uses.share at ≡ None → IsReachedNamed v at.«module» k →
    q ≡ v.holding.pid → s ≡ (get_or v.residences k d).serial → n ≡ at.len → into ≡ view_bytes v.holding at (reached_named v.library v.holding at.«module») → MayAsk b q (get s m at.object at.offset n) →
    into ≡ fixed_run b m at.object at.offset n
shared_fixed b v at k d q s m n into here e is pid serial long copied may =
    let r = get_or v.residences k d in
    let own = attached b v k r here.stands is.within (get_or_default v.residences k d r is.within) in
    let number = module_asked b v r own.0 q s m at.object at.offset n here.legal own.1 pid serial may in
    let used = is_used v uses.share at k d e is in
    let class : class_of (object_at b.library r.«module» at.object) ≡ classes.Shared = ap (λ (l : Library). class_of (object_at l r.«module» at.object)) (sym here.stands.library) ∙ only_shared _ used.class in
    let size : (x : ℕ) → x < at.offset + at.len → x < (object_at b.library r.«module» at.object).size = λ x u.
    let S : Library → Type 0 = λ l. x < (object_at l r.«module» at.object).size in subst S here.stands.library (inside_size v.library r.«module» at.object x (omega (arith, u, used.inside.within))) in
    let all = mapped_used v uses.share at r (λ f. cc) used in
    copied ∙ ap (view_bytes v.holding at) (is.residence d)
    ∙ map_alike_from (view_byte v.holding r.serial at.object) (fixed_bytes b.library r.«module» (bases_seen b.library (state_of b) r.«module») at.object) at.offset at.len
    (λ x u w. shared_byte b v r own.0 at.object x here.legal here.stands own.1 (over_at (λ i. has_page (mapped_pages v.holding) r.serial (page at.object i)) at.offset at.len x all u w) (size x w) class)
    ∙ ap (λ (l : ℕ). map (fixed_bytes b.library r.«module» (bases_seen b.library (state_of b) r.«module») at.object) (range_with_len at.offset l)) (sym long)
    ∙ ap (λ (j : ℕ). map (fixed_bytes b.library j (bases_seen b.library (state_of b) j) at.object) (range_with_len at.offset n)) (sym number)

-- ---- the deed

pub did_shared : ResidenceStays → BasesSeenStay → StandsQuiet → (b : BoardState) (v : ProcessView) (command : Command) (serial m object offset len : ℕ) → IsAsked b v command (get serial m object offset len) →
    Did b (with_asked b v (get serial m object offset len)) v (at_front (length (with_asked b v (get serial m object offset len)).history) v) command (done (length (with_asked b v (get serial m object offset len)).history))
unfolding deed_of
did_shared still bases quiet b v command serial m object offset len is = did_quiet still bases quiet b v command (get serial m object offset len) _ is tt (is_done tt) refl

-- the entry tells what was read
pub read_in : (b : BoardState) (pid serial m object offset len : ℕ) → read_run b pid m object offset len ≡ bytes_read (entry_of b pid (get serial m object offset len)).deed
unfolding deed_of
read_in b pid serial m object offset len = refl
