-- A view after an entry of its own that changes nothing in it, and with a page more.
use Rattle.std.proofs.Common.{◌≡◌, ℕ, ◌==◌, ◌&&◌, Bool, true, false, List, [], ◌∷◌, ◌++◌, map, length, refl, sym, ◌∙◌, ap, subst}
use Rattle.std.specs.List.{AllByRecursion, list_all}
use Rattle.std.proofs.lemmas.List.Folds.{list_any-append}
use Rattle.std.proofs.lemmas.Bool.{or_left}
use Rattle.lx_types.specs.Object.{class_of}
use Rattle.lx_types.specs.declared.object.Class.{Class}
use Rattle.lx_types.specs.declared.object.Class.TheVariants as classes
use Rattle.lx_types.specs.declared.object.PageId.{PageId}
use Rattle.load_model.specs.declared.deeds.Deed.{Deed}
use Rattle.load_model.specs.declared.deeds.Deed.TheVariants as deeds
use Rattle.load_model.specs.Modules.{Library, object_at}
use Rattle.load_model.specs.State.{PageOf, Written, OwnWrite, Eager, residence_of}
use Rattle.load_model.specs.Memory.{is_page, page, pages_over}
use Rattle.load_model.specs.Asks.{after_write, after_deed}
use Rattle.load_model.specs.Histories.{after_entry, state_after}
use Rattle.load_model.specs.Alike.{Alike}
use Rattle.load_model.specs.Views.{Mapped, mapped_pages, IsMapped, is_covered, IsViewOf, WasFixed}
use Rattle.load_model.specs.TouchedPages.{has_page}
use Rattle.load_model.specs.ViewLaws.{IsQuiet, StandsQuiet, StandsMapped}
use Rattle.load_model.proofs.Orders.{OrdersNest}
use Rattle.load_model.proofs.Growing.{one_more_is_after}
use Rattle.load_model.proofs.Stays.{written_stays}
use Rattle.load_model.proofs.Views.{view_alike, fixed_more}

-- ---- quiet entries

pub shared_alike : (lib : Library) (e : Eager) (pid serial : ℕ) (w : Written) (c : Class) → c ≡ classes.Shared → Alike lib e (after_write e pid serial w c) pid
shared_alike lib e pid serial w classes.Code is = absurd cc
shared_alike lib e pid serial w classes.Private is = absurd cc
shared_alike lib e pid serial w classes.Shared is = record { process = refl; residences = λ m reached. written_stays e pid serial w classes.Shared m }

pub quiet_alike : (lib : Library) (e : Eager) (pid : ℕ) (d : Deed) → IsQuiet lib d → Alike lib e (after_deed lib e pid d) pid
unfolding after_deed residence_of
quiet_alike lib e pid (deeds.Full how m of object size) is = record { process = refl; residences = λ m reached. refl }
quiet_alike lib e pid (deeds.Failed how m by fresh calls gone) is = record { process = refl; residences = λ m reached. refl }
quiet_alike lib e pid (deeds.Fault serial m p) is = record { process = refl; residences = λ m reached. refl }
quiet_alike lib e pid (deeds.Shared serial m object offset bytes) is = record { process = refl; residences = λ m reached. refl }
quiet_alike lib e pid (deeds.Write serial m object offset bytes) is = shared_alike lib e pid serial _ (class_of (object_at lib m object)) is
quiet_alike lib e pid (deeds.Enter how m fresh calls) is = absurd is
quiet_alike lib e pid (deeds.Free m calls gone) is = absurd is
quiet_alike lib e pid (deeds.Exit calls gone) is = absurd is
quiet_alike lib e pid (deeds.Debug serial m object offset bytes) is = absurd is

pub stands_quiet : OrdersNest → StandsQuiet
stands_quiet nest lib failing contents v h x own quiet stands =
    let alike : Alike lib (state_after lib failing h) (after_entry lib (state_after lib failing h) x) v.pid =
    subst (λ q. Alike lib (state_after lib failing h) (after_entry lib (state_after lib failing h) x) q) own (quiet_alike lib (state_after lib failing h) x.pid x.deed quiet)
    in
    let later : IsViewOf lib contents v (state_after lib failing (h ++ x ∷ [])) =
    subst (IsViewOf lib contents v) (sym (one_more_is_after lib failing h x)) (view_alike nest lib contents v (state_after lib failing h) _ alike stands.view)
    in
    record {
      front = refl;
      view = record { ended = later.ended; counts = later.counts; residences = later.residences; mapped = later.mapped; writes = later.writes };
      faults = fixed_more lib v h x v.mapped stands.faults;
    }

-- ---- a page more

all_and : (P : Mapped → Type 0) (ps : List Mapped) (p : Mapped) → AllByRecursion P ps → P p → AllByRecursion P (ps ++ p ∷ [])
all_and P [] p all one = (one, tt)
all_and P (q ∷ ps) p all one = (all.0, all_and P ps p all.1 one)

pages_more : (ps : List Mapped) (p : Mapped) → map (λ (q : Mapped). q.of) (ps ++ p ∷ []) ≡ map (λ (q : Mapped). q.of) ps ++ p.of ∷ []
pages_more [] p = refl
pages_more (q ∷ ps) p = ap (λ xs. q.of ∷ xs) (pages_more ps p)

page_stays : (pages : List PageOf) (one : PageOf) (serial : ℕ) (q : PageId) → has_page pages serial q ≡ true → has_page (pages ++ one ∷ []) serial q ≡ true
page_stays pages one serial q h = list_any-append (λ t. (t.serial == serial) && is_page t.page q) pages (one ∷ []) ∙ or_left (has_page pages serial q) _ h

pub each_more : (f g : ℕ → Bool) → ((n : ℕ) → f n ≡ true → g n ≡ true) → (ns : List ℕ) → list_all f ns ≡ true → list_all g ns ≡ true
each_more f g more [] h = refl
each_more f g more (n ∷ ns) h = step (f n) refl h (each_more f g more ns)
  where
    step : (b : Bool) → f n ≡ b → b && list_all f ns ≡ true → (list_all f ns ≡ true → list_all g ns ≡ true) → g n && list_all g ns ≡ true
    step true is h later = ap (λ b. b && list_all g ns) (more n is) ∙ later h
    step false is h later = cc

covered_more : (pages : List PageOf) (one : PageOf) (ws : List OwnWrite) → AllByRecursion (λ w. is_covered pages w ≡ true) ws → AllByRecursion (λ w. is_covered (pages ++ one ∷ []) w ≡ true) ws
covered_more pages one [] all = tt
covered_more pages one (w ∷ ws) all = (
  each_more (λ n. has_page pages w.serial (page w.write.object n)) (λ n. has_page (pages ++ one ∷ []) w.serial (page w.write.object n))
      (λ n there. page_stays pages one w.serial (page w.write.object n) there) (pages_over w.write.offset (length w.write.bytes)) all.0,
  covered_more pages one ws all.1,
)

pub stands_mapped : StandsMapped
stands_mapped lib failing contents v h p is fixed stands = record {
  front = stands.front;
  view = record {
    ended = stands.view.ended;
    counts = stands.view.counts;
    residences = stands.view.residences;
    mapped = all_and (IsMapped lib contents (state_after lib failing h) v.pid) v.mapped p stands.view.mapped is;
    writes = subst (λ pages. AllByRecursion (λ w. is_covered pages w ≡ true) ((state_after lib failing h).processes v.pid).writes) (sym (pages_more v.mapped p))
        (covered_more (mapped_pages v) p.of ((state_after lib failing h).processes v.pid).writes stands.view.writes);
  };
  faults = all_and (WasFixed lib v h) v.mapped p stands.faults fixed;
}
