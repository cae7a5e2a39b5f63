-- There is something to tell of each number of modules: their links, a library of them, and the places that they take.
use Rattle.std.specs.Prelude.{◌≡◌, ℕ, zero, suc, ◌+◌, ◌≤◌, List, [], ◌∷◌, length, refl}
use Rattle.std.proofs.Common.{ap, arith}
use Rattle.link_model.specs.Link.{Link}
use Rattle.gen_model.specs.Sums.{AreLinked, bases_of, totals_of}
use Rattle.gen_laws.specs.Laws.{AreFirst, FirstHaveTotals, InputsAreWhole, InputsLink}
use Rattle.gen_laws.proofs.FirstGather.{first_gather}
use Rattle.gen_laws.proofs.FirstPlaces.{first_places}
use Rattle.gen_laws.proofs.FirstShape.{gen_link, its_link}

-- ---- the links of the modules from k on

abbrev links_from : ℕ → ℕ → List Link
links_from k zero = []
links_from k (suc n) = gen_link k ∷ links_from (suc k) n

long : (k n : ℕ) → length (links_from k n) ≡ n
long k zero = refl
long k (suc n) = ap suc (long (suc k) n)

all_linked : InputsLink → (k n : ℕ) → 1 ≤ k → k + n ≤ 65 → AreLinked k (links_from k n)
all_linked accepted k zero low high = tt
all_linked accepted k (suc n) low high =
    (its_link k, accepted k (gen_link k) (low, omega (arith, high)) (its_link k), all_linked accepted (suc k) n (omega arith) (omega (arith, high)))

-- ---- what is told of them

pub first_totals : InputsAreWhole → InputsLink → FirstHaveTotals
first_totals whole accepted count one =
    let links = links_from 1 count in
    let few = one.1 in
    let counted = long 1 count in
    let linked = all_linked accepted 1 count (omega arith) (omega (arith, few)) in
    let first : AreFirst links = record { linked = linked; few = omega (arith, counted, few) } in
    let places = first_places whole links first in (
      totals_of links (bases_of places.0),
      record {
        links = links;
        each = counted;
        linked = linked;
        gathered = first_gather whole links first;
        fresh = places.0;
        placed = places.1;
        told = refl;
      },
    )
