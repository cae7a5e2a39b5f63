-- The health among listed faults is the module's.
use Rattle.std.proofs.Common.{◌≡◌, ℕ, ◌<◌, ◌∙◌, List, map, length, get_or, Option, unwrap_or, ap, arith}
use Rattle.std.proofs.lemmas.List.FromFn.{get_or-map-range_with_len}
use Rattle.std.specs.List.{range_with_len}
use Rattle.lx_types.specs.declared.parts.Parts.{Parts}
use Rattle.lx_model.specs.declared.library.Health.{Health}
use Rattle.lx_model.specs.declared.library.Health.TheVariants.{Fit}
use Rattle.lx_model.specs.Reading.{first, ◌then◌}
use Rattle.lx_model.specs.Reach.{Order, HealthOf}
use Rattle.mod_graph.specs.declared.health.Faults.{Faults}
use Rattle.mod_graph.specs.declared.health.Kind.{Kind}
use Rattle.mod_graph.specs.declared.health.Kind.TheVariants.{NoModule, NoEntry, ForwardLoop, Gate286}
use Rattle.mod_graph.specs.Faults.{faults_of, listed, no_faults, of_kind, first_of_kind, health_among}
use Rattle.mod_graph.proofs.Lists.{map_same_within}

-- the members of an order are modules of the library
abbrev IsWithin : List Parts → List ℕ → Type 0
IsWithin lib order = (k : ℕ) (d : ℕ) → k < length order → get_or order k d < length lib

kind_same : (lib : List Parts) (faults : List Faults) (order : List ℕ) → faults ≡ map (faults_of lib) (range_with_len 0 (length lib)) → IsWithin lib order → (kind : Kind) →
    first_of_kind kind faults order ≡ first (map (λ m. of_kind kind (faults_of lib m)) order)
kind_same lib faults order is within kind =
    ap first (map_same_within (λ m. of_kind kind (listed faults m)) (λ m. of_kind kind (faults_of lib m)) order
    (λ k d below. ap (of_kind kind) (ap (λ fs. listed fs (get_or order k d)) is
    ∙ get_or-map-range_with_len (faults_of lib) 0 (length lib) (get_or order k d) (get_or order k d) no_faults (within k d below) (omega arith))))

pub health_is : (lib : List Parts) (faults : List Faults) (order : List ℕ) (m : ℕ) → faults ≡ map (faults_of lib) (range_with_len 0 (length lib)) → IsWithin lib order →
    order ≡ Order lib m → health_among faults order ≡ HealthOf lib m
unfolding HealthOf
health_is lib faults order m is within ordered =
    let of : Kind → List ℕ → Option Health = λ kind members. first (map (λ by. of_kind kind (faults_of lib by)) members) in
    let same : (kind : Kind) → first_of_kind kind faults order ≡ of kind order = kind_same lib faults order is within in
    let all : List ℕ → Health = λ members. unwrap_or (of NoModule members then of NoEntry members then of ForwardLoop members then of Gate286 members) Fit in
    ap (λ x. unwrap_or (x then first_of_kind NoEntry faults order then first_of_kind ForwardLoop faults order then first_of_kind Gate286 faults order) Fit) (same NoModule)
    ∙ ap (λ x. unwrap_or (of NoModule order then x then first_of_kind ForwardLoop faults order then first_of_kind Gate286 faults order) Fit) (same NoEntry)
    ∙ ap (λ x. unwrap_or (of NoModule order then of NoEntry order then x then first_of_kind Gate286 faults order) Fit) (same ForwardLoop)
    ∙ ap (λ x. unwrap_or (of NoModule order then of NoEntry order then of ForwardLoop order then x) Fit) (same Gate286)
    ∙ ap all ordered
