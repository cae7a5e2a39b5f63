-- Lists of calls.
use Rattle.std.proofs.Common.{◌≡◌, ℕ, ◌+◌, ◌-◌, ◌%◌, ◌^◌, ◌<◌, ◌||◌, ◌&&◌, cond, List, [], ◌∷◌, ◌++◌, length, get_or, take, Option, Some, None, refl, sym, ◌∙◌, ap, append_assoc}
use Rattle.std.specs.Prelude.{slice_index, filter_map, option_map, option_to_list}
use Rattle.std.specs.List.{cons_option}
use Rattle.std.proofs.lemmas.List.{take_more}
use Rattle.std.proofs.lemmas.List.Elements.{filter_map-append}
use Rattle.load_model.specs.declared.deeds.Call.{Call}
use Rattle.load_model.specs.declared.deeds.CallKind.{CallKind}
use Rattle.load_model.specs.declared.deeds.CallKind.TheVariants.{Init, Term, Main}
use Rattle.load_model.specs.declared.deeds.How.{How}
use Rattle.load_model.specs.declared.deeds.How.TheVariants.{Start, Load}
use Rattle.load_model.specs.Modules.{Library, is_library, inits_each, terms_each, start_of}
use Rattle.load_model.specs.State.{Residence, Eager, is_among, residence_of, serial_of, bases_of}
use Rattle.load_model.specs.Entering.{call_of, init_of, main_of}
use Rattle.load_model.specs.Leaving.{term_of}
use Rattle.residence_table.specs.Residences.{unwritten}

-- the call where a residence is
pub call_is : (kind : CallKind) (r : Option Residence) (m object offset serial base : ℕ) (bases : List ℕ) → serial ≡ serial_of r → bases ≡ bases_of r → base ≡ slice_index bases (object - 1) →
    ◌≡◌ {A = Call} (record { kind = kind; serial = serial; «module» = m; address = (base + offset) % 2 ^ 32 }) (call_of kind r m (object, offset))
call_is kind r m object offset serial base bases serial_is bases_are base_is =
    let there : base ≡ slice_index (bases_of r) (object - 1) = base_is ∙ ap (λ xs. slice_index xs (object - 1)) bases_are in
    let Made : ℕ → ℕ → Call = λ s b. record { kind = kind; serial = s; «module» = m; address = (b + offset) % 2 ^ 32 } in
    ap (λ s. Made s base) serial_is ∙ ap (Made (serial_of r)) there

-- one more that may have a call
pub filter_map_more : {X Y : Type 0} (f : X → Option Y) (xs : List X) (i : ℕ) (d : X) → i < length xs →
    filter_map f (take (i + 1) xs) ≡ filter_map f (take i xs) ++ option_to_list (f (get_or xs i d))
filter_map_more {Y = Y} f xs i d h =
    ap (filter_map f) (take_more xs i d h) ∙ filter_map-append f (take i xs) (get_or xs i d ∷ []) ∙ ap (λ ys. filter_map f (take i xs) ++ ys) (one (f (get_or xs i d)))
  where
    one : (o : Option Y) → cons_option o [] ≡ option_to_list o
    one None = refl
    one (Some y) = refl

pub filter_map_same : {X Y : Type 0} (f g : X → Option Y) → ((x : X) → f x ≡ g x) → (xs : List X) → filter_map f xs ≡ filter_map g xs
filter_map_same f g same [] = refl
filter_map_same f g same (x ∷ xs) = ap (λ o. cons_option o (filter_map f xs)) (same x) ∙ ap (cons_option (g x)) (filter_map_same f g same xs)

-- ---- calls by where residences stand

-- whatever was written to it
call_written : (kind : CallKind) (r : Option Residence) (m : ℕ) → call_of kind (option_map unwritten r) m ≡ call_of kind r m
call_written kind None m = refl
call_written kind (Some r) m = refl

pub term_same : (lib : Library) (e d : Eager) (gone : List ℕ) (m : ℕ) → residence_of e m ≡ option_map unwritten (residence_of d m) → term_of lib e gone m ≡ term_of lib d gone m
term_same lib e d gone m same =
    ap (λ r. cond (is_library lib m && (terms_each lib m || is_among gone m)) (option_map (call_of Term r m) (start_of lib m)) None) same
    ∙ ap (λ call. cond (is_library lib m && (terms_each lib m || is_among gone m)) (option_map call (start_of lib m)) None) (call_written Term (residence_of d m) m)

pub init_same : (lib : Library) (e d : Eager) (new : List ℕ) (m : ℕ) → residence_of e m ≡ option_map unwritten (residence_of d m) → init_of lib e new m ≡ init_of lib d new m
init_same lib e d new m same =
    ap (λ r. cond (is_library lib m && (inits_each lib m || is_among new m)) (option_map (call_of Init r m) (start_of lib m)) None) same
    ∙ ap (λ call. cond (is_library lib m && (inits_each lib m || is_among new m)) (option_map call (start_of lib m)) None) (call_written Init (residence_of d m) m)

pub main_same : (lib : Library) (e d : Eager) (how : How) (m : ℕ) → residence_of e m ≡ option_map unwritten (residence_of d m) → main_of lib e how m ≡ main_of lib d how m
main_same lib e d Start m same =
    ap (λ r. option_to_list (option_map (call_of Main r m) (start_of lib m))) same
    ∙ ap (λ call. option_to_list (option_map call (start_of lib m))) (call_written Main (residence_of d m) m)
main_same lib e d Load m same = refl

-- a call that is added for the next module
pub push_more : (f : ℕ → Option Call) (xs : List ℕ) (i : ℕ) (start now new : List Call) (o : Option Call) → i < length xs → now ≡ start ++ filter_map f (take i xs) →
    new ≡ now ++ option_to_list o → o ≡ f (get_or xs i 0) → new ≡ start ++ filter_map f (take (i + 1) xs)
push_more f xs i start now new o h so_far is call =
    is ∙ ap (λ ys. ys ++ option_to_list o) so_far ∙ append_assoc start (filter_map f (take i xs)) (option_to_list o)
    ∙ ap (λ ys. start ++ ys) (ap (λ p. filter_map f (take i xs) ++ option_to_list p) call ∙ sym (filter_map_more f xs i 0 h))
