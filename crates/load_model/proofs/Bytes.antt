-- The bytes and the addresses that a process is answered, in two states that it cannot tell apart.
use Rattle.std.proofs.Common.{◌≡◌, ℕ, ◌==◌, Bool, true, false, cond, if◌then◌else◌, ◌||◌, List, [], ◌∷◌, map, filter, find, Option, Some, None, refl, sym, ◌∙◌, ap}
use Rattle.std.specs.List.{range_with_len}
use Rattle.std.proofs.lemmas.Bool.{eqb-true, eq-eqb}
use Rattle.load_model.proofs.Bools.{or_true}
use Rattle.lx_types.specs.Object.{class_of}
use Rattle.lx_types.specs.declared.bases.Bases.{Bases}
use Rattle.lx_types.specs.declared.bases.ModBases.{ModBases}
use Rattle.lx_types.specs.declared.object.Class.{Class}
use Rattle.lx_types.specs.declared.object.Class.TheVariants as classes
use Rattle.load_model.specs.declared.commands.Place.{Place}
use Rattle.load_model.specs.declared.commands.Refusal.{Refusal}
use Rattle.load_model.specs.declared.commands.Refusal.TheVariants.{Ended}
use Rattle.load_model.specs.Modules.{Library, Held, number_of, order_of, object_at}
use Rattle.load_model.specs.State.{Residence, Process, Eager, Written, is_among, reaches, residence_of, attached_residence, bases_of}
use Rattle.load_model.specs.Memory.{writes_of_class, writes_seen, bases_seen, last_put, Byte, Bytes}
use Rattle.load_model.specs.Refusals.{peek, ◌orelse◌, when, class_refusal, span_refusal, residence_refusal, residence_if, residence_named, place_refusal}
use Rattle.load_model.specs.Step.{bytes_of}
use Rattle.load_model.specs.Histories.{after_entry, state_after}
use Rattle.load_model.specs.Laws.{unwritten_of, OthersBytesAlike}
use Rattle.load_model.proofs.Orders.{OrdersNest, reaches_closed}
use Rattle.load_model.specs.Alike.{Alike, BasesAreAlike}
use Rattle.load_model.proofs.Apart.{attached_stays, named_stays, others_leave_alike}

-- ---- residences that differ in shared writes alone

abbrev pub with_writes : Residence → List Written → Residence
with_writes r ws = record r { writes = ws }

pub same_stay : (a b : Residence) → unwritten_of (Some b) ≡ unwritten_of (Some a) → b ≡ with_writes a b.writes
same_stay a b e =
    let plain : with_writes b [] ≡ with_writes a [] = cc in
    ap (λ r. with_writes r b.writes) plain

none_stay : (b : Residence) → unwritten_of (Some b) ≡ unwritten_of None → ⊥
none_stay b e = cc

pub some_stay : (a : Residence) → unwritten_of None ≡ unwritten_of (Some a) → ⊥
some_stay a e = cc

-- ---- what a residence that is named is

pub find_is : (m : ℕ) (rs : List Residence) (a : Residence) → find (λ r. r.«module» == m) rs ≡ Some a → a.«module» ≡ m
find_is m [] a e = cc
find_is m (r ∷ rs) a e = step (r.«module» == m) refl (find_is m rs a) e
  where
    step : (b : Bool) → (r.«module» == m) ≡ b → (find (λ x. x.«module» == m) rs ≡ Some a → a.«module» ≡ m) → cond b (Some r) (find (λ x. x.«module» == m) rs) ≡ Some a → a.«module» ≡ m
    step true h later e = (let same : r ≡ a = cc in ap (λ x. x.«module») (sym same) ∙ eqb-true r.«module» m h)
    step false h later e = later e

pub attached_is : (lib : Library) (e : Eager) (q m : ℕ) (a : Residence) → attached_residence lib e q m ≡ Some a → (reaches lib (e.processes q) m ≡ true) × (a.«module» ≡ m)
unfolding attached_residence residence_of
attached_is lib e q m a is = step (reaches lib (e.processes q) m) refl is
  where
    step : (b : Bool) → reaches lib (e.processes q) m ≡ b → (if b then find (λ r. r.«module» == m) e.residences else None) ≡ Some a →
        (reaches lib (e.processes q) m ≡ true) × (a.«module» ≡ m)
    step true h is = (h, find_is m e.residences a is)
    step false h is = (let wrong : None ≡ Some a = is in cc)

-- the module that the name means, which the process reaches
pub named_is : (lib : Library) (e : Eager) (q : ℕ) (name : List ℕ) (a : Residence) → residence_named lib e q name ≡ Some a →
    (reaches lib (e.processes q) a.«module» ≡ true) × (number_of lib name ≡ Some a.«module»)
unfolding residence_named
named_is lib e q name a is = step (number_of lib name) refl is
  where
    step : (n : Option ℕ) → number_of lib name ≡ n → residence_if lib e q n ≡ Some a → (reaches lib (e.processes q) a.«module» ≡ true) × (number_of lib name ≡ Some a.«module»)
    step None h is = cc
    step (Some m) h is =
        let it : (reaches lib (e.processes q) m ≡ true) × (a.«module» ≡ m) = attached_is lib e q m a is in
        (ap (reaches lib (e.processes q)) it.1 ∙ it.0, h ∙ ap Some (sym it.1))

-- ---- bases

pub map_member : {X : Type 0} (f g : ℕ → X) (xs : List ℕ) → ((k : ℕ) → is_among xs k ≡ true → f k ≡ g k) → map f xs ≡ map g xs
map_member f g [] h = refl
map_member f g (x ∷ xs) h =
    ap (λ y. y ∷ map f xs) (h x (ap (λ b. b || is_among xs x) (same x)))
    ∙ ap (λ ys. g x ∷ ys) (map_member f g xs (λ k t. h k (ap (λ b. (x == k) || b) t ∙ or_true (x == k))))
  where
    same : (n : ℕ) → (n == n) ≡ true
    same n = eq-eqb n n refl

pub bases_by_stay : (r : Option Residence) → bases_of r ≡ bases_of (unwritten_of r)
bases_by_stay None = refl
bases_by_stay (Some r) = refl

pub bases_stay : (r s : Option Residence) → unwritten_of r ≡ unwritten_of s → bases_of r ≡ bases_of s
bases_stay r s e = bases_by_stay r ∙ ap bases_of e ∙ sym (bases_by_stay s)

abbrev pub one_bases : Eager → ℕ → ModBases
one_bases e k = record { «module» = k; objects = bases_of (residence_of e k) }

pub bases_alike : OrdersNest → (lib : Library) (e after : Eager) (q m : ℕ) → Alike lib e after q → reaches lib (e.processes q) m ≡ true → bases_seen lib after m ≡ bases_seen lib e m
unfolding bases_seen
bases_alike nest lib e after q m alike reached =
    let B : List ModBases → Bases = λ mods. record { mods = mods } in
    let M : ℕ → List ℕ → ModBases = λ k bases. record { «module» = k; objects = bases } in
    ap B (map_member (one_bases after) (one_bases e) (order_of lib m)
    (λ k member.
    ap (M k) (bases_stay (residence_of after k) (residence_of e k) (alike.residences k (reaches_closed nest lib (e.processes q) m k reached member)))))

-- ---- bytes of code and of own data

not_shared : (c : Class) (p : Process) (r : Residence) (ws : List Written) → class_refusal peek c ≡ None → writes_of_class c p (with_writes r ws) ≡ writes_of_class c p r
not_shared classes.Code p r ws h = refl
not_shared classes.Private p r ws h = refl
not_shared classes.Shared p r ws h = cc

pub left_none : (a b : Option Refusal) → a orelse b ≡ None → a ≡ None
left_none None b h = refl
left_none (Some r) b h = cc

pub right_none : (a b : Option Refusal) → a orelse b ≡ None → b ≡ None
right_none None b h = h
right_none (Some r) b h = cc

-- a place that may be peeked at is of code or of own data
pub peeked_class : (lib : Library) (p : Process) (place : Place) (a : Residence) → residence_refusal lib p peek place (Some a) ≡ None →
    class_refusal peek (class_of (object_at lib a.«module» place.object)) ≡ None
unfolding span_refusal
peeked_class lib p place a h = left_none _ _ (right_none _ _ (left_none (span_refusal lib peek a.«module» place.object place.offset place.len) _ h))

seen_alike : (lib : Library) (p : Process) (a : Residence) (ws : List Written) (object : ℕ) → class_refusal peek (class_of (object_at lib a.«module» object)) ≡ None →
    writes_seen lib p (with_writes a ws) object ≡ writes_seen lib p a object
unfolding writes_seen
seen_alike lib p a ws object h = ap (filter (λ w. w.object == object)) (not_shared (class_of (object_at lib a.«module» object)) p a ws h)

pub byte_alike : OrdersNest → (lib : Library) (contents : Held) (e after : Eager) (q : ℕ) (a : Residence) (ws : List Written) (object x : ℕ) → Alike lib e after q →
    reaches lib (e.processes q) a.«module» ≡ true → class_refusal peek (class_of (object_at lib a.«module» object)) ≡ None →
    Byte lib contents after q (with_writes a ws) object x ≡ Byte lib contents e q a object x
unfolding Byte
byte_alike nest lib contents e after q a ws object x alike reached class =
    let F : List Written → Bases → ℕ = λ writes bases. last_put writes x (contents a.«module» bases object x) in
    ap (λ p. F (writes_seen lib p (with_writes a ws) object) (bases_seen lib after a.«module»)) alike.process
    ∙ ap (λ writes. F writes (bases_seen lib after a.«module»)) (seen_alike lib (e.processes q) a ws object class)
    ∙ ap (F (writes_seen lib (e.processes q) a object)) (bases_alike nest lib e after q a.«module» alike reached)

bytes_alike : OrdersNest → (lib : Library) (contents : Held) (e after : Eager) (q : ℕ) (a : Residence) (ws : List Written) (object offset len : ℕ) → Alike lib e after q →
    reaches lib (e.processes q) a.«module» ≡ true → class_refusal peek (class_of (object_at lib a.«module» object)) ≡ None →
    Bytes lib contents after q (with_writes a ws) object offset len ≡ Bytes lib contents e q a object offset len
unfolding Bytes
bytes_alike nest lib contents e after q a ws object offset len alike reached class =
    λ i. map (λ x. byte_alike nest lib contents e after q a ws object x alike reached class i) (range_with_len offset len)

pub peek_alike : OrdersNest → (lib : Library) (contents : Held) (e after : Eager) (q : ℕ) (place : Place) → Alike lib e after q → place_refusal lib e q peek place ≡ None →
    bytes_of lib contents after q place (residence_named lib after q place.«module») ≡ bytes_of lib contents e q place (residence_named lib e q place.«module»)
unfolding place_refusal
peek_alike nest lib contents e after q place alike fine =
    step (residence_named lib after q place.«module») (residence_named lib e q place.«module») refl (named_stays lib e after q place.«module» alike)
    (right_none (when (e.processes q).ended Ended) _ fine)
  where
    step : (r s : Option Residence) → residence_named lib e q place.«module» ≡ s → unwritten_of r ≡ unwritten_of s → residence_refusal lib (e.processes q) peek place s ≡ None →
        bytes_of lib contents after q place r ≡ bytes_of lib contents e q place s
    step None None is same h = refl
    step None (Some a) is same h = absurd (some_stay a same)
    step (Some b) None is same h = absurd (none_stay b same)
    step (Some b) (Some a) is same h =
        ap (λ r. Bytes lib contents after q r place.object place.offset place.len) (same_stay a b same)
        ∙ bytes_alike nest lib contents e after q a b.writes place.object place.offset place.len alike (named_is lib e q place.«module» a is).0
        (peeked_class lib (e.processes q) place a h)

pub bases_are_alike : OrdersNest → BasesAreAlike
bases_are_alike nest lib e after pid m alike reached = bases_alike nest lib e after pid m alike reached

-- a class that is not shared may be peeked at
own_class : (c : Class) → (c ≡ classes.Shared → ⊥) → class_refusal peek c ≡ None
own_class classes.Code apart = refl
own_class classes.Private apart = refl
own_class classes.Shared apart = absurd (apart refl)

pub others_bytes_alike : OrdersNest → OthersBytesAlike
others_bytes_alike nest lib failing contents h entry pid m object x a b legal follows there other own is after =
    let alike : Alike lib (state_after lib failing h) (after_entry lib (state_after lib failing h) entry) pid = others_leave_alike lib failing contents h entry pid legal follows there other in
    let same : unwritten_of (Some b) ≡ unwritten_of (Some a) = ap unwritten_of (sym after) ∙ attached_stays lib (state_after lib failing h) _ pid m alike ∙ ap unwritten_of is in
    let it : (reaches lib ((state_after lib failing h).processes pid) m ≡ true) × (a.«module» ≡ m) = attached_is lib (state_after lib failing h) pid m a is in
    ap (λ r. Byte lib contents (after_entry lib (state_after lib failing h) entry) pid r object x) (same_stay a b same)
    ∙ byte_alike nest lib contents (state_after lib failing h) _ pid a b.writes object x alike (ap (reaches lib ((state_after lib failing h).processes pid)) it.1 ∙ it.0)
    (ap (λ k. class_refusal peek (class_of (object_at lib k object))) it.1 ∙ own_class (class_of (object_at lib m object)) own)
