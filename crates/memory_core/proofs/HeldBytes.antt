-- The bytes of a page that a process sees which wrote nothing are the fixed ones.
use Rattle.std.specs.Prelude.{◌≡◌, ℕ, zero, suc, ◌+◌, ◌-◌, ◌*◌, ◌/◌, ◌%◌, ◌<◌, ◌≤◌, ◌==◌, List, [], ◌∷◌, filter, map, min, take, refl}
use Rattle.std.specs.List.{range_with_len}
use Rattle.std.proofs.Common.{ap, sym, ◌∙◌, arith}
use Rattle.std.proofs.lemmas.List.FromFn.{take-map-range_with_len}
use Rattle.lx_types.specs.Object.{class_of}
use Rattle.lx_types.specs.declared.bases.Bases.{Bases}
use Rattle.lx_types.specs.declared.object.Class.{Class}
use Rattle.lx_types.specs.declared.object.Class.TheVariants as classes
use Rattle.lx_types.specs.declared.object.ObjHead.{ObjHead}
use Rattle.lx_model.specs.Fixed.{Fixed}
use Rattle.lx_model.specs.ModuleBytes.{fixed_page}
use Rattle.load_model.specs.declared.deeds.Fresh.{Fresh}
use Rattle.load_model.specs.Entering.{residence_from}
use Rattle.load_model.specs.Memory.{Bytes, Byte, bases_seen, last_put, page, writes_of_class, writes_seen}
use Rattle.load_model.specs.Modules.{Library, fixed_bytes, object_at}
use Rattle.load_model.specs.State.{Written, Process, Residence, Eager, new_process}
use Rattle.memory_model.specs.Memory.{bytes_in}
use Rattle.memory_core.specs.Brought.{standing}

-- ---- a page, and places of its object

range_shift : (P F : ℕ → ℕ) (b a n : ℕ) → ((i : ℕ) → i < a + n → P i ≡ F (b + i)) → map P (range_with_len a n) ≡ map F (range_with_len (b + a) n)
range_shift P F b a zero same = refl
range_shift P F b a (suc n) same =
    let next : b + (a + 1) ≡ b + a + 1 = omega arith in
    ap (λ (x : ℕ). x ∷ map P (range_with_len (a + 1) n)) (same a (omega arith))
    ∙ ap (λ (xs : List ℕ). F (b + a) ∷ xs) (range_shift P F b (a + 1) n (λ i h. same i (omega (arith, h))))
    ∙ ap (λ (c : ℕ). F (b + a) ∷ map F (range_with_len c n)) next

byte_of_page : (lib : Library) (m : ℕ) (bases : Bases) (object k i : ℕ) → i < 4096 → Fixed lib m bases (page object k) i ≡ fixed_bytes lib m bases object (k * 4096 + i)
unfolding fixed_bytes
byte_of_page lib m bases object k i h =
    let number : (k * 4096 + i) / 4096 ≡ k = omega (arith, h) in
    let rest : (k * 4096 + i) % 4096 ≡ i = omega (arith, h) in
    ap (λ (n : ℕ). Fixed lib m bases (page object n) i) (sym number)
    ∙ ap (λ (n : ℕ). Fixed lib m bases (page object ((k * 4096 + i) / 4096)) n) (sym rest)

pub front_of_page : (lib : Library) (m : ℕ) (bases : Bases) (object k n : ℕ) → n ≤ 4096
    → take n (fixed_page lib m bases (page object k)) ≡ map (fixed_bytes lib m bases object) (range_with_len (k * 4096) n)
front_of_page lib m bases object k n few =
    let start : k * 4096 + 0 ≡ k * 4096 = omega arith in
    take-map-range_with_len (Fixed lib m bases (page object k)) 0 4096 n few
    ∙ range_shift (Fixed lib m bases (page object k)) (fixed_bytes lib m bases object) (k * 4096) 0 n (λ i below. byte_of_page lib m bases object k i (omega (arith, below, few)))
    ∙ ap (λ (b : ℕ). map (fixed_bytes lib m bases object) (range_with_len b n)) start

pub few_in : (o : ObjHead) (p : ℕ) → bytes_in o p ≤ 4096
few_in o p = omega arith

-- ---- nothing was written

none_of_class : (class : Class) (p : Process) (r : Residence) → p.writes ≡ [] → r.writes ≡ [] → writes_of_class class p r ≡ []
none_of_class classes.Code p r own shared = ap (λ ws. map (λ w. w.write) (filter (λ w. w.serial == r.serial) ws)) own
none_of_class classes.Private p r own shared = ap (λ ws. map (λ w. w.write) (filter (λ w. w.serial == r.serial) ws)) own
none_of_class classes.Shared p r own shared = shared

-- So the bytes that a process sees are those at the bases of the residences.
pub bytes_unwritten : (lib : Library) (e : Eager) (r : Residence) (object offset len : ℕ) → (e.processes 1).writes ≡ [] → r.writes ≡ []
    → Bytes lib (fixed_bytes lib) e 1 r object offset len ≡ map (fixed_bytes lib r.«module» (bases_seen lib e r.«module») object) (range_with_len offset len)
unfolding Bytes Byte writes_seen
bytes_unwritten lib e r object offset len own shared =
    ap (λ (ws : List Written). map (λ x. last_put (filter (λ w. w.object == object) ws) x (fixed_bytes lib r.«module» (bases_seen lib e r.«module») object x)) (range_with_len offset len))
    (none_of_class (class_of (object_at lib r.«module» object)) (e.processes 1) r own shared)
