-- One record after another.
use Rattle.std.proofs.Common.{◌≡◌, ℕ, ◌<◌, Bool, cond, List, [], ◌∷◌, ◌++◌, length, map, Option, Some, None, Result, Ok, Err, sym, ap, subst, ◌∙◌, arith}
use Rattle.std.specs.Prelude.{IsErrAnd}
use Rattle.std.proofs.lemmas.Bool.{ne_eqb, eq-eqb}
use Rattle.lx_bytes.specs.Cursor.{Cursor}
use Rattle.lx_types.specs.declared.fix.Fix.{Fix}
use Rattle.lx_types.specs.declared.refusal.LxRefusal.{LxRefusal}
use Rattle.lx_model.specs.Reading.{Read, ◌>>=◌, ends, fault_of, ends_at, faulty, with_front, Many}
use Rattle.std.specs.List.{flat_map}
use Rattle.lx_model.specs.Records as model
use Rattle.lx_model.specs.Records.{next_record, record_at}
use Rattle.lx_model.proofs.Many.{many_ends, many_more, many_fails}
use Rattle.lx_model.proofs.Shortening.{record_shortens, record_leaves}
use Rattle.lx_fixrec.specs.Left.{Placed, Left, left_of, sources_left, sources_of, after, items_after, Finds}
use Rattle.lx_fixrec.specs.Reads.{refusal}
use Rattle.lx_fixrec.specs.declared.refusal.RecRefusal.{RecRefusal}
use Rattle.lx_fixrec.specs.declared.reader.Found.{Found}
use Rattle.lx_fixrec.specs.declared.record.Record.{Record}
use Rattle.lx_fixrec.specs.Sources.{fixes_left}

abbrev item_of : ℕ → List Fix × Cursor → Read (Option (model.Record × Unit {0}))
item_of at fixes = Ok (Some (record { at = at; fixes = fixes.0 }, tt), fixes.1)

step_is : (c : Cursor) → (length c.left ≡ 0 → ⊥) → next_record tt c ≡ (record_at c >>= item_of c.at)
unfolding next_record
step_is c some = ap (λ (t : Bool). cond t (ends c) (record_at c >>= item_of c.at)) (ne_eqb (length c.left) 0 some)

step_ends : (c : Cursor) → length c.left ≡ 0 → next_record tt c ≡ Ok (None, c)
unfolding next_record
step_ends c none = ap (λ (t : Bool). cond t (ends c) (record_at c >>= item_of c.at)) (eq-eqb (length c.left) 0 none)

pub at_end : (c : Cursor) → length c.left ≡ 0 → after c ≡ ends_at c
at_end c none = many_ends next_record tt c c (step_ends c none)

pub at_fault : (c : Cursor) (e : LxRefusal) → (length c.left ≡ 0 → ⊥) → record_at c ≡ Err e → after c ≡ faulty e
at_fault c e some is = many_fails next_record tt c e (step_is c some ∙ ap (λ (r : Read (List Fix)). r >>= item_of c.at) is)

pub at_record : (c d : Cursor) (fixes : List Fix) → (length c.left ≡ 0 → ⊥) → record_at c ≡ Ok (fixes, d) → after c ≡ with_front (record { at = c.at; fixes = fixes }) (after d)
at_record c d fixes some is = many_more next_record record_shortens tt c d (record { at = c.at; fixes = fixes }, tt) (step_is c some ∙ ap (λ (r : Read (List Fix)). r >>= item_of c.at) is)

pub shorter : (c d : Cursor) (fixes : List Fix) → record_at c ≡ Ok (fixes, d) → length d.left < length c.left
shorter c d fixes is = record_leaves c fixes d is

pub items_at : (c d : Cursor) (fixes : List Fix) → (length c.left ≡ 0 → ⊥) → record_at c ≡ Ok (fixes, d) → items_after c ≡ map (λ (f : Fix). (c.at, f)) fixes ++ items_after d
items_at c d fixes some is = ap (λ (m : Many model.Record). flat_map sources_of m.items) (at_record c d fixes some is)

pub end_at : (c d : Cursor) (fixes : List Fix) → (length c.left ≡ 0 → ⊥) → record_at c ≡ Ok (fixes, d) → fault_of (after c).end ≡ fault_of (after d).end
end_at c d fixes some is = ap (λ (m : Many model.Record). fault_of m.end) (at_record c d fixes some is)

pub found_said : (answer : Result (Option Found) RecRefusal) (old new : Cursor) (r : RecRefusal) → IsErrAnd answer (λ e. e ≡ r) → items_after old ≡ [] → fault_of (after old).end ≡ Some (refusal r) → Finds answer old new
found_said (Ok x) old new r is items end = absurd is
found_said (Err g) old new r is items end = subst (λ (h : RecRefusal). Finds (Err h) old new) (sym is) (items, end)

pub items_end : (c : Cursor) → length c.left ≡ 0 → items_after c ≡ []
items_end c none = ap (λ (m : Many model.Record). flat_map sources_of m.items) (at_end c none)

pub end_end : (c : Cursor) → length c.left ≡ 0 → fault_of (after c).end ≡ None
end_end c none = ap (λ (m : Many model.Record). fault_of m.end) (at_end c none)

pub items_fault : (c : Cursor) (e : LxRefusal) → (length c.left ≡ 0 → ⊥) → record_at c ≡ Err e → items_after c ≡ []
items_fault c e some is = ap (λ (m : Many model.Record). flat_map sources_of m.items) (at_fault c e some is)

pub end_fault : (c : Cursor) (e : LxRefusal) → (length c.left ≡ 0 → ⊥) → record_at c ≡ Err e → fault_of (after c).end ≡ Some e
end_fault c e some is = ap (λ (m : Many model.Record). fault_of m.end) (at_fault c e some is)

pub some_left : (n k : ℕ) → k ≡ n → 0 < k → n ≡ 0 → ⊥
some_left n k count some none = omega (arith, count, some, none)

pub first_found : (old c d : Cursor) (at : ℕ) (f : Fix) (fixes others : List Fix) → items_after old ≡ items_after c → (length c.left ≡ 0 → ⊥) → record_at c ≡ Ok (fixes, d) → fixes ≡ f ∷ others → at ≡ c.at →
    items_after old ≡ (at, f) ∷ map (λ (g : Fix). (at, g)) others ++ items_after d
first_found old c d at f fixes others before some is first same =
    before ∙ items_at c d fixes some is ∙ ap (λ (gs : List Fix). map (λ (g : Fix). (c.at, g)) gs ++ items_after d) first ∙ ap (λ (n : ℕ). (n, f) ∷ map (λ (g : Fix). (n, g)) others ++ items_after d) (sym same)

pub none_found : (old c d : Cursor) (fixes : List Fix) → items_after old ≡ items_after c → (length c.left ≡ 0 → ⊥) → record_at c ≡ Ok (fixes, d) → fixes ≡ [] → items_after old ≡ items_after d
none_found old c d fixes before some is none =
    before ∙ items_at c d fixes some is ∙ ap (λ (gs : List Fix). map (λ (g : Fix). (c.at, g)) gs ++ items_after d) none

-- ---- what a reader has left

abbrev left_with : ℕ → List Placed → Option LxRefusal → Left
left_with at items end = record { at = at; items = items; end = end }

-- nothing comes
pub left_none : (at : ℕ) (current : Option Record) (c d : Cursor) → fixes_left current ≡ [] → items_after c ≡ [] → fault_of (after c).end ≡ None → length d.left ≡ 0 →
    ((left_of at current c).items ≡ []) × ((left_of at current c).end ≡ None) × (left_of at None d ≡ left_of at current c)
left_none at current c d given items end none =
    let here : sources_left at current ++ items_after c ≡ [] = ap (λ (fs : List Fix). map (λ (f : Fix). (at, f)) fs ++ items_after c) given ∙ items in
    let there = items_end d none in
    let same_items : items_after d ≡ sources_left at current ++ items_after c = there ∙ sym here in
    let same_end : fault_of (after d).end ≡ fault_of (after c).end = end_end d none ∙ sym end in
    (here, end, ap (λ (xs : List Placed). left_with at xs (fault_of (after d).end)) same_items ∙ ap (λ (e : Option LxRefusal). left_with at (sources_left at current ++ items_after c) e) same_end)

-- a refusal comes
pub left_refused : (at : ℕ) (current : Option Record) (c d : Cursor) (r : LxRefusal) → fixes_left current ≡ [] → items_after c ≡ [] → fault_of (after c).end ≡ Some r → length d.left ≡ 0 →
    ((left_of at current c).items ≡ []) × ((left_of at current c).end ≡ Some r) × (left_of at None d ≡ record { at = at; items = []; end = None })
left_refused at current c d r given items end none =
    let here : sources_left at current ++ items_after c ≡ [] = ap (λ (fs : List Fix). map (λ (f : Fix). (at, f)) fs ++ items_after c) given ∙ items in
    (here, end, ap (λ (xs : List Placed). left_with at xs (fault_of (after d).end)) (items_end d none) ∙ ap (λ (x : Option LxRefusal). left_with at [] x) (end_end d none))
