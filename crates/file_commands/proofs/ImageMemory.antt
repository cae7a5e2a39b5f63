-- From a link's objects in memory to their text, and from its refusal to the text of that.
use Rattle.std.proofs.Common.{◌≡◌, ℕ, zero, suc, ◌+◌, ◌≤◌, Bool, true, false, List, [], ◌∷◌, ◌++◌, length, map, Option, Some, None, Result, Ok, Err, ◌∙◌, ap, sym, subst, refl, arith, codes, nat_lt, find}
use Rattle.std.specs.Prelude.{if◌then◌else◌, ◌==◌, IfOk}
use Rattle.std.specs.List.{All, AllByRecursion, flat_map, enumerate_from}
use Rattle.std.specs.Option.{option_map}
use Rattle.std.proofs.lemmas.List.Folds.{flat_map-map}
use Rattle.std.proofs.lemmas.List.FromFn.{length-map-range_with_len}
use Rattle.lx_types.specs.declared.limits.TheConstants.{SHARED_END}
use Rattle.lx_types.proofs.Options.{mapped_none}
use Rattle.lx_types.specs.Answers.{Answers}
use Rattle.lx_types.specs.declared.fail.Fail.{Fail}
use Rattle.lx_types.specs.declared.fail.Fail.TheVariants as fail
use Rattle.lx_types.specs.declared.fail.NoMemory.{NoMemory}
use Rattle.obj_types.specs.declared.input.LinkInput.{LinkInput}
use Rattle.obj_types.specs.declared.object.ObjModule.{ObjModule}
use Rattle.link_model.specs.declared.refusals.LinkRefusal.{LinkRefusal}
use Rattle.link_model.specs.declared.symbols.LaidObject.{LaidObject}
use Rattle.link_model.specs.Words.{first_of}
use Rattle.link_model.specs.Link.{Link}
use Rattle.link_model.specs.Layout.{objects}
use Rattle.link_model.specs.Mean.{Mean}
use Rattle.link_model.specs.OneSegment.{alone}
use Rattle.link_model.specs.Patches.{linked_world}
use Rattle.link_model.specs.Refusal.{link_refusal}
use Rattle.image_model.specs.Linked.{link_modules}
use Rattle.image_pages.specs.declared.refusals.ImageRefusal.{ImageRefusal}
use Rattle.image_pages.specs.declared.refusals.ImageRefusal.TheVariants as image
use Rattle.image_pages.specs.Memory as memory
use Rattle.answer_model.specs.FileRefusals.{field}
use Rattle.answer_model.specs.declared.said.Said.{Said}
use Rattle.answer_model.specs.FileLine.{file_line}
use Rattle.answer_model.specs.ImageAnswer.{NAME, ShowsObject, image_refusal, memory_of, memory_text}
use Rattle.answer_model.specs.LinkAnswer.{link_text}
use Rattle.answer_model.specs.Outcome.{refused_or, says_only, shown}
use Rattle.mod_graph.proofs.Gathered.{never_some}
use Rattle.file_commands.specs.declared.told.Told.{Told}
use Rattle.file_commands.specs.Refusals.{RefusesImageAs, image_text_of, said_in}
use Rattle.file_commands.specs.Rows.{FitsBase, Row, row_text}

-- ---- every byte has an address

abbrev Numbered : Type 0
Numbered = ℕ × LaidObject

abbrev past_end : Numbered → Bool
past_end q = nat_lt SHARED_END (q.1.base + q.1.size)

abbrev row_of : Link → Numbered → Row
row_of l q = (q.1, memory_of l q.0 q.1)

row_fits : (l : Link) (q : Numbered) → nat_lt SHARED_END (q.1.base + q.1.size) ≡ false → FitsBase (row_of l q)
row_fits l q within =
    let size : length (memory_of l q.0 q.1) ≡ q.1.size = length-map-range_with_len (Mean l (linked_world l) q.0) 0 q.1.size in
    let low : q.1.base + q.1.size ≤ SHARED_END = grind (arith, within) in
    omega (arith, size, low)

rows_fit_by : (l : Link) (q : Numbered) (qs : List Numbered) (b : Bool) → past_end q ≡ b → (if b then Some q else find past_end qs) ≡ None
    → (find past_end qs ≡ None → AllByRecursion FitsBase (map (row_of l) qs)) → AllByRecursion FitsBase (map (row_of l) (q ∷ qs))
rows_fit_by l q qs true at some rest = absurd (never_some q some)
rows_fit_by l q qs false at none rest = (row_fits l q at, rest none)

rows_fit : (l : Link) (qs : List Numbered) → find past_end qs ≡ None → AllByRecursion FitsBase (map (row_of l) qs)
rows_fit l [] none = tt
rows_fit l (q ∷ qs) none = rows_fit_by l q qs (past_end q) refl none (rows_fit l qs)

all_of : {X : Type 0} (P : X → Type 0) (xs : List X) → AllByRecursion P xs → All P xs
all_of P [] are k d within = absurd (omega (arith, within))
all_of P (x ∷ xs) are zero d within = are.0
all_of P (x ∷ xs) are (suc k) d within = all_of P xs are.1 k d (omega (arith, within))

-- ---- no refusal is none of each

first_none : {X : Type 0} (x : Option X) (xs : List (Option X)) → first_of (x ∷ xs) ≡ None → (x ≡ None) × (first_of xs ≡ None)
first_none None xs none = (refl, none)
first_none (Some x) xs none = absurd (never_some x none)

full_none : (l : Link) → memory.image_refusal l ≡ None → find past_end (enumerate_from 1 (objects l)) ≡ None
full_none l none =
    let linked = first_none (option_map image.Link (link_refusal l)) (memory.no_module l ∷ memory.arena_full l ∷ []) none in
    let alone_is = first_none (memory.no_module l) (memory.arena_full l ∷ []) linked.1 in
    mapped_none (λ (q : Numbered). image.ArenaFull q.0 q.1.size) (find past_end (enumerate_from 1 (objects l))) (first_none (memory.arena_full l) [] alone_is.1).0

pub memory_fits : (l : Link) (rows : List Row) → memory.image_refusal l ≡ None → rows ≡ memory.memory l → All FitsBase rows
memory_fits l rows none are =
    let P : List Row → Type 0 = λ rs. All FitsBase rs in
    subst P (sym are) (all_of FitsBase _ (rows_fit l (enumerate_from 1 (objects l)) (full_none l none)))

-- ---- texts

refusal_by : (a : Option LinkRefusal) (b : Bool) (c : Option Numbered)
    → option_map image_text_of (first_of (option_map image.Link a ∷ (if b then None else Some image.NoModule) ∷ option_map (λ q. image.ArenaFull q.0 q.1.size) c ∷ []))
    ≡ first_of (option_map link_text a ∷ (if b then None else Some (codes "NoModule")) ∷ option_map (λ q. codes "ArenaFull" ++ (field q.0 ++ field q.1.size)) c ∷ [])
refusal_by (Some r) b c = refl
refusal_by None false c = refl
refusal_by None true (Some q) = refl
refusal_by None true None = refl

refusals_agree : (l : Link) → option_map image_text_of (memory.image_refusal l) ≡ image_refusal l
refusals_agree l = refusal_by (link_refusal l) (length (link_modules l) == 0) (find past_end (enumerate_from 1 (objects l)))

pub memory_shows : (base : ℕ) (m : ObjModule) (text : List ℕ) (rows : List Row) → memory.IsMemory (alone m NAME base) rows → text ≡ flat_map row_text rows
    → ShowsObject base m (says_only (record { status = 0; text = text }))
memory_shows base m text rows is text_is =
    let l = is.link in
    let none : image_refusal l ≡ None = sym (refusals_agree l) ∙ ap (λ o. option_map image_text_of o) is.accepted in
    let shown_is : text ≡ memory_text l = text_is ∙ ap (λ rs. flat_map row_text rs) is.rows ∙ flat_map-map row_text (row_of l) (enumerate_from 1 (objects l)) in
    record {
      link = l;
      of_input = is.of_input;
      comes_to = ap (λ t. shown t) shown_is ∙ sym (ap (λ o. refused_or NAME o (shown (memory_text l))) none);
    }

pub refusal_shows : (base : ℕ) (m : ObjModule) (said : Said) (refusal : ImageRefusal) → memory.RefusesMemory (alone m NAME base) refusal
    → said ≡ record { status = 1; text = file_line NAME (image_text_of refusal) } → ShowsObject base m (says_only said)
refusal_shows base m said refusal is said_is =
    let l = is.link in
    let some : image_refusal l ≡ Some (image_text_of refusal) = sym (refusals_agree l) ∙ ap (λ o. option_map image_text_of o) is.refused in
    record {
      link = l;
      of_input = is.of_input;
      comes_to = ap (λ s. says_only s) said_is ∙ sym (ap (λ o. refused_or NAME o (shown (memory_text l))) some);
    }

pub image_refused : {A : Type 0} (P : A → Type 0) (base : ℕ) (m : ObjModule) (input : LinkInput) (why : Fail ImageRefusal) (r : Result Told NoMemory) → input ≡ alone m NAME base
    → Answers {A = A} (Err why) P (λ refusal. memory.RefusesMemory input refusal) → RefusesImageAs NAME why (said_in r) → IfOk r (λ told. ShowsObject base m (says_only told.said))
image_refused P base m input (fail.Said refusal) (Ok told) is by same = refusal_shows base m told.said refusal (subst (λ (i : LinkInput). memory.RefusesMemory i refusal) is by) same
image_refused P base m input fail.NoMemory (Ok told) is by same = absurd same
image_refused P base m input why (Err none) is by same = tt
