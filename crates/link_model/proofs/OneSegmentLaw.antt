-- The law of the smallest link, put together.
use Rattle.std.specs.Prelude.{◌≡◌, ℕ, ◌+◌, ◌≤◌, false, List, [], ◌∷◌, ◌++◌, None, map, max, length, nat_lt, refl}
use Rattle.std.proofs.Common.{ap, ◌∙◌, arith}
use Rattle.std.proofs.lemmas.Bool.{le-ltb}
use Rattle.obj_types.specs.declared.object.ObjModule.{ObjModule}
use Rattle.link_model.specs.Words.{first_of}
use Rattle.link_model.specs.declared.symbols.LaidObject.{LaidObject}
use Rattle.link_model.specs.Choosing.{Chosen}
use Rattle.link_model.specs.SymbolRefusals.{sym_refusal}
use Rattle.link_model.specs.Layout.{objects}
use Rattle.link_model.specs.LayoutRefusals.{lay_refusal}
use Rattle.link_model.specs.Fixups.{Fixup, fix_refusal}
use Rattle.link_model.specs.Refusal.{place_refusal}
use Rattle.link_model.specs.OneSegment.{one_segment, alone, only_pick, OneSegmentLaw}
use Rattle.link_model.proofs.Rules.{rules}
use Rattle.link_model.proofs.SmallestLink.{link, placed, fixups-link, Mean-link}

its_chosen : (name bytes places stem : List ℕ) (base : ℕ) → Chosen (alone (one_segment name bytes places) stem base) only_pick
its_chosen name bytes places stem base = record { begins = refl; grows = λ k from below. absurd (omega arith); ends = refl }

its_names : (name bytes places stem : List ℕ) (base : ℕ) → sym_refusal (link name bytes places stem base) ≡ None
unfolding rules
its_names name bytes places stem base = refl

its_size : (bytes : List ℕ) → max 0 (max (0 + length bytes) (0 + 0)) ≡ length bytes
its_size bytes = omega arith

its_object : (name bytes places stem : List ℕ) (base : ℕ) → objects (link name bytes places stem base) ≡ record { size = length bytes; base = base; flags = 0x2005 } ∷ []
unfolding rules
its_object name bytes places stem base =
    let made : ℕ → List LaidObject = λ n. record { size = n; base = base; flags = 0x2005 } ∷ [] in ap made (its_size bytes)

its_layout : (name bytes places stem : List ℕ) (base : ℕ) → length bytes ≤ 4096 → lay_refusal (link name bytes places stem base) ≡ None
unfolding rules
its_layout name bytes places stem base h =
    let own : nat_lt 16777216 (max (0 + length bytes) (0 + 0)) ≡ false = le-ltb _ _ (omega arith) in
    let all : nat_lt 16777216 (0 + max 0 (max (0 + length bytes) (0 + 0))) ≡ false = le-ltb _ _ (omega arith) in
    rw (own, all) refl

none_refused : (m : ObjModule) (ps : List ℕ) → first_of (map fix_refusal (map (placed m) ps) ++ None ∷ []) ≡ None
unfolding rules
none_refused m [] = refl
none_refused m (p ∷ ps) = none_refused m ps

its_fixups : (name bytes places stem : List ℕ) (base : ℕ) → place_refusal (link name bytes places stem base) ≡ None
unfolding rules
its_fixups name bytes places stem base =
    ap (λ (t : List Fixup). first_of (map fix_refusal t ++ None ∷ [])) (fixups-link name bytes places stem base) ∙ none_refused (one_segment name bytes places) places

pub one_segment_law : OneSegmentLaw
unfolding rules
one_segment_law name bytes places stem base one =
    record {
      chosen = its_chosen name bytes places stem base;
      names = its_names name bytes places stem base;
      layout = its_layout name bytes places stem base one.one_page;
      fixups = its_fixups name bytes places stem base;
      object = its_object name bytes places stem base;
      mean = λ at imp x. Mean-link name bytes places stem base at imp x one;
    }
