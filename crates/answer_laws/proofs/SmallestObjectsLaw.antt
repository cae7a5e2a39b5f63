-- What `image` says of the smallest object files.
use Rattle.std.proofs.Common.{◌≡◌, ℕ, ◌+◌, ◌≤◌, List, [], ◌∷◌, ◌++◌, map, length, inr, refl, ap, sym, subst, ◌∙◌, cond, Bool, true, false, nat_lt, nat_le, arith, append-nil}
use Rattle.std.specs.Prelude.{Result, Ok, Err, Option, None, Some, not, filter, codes, ◌&&◌, ◌==◌, ◌%◌}
use Rattle.std.specs.List.{filter_map, range_with_len}
use Rattle.std.specs.Int.{w32, from_be_bytes}
use Rattle.std.specs.Option.{option_map}
use Rattle.std.proofs.lemmas.Bool.Decides.{nat_tests}
use Rattle.lx_types.proofs.Lists.{map_agree}
use Rattle.hex.specs.Hex.{decode_sized}
use Rattle.hex.specs.declared.error.FromHexError.{FromHexError}
use Rattle.std.proofs.lemmas.List.Elements.{All-from_recursion, All-nil}
use Rattle.lx_ports.specs.Calls.{load}
use Rattle.obj_types.specs.declared.object.ObjModule.{ObjModule}
use Rattle.link_model.specs.declared.refusals.LinkRefusal.TheVariants.{Sym, Comdat, Lay, Fixing, Entry}
use Rattle.link_model.specs.declared.symbols.LaidObject.{LaidObject}
use Rattle.link_model.specs.KeptLaws.{HasNoComdats}
use Rattle.link_model.specs.Link.{Link, link_of}
use Rattle.link_model.specs.Words.{first_of}
use Rattle.link_model.specs.Layout.{objects}
use Rattle.link_model.specs.LayoutRefusals.{lay_refusal}
use Rattle.link_model.specs.SymbolRefusals.{sym_refusal}
use Rattle.link_model.specs.Refusal.{link_refusal, place_refusal}
use Rattle.link_model.specs.Exports.{entry_refusal}
use Rattle.link_model.specs.ImportTables.{pair_used, link_pairs}
use Rattle.link_model.specs.Mean.{Mean, live, live_fixups}
use Rattle.link_model.specs.OneSegment.{IsOneSegment, alone, one_segment, one_segment_mean, only_pick}
use Rattle.link_model.specs.Patches.{linked_world, is_patched}
use Rattle.link_model.proofs.Rules.{rules}
use Rattle.link_model.proofs.SmallestLink.{placed, fixups-link, all_live, in_page}
use Rattle.link_model.proofs.OneSegmentLaw.{one_segment_law}
use Rattle.gen_laws.proofs.OneLink.{plain_link}
use Rattle.answer_model.specs.Answer.{loaded}
use Rattle.answer_model.specs.ImageAnswer.{NAME, arena_full, image_outcome, image_refusal, memory_text, no_module, object_text}
use Rattle.answer_model.specs.ImageText.{image_text}
use Rattle.answer_model.specs.Loading.{file_limit}
use Rattle.answer_model.specs.Outcome.{shown}
use Rattle.answer_model.specs.Items.{object}
use Rattle.answer_model.specs.Says.{SaysCommand}
use Rattle.answer_model.specs.Words.{base_of, base_of_bytes, command_of, image}
use Rattle.answer_laws.specs.SmallestObjects.{ShowsSmallestObjects, shown_segment}

-- ---- the base

in_arena : (n base : ℕ) (b : Bool) → (n % 65536 == 0 && nat_le 0x00010000 n && nat_le n 0x1FFF0000) ≡ b → cond b (Some n) None ≡ Some base → base ≤ 0x1FFF0000
in_arena n base true is h = let same : n ≡ base = cc in rw (sym same) (grind (arith, nat_tests, is))
in_arena n base false is h = absurd cc

base_bytes : (r : Result (List ℕ) FromHexError) (base : ℕ) → base_of_bytes r ≡ Some base → base ≤ 0x1FFF0000
base_bytes (Ok bytes) base h = in_arena (from_be_bytes w32 bytes) base _ refl h
base_bytes (Err e) base h = absurd cc

base_below : (word : List ℕ) (base : ℕ) → base_of word ≡ Some base → base ≤ 0x1FFF0000
base_below word base h = base_bytes (decode_sized word 4) base h

-- ---- imports

none_used : (l : Link) (m : ObjModule) (ps : List ℕ) → filter_map (λ q. pair_used l q.target) (filter (λ q. not (is_patched q)) (map (placed m) ps)) ≡ []
none_used l m [] = refl
none_used l m (p ∷ ps) = none_used l m ps

abbrev pub small : List ℕ → List ℕ → List ℕ → ℕ → Link
small name bytes places base = link_of (alone (one_segment name bytes places) NAME base) only_pick

no_imports : (name bytes places : List ℕ) (base : ℕ) → IsOneSegment bytes places → link_pairs (small name bytes places base) ≡ []
unfolding rules
no_imports name bytes places base one =
    let m = one_segment name bytes places in
    let alive : live_fixups (small name bytes places base) ≡ map (placed m) places =
    ap live (fixups-link name bytes places NAME base) ∙ all_live m places (in_page bytes places one.one_page one.within) one.apart in
    ap (λ fs. filter_map (λ q. pair_used (small name bytes places base) q.target) (filter (λ q. not (is_patched q)) fs) ++ []) alive
    ∙ (append-nil _ ∙ none_used (small name bytes places base) m places)

-- ---- no refusal

no_entry_refusal : (name bytes places : List ℕ) (base : ℕ) → entry_refusal (small name bytes places base) ≡ None
unfolding rules
no_entry_refusal name bytes places base = refl

-- The refusals of a link, one after the other.
pub record Unrefused (l : Link) (o : LaidObject) : Type 0 where
  pub names : sym_refusal l ≡ None
  pub comdats : l.clash ≡ None
  pub layout : lay_refusal l ≡ None
  pub fixups : place_refusal l ≡ None
  pub exports : entry_refusal l ≡ None
  pub pairs : link_pairs l ≡ []
  pub object : objects l ≡ o ∷ []
  pub within : o.base + o.size ≤ 0x20000000

not_refused : (l : Link) (o : LaidObject) → Unrefused l o → link_refusal l ≡ None
unfolding link_refusal
not_refused l o h = λ i.
    first_of
    (option_map Sym (h.names i) ∷ option_map Comdat (h.comdats i) ∷ option_map Lay (h.layout i)
    ∷ option_map Fixing (h.fixups i) ∷ option_map Entry (h.exports i) ∷ [])

no_module_refusal : (l : Link) (o : LaidObject) → Unrefused l o → no_module l ≡ None
no_module_refusal l o h = rw h.pairs refl

not_past : (o : LaidObject) → o.base + o.size ≤ 0x20000000 → nat_lt 0x20000000 (o.base + o.size) ≡ false
not_past o h = grind (arith, nat_tests)

no_arena_refusal : (l : Link) (o : LaidObject) → Unrefused l o → arena_full l ≡ None
no_arena_refusal l o h = rw h.object (rw (not_past o h.within) refl)

no_refusal : (l : Link) (o : LaidObject) → Unrefused l o → image_refusal l ≡ None
no_refusal l o h = rw (not_refused l o h, no_module_refusal l o h, no_arena_refusal l o h) refl

-- ---- the text

text_is : (l : Link) (o : LaidObject) (f : ℕ → ℕ) → objects l ≡ o ∷ [] → ((x : ℕ) → Mean l (linked_world l) 1 x ≡ f x)
    → memory_text l ≡ image_text o.base (map f (range_with_len 0 o.size))
text_is l o f is means =
    rw is (append-nil (object_text l (1, o)) ∙ ap (image_text o.base) (map_agree (Mean l (linked_world l) 1) f means (range_with_len 0 o.size)))

outcome_is : (l : Link) (o : LaidObject) (f : ℕ → ℕ) → Unrefused l o → ((x : ℕ) → Mean l (linked_world l) 1 x ≡ f x)
    → image_outcome l ≡ shown (image_text o.base (map f (range_with_len 0 o.size)))
outcome_is l o f h means = rw (no_refusal l o h) (ap shown (text_is l o f h.object means))

-- ---- the smallest link

unrefused : (name bytes places : List ℕ) (base : ℕ) → base ≤ 0x1FFF0000 → (one : IsOneSegment bytes places)
    → Unrefused (small name bytes places base) (record { size = length bytes; base = base; flags = 0x2005 })
unrefused name bytes places base low one =
    let h = one_segment_law name bytes places NAME base one in
    let page = one.one_page in
    record {
      names = h.names;
      comdats = refl;
      layout = h.layout;
      fixups = h.fixups;
      exports = no_entry_refusal name bytes places base;
      pairs = no_imports name bytes places base one;
      object = h.object;
      within = omega (arith, page, low);
    }

means : (name bytes places : List ℕ) (base : ℕ) → IsOneSegment bytes places → (x : ℕ)
    → Mean (small name bytes places base) (linked_world (small name bytes places base)) 1 x ≡ one_segment_mean base bytes places x
means name bytes places base one x =
    let l = small name bytes places base in
    let h = one_segment_law name bytes places NAME base one in
    ap (λ (os : List LaidObject). Mean l (record { bases = map (λ (o : LaidObject). o.base) os; imp = λ from entry. record { address = 0; flags = 0 } }) 1 x) h.object
    ∙ h.mean base (λ from entry. record { address = 0; flags = 0 }) x

outcome : (name bytes places : List ℕ) (base : ℕ) → base ≤ 0x1FFF0000 → IsOneSegment bytes places
    → image_outcome (small name bytes places base) ≡ record { said = shown_segment base bytes places; saved = None }
outcome name bytes places base low one =
    outcome_is (small name bytes places base) (record { size = length bytes; base = base; flags = 0x2005 }) (one_segment_mean base bytes places) (unrefused name bytes places base low one)
    (means name bytes places base one)

-- ---- the command

has_no_comdats : (name bytes places : List ℕ) (base : ℕ) → HasNoComdats (alone (one_segment name bytes places) NAME base)
has_no_comdats name bytes places base = record {
  objects = All-from_recursion (λ (m : ObjModule). m.comdats ≡ []) (one_segment name bytes places ∷ []) (refl, tt);
  libs = All-nil (λ (m : ObjModule). m.comdats ≡ []);
}

short_load : (bytes : List ℕ) (has : Option (List ℕ)) → has ≡ Some bytes → length bytes ≤ file_limit → Ok bytes ≡ loaded has
short_load bytes has is short =
    let fits : nat_le (length bytes) file_limit ≡ true = grind (arith, nat_tests, short) in
    rw is (rw fits refl)

command_is : (file word : List ℕ) (base : ℕ) → base_of word ≡ Some base → command_of (codes "image" ∷ file ∷ word ∷ []) ≡ Some (image file base)
command_is file word base is = rw is refl

pub smallest_objects : ShowsSmallestObjects
smallest_objects contents file word bytes_of name bytes places base is_base has short obj one =
    let m = one_segment name bytes places in
    let h = one_segment_law name bytes places NAME base one in
    let load_is = short_load bytes_of (contents file) has short in
    record {
      calls = load file (Ok bytes_of) ∷ [];
      sound = (load_is, tt);
      says = subst (λ command. SaysCommand command (load file (Ok bytes_of) ∷ []) (shown_segment base bytes places)) (sym (command_is file word base is_base)) (inr (record {
        loads = load file (Ok bytes_of) ∷ [];
        items = object m ∷ [];
        read = ((refl, (short, obj)), tt);
        outcome = record { said = shown_segment base bytes places; saved = None };
        comes_to = record {
          link = small name bytes places base;
          of_input = plain_link (alone m NAME base) only_pick (has_no_comdats name bytes places base) h.chosen;
          comes_to = sym (outcome name bytes places base (base_below word base is_base) one);
        };
        saves = [];
        finished = (refl, refl);
        calls_are = refl;
      }));
      saves_are = refl;
    }
