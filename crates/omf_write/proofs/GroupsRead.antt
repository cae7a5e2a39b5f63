-- Written groups are read as what they were.
use Rattle.std.proofs.Common.{◌≡◌, ℕ, ◌<◌, ◌≤◌, Bool, true, false, cond, List, [], ◌∷◌, ◌++◌, length, refl, sym, ap, ◌∙◌, arith}
use Rattle.std.proofs.lemmas.Slice.Eq.{bytes_eq-Decides}
use Rattle.std.specs.Prelude.{bytes_eq, codes}
use Rattle.std.specs.List.{AllByRecursion, flat_map}
use Rattle.obj_types.specs.declared.object.Seg.{Seg}
use Rattle.obj_types.specs.declared.object.Group.{Group}
use Rattle.obj_types.specs.declared.object.ObjModule.{ObjModule}
use Rattle.obj_types.specs.Whole.{IsPlainSeg}
use Rattle.omf_fields.specs.Forms.{byte, index, each}
use Rattle.omf_model.specs.Record.{grpdef}
use Rattle.omf_model.specs.Items.{group_of}
use Rattle.omf_model.specs.Add.{add}
use Rattle.omf_model.specs.Spelling.{contents_form, member_form}
use Rattle.omf_model.specs.Good.{GoodMember}
use Rattle.omf_write.specs.ObjectNames.{NameList, texts, name_index}
use Rattle.omf_write.specs.ObjectBytes.{index_bytes, member_bytes, grpdef_bytes, grpdef_record}
use Rattle.omf_write.proofs.FieldBytes.{spells_as, index_spelled}
use Rattle.omf_write.proofs.Goes.{Goes, one, items}
use Rattle.omf_write.proofs.ImportRead.{both}
use Rattle.omf_write.proofs.Listed.{each_spelled, index_there}
use Rattle.omf_write.proofs.NamesRead.{HasName}
use Rattle.omf_write.proofs.SegmentsRead.{parts}

-- what is known of a group that is written
pub record ReadyGroup (names : NameList) (m : ObjModule) (g : Group) : Type 0 where
  pub members : AllByRecursion (IsPlainSeg m) g.members
  pub flat : g.name ≡ codes "FLAT" → g.members ≡ []
  pub short : length (grpdef_bytes names g) < 65535
  pub name : HasName names g.name

abbrev pub with_groups : ObjModule → List Group → ObjModule
with_groups m groups = record m { groups = groups }

member_spelled : (m : ObjModule) → length m.segs ≤ 32767 → (i : ℕ) → IsPlainSeg m i → member_form i (member_bytes i)
member_spelled m few i plain =
    let there = index_there (λ (s : Seg). s.debug ≡ false) m.segs i plain in
    let most = there.1 in
    both (byte 255) (index i) (255 ∷ []) (index_bytes i) (omega arith, refl) (index_spelled i (omega (arith, most, few)))

group_spelled : (names : NameList) (m : ObjModule) (g : Group) → length names ≤ 32767 → length m.segs ≤ 32767 → ReadyGroup names m g → contents_form false (grpdef (name_index names g.name) g.members) (grpdef_bytes names g)
group_spelled names m g few few_segs ready =
    let most = ready.name.most in
    both (index (name_index names g.name)) (each member_form g.members) (index_bytes (name_index names g.name)) (flat_map member_bytes g.members)
    (index_spelled (name_index names g.name) (omega (arith, most, few)))
    (each_spelled member_form member_bytes (IsPlainSeg m) (member_spelled m few_segs) g.members ready.members)

flat_by : (b : Bool) (members : List ℕ) → (b ≡ true → members ≡ []) → cond b [] members ≡ members
flat_by true members none = sym (none refl)
flat_by false members none = refl

group_meant : (names : NameList) (m : ObjModule) (g : Group) (text : List ℕ) → text ≡ g.name → ReadyGroup names m g → group_of text g.members ≡ g
group_meant names m g text is ready =
    ap (λ (t : List ℕ). group_of t g.members) is
    ∙ (λ i. record { name = g.name; members = flat_by (bytes_eq g.name (codes "FLAT")) g.members (λ e. ready.flat ((bytes_eq-Decides g.name (codes "FLAT")).0 e)) i })

good_members : (names : NameList) (m : ObjModule) (before : List Group) (n : ℕ) (members : List ℕ) → AllByRecursion (IsPlainSeg m) members → AllByRecursion (GoodMember (parts (texts names) (with_groups m before)) n) members
good_members names m before n [] all = tt
good_members names m before n (i ∷ rest) all =
    ((index_there (λ (s : Seg). s.debug ≡ false) m.segs i all.0, λ e. all.0), good_members names m before n rest all.1)

group_step : (names : NameList) (m : ObjModule) → length names ≤ 32767 → length m.segs ≤ 32767 → (before : List Group) (g : Group) → ReadyGroup names m g → Goes (parts (texts names) (with_groups m before)) (grpdef_record names g) (parts (texts names) (with_groups m (before ++ g ∷ [])))
unfolding add
group_step names m few few_segs before g ready =
    let n : ℕ = name_index names g.name in
    one (parts (texts names) (with_groups m before)) (parts (texts names) (with_groups m (before ++ g ∷ []))) (grpdef n g.members) (grpdef_record names g)
    ((ready.name.low, ready.name.high), good_members names m before n g.members ready.members) refl
    (spells_as (grpdef n g.members) 0x9A false (grpdef_bytes names g) (0, omega arith, refl) ready.short refl (group_spelled names m g few few_segs ready))
    (ap (λ (x : Group). parts (texts names) (with_groups m (before ++ x ∷ []))) (group_meant names m g _ ready.name.is ready))

pub groups_go : (names : NameList) (m : ObjModule) → length names ≤ 32767 → length m.segs ≤ 32767 → (groups : List Group) → AllByRecursion (ReadyGroup names m) groups → Goes (parts (texts names) (with_groups m [])) (flat_map (grpdef_record names) groups) (parts (texts names) (with_groups m groups))
groups_go names m few few_segs groups all = items (λ gs. parts (texts names) (with_groups m gs)) (grpdef_record names) (ReadyGroup names m) (group_step names m few few_segs) [] groups all
