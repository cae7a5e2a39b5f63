-- A GRPDEF record is a name and members.
use Rattle.std.proofs.Common.{◌≡◌, ℕ, ◌+◌, Bool, List, [], ◌∷◌, ◌++◌, length, Ok, Err, Result, refl, sym, ap, subst, ◌∙◌}
use Rattle.std.specs.Prelude.{bytes_eq, codes}
use Rattle.lx_types.specs.declared.fail.Fail.{Fail}
use Rattle.lx_types.specs.declared.fail.Fail.TheVariants.{Said, NoMemory}
use Rattle.lx_bytes.specs.Cursor.{Cursor}
use Rattle.obj_types.specs.declared.refusal.OmfRefusal.{OmfRefusal}
use Rattle.obj_types.specs.declared.parts.ObjParts.{ObjParts}
use Rattle.obj_types.specs.declared.object.Group.{Group}
use Rattle.lx_types.specs.Answers.{◌>>=◌, if_said, Gives}
use Rattle.omf_fields.specs.Fields.{Reading, index_below, list_at}
use Rattle.omf_fields.proofs.SpanLaws.{cursor_is}
use Rattle.omf_frame.specs.declared.omf_record.Rec.{Rec}
use Rattle.omf_model.specs.Add.{add}
use Rattle.omf_model.specs.ReadAfter.{then_add, read_after, contents_at}
use Rattle.omf_model.specs.Items.{name_with, group_of}
use Rattle.omf_model.specs.Record.{grpdef}
use Rattle.omf_model.specs.ReadNames.{member_at, grpdef_at}

-- the cursor at a record's contents
pub contents-are : (rec : Rec) (c : Cursor) → c.at ≡ rec.at + 3 → c.left ≡ rec.body.now → contents_at rec.at rec.body.now ≡ c
contents-are rec c place bytes = cursor_is c (rec.at + 3) rec.body.now (sym place) (sym bytes)

abbrev pub with_groups : ObjParts → List Group → ObjParts
with_groups p xs = record p { «module» = record p.module { groups = xs } }

abbrev pub flat : ObjParts → ℕ → Bool
flat p n = bytes_eq (name_with p.names n) (codes "FLAT")

-- the members after the name
abbrev pub beyond : ObjParts → Reading ℕ → Result ObjParts OmfRefusal
beyond p name = name >>= λ n. list_at (member_at (flat p n.0) p) n.1 >>= λ members. Ok (with_groups p (p.module.groups ++ group_of (name_with p.names n.0) members ∷ []))

by_members : (p : ObjParts) (n : ℕ) (r : Result (List ℕ) OmfRefusal) → then_add p (r >>= λ members. Ok (grpdef n members)) ≡ (r >>= λ members. Ok (with_groups p (p.module.groups ++ group_of (name_with p.names n) members ∷ [])))
unfolding add
by_members p n (Ok members) = refl
by_members p n (Err e) = refl

by_name : (p : ObjParts) (r : Reading ℕ) → then_add p (r >>= λ n. list_at (member_at (flat p n.0) p) n.1 >>= λ members. Ok (grpdef n.0 members)) ≡ beyond p r
by_name p (Ok n) = by_members p n.0 (list_at (member_at (flat p n.0) p) n.1)
by_name p (Err e) = refl

pub after : (rec : Rec) → rec.ty ≡ 0x9A → (p : ObjParts) (c : Cursor) → contents_at rec.at rec.body.now ≡ c → (have : ℕ) → have ≡ length p.names → read_after p rec ≡ beyond p (index_below have c)
unfolding grpdef_at
after rec kind p c there have same =
    rw kind (by_name p (index_below (length p.names) (contents_at rec.at rec.body.now)) ∙ ap (λ (d : Cursor). beyond p (index_below (length p.names) d)) there)
    ∙ ap (λ (h : ℕ). beyond p (index_below h c)) (sym same)

pub refused : (p : ObjParts) (r : Reading ℕ) (refusal : OmfRefusal) → r ≡ Err refusal → beyond p r ≡ Err refusal
refused p r refusal e = ap (λ (q : Reading ℕ). beyond p q) e

-- a refusal is that of what goes on with what was refused
pub refused-on : {A B C D : Type 0} (v : A → B) (w : C → D) (fail : Fail OmfRefusal) (r : Result B OmfRefusal) (f : B → Result D OmfRefusal) → Gives v if_said (Err fail) r → Gives w if_said (Err fail) (r >>= f)
refused-on v w (Said refusal) r f h = rw h refl
refused-on v w NoMemory r f h = tt

-- a member that is refused
pub members-refused : {A C : Type 0} (v : A → List ℕ) (w : C → ObjParts) (fail : Fail OmfRefusal) (p : ObjParts) (r : Reading ℕ) (n : ℕ) (d : Cursor) (here : Bool)
    → r ≡ Ok (n, d) → here ≡ flat p n → Gives v if_said (Err fail) (list_at (member_at here p) d) → Gives w if_said (Err fail) (beyond p r)
members-refused v w fail p r n d here e same h =
    rw e (refused-on v w fail (list_at (member_at (flat p n) p) d) _ (let P : Bool → Type 0 = λ b. Gives v if_said (Err fail) (list_at (member_at b p) d) in subst P same h))

-- the group
pub added : (p : ObjParts) (r : Reading ℕ) (n : ℕ) (d : Cursor) (here : Bool) (members : List ℕ) (groups : List Group)
    → r ≡ Ok (n, d) → here ≡ flat p n → list_at (member_at here p) d ≡ Ok members → groups ≡ p.module.groups ++ group_of (name_with p.names n) members ∷ []
    → beyond p r ≡ Ok (with_groups p groups)
added p r n d here members groups e same read more =
    let there : list_at (member_at (flat p n) p) d ≡ Ok members = ap (λ (b : Bool). list_at (member_at b p) d) (sym same) ∙ read in
    rw (e, there) (ap (λ (xs : List Group). Ok (with_groups p xs)) (sym more))
