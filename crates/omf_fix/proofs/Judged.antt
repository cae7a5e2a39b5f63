-- A fixup judged for its place, by what its location and its fixes are.
use Rattle.std.proofs.Common.{◌≡◌, ℕ, ◌+◌, ◌≤◌, ◌<◌, Bool, true, false, leb, List, [], ◌∷◌, ◌++◌, length, Option, Some, None, Ok, Err, refl, sym, ap, subst, ◌∙◌, arith, inl, inr}
use Rattle.std.specs.Prelude.{not, IsSomeAnd}
use Rattle.std.specs.List.{list_any}
use Rattle.std.proofs.lemmas.Bool.{le-leb, lt-leb}
use Rattle.std.proofs.Math.Bool.{or-false}
use Rattle.obj_types.specs.declared.limits.TheConstants.{MAX_FIXES}
use Rattle.obj_types.specs.declared.refusal.OmfRefusal.TheVariants.{NoData, FixOverlap, TooMany}
use Rattle.obj_types.specs.declared.object.FixAt.{FixAt}
use Rattle.obj_types.specs.declared.parts.LastData.{LastData}
use Rattle.obj_types.specs.declared.parts.LastData.TheVariants as datas
use Rattle.obj_types.specs.declared.parts.ObjParts.{ObjParts}
use Rattle.obj_types.specs.declared.object.Seg.{Seg}
use Rattle.obj_types.specs.Items.{item}
use Rattle.omf_model.specs.Begun.{LiesAt, LastFits, IsWholeSoFar}
use Rattle.obj_types.specs.Location.{location_len, meets}
use Rattle.omf_model.specs.AddLists.{HasFour}
use Rattle.omf_model.specs.Record.{FixData, fixup, location_of, offset_of}
use Rattle.omf_model.specs.Fixups.{set_threads, has_data, fixes_by, are_apart}
use Rattle.omf_model.specs.ReadFixups.{judge_fixup}
use Rattle.omf_model.specs.Add.{add_field}
use Rattle.omf_model.proofs.PartsLaws.{no_threads}
use Rattle.omf_fix.specs.declared.place.FixPlace.{FixPlace}
use Rattle.omf_fix.specs.FixData.{meant}
use Rattle.omf_fix.specs.Placed.{LiesUpTo, placed, fix_of}

abbrev pub OnData : ObjParts → FixPlace → Bool
OnData p place = has_data p.last (offset_of place.high place.low) (location_len (location_of place.high))

abbrev pub News : ObjParts → FixPlace → FixData → List FixAt
News p place d = fixes_by p.last p.threads (fixup place.high place.low d)

pub no-data : (p : ObjParts) (place : FixPlace) (d : FixData) → OnData p place ≡ false → placed p place d ≡ Err (NoData place.at)
unfolding judge_fixup
no-data p place d e = rw e refl

pub overlap : (p : ObjParts) (place : FixPlace) (d : FixData) (news : List FixAt) → OnData p place ≡ true → News p place d ≡ news → are_apart p.module.fixes news ≡ false → placed p place d ≡ Err (FixOverlap place.at)
unfolding judge_fixup
overlap p place d news on is meet = rw (on, is, meet) refl

pub too-many : (p : ObjParts) (place : FixPlace) (d : FixData) (news : List FixAt) → OnData p place ≡ true → News p place d ≡ news → are_apart p.module.fixes news ≡ true → MAX_FIXES < length p.module.fixes + length news → placed p place d ≡ Err (TooMany place.of_record)
unfolding judge_fixup
too-many p place d news on is apart many = rw (on, is, apart, lt-leb _ _ many) refl

-- what a good one adds
fixes-added : (p : ObjParts) (place : FixPlace) (d : FixData) (news : List FixAt) → HasFour p.threads → News p place d ≡ news
    → add_field p (fixup place.high place.low d) ≡ record p { «module» = record p.module { fixes = p.module.fixes ++ news } }
unfolding add_field
fixes-added p place d news four is = λ i. record p { «module» = record p.module { fixes = p.module.fixes ++ is i }; threads = kept i }
  where
    kept : set_threads p.threads (fixup place.high place.low d ∷ []) ≡ p.threads
    kept = unfold set_threads in no_threads p.threads four

pub good : (p : ObjParts) (place : FixPlace) (d : FixData) (news fixes : List FixAt) → HasFour p.threads → OnData p place ≡ true → News p place d ≡ news → are_apart p.module.fixes news ≡ true → length p.module.fixes + length news ≤ MAX_FIXES → fixes ≡ p.module.fixes ++ news
    → placed p place d ≡ Ok (record p { «module» = record p.module { fixes = fixes } })
good p place d news fixes four on is apart few more =
    judged ∙ ap (λ (q : ObjParts). Ok q) (fixes-added p place d news four is ∙ ap (λ (fs : List FixAt). record p { «module» = record p.module { fixes = fs } }) (sym more))
  where
    judged : placed p place d ≡ Ok (add_field p (fixup place.high place.low d))
    judged = unfold judge_fixup in rw (on, is, apart, le-leb _ _ few) refl

-- ---- on LEDATA

pub straight-news : (p : ObjParts) (place : FixPlace) (d : FixData) (seg start len : ℕ) → p.last ≡ datas.Straight seg start len
    → News p place d ≡ fix_of seg (start + offset_of place.high place.low) place.high (meant p.threads d) ∷ []
straight-news p place d seg start len e = ap (λ (last : LastData). fixes_by last p.threads (fixup place.high place.low d)) e ∙ one
  where
    one : fixes_by (datas.Straight seg start len) p.threads (fixup place.high place.low d) ≡ fix_of seg (start + offset_of place.high place.low) place.high (meant p.threads d) ∷ []
    one = unfold fixes_by in refl

pub straight-on : (p : ObjParts) (place : FixPlace) (seg start len : ℕ) (b : Bool) → p.last ≡ datas.Straight seg start len → leb (offset_of place.high place.low + location_len (location_of place.high)) len ≡ b → OnData p place ≡ b
straight-on p place seg start len b e fits = ap (λ (last : LastData). has_data last (offset_of place.high place.low) (location_len (location_of place.high))) e ∙ fits

pub apart-one : (fixes : List FixAt) (g : FixAt) (b : Bool) → b ≡ list_any (λ f. meets f g) fixes → are_apart fixes (g ∷ []) ≡ not b
apart-one fixes g b e = ap not (or-false (list_any (λ f. meets f g) fixes) ∙ sym e)

-- the data lies in its segment
up-to : (start len offset : ℕ) (o : Option Seg) → offset ≤ len → IsSomeAnd o (λ (s : Seg). (s.debug ≡ false) × (start + len ≤ s.len)) → IsSomeAnd o (λ (s : Seg). start + offset ≤ s.len)
up-to start len offset None low h = absurd h
up-to start len offset (Some s) low h = omega (arith, h.1, low)

pub straight-lies : (p : ObjParts) (seg start len offset : ℕ) → IsWholeSoFar p → p.last ≡ datas.Straight seg start len → offset ≤ len → LiesUpTo p.module.segs seg (start + offset)
straight-lies p seg start len offset whole e low =
    let fits : LiesAt p seg start len = subst (LastFits p) e whole.last in
    elim fits [
      | inl lies ↦ inl (lies.0, up-to start len offset (item p.module.segs seg) low lies.1)
      | inr lies ↦ inr (lies.comdat.0, omega (arith, lies.limit, low))
    ]
