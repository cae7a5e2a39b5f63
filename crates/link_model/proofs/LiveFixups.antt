-- Live fixups share no byte, and patches need no base.
use Rattle.std.specs.Prelude.{◌≡◌, ℕ, ◌+◌, Bool, true, false, cond, ◌||◌, List, [], ◌∷◌, Option, Some, None, is_some, unwrap_or, refl}
use Rattle.std.specs.List.{list_any, AllPairs, AllByRecursion}
use Rattle.std.proofs.Common.{ap, sym, ◌∙◌, arith, true≢false, subst}
use Rattle.std.proofs.lemmas.List.Elements.{All-from_recursion}
use Rattle.std.proofs.lemmas.List.Kept.{AllPairs-cons}
use Rattle.std.proofs.lemmas.Bool.{eqb-true, or_parts}
use Rattle.lx_bytes.specs.LittleEndian.{little_bytes}
use Rattle.obj_types.specs.Items.{item}
use Rattle.obj_types.specs.Location.{location_len}
use Rattle.obj_types.specs.declared.object.Frame.{Frame}
use Rattle.obj_types.specs.declared.object.Goal.{Goal}
use Rattle.link_model.specs.Words.{wrapped, difference}
use Rattle.link_model.specs.Goals.{Target, Internal, Constant, Entry}
use Rattle.link_model.specs.Link.{Link}
use Rattle.link_model.specs.Fixups.{Fixup, fix_refusal}
use Rattle.link_model.specs.Value.{World, place_address, relative_to_self, value_bytes, Value}
use Rattle.link_model.specs.Mean.{overlap, live}
use Rattle.link_model.specs.Patches.{is_patched}
use Rattle.link_model.specs.Fixing.{LiveApart, PatchesStand}
use Rattle.link_model.proofs.Rules.{rules}

-- ---- live fixups

none_by : (test : Fixup → Bool) (q : Fixup) (qs rest : List Fixup) (b : Bool) → test q ≡ false → list_any test rest ≡ false → list_any test (cond b rest (q ∷ rest)) ≡ false
none_by test q qs rest true here later = later
none_by test q qs rest false here later = ap (λ (c : Bool). c || list_any test rest) here ∙ later

-- What no fixup passes, no live one does.
none_live : (test : Fixup → Bool) (qs : List Fixup) → list_any test qs ≡ false → list_any test (live qs) ≡ false
none_live test [] e = refl
none_live test (q ∷ qs) e =
    none_by test q qs (live qs) (list_any (overlap q) qs) (or_parts (test q) (list_any test qs) e).0 (none_live test qs (or_parts (test q) (list_any test qs) e).1)

each_fails : (test : Fixup → Bool) (qs : List Fixup) → list_any test qs ≡ false → AllByRecursion (λ q. test q ≡ false) qs
each_fails test [] e = tt
each_fails test (q ∷ qs) e = ((or_parts (test q) (list_any test qs) e).0, each_fails test qs (or_parts (test q) (list_any test qs) e).1)

live_by : (q : Fixup) (qs : List Fixup) (b : Bool) → list_any (overlap q) qs ≡ b → AllPairs (λ a b. overlap a b ≡ false) (live qs) → AllPairs (λ a b. overlap a b ≡ false) (cond b (live qs) (q ∷ live qs))
live_by q qs true e rest = rest
live_by q qs false e rest =
    AllPairs-cons (λ a b. overlap a b ≡ false) q (live qs) (All-from_recursion (λ b. overlap q b ≡ false) (live qs) (each_fails (overlap q) (live qs) (none_live (overlap q) qs e))) rest

pub live_apart : LiveApart
live_apart [] = λ i j d lt below. absurd (omega arith)
live_apart (q ∷ qs) = live_by q qs (list_any (overlap q) qs) refl (live_apart qs)

-- ---- patches

-- A base that both addresses have cancels.
cancels : (b x d s y n : ℕ) → difference (wrapped (wrapped (wrapped (b + x) + d) + s)) (wrapped (b + y) + n) ≡ difference (x + d + s) (y + n)
cancels b x d s y n = omega arith

abbrev made : ℕ → ℕ → ℕ → ℕ → Bool → Frame → Goal → ℕ → ℕ → ℕ → Bool → Target → Option ℕ → ℕ → Fixup
made by seg place loc selfrel f goal disp object offset narrow target frame standing =
    record {
      by = by;
      fix = record { seg = seg; offset = place; loc = loc; selfrel = selfrel; frame = f; goal = goal; disp = disp };
      object = object;
      offset = offset;
      narrow = narrow;
      target = target;
      frame = frame;
      standing = standing;
    }

-- The base of an object.
abbrev base_of : World → ℕ → ℕ
base_of w o = unwrap_or (item w.bases o) 0

stands_within : (w v : World) (o loc x d s y : ℕ) → relative_to_self loc (place_address w o y) (wrapped (wrapped (place_address w o x + d) + s))
    ≡ relative_to_self loc (place_address v o y) (wrapped (wrapped (place_address v o x + d) + s))
stands_within w v o loc x d s y =
    ap (little_bytes (location_len loc)) (cancels (base_of w o) x d s y (location_len loc) ∙ sym (cancels (base_of v o) x d s y (location_len loc)))

stands :
    (l : Link) (w v : World) (by seg place loc : ℕ) (selfrel : Bool) (f : Frame) (goal : Goal) (disp object offset : ℕ) (narrow : Bool) (target : Target)
    (frame : Option ℕ) (standing : ℕ) → is_patched (made by seg place loc selfrel f goal disp object offset narrow target frame standing) ≡ true →
    Value l w (made by seg place loc selfrel f goal disp object offset narrow target frame standing)
    ≡ Value l v (made by seg place loc selfrel f goal disp object offset narrow target frame standing)
unfolding rules
stands l w v by seg place loc true f goal disp object offset narrow (Internal o x) frame standing e =
    let same : o ≡ object = eqb-true o object e in
    let bytes : value_bytes l w (made by seg place loc true f goal disp object offset narrow (Internal o x) frame standing)
    ≡ value_bytes l v (made by seg place loc true f goal disp object offset narrow (Internal o x) frame standing) =
    subst (λ (k : ℕ). relative_to_self loc (place_address w k offset) (wrapped (wrapped (place_address w o x + disp) + standing)) ≡ relative_to_self loc
    (place_address v k offset) (wrapped (wrapped (place_address v o x + disp) + standing))) same (stands_within w v o loc x disp standing offset) in
    ap (λ (t : List ℕ). cond (is_some (fix_refusal (made by seg place loc true f goal disp object offset narrow (Internal o x) frame standing))) None (Some t)) bytes
stands l w v by seg place loc true f goal disp object offset narrow (Constant n) frame standing e = refl
stands l w v by seg place loc true f goal disp object offset narrow (Entry slot) frame standing e = absurd (true≢false (sym e))
stands l w v by seg place loc false f goal disp object offset narrow (Internal o x) frame standing e = absurd (true≢false (sym e))
stands l w v by seg place loc false f goal disp object offset narrow (Constant n) frame standing e = refl
stands l w v by seg place loc false f goal disp object offset narrow (Entry slot) frame standing e = absurd (true≢false (sym e))

pub patches_stand : PatchesStand
patches_stand l w v q e =
    stands l w v q.by q.fix.seg q.fix.offset q.fix.loc q.fix.selfrel q.fix.frame q.fix.goal q.fix.disp q.object q.offset q.narrow q.target q.frame q.standing e
