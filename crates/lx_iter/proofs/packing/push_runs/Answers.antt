use Rattle.std.proofs.Common.{Vec, Global, length-drop, ◌≡◌, ◌++◌, ◌+◌, ◌≤◌, [], ◌∷◌, List, ℕ, length, drop, take, replicate, get_or, arith, subst, sym, ◌∙◌, ap}
use Rattle.std.specs.List.{between}
use Rattle.std.proofs.lemmas.List.{take_rest}
use Rattle.lx_model.specs.Iterated.{groups_spelling, group_spelling}
use Rattle.lx_model.specs.Packed.{runs_of, groups_of_runs, before_groups}
use Rattle.lx_iter.proofs.Runs.{run, Kept, kept_short, kept_long, byte_at}
use Rattle.lx_iter.proofs.packing.push_runs.Goals as goal
use Rattle.lx_iter.proofs.packing.push_runs.Goals.{then-len-ge-LONG_RUN+in_ok-push_once+in_ok-push_group, else-len-ge-LONG_RUN}

pub loop-at-preserved : goal.loop-at-preserved
loop-at-preserved c =
    let bytes = c.args.bytes.now in
    let at = c.loop-at.at in
    let n = c.run_length-len.result in
    let all = c.args.into.now.items ++ groups_spelling (groups_of_runs (runs_of bytes)) in
    let rest = take_rest bytes at in
    let b = get_or (drop at bytes) 0 0 in
    let is : runs_of (drop at bytes) ≡ run b n ∷ runs_of (drop n (drop at bytes)) = subst (λ (xs : List ℕ). runs_of xs ≡ run (get_or xs 0 0) n ∷ runs_of (drop n xs)) rest c.run_length-len.ensures.longest in
    let same : take n (drop at bytes) ≡ replicate n b = subst (λ (xs : List ℕ). take n xs ≡ replicate n (get_or xs 0 0)) rest c.run_length-len.ensures.same in
    let fits : n ≤ length (drop at bytes) = subst (λ (xs : List ℕ). n ≤ length xs) rest c.run_length-len.ensures.within in
    let within : at + n ≤ length bytes = omega (arith, fits, length-drop at bytes, c.loop-at.invariant.within) in
    let kept = c.loop-at.invariant.kept in
    let before = c.loop-at.invariant.before in
    elim c.if-len-ge-LONG_RUN.branch [
      | then-len-ge-LONG_RUN+in_ok-push_once+in_ok-push_group w ↦
          let one = byte_at bytes at c.loop-at-test.true in
          let more = kept_long c.loop-at.into.items bytes all (between at (at + 1) bytes) c.loop-at.once at n b before w.if-len-ge-LONG_RUN.true is one kept in
          let written : w.push_group.new.into.items ≡ c.loop-at.into.items ++ groups_spelling (before_groups (between c.loop-at.once at bytes) []) ++ group_spelling (record { times = n; bytes = between at (at + 1) bytes })
          = w.in_ok-push_group.ensures ∙ ap (λ (xs : List ℕ). xs ++ group_spelling (record { times = n; bytes = between at (at + 1) bytes })) w.in_ok-push_once.ensures in
          let items : c.if-len-ge-LONG_RUN.into.items ≡ c.loop-at.into.items ++ groups_spelling (before_groups (between c.loop-at.once at bytes) []) ++ group_spelling (record { times = n; bytes = between at (at + 1) bytes })
          = ap (λ (v : Vec ℕ Global). v.items) w.into-is ∙ written in
          record {
            before = omega (arith, w.once-is);
            within = within;
            kept = subst (λ (o : ℕ). Kept c.if-len-ge-LONG_RUN.into.items bytes o (at + n) all) (sym w.once-is) (subst (λ (xs : List ℕ). Kept xs bytes (at + n) (at + n) all) (sym items) more);
          }
      | else-len-ge-LONG_RUN w ↦
          record {
            before = omega (arith, w.once-is, before);
            within = within;
            kept =
                subst (λ (o : ℕ). Kept c.if-len-ge-LONG_RUN.into.items bytes o (at + n) all) (sym w.once-is)
                (subst (λ (xs : List ℕ). Kept xs bytes c.loop-at.once (at + n) all) (sym (ap (λ (v : Vec ℕ Global). v.items) w.into-is)) (kept_short c.loop-at.into.items bytes all c.loop-at.once at n b before w.if-len-ge-LONG_RUN.false is same kept));
          }
    ]
