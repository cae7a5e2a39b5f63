-- A value has as many bytes as its location.
use Rattle.std.specs.Prelude.{◌≡◌, ℕ, ◌<◌, ◌≤◌, Bool, true, false, cond, ◌||◌, ◌==◌, List, Option, Some, None, length, unwrap_or, is_some, refl}
use Rattle.std.proofs.Common.{ap, sym, ◌∙◌, arith, true≢false, inl, inr}
use Rattle.std.proofs.lemmas.Bool.{agree_below_at, cases_lt, ne_eqb, eqb-true, or_cases}
use Rattle.lx_bytes.proofs.Numbers.{length-little_bytes}
use Rattle.obj_types.specs.Location.{location_len}
use Rattle.link_model.specs.Link.{Link}
use Rattle.link_model.specs.Fixups.{Fixup, fix_refusal}
use Rattle.link_model.specs.Value.{World, relative_to_segment, relative_to_self, value_bytes, place_address, sum_number, target_number, target_flags}
use Rattle.link_model.specs.NothingDropped.{ValuesFit}
use Rattle.link_model.proofs.Rules.{rules}

-- Of a location that there is, which is below 14.
abbrev fits_at : ℕ → ℕ → ℕ → Bool → ℕ → Bool
fits_at t v flags narrow loc =
    location_len loc == 0 || length (relative_to_segment loc t v flags narrow) == location_len loc

all_fit : (t v flags loc : ℕ) (narrow : Bool) → loc < 14 → fits_at t v flags narrow loc ≡ true
all_fit t v flags loc narrow h = agree_below_at (fits_at t v flags narrow) (λ n. true) 14 loc refl h

pub no_location : (loc : ℕ) → 14 ≤ loc → location_len loc ≡ 0
no_location loc h =
    rw (ne_eqb loc 0 (λ e. omega (arith, h, e)), ne_eqb loc 1 (λ e. omega (arith, h, e)), ne_eqb loc 2 (λ e. omega (arith, h, e)), ne_eqb loc 5 (λ e. omega (arith, h, e)), ne_eqb loc 3 (λ e. omega (arith, h, e)), ne_eqb loc 9 (λ e. omega (arith, h, e)), ne_eqb loc 13 (λ e. omega (arith, h, e)), ne_eqb loc 11 (λ e. omega (arith, h, e))) refl

fit_by : (n len : ℕ) → (n == 0 || len == n) ≡ true → 0 < n → len ≡ n
fit_by n len e h =
    elim (or_cases (n == 0) (len == n) e) as (λ s. len ≡ n) [ inl z ↦ absurd (omega (arith, eqb-true n 0 z, h)) | inr s ↦ eqb-true len n s ]

segment_fits : (t v flags loc : ℕ) (narrow : Bool) → 0 < location_len loc → length (relative_to_segment loc t v flags narrow) ≡ location_len loc
segment_fits t v flags loc narrow h =
    elim (cases_lt loc 14) as (λ s. length (relative_to_segment loc t v flags narrow) ≡ location_len loc)
    [ inl below ↦ fit_by (location_len loc) (length (relative_to_segment loc t v flags narrow)) (all_fit t v flags loc narrow below) h | inr past ↦ absurd (omega (arith, no_location loc past, h)) ]

bytes_fit_by : (selfrel : Bool) (a b : List ℕ) (n : ℕ) → length a ≡ n → length b ≡ n → length (cond selfrel a b) ≡ n
bytes_fit_by true a b n ea eb = ea
bytes_fit_by false a b n ea eb = eb

pub bytes_fit : (l : Link) (w : World) (q : Fixup) → 0 < location_len q.fix.loc → length (value_bytes l w q) ≡ location_len q.fix.loc
unfolding rules
bytes_fit l w q h =
    bytes_fit_by q.fix.selfrel (relative_to_self q.fix.loc (place_address w q.object q.offset) (sum_number l w q))
    (relative_to_segment q.fix.loc (target_number l w q) (sum_number l w q) (target_flags l w q.target) q.narrow) (location_len q.fix.loc)
    (length-little_bytes (location_len q.fix.loc) _) (segment_fits (target_number l w q) (sum_number l w q) (target_flags l w q.target) q.fix.loc q.narrow h)

is_bytes : (b : Bool) (bytes all : List ℕ) → cond b None (Some all) ≡ Some bytes → all ≡ bytes
is_bytes true bytes all e = absurd (true≢false (sym (ap is_some e)))
is_bytes false bytes all e = ap (λ (o : Option (List ℕ)). unwrap_or o bytes) e

pub values_fit : ValuesFit
unfolding rules
values_fit l w q bytes h e =
    ap length (sym (is_bytes (is_some (fix_refusal q)) bytes (value_bytes l w q) e)) ∙ bytes_fit l w q h
