-- Bytes say no more modules than there are bytes.
use Rattle.std.proofs.Common.{ℕ, suc, ◌≤◌, Bool, true, false, if◌then◌else◌, List, [], ◌∷◌, length, arith}
use Rattle.std.specs.Prelude.{◌==◌}
use Rattle.lx_types.proofs.Lists.{length-filter_map}
use Rattle.session_model.specs.Lines.{with_byte, is_cut, lines_in}
use Rattle.session_model.specs.Statements.{reading_of}
use Rattle.session_model.specs.Sessions.{module_of, statement_in, statements_of, session_of}
use Rattle.session_files.specs.ShortSessions.{SessionsAreShort}

with_byte_length : (b : ℕ) (lines : List (List ℕ)) → length (with_byte b lines) ≤ suc (length lines)
with_byte_length b [] = omega arith
with_byte_length b (line ∷ others) = omega arith

choice : (t : Bool) (a b : List (List ℕ)) (n : ℕ) → length a ≤ n → length b ≤ n → length (if t then a else b) ≤ n
choice true a b n h k = h
choice false a b n h k = k

lines_few : (bytes : List ℕ) → length (lines_in bytes) ≤ length bytes
unfolding lines_in
lines_few [] = omega arith
lines_few (b ∷ bytes) =
    let e : length (lines_in bytes) ≤ length bytes = lines_few bytes in
    let w : length (with_byte b (lines_in bytes)) ≤ suc (length (lines_in bytes)) = with_byte_length b (lines_in bytes) in
    choice (is_cut b bytes) _ _ _ (omega (arith, e)) (choice (b == 0x0A) _ _ _ (omega (arith, e)) (omega (arith, e, w)))

modules_few : (lines : List (List ℕ)) → length (session_of (statements_of lines)).modules ≤ length lines
unfolding session_of
modules_few lines =
    let a : _ = length-filter_map module_of (statements_of lines) in
    let b : _ = length-filter_map (λ line. statement_in (reading_of line)) lines in
    omega (arith, a, b)

pub sessions_are_short : SessionsAreShort
sessions_are_short bytes s h =
    let a : _ = modules_few (lines_in bytes) in
    let b : _ = lines_few bytes in
    rw (h.says) (omega (arith, a, b))
