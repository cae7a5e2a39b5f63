-- The first fault by what stands above each line is the first fault by all lines above it.
use Rattle.std.proofs.Common.{◌≡◌, ℕ, ◌+◌, List, [], ◌∷◌, ◌++◌, length, Option, Some, None, refl, sym, ◌∙◌, ap}
use Rattle.std.specs.List.{cons_option}
use Rattle.std.proofs.lemmas.List.{length-append, append-nil}
use Rattle.std.proofs.lemmas.List.Elements.{filter_map-append}
use Rattle.std.proofs.lemmas.List.Sums.{fold-append}
use Rattle.session_model.specs.declared.sessions.SessionKind.{SessionKind}
use Rattle.session_model.specs.declared.sessions.SessionRefusal.{SessionRefusal}
use Rattle.session_model.specs.Lines.{lines_in}
use Rattle.session_model.specs.Statements.{Reading, nothing, says, wrong, reading_of}
use Rattle.session_model.specs.Sessions.{statement_in, statements_of, number_or, count_or, last_number, commands_so_far, line_fault, Above, past, or_later, fault_below, SesFault}

abbrev pub or_next : List (List ℕ) → Option SessionKind → Option SessionRefusal → Option SessionRefusal
or_next before (Some kind) later = Some (record { line = length before + 1; kind = kind })
or_next before None later = later

-- the first line that is wrong, of those after others
abbrev pub fault_from : List (List ℕ) → List (List ℕ) → Option SessionRefusal
fault_from before [] = None
fault_from before (line ∷ after) = or_next before (line_fault before line) (fault_from (before ++ line ∷ []) after)

abbrev pub above : ℕ → Option ℕ → ℕ → Above
above lines last commands = record { lines = lines; last = last; commands = commands }

-- what a line after others stands below
abbrev pub above_of : List (List ℕ) → Above
above_of before = above (length before) (last_number (statements_of before)) (commands_so_far (statements_of before))

same_above : (n m : ℕ) (l k : Option ℕ) (c d : ℕ) → n ≡ m → l ≡ k → c ≡ d → above n l c ≡ above m k d
same_above n m l k c d p q r = ap (λ lines. above lines l c) p ∙ ap (λ last. above m last c) q ∙ ap (above m k) r

-- what stands before one more line
said_more : (before : List (List ℕ)) (line : List ℕ) (r : Reading) → reading_of line ≡ r →
    statements_of (before ++ line ∷ []) ≡ statements_of before ++ cons_option (statement_in r) []
said_more before line r is =
    filter_map-append (λ l. statement_in (reading_of l)) before (line ∷ []) ∙ ap (λ x. statements_of before ++ cons_option (statement_in x) []) is

past_is : (before : List (List ℕ)) (line : List ℕ) → past (above_of before) (reading_of line) ≡ above_of (before ++ line ∷ [])
past_is before line = step (reading_of line) refl
  where
    count : length before + 1 ≡ length (before ++ line ∷ [])
    count = sym (length-append before (line ∷ []))

    quiet : statements_of (before ++ line ∷ []) ≡ statements_of before →
        above (length before + 1) (last_number (statements_of before)) (commands_so_far (statements_of before)) ≡ above_of (before ++ line ∷ [])
    quiet same = same_above _ _ _ _ _ _ count (ap last_number (sym same)) (ap commands_so_far (sym same))

    step : (r : Reading) → reading_of line ≡ r → past (above_of before) r ≡ above_of (before ++ line ∷ [])
    step nothing is = quiet (said_more before line nothing is ∙ append-nil (statements_of before))
    step (wrong kind) is = quiet (said_more before line (wrong kind) is ∙ append-nil (statements_of before))
    step (says s) is =
        let same : statements_of (before ++ line ∷ []) ≡ statements_of before ++ s ∷ [] = said_more before line (says s) is in
        same_above _ _ _ _ _ _ count
        (sym (ap last_number same ∙ fold-append number_or None (statements_of before) (s ∷ [])))
        (sym (ap commands_so_far same ∙ fold-append count_or 0 (statements_of before) (s ∷ [])))

below_is : (before lines : List (List ℕ)) → fault_below (above_of before) lines ≡ fault_from before lines
unfolding line_fault
below_is before [] = refl
below_is before (line ∷ lines) =
    ap (λ a. or_later (above_of before) (line_fault before line) (fault_below a lines)) (past_is before line)
    ∙ ap (λ o. or_later (above_of before) (line_fault before line) o) (below_is (before ++ line ∷ []) lines)
    ∙ told (line_fault before line) (fault_from (before ++ line ∷ []) lines)
  where
    told : (k : Option SessionKind) (later : Option SessionRefusal) → or_later (above_of before) k later ≡ or_next before k later
    told (Some kind) later = refl
    told None later = refl

-- the first fault, by the lines above each
pub ses_fault_is : (bytes : List ℕ) → SesFault bytes ≡ fault_from [] (lines_in bytes)
unfolding SesFault
ses_fault_is bytes = below_is [] (lines_in bytes)
