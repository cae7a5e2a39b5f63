-- Words on lists of records and of fields.
use Rattle.std.specs.Prelude.{List, [], ◌∷◌, ◌++◌}

-- The items that each element gives, together with the elements before it.
abbrev pub collect_after : {A B : Type 0} → (List A → A → List B) → List A → List A → List B
collect_after f before [] = []
collect_after f before (x ∷ xs) = f before x ++ collect_after f (before ++ x ∷ []) xs

abbrev pub collect : {A B : Type 0} → (List A → A → List B) → List A → List B
collect f xs = collect_after f [] xs

-- The last element, or the given one where there is none.
abbrev pub latest : {A : Type 0} → A → List A → A
latest x [] = x
latest x (y ∷ ys) = latest y ys
