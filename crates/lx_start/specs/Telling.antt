-- What the program tells of itself.
use Rattle.std.specs.Prelude.{ℕ, Bool, false, ◌||◌, ◌&&◌, List, [], ◌∷◌, ◌++◌, Option, Some, None, codes, bytes_eq, if◌then◌else◌}
use Rattle.diagnostics.specs.Help.{is_command}

-- a line for each command
abbrev pub image_line : List ℕ
image_line = codes "lx image OBJ BASE         shows an object file's objects in memory, as: lx image a.obj 10000000" ++ 10 ∷ []

abbrev pub link_line : List ℕ
link_line = codes "lx link OUT DEF IN ..     links object files and libraries, DEF may be -, as: lx link d.dll d.def a.obj b.lib" ++ 10 ∷ []

abbrev pub implib_line : List ℕ
implib_line = codes "lx implib OUT IN ..       writes an import library of modules and definition files, as: lx implib d.lib d.def" ++ 10 ∷ []

abbrev pub bind_line : List ℕ
bind_line = codes "lx bind OUT MODULE RES    adds the items of a resource file to a module, as: lx bind d2.dll d.dll d.res" ++ 10 ∷ []

abbrev pub gen_line : List ℕ
gen_line = codes "lx gen N PREFIX           makes N modules and a session of them, to try the others on, as: lx gen 2 g" ++ 10 ∷ []

abbrev pub run_line : List ℕ
run_line = codes "lx run FILE               runs the processes of a session in threads, as: lx run d.ses" ++ 10 ∷ []

abbrev pub check_line : List ℕ
check_line =
    codes "lx check FILE TRANSCRIPT  judges a text as the transcript of a run of a session, as: lx check d.ses d.txt" ++ 10 ∷ []

abbrev pub dump_line : List ℕ
dump_line = codes "lx dump FILE              shows what is in a module, as: lx dump d.dll" ++ 10 ∷ []

abbrev pub map_line : List ℕ
map_line = codes "lx map DEF IN ..          shows where all stands that link would place, as: lx map d.def a.obj b.lib" ++ 10 ∷ []

abbrev pub memory_line : List ℕ
memory_line = codes "lx memory MODULE ..       shows what modules hold in memory, as: lx memory p.exe d.dll" ++ 10 ∷ []

abbrev pub show_line : List ℕ
show_line = codes "lx show FILE              shows what is in a file, part by part, as: lx show a.obj" ++ 10 ∷ []

abbrev pub more_line : List ℕ
more_line = codes "lx COMMAND --help         says more of one of them" ++ 10 ∷ []

unfoldable pub help : List ℕ
help =
    image_line
    ++ (link_line
    ++ (implib_line
    ++ (bind_line ++ (gen_line ++ (run_line ++ (check_line ++ (dump_line ++ (map_line ++ (memory_line ++ (show_line ++ more_line))))))))))

abbrev pub version : List ℕ
version = codes "lx 0.1" ++ 10 ∷ []

-- A word that asks for help.
abbrev pub asks_help : List ℕ → Bool
asks_help word = bytes_eq word (codes "--help") || bytes_eq word (codes "-h")

-- Where one of these words is all there is, its text, and else none.
abbrev pub told_of : List (List ℕ) → Option (List ℕ)
told_of (word ∷ []) = if asks_help word then Some help else (if bytes_eq word (codes "--version") then Some version else None)
told_of _ = None

-- The words ask for the page of a command: they are its name and a word that asks for help.
abbrev pub asks_page : List (List ℕ) → Bool
asks_page (command ∷ word ∷ []) = asks_help word && is_command command
asks_page _ = false
