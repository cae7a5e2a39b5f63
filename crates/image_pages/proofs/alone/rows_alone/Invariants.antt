use Rattle.image_pages.proofs.alone.rows_alone.Given as goal

abbrev pub ghosts-rows_of : goal.ghosts-rows_of
ghosts-rows_of a = record { name = a.blank.name; parts = a.blank.parts }
