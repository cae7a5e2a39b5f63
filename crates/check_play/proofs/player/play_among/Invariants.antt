use Rattle.check_play.proofs.player.play_among.Given as goal

abbrev pub ghosts-play_own : goal.ghosts-play_own
ghosts-play_own g a = record { name = a.blank.name; parts = a.blank.parts }
