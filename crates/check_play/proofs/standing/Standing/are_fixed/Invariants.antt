use Rattle.std.proofs.Common.{◌≡◌, ◌-◌}
use Rattle.std.specs.List.{list_all, range_with_len}
use Rattle.load_model.specs.Memory.{page}
use Rattle.merge_laws.specs.OwnStates.{is_fixed}
use Rattle.check_play.proofs.standing.Standing.are_fixed.Given as goal

abbrev pub invariant-loop-page : goal.invariant-loop-page
invariant-loop-page l =
    list_all (λ n. is_fixed l.self.board.library l.self.board.history l.residence.serial l.residence.«module» (page l.at.object n)) (range_with_len l.page (l.page-end - l.page))
    ≡ list_all (λ n. is_fixed l.self.board.library l.self.board.history l.residence.serial l.residence.«module» (page l.at.object n)) (range_with_len l.initial.page (l.page-end - l.initial.page))
