use Rattle.index_tests.proofs.live_numbers.fill_twice.Goals as goal

pub take_away-taken-requires : goal.take_away-taken-requires
take_away-taken-requires c = record { only = λ id nc na nd nb. c.fill.ensures.only id na nb nc nd }
