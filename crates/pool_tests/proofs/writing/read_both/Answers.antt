use Rattle.pool_tests.proofs.writing.read_both.Goals as goal

pub new-rows-requires : goal.new-rows-requires
new-rows-requires c = record { can_read = record { same = c.requires.pool; holds = c.requires.token; none_outstanding = c.requires.none_outstanding } }
