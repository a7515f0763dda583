use Rattle.document_store.specs.Entries.{column_of}
use Rattle.index_tests.proofs.AddedLemmas.{gone-after}
use Rattle.index_tests.proofs.live_numbers.take_away.Goals as goal

pub returns-clause-empty : goal.returns-clause-empty
returns-clause-empty c id =
    gone-after (column_of c.remove-3.new.self) (column_of c.remove-4.new.self) c.args.d id c.remove-4.ensures.columns (λ nd.
    gone-after (column_of c.remove-2.new.self) (column_of c.remove-3.new.self) c.args.c id c.remove-3.ensures.columns (λ nc.
    gone-after (column_of c.remove.new.self) (column_of c.remove-2.new.self) c.args.b id c.remove-2.ensures.columns (λ nb.
    gone-after (column_of c.args.live.now) (column_of c.remove.new.self) c.args.a id c.remove.ensures.columns (λ na.
    c.requires.only id na nb nc nd))))
