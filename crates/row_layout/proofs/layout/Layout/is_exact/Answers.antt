use Rattle.std.proofs.Common.{sym}
use Rattle.row_layout.proofs.Listing.{word_rows-private, word_rows-shared}
use Rattle.row_layout.proofs.layout.Layout.is_exact.Goals as goal

pub returns-in-Private : goal.returns-in-Private
returns-in-Private c =
    let private = word_rows-private c.args.self.now.config c.args.word.now c.in-Private.field-0 c.in-Private.ensures.value in
    sym private.0

pub returns-in-Shared : goal.returns-in-Shared
returns-in-Shared c =
    let shared = word_rows-shared c.args.self.now.config c.args.word.now c.in-Shared.field-0 c.in-Shared.ensures.value in
    sym shared.0
