use Rattle.document_store.proofs.WordOrder.{IsAtWords}
use Rattle.document_store.proofs.doc.has_all.Given as goal

-- the words so far are in the set
abbrev pub invariant-loop-word : goal.invariant-loop-word
invariant-loop-word l = IsAtWords l.set l.words l.left l.word-iterator
