-- the words that were passed are below the word
use Rattle.document_store.proofs.WordOrder.{IsLeft}
use Rattle.document_store.proofs.doc.reach.Given as goal

abbrev pub invariant-loop-next : goal.invariant-loop-next
invariant-loop-next l = IsLeft l.word l.fn.left l.left
