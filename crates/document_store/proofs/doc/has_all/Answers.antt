use Rattle.std.proofs.Common.{◌≡◌, List, ℕ, false, true, refl, subst}
use Rattle.std.proofs.lemmas.Bool.{iff_false}
use Rattle.document_store.proofs.WordOrder.{IsAtWords, all_had, one_had, one_lacks}
use Rattle.document_store.proofs.doc.has_all.Goals as goal

-- the words that are looked for, by their first
at_next : (set words left remaining next : List (List ℕ)) → remaining ≡ next → IsAtWords set words left remaining → IsAtWords set words left next
at_next set words left remaining next same is = subst (IsAtWords set words left) same is

never : false ≡ true → ⊥
never is = cc

pub returns-then-not-reach : goal.returns-then-not-reach
returns-then-not-reach c = (
  λ no. absurd (never no),
  λ every.
      absurd (one_lacks c.args.set.now c.args.words.now c.in-Some.word.now c.loop-word.left c.next.new.self
      (at_next c.args.set.now c.args.words.now c.loop-word.left _ _ c.in-Some.ensures.steps c.loop-word.invariant)
      (iff_false c.reach.ensures.found c.if-not-reach.true) every),
)

pub loop-word-preserved : goal.loop-word-preserved
loop-word-preserved c =
    let reached = c.reach.ensures in
    one_had c.args.set.now c.args.words.now c.in-Some.word.now c.loop-word.left c.reach.new.left c.next.new.self
    (at_next c.args.set.now c.args.words.now c.loop-word.left _ _ c.in-Some.ensures.steps c.loop-word.invariant)
    (reached.found.0 c.if-not-reach.false) (reached.above c.if-not-reach.false) reached.same reached.rising

pub returns : goal.returns
returns c = (
  λ is.
      all_had c.args.set.now c.args.words.now c.loop-word.left (at_next c.args.set.now c.args.words.now c.loop-word.left _ _ c.in-None.ensures.steps.0 c.loop-word.invariant),
  λ every. refl,
)
