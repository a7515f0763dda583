use Rattle.std.proofs.Common.{◌≡◌, List, ℕ, false, true, refl, sym, ◌∙◌, subst}
use Rattle.document_store.proofs.WordOrder.{IsLeft, above_left, all_left, come_to, none_there, not_there, one_passed, rest_rises, same_after}
use Rattle.document_store.proofs.doc.reach.Goals as goal

pub loop-next-init : goal.loop-next-init
loop-next-init c = all_left c.args.word.now c.args.left.now c.requires.rising

-- those that were left before a step
left_at : (word : List ℕ) (words left next : List (List ℕ)) → left ≡ next → IsLeft word words left → IsLeft word words next
left_at word words left next same is = subst (IsLeft word words) same is

never : false ≡ true → ⊥
never is = cc

pub loop-next-preserved : goal.loop-next-preserved
loop-next-preserved c =
    one_passed c.args.word.now c.args.left.now c.in-Some.next.now c.next.new.self (left_at c.args.word.now c.args.left.now _ _ c.in-Some.ensures.steps c.loop-next.invariant)
    (sym c.cmp.ensures ∙ c.in-Less.is)

pub returns-in-Equal-clause-found : goal.returns-in-Equal-clause-found
returns-in-Equal-clause-found c = (
  λ yes.
      come_to c.args.word.now c.args.left.now c.in-Some.next.now c.next.new.self (left_at c.args.word.now c.args.left.now _ _ c.in-Some.ensures.steps c.loop-next.invariant)
      (sym c.cmp.ensures ∙ c.in-Equal.is),
  λ has. refl,
)

pub returns-in-Equal-clause-above : goal.returns-in-Equal-clause-above
returns-in-Equal-clause-above c is =
    above_left c.args.word.now c.args.left.now c.in-Some.next.now c.next.new.self (left_at c.args.word.now c.args.left.now _ _ c.in-Some.ensures.steps c.loop-next.invariant)
    (sym c.cmp.ensures ∙ c.in-Equal.is)

pub returns-in-Equal-clause-same : goal.returns-in-Equal-clause-same
returns-in-Equal-clause-same c =
    same_after c.args.word.now c.args.left.now c.in-Some.next.now c.next.new.self (left_at c.args.word.now c.args.left.now _ _ c.in-Some.ensures.steps c.loop-next.invariant)

pub returns-in-Equal-clause-rising : goal.returns-in-Equal-clause-rising
returns-in-Equal-clause-rising c =
    rest_rises c.in-Some.next.now c.next.new.self (left_at c.args.word.now c.args.left.now _ _ c.in-Some.ensures.steps c.loop-next.invariant).rising

pub returns-in-Greater-clause-found : goal.returns-in-Greater-clause-found
returns-in-Greater-clause-found c = (
  λ no. absurd (never no),
  λ has.
      absurd (not_there c.args.word.now c.args.left.now c.in-Some.next.now c.next.new.self (left_at c.args.word.now c.args.left.now _ _ c.in-Some.ensures.steps c.loop-next.invariant)
      (sym c.cmp.ensures ∙ c.in-Greater.is) has),
)

pub returns-in-Greater-clause-same : goal.returns-in-Greater-clause-same
returns-in-Greater-clause-same c =
    same_after c.args.word.now c.args.left.now c.in-Some.next.now c.next.new.self (left_at c.args.word.now c.args.left.now _ _ c.in-Some.ensures.steps c.loop-next.invariant)

pub returns-in-Greater-clause-rising : goal.returns-in-Greater-clause-rising
returns-in-Greater-clause-rising c =
    rest_rises c.in-Some.next.now c.next.new.self (left_at c.args.word.now c.args.left.now _ _ c.in-Some.ensures.steps c.loop-next.invariant).rising

pub returns-clause-found : goal.returns-clause-found
returns-clause-found c = (
  λ no. absurd (never no),
  λ has. absurd (none_there c.args.word.now c.args.left.now (left_at c.args.word.now c.args.left.now _ _ c.in_default.ensures.steps.0 c.loop-next.invariant) has),
)
