use Rattle.std.proofs.Common.{◌≡◌, ℕ, zero, suc, List, [], ◌∷◌, All, None, Some, length, slice_get, subst}
use Rattle.std.proofs.lemmas.List.Elements.{All-head, All-tail}
use Rattle.std.proofs.lemmas.Map.Iter.{iter_turn}
use Rattle.funnel_model.specs.Configuration.{IsBetween}
use Rattle.fit.proofs.Counting.{Key}
use Rattle.fit.specs.Steps.{entries_of}
use Rattle.fit.proofs.ranking.listable.Goals as goal

-- what holds of each entry holds of the one at a place
at-place : (P : List ℕ × ℕ → Type 0) (es : List (Key × ℕ)) (i : ℕ) (e : Key × ℕ) → slice_get es i ≡ Some e → All P (entries_of es) → P (e.0.items, e.1)
at-place P [] i e is all = absurd (let no : None ≡ Some e = is in cc)
at-place P (x ∷ es) zero e is all =
    let same : x ≡ e = cc in
    subst (λ (y : Key × ℕ). P (y.0.items, y.1)) same (All-head P (x.0.items, x.1) (entries_of es) all)
at-place P (x ∷ es) (suc i) e is all = at-place P es i e is (All-tail P (x.0.items, x.1) (entries_of es) all)

between : (c : goal.In-Some) → IsBetween 1 c.args.documents c.in-Some.count
between c =
    let turn = iter_turn (λ x. x) c.args.counts.entries c.loop-word.yielded c.into_iter-word-iterator.result c.loop-word.word-iterator c.next.new.self c.next.result
    c.into_iter-word-iterator.ensures.into_iter_gives.0 c.loop-word.yielded_by (c.in-Some.word, c.in-Some.count) c.in-Some.is c.next.ensures.steps in
    at-place (λ entry. IsBetween 1 c.args.documents entry.1) c.args.counts.entries (length c.loop-word.yielded) (c.in-Some.word, c.in-Some.count) turn.1 c.requires.counted

pub as_listable-requires-clause-some : goal.as_listable-requires-clause-some
as_listable-requires-clause-some c = (between c).0

pub as_listable-requires-clause-within : goal.as_listable-requires-clause-within
as_listable-requires-clause-within c = (between c).1
