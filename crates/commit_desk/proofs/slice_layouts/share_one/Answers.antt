use Rattle.std.proofs.Common.{inl, inr, refl}
use Rattle.commit_desk.specs.declared.find_layouts.FindLayout.{FindLayout}
use Rattle.commit_desk.proofs.LayoutsKept.{ok_then, some_in, when_none}
use Rattle.commit_desk.proofs.slice_layouts.share_one.Goals as goal

pub returns-then-is_none-clause-adds : goal.returns-then-is_none-clause-adds
returns-then-is_none-clause-adds c =
    let empty = when_none _ _ c.lowest.result c.lowest.ensures c.if-is_none.ensures in
    inl (λ slice has in_set. empty slice ((c.both-slices.ensures slice).1 (has, in_set)), refl)

pub returns-clause-adds : goal.returns-clause-adds
returns-clause-adds c =
    let entry : FindLayout = record { number = c.args.whole.now.number; layout = c.in_ok-layout.layout; slices = c.both-slices.result } in
    let some = some_in c.both-slices.result c.lowest.result c.lowest.ensures c.if-is_none.ensures in
    ok_then c.push.result
    (λ grown. inr (entry, record { some = some; has = c.both-slices.ensures; number_is = refl; layout_is = c.in_ok-layout.ensures }, grown)) c.push.ensures.pushed
