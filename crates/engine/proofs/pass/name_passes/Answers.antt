use Rattle.std.proofs.Common.{◌≡◌, ◌++◌, ◌∷◌, [], List, map, sym, ap, ◌∙◌, subst, rules, append_assoc}
use Rattle.std.proofs.lemmas.List.Elements.{All-tail}
use Rattle.std.specs.List.{All}
use Rattle.std.specs.Vec.Iter.{into_iter_items}
use Rattle.commit_desk.specs.Passes.{IsResting}
use Rattle.slice_rule.specs.Seats.{PassState}
use Rattle.engine.specs.Passes.{PassView, view_of}
use Rattle.engine.proofs.pass.name_passes.Goals as goal

pub loop-seat-init : goal.loop-seat-init
loop-seat-init g c =
    let all : c.args.seats.items ≡ into_iter_items c.into_iter-seat-iterator.result = search rules in
    let none : c.in_ok-passes.passes.items ≡ [] = search rules in
    record {
      named = ap (map view_of) all ∙ ap (λ (ps : List PassView). ps ++ map view_of (into_iter_items c.into_iter-seat-iterator.result)) (sym none);
      rest = subst (All (IsResting g.N.PoolName.pool)) all c.requires.rest;
    }

pub loop-seat-preserved : goal.loop-seat-preserved
loop-seat-preserved g c =
    let seat = c.in-Some.seat in
    let next : into_iter_items c.loop-seat.seat-iterator ≡ seat ∷ into_iter_items c.next.new.self = search rules in
    let seats = into_iter_items c.next.new.self in
    let passes = c.loop-seat.passes.items in
    let pushed : c.push.new.self.items ≡ passes ++ view_of seat ∷ [] = c.in_ok-push.ensures.items in
    record {
      named =
          c.loop-seat.invariant.named ∙ ap (λ (xs : List PassState). passes ++ map view_of xs) next
          ∙ sym (append_assoc passes (view_of seat ∷ []) (map view_of seats)) ∙ ap (λ (ps : List PassView). ps ++ map view_of seats) (sym pushed);
      rest = All-tail (IsResting g.N.PoolName.pool) seat (into_iter_items c.next.new.self) (subst (All (IsResting g.N.PoolName.pool)) next c.loop-seat.invariant.rest);
    }
