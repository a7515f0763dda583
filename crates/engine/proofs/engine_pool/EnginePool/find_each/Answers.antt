use Rattle.std.proofs.Common.{◌≡◌, Option, List, [], ◌∷◌, ◌++◌, length, refl, sym, ◌∙◌, subst, arith, rules, Contains}
use Rattle.std.proofs.lemmas.Bool.{eqb-true}
use Rattle.std.proofs.lemmas.List.Elements.{Contains-append_left, Contains-append_right}
use Rattle.commit_desk.specs.declared.find_layouts.FindLayout.{FindLayout}
use Rattle.commit_desk.specs.Passes.{IsFinding}
use Rattle.engine.proofs.FindParts.{adds_later, can_look, ended_from, found_more, found_none, rest_apart}
use Rattle.engine.proofs.Moves.{front_goes_on, front_refl, turn_from}
use Rattle.engine.specs.Finds.{CanLookIn, IsOpenOrEnded, IsFoundBut}
use Rattle.engine.specs.Searches.{is_kept_by}
use Rattle.funnel_model.specs.declared.claim.Token.{Token}
use Rattle.funnel_model.specs.declared.event.Event.TheVariants as event
use Rattle.funnel_model.specs.History.{IsFrontOf}
use Rattle.slice_recycler.specs.Turns.{IsTurn}
use Rattle.engine.proofs.engine_pool.EnginePool.find_each.Goals as goal
use Rattle.funnel_model.proofs.Absence.{empty_by_length}

pub loop-entry-init : goal.loop-entry-init
loop-entry-init g c =
    let just = c.requires.begun in
    record {
      at = c.requires.at;
      found = found_none (is_kept_by c.args.begun.search) c.args.self.now c.args.pass.now c.args.begun.token c.args.layouts.now.entries.items c.args.out.now.found just.laid c.requires.none;
      among = λ entry has. has;
      apart = (just.laid just.finding.holds.begun).apart;
      finding = just.finding;
      same = refl;
      seen = front_refl c.args.pass.now.number c.args.pass.now.front;
      room = omega arith;
      number = refl;
    }

pub look_in-requires : goal.look_in-requires
look_in-requires g c =
    let pool = c.args.self.now in
    let inv = c.loop-entry.invariant in
    let entry = c.in-Some.entry in
    let rest = c.pop.new.self.items in
    let here : Contains c.loop-entry.layouts.entries.items entry =
    subst (λ (es : List FindLayout). Contains es entry) (sym c.in-Some.ensures.items) (Contains-append_right rest (entry ∷ []) entry (0, omega arith, refl)) in
    record {
      at = inv.at;
      can = subst (λ (t : Token). CanLookIn pool c.loop-entry.pass t entry) (sym inv.same)
          (can_look pool c.args.pass.now c.loop-entry.pass c.args.begun.token c.args.layouts.now.entries.items c.requires.begun inv.number inv.seen inv.finding entry (inv.among entry here));
    }

pub loop-entry-preserved : goal.loop-entry-preserved
loop-entry-preserved g c =
    let pool = c.args.self.now in
    let pass = c.args.pass.now in
    let token = c.args.begun.token in
    let before = c.loop-entry.pass in
    let next = c.look_in.new.pass in
    let left = c.loop-entry.layouts.entries.items in
    let rest = c.pop.new.self.items in
    let entry = c.in-Some.entry in
    let inv = c.loop-entry.invariant in
    let did = c.in-Ok-Some.ensures in
    let popped : left ≡ rest ++ entry ∷ [] = c.in-Some.ensures.items in
    let on = subst (λ (o : Option Token). IsOpenOrEnded pool c.loop-entry.token c.is_empty.result before next o) c.in-Ok-Some.field-0-is did.goes_on in
    let same = on.1 ∙ inv.same in
    let kept = c.pop.ensures.capacity in
    let room = inv.room in
    record {
      at = c.look_in.ensures.at;
      found = found_more (is_kept_by c.args.begun.search) pass token rest left entry popped inv.apart c.loop-entry.out.found c.look_in.new.out.found inv.found
          (adds_later (is_kept_by c.args.begun.search) pass before token c.loop-entry.token entry.slices c.loop-entry.out.found c.look_in.new.out.found inv.same inv.number inv.seen did.found);
      among = λ other has. inv.among other (subst (λ (es : List FindLayout). Contains es other) (sym popped) (Contains-append_left rest (entry ∷ []) other has));
      apart = rest_apart (is_kept_by c.args.begun.search) pass token rest left entry popped inv.apart;
      finding = subst (λ (t : Token). IsFinding pool t next) inv.same on.2;
      same = same;
      seen = front_goes_on pass.number pass.front before.front next.front inv.seen (subst (λ n. IsFrontOf n before.front next.front) inv.number on.3);
      room = omega (arith, kept, room);
      number = c.look_in.ensures.number ∙ inv.number;
    }

-- no memory was found
pub returns-in-Err-clause-ended : goal.returns-in-Err-clause-ended
returns-in-Err-clause-ended g c =
    let inv = c.loop-entry.invariant in
    (ended_from c.args.self.now c.args.pass.now c.loop-entry.pass c.look_in.new.pass inv.number inv.seen c.in-Err.ensures.goes_on).0

pub returns-in-Err-clause-rests : goal.returns-in-Err-clause-rests
returns-in-Err-clause-rests g c = c.in-Err.ensures.goes_on.1

pub returns-in-Err-clause-number : goal.returns-in-Err-clause-number
returns-in-Err-clause-number g c = c.look_in.ensures.number ∙ c.loop-entry.invariant.number

-- the find was ended with the last slices
pub returns-in-Ok-None-clause-found : goal.returns-in-Ok-None-clause-found
returns-in-Ok-None-clause-found g c =
    let pool = c.args.self.now in
    let pass = c.args.pass.now in
    let token = c.args.begun.token in
    let before = c.loop-entry.pass in
    let left = c.loop-entry.layouts.entries.items in
    let rest = c.pop.new.self.items in
    let entry = c.in-Some.entry in
    let inv = c.loop-entry.invariant in
    let did = c.in-Ok-None.ensures in
    let popped : left ≡ rest ++ entry ∷ [] = c.in-Some.ensures.items in
    let on = subst (λ (o : Option Token). IsOpenOrEnded c.args.self.now c.loop-entry.token c.is_empty.result c.loop-entry.pass c.look_in.new.pass o) c.in-Ok-None.field-0-is c.in-Ok-None.ensures.goes_on in
    let none = eqb-true _ 0 (sym c.is_empty.ensures ∙ on.0) in
    let count : length rest ≡ 0 = search (rules, none) in
    subst (λ (es : List FindLayout). IsFoundBut (is_kept_by c.args.begun.search) pass token es c.look_in.new.out.found) (empty_by_length rest count)
    (found_more (is_kept_by c.args.begun.search) pass token rest left entry popped inv.apart c.loop-entry.out.found c.look_in.new.out.found inv.found
    (adds_later (is_kept_by c.args.begun.search) pass before token c.loop-entry.token entry.slices c.loop-entry.out.found c.look_in.new.out.found inv.same inv.number inv.seen did.found))

pub returns-in-Ok-None-clause-emptied : goal.returns-in-Ok-None-clause-emptied
returns-in-Ok-None-clause-emptied g c =
    let on = subst (λ (o : Option Token). IsOpenOrEnded c.args.self.now c.loop-entry.token c.is_empty.result c.loop-entry.pass c.look_in.new.pass o) c.in-Ok-None.field-0-is c.in-Ok-None.ensures.goes_on in
    let none = eqb-true _ 0 (sym c.is_empty.ensures ∙ on.0) in
    let count : length c.pop.new.self.items ≡ 0 = search (rules, none) in
    empty_by_length c.pop.new.self.items count

pub returns-in-Ok-None-clause-ended : goal.returns-in-Ok-None-clause-ended
returns-in-Ok-None-clause-ended g c =
    let inv = c.loop-entry.invariant in
    let on = subst (λ (o : Option Token). IsOpenOrEnded c.args.self.now c.loop-entry.token c.is_empty.result c.loop-entry.pass c.look_in.new.pass o) c.in-Ok-None.field-0-is c.in-Ok-None.ensures.goes_on in
    (ended_from c.args.self.now c.args.pass.now c.loop-entry.pass c.look_in.new.pass inv.number inv.seen on.1).0

pub returns-in-Ok-None-clause-rests : goal.returns-in-Ok-None-clause-rests
returns-in-Ok-None-clause-rests g c =
    let on = subst (λ (o : Option Token). IsOpenOrEnded c.args.self.now c.loop-entry.token c.is_empty.result c.loop-entry.pass c.look_in.new.pass o) c.in-Ok-None.field-0-is c.in-Ok-None.ensures.goes_on in
    on.1.1

pub returns-in-Ok-None-clause-number : goal.returns-in-Ok-None-clause-number
returns-in-Ok-None-clause-number g c = c.look_in.ensures.number ∙ c.loop-entry.invariant.number

-- no entry is left
pub drop_find-requires : goal.drop_find-requires
drop_find-requires g c =
    let inv = c.loop-entry.invariant in
    record { at = inv.at; finding = subst (λ (t : Token). IsFinding c.args.self.now t c.loop-entry.pass) (sym inv.same) inv.finding }

pub returns-clause-found : goal.returns-clause-found
returns-clause-found g c =
    let none = c.in_default.ensures.cases.0 in
    let count : length c.loop-entry.layouts.entries.items ≡ 0 = search (rules, none) in
    subst (λ (es : List FindLayout). IsFoundBut (is_kept_by c.args.begun.search) c.args.pass.now c.args.begun.token es c.loop-entry.out.found) (empty_by_length c.loop-entry.layouts.entries.items count) c.loop-entry.invariant.found

pub returns-clause-emptied : goal.returns-clause-emptied
returns-clause-emptied g c =
    let none = c.in_default.ensures.cases.1 in
    let count : length c.pop.new.self.items ≡ 0 = search (rules, none) in
    empty_by_length c.pop.new.self.items count

pub returns-clause-ended : goal.returns-clause-ended
returns-clause-ended g c =
    let inv = c.loop-entry.invariant in
    let pass = c.args.pass.now in
    let before = c.loop-entry.pass in
    let after = c.drop_find.new.pass.front in
    turn_from {answers = λ history. Unit {0}} pass.number pass.front before.front after (event.End pass.number ∷ []) inv.seen
    (subst (λ n. IsTurn n before.front after (λ history. Unit {0}) (event.End n ∷ [])) inv.number c.drop_find.ensures.turn)

pub returns-clause-number : goal.returns-clause-number
returns-clause-number g c = c.drop_find.ensures.number ∙ c.loop-entry.invariant.number
