use Rattle.std.proofs.Common.{List, [], ◌∷◌, Contains, sym, subst, refl, arith}
use Rattle.std.proofs.lemmas.List.Elements.{Contains-append_right}
use Rattle.funnel_model.specs.declared.event.Event.{Event}
use Rattle.funnel_model.specs.declared.event.Event.TheVariants as event
use Rattle.slice_recycler.proofs.Steps.{turn_grows}
use Rattle.engine.proofs.laws.adds_are_made_with_their_bits.Goals as goal

pub returns : goal.returns
returns c config limits pass id place text before after turns =
    let own = turns.own in
    let made = event.Add pass id text own.claim.slice own.claim.column own.bits in
    record {
      claim = own.claim;
      bits = own.bits;
      claimed = own.middle;
      grows = turn_grows pass own.middle after (made ∷ []) own.committed;
      has = subst (λ (h : List Event). Contains h made) (sym own.committed.made) (Contains-append_right own.committed.earlier (made ∷ []) made (0, omega arith, refl));
      of_text = own.of_text;
    }
