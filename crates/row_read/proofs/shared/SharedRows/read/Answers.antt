use Rattle.std.proofs.Common.{◌≡◌, ⊎_elim, IsBitSet, refl, sym, ap, subst}
use Rattle.slice_rule.specs.declared.view.Fact.TheVariants as fact
use Rattle.slice_rule.specs.Seats.{PassState, WasReadUnder}
use Rattle.std.specs.Prelude.{ℕ, ◌↔◌, Contains}
use Rattle.funnel_model.specs.RowWords.{IsCommitted}
use Rattle.row_read.specs.declared.shared.Shared.{Shared}
use Rattle.row_read.specs.SharedRows.{CanRead, IsCommittedUnder, SharedKept}
use Rattle.funnel_model.proofs.AnswerLemmas.{Contains-cons, contains_first}
use Rattle.row_read.proofs.Readings.{seen_by_read}
use Rattle.row_read.proofs.shared.SharedRows.read.Goals as goal

-- what is kept where the pass is in this state
abbrev kept_by : Shared → PassState → SharedKept
kept_by shared s = record {
  pool = shared.pool.now;
  token = shared.token.now;
  borrow = shared.seat.ghost_name;
  seat_pool = s.pool;
  number = s.number;
  front = s.front;
  asked = s.asked;
}

pub returns-clause-stays : goal.returns-clause-stays
returns-clause-stays c =
    let before = c.args.self.now.seat.now in
    let pool = c.args.self.now.pool.now in
    let token = c.args.self.now.token.now in
    let is = c.requires.reach.can_read in
    let seat = c.read_word.ensures.seat in
    let after : CanRead pool c.read_word.new.seat token = subst (λ (s : PassState). CanRead pool s token) (sym seat) (record {
      same = is.same;
      holds = record { begun = is.holds.begun; at_place = is.holds.at_place; slices = is.holds.slices };
      none_outstanding = is.none_outstanding;
    }) in
    let f = fact.WordRead token.opened_at c.args.word c.read_word.result in
    record {
      reach_stays = λ other. (
        λ r. record { can_read = after; slice = r.slice; readable = r.readable; inside = r.inside },
        λ r. record { can_read = is; slice = r.slice; readable = r.readable; inside = r.inside },
      );
      least_stays = λ bit.
          subst (λ (s : PassState). IsCommittedUnder c.args.self.now bit ↔ ((slice : ℕ) × Contains token.slices slice × IsCommitted s.front slice bit)) (sym seat)
          (λ r. r, λ r. r);
      seen_stays = λ bit seen. subst (λ (s : PassState). WasReadUnder s token.opened_at bit) (sym seat) (record {
        value = seen.value;
        read = Contains-cons f before.own (fact.WordRead token.opened_at bit.word seen.value) seen.read;
        set = seen.set;
        owned = seen.owned;
      });
      told_stays = refl;
      same_kept = ap (kept_by c.args.self.now) seat;
    }

pub returns-clause-least : goal.returns-clause-least
returns-clause-least c = λ bit under. c.read_word.ensures.least under.0 bit under.1 under.2

pub returns-clause-seen : goal.returns-clause-seen
returns-clause-seen c = λ bit.
    let before = c.args.self.now.seat.now in
    let number = c.args.self.now.token.now.opened_at in
    let f = fact.WordRead number c.args.word c.read_word.result in
    let seat = c.read_word.ensures.seat in (
      λ seen. seen_by_read before number c.args.word c.read_word.result bit (subst (λ (s : PassState). WasReadUnder s number bit) seat seen),
      ⊎_elim
          (λ (seen : WasReadUnder before number bit). subst (λ (s : PassState). WasReadUnder s number bit) (sym seat) (record {
            value = seen.value;
            read = Contains-cons f before.own (fact.WordRead number bit.word seen.value) seen.read;
            set = seen.set;
            owned = seen.owned;
          }))
          (λ (now : (bit.word ≡ c.args.word) × IsBitSet c.read_word.result bit.bit).
          subst (λ w. WasReadUnder c.read_word.new.seat number (record { word = w; bit = bit.bit })) (sym now.0)
          (subst (λ (s : PassState). WasReadUnder s number (record { word = c.args.word; bit = bit.bit })) (sym seat) (record {
            value = c.read_word.result;
            read = contains_first f before.own;
            set = now.1;
            owned = λ slice column event may. c.read_word.ensures.owned slice column bit.bit event may now.1;
          }))),
    )
