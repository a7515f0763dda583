use Rattle.std.proofs.Common.{refl, arith, rules, sym, subst}
use Rattle.funnel_model.specs.RowWords.{IsCommitted}
use Rattle.slice_rule.specs.declared.view.Fact.TheVariants as fact
use Rattle.slice_rule.specs.Seats.{PassState}
use Rattle.slice_rule.specs.Views.{last_of}
use Rattle.slice_rule.proofs.OwnSteps as steps
use Rattle.slice_rule.proofs.Reading.{reads}
use Rattle.slice_rule.proofs.pool.Pool.read_word.Goals as goal

pub overflow_add-self-inside : goal.overflow_add-self-inside
overflow_add-self-inside c =
    let at = steps.at c.self.invariant c.self.view_is c.seat.invariant c.seat.view_is c.requires.pool in
    let fits = (steps.token_word at c.args.token.now c.args.word c.requires.token c.requires.inside).fits in
    omega arith

pub load-requires : goal.load-requires
load-requires c =
    let at = steps.at c.self.invariant c.self.view_is c.seat.invariant c.seat.view_is c.requires.pool in (
      search rules,
      (steps.token_word at c.args.token.now c.args.word c.requires.token c.requires.inside).within,
      rw (c.self.invariant.row) (reads c.self.inside.table.shared.key.sizes c.self.inside.table.shared.key.config.shared.key c.self.inside.table.shared.table_id.slots c.seat.inside.seat.id c.seat.inside.seat.me
          c.seat.inside.number c.args.word (steps.sizes_are at) (steps.made_with at) c.seat.invariant.role (steps.all_seen at c.requires.none_outstanding)),
    )

pub invariant_of-seat : goal.invariant_of-seat
invariant_of-seat c =
    let at = steps.at c.self.invariant c.self.view_is c.seat.invariant c.seat.view_is c.requires.pool in
    steps.own_seat at (fact.WordRead (last_of c.seat.inside.seat.me.0) c.args.word c.load.result) refl (c.load.ensures.2.view c.args.word (steps.there at c.args.word))

pub returns-clause-seat : goal.returns-clause-seat
returns-clause-seat c =
    let at = steps.at c.self.invariant c.self.view_is c.seat.invariant c.seat.view_is c.requires.pool in
    steps.own_view at (λ n. fact.WordRead n c.args.word c.load.result) (steps.token_number at c.args.token.now c.requires.token) c.load.ensures.0
    (c.load.ensures.2.view c.args.word (steps.there at c.args.word))

pub returns-clause-least : goal.returns-clause-least
returns-clause-least c = λ slice bit has committed.
    let at = steps.at c.self.invariant c.self.view_is c.seat.invariant c.seat.view_is c.requires.pool in
    c.load.ensures.2.least c.args.word slice bit (steps.there at c.args.word) (steps.token_reads at c.args.token.now c.requires.token slice has)
    (subst (λ (s : PassState). IsCommitted s.front slice (record { word = c.args.word; bit = bit })) (sym c.seat.view_is) committed)

pub returns-clause-owned : goal.returns-clause-owned
returns-clause-owned c = λ slice column bit event may set owns stands.
    let at = steps.at c.self.invariant c.self.view_is c.seat.invariant c.seat.view_is c.requires.pool in
    c.load.ensures.2.owned c.args.word slice column bit event (steps.there at c.args.word) (steps.reads_here at slice may) set
    (steps.owns_here at slice column (record { word = c.args.word; bit = bit }) owns) (steps.stands_here at slice column event stands)
