use Rattle.std.proofs.Common.{◌≡◌, ℕ, List, ◌++◌, filter_map, sym, ap, ◌∙◌, subst}
use Rattle.std.specs.List.{slice_range}
use Rattle.document_store.specs.Finding.{EndsTurn, kept_at, looked_at}
use Rattle.funnel_model.specs.History.{IsFrontOf}
use Rattle.slice_rule.specs.Pools.{PoolId}
use Rattle.commit_desk.specs.Desks.{DeskState}
use Rattle.commit_desk.specs.Passes.{IsFinding}
use Rattle.commit_desk.specs.Scans.{AreOfToken}
use Rattle.commit_desk.proofs.FindEnds.{candidates_look, columns_in_table, finding_still, part_gives}
use Rattle.commit_desk.proofs.Given.{Contains-range}
use Rattle.funnel_model.specs.Tokens.{HasToken}
use Rattle.commit_desk.proofs.FindTurns.{begun_later}
use Rattle.commit_desk.proofs.Inside.{desk_of}
use Rattle.commit_desk.proofs.Keeping.{column-left}
use Rattle.commit_desk.proofs.LeftLooks.{kept-each, looked-each}
use Rattle.commit_desk.proofs.desk.Desk.resolve_part.Goals as goal

same_limits : (desk now : DeskState) (pool : PoolId) → desk ≡ now → pool ≡ now.pool → pool.limits ≡ desk.pool.limits
same_limits desk now pool view same = ap (λ (p : PoolId). p.limits) (same ∙ sym (ap (λ (d : DeskState). d.pool) view))

pub resolve_part-requires-clause-in_range : goal.resolve_part-requires-clause-in_range
resolve_part-requires-clause-in_range g c slice column has =
    let i = c.self.inside in
    let seat = c.args.seat.now in
    let token = c.args.token.now in
    let candidates = c.args.part.candidates.now in
    let is = c.requires.finding in
    column-left c.self.invariant.whole i.records slice column c.self.invariant.left
    (columns_in_table i.home.pool.limits i.home.history c.self.invariant.whole seat token candidates c.self.invariant.desk.kept.recorded
    (same_limits (desk_of i) c.args.self.now seat.pool c.self.view_is is.seated.same) is.holds
    (subst (λ (d : DeskState). AreOfToken d.pool.limits.columns token candidates) (sym c.self.view_is) c.requires.of_token) slice column has)

pub returns-clause-found : goal.returns-clause-found
returns-clause-found g c begun =
    let i = c.self.inside in
    let kept = c.self.invariant.desk.kept in
    let seat = c.args.seat.now in
    let token = c.args.token.now in
    let candidates = c.args.part.candidates.now in
    let test = g.J.Judge.test c.args.part.judge.now in
    let cost = g.J.Judge.cost c.args.part.judge.now in
    let is = c.requires.finding in
    let up = c.catch_up.ensures in
    let goes : IsFrontOf seat.number seat.front i.home.history =
    subst (λ h. IsFrontOf seat.number seat.front h) (up.front ∙ up.home.history) (subst (λ n. IsFrontOf n seat.front c.catch_up.new.seat.front) up.seat.number up.none_since) in
    let same = same_limits (desk_of i) c.args.self.now seat.pool c.self.view_is is.seated.same in
    let of_token : AreOfToken i.home.pool.limits.columns token candidates =
    subst (λ (d : DeskState). AreOfToken d.pool.limits.columns token candidates) (sym c.self.view_is) c.requires.of_token in
    let part = slice_range candidates c.args.part.from c.resolve_part.result in
    let whole = c.self.invariant.whole in
    let in_table = columns_in_table i.home.pool.limits i.home.history whole seat token candidates kept.recorded same is.holds of_token in
    let open_now : HasToken i.home.history seat.number token.opened_at = begun_later seat.number token.opened_at seat.front i.home.history is.holds.begun goes in
    let opened = (kept.tokens_are.each seat.number token.opened_at).1 open_now in
    let documents = c.self.invariant.documents in
    let left = c.self.invariant.left in
    record {
      more = filter_map (kept_at c.self.invariant.whole test token.opened_at) part;
      given =
          part_gives i.home.pool.config i.home.pool.limits i.home.history c.self.invariant.whole kept.legal kept.sound kept.recorded seat same goes token is.holds candidates of_token begun test part
          (λ candidate has. Contains-range candidates c.args.part.from c.resolve_part.result candidate has);
      found = c.resolve_part.ensures.found
          ∙ ap (λ (more : List (ℕ × ℕ)). c.args.out.now.found ++ more)
          (kept-each i.tokens whole i.records i.leaving left documents seat.number token.opened_at opened test part
          (λ slice column has. in_table slice column (Contains-range candidates c.args.part.from c.resolve_part.result (slice, column) has)));
      turn = (
        looked_at i.records cost token.opened_at,
        looked-each i.tokens whole i.records i.leaving left documents seat.number token.opened_at opened begun.earlier cost candidates in_table
            (candidates_look i.home.pool.config i.home.pool.limits i.home.history c.self.invariant.whole kept.legal kept.sound kept.recorded seat same goes token is.holds candidates of_token begun cost),
        subst (λ n. EndsTurn candidates (looked_at i.records n token.opened_at) c.args.part.from c.resolve_part.result) c.cost-cost.ensures c.resolve_part.ensures.turn,
      );
    }

pub returns-clause-finding : goal.returns-clause-finding
returns-clause-finding g c =
    let up = c.catch_up.ensures in
    let seat = c.args.seat.now in
    let next = c.catch_up.new.seat in
    let token = c.args.token.now in
    let pool : c.args.self.now.pool ≡ c.catch_up.new.home.pool = sym (up.home.pool ∙ ap (λ (d : DeskState). d.pool) c.self.view_is) in
    subst (λ (p : PoolId). IsFinding p token next) pool
    (finding_still c.args.self.now.pool seat next token up.seat (subst (λ n. IsFrontOf n seat.front next.front) up.seat.number up.none_since) up.none_outstanding c.requires.finding)
