-- A pass with a running find catches up.
use Rattle.std.proofs.Common.{◌≡◌, ◌↔◌, ℕ, ◌<◌, false, List, [], ◌∷◌, ◌++◌, refl, sym, ap, ◌∙◌, subst, append_assoc, Contains}
use Rattle.std.specs.List.{list_any}
use Rattle.std.specs.Prelude.{◌==◌}
use Rattle.std.proofs.lemmas.Bool.{eqb-false, or_from, or_parts}
use Rattle.std.proofs.lemmas.List.Folds.{list_any-append}
use Rattle.funnel_model.specs.declared.claim.Token.{Token}
use Rattle.funnel_model.specs.declared.event.Event.TheVariants as event
use Rattle.funnel_model.specs.Events.{finds_or_ends, pass_of}
use Rattle.funnel_model.specs.Slices.{IsInUse}
use Rattle.funnel_model.specs.Tokens.{HasToken}
use Rattle.funnel_model.proofs.OpenTokens.{finds_other}
use Rattle.slice_rule.specs.Pools.{PoolId}
use Rattle.funnel_model.specs.declared.event.Event.{Event}
use Rattle.funnel_model.specs.History.{IsFrontOf}
use Rattle.slice_rule.specs.Seats.{HoldsToken, HomeState, IsSameHome, IsSamePass, PassState}
use Rattle.commit_desk.specs.Desks.{DeskState}

-- a desk whose pass caught up
pub desk_is : (now : DeskState) (home next : HomeState) (limit : ℕ) → record { pool = home.pool; events_limit = limit; history = home.history } ≡ now → IsSameHome home next →
    record { pool = next.pool; events_limit = limit; history = next.history } ≡ now
desk_is now home next limit view same =
    ap (λ (p : PoolId). let desk : DeskState = record { pool = p; events_limit = limit; history = next.history } in desk) same.pool
    ∙ ap (λ (h : List Event). let desk : DeskState = record { pool = home.pool; events_limit = limit; history = h } in desk) same.history
    ∙ view

-- events of other passes begin and end no find of this one
pub silent_finds : (pass : ℕ) (later : List Event) → list_any (λ e. pass_of e == pass) later ≡ false → list_any (finds_or_ends pass) later ≡ false
silent_finds pass [] silent = refl
silent_finds pass (e ∷ later) silent =
    let parts = or_parts (pass_of e == pass) (list_any (λ x. pass_of x == pass) later) silent in
    or_from (finds_or_ends pass e) (list_any (finds_or_ends pass) later) (finds_other pass e (eqb-false (pass_of e) pass parts.0)) (silent_finds pass later parts.1)

-- a find stays open while its pass makes no event
abbrev pub begun_later : (pass number : ℕ) (front history : List Event) → HasToken front pass number → IsFrontOf pass front history → HasToken history pass number
begun_later pass number front history begun goes = record {
  earlier = begun.earlier;
  query = begun.query;
  later = begun.later ++ goes.later;
  whole = goes.whole ∙ ap (λ h. h ++ goes.later) begun.whole ∙ append_assoc begun.earlier (event.Find pass begun.query ∷ begun.later) goes.later;
  count = begun.count;
  stays = list_any-append (finds_or_ends pass) begun.later goes.later
      ∙ or_from (list_any (finds_or_ends pass) begun.later) (list_any (finds_or_ends pass) goes.later) begun.stays (silent_finds pass goes.later goes.silent);
}

-- a pass that holds a token holds it after it caught up
pub token_kept : (seat next : PassState) (token : Token) → IsSamePass seat next → IsFrontOf seat.number seat.front next.front → HoldsToken seat token → HoldsToken next token
token_kept seat next token same goes holds =
    let begun = holds.begun in
    let later = begun_later seat.number token.opened_at seat.front next.front begun goes in
    record {
      begun = record {
        earlier = begun.earlier;
        query = begun.query;
        later = later.later;
        whole = later.whole ∙ ap (λ n. begun.earlier ++ event.Find n begun.query ∷ later.later) (sym same.number);
        count = begun.count;
        stays = subst (λ n. list_any (finds_or_ends n) later.later ≡ false) (sym same.number) later.stays;
      };
      at_place = holds.at_place;
      slices = subst (λ (p : PoolId). (slice : ℕ) → Contains token.slices slice ↔ ((slice < p.limits.slices) × IsInUse p.limits.columns slice begun.earlier)) (sym same.pool) holds.slices;
    }
