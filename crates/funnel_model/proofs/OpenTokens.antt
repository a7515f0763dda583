-- The open tokens of the passes, event by event.
use Rattle.std.proofs.Common.{◌≡◌, ℕ, ◌+◌, ⊎_elim, Bool, true, false, List, [], ◌∷◌, ◌++◌, length, Some, sym, refl, ap, ◌∙◌, subst, append_assoc, inl, inr}
use Rattle.std.proofs.lemmas.Bool.{both_ways, cases_eq, eq-eqb, eqb-true, false≢true, ne_eqb}
use Rattle.std.specs.List.{list_any}
use Rattle.std.specs.Prelude.{◌==◌, ◌⊎◌}
use Rattle.funnel_model.specs.declared.event.Event.{Event}
use Rattle.funnel_model.specs.declared.event.Event.TheVariants as event
use Rattle.funnel_model.specs.Events.{finds_or_ends, pass_of}
use Rattle.funnel_model.specs.History.{last_by}
use Rattle.funnel_model.specs.Legal.{Limits, IsAllowed, IsLegal}
use Rattle.funnel_model.specs.Slices.{IsInUse}
use Rattle.funnel_model.specs.Tokens.{HasToken, MayRead}
use Rattle.funnel_model.proofs.Histories.{holds_of_legal}
use Rattle.funnel_model.proofs.LastEvents.{token_is_last}
use Rattle.funnel_model.proofs.LiveLemmas.{by_push}
use Rattle.funnel_model.proofs.NextEvents.{last_by_before, next_of_find}
use Rattle.funnel_model.proofs.Spans.{none-push, none_of_push, not_empty, split_at_end}

-- an event that begins or ends a find of the pass is a find or an end
pub finds_is : (pass : ℕ) (e : Event) → finds_or_ends pass e ≡ true → ((query : List ℕ) × (e ≡ event.Find pass query)) ⊎ (e ≡ event.End pass)
finds_is pass (event.Find finder query) is = let same : finder ≡ pass = eqb-true finder pass is in inl (query, cc)
finds_is pass (event.End ender) is = let same : ender ≡ pass = eqb-true ender pass is in inr (cc)
finds_is pass _ is = absurd (false≢true is)

-- a token that is open after an event of a find of its pass is that find's
pub token_now : (history : List Event) (e : Event) (pass number : ℕ) → finds_or_ends pass e ≡ true → HasToken (history ++ e ∷ []) pass number →
    (number ≡ length history + 1) × ((query : List ℕ) × (e ≡ event.Find pass query))
token_now history e pass number is token =
    ⊎_elim
    (λ end. (token.count ∙ ap (λ h. length h + 1) (sym end.1), (token.query, end.2)))
    (λ more. absurd (both_ways (finds_or_ends pass e)
    (none_of_push (finds_or_ends pass) more.0 e (ap (list_any (finds_or_ends pass)) (sym more.1) ∙ token.stays)).1 is))
    (split_at_end history token.earlier token.later e (event.Find pass token.query) token.whole)

-- a token that is open after another event was open before
pub token_before : (history : List Event) (e : Event) (pass number : ℕ) → finds_or_ends pass e ≡ false → HasToken (history ++ e ∷ []) pass number →
    HasToken history pass number
token_before history e pass number is_not token =
    ⊎_elim
    (λ end. absurd (both_ways (finds_or_ends pass e) is_not (ap (finds_or_ends pass) end.2 ∙ eq-eqb pass pass refl)))
    (λ more. record {
      earlier = token.earlier;
      query = token.query;
      later = more.0;
      whole = more.2;
      count = token.count;
      stays = (none_of_push (finds_or_ends pass) more.0 e (ap (list_any (finds_or_ends pass)) (sym more.1) ∙ token.stays)).0;
    })
    (split_at_end history token.earlier token.later e (event.Find pass token.query) token.whole)

-- and stays open with it
abbrev pub token_after : (history : List Event) (e : Event) (pass number : ℕ) → finds_or_ends pass e ≡ false → HasToken history pass number →
    HasToken (history ++ e ∷ []) pass number
token_after history e pass number is_not token = record {
  earlier = token.earlier;
  query = token.query;
  later = token.later ++ e ∷ [];
  whole = ap (λ h. h ++ e ∷ []) token.whole ∙ append_assoc token.earlier (event.Find pass token.query ∷ token.later) (e ∷ []);
  count = token.count;
  stays = none-push (finds_or_ends pass) token.later e token.stays is_not;
}

-- the pass has one open token, or none
abbrev pub HasOneToken : ℕ → List Event → Type 0
HasOneToken pass history =
    ((number : ℕ) × HasToken history pass number × ((other : ℕ) → HasToken history pass other → other ≡ number))
    ⊎ ((other : ℕ) → HasToken history pass other → ⊥)

-- it has one or none after one more event
one_token-push : (pass : ℕ) (history : List Event) (e : Event) → HasOneToken pass history → (b : Bool) → finds_or_ends pass e ≡ b →
    HasOneToken pass (history ++ e ∷ [])
one_token-push pass history e before false is =
    ⊎_elim
    (λ one. inl (one.0, token_after history e pass one.0 is one.1, λ other token. one.2 other (token_before history e pass other is token)))
    (λ none. inr (λ other token. none other (token_before history e pass other is token)))
    before
one_token-push pass history e before true is =
    ⊎_elim
    (λ find. inl (
      length history + 1,
      subst (λ x. HasToken (history ++ x ∷ []) pass (length history + 1)) (sym find.1)
          (record { earlier = history; query = find.0; later = []; whole = refl; count = refl; stays = refl }),
      λ other token. (token_now history e pass other is token).0,
    ))
    (λ end. inr (λ other token. let find = (token_now history e pass other is token).1.1 in cc))
    (finds_is pass e is)

-- whatever the history, a pass has one open token or none
pub one_token : (pass : ℕ) (history : List Event) → HasOneToken pass history
one_token pass =
    by_push (HasOneToken pass) (inr (λ other token. not_empty token.earlier token.later (event.Find pass token.query) (sym token.whole)))
    (λ h e before. one_token-push pass h e before (finds_or_ends pass e) refl)

-- an event of another pass neither begins nor ends a find of this one
pub finds_other : (pass : ℕ) (e : Event) → (pass_of e ≡ pass → ⊥) → finds_or_ends pass e ≡ false
finds_other pass (event.Find finder query) other = ne_eqb finder pass other
finds_other pass (event.End ender) other = ne_eqb ender pass other
finds_other pass _ other = refl

-- a pass whose last event is a find has an open token
pub last_has_token : (pass : ℕ) (query : List ℕ) (history : List Event) → last_by pass history ≡ Some (event.Find pass query) →
    (number : ℕ) × HasToken history pass number
last_has_token pass query =
    by_push (λ h. last_by pass h ≡ Some (event.Find pass query) → (number : ℕ) × HasToken h pass number) (λ none. cc)
    (λ h e before last. ⊎_elim
    (λ own. (
      length h + 1,
      record { earlier = h; query = query; later = []; whole = ap (λ x. h ++ x ∷ []) own.1; count = refl; stays = refl },
    ))
    (λ other. let token = before other.1 in (token.0, token_after h e pass token.0 (finds_other pass e other.0) token.1))
    (last_by_before pass h e (event.Find pass query) last))

-- no open token has an event of its pass after its find
abbrev AreSilent : List Event → Type 0
AreSilent history = (pass number : ℕ) (token : HasToken history pass number) → list_any (λ e. pass_of e == pass) token.later ≡ false

-- an event that is allowed is none of a pass whose token stays open
not_of_reader : (limits : Limits) (history : List Event) (e : Event) (pass number : ℕ) → IsLegal limits history → IsAllowed limits history e →
    HasToken history pass number → finds_or_ends pass e ≡ false → (pass_of e == pass) ≡ false
not_of_reader limits history e pass number legal allowed token stays =
    ⊎_elim
    (λ own.
    let find = token_is_last limits history pass number legal token in
    let next = next_of_find limits history e pass find.0 allowed (ap (λ p. last_by p history) own ∙ find.1) in
    absurd (both_ways (finds_or_ends pass e) stays (ap (finds_or_ends pass) next ∙ eq-eqb pass pass refl)))
    (λ other. ne_eqb (pass_of e) pass other)
    (cases_eq (pass_of e) pass)

-- they stay silent with an event that is allowed
silent-push : (limits : Limits) (history : List Event) (e : Event) → IsLegal limits history → AreSilent history → IsAllowed limits history e →
    AreSilent (history ++ e ∷ [])
silent-push limits history e legal before allowed pass number token =
    let own = λ (x : Event). pass_of x == pass in
    ⊎_elim
    (λ end. ap (list_any own) end.0)
    (λ more.
    let kept = none_of_push (finds_or_ends pass) more.0 e (ap (list_any (finds_or_ends pass)) (sym more.1) ∙ token.stays) in
    let was : HasToken history pass number = record {
      earlier = token.earlier;
      query = token.query;
      later = more.0;
      whole = more.2;
      count = token.count;
      stays = kept.0;
    } in
    ap (list_any own) more.1
    ∙ none-push own more.0 e (before pass number was) (not_of_reader limits history e pass number legal allowed was kept.1))
    (split_at_end history token.earlier token.later e (event.Find pass token.query) token.whole)

-- a pass whose token is open has made no event since its find
pub token_is_silent : (limits : Limits) (history : List Event) (pass number : ℕ) → IsLegal limits history → (token : HasToken history pass number) →
    list_any (λ e. pass_of e == pass) token.later ≡ false
token_is_silent limits history pass number legal =
    holds_of_legal limits AreSilent (λ p n token. absurd (not_empty token.earlier token.later (event.Find p token.query) (sym token.whole)))
    (λ h e is_legal before allowed. silent-push limits h e is_legal before allowed) history legal pass number

-- a token that may read a slice may do so after an event of another pass
pub may_read-push : (columns : ℕ) (history : List Event) (e : Event) (pass slice : ℕ) → finds_or_ends pass e ≡ false → MayRead columns history pass slice →
    MayRead columns (history ++ e ∷ []) pass slice
may_read-push columns history e pass slice is_not read = record {
  number = read.number;
  token = token_after history e pass read.number is_not read.token;
  in_use = read.in_use;
}

-- one that may read it after an event did so before, or began with that event, while the slice was in use
pub may_read_before : (columns : ℕ) (history : List Event) (e : Event) (pass slice : ℕ) → MayRead columns (history ++ e ∷ []) pass slice →
    (IsInUse columns slice history × (query : List ℕ) × (e ≡ event.Find pass query)) ⊎ MayRead columns history pass slice
may_read_before columns history e pass slice read =
    let token = read.token in
    ⊎_elim
    (λ end. inl (subst (IsInUse columns slice) (sym end.1) read.in_use, token.query, end.2))
    (λ more. inr (record {
      number = read.number;
      token = record {
        earlier = token.earlier;
        query = token.query;
        later = more.0;
        whole = more.2;
        count = token.count;
        stays = (none_of_push (finds_or_ends pass) more.0 e (ap (list_any (finds_or_ends pass)) (sym more.1) ∙ token.stays)).0;
      };
      in_use = read.in_use;
    }))
    (split_at_end history token.earlier token.later e (event.Find pass token.query) token.whole)

-- before the first event no token is open
pub no_token_at_start : (pass number : ℕ) → HasToken [] pass number → ⊥
no_token_at_start pass number token = not_empty token.earlier token.later (event.Find pass token.query) (sym token.whole)

-- a pass has one token
pub token_is_one : (history : List Event) (pass number other : ℕ) → HasToken history pass number → HasToken history pass other → number ≡ other
token_is_one history pass number other token also =
    ⊎_elim (λ one. one.2 number token ∙ sym (one.2 other also)) (λ none. absurd (none number token)) (one_token pass history)
