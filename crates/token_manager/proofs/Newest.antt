-- The newest of the tokens that were looked at, and what it is once a token is opened or ended.
use Rattle.std.proofs.Common.{◌≡◌, ◌≢◌, ◌⊎◌, ⊎_elim, inl, inr, ℕ, suc, ◌<◌, ◌≤◌, Bool, true, false, cond, List, length, get_or, set, replicate, Option, Some, None, refl, sym, ◌∙◌, subst, arith, MatchOption}
use Rattle.std.specs.Prelude.{◌==◌, nat_le}
use Rattle.std.proofs.lemmas.Bool.{both_ways, cases_eq, eq-eqb, leb-false, leb-true}
use Rattle.std.proofs.lemmas.Bool.Decides.{leb_tells}
use Rattle.std.proofs.lemmas.List.{get_or-replicate, get_or-set_other, get_or-set_same, get_or_past, length-replicate}
use Rattle.token_manager.specs.Guarding.{HasOpened, IsNewestIn, IsWithin, is_of, newer}

-- of the first tokens, none was opened before the event, or this is the newest that was
pub record IsNewestBelow (tokens : List (Option ℕ)) (n : ℕ) (until : Option ℕ) (pass event : ℕ) : Type 0 where
  pub below : pass < n
  pub opened : HasOpened tokens pass event
  pub within : IsWithin until event
  pub newest : (other later : ℕ) → other < n → HasOpened tokens other later → IsWithin until later → later ≤ event

abbrev pub NoneBelow : List (Option ℕ) → ℕ → Option ℕ → Type 0
NoneBelow tokens n until = (pass event : ℕ) → pass < n → HasOpened tokens pass event → IsWithin until event → ⊥

abbrev pub IsNewestOf : List (Option ℕ) → ℕ → Option ℕ → Option (ℕ × ℕ) → Type 0
IsNewestOf tokens n until found = MatchOption found (NoneBelow tokens n until) (λ f. IsNewestBelow tokens n until f.0 f.1)

some_same : (x y : ℕ) → Some x ≡ Some y → x ≡ y
some_same x y is = cc

none_some : (y : ℕ) → None ≡ Some y → ⊥
none_some y is = cc

-- a pass with an open token is one of the list
pub pass_within : (tokens : List (Option ℕ)) (pass event : ℕ) → HasOpened tokens pass event → pass < length tokens
pass_within tokens pass event opened =
    ⊎_elim (λ is. is.1) (λ not. absurd (none_some event (sym (get_or_past tokens pass None (let h = not.1 in omega arith)) ∙ opened))) (leb_tells (suc pass) (length tokens))

-- all are looked at
pub newest-all : (tokens : List (Option ℕ)) (until : Option ℕ) (found : Option (ℕ × ℕ)) → IsNewestOf tokens (length tokens) until found → IsNewestIn tokens until found
newest-all tokens until None none = λ pass event opened within. none pass event (pass_within tokens pass event opened) opened within
newest-all tokens until (Some found) is = record {
  opened = is.opened;
  within = is.within;
  newest = λ other later opened within. is.newest other later (pass_within tokens other later opened) opened within;
}

-- the token of a pass that had none is opened
opened_now : (tokens : List (Option ℕ)) (pass event other later : ℕ) → pass < length tokens → HasOpened (set tokens pass (Some event)) other later →
    ((other ≡ pass) × (event ≡ later)) ⊎ ((other ≢ pass) × HasOpened tokens other later)
opened_now tokens pass event other later in' opened =
    ⊎_elim
    (λ (same : other ≡ pass).
    inl (same, some_same event later (sym (get_or-set_same tokens pass (Some event) None in') ∙ subst (λ k. HasOpened (set tokens pass (Some event)) k later) same opened)))
    (λ (apart : other ≢ pass). inr (apart, sym (get_or-set_other tokens pass other (Some event) None apart) ∙ opened))
    (cases_eq other pass)

pub newest-opened : (tokens : List (Option ℕ)) (pass event : ℕ) (found : Option (ℕ × ℕ)) → pass < length tokens → get_or tokens pass None ≡ None → IsNewestIn tokens None found →
    IsNewestIn (set tokens pass (Some event)) None (newer found pass event)
newest-opened tokens pass event None in' before none = record {
  opened = get_or-set_same tokens pass (Some event) None in';
  within = tt;
  newest = λ other later opened within.
      ⊎_elim (λ same. let e = same.1 in omega (arith, e)) (λ apart. absurd (none other later apart.1 tt)) (opened_now tokens pass event other later in' opened);
}
newest-opened tokens pass event (Some found) in' before is = by (nat_le event found.1) refl where
  apart_from : found.0 ≢ pass
  apart_from same = none_some found.1 (sym before ∙ subst (λ k. HasOpened tokens k found.1) same is.opened)

  by : (b : Bool) → nat_le event found.1 ≡ b → IsNewestIn (set tokens pass (Some event)) None (cond b (Some found) (Some (pass, event)))
  by true less = record {
    opened = get_or-set_other tokens pass found.0 (Some event) None apart_from ∙ is.opened;
    within = tt;
    newest = λ other later opened within.
        ⊎_elim (λ same. let e = same.1 in let h = leb-true event found.1 less in omega (arith, e, h)) (λ apart. is.newest other later apart.1 tt) (opened_now tokens pass event other later in' opened);
  }
  by false more = record {
    opened = get_or-set_same tokens pass (Some event) None in';
    within = tt;
    newest = λ other later opened within.
        ⊎_elim (λ same. let e = same.1 in omega (arith, e))
        (λ apart. let h = is.newest other later apart.1 tt in let k = leb-false event found.1 more in omega (arith, h, k)) (opened_now tokens pass event other later in' opened);
  }

-- a token is ended that isn't the newest
ended_before : (tokens : List (Option ℕ)) (pass other later : ℕ) → pass < length tokens → HasOpened (set tokens pass None) other later → HasOpened tokens other later
ended_before tokens pass other later in' opened =
    ⊎_elim
    (λ (same : other ≡ pass). absurd (none_some later (sym (get_or-set_same tokens pass None None in') ∙ subst (λ k. HasOpened (set tokens pass None) k later) same opened)))
    (λ (apart : other ≢ pass). sym (get_or-set_other tokens pass other None None apart) ∙ opened)
    (cases_eq other pass)

pub newest-ended : (tokens : List (Option ℕ)) (pass : ℕ) (found : Option (ℕ × ℕ)) → pass < length tokens → is_of found pass ≡ false → IsNewestIn tokens None found →
    IsNewestIn (set tokens pass None) None found
newest-ended tokens pass None in' other none = λ p event opened within. none p event (ended_before tokens pass p event in' opened) within
newest-ended tokens pass (Some found) in' other is = record {
  opened = get_or-set_other tokens pass found.0 None None (λ same. both_ways (found.0 == pass) other (eq-eqb found.0 pass same)) ∙ is.opened;
  within = tt;
  newest = λ p later opened within. is.newest p later (ended_before tokens pass p later in' opened) tt;
}

-- where no pass has a token, none is the newest
pub none-opened : (passes : ℕ) → IsNewestIn (replicate passes None) None None
none-opened passes = λ pass event opened within.
    none_some event
    (sym
    (⊎_elim (λ in'. get_or-replicate passes pass None None in'.1)
    (λ past. get_or_past (replicate passes None) pass None (let h = length-replicate {A = Option ℕ} passes None in let p = past.1 in omega (arith, h, p)))
    (leb_tells (suc pass) passes))
    ∙ opened)
