-- What the candidates of scanned slices give by the history before the find: those where the search is sure by the rest of its words, and those
-- where it is unsure by what else it asks too.
use Rattle.std.proofs.Common.{◌≡◌, ℕ, ◌&&◌, Bool, not, Option, Some, None, List, [], ◌∷◌, ◌++◌, refl, sym, ap, ◌∙◌, subst, arith, append-nil, append_assoc, Contains}
use Rattle.std.proofs.lemmas.Bool.{and_parts, false≢true}
use Rattle.std.proofs.lemmas.List.Elements.{Contains-append_left}
use Rattle.commit_desk.proofs.FindEnds.{begun_once}
use Rattle.commit_desk.proofs.Given.{given_both}
use Rattle.commit_desk.proofs.ScanTexts.{miss_none, tell_texts}
use Rattle.commit_desk.specs.declared.find_layouts.FindLayout.{FindLayout}
use Rattle.commit_desk.specs.Judging.{AreGivenWhere, GiveAllIn, GivesWhere}
use Rattle.commit_desk.specs.Laws.{IsScanAfter}
use Rattle.commit_desk.specs.Resolving.{IsRestOf}
use Rattle.commit_desk.specs.Scans.{keeps_text, token_of}
use Rattle.engine.proofs.CandidateParts.{pairs-append}
use Rattle.engine.proofs.FindParts.{begun_at}
use Rattle.engine.proofs.Finds.{rest_is}
use Rattle.engine.specs.Engines.{IsOfConfig}
use Rattle.engine.specs.Finds.{AddsFound, CanLookIn, FindsIn}
use Rattle.engine.specs.Looks.{FindsBoth, rest_of}
use Rattle.engine.specs.Scans.{IsScannedEntry}
use Rattle.engine.specs.Searches.{is_kept_by, residue_of}
use Rattle.engine.specs.declared.scanning.Scanned.{Scanned}
use Rattle.engine.specs.declared.search.Search.{Search}
use Rattle.funnel_model.proofs.AnswerLemmas.{Contains-cons}
use Rattle.funnel_model.specs.declared.claim.Token.{Token}
use Rattle.funnel_model.specs.declared.event.Event.{Event}
use Rattle.funnel_model.specs.History.{Document, IsFrontOf}
use Rattle.funnel_model.specs.Legal.{IsLegal, Limits}
use Rattle.funnel_model.specs.Searches.{has_all}
use Rattle.funnel_model.specs.Sizes.{columns_of_slice}
use Rattle.funnel_model.specs.Slices.{IsInUse, IsLiveOn}
use Rattle.funnel_model.specs.Tokens.{HasToken}
use Rattle.slice_rule.specs.Pools.{PoolId}
use Rattle.slice_rule.specs.Seats.{PassState}

-- what a candidate gives by one test it gives by another, where these agree on each document that was live there
gives_as : (earlier : List Event) (one other : List ℕ → Bool) (candidate : ℕ × ℕ) (given : Option (ℕ × ℕ))
    → ((d : Document) (since : ℕ) → IsLiveOn earlier candidate.0 candidate.1 d since → one d.text ≡ other d.text) → GivesWhere earlier one candidate given → GivesWhere earlier other candidate given
gives_as earlier one other candidate (Some found) same (d, since, lives, has, is) = (d, since, lives, sym (same d since lives) ∙ has, is)
gives_as earlier one other candidate None same none = λ d since lives. sym (same d since lives) ∙ none d since lives

-- and so do several
given_as : (earlier : List Event) (one other : List ℕ → Bool) (candidates found : List (ℕ × ℕ))
    → ((candidate : ℕ × ℕ) → Contains candidates candidate → (d : Document) (since : ℕ) → IsLiveOn earlier candidate.0 candidate.1 d since → one d.text ≡ other d.text)
    → AreGivenWhere earlier one candidates found → AreGivenWhere earlier other candidates found
given_as earlier one other [] found same given = given
given_as earlier one other (candidate ∷ later) found same given = (
  given.0,
  given.1,
  gives_as earlier one other candidate given.0 (same candidate (0, omega arith, refl)) given.2,
  given_as earlier one other later given.1 (λ c has. same c (Contains-cons candidate later c has)) given.3,
  given.4,
)

module _ (pool : PoolId) (pass : PassState) (token : Token) (entry : FindLayout) (of_config : IsOfConfig pool) (can : CanLookIn pool pass token entry) (legal : IsLegal pool.limits pass.front)
    (scanned : Scanned) (is : IsScannedEntry entry pass token scanned) where
  abbrev search : Search
  search = scanned.search.now

  abbrev sure : List (ℕ × ℕ)
  sure = scanned.hits.sure

  abbrev unsure : List (ℕ × ℕ)
  unsure = scanned.hits.unsure

  rest_left : IsRestOf entry.layout.config search.words (rest_of scanned)
  rest_left = rest_is entry.layout.config search.words (rest_of scanned) is.rest

  -- no candidate is in both lists
  apart : (candidate other : ℕ × ℕ) → Contains sure candidate → Contains unsure other → candidate ≡ other → ⊥
  apart candidate other in_sure in_unsure same =
      let of = is.scan.of_token candidate (Contains-append_left sure unsure candidate in_sure) in
      let at = is.scan.each candidate.0 candidate.1 of.slice of.column in
      let one = and_parts at.is_left at.sure_is (at.among_sure.0 in_sure) in
      let two = and_parts at.is_left (at.may_be && not at.sure_is) (at.among_unsure.0 (subst (Contains unsure) (sym same) in_unsure)) in
      let three = and_parts at.may_be (not at.sure_is) two.1 in
      false≢true (ap not (sym one.1) ∙ three.1)

  module _ (begun : HasToken pass.front pass.number token.opened_at) where
    scan_after : IsScanAfter pool.limits pool.config entry.layout.config begun.earlier pass (token_of entry.slices token)
    scan_after =
        let laid = can.laid begun in
        record {
          limits_are = ap (λ (p : PoolId). p.limits) can.finding.seated.same;
          opening_is = ap (λ (p : PoolId). p.config) can.finding.seated.same;
          find = record { begun = begun; after = refl };
          in_use = λ slice has.
              subst (λ (p : PoolId). IsInUse p.limits.columns slice begun.earlier) can.finding.seated.same
              (subst (λ (h : List Event). IsInUse pass.pool.limits.columns slice h) (begun_once pass.front pass.number token.opened_at can.finding.holds.begun begun).0
              ((can.finding.holds.slices slice).0 (can.among slice has)).1);
          treated = laid.treated;
          suits = laid.suits;
          columns_are = ap (λ (l : Limits). l.columns) of_config.limits ∙ sym (ap columns_of_slice laid.suits.sized);
          room = ap (λ (l : Limits). l.slice_words) of_config.limits;
        }

    none_missed : GiveAllIn begun.earlier (is_kept_by search) entry.slices (sure ++ unsure)
    none_missed =
        miss_none pool.limits pool.config entry.layout.config begun.earlier pass (token_of entry.slices token) search.words (residue_of search) sure unsure legal (can.sound begun) scan_after
        is.scan

    sure_same : (candidate : ℕ × ℕ) → Contains sure candidate → (d : Document) (since : ℕ) → IsLiveOn begun.earlier candidate.0 candidate.1 d since →
        has_all d.text (rest_of scanned) ≡ is_kept_by search d.text
    sure_same candidate has d since lives =
        (tell_texts pool.limits pool.config entry.layout.config begun.earlier pass (token_of entry.slices token) search.words (rest_of scanned) (residue_of search) sure unsure candidate.0 candidate.1
        d since legal (can.sound begun) scan_after is.scan rest_left lives).0 has

    unsure_same : (candidate : ℕ × ℕ) → Contains unsure candidate → (d : Document) (since : ℕ) → IsLiveOn begun.earlier candidate.0 candidate.1 d since →
        keeps_text (rest_of scanned) (residue_of search) d.text ≡ is_kept_by search d.text
    unsure_same candidate has d since lives =
        (tell_texts pool.limits pool.config entry.layout.config begun.earlier pass (token_of entry.slices token) search.words (rest_of scanned) (residue_of search) sure unsure candidate.0 candidate.1
        d since legal (can.sound begun) scan_after is.scan rest_left lives).1 has

  pub adds_found : (before after : List (ℕ × ℕ)) → FindsBoth scanned pass token before after → AddsFound (is_kept_by search) pass token entry.slices before after
  adds_found before after found = record {
    candidates = sure ++ unsure;
    each_once = pairs-append (λ (candidate other : ℕ × ℕ). candidate ≡ other → ⊥) sure unsure is.scan.sure_once is.scan.unsure_once apart;
    in_slices = λ candidate has. (is.scan.of_token candidate has).slice;
    finds = λ begun.
        let f = found.given begun in (
          f.0 ++ f.1,
          given_both begun.earlier (is_kept_by search) sure unsure f.0 f.1
              (given_as begun.earlier (λ text. has_all text (rest_of scanned)) (is_kept_by search) sure f.0 (sure_same begun) f.2)
              (given_as begun.earlier (keeps_text (rest_of scanned) (residue_of search)) (is_kept_by search) unsure f.1 (unsure_same begun) f.3),
          f.4,
        );
    all = none_missed;
  }

-- the candidates of both lists were looked at, one list after the other
pub finds_both : (scanned : Scanned) (first pass : PassState) (token : Token) (before middle after : List (ℕ × ℕ)) → pass.number ≡ first.number → IsFrontOf first.number first.front pass.front
    → FindsIn (λ text. has_all text (rest_of scanned)) first token scanned.hits.sure before middle
    → FindsIn (keeps_text (rest_of scanned) (residue_of scanned.search.now)) pass token scanned.hits.unsure middle after → FindsBoth scanned first token before after
finds_both scanned first pass token before middle after number goes one two = record {
  given = λ begun.
      let f = one begun in
      let s = two (begun_at first pass token.opened_at number goes begun) in
      (f.0, s.0, f.1, s.1, s.2 ∙ ap (λ (xs : List (ℕ × ℕ)). xs ++ s.0) f.2 ∙ append_assoc before f.0 s.0);
}

-- or there are none where the search is unsure
pub finds_sure : (scanned : Scanned) (pass : PassState) (token : Token) (before after : List (ℕ × ℕ)) → scanned.hits.unsure ≡ []
    → FindsIn (λ text. has_all text (rest_of scanned)) pass token scanned.hits.sure before after → FindsBoth scanned pass token before after
finds_sure scanned pass token before after none one = record {
  given = λ begun.
      let f = one begun in (
        f.0,
        [],
        f.1,
        subst (λ (cs : List (ℕ × ℕ)). AreGivenWhere begun.earlier (keeps_text (rest_of scanned) (residue_of scanned.search.now)) cs []) (sym none) refl,
        f.2 ∙ ap (λ (xs : List (ℕ × ℕ)). before ++ xs) (sym (append-nil f.0)),
      );
}
