-- What a find has found of its slices, turn by turn and entry by entry.
use Rattle.std.proofs.Common.{◌≡◌, ⊎_elim, false, ℕ, ◌-◌, ◌<◌, ◌≤◌, Bool, Option, None, Some, List, [], ◌∷◌, ◌++◌, length, get_or, take, map, inl, inr, refl, sym, ap, ◌∙◌, subst, arith, append-nil, append_assoc, AllPairs, Contains, IsSorted, IsPermutation, length-append}
use Rattle.std.proofs.lemmas.Bool.{false_from_ne_true}
use Rattle.std.proofs.lemmas.List.{take_all}
use Rattle.std.proofs.lemmas.List.Elements.{Contains-append_cases, Contains-append_left, Contains-append_right, Contains-push_cases}
use Rattle.std.specs.List.{list_any, slice_range}
use lib.ListN.{get_or-append}
use lib.Seq.{get_or-append_right}
use mathlib.Core.List.{IsPrefix}
use Rattle.document_store.specs.Finding.{pair_cmp}
use Rattle.funnel_model.proofs.AnswerLemmas.{kept_by_filter}
use Rattle.funnel_model.proofs.Columns.{clearing_is_over, not_retired_by}
use Rattle.funnel_model.proofs.Histories.{legal_before}
use Rattle.funnel_model.proofs.LiveColumns.{live_has_column}
use Rattle.funnel_model.specs.declared.claim.Token.{Token}
use Rattle.funnel_model.specs.declared.event.Event.{Event}
use Rattle.funnel_model.specs.declared.event.Event.TheVariants as event
use Rattle.funnel_model.specs.Events.{finds_or_ends}
use Rattle.funnel_model.specs.History.{Document, IsFrontOf, live}
use Rattle.funnel_model.specs.Legal.{IsLegal, Limits}
use Rattle.funnel_model.specs.Slices.{IsInUse, IsLiveOn, Live, is_clearing}
use Rattle.funnel_model.specs.Tokens.{HasToken}
use Rattle.row_layout.specs.Sound.{IsSound}
use Rattle.slice_rule.specs.Pools.{PoolId}
use Rattle.slice_rule.specs.Seats.{PassState}
use Rattle.commit_desk.specs.declared.find_layouts.FindLayout.{FindLayout}
use Rattle.commit_desk.specs.FindLayouts.{AreFindLayouts, IsFindLayout}
use Rattle.commit_desk.specs.Judging.{AreGivenWhere, answer_where}
use Rattle.commit_desk.specs.Passes.{IsFinding}
use Rattle.commit_desk.specs.Resolving.{FindsUpTo}
use Rattle.commit_desk.proofs.FindEnds.{begun_once}
use Rattle.commit_desk.proofs.FindTurns.{begun_later}
use Rattle.commit_desk.proofs.Given.{GiveAllWhere, given_both, given_is_answer, numbers_are_answer, take_part}
use Rattle.slice_recycler.specs.Turns.{IsTurn}
use Rattle.engine.proofs.CandidateParts.{pairs-append}
use Rattle.engine.proofs.Moves.{turn_from}
use Rattle.engine.proofs.Scans.{holds_still}
use Rattle.engine.specs.Finds.{AddsFound, CanLookIn, FindEnds, FindsIn, IsOpenOrEnded, HasEndedFind, IsFoundBut, IsJustFinding, IsLeft, events_of_turn}

-- a find is open still, with its number, once its pass has seen more
abbrev pub begun_at : (first pass : PassState) (number : ℕ) → pass.number ≡ first.number → IsFrontOf first.number first.front pass.front → HasToken first.front first.number number →
    HasToken pass.front pass.number number
begun_at first pass number same goes begun =
    let later = begun_later first.number number first.front pass.front begun goes in
    record {
      earlier = begun.earlier;
      query = begun.query;
      later = later.later;
      whole = later.whole ∙ ap (λ n. begun.earlier ++ event.Find n begun.query ∷ later.later) (sym same);
      count = begun.count;
      stays = subst (λ n. list_any (finds_or_ends n) later.later ≡ false) (sym same) later.stays;
    }

-- What the candidates up to one give was found after what was found before.
abbrev pub IsFoundTo : (List ℕ → Bool) → PassState → Token → List (ℕ × ℕ) → ℕ → List (ℕ × ℕ) → List (ℕ × ℕ) → Type 0
IsFoundTo test pass token candidates to before found =
    (begun : HasToken pass.front pass.number token.opened_at) → (more : List (ℕ × ℕ)) × AreGivenWhere begun.earlier test (take to candidates) more
    × (found ≡ before ++ more)

-- A turn that looks at some more of them.
module _ (test : List ℕ → Bool) (first pass : PassState) (token : Token) (cost : ℕ) (candidates : List (ℕ × ℕ)) (from to : ℕ) (start before after : List (ℕ × ℕ))
    (number : pass.number ≡ first.number) (goes : IsFrontOf first.number first.front pass.front) (low : from ≤ to) (so_far : IsFoundTo test first token candidates from start before)
    (turn : (begun : HasToken pass.front pass.number token.opened_at) → FindsUpTo begun.earlier test cost candidates from to before after) where
  pub found_to : IsFoundTo test first token candidates to start after
  found_to begun =
      let was = so_far begun in
      let adds = turn (begun_at first pass token.opened_at number goes begun) in (
        was.0 ++ adds.more,
        subst (λ cs. AreGivenWhere begun.earlier test cs (was.0 ++ adds.more)) (sym (take_part candidates from to low))
            (given_both begun.earlier test (take from candidates) (slice_range candidates from to) was.0 adds.more was.1 adds.given),
        adds.found ∙ ap (λ (fs : List (ℕ × ℕ)). fs ++ adds.more) was.2 ∙ append_assoc start was.0 adds.more,
      )

  -- the turn came to their end
  pub found_in : length candidates ≤ to → FindsIn test first token candidates start after
  found_in last begun =
      let found = found_to begun in (
        found.0,
        subst (λ cs. AreGivenWhere begun.earlier test cs found.0) (take_all to candidates last) found.1,
        found.2,
      )

-- before the first turn
pub found_from : (test : List ℕ → Bool) (pass : PassState) (token : Token) (candidates found : List (ℕ × ℕ)) → IsFoundTo test pass token candidates 0 found found
found_from test pass token candidates found begun = ([], refl, sym (append-nil found))

-- the last turn ends the find from the first one on
pub ends_from : (first pass : PassState) (after : List Event) (next : Option (Token × ℕ)) → pass.number ≡ first.number → IsFrontOf first.number first.front pass.front → next ≡ None →
    IsTurn pass.number pass.front after (λ history. Unit {0}) (events_of_turn pass.number next) → FindEnds first.number first.front after
ends_from first pass after next number goes last turn =
    let ends : IsTurn pass.number pass.front after (λ history. Unit {0}) (event.End pass.number ∷ []) =
    subst (λ (o : Option (Token × ℕ)). IsTurn pass.number pass.front after (λ history. Unit {0}) (events_of_turn pass.number o)) last turn in
    turn_from {answers = λ history. Unit {0}} first.number first.front pass.front after (event.End first.number ∷ []) goes
    (subst (λ n. IsTurn n pass.front after (λ history. Unit {0}) (event.End n ∷ [])) number ends)

-- so does a find that is ended after others made events
pub ended_from : (pool : PoolId) (first pass after : PassState) → pass.number ≡ first.number → IsFrontOf first.number first.front pass.front → HasEndedFind pool pass after → HasEndedFind pool first after
ended_from pool first pass after number goes ended = (
  turn_from {answers = λ history. Unit {0}} first.number first.front pass.front after.front (event.End first.number ∷ []) goes
      (subst (λ n. IsTurn n pass.front after.front (λ history. Unit {0}) (event.End n ∷ [])) number ended.0),
  ended.1,
)

-- No list of none has a member.
nothing : {X : Type 0} (x : X) → Contains [] x → ⊥
nothing x (k, within, is) = omega (arith, within)

-- Pairs of a list with one more element at its end: those of the list, and one of each of its elements and that one.
module _ {A : Type 0} (R : A → A → Type 0) (xs : List A) (x : A) (pairs : AllPairs R (xs ++ x ∷ [])) where
  pub pairs_before : AllPairs R xs
  pairs_before i j d lt within =
      subst (λ y. R y (get_or xs j d)) (get_or-append xs (x ∷ []) d i (omega (arith, lt, within)))
      (subst (R (get_or (xs ++ x ∷ []) i d)) (get_or-append xs (x ∷ []) d j within) (pairs i j d lt (omega (arith, within, length-append xs (x ∷ [])))))

  last_is : (d : A) → get_or (xs ++ x ∷ []) (length xs) d ≡ x
  last_is d =
      let none : length xs - length xs ≡ 0 = omega arith in
      get_or-append_right xs (x ∷ []) (length xs) d (omega arith) ∙ ap (λ n. get_or (x ∷ []) n d) none

  pub pairs_last : (y : A) → Contains xs y → R y x
  pairs_last y (k, within, is) =
      subst (λ z. R z x) (get_or-append xs (x ∷ []) y k within ∙ is)
      (subst (R (get_or (xs ++ x ∷ []) k y)) (last_is y) (pairs k (length xs) y within (omega (arith, length-append xs (x ∷ [])))))

-- no slice is of two entries
abbrev pub AreApart : FindLayout → FindLayout → Type 0
AreApart one other = (slice : ℕ) → Contains one.slices slice → Contains other.slices slice → ⊥

-- Before the first of its entries a find has found nothing.
pub found_none : (test : List ℕ → Bool) (pool : PoolId) (pass : PassState) (token : Token) (layouts : List FindLayout) (found : List (ℕ × ℕ)) →
    ((begun : HasToken pass.front pass.number token.opened_at) → AreFindLayouts pool begun.earlier token layouts) → found ≡ [] → IsFoundBut test pass token layouts found
found_none test pool pass token layouts found laid none = record {
  candidates = [];
  each_once = λ i j d lt within. absurd (omega (arith, within));
  elsewhere = λ candidate has left. nothing candidate has;
  given = λ begun. none;
  all = λ begun slice column document since has lives passes. inl ((laid begun).every slice has);
}

-- What one more entry adds.
module _ (test : List ℕ → Bool) (first : PassState) (token : Token) (rest left : List FindLayout) (entry : FindLayout) (is : left ≡ rest ++ entry ∷ []) (apart : AllPairs AreApart left) where
  at_last : Contains left entry
  at_last = subst (λ (es : List FindLayout). Contains es entry) (sym is) (Contains-append_right rest (entry ∷ []) entry (0, omega arith, refl))

  of_left : (other : FindLayout) → Contains rest other → Contains left other
  of_left other has = subst (λ (es : List FindLayout). Contains es other) (sym is) (Contains-append_left rest (entry ∷ []) other has)

  pub rest_apart : AllPairs AreApart rest
  rest_apart = pairs_before AreApart rest entry (subst (AllPairs AreApart) is apart)

  pub found_more : (before after : List (ℕ × ℕ)) → IsFoundBut test first token left before → AddsFound test first token entry.slices before after → IsFoundBut test first token rest after
  found_more before after so_far adds = record {
    candidates = so_far.candidates ++ adds.candidates;
    each_once =
        pairs-append (λ (candidate other : ℕ × ℕ). candidate ≡ other → ⊥) so_far.candidates adds.candidates so_far.each_once adds.each_once
        (λ candidate other of_first of_second same.
        so_far.elsewhere candidate of_first (entry, at_last, subst (Contains entry.slices) (sym (ap (λ (c : ℕ × ℕ). c.0) same)) (adds.in_slices other of_second)));
    elsewhere = λ candidate has in_rest.
        ⊎_elim (λ (h : Contains so_far.candidates candidate). so_far.elsewhere candidate h (in_rest.0, of_left in_rest.0 in_rest.1, in_rest.2))
        (λ (h : Contains adds.candidates candidate).
        pairs_last AreApart rest entry (subst (AllPairs AreApart) is apart) in_rest.0 in_rest.1 candidate.0 in_rest.2 (adds.in_slices candidate h))
        (Contains-append_cases so_far.candidates adds.candidates candidate has);
    given = λ begun.
        let more = adds.finds begun in
        subst (AreGivenWhere begun.earlier test (so_far.candidates ++ adds.candidates)) (sym more.2)
        (given_both begun.earlier test so_far.candidates adds.candidates before more.0 (so_far.given begun) more.1);
    all = λ begun slice column document since has lives passes.
        ⊎_elim
        (λ (of : IsLeft left slice).
        ⊎_elim (λ (h : Contains rest of.0). inl (of.0, h, of.2))
        (λ (this : entry ≡ of.0).
        inr
        (Contains-append_right so_far.candidates adds.candidates (slice, column)
        (adds.all begun slice column document since (subst (λ (e : FindLayout). Contains e.slices slice) (sym this) of.2) lives passes)))
        (Contains-push_cases rest entry of.0 (subst (λ (es : List FindLayout). Contains es of.0) is of.1)))
        (λ (h : Contains so_far.candidates (slice, column)). inr (Contains-append_left so_far.candidates adds.candidates (slice, column) h))
        (so_far.all begun slice column document since has lives passes);
  }

-- what was found since other passes made events is found since the find began
pub adds_later : (test : List ℕ → Bool) (first pass : PassState) (token now : Token) (slices : List ℕ) (before after : List (ℕ × ℕ)) → now ≡ token → pass.number ≡ first.number →
    IsFrontOf first.number first.front pass.front → AddsFound test pass now slices before after → AddsFound test first token slices before after
adds_later test first pass token now slices before after same number goes found =
    let adds : AddsFound test pass token slices before after = subst (λ (t : Token). AddsFound test pass t slices before after) same found in
    record {
      candidates = adds.candidates;
      each_once = adds.each_once;
      in_slices = adds.in_slices;
      finds = λ begun. adds.finds (begun_at first pass token.opened_at number goes begun);
      all = λ begun. adds.all (begun_at first pass token.opened_at number goes begun);
    }

-- the slice of a live column is in use
live_in_use : (limits : Limits) (history : List Event) (slice column : ℕ) (d : Document) (since : ℕ) → IsLegal limits history → column < limits.columns → IsLiveOn history slice column d since →
    IsInUse limits.columns slice history
live_in_use limits history slice column d since legal below is = record {
  not_retired = not_retired_by limits history slice column (Live d since) legal below is (λ over. over);
  not_clearing = false_from_ne_true (is_clearing slice history) (λ clearing. clearing_is_over limits history slice column (Live d since) legal clearing below is);
}

-- What is found of all slices of a find, in the order of the places, has the numbers of the documents that it is to give, since each live document
-- stands in a slice of its token.
module _ (test : List ℕ → Bool) (pool : PoolId) (pass : PassState) (token : Token) (finding : IsFinding pool token pass) (after : List Event) (legal : IsLegal pool.limits after)
    (grows : IsPrefix pass.front after) where
  abbrev begun : HasToken pass.front pass.number token.opened_at
  begun = finding.holds.begun

  legal_then : IsLegal pool.limits begun.earlier
  legal_then =
      let find = event.Find pass.number begun.query in
      let whole : after ≡ begun.earlier ++ find ∷ (begun.later ++ grows.0) =
      sym grows.1 ∙ ap (λ h. h ++ grows.0) begun.whole ∙ append_assoc begun.earlier (find ∷ begun.later) grows.0 in
      legal_before pool.limits begun.earlier (find ∷ (begun.later ++ grows.0)) (subst (IsLegal pool.limits) whole legal)

  gives_all : (found : List (ℕ × ℕ)) (is : IsFoundBut test pass token [] found) → GiveAllWhere begun.earlier test is.candidates
  gives_all found is pair has =
      let limits = pool.limits in
      let kept = kept_by_filter (λ (d : Document). (d.place, d.id)) (λ d. test d.text) (live begun.earlier) pair has in
      let d = kept.0 in
      let home = live_has_column limits begun.earlier d legal_then kept.1 in
      let used = live_in_use limits begun.earlier home.0 home.1 d home.2 legal_then home.4 home.5 in
      let of_token : Contains token.slices home.0 =
      (finding.holds.slices home.0).1
      (subst (λ (p : PoolId). (home.0 < p.limits.slices) × IsInUse p.limits.columns home.0 begun.earlier) (sym finding.seated.same) (home.3, used)) in
      let at =
      ⊎_elim (λ (none : IsLeft [] home.0). absurd (nothing none.0 none.1)) (λ (h : Contains is.candidates (home.0, home.1)). h)
      (is.all begun home.0 home.1 d home.2 of_token home.5 kept.3) in
      ((home.0, home.1), at, (d, home.2, home.5, kept.3, sym kept.2))

  pub found_is_answer : (found sorted : List (ℕ × ℕ)) → IsFoundBut test pass token [] found → IsPermutation found sorted → IsSorted pair_cmp sorted →
      map (λ (f : ℕ × ℕ). f.1) sorted ≡ answer_where begun.earlier test
  found_is_answer found sorted is permuted rises =
      ap (map (λ (f : ℕ × ℕ). f.1))
      (given_is_answer begun.earlier test pool.limits legal_then is.candidates found sorted is.each_once (gives_all found is) (is.given begun) permuted rises)
      ∙ numbers_are_answer begun.earlier test

-- An entry of a find's layouts, among whose slices it looks.
module _ (pool : PoolId) (first pass : PassState) (token : Token) (layouts : List FindLayout) (just : IsJustFinding pool token first layouts) (number : pass.number ≡ first.number)
    (goes : IsFrontOf first.number first.front pass.front) (finding : IsFinding pool token pass) where
  pub can_look : (entry : FindLayout) → Contains layouts entry → CanLookIn pool pass token entry
  can_look entry has =
      let start = just.finding.holds.begun in
      record {
        finding = finding;
        among = (just.laid start).among entry has;
        laid = λ begun.
            subst (λ (h : List Event). IsFindLayout pool h entry) (begun_once pass.front pass.number token.opened_at (begun_at first pass token.opened_at number goes start) begun).0
            ((just.laid start).each entry has);
        sound = λ begun.
            subst (IsSound pool.config) (begun_once pass.front pass.number token.opened_at (begun_at first pass token.opened_at number goes start) begun).0 (just.sound start);
      }

-- A pass that read something looks still.
pub look_still : (pool : PoolId) (token : Token) (entry : FindLayout) (seat next : PassState) → next ≡ record seat { own = next.own; told = next.told } → CanLookIn pool seat token entry →
    CanLookIn pool next token entry
look_still pool token entry seat next is can =
    let did : CanLookIn pool (record seat { own = next.own; told = next.told }) token entry = record {
      finding = record {
        seated = record { same = can.finding.seated.same; none_outstanding = can.finding.seated.none_outstanding };
        holds = holds_still seat next.own next.told token can.finding.holds;
      };
      among = can.among;
      laid = can.laid;
      sound = can.sound;
    } in
    subst (λ (p : PassState). CanLookIn pool p token entry) (sym is) did

-- how a find goes on from a pass that read something is how it goes on from that pass before
pub goes_on_from : (pool : PoolId) (token : Token) (last : Bool) (seat next after : PassState) → next ≡ record seat { own = next.own; told = next.told } → (answer : Option Token) →
    IsOpenOrEnded pool token last next after answer → IsOpenOrEnded pool token last seat after answer
goes_on_from pool token last seat next after is (Some kept) on = (on.0, on.1, on.2, subst (λ (p : PassState). IsFrontOf p.number p.front after.front) is on.3)
goes_on_from pool token last seat next after is None on = (on.0, (subst (λ (p : PassState). FindEnds p.number p.front after.front) is on.1.0, on.1.1))
