-- What an event makes of a journal.
use Rattle.std.proofs.Common.{◌≡◌, ⊎_elim, ℕ, ◌+◌, ◌-◌, ◌<◌, ◌≤◌, ◌^◌, List, [], ◌∷◌, ◌++◌, length, min, None, refl, sym, ap, ◌∙◌, arith}
use Rattle.std.proofs.lemmas.Bool.{cases_lt}
use Rattle.std.proofs.lemmas.List.{drop-append-le, drop-drop, drop_min, length-append, length-drop}
use Rattle.std.proofs.Math.ListN.{drop_of_length-le}
use Rattle.std.proofs.Math.Nat.{le_of_lt}
use Rattle.std.proofs.Math.Seq.{drop-append-add, drop-nil}
use Rattle.std.specs.Prelude.{drop}
use Rattle.circular_buffer.specs.Buffer.{keep_last}
use Rattle.document_store.proofs.FoundLemmas.{length-filter_map}
use Rattle.funnel_model.specs.declared.commit.Commit.{Commit}
use Rattle.funnel_model.specs.declared.event.Event.{Event}
use Rattle.funnel_model.specs.Events.{commit_of}
use Rattle.funnel_model.specs.History.{base, commits, live}
use Rattle.funnel_model.specs.Legal.{Limits}
use Rattle.funnel_model.proofs.LiveLemmas.{commits-append, commits-silent, live-uncommitted}
use Rattle.slice_rule.specs.Pools.{PoolId}
use Rattle.commit_desk.specs.Journals.{IsJournalOf, JournalState, base_of, with_commit}
use Rattle.commit_desk.specs.Kept.{Books, IsDesk}
use Rattle.commit_desk.proofs.Few.{few-room}
use Rattle.commit_desk.proofs.LiveCounts.{live_within_place}

-- the last of the last ones and one more are the last of all
keep-push : (most : ℕ) (xs : List Commit) (commit : Commit) → keep_last most (keep_last most xs ++ commit ∷ []) ≡ keep_last most (xs ++ commit ∷ [])
keep-push most xs commit =
    let before = length xs - most in
    let all = xs ++ commit ∷ [] in
    let left = length-drop before xs in
    let one = length-append (drop before xs) (commit ∷ []) in
    let long = length-append xs (commit ∷ []) in
    ap (λ l. drop (length (drop before xs ++ commit ∷ []) - most) l) (sym (drop-append-le before xs (commit ∷ []) (omega arith)))
    ∙ drop-drop (length (drop before xs ++ commit ∷ []) - most) before all
    ∙ ap (λ n. drop n all) (omega (arith, left, one, long))

-- what a list in two halves has after its first n
pub drop-halves : (n : ℕ) (xs ys : List Commit) → drop (min n (length xs)) xs ++ drop (min (n - min n (length xs)) (length ys)) ys ≡ drop n (xs ++ ys)
drop-halves n xs ys =
    ap (λ l. l ++ drop (min (n - min n (length xs)) (length ys)) ys) (drop_min n xs) ∙ ap (λ l. drop n xs ++ l) (drop_min (n - min n (length xs)) ys)
    ∙ ⊎_elim
    (λ (more : length xs < n).
    let passed : n ≡ length xs + (n - length xs) = omega (arith, more) in
    let left : n - min n (length xs) ≡ n - length xs = omega (arith, more) in
    ap (λ l. l ++ drop (n - min n (length xs)) ys) (drop_of_length-le xs (le_of_lt more))
    ∙ ap (λ k. drop k ys) left ∙ sym (drop-append-add xs ys (n - length xs)) ∙ ap (λ k. drop k (xs ++ ys)) (sym passed))
    (λ (few : n ≤ length xs).
    let none : n - min n (length xs) ≡ 0 = omega (arith, few) in
    ap (λ k. drop n xs ++ drop k ys) none ∙ sym (drop-append-le n xs ys few))
    (cases_lt (length xs) n)

-- the journal of a history without commits
pub journal-new : (most : ℕ) → IsJournalOf most [] (record { most = most; place = 0; documents = 0; kept = [] })
journal-new most = record { most_are = refl; place_is = refl; documents_are = refl; last = sym (drop-nil (0 - most)) }

-- a commit goes into the journal
pub journal-push : (most : ℕ) (history : List Event) (e : Event) (commit : Commit) (documents : ℕ) (journal : JournalState) → IsJournalOf most history journal →
    commits (e ∷ []) ≡ commit ∷ [] → documents ≡ length (live (history ++ e ∷ [])) → IsJournalOf most (history ++ e ∷ []) (with_commit journal commit documents)
journal-push most history e commit documents journal is one counted =
    let whole : commits (history ++ e ∷ []) ≡ commits history ++ commit ∷ [] = commits-append history (e ∷ []) ∙ ap (λ cs. commits history ++ cs) one in
    record {
      most_are = is.most_are;
      place_is = ap (λ n. n + 1) is.place_is ∙ sym (ap length whole ∙ length-append (commits history) (commit ∷ []));
      documents_are = counted;
      last = ap (λ n. keep_last n (journal.kept ++ commit ∷ [])) is.most_are ∙ ap (λ xs. keep_last most (xs ++ commit ∷ [])) is.last
          ∙ keep-push most (commits history) commit ∙ ap (keep_last most) (sym whole);
    }

-- an event that is no commit leaves it as it is
pub journal-silent : (most : ℕ) (history : List Event) (e : Event) (journal : JournalState) → commit_of e ≡ None → IsJournalOf most history journal → IsJournalOf most (history ++ e ∷ []) journal
journal-silent most history e journal none is =
    let same = commits-silent history e none in
    record {
      most_are = is.most_are;
      place_is = is.place_is ∙ ap length (sym same);
      documents_are = is.documents_are ∙ ap length (sym (live-uncommitted history e none));
      last = is.last ∙ ap (keep_last most) (sym same);
    }

-- what comes before the commits that are kept
pub base-journal : (most : ℕ) (history : List Event) (journal : JournalState) → IsJournalOf most history journal → base_of journal ≡ base most history
base-journal most history journal is =
    let kept = ap length is.last ∙ length-drop (base most history) (commits history) in
    omega (arith, kept, is.place_is)

-- the journal of a desk counts its commits in one number
pub journal_fits : (pool : PoolId) (most : ℕ) (history : List Event) (books : Books) → IsDesk pool most history books → books.journal.place < 2 ^ 63 - 1
journal_fits pool most history books is =
    let passes = is.in_range.passes.1 in
    let few = few-room most pool.limits.passes history is.kept.few is.bounded (omega (arith, passes, ap (λ (l : Limits). l.passes) is.sizes)) in
    omega (arith, few, is.kept.journal_is.place_is, length-filter_map commit_of history)

-- and its live documents, which are no more than its commits
pub documents_fit : (pool : PoolId) (most : ℕ) (history : List Event) (books : Books) → IsDesk pool most history books → books.journal.documents < 2 ^ 63 - 1
documents_fit pool most history books is =
    let fits = journal_fits pool most history books is in
    omega (arith, fits, is.kept.journal_is.place_is, is.kept.journal_is.documents_are, live_within_place history)
