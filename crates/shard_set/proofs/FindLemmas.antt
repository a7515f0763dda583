-- What a set finds, of what its shards do.
use Rattle.std.proofs.Common.{◌≡◌, Bool, Contains, IsPermutation, ℕ, zero, suc, ◌<◌, ◌≤◌, List, [], ◌∷◌, ◌++◌, length, get_or, map, filter, take, Some, Result, Ok, Err, inl, inr, sym, refl, ap, ◌∙◌, subst, arith}
use Rattle.std.proofs.lemmas.List.{append-nil, take_all}
use Rattle.std.proofs.lemmas.List.Concat.{flat_map-append}
use Rattle.std.proofs.lemmas.List.Elements.{All-contains_itself, All-filter, All-head, All-tail, All-weaker}
use Rattle.std.proofs.Math.Seq.{take-suc}
use Rattle.std.specs.List.{All, cons_option, filter_map}
use Rattle.std.specs.Map.{lookup}
use Rattle.std.specs.Option.{option_map}
use Rattle.std.specs.Prelude.{◌⊎◌, nat_eq}
use Rattle.bare_history.specs.Bare.{bare}
use Rattle.bare_history.proofs.LoneCalls.{lone_found, lone_kept, lone_step}
use Rattle.commit_desk.specs.declared.answers.FindFault.{FindFault}
use Rattle.commit_desk.specs.declared.answers.FindFault.TheVariants as find
use Rattle.commit_desk.specs.Judging.{answer_where}
use Rattle.engine.specs.declared.querying.SearchFault.{SearchFault}
use Rattle.engine.specs.declared.querying.SearchFault.TheVariants as search
use Rattle.engine.specs.Replies.{reply_of_find}
use Rattle.engine.specs.Searches.{MakesCallOf}
use Rattle.engine.specs.Solos.{SoloState, sole_pass}
use Rattle.funnel_model.specs.declared.call.Call.TheVariants as call
use Rattle.funnel_model.specs.declared.reply.Reply.TheVariants as reply
use Rattle.funnel_model.specs.declared.event.Event.{Event}
use Rattle.funnel_model.specs.Expressions.{answer_by, keeps, tree_of}
use Rattle.funnel_model.specs.History.{Document, answer, live}
use Rattle.funnel_model.specs.Words.{meets}
use Rattle.funnel_model.proofs.QueryLemmas.{one-expression}
use Rattle.line_proto.specs.Forms.{ByQuery, Ids}
use Rattle.shard_set.specs.declared.home.Home.{Home}
use Rattle.shard_set.specs.Asking.{HasFound, IsFindFault, IsSearchFault, placed_all}
use Rattle.shard_set.specs.Calls.{AnswersFind, AnswersQuery, AsksEach, AsksOrNot, FindsIn, SearchesIn}
use Rattle.shard_set.specs.Merging.{IsInOrder, placed}
use Rattle.shard_set.specs.Sets.{IsLone, SetState, StandsFor, home_of}
use Rattle.shard_set.proofs.Asked.{asked_all}
use Rattle.shard_set.proofs.Found.{found_live}
use Rattle.shard_set.proofs.Merged.{kept_at, pair_of, pairs_at, pairs_below, shard_answers, sorted_answer}
use Rattle.shard_set.proofs.Refusals.{any_of, late, set_of}
use Rattle.shard_set.proofs.SetLemmas.{AreLone, Changed, changed_none, nothing, stands-same}

-- a find of a shard makes no add and no delete, and nor does a query
find_makes : (query : List ℕ) (s t : SoloState) → IsLone s.pool → AsksOrNot (FindsIn query) s t → (t.pool ≡ s.pool) × (bare t.history ≡ bare s.history ++ [])
find_makes query s t one (inl same) = (ap (λ (x : SoloState). x.pool) same, ap (λ (x : SoloState). bare x.history) same ∙ sym (append-nil (bare s.history)))
find_makes query s t one (inr (answer, did)) = (did.pool, lone_step s.pool.limits s.history t.history (call.Find query) (reply_of_find answer) one.one_pass did.call.step)

search_makes : (text : List ℕ) (s t : SoloState) → IsLone s.pool → AsksOrNot (SearchesIn text) s t → (t.pool ≡ s.pool) × (bare t.history ≡ bare s.history ++ [])
search_makes text s t one (inl same) = (ap (λ (x : SoloState). x.pool) same, ap (λ (x : SoloState). bare x.history) same ∙ sym (append-nil (bare s.history)))
search_makes text s t one (inr (Ok ids, did)) =
    let made = did.call in (did.pool, lone_step s.pool.limits s.history t.history (call.Query made.0) (reply.Found ids) one.one_pass made.2.step)
search_makes text s t one (inr (Err (search.Syntax at), did)) = (did.pool, ap bare (ap (λ v. v.front) did.call.1) ∙ sym (append-nil (bare s.history)))
search_makes text s t one (inr (Err (search.Deep at), did)) = (did.pool, ap bare (ap (λ v. v.front) did.call.1) ∙ sym (append-nil (bare s.history)))
search_makes text s t one (inr (Err (search.Spent n), did)) =
    let made = did.call in (did.pool, lone_step s.pool.limits s.history t.history (call.Query made.0) reply.Spent one.one_pass made.2.step)
search_makes text s t one (inr (Err search.Memory, did)) = (did.pool, of did.call) where
  of : (sole_pass t ≡ sole_pass s) ⊎ MakesCallOf Ids s.pool.limits (ByQuery text) reply.Memory (sole_pass s) (sole_pass t) → bare t.history ≡ bare s.history ++ []
  of (inl same) = ap bare (ap (λ v. v.front) same) ∙ sym (append-nil (bare s.history))
  of (inr made) = lone_step s.pool.limits s.history t.history (call.Query made.0) reply.Memory one.one_pass made.2.step

-- nor do those of several shards
changed_each : (Call : SoloState → SoloState → Type 0) (before after : List SoloState) → AreLone before → AsksEach Call before after →
    ((s t : SoloState) → IsLone s.pool → Call s t → (t.pool ≡ s.pool) × (bare t.history ≡ bare s.history ++ [])) → Changed before after nothing
changed_each Call before after lone asks makes = record {
  count = asks.count;
  pools = λ k d in'. (makes (get_or before k d) (get_or after k d) (lone k d in') (asks.asked k d in')).0;
  bares = λ k d in'. (makes (get_or before k d) (get_or after k d) (lone k d in') (asks.asked k d in')).1;
}

pub changed_finds : (query : List ℕ) (before after : List SoloState) → AreLone before → AsksEach (AsksOrNot (FindsIn query)) before after → Changed before after nothing
changed_finds query before after lone asks = changed_each (AsksOrNot (FindsIn query)) before after lone asks (find_makes query)

pub changed_searches : (text : List ℕ) (before after : List SoloState) → AreLone before → AsksEach (AsksOrNot (SearchesIn text)) before after → Changed before after nothing
changed_searches text before after lone asks = changed_each (AsksOrNot (SearchesIn text)) before after lone asks (search_makes text)

-- those that were answered were asked
pub asked_or_not : {F : Type 0} (Call : SoloState → SoloState → Result (List ℕ) F → Type 0) (before after : List SoloState) →
    AsksEach (λ s t. (own : List ℕ) × Call s t (Ok own)) before after → AsksEach (AsksOrNot Call) before after
asked_or_not Call before after asks = record { count = asks.count; asked = λ k d in'. let one = asks.asked k d in' in inr (Ok one.0, one.1) }

-- each live number has its home
placed_live : (shards : ℕ) (homes : List (ℕ × Home)) (ds : List Document) → All (λ (d : Document). lookup (nat_eq d.id) homes ≡ Some (home_of shards d)) ds →
    filter_map (placed homes) (map (λ (d : Document). d.id) ds) ≡ map pair_of ds
placed_live shards homes [] all = refl
placed_live shards homes (d ∷ ds) all =
    let here : placed homes d.id ≡ Some (pair_of d) =
    ap (option_map (λ (h : Home). (h.place, d.id))) (All-head (λ (x : Document). lookup (nat_eq x.id) homes ≡ Some (home_of shards x)) d ds all) in
    ap (λ o. cons_option o (filter_map (placed homes) (map (λ (x : Document). x.id) ds))) here
    ∙ ap (λ (ps : List (ℕ × ℕ)). pair_of d ∷ ps) (placed_live shards homes ds (All-tail (λ (x : Document). lookup (nat_eq x.id) homes ≡ Some (home_of shards x)) d ds all))

module _ (shards : List SoloState) (homes : List (ℕ × Home)) (commits : ℕ) (list : List Event) (test : List ℕ → Bool) (stands : StandsFor (set_of shards homes commits) list)
    (owns : List (List ℕ)) (count : length owns ≡ length shards)
    (own : (k : ℕ) (d : SoloState) → k < length shards → get_or owns k [] ≡ answer_where (get_or shards k d).history test) where
  -- what a shard found, with the places of its documents
  placed_own : (k : ℕ) → k < length shards → filter_map (placed homes) (get_or owns k []) ≡ pairs_at (length shards) list test k
  placed_own k in' =
      let d = any_of shards k in' in
      let has_home : All (λ (x : Document). lookup (nat_eq x.id) homes ≡ Some (home_of (length shards) x)) (live list) =
      All-weaker (Contains (live list)) (λ (x : Document). lookup (nat_eq x.id) homes ≡ Some (home_of (length shards) x))
      (λ x has. stands.homes x.id ∙ ap (option_map (home_of (length shards))) (found_live list x has)) (live list) (All-contains_itself (live list)) in
      ap (filter_map (placed homes)) (own k d in' ∙ shard_answers (length shards) k list (get_or shards k d).history test stands.commits (stands.parts k d in'))
      ∙ placed_live (length shards) homes (filter (kept_at (length shards) k test) (live list))
      (All-filter (kept_at (length shards) k test) (λ (x : Document). lookup (nat_eq x.id) homes ≡ Some (home_of (length shards) x)) (live list) has_home)

  placed_first : (n : ℕ) → n ≤ length shards → placed_all homes (take n owns) ≡ pairs_below (length shards) list test n
  placed_first zero low = refl
  placed_first (suc n) low =
      ap (placed_all homes) (take-suc owns n [] (omega (arith, low, count)))
      ∙ flat_map-append (λ ids. filter_map (placed homes) ids) (take n owns) (get_or owns n [] ∷ [])
      ∙ ap (λ (ps : List (ℕ × ℕ)). ps ++ (filter_map (placed homes) (get_or owns n []) ++ [])) (placed_first n (omega (arith, low)))
      ∙ ap (λ (ps : List (ℕ × ℕ)). pairs_below (length shards) list test n ++ ps) (append-nil (filter_map (placed homes) (get_or owns n [])) ∙ placed_own n (omega (arith, low)))

  -- in the order of the places that is the answer
  pub merged_answer : 0 < length shards → (found : List (ℕ × ℕ)) (ids : List ℕ) → found ≡ placed_all homes owns → IsInOrder found ids → ids ≡ answer_where list test
  merged_answer some found ids is order =
      let all : found ≡ pairs_below (length shards) list test (length shards) =
      is ∙ ap (placed_all homes) (sym (take_all (length shards) owns (omega (arith, count)))) ∙ placed_first (length shards) (omega arith) in
      order.numbers
      ∙ sorted_answer (length shards) list test order.sorted some (subst (λ (ps : List (ℕ × ℕ)). IsPermutation ps order.sorted) all order.same) order.rising

module _ (shards after : List SoloState) (homes : List (ℕ × Home)) (commits : ℕ) (lone : AreLone shards) (some : 0 < length shards) (list : List Event)
    (stands : StandsFor (set_of shards homes commits) list) where
  -- a find that each shard answered
  pub find_answered : (query : List ℕ) (found : List (ℕ × ℕ)) (ids : List ℕ) → HasFound (FindsIn query) homes shards (length shards) after found → IsInOrder found ids →
      AnswersFind query list (set_of shards homes commits) (set_of after homes commits) (Ok ids)
  find_answered query found ids all order = (
    merged_answer shards homes commits list (λ text. meets text query) stands all.owns all.owns_count
        (λ k d in'.
        let did = all.asked k d in' in
        lone_found (get_or shards k d).pool.limits (get_or shards k d).history (get_or after k d).history query (get_or all.owns k []) (lone k d in').one_pass did.call.step)
        some found ids all.found_is order,
    asked_all (FindsIn query) homes shards after found all,
  )

  -- or one refused
  pub find_failed : (query : List ℕ) (fault : FindFault) → IsFindFault query shards after fault →
      AnswersFind query list (set_of shards homes commits) (set_of after homes commits) (Err fault)
  find_failed query (find.Spent n) failed =
      let one = failed.1 in
      let d = any_of shards one.shard one.in_range in
      let did = one.refuses d in
      (failed.0, failed.1, late (get_or shards one.shard d).pool.limits.events n did.turns.earlier (lone one.shard d one.in_range).last did.turns.answer)
  find_failed query find.Memory failed = failed

  -- a query
  pub query_answered : (text : List ℕ) (found : List (ℕ × ℕ)) (ids : List ℕ) → HasFound (SearchesIn text) homes shards (length shards) after found → IsInOrder found ids →
      AnswersQuery text list (set_of shards homes commits) (set_of after homes commits) (Ok ids)
  query_answered text found ids all order =
      let first = all.asked 0 (any_of shards 0 some) some in
      let read = first.call in (
        (
          read.0,
          read.1,
          merged_answer shards homes commits list (keeps (tree_of read.0)) stands all.owns all.owns_count
              (λ k d in'.
              let did = all.asked k d in' in
              let made = did.call in
              lone_kept (get_or shards k d).pool.limits (get_or shards k d).history (get_or after k d).history made.0 (get_or all.owns k []) (lone k d in').one_pass made.2.step
              ∙ ap (answer_by (get_or shards k d).history) (one-expression text (tree_of made.0) (tree_of read.0) made.1 read.1))
              some found ids all.found_is order,
        ),
        asked_all (SearchesIn text) homes shards after found all,
      )

  pub query_failed : (text : List ℕ) (fault : SearchFault) → IsSearchFault text shards after fault →
      AnswersQuery text list (set_of shards homes commits) (set_of after homes commits) (Err fault)
  query_failed text (search.Syntax at) failed = failed
  query_failed text (search.Deep at) failed = failed
  query_failed text (search.Spent n) failed =
      let one = failed.1 in
      let d = any_of shards one.shard one.in_range in
      let did = one.refuses d in
      let turn = did.turns.2 in
      (failed.0, failed.1, late (get_or shards one.shard d).pool.limits.events n turn.earlier (lone one.shard d one.in_range).last turn.answer)
  query_failed text search.Memory failed = failed

-- the shards after a call of each, or of some
pub found_changed : (query : List ℕ) (homes : List (ℕ × Home)) (before after : List SoloState) (found : List (ℕ × ℕ)) → AreLone before →
    HasFound (FindsIn query) homes before (length before) after found → Changed before after nothing
found_changed query homes before after found lone all =
    changed_finds query before after lone (asked_or_not (FindsIn query) before after (asked_all (FindsIn query) homes before after found all))

pub failed_changed : (query : List ℕ) (before after : List SoloState) (fault : FindFault) → AreLone before → IsFindFault query before after fault → Changed before after nothing
failed_changed query before after (find.Spent n) lone failed = changed_finds query before after lone failed.0
failed_changed query before after find.Memory lone failed = changed_finds query before after lone failed

pub searched_changed : (text : List ℕ) (homes : List (ℕ × Home)) (before after : List SoloState) (found : List (ℕ × ℕ)) → AreLone before →
    HasFound (SearchesIn text) homes before (length before) after found → Changed before after nothing
searched_changed text homes before after found lone all =
    changed_searches text before after lone (asked_or_not (SearchesIn text) before after (asked_all (SearchesIn text) homes before after found all))

pub unsearched_changed : (text : List ℕ) (before after : List SoloState) (fault : SearchFault) → AreLone before → IsSearchFault text before after fault → Changed before after nothing
unsearched_changed text before after (search.Syntax at) lone failed = subst (λ (ss : List SoloState). Changed before ss nothing) (sym failed.1) (changed_none before)
unsearched_changed text before after (search.Deep at) lone failed = subst (λ (ss : List SoloState). Changed before ss nothing) (sym failed.1) (changed_none before)
unsearched_changed text before after (search.Spent n) lone failed = changed_searches text before after lone failed.0
unsearched_changed text before after search.Memory lone failed = changed_searches text before after lone failed

-- so the set stands for what it stood for
pub stands-still : (shards after : List SoloState) (homes : List (ℕ × Home)) (commits : ℕ) (set : SetState) (list : List Event) → set_of shards homes commits ≡ set →
    Changed shards after nothing → StandsFor set list → StandsFor (set_of after homes commits) list
stands-still shards after homes commits set list same changed stands =
    stands-same shards after homes homes commits list changed (λ id. refl) (subst (λ (s : SetState). StandsFor s list) (sym same) stands)
