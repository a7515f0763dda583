-- How the lists that a set stands for change with its shards.
use Rattle.std.proofs.Common.{◌≡◌, ℕ, ◌+◌, ◌<◌, Bool, true, false, cond, List, [], ◌∷◌, ◌++◌, length, get_or, Option, Some, None, Result, ⊎_elim, sym, refl, ap, ◌∙◌, subst, arith}
use Rattle.std.proofs.lemmas.Bool.{cases_eq, eq-eqb, ne_eqb}
use Rattle.std.proofs.lemmas.List.{append-nil, length-append}
use Rattle.std.specs.List.{All}
use Rattle.std.specs.Map.{lookup}
use Rattle.std.specs.Option.{is_some, option_map, option_map_or}
use Rattle.std.specs.Prelude.{◌==◌, nat_eq}
use Rattle.bare_history.specs.Bare.{added, bare, deleted}
use Rattle.bare_history.specs.Lone.{made_by}
use Rattle.bare_history.proofs.LoneCalls.{lone_step}
use Rattle.commit_desk.specs.declared.answers.AddFault.{AddFault}
use Rattle.commit_desk.specs.declared.answers.DeleteFault.{DeleteFault}
use Rattle.engine.specs.Replies.{reply_of_add, reply_of_delete}
use Rattle.engine.specs.Solos.{SoloState}
use Rattle.funnel_model.specs.declared.call.Call.TheVariants as call
use Rattle.funnel_model.specs.declared.event.Event.{Event}
use Rattle.funnel_model.specs.declared.event.Event.TheVariants as event
use Rattle.funnel_model.specs.History.{Document, document_with, is_live, live, place}
use Rattle.funnel_model.proofs.LiveLemmas.{place-append}
use Rattle.shard_set.specs.declared.home.Home.{Home}
use Rattle.shard_set.specs.Calls.{AddsTo, AsksOne, DeletesFrom}
use Rattle.shard_set.specs.Parts.{AreCommits, MayCome, goes_at, goes_to, part, shard_of}
use Rattle.shard_set.specs.Sets.{AreHomesOf, IsLone, StandsFor, home_of}
use Rattle.shard_set.proofs.Found.{document_with-added, document_with-deleted, find_some}
use Rattle.shard_set.proofs.Parts.{by_commits, commits-push, part-push}

-- each shard is the engine that it was, and has these more adds and deletes
pub record Changed (before after : List SoloState) (more : ℕ → List Event) : Type 0 where
  pub count : length after ≡ length before
  pub pools : (k : ℕ) (d : SoloState) → k < length before → (get_or after k d).pool ≡ (get_or before k d).pool
  pub bares : (k : ℕ) (d : SoloState) → k < length before → bare (get_or after k d).history ≡ bare (get_or before k d).history ++ more k

-- this event at this shard, and nothing elsewhere
abbrev pub only_at : ℕ → List Event → ℕ → List Event
only_at shard made k = cond (shard == k) made []

abbrev pub nothing : ℕ → List Event
nothing k = []

abbrev pub AreLone : List SoloState → Type 0
AreLone shards = All (λ (s : SoloState). IsLone s.pool) shards

-- they have one pass each still
pub lone-changed : (before after : List SoloState) (more : ℕ → List Event) → AreLone before → Changed before after more → AreLone after
lone-changed before after more lone changed k d in' =
    let was : k < length before = omega (arith, in', changed.count) in
    subst IsLone (sym (changed.pools k d was)) (lone k d was)

-- a call of one shard makes its add or delete there alone
asked-one : (Call : SoloState → SoloState → Type 0) (shard : ℕ) (before after : List SoloState) (made : List Event) → AreLone before → AsksOne Call shard before after →
    ((s t : SoloState) → IsLone s.pool → Call s t → (t.pool ≡ s.pool) × (bare t.history ≡ bare s.history ++ made)) → Changed before after (only_at shard made)
asked-one Call shard before after made lone asks gives = record {
  count = asks.count;
  pools = λ k d in'. ⊎_elim (λ (same : k ≡ shard). subst (λ n. (get_or after n d).pool ≡ (get_or before n d).pool) (sym same) (here d).0)
      (λ (apart : k ≡ shard → ⊥). ap (λ (s : SoloState). s.pool) (asks.others k d apart)) (cases_eq k shard);
  bares = λ k d in'. ⊎_elim
      (λ (same : k ≡ shard).
      subst (λ n. bare (get_or after n d).history ≡ bare (get_or before n d).history ++ only_at shard made n) (sym same)
      ((here d).1 ∙ sym (ap (λ b. bare (get_or before shard d).history ++ cond b made []) (eq-eqb shard shard refl))))
      (λ (apart : k ≡ shard → ⊥).
      ap (λ (s : SoloState). bare s.history) (asks.others k d apart) ∙ sym (append-nil (bare (get_or before k d).history))
      ∙ sym (ap (λ b. bare (get_or before k d).history ++ cond b made []) (ne_eqb shard k (λ is. apart (sym is)))))
      (cases_eq k shard);
} where
  here : (d : SoloState) → ((get_or after shard d).pool ≡ (get_or before shard d).pool) × (bare (get_or after shard d).history ≡ bare (get_or before shard d).history ++ made)
  here d = gives (get_or before shard d) (get_or after shard d) (lone shard d asks.in_range) (asks.asked d)

pub asked-add : (id : ℕ) (text : List ℕ) (answer : Result ℕ AddFault) (shard : ℕ) (before after : List SoloState) → AreLone before →
    AsksOne (λ s t. AddsTo id text s t answer) shard before after → Changed before after (only_at shard (made_by (call.Add id text) (reply_of_add answer)))
asked-add id text answer shard before after lone asks =
    asked-one (λ s t. AddsTo id text s t answer) shard before after (made_by (call.Add id text) (reply_of_add answer)) lone asks
    (λ s t one adds. (adds.pool, lone_step s.pool.limits s.history t.history (call.Add id text) (reply_of_add answer) one.one_pass adds.call.step))

pub asked-delete : (id : ℕ) (answer : Result ℕ DeleteFault) (shard : ℕ) (before after : List SoloState) → AreLone before →
    AsksOne (λ s t. DeletesFrom id s t answer) shard before after → Changed before after (only_at shard (made_by (call.Delete id) (reply_of_delete answer)))
asked-delete id answer shard before after lone asks =
    asked-one (λ s t. DeletesFrom id s t answer) shard before after (made_by (call.Delete id) (reply_of_delete answer)) lone asks
    (λ s t one deletes. (deletes.pool, lone_step s.pool.limits s.history t.history (call.Delete id) (reply_of_delete answer) one.one_pass deletes.call.step))

-- nothing anywhere is nothing
pub changed-nothing : (before after : List SoloState) (shard : ℕ) → Changed before after (only_at shard []) → Changed before after nothing
changed-nothing before after shard changed = record {
  count = changed.count;
  pools = changed.pools;
  bares = λ k d in'. changed.bares k d in' ∙ ap (λ es. bare (get_or before k d).history ++ es) (none (shard == k));
} where
  none : (b : Bool) → cond b [] [] ≡ nothing 0
  none true = refl
  none false = refl

-- where nothing was done there is nothing more
pub changed_none : (shards : List SoloState) → Changed shards shards nothing
changed_none shards = record { count = refl; pools = λ k d in'. refl; bares = λ k d in'. sym (append-nil (bare (get_or shards k d).history)) }

-- a set whose shards have no more stands for what it stood for
pub stands-same : (shards after : List SoloState) (homes others : List (ℕ × Home)) (commits : ℕ) (list : List Event) → Changed shards after nothing →
    ((id : ℕ) → lookup (nat_eq id) others ≡ lookup (nat_eq id) homes) → StandsFor (record { shards = shards; homes = homes; commits = commits }) list →
    StandsFor (record { shards = after; homes = others; commits = commits }) list
stands-same shards after homes others commits list changed same stands = record {
  commits = stands.commits;
  count = stands.count;
  parts = λ k d in'.
      let was : k < length shards = omega (arith, in', changed.count) in
      changed.bares k d was ∙ append-nil (bare (get_or shards k d).history) ∙ stands.parts k d was ∙ ap (λ n. part n list k) (sym changed.count);
  homes = λ id. same id ∙ stands.homes id ∙ ap (λ n. option_map (home_of n) (document_with id list)) (sym changed.count);
}

-- one whose one shard has a commit more stands for the list with that at its end
pub stands-more : (shards after : List SoloState) (homes others : List (ℕ × Home)) (commits shard : ℕ) (list : List Event) (e : Event) → MayCome list e →
    goes_to (length shards) list e ≡ Some shard → Changed shards after (only_at shard (e ∷ [])) → AreHomesOf (length shards) others (list ++ e ∷ []) →
    StandsFor (record { shards = shards; homes = homes; commits = commits }) list → StandsFor (record { shards = after; homes = others; commits = commits + 1 }) (list ++ e ∷ [])
stands-more shards after homes others commits shard list e may goes changed are stands = record {
  commits = commits-push list e stands.commits may;
  count = let one = length-append list (e ∷ []) in let count = stands.count in omega (arith, one, count);
  parts = λ k d in'.
      let was : k < length shards = omega (arith, in', changed.count) in
      let at : goes_at (length shards) k list e ≡ (shard == k) = ap (λ o. option_map_or (λ (n : ℕ). n == k) o false) goes in
      changed.bares k d was ∙ ap (λ es. es ++ only_at shard (e ∷ []) k) (stands.parts k d was)
      ∙ sym (part-push (length shards) k list e ∙ ap (λ b. part (length shards) list k ++ cond b (e ∷ []) []) at)
      ∙ ap (λ n. part n (list ++ e ∷ []) k) (sym changed.count);
  homes = λ id. are id ∙ ap (λ n. option_map (home_of n) (document_with id (list ++ e ∷ []))) (sym changed.count);
}

-- each member of the list is a commit
pub place-is : (list : List Event) → AreCommits list → place list ≡ length list
place-is = by_commits (λ list. place list ≡ length list) refl step where
  one_more : (h : List Event) (e : Event) → place (e ∷ []) ≡ 1 → place h ≡ length h → place (h ++ e ∷ []) ≡ length (h ++ e ∷ [])
  one_more h e one is = omega (arith, place-append h (e ∷ []), one, is, length-append h (e ∷ []))

  step : (h : List Event) (e : Event) → MayCome h e → place h ≡ length h → place (h ++ e ∷ []) ≡ length (h ++ e ∷ [])
  step h (event.Add pass id text slice column bits) may is = one_more h (event.Add pass id text slice column bits) refl is
  step h (event.Del pass id) may is = one_more h (event.Del pass id) refl is
  step h e may is = absurd may

-- what is told of one of two
home_of-cond : (shards : ℕ) (b : Bool) (o p : Option Document) → option_map (home_of shards) (cond b o p) ≡ cond b (option_map (home_of shards) o) (option_map (home_of shards) p)
home_of-cond shards true o p = refl
home_of-cond shards false o p = refl

-- the table after an add, and after a delete
pub homes-added : (shards : ℕ) (homes others : List (ℕ × Home)) (list : List Event) (id : ℕ) (text : List ℕ) → AreCommits list → is_live id list ≡ false → AreHomesOf shards homes list →
    ((q : ℕ) → lookup (nat_eq q) others ≡ cond (nat_eq id q) (Some (record { shard = shard_of shards text; place = length list + 1 })) (lookup (nat_eq q) homes)) →
    AreHomesOf shards others (list ++ added id text ∷ [])
homes-added shards homes others list id text commits absent are update q =
    let home : ℕ → Home = λ n. record { shard = shard_of shards text; place = n + 1 } in
    let new : Document = record { id = id; text = text; place = place list + 1 } in
    update q
    ∙ ap (λ o. cond (id == q) (Some (home (length list))) o) (are q)
    ∙ ap (λ n. cond (id == q) (Some (home n)) (option_map (home_of shards) (document_with q list))) (sym (place-is list commits))
    ∙ sym (ap (option_map (home_of shards)) (document_with-added list 0 id text 0 0 [] q absent) ∙ home_of-cond shards (id == q) (Some new) (document_with q list))

pub homes-deleted : (shards : ℕ) (homes others : List (ℕ × Home)) (list : List Event) (id : ℕ) → AreHomesOf shards homes list →
    ((q : ℕ) → lookup (nat_eq q) others ≡ cond (nat_eq id q) None (lookup (nat_eq q) homes)) → AreHomesOf shards others (list ++ deleted id ∷ [])
homes-deleted shards homes others list id are update q =
    update q
    ∙ ap (λ o. cond (id == q) None o) (are q)
    ∙ sym (ap (option_map (home_of shards)) (document_with-deleted list 0 id q) ∙ home_of-cond shards (id == q) None (document_with q list))

-- a number has no home where it is not live
told_none : {A B : Type 0} (f : A → B) (o : Option A) → option_map f o ≡ None → o ≡ None
told_none f None is = refl
told_none f (Some x) is = cc

pub absent-from : (shards : ℕ) (homes : List (ℕ × Home)) (list : List Event) (id : ℕ) → AreHomesOf shards homes list → lookup (nat_eq id) homes ≡ None → is_live id list ≡ false
absent-from shards homes list id are none =
    let no : document_with id list ≡ None = told_none (home_of shards) (document_with id list) (sym (are id) ∙ none) in
    find_some (λ (d : Document). d.id == id) (live list) ∙ ap is_some no

-- and else that of its document
told_some : (shards : ℕ) (o : Option Document) (home : Home) → option_map (home_of shards) o ≡ Some home → (d : Document) × (o ≡ Some d) × (home ≡ home_of shards d)
told_some shards None home is = cc
told_some shards (Some d) home is = (d, refl, sym (inside (home_of shards d) home is)) where
  inside : (x y : Home) → ◌≡◌ {A = Option Home} (Some x) (Some y) → x ≡ y
  inside x y same = cc

pub home-from : (shards : ℕ) (homes : List (ℕ × Home)) (list : List Event) (id : ℕ) (home : Home) → AreHomesOf shards homes list → lookup (nat_eq id) homes ≡ Some home →
    (d : Document) × (document_with id list ≡ Some d) × (home ≡ home_of shards d)
home-from shards homes list id home are some = told_some shards (document_with id list) home (sym (are id) ∙ some)
