-- The passes of a load, from the caller to the workers and back.
use Rattle.std.proofs.Common.{◌≡◌, ℕ, zero, suc, ◌+◌, ◌<◌, List, [], ◌∷◌, ◌++◌, length, map, Result, Ok, Err, sym, refl, ap, ◌∙◌, subst, inl, inr, arith, append_assoc, length-append, slice_index_or, reverse}
use Rattle.std.proofs.lemmas.List.{drop_at, get_or-map, get_or_append_left, length-map, map-append, reverse-append, same_lists}
use Rattle.std.proofs.lemmas.List.FromFn.{get_or-range_with_len, length-range_with_len}
use Rattle.std.specs.List.{range_with_len}
use Rattle.std.specs.Prelude.{MatchResult, drop}
use mathlib.Core.List.{IsPrefix}
use Rattle.engine.specs.Passes.{PassView}
use Rattle.funnel_model.specs.declared.config.Config.{Config}
use Rattle.funnel_model.specs.declared.event.Event.{Event}
use Rattle.funnel_model.specs.declared.memory.Memory.{Memory}
use Rattle.funnel_model.specs.History.{IsFrontOf}
use Rattle.funnel_model.specs.Legal.{Limits}
use Rattle.load_gen.specs.Jobs.{adds_of, queries_of}
use Rattle.funnel_server.specs.Loads.{AllComeToQueries, ComesToQueries, Course, IsCutShort, IsPut, front_at, worker_of}
use Rattle.funnel_server.specs.Parts.{AreWorkers, LoaderState, passes_of}
use Rattle.funnel_server.proofs.LoadWorkers.{early_along}

-- a worker that goes, with its pass, behind the workers or before the passes in reverse: the passes in order are the same
pub one_moved : (loaders : List LoaderState) (loader : LoaderState) (passes : List PassView) →
    passes_of (loaders ++ loader ∷ []) ++ reverse passes ≡ passes_of loaders ++ reverse (passes ++ loader.pass ∷ [])
one_moved loaders loader passes =
    ap (λ xs. xs ++ reverse passes) (map-append (λ (l : LoaderState). l.pass) loaders (loader ∷ []))
    ∙ append_assoc (passes_of loaders) (loader.pass ∷ []) (reverse passes)
    ∙ ap (λ xs. passes_of loaders ++ xs) (sym (reverse-append passes (loader.pass ∷ [])))

-- the first passes are those of the workers
module _ (workers : ℕ) (loaders : List LoaderState) (others passes : List PassView)
    (whole : passes_of loaders ++ others ≡ passes) (count : length loaders ≡ workers)
    (numbers : map (λ (pass : PassView). pass.number) passes ≡ range_with_len 0 (length passes)) where
  pub long : length passes ≡ workers + length others
  long = ap length (sym whole) ∙ length-append (passes_of loaders) others ∙ ap (λ n. n + length others) (length-map loaders (λ (l : LoaderState). l.pass) ∙ count)

  pass_at : (k : ℕ) (d : LoaderState) → k < workers → slice_index_or passes k d.pass ≡ (slice_index_or loaders k d).pass
  pass_at k d small =
      ap (λ (ps : List PassView). slice_index_or ps k d.pass) (sym whole)
      ∙ get_or_append_left (passes_of loaders) others d.pass k (omega (arith, small, count, length-map loaders (λ (l : LoaderState). l.pass)))
      ∙ get_or-map (λ (l : LoaderState). l.pass) loaders k d d.pass (omega (arith, small, count))

  number_at : (k : ℕ) (d : LoaderState) → k < workers → (slice_index_or loaders k d).pass.number ≡ k
  number_at k d small =
      ap (λ (p : PassView). p.number) (sym (pass_at k d small))
      ∙ sym (get_or-map (λ (p : PassView). p.number) passes k d.pass 0 (omega (arith, small, long)))
      ∙ ap (λ ns. slice_index_or ns k 0) numbers
      ∙ get_or-range_with_len 0 (length passes) k 0 (omega (arith, small, long))
      ∙ omega arith

  pub are_workers : AreWorkers workers loaders
  are_workers = record { count = count; numbers = number_at }

-- the passes of workers have their numbers
number_of_worker : (workers : ℕ) (loaders : List LoaderState) → AreWorkers workers loaders → (some : List LoaderState) → length some ≡ workers →
    (k d : ℕ) → k < workers → slice_index_or (map (λ (pass : PassView). pass.number) (passes_of loaders)) k d ≡ k
number_of_worker workers loaders are [] none k d small = absurd (omega (arith, none, small))
number_of_worker workers loaders are (e ∷ more) count k d small =
    get_or-map (λ (pass : PassView). pass.number) (passes_of loaders) k e.pass d (omega (arith, small, are.count, length-map loaders (λ (l : LoaderState). l.pass)))
    ∙ ap (λ (p : PassView). p.number) (get_or-map (λ (l : LoaderState). l.pass) loaders k e e.pass (omega (arith, small, are.count)))
    ∙ are.numbers k e small

numbers_of : (workers : ℕ) (loaders : List LoaderState) → AreWorkers workers loaders →
    map (λ (pass : PassView). pass.number) (passes_of loaders) ≡ range_with_len 0 workers
numbers_of workers loaders are =
    let count = length-map (passes_of loaders) (λ (pass : PassView). pass.number) ∙ length-map loaders (λ (l : LoaderState). l.pass) ∙ are.count in
    same_lists (map (λ (pass : PassView). pass.number) (passes_of loaders)) (range_with_len 0 workers) (count ∙ sym (length-range_with_len 0 workers))
    (λ k d small.
    number_of_worker workers loaders are loaders are.count k d (omega (arith, small, count))
    ∙ sym (get_or-range_with_len 0 workers k d (omega (arith, small, count)) ∙ omega arith))

-- so the workers hand back passes with the numbers that they had
pub same_numbers : (workers : ℕ) (before after : List LoaderState) (others : List PassView) → AreWorkers workers before → AreWorkers workers after →
    map (λ (pass : PassView). pass.number) (passes_of after ++ others) ≡ map (λ (pass : PassView). pass.number) (passes_of before ++ others)
same_numbers workers before after others were are =
    map-append (λ (pass : PassView). pass.number) (passes_of after) others
    ∙ ap (λ ns. ns ++ map (λ (pass : PassView). pass.number) others) (numbers_of workers after are ∙ sym (numbers_of workers before were))
    ∙ sym (map-append (λ (pass : PassView). pass.number) (passes_of before) others)

-- and the others as they were
pub others_of : (workers : ℕ) (loaders : List LoaderState) (others : List PassView) → length loaders ≡ workers → drop workers (passes_of loaders ++ others) ≡ others
others_of workers loaders others count = drop_at (passes_of loaders) others workers (length-map loaders (λ (l : LoaderState). l.pass) ∙ count)

-- what the first passes have seen doesn't depend on the others
pub front_before : (passes others : List PassView) (k : ℕ) → k < length passes → front_at (passes ++ others) k ≡ front_at passes k
front_before [] others k small = absurd (omega (arith, small))
front_before (pass ∷ passes) others zero small = refl
front_before (pass ∷ passes) others (suc k) small = front_before passes others k (omega (arith, small))

-- and what a load says of them doesn't either
module _ (opening : Config) (limits : Limits) (texts : List (List ℕ)) (workers : ℕ) (before after first last : ℕ → List Event)
    (begins : (k : ℕ) → k < workers → before k ≡ first k) (ends : (k : ℕ) → k < workers → after k ≡ last k) where
  come_along : (courses : ℕ → Course) → AllComeToQueries opening limits texts workers before courses → AllComeToQueries opening limits texts workers first courses
  come_along courses come = record {
    each = λ k small. subst (λ (h : List Event). ComesToQueries (worker_of opening limits k) h texts workers (courses k)) (begins k small) (come.each k small);
    met_adds = come.met_adds;
    met_deletes = come.met_deletes;
  }

  put_along : (results : List (ℕ × ℕ)) → IsPut opening limits texts workers before after results → IsPut opening limits texts workers first last results
  put_along results put = record {
    courses = put.courses;
    come = come_along put.courses put.come;
    queried = put.queried;
    to_queries = put.to_queries;
    asked = put.asked;
    meets_queries = λ k small. subst (IsFrontOf k (put.queried k)) (ends k small) (put.meets_queries k small);
    met_queries = λ k other small below. subst (IsPrefix (put.queried other)) (ends k small) (put.met_queries k other small below);
    count = put.count;
    results_are = put.results_are;
  }

  cut_along : IsCutShort opening limits texts workers before after → IsCutShort opening limits texts workers first last
  cut_along (inl same) = inl (λ k small. sym (begins k small) ∙ same k small ∙ ends k small)
  cut_along (inr (inl early)) = inr (inl (early_along opening limits workers (adds_of texts workers) before after first last begins ends early))
  cut_along (inr (inr early)) = inr (inr (record {
    courses = early.courses;
    come = come_along early.courses early.come;
    ends = early_along opening limits workers (queries_of workers) (λ k. (early.courses k).met_deleted) after (λ k. (early.courses k).met_deleted) last
        (λ k small. refl) ends early.ends;
  }))

  pub ends_along : (answer : Result (List (ℕ × ℕ)) Memory) →
      MatchResult answer (λ results. IsPut opening limits texts workers before after results) (λ _. IsCutShort opening limits texts workers before after) →
      MatchResult answer (λ results. IsPut opening limits texts workers first last results) (λ _. IsCutShort opening limits texts workers first last)
  ends_along (Ok results) put = put_along results put
  ends_along (Err memory) cut = cut_along cut

-- where there was no memory for the workers none of them made a call
pub nothing_put : (opening : Config) (limits : Limits) (texts : List (List ℕ)) (workers : ℕ) (fronts : ℕ → List Event) → IsCutShort opening limits texts workers fronts fronts
nothing_put opening limits texts workers fronts = inl (λ k small. refl)
