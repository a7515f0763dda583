-- The results of a worker's queries, which it sets at the places of its share.
use Rattle.std.proofs.Common.{◌≡◌, ℕ, ◌+◌, ◌<◌, ◌≤◌, ◌%◌, List, [], ◌∷◌, ◌++◌, length, map, slice_set, Some, sym, ap, ap₂, ◌∙◌, arith}
use Rattle.std.specs.List.{slice_get}
use Rattle.std.proofs.lemmas.List.{length-set, map-append}
use Rattle.funnel_model.specs.declared.call.Call.TheVariants as call
use Rattle.funnel_model.specs.declared.event.Event.{Event}
use Rattle.funnel_model.specs.declared.reply.Reply.{Reply}
use Rattle.line_proto.specs.Services.{Caller}
use Rattle.load_gen.specs.Jobs.{queries_of}
use Rattle.load_gen.specs.Queries.{queries}
use Rattle.load_laws.specs.Replies.{result_in}
use Rattle.funnel_server.specs.Loads.{AreAsked}
use Rattle.funnel_server.specs.Shares.{HasResults}
use Rattle.funnel_server.proofs.Asked.{AreUnderWay, under_way-begin, under_way-end, under_way-more}
use Rattle.funnel_server.proofs.ShareCalls.{queries_left, queries_left-begin, queries_left-end, queries_left-next}
use Rattle.funnel_server.proofs.ShareWalks.{share_before, share_before-begin, share_before-end, share_before-set}

-- the queries of the share before a place are run, and their results, which their replies tell, stand at their places
pub record AreFound (caller : Caller) (before now : List Event) (workers worker j : ℕ) (results : List (ℕ × ℕ)) : Type 0 where
  pub replies : List Reply
  pub so_far : AreUnderWay caller before now (queries_of workers worker) (queries_left workers worker j) replies
  pub count : length results ≡ length queries
  pub results_are : map (λ item. item.1) (share_before results workers worker j) ≡ map result_in replies

-- before the first one
pub found-begin : (caller : Caller) (front : List Event) (workers worker : ℕ) (results : List (ℕ × ℕ)) → worker < workers → length results ≡ length queries →
    AreFound caller front front workers worker worker results
found-begin caller front workers worker results within count = record {
  replies = [];
  so_far = under_way-begin caller front _ _ (queries_left-begin workers worker within);
  count = count;
  results_are = ap (λ items. map (λ item. item.1) items) (share_before-begin results workers worker within);
}

-- one more
pub found-next : (caller asking : Caller) (before now after : List Event) (workers worker j : ℕ) (results : List (ℕ × ℕ)) (query : List ℕ) (given : Reply) (result : ℕ × ℕ) →
    asking ≡ caller → worker < workers → j % workers ≡ worker → slice_get queries j ≡ Some query → j < 8 → AreFound caller before now workers worker j results →
    AreAsked asking now after (call.Find query ∷ []) (given ∷ []) → result ≡ result_in given →
    AreFound caller before after workers worker (j + workers) (slice_set results j result)
found-next caller asking before now after workers worker j results query given result same within falls is below found asked told = record {
  replies = found.replies ++ given ∷ [];
  so_far = under_way-more _ _ _ _ _ _ _ _ _ _ _ same found.so_far (queries_left-next workers worker j query within falls is) asked;
  count = length-set results j result ∙ found.count;
  results_are =
      share_before-set results workers worker j result within falls (omega (arith, below, found.count))
      ∙ ap₂ (λ first last. first ++ last ∷ []) found.results_are told
      ∙ sym (map-append result_in found.replies (given ∷ []));
}

-- all of them
pub found-end : (caller : Caller) (before after : List Event) (workers worker j : ℕ) (results : List (ℕ × ℕ)) → 8 ≤ j →
    AreFound caller before after workers worker j results → HasResults caller before after workers worker results
found-end caller before after workers worker j results behind found = record {
  replies = found.replies;
  asked = under_way-end _ _ _ _ _ _ found.so_far (queries_left-end workers worker j behind);
  count = found.count;
  results_are =
      ap (λ items. map (λ item. item.1) items) (sym (share_before-end results workers worker j (omega (arith, behind, found.count))))
      ∙ found.results_are;
}
