-- How a find is answered by a test, and how a text that is no query is refused.
use Rattle.std.proofs.Common.{◌≡◌, ◌&&◌, ℕ, Bool, List, [], map, Result, Ok, Err, IfOk, sym, ap, ◌∙◌, subst}
use Rattle.std.proofs.Math.Bool.{and-true}
use Rattle.std.proofs.lemmas.List.Elements.{filter_agree}
use Rattle.bool_query.specs.declared.fault.QueryFault.{QueryFault}
use Rattle.bool_query.specs.declared.fault.QueryFault.TheVariants as fault
use Rattle.bool_query.specs.Faults.{IfDeep, IfSyntax}
use Rattle.commit_desk.specs.Judging.{answer_where}
use Rattle.commit_desk.specs.declared.find_layouts.FindLayout.{FindLayout}
use Rattle.engine.proofs.OpenFinds.{begun_last}
use Rattle.engine.specs.Finds.{IsAnswerWhere, IsBegunAt, IsScanFor}
use Rattle.engine.specs.Passes.{view_of}
use Rattle.engine.specs.Replies.{reply_of_query_fault}
use Rattle.engine.specs.Searches.{IsSearchOf, is_kept_by}
use Rattle.commit_desk.specs.Scans.{keeps_text}
use Rattle.engine.specs.declared.search.Search.{Search}
use Rattle.funnel_model.proofs.WordExprLemmas.{each-kept}
use Rattle.funnel_model.proofs.WordLemmas.{Contains-has, has-same, list_all-same}
use Rattle.funnel_model.specs.declared.claim.Token.{Token}
use Rattle.funnel_model.specs.declared.memory.Memory.{Memory}
use Rattle.funnel_model.specs.declared.word_expr.WordExpr.{WordExpr}
use Rattle.funnel_model.specs.Expressions.{Tree, atom, keeps}
use Rattle.funnel_model.specs.Searches.{all_of, has_all, is_kept}
use Rattle.funnel_model.specs.WordExprs.{each_keeps, each_searched}
use Rattle.funnel_model.specs.Words.{AreWordsOf, has_word, meets, words}
use Rattle.slice_rule.specs.Pools.{PoolId}
use Rattle.slice_rule.specs.Seats.{PassState}
use Rattle.funnel_model.specs.declared.event.Event.{Event}
use Rattle.funnel_model.specs.declared.expr.Expr.{Expr}
use Rattle.funnel_model.specs.History.{Document, answer, live}
use Rattle.funnel_model.specs.Queries.{IsMalformed, IsTooDeep}
use Rattle.line_proto.specs.Forms.{ByQuery}
use Rattle.line_proto.specs.Services.{IsUnread}

-- tests that agree give the same answer
pub answer_same : (one other : List ℕ → Bool) (history : List Event) → ((text : List ℕ) → one text ≡ other text) → answer_where history one ≡ answer_where history other
answer_same one other history same = ap (map (λ (d : Document). d.id)) (filter_agree (λ (d : Document). one d.text) (λ (d : Document). other d.text) (λ d. same d.text) (live history))

-- a text that was refused is told so
pub unread : (text : List ℕ) (read : Result Expr QueryFault) (told : QueryFault) → read ≡ Err told → IfSyntax read (λ at. IsMalformed text at) → IfDeep read (λ at. IsTooDeep text at) → IsUnread (ByQuery text) (reply_of_query_fault told)
unread text read told is syntax deep =
    of told (subst (λ r. IfSyntax r (λ at. IsMalformed text at)) is syntax) (subst (λ r. IfDeep r (λ at. IsTooDeep text at)) is deep)
  where
    of : (f : QueryFault) → IfSyntax {A = Expr} (Err f) (λ at. IsMalformed text at) → IfDeep {A = Expr} (Err f) (λ at. IsTooDeep text at) → IsUnread (ByQuery text) (reply_of_query_fault f)
    of (fault.Syntax at) malformed deep = malformed
    of (fault.Deep at) malformed deep = deep
    of fault.Memory malformed deep = tt

-- a search of the words of a query keeps the texts that meet it
words_kept : (search : Search) (query text : List ℕ) → AreWordsOf search.words query → search.residue.items ≡ [] → is_kept_by search text ≡ meets text query
words_kept search query text are none =
    ap (λ (es : List WordExpr). has_all text search.words && is_kept (all_of (each_searched es)) text) none ∙ and-true (has_all text search.words)
    ∙ list_all-same (has_word text) search.words (words query) (has-same search.words (words query) are)

-- it is the search of the atom of the query
pub search_of_words : (search : Search) (query : List ℕ) (set : List (List ℕ)) → search.words ≡ set → search.residue.items ≡ [] → AreWordsOf set query → IsSearchOf search (atom query)
search_of_words search query set is none of =
    let are : AreWordsOf search.words query = subst (λ (ws : List (List ℕ)). AreWordsOf ws query) (sym is) of in
    record {
      required = λ word. (λ has. (Contains-has word (words query)).0 ((are word).0 has), λ some. (are word).1 ((Contains-has word (words query)).1 some));
      kept = λ text. words_kept search query text are none;
    }

-- so a find of words is answered by its query
pub found_words : (pool : PoolId) (pass : PassState) (token : Token) (search : Search) (layouts : List FindLayout) → IsScanFor pool pass token search layouts → (ids : List ℕ) →
    IsAnswerWhere (is_kept_by search) pass ids → (earlier : List Event) (asked : List ℕ) → IsBegunAt (view_of pass) earlier asked → ids ≡ answer earlier asked
found_words pool pass token search layouts is ids found earlier asked at =
    let begun = is.just.finding.holds.begun in
    let of : AreWordsOf search.words asked = subst (AreWordsOf search.words) (sym (begun_last pass token.opened_at earlier asked at begun).1) (is.of_query begun) in
    found earlier asked at ∙ answer_same (is_kept_by search) (λ text. meets text asked) earlier (λ text. words_kept search asked text of is.no_residue)

-- where it is answered
pub answers_words : (pool : PoolId) (pass : PassState) (token : Token) (search : Search) (layouts : List FindLayout) → IsScanFor pool pass token search layouts → (answered : Result (List ℕ) Memory) →
    IfOk answered (IsAnswerWhere (is_kept_by search) pass) →
    IfOk answered (λ ids. (earlier : List Event) (asked : List ℕ) → IsBegunAt (view_of pass) earlier asked → ids ≡ answer earlier asked)
answers_words pool pass token search layouts is (Ok ids) found = found_words pool pass token search layouts is ids found
answers_words pool pass token search layouts is (Err memory) found = tt

-- and a search that was read of a query keeps what the query's expression keeps
pub search_keeps : (words : List (List ℕ)) (residue : List WordExpr) (t : Tree) → ((text : List ℕ) → keeps t text ≡ (has_all text words && each_keeps residue text)) → (text : List ℕ) →
    keeps_text words (each_searched residue) text ≡ keeps t text
search_keeps words residue t kept text = ap (λ b. has_all text words && b) (each-kept residue text) ∙ sym (kept text)
