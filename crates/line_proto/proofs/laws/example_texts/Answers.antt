use Rattle.std.proofs.Common.{codes, refl, ◌∙◌, arith}
use Rattle.line_proto.specs.Forms.{asked_of_text, asked_of_search, asked_of_rest, asked_of_word, add_of, put_of, delete_of, get_of, journal_of, query_of, newest_of, oldest_of, tune_of}
use Rattle.line_proto.proofs.Lines.{form_of-text}
use Rattle.line_proto.proofs.laws.example_texts.Goals as goal

pub returns-clause-query : goal.returns-clause-query
unfolding lib.Utf8.encode asked_of_text asked_of_search asked_of_rest asked_of_word add_of put_of delete_of get_of journal_of query_of newest_of oldest_of tune_of
returns-clause-query c = form_of-text (codes "query -a | b") (omega arith) ((codes "query -a | b"), (refl, refl)) ∙ refl

pub returns-clause-no_query_text : goal.returns-clause-no_query_text
unfolding lib.Utf8.encode asked_of_text asked_of_search asked_of_rest asked_of_word add_of put_of delete_of get_of journal_of query_of newest_of oldest_of tune_of
returns-clause-no_query_text c = form_of-text (codes "query ") (omega arith) ((codes "query "), (refl, refl)) ∙ refl

pub returns-clause-query_alone : goal.returns-clause-query_alone
unfolding lib.Utf8.encode asked_of_text asked_of_search asked_of_rest asked_of_word add_of put_of delete_of get_of journal_of query_of newest_of oldest_of tune_of
returns-clause-query_alone c = form_of-text (codes "query") (omega arith) ((codes "query"), (refl, refl)) ∙ refl

pub returns-clause-count : goal.returns-clause-count
unfolding lib.Utf8.encode asked_of_text asked_of_search asked_of_rest asked_of_word add_of put_of delete_of get_of journal_of query_of newest_of oldest_of tune_of
returns-clause-count c = form_of-text (codes "count a") (omega arith) ((codes "count a"), (refl, refl)) ∙ refl

pub returns-clause-count_alone : goal.returns-clause-count_alone
unfolding lib.Utf8.encode asked_of_text asked_of_search asked_of_rest asked_of_word add_of put_of delete_of get_of journal_of query_of newest_of oldest_of tune_of
returns-clause-count_alone c = form_of-text (codes "count") (omega arith) ((codes "count"), (refl, refl)) ∙ refl

pub returns-clause-no_count_text : goal.returns-clause-no_count_text
unfolding lib.Utf8.encode asked_of_text asked_of_search asked_of_rest asked_of_word add_of put_of delete_of get_of journal_of query_of newest_of oldest_of tune_of
returns-clause-no_count_text c = form_of-text (codes "count ") (omega arith) ((codes "count "), (refl, refl)) ∙ refl

pub returns-clause-newest : goal.returns-clause-newest
unfolding lib.Utf8.encode asked_of_text asked_of_search asked_of_rest asked_of_word add_of put_of delete_of get_of journal_of query_of newest_of oldest_of tune_of
returns-clause-newest c = form_of-text (codes "newest 5 -x") (omega arith) ((codes "newest 5 -x"), (refl, refl)) ∙ refl

pub returns-clause-newest_alone : goal.returns-clause-newest_alone
unfolding lib.Utf8.encode asked_of_text asked_of_search asked_of_rest asked_of_word add_of put_of delete_of get_of journal_of query_of newest_of oldest_of tune_of
returns-clause-newest_alone c = form_of-text (codes "newest 5") (omega arith) ((codes "newest 5"), (refl, refl)) ∙ refl

pub returns-clause-oldest : goal.returns-clause-oldest
unfolding lib.Utf8.encode asked_of_text asked_of_search asked_of_rest asked_of_word add_of put_of delete_of get_of journal_of query_of newest_of oldest_of tune_of
returns-clause-oldest c = form_of-text (codes "oldest 1 b") (omega arith) ((codes "oldest 1 b"), (refl, refl)) ∙ refl

pub returns-clause-tune : goal.returns-clause-tune
unfolding lib.Utf8.encode asked_of_text asked_of_search asked_of_rest asked_of_word add_of put_of delete_of get_of journal_of query_of newest_of oldest_of tune_of
returns-clause-tune c = form_of-text (codes "tune []\r") (omega arith) ((codes "tune []"), (refl, refl)) ∙ refl

pub returns-clause-no_tune_text : goal.returns-clause-no_tune_text
unfolding lib.Utf8.encode asked_of_text asked_of_search asked_of_rest asked_of_word add_of put_of delete_of get_of journal_of query_of newest_of oldest_of tune_of
returns-clause-no_tune_text c = form_of-text (codes "tune ") (omega arith) ((codes "tune "), (refl, refl)) ∙ refl

pub returns-clause-tune_alone : goal.returns-clause-tune_alone
unfolding lib.Utf8.encode asked_of_text asked_of_search asked_of_rest asked_of_word add_of put_of delete_of get_of journal_of query_of newest_of oldest_of tune_of
returns-clause-tune_alone c = form_of-text (codes "tune") (omega arith) ((codes "tune"), (refl, refl)) ∙ refl
