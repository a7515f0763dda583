use Rattle.std.proofs.Common.{codes, refl, ◌∙◌, arith}
use Rattle.line_proto.specs.Forms.{asked_of_text, asked_of_search, asked_of_rest, asked_of_word, add_of, put_of, delete_of, get_of, journal_of, query_of, newest_of, oldest_of, tune_of}
use Rattle.line_proto.proofs.Lines.{form_of-text}
use Rattle.line_proto.proofs.laws.example_calls.Goals as goal

pub returns-clause-add : goal.returns-clause-add
unfolding lib.Utf8.encode asked_of_text asked_of_search asked_of_rest asked_of_word add_of put_of delete_of get_of journal_of query_of newest_of oldest_of tune_of
returns-clause-add c = form_of-text (codes "add 007 a b\r") (omega arith) ((codes "add 007 a b"), (refl, refl)) ∙ refl

pub returns-clause-no_text : goal.returns-clause-no_text
unfolding lib.Utf8.encode asked_of_text asked_of_search asked_of_rest asked_of_word add_of put_of delete_of get_of journal_of query_of newest_of oldest_of tune_of
returns-clause-no_text c = form_of-text (codes "add 7") (omega arith) ((codes "add 7"), (refl, refl)) ∙ refl

pub returns-clause-put : goal.returns-clause-put
unfolding lib.Utf8.encode asked_of_text asked_of_search asked_of_rest asked_of_word add_of put_of delete_of get_of journal_of query_of newest_of oldest_of tune_of
returns-clause-put c = form_of-text (codes "put 7 b") (omega arith) ((codes "put 7 b"), (refl, refl)) ∙ refl

pub returns-clause-delete : goal.returns-clause-delete
unfolding lib.Utf8.encode asked_of_text asked_of_search asked_of_rest asked_of_word add_of put_of delete_of get_of journal_of query_of newest_of oldest_of tune_of
returns-clause-delete c = form_of-text (codes "del 18446744073709551615") (omega arith) ((codes "del 18446744073709551615"), (refl, refl)) ∙ refl

pub returns-clause-get : goal.returns-clause-get
unfolding lib.Utf8.encode asked_of_text asked_of_search asked_of_rest asked_of_word add_of put_of delete_of get_of journal_of query_of newest_of oldest_of tune_of
returns-clause-get c = form_of-text (codes "get 7") (omega arith) ((codes "get 7"), (refl, refl)) ∙ refl

pub returns-clause-find : goal.returns-clause-find
unfolding lib.Utf8.encode asked_of_text asked_of_search asked_of_rest asked_of_word add_of put_of delete_of get_of journal_of query_of newest_of oldest_of tune_of
returns-clause-find c = form_of-text (codes "find") (omega arith) ((codes "find"), (refl, refl)) ∙ refl

pub returns-clause-place : goal.returns-clause-place
unfolding lib.Utf8.encode asked_of_text asked_of_search asked_of_rest asked_of_word add_of put_of delete_of get_of journal_of query_of newest_of oldest_of tune_of
returns-clause-place c = form_of-text (codes "place") (omega arith) ((codes "place"), (refl, refl)) ∙ refl

pub returns-clause-journal : goal.returns-clause-journal
unfolding lib.Utf8.encode asked_of_text asked_of_search asked_of_rest asked_of_word add_of put_of delete_of get_of journal_of query_of newest_of oldest_of tune_of
returns-clause-journal c = form_of-text (codes "journal 0") (omega arith) ((codes "journal 0"), (refl, refl)) ∙ refl

pub returns-clause-stats : goal.returns-clause-stats
unfolding lib.Utf8.encode asked_of_text asked_of_search asked_of_rest asked_of_word add_of put_of delete_of get_of journal_of query_of newest_of oldest_of tune_of
returns-clause-stats c = form_of-text (codes "stats") (omega arith) ((codes "stats"), (refl, refl)) ∙ refl

pub returns-clause-recycle : goal.returns-clause-recycle
unfolding lib.Utf8.encode asked_of_text asked_of_search asked_of_rest asked_of_word add_of put_of delete_of get_of journal_of query_of newest_of oldest_of tune_of
returns-clause-recycle c = form_of-text (codes "recycle\r") (omega arith) ((codes "recycle"), (refl, refl)) ∙ refl
