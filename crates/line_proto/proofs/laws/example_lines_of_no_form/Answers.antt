use Rattle.std.proofs.Common.{[], codes, refl, ◌∙◌, arith}
use Rattle.line_proto.specs.Forms.{asked_of_text, asked_of_search, asked_of_rest, asked_of_word, add_of, put_of, delete_of, get_of, journal_of, query_of, newest_of, oldest_of, tune_of}
use Rattle.line_proto.proofs.Lines.{form_of-text}
use Rattle.line_proto.proofs.laws.example_lines_of_no_form.Goals as goal

pub returns-clause-empty : goal.returns-clause-empty
unfolding lib.Utf8.encode asked_of_text asked_of_search asked_of_rest asked_of_word add_of put_of delete_of get_of journal_of query_of newest_of oldest_of tune_of
returns-clause-empty c = form_of-text [] (omega arith) ([], (refl, refl)) ∙ refl

pub returns-clause-other_word : goal.returns-clause-other_word
unfolding lib.Utf8.encode asked_of_text asked_of_search asked_of_rest asked_of_word add_of put_of delete_of get_of journal_of query_of newest_of oldest_of tune_of
returns-clause-other_word c = form_of-text (codes "delete 5") (omega arith) ((codes "delete 5"), (refl, refl)) ∙ refl

pub returns-clause-more_text : goal.returns-clause-more_text
unfolding lib.Utf8.encode asked_of_text asked_of_search asked_of_rest asked_of_word add_of put_of delete_of get_of journal_of query_of newest_of oldest_of tune_of
returns-clause-more_text c = form_of-text (codes "place 1") (omega arith) ((codes "place 1"), (refl, refl)) ∙ refl

pub returns-clause-no_amount : goal.returns-clause-no_amount
unfolding lib.Utf8.encode asked_of_text asked_of_search asked_of_rest asked_of_word add_of put_of delete_of get_of journal_of query_of newest_of oldest_of tune_of
returns-clause-no_amount c = form_of-text (codes "newest a") (omega arith) ((codes "newest a"), (refl, refl)) ∙ refl

pub returns-clause-no_number : goal.returns-clause-no_number
unfolding lib.Utf8.encode asked_of_text asked_of_search asked_of_rest asked_of_word add_of put_of delete_of get_of journal_of query_of newest_of oldest_of tune_of
returns-clause-no_number c = form_of-text (codes "add 18446744073709551616 a") (omega arith) ((codes "add 18446744073709551616 a"), (refl, refl)) ∙ refl
