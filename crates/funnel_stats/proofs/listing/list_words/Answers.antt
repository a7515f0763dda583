-- An object that lists no words.
use Rattle.std.proofs.Common.{◌≡◌, ℕ, List, [], None, sym}
use Rattle.std.specs.Option.{option_or}
use Rattle.serde_json.specs.Data.{Data}
use Rattle.serde_json.specs.View.{members_view}
use Rattle.funnel_stats.specs.Configurations.{word_counts}
use Rattle.funnel_stats.specs.Faults.{not_word, word_count}
use Rattle.funnel_stats.specs.Values.{listed_at}
use Rattle.funnel_stats.proofs.EntryLemmas.{listed_at-none}
use Rattle.funnel_stats.proofs.listing.list_words.Goals as goal

nothing_listed : (documents : ℕ) (listed : List (List ℕ × Data)) (words : List (List ℕ × ℕ)) → listed ≡ [] → words ≡ []
    → (option_or (not_word listed) (option_or (word_count documents listed) None) ≡ None) × (words ≡ word_counts listed)
unfolding not_word word_count
nothing_listed documents listed words none empty = (rw none, rw (none, empty))

pub returns-in-None-clause-answer : goal.returns-in-None-clause-answer
returns-in-None-clause-answer c =
    nothing_listed c.args.documents (listed_at (members_view c.args.object.now.entries)) c.no_words.result
    (listed_at-none (members_view c.args.object.now.entries) (sym c.in-None.ensures)) c.no_words.ensures.words
