-- the words with their counts so far, and the entries that are left
use Rattle.std.proofs.Common.{◌≡◌, ◌++◌, map}
use Rattle.serde_json.specs.View.{members_view}
use Rattle.funnel_model.specs.Listed.{listed_pair}
use Rattle.funnel_stats.specs.Configurations.{word_counts}
use Rattle.funnel_stats.specs.Faults.{word_count}
use Rattle.funnel_stats.specs.Values.{entries}
use Rattle.funnel_stats.proofs.listing.count_words.Given as goal

abbrev pub invariant-loop-word : goal.invariant-loop-word
invariant-loop-word l = record {
  fault : word_count l.documents (entries (members_view l.listed.entries)) ≡ word_count l.documents (entries (members_view l.word-iterator));
  words : word_counts (entries (members_view l.listed.entries)) ≡ map listed_pair l.counts.items ++ word_counts (entries (members_view l.word-iterator));
}
