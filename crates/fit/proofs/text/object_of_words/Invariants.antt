use Rattle.std.proofs.Common.{◌≡◌, map, take}
use Rattle.funnel_model.specs.Listed.{listed_pair}
use Rattle.serde_json.specs.View.{members_view}
use Rattle.fit.specs.Texts.{members_of_words}
use Rattle.fit.proofs.text.object_of_words.Given as goal

-- the words that came so far are members
abbrev pub invariant-loop-word : goal.invariant-loop-word
invariant-loop-word l = members_view l.object.entries ≡ members_of_words (take l.word-index (map listed_pair l.word-items))
