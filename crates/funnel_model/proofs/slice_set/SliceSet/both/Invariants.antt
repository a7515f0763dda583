use Rattle.std.proofs.Common.{◌≡◌, length}
use Rattle.funnel_model.proofs.SliceSetLemmas.{AreAnds}
use Rattle.funnel_model.proofs.slice_set.SliceSet.both.Given as goal

-- the words below this one are those of both sets
abbrev pub invariant-loop-index : goal.invariant-loop-index
invariant-loop-index l = record {
  long : length l.words ≡ 16;
  ands : AreAnds l.self-inside.words l.other-inside.words l.index l.words;
}
