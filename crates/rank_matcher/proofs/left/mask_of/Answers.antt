use Rattle.std.proofs.Common.{◌≡◌, ◌++◌, ◌∷◌, [], ◌+◌, ◌<◌, ℕ, List, length, slice_index_or, sym, subst, take, arith, add-one}
use Rattle.std.proofs.Math.Seq.{take-suc}
use Rattle.std.proofs.lemmas.List.Elements.{All-push}
use Rattle.std.specs.List.{All}
use Rattle.rank_matcher.specs.Left.{IsOfWord}
use Rattle.rank_matcher.proofs.LeftColumns.{mask-next}
use Rattle.rank_matcher.proofs.left.mask_of.Goals as goal

pub loop-count-preserved : goal.loop-count-preserved
loop-count-preserved c =
    let columns : List (ℕ × ℕ) = c.args.columns.now in
    let k : ℕ = c.loop-count.count in
    let word : ℕ = c.args.word in
    let here : ℕ × ℕ = slice_index_or columns k (0, 0) in
    let inside : k < length columns = omega (arith, c.loop-count-test.true) in
    let next : take (k + 1) columns ≡ take k columns ++ here ∷ [] = rw add-one (take-suc columns k (0, 0) inside) in
    record {
      within = omega (arith, inside);
      mask = mask-next columns k word c.loop-count.mask here next c.if-columns-count.true c.loop-count.invariant.mask;
      of_word = subst (All (IsOfWord word)) (sym next) (All-push (IsOfWord word) (take k columns) here c.loop-count.invariant.of_word c.if-columns-count.true);
    }
