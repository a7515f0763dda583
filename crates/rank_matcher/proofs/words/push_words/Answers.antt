use Rattle.std.proofs.Common.{◌≡◌, ℕ, ◌+◌, ◌*◌, ◌++◌, List, map, ap, sym, ◌∙◌, arith}
use Rattle.std.proofs.lemmas.List.{append_assoc, map-append}
use Rattle.rank_matcher.specs.Appended.{candidates_of}
use Rattle.rank_matcher.specs.SetBits.{set_bits}
use Rattle.rank_matcher.specs.Walk.{has_column, passing}
use Rattle.rank_matcher.proofs.Passing.{candidates-append, passing-split, passing-word}
use Rattle.rank_matcher.proofs.words.push_words.Goals as goal

pub loop-word-preserved : goal.loop-word-preserved
loop-word-preserved c =
    let word : ℕ = c.loop-word.word in
    let from : ℕ = c.args.from in
    let test = has_column c.args.running in
    candidates-append c.args.slice c.args.out.now c.loop-word.out c.push_columns.new.out (passing test (64 * from) (64 * word)) (map (λ bit. 64 * word + bit) (set_bits c.args.running)) c.loop-word.invariant c.in_ok-push_columns.ensures.all
    ∙ ap (λ (xs : List ℕ). c.args.out.now ++ candidates_of c.args.slice xs)
    (ap (λ (xs : List ℕ). passing test (64 * from) (64 * word) ++ xs) (sym (passing-word c.args.running word))
    ∙ sym (passing-split test (64 * from) (64 * word) (64 * (word + 1)) (omega (arith, c.loop-word.auto.word)) (omega arith)))

pub returns-in_err-push_columns-clause-part : goal.returns-in_err-push_columns-clause-part
returns-in_err-push_columns-clause-part c =
    let word : ℕ = c.loop-word.word in
    let from : ℕ = 64 * c.args.from in
    let to : ℕ = 64 * c.args.to in
    let test = has_column c.args.running in
    let at : ℕ → ℕ = λ bit. 64 * word + bit in
    let before : List ℕ = passing test from (64 * word) in
    let later : List ℕ = passing test (64 * (word + 1)) to in
    let part = c.push_columns.ensures.part in
    let front : List ℕ = part.0 in
    let rest : List ℕ = part.1.0 in
    let whole : passing test from to ≡ before ++ (map at front ++ map at rest) ++ later =
    passing-split test from (64 * (word + 1)) to (omega (arith, c.loop-word.auto.word)) (omega (arith, c.loop-word-test.true))
    ∙ ap (λ (xs : List ℕ). xs ++ later) (passing-split test from (64 * word) (64 * (word + 1)) (omega (arith, c.loop-word.auto.word)) (omega arith)
    ∙ ap (λ (xs : List ℕ). before ++ xs) (passing-word c.args.running word ∙ ap (map at) part.1.1 ∙ map-append at front rest)) in (
      before ++ map at front,
      (
        map at rest ++ later,
        whole
            ∙ ap (λ (xs : List ℕ). xs ++ later) (sym (append_assoc before (map at front) (map at rest)))
            ∙ append_assoc (before ++ map at front) (map at rest) later,
      ),
      candidates-append c.args.slice c.args.out.now c.loop-word.out c.push_columns.new.out before (map at front) c.loop-word.invariant part.2,
    )
