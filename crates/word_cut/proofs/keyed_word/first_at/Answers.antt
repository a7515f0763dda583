-- The number of the bytes from there on has that of the piece as its first part.
use Rattle.std.proofs.Common.{◌≡◌, ℕ, ◌-◌, ◌*◌, ◌/◌, ◌^◌, List, length, take, drop, sym, ap, ◌∙◌, arith}
use Rattle.std.proofs.lemmas.List.{length-drop, take_all}
use Rattle.word_cut.specs.Keys.{first_bytes}
use Rattle.word_cut.proofs.KeyLemmas.{AreBytes-drop, first-eight, first-long, first-part, first-take}
use Rattle.word_cut.proofs.keyed_word.first_at.Goals as goal

-- the number of the next eight bytes
number_is : (text next : List ℕ) (start number : ℕ) → number ≡ first_bytes 8 next → next ≡ take 8 (take (length text - start) (drop start text)) → number ≡ first_bytes 8 (drop start text)
number_is text next start number of_next is =
    of_next ∙ ap (first_bytes 8) is ∙ first-take 8 (take (length text - start) (drop start text))
    ∙ ap (first_bytes 8) (take_all (length text - start) (drop start text) (omega (arith, length-drop start text)))

pub returns-then-end-start-lt8 : goal.returns-then-end-start-lt8
returns-then-end-start-lt8 c =
    let len : ℕ = c.args.end - c.args.start in
    c.first_part.ensures
    ∙ ap (λ (number : ℕ). number / 2 ^ (8 * (8 - len)) * 2 ^ (8 * (8 - len))) (number_is c.args.text.now c.in-Some.next.now c.args.start c.from_be_bytes-number.result (c.from_be_bytes-number.ensures ∙ sym (first-eight c.in-Some.next.now)) c.in-Some.ensures.cases.same)
    ∙ first-part len (8 - len) (drop c.args.start c.args.text.now) (AreBytes-drop c.args.start c.args.text.now (λ i. (c.type_inv.text i).fits)) (omega arith)

pub returns-else-end-start-lt8 : goal.returns-else-end-start-lt8
returns-else-end-start-lt8 c =
    number_is c.args.text.now c.in-Some.next.now c.args.start c.from_be_bytes-number.result (c.from_be_bytes-number.ensures ∙ sym (first-eight c.in-Some.next.now)) c.in-Some.ensures.cases.same
    ∙ first-long (c.args.end - c.args.start) (drop c.args.start c.args.text.now) c.if-end-start-lt8.false
