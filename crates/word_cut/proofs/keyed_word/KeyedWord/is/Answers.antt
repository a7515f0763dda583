-- Short words of one length that have one number are the same.
use Rattle.std.proofs.Common.{◌≡◌, true, length, leb, sym, ◌∙◌, arith}
use Rattle.std.proofs.lemmas.Bool.Decides.{nat_tests}
use Rattle.std.specs.Cmp.Lexicographic.{bytes_decides}
use Rattle.word_cut.specs.Keys.{first_bytes}
use Rattle.word_cut.proofs.KeyLemmas.{first-same}
use Rattle.word_cut.proofs.keyed_word.KeyedWord.is.Goals as goal

pub returns-then-self-le8 : goal.returns-then-self-le8
returns-then-self-le8 c =
    let a = c.args.self.now in
    let b = c.args.other.now in
    let numbers : first_bytes 8 a.bytes.now ≡ first_bytes 8 b.bytes.now = sym a.first_is ∙ c.if-self-other.false ∙ b.first_is in
    let same : a.bytes.now ≡ b.bytes.now = first-same 8 a.bytes.now b.bytes.now a.of_bytes b.of_bytes (omega arith) (omega arith) numbers in
    (let short : leb (length a.bytes.now) 8 ≡ true = grind (arith, nat_tests) in short) ∙ sym ((bytes_decides a.bytes.now b.bytes.now).1 same)
