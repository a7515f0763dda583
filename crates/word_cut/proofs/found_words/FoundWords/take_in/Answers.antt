-- A word that is passed over was there before.
use Rattle.std.proofs.Common.{rules, ◌≡◌, ◌↔◌, ◌⊎◌, inl, ⊎_elim, ℕ, ◌<◌, List, map, length, slice_range, get_or, ap, sym, subst, ◌∙◌, arith}
use Rattle.std.proofs.lemmas.List.{get_or-map, length-map}
use Rattle.std.specs.Cmp.Lexicographic.{bytes_decides}
use Rattle.std.specs.List.{Contains}
use Rattle.word_cut.specs.declared.keyed_word.KeyedWord.{KeyedWord}
use Rattle.word_cut.proofs.OrderLemmas.{bytes-push}
use Rattle.word_cut.proofs.found_words.FoundWords.take_in.Goals as goal

-- the word at an index is one of the words
at_index : (words : List KeyedWord) (i : ℕ) (item : KeyedWord) (word : List ℕ) → item ≡ get_or words i item → i < length words → item.bytes.now ≡ word → Contains (map (λ w. w.bytes.now) words) word
at_index words i item word is less same = (
  i,
  omega (arith, length-map words (λ w. w.bytes.now)),
  get_or-map (λ w. w.bytes.now) words i item word less ∙ ap (λ w. w.bytes.now) (sym is) ∙ same,
)

pub returns-then-is : goal.returns-then-is
returns-then-is c word =
    let piece : List ℕ = slice_range c.args.text.now c.args.start c.args.end in
    let there : Contains c.args.self.now piece =
    subst (λ (ws : List (List ℕ)). Contains ws piece) c.self.view_is
    (at_index c.self.inside.words.items _ c.index.result.now piece c.index.ensures (search rules)
    ((bytes_decides c.index.result.now.bytes.now c.at-word.result.bytes.now).0 (sym c.is.ensures ∙ c.if-is.true) ∙ c.at-word.ensures)) in (
      λ has. inl has,
      λ has. ⊎_elim (λ before. before) (λ same. subst (λ w. Contains c.args.self.now w) (sym same) there) has,
    )

pub returns : goal.returns
returns c word =
    let piece : List ℕ = slice_range c.args.text.now c.args.start c.args.end in
    subst (λ (ws : List (List ℕ)). Contains (map (λ w. w.bytes.now) c.push.new.self.items) word ↔ (Contains ws word ⊎ (word ≡ piece))) c.self.view_is
    (subst (λ w. Contains (map (λ w. w.bytes.now) c.push.new.self.items) word ↔ (Contains (map (λ w. w.bytes.now) c.self.inside.words.items) word ⊎ (word ≡ w))) c.at-word.ensures
    (bytes-push (λ w. w.bytes.now) c.self.inside.words.items c.push.new.self.items c.at-word.result word c.in_ok-push.ensures.items))
