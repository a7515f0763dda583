-- The table of kinds has the kind of each byte.
use Rattle.std.proofs.Common.{◌≡◌, ℕ, ◌<◌, ◌==◌, cond, slice_index_or, refl, sym, ap, ◌∙◌, eqb-true}
use Rattle.ucd_table.proofs.Facts.{Stepped-below}
use Rattle.ucd_breaks.specs.WordBreak.{word_break}
use Rattle.ucd_breaks.proofs.Computing.{ucd_breaks}
use Rattle.ucd_breaks.proofs.WordBreakLemmas.{word_break_stepped}
use Rattle.word_cut.specs.declared.kind.Kind.{Kind}
use Rattle.word_cut.specs.declared.kind.Kind.TheVariants as kind
use Rattle.word_cut.specs.declared.kind.TheConstants.{KINDS}
use Rattle.word_cut.specs.Kinds.{kind_of_value, kind_of_byte}

abbrev number : Kind → ℕ
number kind.Letter = 0
number kind.Digit = 1
number kind.Underscore = 2
number kind.MidLetter = 3
number kind.MidNumber = 4
number kind.MidBoth = 5
number kind.Other = 6

abbrev numbered : ℕ → Kind
numbered n = cond (n == 0) kind.Letter (cond (n == 1) kind.Digit (cond (n == 2) kind.Underscore (cond (n == 3) kind.MidLetter (cond (n == 4) kind.MidNumber (cond (n == 5) kind.MidBoth kind.Other)))))

numbered-number : (k : Kind) → numbered (number k) ≡ k
numbered-number kind.Letter = refl
numbered-number kind.Digit = refl
numbered-number kind.Underscore = refl
numbered-number kind.MidLetter = refl
numbered-number kind.MidNumber = refl
numbered-number kind.MidBoth = refl
numbered-number kind.Other = refl

pub kinds_are_right : (c : ℕ) → c < 128 → slice_index_or KINDS c kind.Letter ≡ kind_of_byte c
unfolding ucd_breaks
kinds_are_right c below =
    let same = eqb-true _ _ (Stepped-below word_break word_break_stepped (λ x v. number (slice_index_or KINDS x kind.Letter) == number (kind_of_value v)) 128 refl c below) in
    sym (numbered-number (slice_index_or KINDS c kind.Letter)) ∙ ap numbered same ∙ numbered-number (kind_of_byte c)
