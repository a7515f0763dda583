-- Words that ask for a text are none that `clap` takes.
use Rattle.std.proofs.Common.{◌≡◌, ◌≢◌, ◌||◌, ℕ, Bool, codes, true, false, refl, sym, ap, subst, ◌∙◌, length, List, [], ◌∷◌, Option, Some, None, IsSome, if◌then◌else◌}
use Rattle.std.proofs.lemmas.Slice.Eq.{bytes_eq-Decides}
use Rattle.std.specs.Option.{is_some}
use Rattle.std.specs.Str.{bytes_eq}
use Rattle.clap.proofs.OnLiterals.{clap_on_literals}
use Rattle.clap.specs.Takes.{takes}
use Rattle.command_line.specs.Commands.{call_words, command_of, funnel_app}
use Rattle.funnel.specs.Texts.{text_asked, text_by}
use Rattle.command_line.specs.declared.command.Command.{Command}
use Rattle.funnel.specs.declared.text.Text.{Text}
use Rattle.funnel.specs.declared.text.Text.TheVariants as text
use Rattle.command_line.proofs.TakenWords.{no_command}

pub help_refused : takes funnel_app (call_words (codes "--help" ∷ [])) ≡ false
unfolding clap_on_literals
help_refused = refl

pub h_refused : takes funnel_app (call_words (codes "-h" ∷ [])) ≡ false
unfolding clap_on_literals
h_refused = refl

pub word_refused : takes funnel_app (call_words (codes "help" ∷ [])) ≡ false
unfolding clap_on_literals
word_refused = refl

pub version_refused : takes funnel_app (call_words (codes "--version" ∷ [])) ≡ false
unfolding clap_on_literals
version_refused = refl

pub v_refused : takes funnel_app (call_words (codes "-V" ∷ [])) ≡ false
unfolding clap_on_literals
v_refused = refl

-- not one word alone asks for no text
pub none_asked : (words : List (List ℕ)) → length words ≢ 1 → text_asked words ≡ None
none_asked [] other = refl
none_asked (word ∷ []) other = absurd (other refl)
none_asked (word ∷ next ∷ words) other = refl

-- a word that is refused is so wherever it is the word
by_literal : (word literal : List ℕ) → takes funnel_app (call_words (literal ∷ [])) ≡ false → bytes_eq word literal ≡ true
    → takes funnel_app (call_words (word ∷ [])) ≡ false
by_literal word literal refused is = subst (λ w. takes funnel_app (call_words (w ∷ [])) ≡ false) (sym ((bytes_eq-Decides word literal).0 is)) refused

asked_refused : (word : List ℕ) → IsSome (text_by word) → takes funnel_app (call_words (word ∷ [])) ≡ false
asked_refused word = go (bytes_eq word (codes "--help")) (bytes_eq word (codes "-h")) (bytes_eq word (codes "help")) (bytes_eq word (codes "--version")) (bytes_eq word (codes "-V"))
    refl refl refl refl refl
  where
    go : (help h named version v : Bool) → bytes_eq word (codes "--help") ≡ help → bytes_eq word (codes "-h") ≡ h → bytes_eq word (codes "help") ≡ named
        → bytes_eq word (codes "--version") ≡ version → bytes_eq word (codes "-V") ≡ v
        → IsSome (if help || h || named then Some text.Help else (if version || v then Some text.Version else None))
        → takes funnel_app (call_words (word ∷ [])) ≡ false
    go true _ _ _ _ is _ _ _ _ asked = by_literal word _ help_refused is
    go false true _ _ _ _ is _ _ _ asked = by_literal word _ h_refused is
    go false false true _ _ _ _ is _ _ asked = by_literal word _ word_refused is
    go false false false true _ _ _ _ is _ asked = by_literal word _ version_refused is
    go false false false false true _ _ _ _ is asked = by_literal word _ v_refused is
    go false false false false false _ _ _ _ _ asked = absurd (cc)

pub asked_is_no_command : (words : List (List ℕ)) → IsSome (text_asked words) → command_of words ≡ None
asked_is_no_command [] asked = absurd (cc)
asked_is_no_command (word ∷ []) asked = no_command (word ∷ []) (asked_refused word asked)
asked_is_no_command (word ∷ next ∷ words) asked = absurd (cc)

-- words that are a command ask for no text
pub asks_no_text : (words : List (List ℕ)) (asked : Command) (text : Text) → command_of words ≡ Some asked → text_asked words ≡ Some text → ⊥
asks_no_text words asked text is told =
    let none : command_of words ≡ None = asked_is_no_command words (ap is_some told) in
    let never : Some asked ≡ None = sym is ∙ none in
    cc

-- so none is asked for, where they are one
pub command_without_text : (words : List (List ℕ)) (asked : Command) → command_of words ≡ Some asked → text_asked words ≡ None
command_without_text words asked is = by_case (text_asked words) refl where
  by_case : (found : Option Text) → text_asked words ≡ found → text_asked words ≡ None
  by_case None told = told
  by_case (Some text) told = absurd (asks_no_text words asked text is told)
