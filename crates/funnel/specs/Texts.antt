-- What the program tells of itself, and which words ask for it.
use Rattle.std.specs.Prelude.{◌≡◌, ℕ, List, [], ◌∷◌, true, ◌||◌, codes, Option, Some, None, if◌then◌else◌}
use Rattle.std.specs.Str.{bytes_eq}
use Rattle.funnel_io.specs.Counts.{counted}
use Rattle.funnel_io.specs.Streams.{Outgoing, Writes, WritesPart}
use Rattle.funnel.specs.declared.ends.Why.{Why}
use Rattle.funnel.specs.declared.ends.Why.TheVariants as why_of
use Rattle.funnel.specs.declared.text.Text.{Text}
use Rattle.funnel.specs.declared.text.Text.TheVariants as text
use Rattle.funnel.specs.declared.text.TheConstants.{HELP, VERSION}

-- the bytes of a text
abbrev pub text_of : Text → List ℕ
text_of text.Help = HELP.now
text_of text.Version = VERSION.now

-- the text that a word asks for
abbrev pub text_by : List ℕ → Option Text
text_by word =
    if bytes_eq word (codes "--help") || bytes_eq word (codes "-h") || bytes_eq word (codes "help") then Some text.Help
    else (if bytes_eq word (codes "--version") || bytes_eq word (codes "-V") then Some text.Version else None)

-- the text that words ask for: one word does, alone
abbrev pub text_asked : List (List ℕ) → Option Text
text_asked (word ∷ []) = text_by word
text_asked _ = None

-- a text is written whole, or a write failed before its end
abbrev pub IsTextWritten : List ℕ → Outgoing → Outgoing → Why → Type 0
IsTextWritten text before after why_of.Done = Writes text before after × (after.faults ≡ before.faults)
IsTextWritten text before after why_of.WriteFault = WritesPart text before after × (after.faults ≡ counted true before.faults)
IsTextWritten text before after _ = ⊥
