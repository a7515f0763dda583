-- The words that a program is handed, which its calls take by reference.
use Rattle.std.specs.Prelude.{ℕ, List, map, Option}
use Rattle.std.specs.Borrow.{Bor}
use Rattle.command_line.specs.Commands.{command_of}
use Rattle.command_line.specs.declared.command.Command.{Command}
use Rattle.funnel.specs.Texts.{text_asked}
use Rattle.funnel.specs.declared.text.Text.{Text}

-- the words themselves
abbrev pub words_in : List (Bor (List ℕ)) → List (List ℕ)
words_in words = map (λ word. word.now) words

-- the command that they are, if they are one
abbrev pub command_in : List (Bor (List ℕ)) → Option Command
command_in words = command_of (words_in words)

-- the text that they ask for, if they ask for one alone
abbrev pub text_in : List (Bor (List ℕ)) → Option Text
text_in words = text_asked (words_in words)
