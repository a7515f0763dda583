use Rattle.funnel.proofs.AskedTexts.{asked_is_no_command}
use Rattle.funnel.proofs.text.words_for_a_text_are_no_command.Goals as goal

pub returns : goal.returns
returns c = asked_is_no_command
