use Rattle.command_line.proofs.TakenNames.{command_where_taken, taken_where_command}
use Rattle.command_line.proofs.command.words_are_a_command_where_clap_takes_them.Goals as goal

pub returns : goal.returns
returns c = λ words. (taken_where_command words, command_where_taken words)
