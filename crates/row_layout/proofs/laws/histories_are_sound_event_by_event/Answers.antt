use Rattle.row_layout.proofs.SoundHistories.{sound-push, sound-start, sound_before}
use Rattle.row_layout.proofs.laws.histories_are_sound_event_by_event.Goals as goal

pub returns-clause-start : goal.returns-clause-start
returns-clause-start c = sound-start

pub returns-clause-push : goal.returns-clause-push
returns-clause-push c = sound-push

pub returns-clause-before : goal.returns-clause-before
returns-clause-before c = sound_before
