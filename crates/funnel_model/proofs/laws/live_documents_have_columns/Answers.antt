use Rattle.funnel_model.proofs.LiveColumns.{live_column_is_live, live_has_column, live_number, live_on_one_column}
use Rattle.funnel_model.proofs.laws.live_documents_have_columns.Goals as goal

pub returns-clause-number : goal.returns-clause-number
returns-clause-number c = live_number

pub returns-clause-column : goal.returns-clause-column
returns-clause-column c limits history d legal contained = live_has_column limits history d legal contained

pub returns-clause-document : goal.returns-clause-document
returns-clause-document c history slice column since d is = live_column_is_live history slice column d since is

pub returns-clause-once : goal.returns-clause-once
returns-clause-once c = live_on_one_column
