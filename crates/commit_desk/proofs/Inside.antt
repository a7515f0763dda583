-- The desk as contracts see it and what it keeps, by the fields of its struct. The records are those with the documents that have gone.
use Rattle.document_store.specs.Slots.{Table}
use Rattle.commit_desk.specs.Desks.{DeskState}
use Rattle.commit_desk.specs.Kept.{Books}
use Rattle.commit_desk.specs.declared.desk.Desk.TheInside.{Inside}

abbrev pub desk_of : Inside → DeskState
desk_of i = record { pool = i.home.pool; events_limit = i.events_limit; history = i.home.history }

abbrev pub books_of : Inside → Table → Books
books_of i whole = record {
  slices = i.slices;
  columns = i.columns;
  events = i.events;
  journal = i.journal;
  table = whole;
  live = i.live;
  tokens = i.tokens;
  stages = i.stages;
  layouts = i.layouts;
}

-- and what it keeps with the records that are left
abbrev pub left_books : Inside → Books
left_books i = books_of i i.records
