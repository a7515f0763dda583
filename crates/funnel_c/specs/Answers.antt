-- What C is told of the answers of an engine of one owner: a code for each, and the numbers at its pointers, which stay as they were
-- where an answer has none.
use Rattle.std.specs.Prelude.{ℕ, Bool, List, length, map, Result, Ok, Err, if◌then◌else◌}
use Rattle.funnel_model.specs.declared.commit.Commit.{Commit}
use Rattle.funnel_model.specs.declared.stats.Stats.{Stats}
use Rattle.commit_desk.specs.declared.answers.AddFault.{AddFault}
use Rattle.commit_desk.specs.declared.answers.AddFault.TheVariants as add
use Rattle.commit_desk.specs.declared.answers.DeleteFault.{DeleteFault}
use Rattle.commit_desk.specs.declared.answers.DeleteFault.TheVariants as delete
use Rattle.commit_desk.specs.declared.answers.FindFault.{FindFault}
use Rattle.commit_desk.specs.declared.answers.FindFault.TheVariants as find
use Rattle.commit_desk.specs.declared.answers.JournalFault.{JournalFault}
use Rattle.commit_desk.specs.declared.answers.JournalFault.TheVariants as journal
use Rattle.commit_desk.specs.declared.answers.Put.{Put}
use Rattle.commit_desk.specs.declared.answers.Put.TheVariants as did
use Rattle.commit_desk.specs.declared.answers.Spent.{Spent}
use Rattle.engine.specs.declared.getting.GetFault.{GetFault}
use Rattle.engine.specs.declared.getting.GetFault.TheVariants as get
use Rattle.engine.specs.declared.putting.PutFault.{PutFault}
use Rattle.engine.specs.declared.putting.PutFault.TheVariants as put
use Rattle.engine.specs.declared.querying.SearchFault.{SearchFault}
use Rattle.engine.specs.declared.querying.SearchFault.TheVariants as search
use Rattle.engine.specs.declared.querying.SomeFound.{SomeFound}
use Rattle.line_proto.specs.Forms.{Sought, ByQuery, ByWords}
use Rattle.funnel_c.specs.declared.code.Code.{Code}
use Rattle.funnel_c.specs.declared.code.Code.TheVariants as code
use Rattle.funnel_c.specs.declared.numbers.Numbers.{Numbers}

-- An add tells the place of the add, also that of the document that is there already.
abbrev pub code_of_add : Result ℕ AddFault → Code
code_of_add (Ok place) = code.Done
code_of_add (Err (add.Present place)) = code.Present
code_of_add (Err (add.Full blocks)) = code.Full
code_of_add (Err (add.Spent events)) = code.Spent
code_of_add (Err add.Memory) = code.Memory

abbrev pub place_of_add : Result ℕ AddFault → ℕ → ℕ
place_of_add (Ok place) old = place
place_of_add (Err (add.Present place)) old = place
place_of_add (Err (add.Full blocks)) old = old
place_of_add (Err (add.Spent events)) old = old
place_of_add (Err add.Memory) old = old

-- A put tells the place of the add, and how many documents it replaced.
abbrev pub code_of_put : Result Put PutFault → Code
code_of_put (Ok what) = code.Done
code_of_put (Err (put.Full blocks)) = code.Full
code_of_put (Err (put.Spent events)) = code.Spent
code_of_put (Err put.Memory) = code.Memory

abbrev pub place_of_put : Result Put PutFault → ℕ → ℕ
place_of_put (Ok (did.Added place)) old = place
place_of_put (Ok (did.Replaced place)) old = place
place_of_put (Err fault) old = old

abbrev pub replaced_of_put : Result Put PutFault → ℕ → ℕ
replaced_of_put (Ok (did.Added place)) old = 0
replaced_of_put (Ok (did.Replaced place)) old = 1
replaced_of_put (Err fault) old = old

-- A delete tells its place.
abbrev pub code_of_delete : Result ℕ DeleteFault → Code
code_of_delete (Ok place) = code.Done
code_of_delete (Err delete.Absent) = code.Absent
code_of_delete (Err (delete.Spent events)) = code.Spent

-- what an answer tells that is a number or a fault without one
abbrev pub number_if_ok : {F : Type 0} → Result ℕ F → ℕ → ℕ
number_if_ok (Ok number) old = number
number_if_ok (Err fault) old = old

-- A get tells the place of the add and the number of bytes of the text, which are kept.
abbrev pub code_of_get : Result (ℕ × List ℕ) GetFault → Code
code_of_get (Ok told) = code.Done
code_of_get (Err get.Absent) = code.Absent
code_of_get (Err (get.Spent events)) = code.Spent
code_of_get (Err get.Memory) = code.Memory

abbrev pub place_of_get : Result (ℕ × List ℕ) GetFault → ℕ → ℕ
place_of_get (Ok told) old = told.0
place_of_get (Err fault) old = old

abbrev pub length_of_get : Result (ℕ × List ℕ) GetFault → ℕ → ℕ
length_of_get (Ok told) old = length told.1
length_of_get (Err fault) old = old

abbrev pub bytes_of_get : Result (ℕ × List ℕ) GetFault → List ℕ → List ℕ
bytes_of_get (Ok told) old = told.1
bytes_of_get (Err fault) old = old

-- A find tells how many numbers it found, which are kept.
abbrev pub code_of_find : Result (List ℕ) FindFault → Code
code_of_find (Ok ids) = code.Done
code_of_find (Err (find.Spent events)) = code.Spent
code_of_find (Err find.Memory) = code.Memory

abbrev pub count_of : {F : Type 0} → Result (List ℕ) F → ℕ → ℕ
count_of (Ok ids) old = length ids
count_of (Err fault) old = old

abbrev pub ids_of : {F : Type 0} → Result (List ℕ) F → List ℕ → List ℕ
ids_of (Ok ids) old = ids
ids_of (Err fault) old = old

-- A search that is refused for its text tells the byte at which that goes wrong.
abbrev pub code_of_search_fault : SearchFault → Code
code_of_search_fault (search.Syntax at) = code.Syntax
code_of_search_fault (search.Deep at) = code.Deep
code_of_search_fault (search.Spent events) = code.Spent
code_of_search_fault search.Memory = code.Memory

abbrev pub number_of_search_fault : SearchFault → ℕ → ℕ
number_of_search_fault (search.Syntax at) old = at
number_of_search_fault (search.Deep at) old = at
number_of_search_fault (search.Spent events) old = old
number_of_search_fault search.Memory old = old

abbrev pub code_of_search : {A : Type 0} → Result A SearchFault → Code
code_of_search (Ok found) = code.Done
code_of_search (Err fault) = code_of_search_fault fault

-- A query tells how many numbers it found, which are kept.
abbrev pub number_of_query : Result (List ℕ) SearchFault → ℕ → ℕ
number_of_query (Ok ids) old = length ids
number_of_query (Err fault) old = number_of_search_fault fault old

-- A count tells how many documents its search keeps.
abbrev pub number_of_count : Result ℕ SearchFault → ℕ → ℕ
number_of_count (Ok count) old = count
number_of_count (Err fault) old = number_of_search_fault fault old

-- The newest and the oldest tell how many documents their search keeps; the numbers that were asked for are kept.
abbrev pub number_of_some : Result SomeFound SearchFault → ℕ → ℕ
number_of_some (Ok found) old = found.count
number_of_some (Err fault) old = number_of_search_fault fault old

abbrev pub ids_of_some : Result SomeFound SearchFault → List ℕ → List ℕ
ids_of_some (Ok found) old = found.ids
ids_of_some (Err fault) old = old

-- what is sought by a text of words or by an expression
abbrev pub sought_by : Bool → List ℕ → Sought
sought_by words text = if words then ByWords text else ByQuery text

-- A place is told, and so are the numbers of an index.
abbrev pub code_of_spent : {A : Type 0} → Result A Spent → Code
code_of_spent (Ok told) = code.Done
code_of_spent (Err spent) = code.Spent

abbrev pub numbers_of : Stats → Numbers
numbers_of stats = record {
  documents = stats.documents;
  place = stats.place;
  base = stats.base;
  columns = stats.columns;
  free = stats.free;
  retired = stats.retired;
  finds = stats.finds;
}

abbrev pub numbers_told : Result Stats Spent → Numbers → Numbers
numbers_told (Ok stats) old = numbers_of stats
numbers_told (Err spent) old = old

-- A journal tells how many commits it has; of each its document's number is kept, and a byte: a plus for an add, a minus for a delete. One
-- that asks for commits that are no longer kept tells how many those are.
abbrev pub code_of_journal : Result (List Commit) JournalFault → Code
code_of_journal (Ok commits) = code.Done
code_of_journal (Err (journal.Trimmed base)) = code.Trimmed
code_of_journal (Err (journal.Spent events)) = code.Spent
code_of_journal (Err journal.Memory) = code.Memory

abbrev pub number_of_journal : Result (List Commit) JournalFault → ℕ → ℕ
number_of_journal (Ok commits) old = length commits
number_of_journal (Err (journal.Trimmed base)) old = base
number_of_journal (Err (journal.Spent events)) old = old
number_of_journal (Err journal.Memory) old = old

abbrev pub sign_of : Commit → ℕ
sign_of commit = if commit.add then 43 else 45

abbrev pub ids_of_journal : Result (List Commit) JournalFault → List ℕ → List ℕ
ids_of_journal (Ok commits) old = map (λ commit. commit.id) commits
ids_of_journal (Err fault) old = old

abbrev pub signs_of_journal : Result (List Commit) JournalFault → List ℕ → List ℕ
signs_of_journal (Ok commits) old = map sign_of commits
signs_of_journal (Err fault) old = old
