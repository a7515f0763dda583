-- The replies that a client is given for the answers of an engine: those to an add, a put, a delete, a get, a find, a search, a request
-- for the number of commits or for all numbers, a journal, a tuning, and a text that is no tuning.
use Rattle.std.specs.Prelude.{ℕ, List, Result, Ok, Err}
use Rattle.funnel_model.specs.declared.commit.Commit.{Commit}
use Rattle.funnel_model.specs.declared.stats.Stats.{Stats}
use Rattle.funnel_model.specs.declared.reply.Reply.{Reply}
use Rattle.funnel_model.specs.declared.reply.Reply.TheVariants as reply
use Rattle.bool_query.specs.declared.fault.QueryFault.{QueryFault}
use Rattle.bool_query.specs.declared.fault.QueryFault.TheVariants as query
use Rattle.commit_desk.specs.declared.answers.AddFault.{AddFault}
use Rattle.commit_desk.specs.declared.answers.AddFault.TheVariants as add
use Rattle.commit_desk.specs.declared.answers.DeleteFault.{DeleteFault}
use Rattle.commit_desk.specs.declared.answers.DeleteFault.TheVariants as delete
use Rattle.commit_desk.specs.declared.answers.FindFault.{FindFault}
use Rattle.commit_desk.specs.declared.answers.FindFault.TheVariants as find
use Rattle.commit_desk.specs.declared.answers.JournalFault.{JournalFault}
use Rattle.commit_desk.specs.declared.answers.JournalFault.TheVariants as journal
use Rattle.commit_desk.specs.declared.answers.Put.{Put}
use Rattle.commit_desk.specs.declared.answers.Put.TheVariants as did
use Rattle.commit_desk.specs.declared.answers.Spent.{Spent}
use Rattle.engine.specs.declared.getting.GetFault.{GetFault}
use Rattle.engine.specs.declared.getting.GetFault.TheVariants as get
use Rattle.engine.specs.declared.putting.PutFault.{PutFault}
use Rattle.engine.specs.declared.putting.PutFault.TheVariants as put
use Rattle.engine.specs.declared.querying.SearchFault.{SearchFault}
use Rattle.engine.specs.declared.querying.SearchFault.TheVariants as search
use Rattle.engine.specs.declared.querying.SomeFound.{SomeFound}
use Rattle.engine.specs.declared.retuning.TuneFault.{TuneFault}
use Rattle.engine.specs.declared.retuning.TuneFault.TheVariants as tune
use Rattle.funnel_stats.specs.declared.fault.ConfigFault.{ConfigFault}
use Rattle.funnel_stats.specs.declared.fault.ConfigFault.TheVariants as cause
use Rattle.funnel_stats.specs.FaultNumbers.{number_of_fault}

abbrev pub reply_of_add : Result ℕ AddFault → Reply
reply_of_add (Ok place) = reply.Added place
reply_of_add (Err (add.Present place)) = reply.Present place
reply_of_add (Err (add.Full blocks)) = reply.Full
reply_of_add (Err (add.Spent events)) = reply.Spent
reply_of_add (Err add.Memory) = reply.Memory

abbrev pub reply_of_put : Result Put PutFault → Reply
reply_of_put (Ok (did.Added place)) = reply.Added place
reply_of_put (Ok (did.Replaced place)) = reply.Replaced place
reply_of_put (Err (put.Full blocks)) = reply.Full
reply_of_put (Err (put.Spent events)) = reply.Spent
reply_of_put (Err put.Memory) = reply.Memory

abbrev pub reply_of_get : Result (ℕ × List ℕ) GetFault → Reply
reply_of_get (Ok told) = reply.Text told.0 told.1
reply_of_get (Err get.Absent) = reply.Absent
reply_of_get (Err (get.Spent events)) = reply.Spent
reply_of_get (Err get.Memory) = reply.Memory

abbrev pub reply_of_stats : Result Stats Spent → Reply
reply_of_stats (Ok stats) = reply.Stats stats
reply_of_stats (Err spent) = reply.Spent

abbrev pub reply_of_delete : Result ℕ DeleteFault → Reply
reply_of_delete (Ok place) = reply.Deleted place
reply_of_delete (Err delete.Absent) = reply.Absent
reply_of_delete (Err (delete.Spent events)) = reply.Spent

abbrev pub reply_of_find_fault : FindFault → Reply
reply_of_find_fault (find.Spent events) = reply.Spent
reply_of_find_fault find.Memory = reply.Memory

abbrev pub reply_of_find : Result (List ℕ) FindFault → Reply
reply_of_find (Ok ids) = reply.Found ids
reply_of_find (Err fault) = reply_of_find_fault fault

abbrev pub reply_of_query_fault : QueryFault → Reply
reply_of_query_fault (query.Syntax at) = reply.Query at
reply_of_query_fault (query.Deep at) = reply.Deep at
reply_of_query_fault query.Memory = reply.Memory

abbrev pub reply_of_search_fault : SearchFault → Reply
reply_of_search_fault (search.Syntax at) = reply.Query at
reply_of_search_fault (search.Deep at) = reply.Deep at
reply_of_search_fault (search.Spent events) = reply.Spent
reply_of_search_fault search.Memory = reply.Memory

abbrev pub reply_of_query : Result (List ℕ) SearchFault → Reply
reply_of_query (Ok ids) = reply.Found ids
reply_of_query (Err fault) = reply_of_search_fault fault

abbrev pub reply_of_count : Result ℕ SearchFault → Reply
reply_of_count (Ok count) = reply.Count count
reply_of_count (Err fault) = reply_of_search_fault fault

abbrev pub reply_of_some : Result SomeFound SearchFault → Reply
reply_of_some (Ok found) = reply.FoundSome found.count found.ids
reply_of_some (Err fault) = reply_of_search_fault fault

abbrev pub reply_of_place : Result ℕ Spent → Reply
reply_of_place (Ok place) = reply.Place place
reply_of_place (Err spent) = reply.Spent

abbrev pub reply_of_journal : Result (List Commit) JournalFault → Reply
reply_of_journal (Ok commits) = reply.Commits commits
reply_of_journal (Err (journal.Trimmed base)) = reply.Trimmed base
reply_of_journal (Err (journal.Spent events)) = reply.Spent
reply_of_journal (Err journal.Memory) = reply.Memory

abbrev pub reply_of_tune : Result ℕ TuneFault → Reply
reply_of_tune (Ok count) = reply.Tuned count
reply_of_tune (Err (tune.Wide needed room)) = reply.Wide needed room
reply_of_tune (Err (tune.Spent events)) = reply.Spent
reply_of_tune (Err tune.Memory) = reply.Memory

abbrev pub reply_of_tuning_fault : ConfigFault → Reply
reply_of_tuning_fault cause.Memory = reply.Memory
reply_of_tuning_fault fault = reply.Tuning (number_of_fault fault)
