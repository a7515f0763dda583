-- What the faults of a query's text and of its find are as faults of the query.
use Rattle.bool_query.specs.declared.fault.QueryFault.{QueryFault}
use Rattle.bool_query.specs.declared.fault.QueryFault.TheVariants as query
use Rattle.commit_desk.specs.declared.answers.FindFault.{FindFault}
use Rattle.commit_desk.specs.declared.answers.FindFault.TheVariants as find
use Rattle.engine.specs.declared.querying.SearchFault.{SearchFault}
use Rattle.engine.specs.declared.querying.SearchFault.TheVariants as fault

abbrev pub of_text : QueryFault → SearchFault
of_text (query.Syntax at) = fault.Syntax at
of_text (query.Deep at) = fault.Deep at
of_text query.Memory = fault.Memory

abbrev pub of_find : FindFault → SearchFault
of_find (find.Spent events) = fault.Spent events
of_find find.Memory = fault.Memory
