-- What a request asks of the engine.
use Rattle.funnel_model.specs.declared.call.Call.TheVariants as call
use Rattle.line_proto.specs.declared.request.Request.{Request}
use Rattle.line_proto.specs.declared.request.Request.TheVariants.{Add, Put, Delete, Get, Find, Query, Count, Newest, Oldest, Place, Journal, Stats, Recycle, Tune}
use Rattle.line_proto.specs.declared.request.Search.{Search}
use Rattle.line_proto.specs.declared.request.Search.TheVariants as search
use Rattle.line_proto.specs.Forms.{Asked, Calls, Searches, Tunes, Ids, Amount, Last, First, Sought, ByQuery, ByWords}

-- what a search seeks, with its text's bytes
abbrev pub sought : Search → Sought
sought (search.Query text) = ByQuery text.now
sought (search.Words text) = ByWords text.now

-- what a request stands for, with its text's bytes
abbrev pub requested : Request → Asked
requested (Add id text) = Calls (call.Add id text.now)
requested (Put id text) = Calls (call.Put id text.now)
requested (Delete id) = Calls (call.Delete id)
requested (Get id) = Calls (call.Get id)
requested (Find query) = Calls (call.Find query.now)
requested (Query text) = Searches Ids (ByQuery text.now)
requested (Count kept) = Searches Amount (sought kept)
requested (Newest most kept) = Searches (Last most) (sought kept)
requested (Oldest most kept) = Searches (First most) (sought kept)
requested Place = Calls call.Place
requested (Journal from) = Calls (call.Journal from)
requested Stats = Calls call.Stats
requested Recycle = Calls call.Recycle
requested (Tune text) = Tunes text.now
