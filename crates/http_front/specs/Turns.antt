-- The requests of a connection and their responses, as they take turns.
use Rattle.std.specs.Prelude.{ℕ, List}
use Rattle.std.specs.List.{list_any}
use Rattle.funnel_io.specs.Calls.{bytes_read}
use Rattle.session.specs.Turns.{Protocol}
use Rattle.http_front.specs.Entries.{AreRequests, BeginsWith, is_last}
use Rattle.http_front.specs.Sessions.{Exchange, entries_of, response_of}

-- request by request, a response is due for each request that is whole, in order, and none after one that closes the connection
abbrev pub request_by_request : Protocol Exchange
request_by_request = record {
  text_of = response_of;
  AreDue = λ reads exchanges. (rest : List ℕ) × BeginsWith (bytes_read reads) (entries_of exchanges) rest;
  AreAllDue = λ bytes exchanges. AreRequests bytes (entries_of exchanges);
  close = λ exchanges. list_any is_last (entries_of exchanges);
}
