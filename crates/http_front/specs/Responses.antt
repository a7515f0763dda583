-- The texts of responses.
use Rattle.std.specs.Prelude.{ℕ, Bool, false, List, [], ◌∷◌, ◌++◌, length, flat_map, codes, decimal, if◌then◌else◌}
use Rattle.funnel_model.specs.declared.commit.Commit.{Commit}
use Rattle.funnel_model.specs.declared.reply.Reply.{Reply}
use Rattle.funnel_model.specs.declared.reply.Reply.TheVariants as reply
use Rattle.funnel_model.specs.declared.stats.Stats.{Stats}
use Rattle.json.specs.Print.{quoted}
use Rattle.line_proto.specs.Texts.{is_list}
use Rattle.http_front.specs.declared.cause.Cause.{Cause}
use Rattle.http_front.specs.declared.cause.Cause.TheVariants as cause
use Rattle.http_front.specs.declared.outcome.Outcome.{Outcome}
use Rattle.http_front.specs.declared.outcome.Outcome.TheVariants as outcome
use Rattle.http_front.specs.declared.outcome.Shape.{Shape}
use Rattle.http_front.specs.declared.outcome.Shape.TheVariants as shape

-- the status of a reply, with its reason; a request is given another reply only where the history is spent, or for want of room or memory
abbrev pub status_of_reply : Reply → List ℕ
status_of_reply (reply.Added place) = codes "201 Created"
status_of_reply (reply.Replaced place) = codes "200 OK"
status_of_reply (reply.Present place) = codes "409 Conflict"
status_of_reply (reply.Deleted place) = codes "200 OK"
status_of_reply reply.Absent = codes "404 Not Found"
status_of_reply (reply.Found ids) = codes "200 OK"
status_of_reply (reply.Count count) = codes "200 OK"
status_of_reply (reply.FoundSome count ids) = codes "200 OK"
status_of_reply (reply.Text place text) = codes "200 OK"
status_of_reply (reply.Place place) = codes "200 OK"
status_of_reply (reply.Commits commits) = codes "200 OK"
status_of_reply (reply.Trimmed base) = codes "410 Gone"
status_of_reply (reply.Stats stats) = codes "200 OK"
status_of_reply (reply.Recycled slice) = codes "200 OK"
status_of_reply reply.NothingRetired = codes "409 Conflict"
status_of_reply (reply.Guarded slice pass) = codes "409 Conflict"
status_of_reply (reply.Tuned count) = codes "200 OK"
status_of_reply (reply.Tuning fault) = codes "400 Bad Request"
status_of_reply (reply.Wide needed room) = codes "409 Conflict"
status_of_reply (reply.Query at) = codes "400 Bad Request"
status_of_reply (reply.Deep at) = codes "400 Bad Request"
status_of_reply _ = codes "503 Service Unavailable"

-- the status of a refusal
abbrev pub status_of_cause : Cause → List ℕ
status_of_cause cause.Coding = codes "501 Not Implemented"
status_of_cause cause.Long = codes "413 Content Too Large"
status_of_cause cause.Route = codes "404 Not Found"
status_of_cause _ = codes "400 Bad Request"

-- the word of a refusal
abbrev pub word_of_cause : Cause → List ℕ
word_of_cause cause.Head = codes "head"
word_of_cause cause.Coding = codes "coding"
word_of_cause cause.Length = codes "length"
word_of_cause cause.Long = codes "long"
word_of_cause cause.Route = codes "route"
word_of_cause cause.Body = codes "body"
word_of_cause cause.Text = codes "body"
word_of_cause cause.Query = codes "query"

-- an object that tells an error
abbrev pub error_body : List ℕ → List ℕ
error_body word = codes "{\"error\":\"" ++ (word ++ codes "\"}")

-- an object that tells an error, and a number of it by this name
abbrev pub fault_body : List ℕ → List ℕ → ℕ → List ℕ
fault_body word name number = codes "{\"error\":\"" ++ (word ++ (codes "\",\"" ++ (name ++ (codes "\":" ++ (decimal number ++ codes "}")))))

-- an object that tells a number by this name
abbrev pub number_body : List ℕ → ℕ → List ℕ
number_body name number = codes "{\"" ++ (name ++ (codes "\":" ++ (decimal number ++ codes "}")))

-- each number after a comma
abbrev pub after_commas : List ℕ → List ℕ
after_commas ids = flat_map (λ id. 44 ∷ decimal id) ids

-- the numbers in order, with one comma between each two
abbrev pub joined : List ℕ → List ℕ
joined [] = []
joined (id ∷ ids) = decimal id ++ after_commas ids

-- an object that tells numbers
abbrev pub ids_body : List ℕ → List ℕ
ids_body ids = codes "{\"ids\":[" ++ (joined ids ++ codes "]}")

-- an object that tells how many documents were found, and the numbers of some of them
abbrev pub some_body : ℕ → List ℕ → List ℕ
some_body count ids = codes "{\"count\":" ++ (decimal count ++ (codes ",\"ids\":[" ++ (joined ids ++ codes "]}")))

-- an object that tells the text of a document and its place
abbrev pub text_body : ℕ → List ℕ → List ℕ
text_body place text = codes "\"place\":" ++ (decimal place ++ (codes ",\"text\":" ++ (quoted text ++ codes "}")))

-- and the same with the number of the document
abbrev pub document_body : ℕ → ℕ → List ℕ → List ℕ
document_body id place text = codes "{\"id\":" ++ (decimal id ++ (codes "," ++ text_body place text))

-- an object that tells a commit: the number of the document that was added, or of the one that was deleted
abbrev pub commit_body : Commit → List ℕ
commit_body commit = (if commit.add then codes "{\"add\":" else codes "{\"del\":") ++ (decimal commit.id ++ codes "}")

-- the commits in order, with one comma between each two
abbrev pub joined_commits : List Commit → List ℕ
joined_commits [] = []
joined_commits (commit ∷ commits) = commit_body commit ++ flat_map (λ other. 44 ∷ commit_body other) commits

-- an object that tells commits
abbrev pub commits_body : List Commit → List ℕ
commits_body commits = codes "{\"commits\":[" ++ (joined_commits commits ++ codes "]}")

-- a number behind a text
abbrev pub numbered : List ℕ → ℕ → List ℕ
numbered text number = text ++ decimal number

-- how many documents and commits there are, and how much room there is and what uses it, as members of an object
abbrev pub kept_members : ℕ → ℕ → ℕ → List ℕ
kept_members documents place base = numbered (codes "{\"documents\":") documents ++ (numbered (codes ",\"place\":") place ++ numbered (codes ",\"base\":") base)

abbrev pub room_members : ℕ → ℕ → ℕ → ℕ → List ℕ
room_members columns free retired finds =
    numbered (codes ",\"columns\":") columns
    ++ (numbered (codes ",\"free\":") free ++ (numbered (codes ",\"retired\":") retired ++ numbered (codes ",\"finds\":") finds))

-- an object that tells the engine's numbers
abbrev pub stats_body : Stats → List ℕ
stats_body s = kept_members s.documents s.place s.base ++ (room_members s.columns s.free s.retired s.finds ++ codes "}")

-- a number in Prometheus' text format, which takes its name, what it is and of which type from the text before it
abbrev pub metric : List ℕ → ℕ → List ℕ
metric text number = text ++ (decimal number ++ codes "\n")

-- what stands before each number
abbrev pub documents_text : List ℕ
documents_text = codes "# HELP funnel_documents Documents that are live.\n# TYPE funnel_documents gauge\nfunnel_documents "

abbrev pub commits_text : List ℕ
commits_text = codes "# HELP funnel_commits_total Commits so far.\n# TYPE funnel_commits_total counter\nfunnel_commits_total "

abbrev pub trimmed_text : List ℕ
trimmed_text = codes "# HELP funnel_commits_trimmed_total Commits that the journal no longer keeps.\n# TYPE funnel_commits_trimmed_total counter\nfunnel_commits_trimmed_total "

abbrev pub columns_text : List ℕ
columns_text = codes "# HELP funnel_columns Columns of all slices.\n# TYPE funnel_columns gauge\nfunnel_columns "

abbrev pub free_text : List ℕ
free_text = codes "# HELP funnel_columns_free Columns that are unclaimed.\n# TYPE funnel_columns_free gauge\nfunnel_columns_free "

abbrev pub retired_text : List ℕ
retired_text = codes "# HELP funnel_slices_retired Slices that are retired.\n# TYPE funnel_slices_retired gauge\nfunnel_slices_retired "

abbrev pub finds_text : List ℕ
finds_text = codes "# HELP funnel_finds_running Finds that are running.\n# TYPE funnel_finds_running gauge\nfunnel_finds_running "

-- the engine's numbers in that format
abbrev pub commit_metrics : ℕ → ℕ → ℕ → List ℕ
commit_metrics documents place base = metric documents_text documents ++ (metric commits_text place ++ metric trimmed_text base)

abbrev pub column_metrics : ℕ → ℕ → List ℕ
column_metrics columns free = metric columns_text columns ++ metric free_text free

abbrev pub running_metrics : ℕ → ℕ → List ℕ
running_metrics retired finds = metric retired_text retired ++ metric finds_text finds

abbrev pub metrics_body : Stats → List ℕ
metrics_body s = commit_metrics s.documents s.place s.base ++ (column_metrics s.columns s.free ++ running_metrics s.retired s.finds)

-- the body that tells a reply as an object
abbrev pub body_of_reply : Reply → List ℕ
body_of_reply (reply.Added place) = number_body (codes "place") place
body_of_reply (reply.Replaced place) = number_body (codes "place") place
body_of_reply (reply.Present place) = fault_body (codes "present") (codes "place") place
body_of_reply reply.Full = error_body (codes "full")
body_of_reply (reply.Deleted place) = number_body (codes "place") place
body_of_reply reply.Absent = error_body (codes "absent")
body_of_reply (reply.Found ids) = ids_body ids
body_of_reply (reply.Count count) = number_body (codes "count") count
body_of_reply (reply.FoundSome count ids) = some_body count ids
body_of_reply (reply.Text place text) = codes "{" ++ text_body place text
body_of_reply (reply.Place place) = number_body (codes "place") place
body_of_reply (reply.Commits commits) = commits_body commits
body_of_reply (reply.Trimmed base) = error_body (codes "trimmed")
body_of_reply (reply.Stats stats) = stats_body stats
body_of_reply (reply.Recycled slice) = number_body (codes "slice") slice
body_of_reply reply.NothingRetired = error_body (codes "nothing")
body_of_reply (reply.Guarded slice pass) = error_body (codes "guarded")
body_of_reply (reply.Tuned count) = number_body (codes "tuned") count
body_of_reply (reply.Tuning fault) = fault_body (codes "tuning") (codes "fault") fault
body_of_reply (reply.Wide needed room) = error_body (codes "wide")
body_of_reply (reply.Query at) = fault_body (codes "syntax") (codes "at") at
body_of_reply (reply.Deep at) = fault_body (codes "deep") (codes "at") at
body_of_reply reply.Spent = error_body (codes "spent")
body_of_reply _ = error_body (codes "memory")

-- the body that tells a reply in a shape: a text with the number of its document, and the engine's numbers in Prometheus' format
abbrev pub body_in_shape : Shape → Reply → List ℕ
body_in_shape shape.Object given = body_of_reply given
body_in_shape (shape.Document id) (reply.Text place text) = document_body id place text
body_in_shape (shape.Document id) given = body_of_reply given
body_in_shape shape.Metrics (reply.Stats stats) = metrics_body stats
body_in_shape shape.Metrics given = body_of_reply given

-- of which kind the body of a reply is
abbrev pub kind_of_reply : Shape → Reply → List ℕ
kind_of_reply shape.Metrics (reply.Stats stats) = codes "text/plain; version=0.0.4"
kind_of_reply form given = codes "application/json"

-- the status, the type and the body of what a response tells
abbrev pub status_of : Outcome → List ℕ
status_of (outcome.Replied form given) = status_of_reply given
status_of (outcome.Refused why) = status_of_cause why

abbrev pub kind_of : Outcome → List ℕ
kind_of (outcome.Replied form given) = kind_of_reply form given
kind_of (outcome.Refused why) = codes "application/json"

abbrev pub body_of : Outcome → List ℕ
body_of (outcome.Replied form given) = body_in_shape form given
body_of (outcome.Refused why) = error_body (word_of_cause why)

-- what stands before the number of the body's length
abbrev pub start_of_head : List ℕ → List ℕ → List ℕ
start_of_head status kind = codes "HTTP/1.1 " ++ (status ++ (codes "\r\nContent-Type: " ++ (kind ++ codes "\r\nContent-Length: ")))

-- what follows that number: a field that tells that the connection is closed, where it is, and the empty line
abbrev pub end_of_head : Bool → List ℕ
end_of_head closing = if closing then codes "\r\nConnection: close\r\n\r\n" else codes "\r\n\r\n"

-- a response: its status line, its fields, and its body with its length
abbrev pub response : Bool → List ℕ → List ℕ → List ℕ → List ℕ
response closing status kind body = start_of_head status kind ++ (decimal (length body) ++ (end_of_head closing ++ body))

-- the response that tells this, and closes the connection or doesn't
unfoldable pub text_of : Bool → Outcome → List ℕ
text_of closing told = response closing (status_of told) (kind_of told) (body_of told)

-- the response may be of any length
abbrev pub is_long : Outcome → Bool
is_long (outcome.Replied form given) = is_list given
is_long (outcome.Refused why) = false
