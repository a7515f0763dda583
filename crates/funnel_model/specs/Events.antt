-- What the definitions read of an event. Where the last line has a `_`, all other kinds of event are silent.
use Rattle.std.specs.Prelude.{ℕ, Bool, true, false, not, ◌&&◌, ◌==◌, Option, Some, None, List, [], if◌then◌else◌}
use Rattle.funnel_model.specs.declared.bit_list.Bit.{Bit}
use Rattle.funnel_model.specs.declared.call.Call.{Call}
use Rattle.funnel_model.specs.declared.call.Call.TheVariants as call
use Rattle.funnel_model.specs.declared.commit.Commit.{Commit}
use Rattle.funnel_model.specs.declared.config.Config.{Config}
use Rattle.funnel_model.specs.declared.event.Event.{Event}
use Rattle.funnel_model.specs.declared.event.Event.TheVariants as event

-- the pass that made the event
abbrev pub pass_of : Event → ℕ
pass_of (event.Take pass slice column) = pass
pass_of (event.Add pass id text slice column bits) = pass
pass_of (event.Drop pass id text slice column) = pass
pass_of (event.Del pass id) = pass
pass_of (event.Move pass id slice column bits) = pass
pass_of (event.Void pass slice column) = pass
pass_of (event.Find pass query) = pass
pass_of (event.End pass) = pass
pass_of (event.Clear pass slice) = pass
pass_of (event.Opened pass slice alone) = pass
pass_of (event.Tune pass config) = pass
pass_of (event.No pass asked) = pass
pass_of (event.Read pass asked) = pass

-- the commit that the event is, if it is one
abbrev pub commit_of : Event → Option Commit
commit_of (event.Add pass id text slice column bits) = Some (record { add = true; id = id })
commit_of (event.Del pass id) = Some (record { add = false; id = id })
commit_of _ = None

-- the number and the text of the document that the event adds
abbrev pub added_by : Event → Option (ℕ × List ℕ)
added_by (event.Add pass id text slice column bits) = Some (id, text)
added_by _ = None

-- whether the event deletes the document with this number, or adds another one in its place
abbrev pub deletes_or_replaces : ℕ → Event → Bool
deletes_or_replaces id (event.Del pass deleted) = deleted == id
deletes_or_replaces id (event.Add pass added text slice column bits) = added == id
deletes_or_replaces id _ = false

-- whether the event takes the document with this number off its column: it deletes the document, adds another one in its place, or moves it
-- to another column
abbrev pub takes_off : ℕ → Event → Bool
takes_off id (event.Del pass deleted) = deleted == id
takes_off id (event.Add pass added text slice column bits) = added == id
takes_off id (event.Move pass moved slice column bits) = moved == id
takes_off id _ = false

-- whether the event moves a document to the claimed column, or leaves that column without one and no call is told so
abbrev pub moves : Event → Bool
moves (event.Move pass id slice column bits) = true
moves (event.Void pass slice column) = true
moves _ = false

-- the configuration that the event gives, if it gives one
abbrev pub tuning_of : Event → Option Config
tuning_of (event.Tune pass config) = Some config
tuning_of _ = None

-- the client's call that the event answers, a refused one included; the other events of a call answer none. A document that a put added
-- is answered as an add
abbrev pub call_of : Event → Option Call
call_of (event.Add pass id text slice column bits) = Some (call.Add id text)
call_of (event.Drop pass id text slice column) = Some (call.Add id text)
call_of (event.Del pass id) = Some (call.Delete id)
call_of (event.Find pass query) = Some (call.Find query)
call_of (event.Opened pass slice alone) = if alone then Some call.Recycle else None
call_of (event.Tune pass config) = Some (call.Tune config)
call_of (event.No pass asked) = Some asked
call_of (event.Read pass asked) = Some asked
call_of _ = None

-- the column of the slice that the event claims
abbrev pub column_taken_in : ℕ → Event → Option ℕ
column_taken_in slice (event.Take pass taken column) = if taken == slice then Some column else None
column_taken_in slice _ = None

-- whether the event is this pass's claim of the column
abbrev pub takes : ℕ → ℕ → ℕ → Event → Bool
takes pass slice column (event.Take taker taken at) = taker == pass && (taken == slice && at == column)
takes pass slice column _ = false

-- the number of the document that the event puts on the column: it adds the document there, or moves it there
abbrev pub put_on : ℕ → ℕ → Event → Option ℕ
put_on slice column (event.Add pass id text added at bits) = if added == slice && at == column then Some id else None
put_on slice column (event.Move pass id moved at bits) = if moved == slice && at == column then Some id else None
put_on slice column _ = None

-- whether the event leaves the column without a document: it drops the one that was to be added there, or voids the column
abbrev pub drops_on : ℕ → ℕ → Event → Bool
drops_on slice column (event.Drop pass id text dropped at) = dropped == slice && at == column
drops_on slice column (event.Void pass voided at) = voided == slice && at == column
drops_on slice column _ = false

-- the bits that the event adds in the slice
abbrev pub bits_added_in : ℕ → Event → List Bit
bits_added_in slice (event.Add pass id text added column bits) = if added == slice then bits else []
bits_added_in slice (event.Move pass id moved column bits) = if moved == slice then bits else []
bits_added_in slice _ = []

-- the bits of the document that the event puts on the column
abbrev pub bits_on : ℕ → ℕ → Event → List Bit
bits_on slice column (event.Add pass id text added at bits) = if added == slice && at == column then bits else []
bits_on slice column (event.Move pass id moved at bits) = if moved == slice && at == column then bits else []
bits_on slice column _ = []

-- whether the event claims a column of the slice, puts a document on one, or leaves one without
abbrev pub fills : ℕ → Event → Bool
fills slice (event.Take pass taken column) = taken == slice
fills slice (event.Add pass id text added column bits) = added == slice
fills slice (event.Drop pass id text dropped column) = dropped == slice
fills slice (event.Move pass id moved column bits) = moved == slice
fills slice (event.Void pass voided column) = voided == slice
fills slice _ = false

-- whether the event begins to clear the slice
abbrev pub clears : ℕ → Event → Bool
clears slice (event.Clear pass cleared) = cleared == slice
clears slice _ = false

-- whether the event makes all columns of the slice unclaimed
abbrev pub opens : ℕ → Event → Bool
opens slice (event.Opened pass opened alone) = opened == slice
opens slice _ = false

-- whether the event begins or ends a find of the pass
abbrev pub finds_or_ends : ℕ → Event → Bool
finds_or_ends pass (event.Find finder query) = finder == pass
finds_or_ends pass (event.End ender) = ender == pass
finds_or_ends pass _ = false

-- whether the event's pass is in the middle of a call after it
abbrev pub leaves_open : Event → Bool
leaves_open (event.Take pass slice column) = true
leaves_open (event.Find pass query) = true
leaves_open (event.Clear pass slice) = true
leaves_open (event.Opened pass slice alone) = not alone
leaves_open _ = false

-- the event that has to come next, where there is one: a slice that was opened for an add is taken at once
abbrev pub next_after : Event → Option Event
next_after (event.Opened pass slice alone) = if alone then None else Some (event.Take pass slice 0)
next_after _ = None
